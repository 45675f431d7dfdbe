-- A message that a node takes.
use Rattle.std.proofs.Common.{◌≡◌, ℕ, ◌+◌, ◌<◌, ◌≤◌, true, false, cond, not, ◌&&◌, ◌||◌, ◌==◌, List, [], ◌∷◌, ◌++◌, is_some, nat_lt, nat_le, flat_map, slice_set, refl, ap, sym, ◌∙◌, subst, ◌⊎◌, ⊎_elim, inl, inr, arith, le_refl, le_of_eq, append-nil, append_assoc}
use Rattle.partition_table.specs.Rows.{is_among, is_primary, is_in, is_backup, is_eligible, backups_of, is_empty}
use Rattle.partition_protocol.specs.Messages.{Message, NewRow, Sync, Effect, Bridge, Ack, Joined as JoinedMessage, Freeze, Frozen as FrozenMessage, Sent, Packet}
use Rattle.partition_protocol.specs.Took.{Adopted, Synced, Applied, Bridged, Acked, Frozen as TookFrozen, Already, Gap, Other, Stale}
use Rattle.partition_protocol.specs.Node.{Pair, Node, no_pair, with_ack, acked, settled, still_held, now_released}
use Rattle.partition_protocol.specs.CatchUp.{catch_up}
use Rattle.partition_protocol.specs.Adoption.{adopted_row, sent_on_adopting}
use Rattle.partition_protocol.specs.Replica.{with_pair, Step, unanswered, acknowledging, to_one, is_newer, on_row, after_row, sent_by_row, is_ahead, sync_backup, with_sent, on_sync, bridge_backup, on_bridge, on_effect, joined_note, frozen_note, on_ack, on_freeze, taking}
use Rattle.grid_base.specs.Objects.{Object}
use Rattle.partition_protocol.specs.History.{Base}
use Rattle.partition_protocol.specs.World.{World, bases_after}
use Rattle.partition_protocol.specs.Links.{packets_from}
use Rattle.partition_table.specs.declared.Row.{Row}
use Rattle.partition_protocol.proofs.Lists.{In, Every, every_append, set_get_same, set_twice, set_itself, cases, on_if, on_cond}
use Rattle.partition_protocol.proofs.Histories.{IsBase}
use Rattle.partition_protocol.proofs.Invariant.{Shape, shape, NodeAt, IsMember, IsUpTo, HasAcked, HasUpTo, HasJoined, PacketOk, NodeOk, Frame, Invariant}
use Rattle.partition_protocol.proofs.RowFacts.{both_left, both_right, either, or_false_left, not_false, not_true, less, not_less, is_not_less, same_number}
use Rattle.partition_protocol.proofs.Forward.{left_later}
use Rattle.partition_protocol.proofs.SameRow.{inv_packets, rise, put_aside, acks_with}
use Rattle.partition_protocol.proofs.Release.{settle}
use Rattle.partition_protocol.proofs.Adopt.{adopts, adopted_known}
use Rattle.partition_protocol.proofs.Sends.{SentOk, sent_packets, adopting_ok, frozen_ok, empty_nil}

pub packets_append : (from : ℕ) (ss ts : List Sent) → packets_from from (ss ++ ts) ≡ packets_from from ss ++ packets_from from ts
packets_append from [] ts = refl
packets_append from (s ∷ ss) ts = ap (λ ps. record { from = from; to = s.to; message = s.message } ∷ ps) (packets_append from ss ts)

module _ {C State : Type 0} (o : Object C State) (w : World C) (made : List Shape) (m : ℕ) (n : Node) (at : NodeAt w.nodes m n) (lives : is_among w.crashed m ≡ false) where
  -- the node is a, and then a with what it may release released
  abbrev pub Here : Node → List Base → List Packet → Type 0
  Here a bs ps = Invariant o (record w { nodes = slice_set w.nodes m a; packets = ps; recorded = record w.recorded { bases = bs } }) made

  abbrev pub Ends : Node → List Sent → List Base → List Packet → Type 0
  Ends a ss bs ps = Invariant o (record w { nodes = slice_set w.nodes m (settled a); packets = ps ++ packets_from m ss; released = w.released ++ now_released a a.held; recorded = record w.recorded { bases = bs } }) made

  pub at_here : (a : Node) → NodeAt (slice_set w.nodes m a) m a
  at_here a = set_get_same w.nodes m a n at

  pub finish : (a : Node) (ss : List Sent) (bs : List Base) (ps : List Packet) → Here a bs ps
      → (Frame (record w { nodes = slice_set w.nodes m (settled a); packets = ps; released = w.released ++ now_released a a.held; recorded = record w.recorded { bases = bs } }) made
      → Every (SentOk (record w { nodes = slice_set w.nodes m (settled a); packets = ps; released = w.released ++ now_released a a.held; recorded = record w.recorded { bases = bs } }) made m) ss)
      → Ends a ss bs ps
  finish a ss bs ps h f =
      let done : Invariant o (record w { nodes = slice_set (slice_set w.nodes m a) m (settled a); packets = ps; released = w.released ++ now_released a a.held; recorded = record w.recorded { bases = bs } }) made =
      settle o (record w { nodes = slice_set w.nodes m a; packets = ps; recorded = record w.recorded { bases = bs } }) made h m a (at_here a) lives in
      let once : Invariant o (record w { nodes = slice_set w.nodes m (settled a); packets = ps; released = w.released ++ now_released a a.held; recorded = record w.recorded { bases = bs } }) made =
      subst (λ ns. Invariant o (record w { nodes = ns; packets = ps; released = w.released ++ now_released a a.held; recorded = record w.recorded { bases = bs } }) made) (set_twice w.nodes m a (settled a)) done in
      inv_packets o (record w { nodes = slice_set w.nodes m (settled a); packets = ps; released = w.released ++ now_released a a.held; recorded = record w.recorded { bases = bs } }) made (ps ++ packets_from m ss) once
      (every_append (λ (p : Packet). PacketOk (slice_set w.nodes m (settled a)) bs made w.crashed p.from p.message) ps (packets_from m ss) once.frame.packets
      (sent_packets (record w { nodes = slice_set w.nodes m (settled a); packets = ps; released = w.released ++ now_released a a.held; recorded = record w.recorded { bases = bs } }) made m ss (f once.frame)))

  pub ends_quiet : (a : Node) (bs : List Base) (ps : List Packet) → Here a bs ps → Ends a [] bs ps
  ends_quiet a bs ps h = finish a [] bs ps h (λ f. tt)

  pub ends_ack : (to : ℕ) (a : Node) (bs : List Base) (ps : List Packet) → Here a bs ps → IsBase bs a.pair.version → Ends a (to_one to (Ack a.pair.version a.pair.count)) bs ps
  ends_ack to a bs ps h b = finish a (to_one to (Ack a.pair.version a.pair.count)) bs ps h (λ f. ((b, has), tt))
    where
      has : HasAcked (slice_set w.nodes m (settled a)) bs made a.pair.version a.pair.count m
      has y e = let same : settled a ≡ y = cc (at_here (settled a), e) in subst (λ (z : Node). HasUpTo bs made a.pair.version a.pair.count m z) same (inl (refl, le_refl a.pair.count))

  pub here_rise : (a : Node) (bs : List Base) (ps : List Packet) (v c : ℕ) → Here a bs ps → is_primary a.known m ≡ false → IsBase bs v → v ≤ a.known.version → IsUpTo (slice_set w.nodes m a) v c
      → ((a.pair.version ≡ v) × (a.pair.count ≤ c)) ⊎ ((a.pair.version < v) × (v ≡ a.known.version) × IsMember made v m) → Here (with_pair a v c) bs ps
  here_rise a bs ps v c h p b l u may =
      subst (λ ns. Invariant o (record w { nodes = ns; packets = ps; recorded = record w.recorded { bases = bs } }) made) (set_twice w.nodes m a (with_pair a v c))
      (rise o (record w { nodes = slice_set w.nodes m a; packets = ps; recorded = record w.recorded { bases = bs } }) made h m a (at_here a) v c p b l u may)

  pub pair_began : (a : Node) (bs : List Base) → NodeOk bs made m a → 1 ≤ a.pair.version → IsBase bs a.pair.version
  pair_began a bs ok l = ⊎_elim (λ e. let z : a.pair.version ≡ 0 = ap (λ (p : Pair). p.version) e in absurd (omega (arith, l, z))) (λ h. h.0) ok.pair

  pub row_positive : (a : Node) (bs : List Base) (ps : List Packet) → Here a bs ps → 1 ≤ a.known.version
  row_positive a bs ps h = h.frame.rows.positive (shape a.known) (h.frame.nodes m a (at_here a)).known

  -- the part of a Sync or Bridge after the row
  pub sync_ends : (from : ℕ) (row : Row) (c : ℕ) (a : Node) (bs : List Base) (ps : List Packet) → Here a bs ps → a.known.version ≡ row.version → is_backup a.known m ≡ true → IsBase bs row.version → IsUpTo (slice_set w.nodes m a) row.version c
      → Ends (sync_backup from row c a).node (sync_backup from row c a).sent bs ps
  sync_ends from row c a bs ps h k b i u =
      on_cond (λ (s : Step). Ends s.node s.sent bs ps) (is_ahead row c a) (acknowledging (with_pair a row.version c) from Synced) (acknowledging a from Already) ahead still
    where
      p : is_primary a.known m ≡ false
      p = not_true (is_primary a.known m) (both_left (not (is_primary a.known m)) (is_in a.known m) b)

      there : IsMember made row.version m
      there = (shape a.known, (h.frame.nodes m a (at_here a)).known, k, both_right (not (is_primary a.known m)) (is_in a.known m) b)

      may : (nat_lt a.pair.version row.version ≡ true) ⊎ (((a.pair.version == row.version) && nat_lt a.pair.count c) ≡ true) → ((a.pair.version ≡ row.version) × (a.pair.count ≤ c)) ⊎ ((a.pair.version < row.version) × (row.version ≡ a.known.version) × IsMember made row.version m)
      may (inl e) = inr (less a.pair.version row.version e, sym k, there)
      may (inr e) = let l = less a.pair.count c (both_right (a.pair.version == row.version) (nat_lt a.pair.count c) e) in
          inl (same_number a.pair.version row.version (both_left (a.pair.version == row.version) (nat_lt a.pair.count c) e), omega (arith, l))

      ahead : is_ahead row c a ≡ true → Ends (with_pair a row.version c) (to_one from (Ack row.version c)) bs ps
      ahead e = ends_ack from (with_pair a row.version c) bs ps
          (here_rise a bs ps row.version c h p i (le_of_eq (sym k)) u (may (either (nat_lt a.pair.version row.version) ((a.pair.version == row.version) && nat_lt a.pair.count c) e))) i

      still : is_ahead row c a ≡ false → Ends a (to_one from (Ack a.pair.version a.pair.count)) bs ps
      still e =
          let l = not_less a.pair.version row.version (or_false_left (nat_lt a.pair.version row.version) ((a.pair.version == row.version) && nat_lt a.pair.count c) e) in
          let z = row_positive a bs ps h in
          ends_ack from a bs ps h (pair_began a bs (h.frame.nodes m a (at_here a)) (omega (arith, l, z, k)))

  pub bridge_ends : (from : ℕ) (row : Row) (e k : ℕ) (a : Node) (bs : List Base) (ps : List Packet) → Here a bs ps → a.known.version ≡ row.version → is_backup a.known m ≡ true → IsBase bs row.version → IsUpTo (slice_set w.nodes m a) row.version k → e < row.version
      → Ends (bridge_backup from row e k a).node (bridge_backup from row e k a).sent bs ps
  bridge_ends from row e k a bs ps h v b i u older =
      on_cond (λ (s : Step). Ends s.node s.sent bs ps) (a.pair.version == row.version) (acknowledging a from Already) (cond ((a.pair.version == e) && (a.pair.count == k)) (acknowledging (with_pair a row.version k) from Bridged) (unanswered a Gap)) already
      (λ d. on_cond (λ (s : Step). Ends s.node s.sent bs ps) ((a.pair.version == e) && (a.pair.count == k)) (acknowledging (with_pair a row.version k) from Bridged) (unanswered a Gap) bridged (λ g. ends_quiet a bs ps h))
    where
      p : is_primary a.known m ≡ false
      p = not_true (is_primary a.known m) (both_left (not (is_primary a.known m)) (is_in a.known m) b)

      there : IsMember made row.version m
      there = (shape a.known, (h.frame.nodes m a (at_here a)).known, v, both_right (not (is_primary a.known m)) (is_in a.known m) b)

      already : (a.pair.version == row.version) ≡ true → Ends a (to_one from (Ack a.pair.version a.pair.count)) bs ps
      already d = ends_ack from a bs ps h (subst (λ u. IsBase bs u) (sym (same_number a.pair.version row.version d)) i)

      bridged : ((a.pair.version == e) && (a.pair.count == k)) ≡ true → Ends (with_pair a row.version k) (to_one from (Ack row.version k)) bs ps
      bridged d =
          let s = same_number a.pair.version e (both_left (a.pair.version == e) (a.pair.count == k) d) in
          ends_ack from (with_pair a row.version k) bs ps (here_rise a bs ps row.version k h p i (le_of_eq (sym v)) u (inr (omega (arith, s, older), sym v, there))) i

  -- where the node after the message is a, and it sent ss
  abbrev pub Lands : Node → List Sent → Type 0
  Lands a ss = Ends a ss (bases_after m n a w.recorded.bases) w.packets

  module _ (inv : Invariant o w made) where
    pub here : Here n w.recorded.bases w.packets
    here = subst (λ ns. Invariant o (record w { nodes = ns }) made) (sym (set_itself w.nodes m n at)) inv

    pub same_bases : (a : Node) → nat_lt n.known.version a.known.version ≡ false → bases_after m n a w.recorded.bases ≡ w.recorded.bases
    same_bases a e = rw e refl

    pub not_newer : nat_lt n.known.version n.known.version ≡ false
    not_newer = is_not_less n.known.version n.known.version (le_refl n.known.version)

    -- a node that knows the same row
    pub lands : (a : Node) (ss : List Sent) → nat_lt n.known.version a.known.version ≡ false → Ends a ss w.recorded.bases w.packets → Lands a ss
    lands a ss e h = subst (λ bs. Ends a ss bs w.packets) (sym (same_bases a e)) h

    pub lands_quiet : Lands n []
    lands_quiet = lands n [] not_newer (ends_quiet n w.recorded.bases w.packets here)

    -- it adopts a newer row, and sends what that brings
    module _ (row : Row) (newer : is_newer row n ≡ true) (msg : Message) (from : ℕ) (good : PacketOk w.nodes w.recorded.bases made w.crashed from msg) (row_in : In (shape row) made) where
      abbrev pub next : Node
      next = adopted_row m row n

      abbrev pub bs : List Base
      bs = bases_after m n next w.recorded.bases

      abbrev pub ps : List Packet
      ps = w.packets ++ packets_from m (sent_on_adopting m next)

      pub with_it : Invariant o (record w { packets = record { from = from; to = m; message = msg } ∷ w.packets }) made
      with_it = inv_packets o w made (record { from = from; to = m; message = msg } ∷ w.packets) inv (good, inv.frame.packets)

      pub adopted : Invariant o (record w { nodes = slice_set w.nodes m next; packets = record { from = from; to = m; message = msg } ∷ w.packets; recorded = record w.recorded { bases = bs } }) made
      adopted = adopts o (record w { packets = record { from = from; to = m; message = msg } ∷ w.packets }) made with_it m n at lives row row_in newer

      pub still_good : PacketOk (slice_set w.nodes m next) bs made w.crashed from msg
      still_good = adopted.frame.packets.0

      pub sends_ok : Every (SentOk (record w { nodes = slice_set w.nodes m next; recorded = record w.recorded { bases = bs } }) made m) (sent_on_adopting m next)
      sends_ok = on_cond (λ ss. Every (SentOk (record w { nodes = slice_set w.nodes m next; recorded = record w.recorded { bases = bs } }) made m) ss) (is_primary next.known m) (flat_map (catch_up next) (backups_of next.known)) []
          (λ e. adopting_ok (record w { nodes = slice_set w.nodes m next; packets = record { from = from; to = m; message = msg } ∷ w.packets; recorded = record w.recorded { bases = bs } }) made adopted.frame m next (at_here next) e) (λ e. tt)

      pub here_next : Here next bs ps
      here_next = inv_packets o (record w { nodes = slice_set w.nodes m next; packets = record { from = from; to = m; message = msg } ∷ w.packets; recorded = record w.recorded { bases = bs } }) made ps adopted
          (every_append (λ (p : Packet). PacketOk (slice_set w.nodes m next) bs made w.crashed p.from p.message) w.packets (packets_from m (sent_on_adopting m next)) adopted.frame.packets.1
          (sent_packets (record w { nodes = slice_set w.nodes m next; recorded = record w.recorded { bases = bs } }) made m (sent_on_adopting m next) sends_ok))

      -- ends after more was sent
      pub with_more : (a : Node) (ss : List Sent) → bases_after m n a w.recorded.bases ≡ bs → Ends a ss bs ps → Lands a (sent_on_adopting m next ++ ss)
      with_more a ss e h =
          let whole : ps ++ packets_from m ss ≡ w.packets ++ packets_from m (sent_on_adopting m next ++ ss) =
          append_assoc w.packets (packets_from m (sent_on_adopting m next)) (packets_from m ss) ∙ ap (λ ks. w.packets ++ ks) (sym (packets_append m (sent_on_adopting m next) ss)) in
          subst (λ ks. Invariant o (record w { nodes = slice_set w.nodes m (settled a); packets = w.packets ++ packets_from m (sent_on_adopting m next ++ ss); released = w.released ++ now_released a a.held; recorded = record w.recorded { bases = ks } }) made) (sym e)
          (subst (λ ks. Invariant o (record w { nodes = slice_set w.nodes m (settled a); packets = ks; released = w.released ++ now_released a a.held; recorded = record w.recorded { bases = bs } }) made) whole h)

    pub lands_row : (row : Row) → In (shape row) made → Lands (on_row m row n).node (on_row m row n).sent
    lands_row row i = on_cond (λ (s : Step). Lands s.node s.sent) (is_newer row n) (record { node = adopted_row m row n; sent = sent_on_adopting m (adopted_row m row n); took = Adopted }) (unanswered n Stale)
        (λ e. subst (λ ks. Invariant o (record w { nodes = slice_set w.nodes m (settled (adopted_row m row n)); packets = ks; released = w.released ++ now_released (adopted_row m row n) (adopted_row m row n).held; recorded = record w.recorded { bases = bases_after m n (adopted_row m row n) w.recorded.bases } }) made)
        (append-nil (w.packets ++ packets_from m (sent_on_adopting m (adopted_row m row n))))
        (ends_quiet (adopted_row m row n) (bases_after m n (adopted_row m row n) w.recorded.bases) (w.packets ++ packets_from m (sent_on_adopting m (adopted_row m row n))) (here_next row e (NewRow row) m i i)))
        (λ e. lands_quiet)

    -- a Sync or a Bridge, whose later part is rest
    module _ (row : Row) (msg : Message) (from : ℕ) (good : PacketOk w.nodes w.recorded.bases made w.crashed from msg) (row_in : In (shape row) made) (not_older : nat_lt row.version n.known.version ≡ false)
        (rest : Node → Step) (rest_known : (a : Node) → (rest a).node.known ≡ a.known)
        (rest_ends : (a : Node) (bs : List Base) (ps : List Packet) → Here a bs ps → a.known.version ≡ row.version → is_backup a.known m ≡ true → PacketOk (slice_set w.nodes m a) bs made w.crashed from msg → Ends (rest a).node (rest a).sent bs ps) where
      abbrev pub rested : Node → List Sent → Step
      rested a more = with_sent more (cond (is_backup a.known m) (rest a) (unanswered a Other))

      pub rested_ends : (a : Node) (bs : List Base) (ps : List Packet) → Here a bs ps → a.known.version ≡ row.version → PacketOk (slice_set w.nodes m a) bs made w.crashed from msg
          → Ends (rested a []).node (rested a []).sent bs ps
      rested_ends a bs ps h v g = on_cond (λ (s : Step). Ends s.node s.sent bs ps) (is_backup a.known m) (rest a) (unanswered a Other) (λ b. rest_ends a bs ps h v b g) (λ b. ends_quiet a bs ps h)

      pub rested_known : (a : Node) → (rested a []).node.known ≡ a.known
      rested_known a = on_cond (λ (s : Step). s.node.known ≡ a.known) (is_backup a.known m) (rest a) (unanswered a Other) (λ b. rest_known a) (λ b. refl)

      pub base_known : (a b : Node) → a.known ≡ b.known → bases_after m n a w.recorded.bases ≡ bases_after m n b w.recorded.bases
      base_known a b e = ap (λ (k : Row). cond (is_newer k n && is_primary k m) (record { version = k.version; reset = k.reset; pair = cond (nat_lt n.pair.version k.reset) no_pair n.pair } ∷ w.recorded.bases) w.recorded.bases) e

      pub lands_newer : is_newer row n ≡ true → Lands (rested (adopted_row m row n) (sent_on_adopting m (adopted_row m row n))).node (rested (adopted_row m row n) (sent_on_adopting m (adopted_row m row n))).sent
      lands_newer e =
          let a = adopted_row m row n in
          with_more row e msg from good row_in (rested a []).node (rested a []).sent (base_known (rested a []).node a (rested_known a))
          (rested_ends a (bases_after m n a w.recorded.bases) (w.packets ++ packets_from m (sent_on_adopting m a)) (here_next row e msg from good row_in) (ap (λ (k : Row). k.version) (adopted_known m row n)) (still_good row e msg from good row_in))

      pub lands_same : is_newer row n ≡ false → Lands (rested n []).node (rested n []).sent
      lands_same e =
          let v : n.known.version ≡ row.version = (let a = not_less n.known.version row.version e in let b = not_less row.version n.known.version not_older in omega (arith, a, b)) in
          let same : nat_lt n.known.version (rested n []).node.known.version ≡ false = subst (λ (k : Row). nat_lt n.known.version k.version ≡ false) (sym (rested_known n)) not_newer in
          let good' : PacketOk (slice_set w.nodes m n) w.recorded.bases made w.crashed from msg = subst (λ ns. PacketOk ns w.recorded.bases made w.crashed from msg) (sym (set_itself w.nodes m n at)) good in
          lands (rested n []).node (rested n []).sent same (rested_ends n w.recorded.bases w.packets here v good')

      pub lands_rest : Lands (rested (after_row m row n) (sent_by_row m row n)).node (rested (after_row m row n) (sent_by_row m row n)).sent
      lands_rest = go (cases (is_newer row n))
        where
          go : (is_newer row n ≡ true) ⊎ (is_newer row n ≡ false) → Lands (rested (after_row m row n) (sent_by_row m row n)).node (rested (after_row m row n) (sent_by_row m row n)).sent
          go (inl e) =
              let after : after_row m row n ≡ adopted_row m row n = rw (e, after_row) refl in
              let sent : sent_by_row m row n ≡ sent_on_adopting m (adopted_row m row n) = rw (e, sent_by_row) refl in
              subst (λ a. Lands (rested a (sent_by_row m row n)).node (rested a (sent_by_row m row n)).sent) (sym after)
              (subst (λ ss. Lands (rested (adopted_row m row n) ss).node (rested (adopted_row m row n) ss).sent) (sym sent) (lands_newer e))
          go (inr e) =
              let after : after_row m row n ≡ n = rw (e, after_row) refl in
              let sent : sent_by_row m row n ≡ [] = rw (e, sent_by_row) refl in
              subst (λ a. Lands (rested a (sent_by_row m row n)).node (rested a (sent_by_row m row n)).sent) (sym after)
              (subst (λ ss. Lands (rested n ss).node (rested n ss).sent) (sym sent) (lands_same e))

    pub lands_sync : (from : ℕ) (row : Row) (c : ℕ) → PacketOk w.nodes w.recorded.bases made w.crashed from (Sync row c) → Lands (on_sync m from row c n).node (on_sync m from row c n).sent
    lands_sync from row c g =
        on_cond (λ (s : Step). Lands s.node s.sent) (nat_lt row.version n.known.version) (unanswered n Other) (with_sent (sent_by_row m row n) (cond (is_backup (after_row m row n).known m) (sync_backup from row c (after_row m row n)) (unanswered (after_row m row n) Other)))
        (λ e. lands_quiet)
        (λ e. lands_rest row (Sync row c) from g g.0 e (sync_backup from row c) known (λ a bs ps h v b k. sync_ends from row c a bs ps h v b k.1 k.2))
      where
        known : (a : Node) → (sync_backup from row c a).node.known ≡ a.known
        known a = on_cond (λ (s : Step). s.node.known ≡ a.known) (is_ahead row c a) (acknowledging (with_pair a row.version c) from Synced) (acknowledging a from Already) (λ e. refl) (λ e. refl)

    pub lands_bridge : (from : ℕ) (row : Row) (e k : ℕ) → PacketOk w.nodes w.recorded.bases made w.crashed from (Bridge row e k) → Lands (on_bridge m from row e k n).node (on_bridge m from row e k n).sent
    lands_bridge from row e k g =
        on_cond (λ (s : Step). Lands s.node s.sent) (nat_lt row.version n.known.version) (unanswered n Other) (with_sent (sent_by_row m row n) (cond (is_backup (after_row m row n).known m) (bridge_backup from row e k (after_row m row n)) (unanswered (after_row m row n) Other)))
        (λ d. lands_quiet)
        (λ d. lands_rest row (Bridge row e k) from g g.0 d (bridge_backup from row e k) known (λ a bs ps h v b j. bridge_ends from row e k a bs ps h v b (j.4.0, j.4.1, j.4.2) j.1 j.3))
      where
        known : (a : Node) → (bridge_backup from row e k a).node.known ≡ a.known
        known a = on_cond (λ (s : Step). s.node.known ≡ a.known) (a.pair.version == row.version) (acknowledging a from Already) (cond ((a.pair.version == e) && (a.pair.count == k)) (acknowledging (with_pair a row.version k) from Bridged) (unanswered a Gap)) (λ d. refl)
            (λ d. on_cond (λ (s : Step). s.node.known ≡ a.known) ((a.pair.version == e) && (a.pair.count == k)) (acknowledging (with_pair a row.version k) from Bridged) (unanswered a Gap) (λ f. refl) (λ f. refl))

    pub lands_effect : (from v i : ℕ) → PacketOk w.nodes w.recorded.bases made w.crashed from (Effect v i) → Lands (on_effect m from v i n).node (on_effect m from v i n).sent
    lands_effect from v i g =
        on_cond (λ (s : Step). Lands s.node s.sent) (not (is_backup n.known m && (n.pair.version == v))) (unanswered n Other) (cond (i == n.pair.count + 1) (acknowledging (with_pair n v i) from Applied) (cond (nat_le i n.pair.count) (acknowledging n from Already) (unanswered n Gap)))
        (λ e. lands_quiet)
        (λ e. let t = not_false (is_backup n.known m && (n.pair.version == v)) e in by_number (both_left (is_backup n.known m) (n.pair.version == v) t) (same_number n.pair.version v (both_right (is_backup n.known m) (n.pair.version == v) t)))
      where
        level : is_backup n.known m ≡ true → n.pair.version ≡ v → v ≤ n.known.version
        level b s = ⊎_elim (λ z. let y : n.pair.version ≡ 0 = ap (λ (p : Pair). p.version) z in omega (arith, y, s)) (λ h. omega (arith, h.1, s)) (inv.frame.nodes m n at).pair

        applied : is_backup n.known m ≡ true → n.pair.version ≡ v → (i == n.pair.count + 1) ≡ true → Lands (with_pair n v i) (to_one from (Ack v i))
        applied b s e =
            let up : IsUpTo (slice_set w.nodes m n) v i = subst (λ ns. IsUpTo ns v i) (sym (set_itself w.nodes m n at)) g.1 in
            let j = same_number i (n.pair.count + 1) e in
            lands (with_pair n v i) (to_one from (Ack v i)) not_newer (ends_ack from (with_pair n v i) w.recorded.bases w.packets
            (here_rise n w.recorded.bases w.packets v i here (not_true (is_primary n.known m) (both_left (not (is_primary n.known m)) (is_in n.known m) b)) g.0 (level b s) up (inl (s, omega (arith, j)))) g.0)

        again : n.pair.version ≡ v → Lands n (to_one from (Ack n.pair.version n.pair.count))
        again s = lands n (to_one from (Ack n.pair.version n.pair.count)) not_newer (ends_ack from n w.recorded.bases w.packets here (subst (λ u. IsBase w.recorded.bases u) (sym s) g.0))

        by_number : is_backup n.known m ≡ true → n.pair.version ≡ v → Lands (cond (i == n.pair.count + 1) (acknowledging (with_pair n v i) from Applied) (cond (nat_le i n.pair.count) (acknowledging n from Already) (unanswered n Gap))).node
            (cond (i == n.pair.count + 1) (acknowledging (with_pair n v i) from Applied) (cond (nat_le i n.pair.count) (acknowledging n from Already) (unanswered n Gap))).sent
        by_number b s = on_cond (λ (t : Step). Lands t.node t.sent) (i == n.pair.count + 1) (acknowledging (with_pair n v i) from Applied) (cond (nat_le i n.pair.count) (acknowledging n from Already) (unanswered n Gap)) (applied b s)
            (λ e. on_cond (λ (t : Step). Lands t.node t.sent) (nat_le i n.pair.count) (acknowledging n from Already) (unanswered n Gap) (λ f. again s) (λ f. lands_quiet))

    -- a step aside, with the packet at hand in flight as it goes, and then without it
    pub drop_first : (a : Node) (ss : List Sent) (bs : List Base) (p : Packet) (ps : List Packet) → Ends a ss bs (p ∷ ps) → Ends a ss bs ps
    drop_first a ss bs p ps h = inv_packets o (record w { nodes = slice_set w.nodes m (settled a); packets = (p ∷ ps) ++ packets_from m ss; released = w.released ++ now_released a a.held; recorded = record w.recorded { bases = bs } }) made (ps ++ packets_from m ss) h h.frame.packets.1

    module _ (from : ℕ) (v c : ℕ) (g : PacketOk w.nodes w.recorded.bases made w.crashed from (Ack v c)) (p : is_primary n.known m ≡ true) (k : n.known.version ≡ v) (b : is_backup n.known from ≡ true) where
      abbrev pub acked_node : Node
      acked_node = record n { acks = with_ack from c n.acks }

      abbrev pub ack_packet : Packet
      ack_packet = record { from = from; to = m; message = Ack v c }

      pub has : HasAcked w.nodes w.recorded.bases made n.known.version c from
      has = subst (λ u. HasAcked w.nodes w.recorded.bases made u c from) (sym k) g.1

      pub here_acked : Here acked_node w.recorded.bases (ack_packet ∷ w.packets)
      here_acked =
          let i : Invariant o (record w { nodes = slice_set w.nodes m acked_node }) made =
          put_aside o w made inv m n at (with_ack from c n.acks) n.frozen (λ z. z) (acks_with w.nodes w.recorded.bases made n.known.version from c n.acks has (inv.frame.acks m n at).taken) in
          let with_it : Invariant o (record w { packets = ack_packet ∷ w.packets }) made = inv_packets o w made (ack_packet ∷ w.packets) inv (g, inv.frame.packets) in
          put_aside o (record w { packets = ack_packet ∷ w.packets }) made with_it m n at (with_ack from c n.acks) n.frozen (λ z. z) (acks_with w.nodes w.recorded.bases made n.known.version from c n.acks has (inv.frame.acks m n at).taken)

      pub joined_sent : (service : ℕ) → (f : Frame (record w { nodes = slice_set w.nodes m (settled acked_node); packets = ack_packet ∷ w.packets; released = w.released ++ now_released acked_node acked_node.held; recorded = record w.recorded { bases = w.recorded.bases } }) made)
          → Every (SentOk (record w { nodes = slice_set w.nodes m (settled acked_node); packets = ack_packet ∷ w.packets; released = w.released ++ now_released acked_node acked_node.held; recorded = record w.recorded { bases = w.recorded.bases } }) made m) (joined_note service from n)
      joined_sent service f =
          on_if (λ ss. Every (SentOk (record w { nodes = slice_set w.nodes m (settled acked_node); packets = ack_packet ∷ w.packets; released = w.released ++ now_released acked_node acked_node.held; recorded = record w.recorded { bases = w.recorded.bases } }) made m) ss)
          (is_some (acked n from) || is_eligible n.known from) [] (to_one service (JoinedMessage n.known.version from)) tt ((based, member, joined), tt)
        where
          ack_ok : IsBase w.recorded.bases v × HasAcked (slice_set w.nodes m (settled acked_node)) w.recorded.bases made v c from
          ack_ok = f.packets.0

          based : IsBase w.recorded.bases n.known.version
          based = subst (λ u. IsBase w.recorded.bases u) (sym k) ack_ok.0

          member : IsMember made n.known.version from
          member = (shape n.known, (inv.frame.nodes m n at).known, refl, both_right (not (is_primary n.known from)) (is_in n.known from) b)

          of_has : (y : Node) → HasUpTo w.recorded.bases made v c from y → (y.pair.version ≡ n.known.version) ⊎ (n.known.version < y.known.version)
          of_has y (inl h) = inl (h.0 ∙ sym k)
          of_has y (inr l) = inr (subst (λ u. u < y.known.version) (sym k) (left_later w.recorded.bases made v from y.known.version l))

          joined : HasJoined (slice_set w.nodes m (settled acked_node)) n.known.version from
          joined y a = of_has y (ack_ok.1 y a)

      pub frozen_sent : (service : ℕ) → (f : Frame (record w { nodes = slice_set w.nodes m (settled acked_node); packets = ack_packet ∷ w.packets; released = w.released ++ now_released acked_node acked_node.held; recorded = record w.recorded { bases = w.recorded.bases } }) made)
          → Every (SentOk (record w { nodes = slice_set w.nodes m (settled acked_node); packets = ack_packet ∷ w.packets; released = w.released ++ now_released acked_node acked_node.held; recorded = record w.recorded { bases = w.recorded.bases } }) made m) (frozen_note service acked_node (settled acked_node))
      frozen_sent service f =
          on_cond (λ ss. Every (SentOk (record w { nodes = slice_set w.nodes m (settled acked_node); packets = ack_packet ∷ w.packets; released = w.released ++ now_released acked_node acked_node.held; recorded = record w.recorded { bases = w.recorded.bases } }) made m) ss)
          (n.frozen && not (is_empty n.held) && is_empty (still_held acked_node n.held)) (to_one service (FrozenMessage n.known.version)) [] note (λ e. tt)
        where
          note : (n.frozen && not (is_empty n.held) && is_empty (still_held acked_node n.held)) ≡ true
              → Every (SentOk (record w { nodes = slice_set w.nodes m (settled acked_node); packets = ack_packet ∷ w.packets; released = w.released ++ now_released acked_node acked_node.held; recorded = record w.recorded { bases = w.recorded.bases } }) made m) (to_one service (FrozenMessage n.known.version))
          note e = (
            frozen_ok (record w { nodes = slice_set w.nodes m (settled acked_node); packets = ack_packet ∷ w.packets; released = w.released ++ now_released acked_node acked_node.held; recorded = record w.recorded { bases = w.recorded.bases } }) made f m (settled acked_node) (at_here (settled acked_node)) p
                (both_left n.frozen (not (is_empty n.held)) (both_left (n.frozen && not (is_empty n.held)) (is_empty (still_held acked_node n.held)) e))
                (empty_nil (still_held acked_node n.held) (both_right (n.frozen && not (is_empty n.held)) (is_empty (still_held acked_node n.held)) e)),
            tt,
          )

      pub lands_acked : (service : ℕ) → Lands acked_node (joined_note service from n ++ frozen_note service acked_node (settled acked_node))
      lands_acked service =
          let ss : List Sent = joined_note service from n ++ frozen_note service acked_node (settled acked_node) in
          lands acked_node ss not_newer (drop_first acked_node ss w.recorded.bases ack_packet w.packets (finish acked_node ss w.recorded.bases (ack_packet ∷ w.packets) here_acked
          (λ f. every_append (SentOk (record w { nodes = slice_set w.nodes m (settled acked_node); packets = ack_packet ∷ w.packets; released = w.released ++ now_released acked_node acked_node.held; recorded = record w.recorded { bases = w.recorded.bases } }) made m)
          (joined_note service from n) (frozen_note service acked_node (settled acked_node)) (joined_sent service f) (frozen_sent service f))))

    pub lands_ack : (service from v c : ℕ) → PacketOk w.nodes w.recorded.bases made w.crashed from (Ack v c) → Lands (on_ack service m from v c n).node (on_ack service m from v c n).sent
    lands_ack service from v c g =
        on_cond (λ (s : Step). Lands s.node s.sent) (is_primary n.known m && (n.known.version == v) && is_backup n.known from)
        (record { node = record n { acks = with_ack from c n.acks }; sent = joined_note service from n ++ frozen_note service (record n { acks = with_ack from c n.acks }) (settled (record n { acks = with_ack from c n.acks })); took = Acked }) (unanswered n Stale)
        taken (λ e. lands_quiet)
      where
        taken : (is_primary n.known m && (n.known.version == v) && is_backup n.known from) ≡ true → Lands (record n { acks = with_ack from c n.acks }) (joined_note service from n ++ frozen_note service (record n { acks = with_ack from c n.acks }) (settled (record n { acks = with_ack from c n.acks })))
        taken e =
            let both = both_left (is_primary n.known m && (n.known.version == v)) (is_backup n.known from) e in
            lands_acked from v c g (both_left (is_primary n.known m) (n.known.version == v) both) (same_number n.known.version v (both_right (is_primary n.known m) (n.known.version == v) both))
            (both_right (is_primary n.known m && (n.known.version == v)) (is_backup n.known from) e) service

    pub lands_freeze : (service v : ℕ) → Lands (on_freeze service m v n).node (on_freeze service m v n).sent
    lands_freeze service v =
        on_cond (λ (s : Step). Lands s.node s.sent) (is_primary n.known m && (n.known.version == v))
        (record { node = record n { frozen = true }; sent = cond (is_empty n.held) (to_one service (FrozenMessage v)) []; took = TookFrozen }) (unanswered n Stale)
        (λ e. frozen (both_left (is_primary n.known m) (n.known.version == v) e) (same_number n.known.version v (both_right (is_primary n.known m) (n.known.version == v) e))) (λ e. lands_quiet)
      where
        cold : Node
        cold = record n { frozen = true }

        here_cold : Here (record n { frozen = true }) w.recorded.bases w.packets
        here_cold = put_aside o w made inv m n at n.acks true (λ z. refl) (inv.frame.acks m n at).taken

        frozen : is_primary n.known m ≡ true → n.known.version ≡ v → Lands (record n { frozen = true }) (cond (is_empty n.held) (to_one service (FrozenMessage v)) [])
        frozen p k = lands (record n { frozen = true }) (cond (is_empty n.held) (to_one service (FrozenMessage v)) []) not_newer (finish (record n { frozen = true }) (cond (is_empty n.held) (to_one service (FrozenMessage v)) []) w.recorded.bases w.packets here_cold sends)
          where
            sends : (f : Frame (record w { nodes = slice_set w.nodes m (settled (record n { frozen = true })); packets = w.packets; released = w.released ++ now_released (record n { frozen = true }) n.held; recorded = record w.recorded { bases = w.recorded.bases } }) made)
                → Every (SentOk (record w { nodes = slice_set w.nodes m (settled (record n { frozen = true })); packets = w.packets; released = w.released ++ now_released (record n { frozen = true }) n.held; recorded = record w.recorded { bases = w.recorded.bases } }) made m) (cond (is_empty n.held) (to_one service (FrozenMessage v)) [])
            sends f = on_cond (λ ss. Every (SentOk (record w { nodes = slice_set w.nodes m (settled (record n { frozen = true })); packets = w.packets; released = w.released ++ now_released (record n { frozen = true }) n.held; recorded = record w.recorded { bases = w.recorded.bases } }) made m) ss)
                (is_empty n.held) (to_one service (FrozenMessage v)) [] note (λ e. tt)
              where
                note : is_empty n.held ≡ true → Every (SentOk (record w { nodes = slice_set w.nodes m (settled (record n { frozen = true })); packets = w.packets; released = w.released ++ now_released (record n { frozen = true }) n.held; recorded = record w.recorded { bases = w.recorded.bases } }) made m) (to_one service (FrozenMessage v))
                note e =
                    let none : still_held (record n { frozen = true }) n.held ≡ [] = ap (still_held (record n { frozen = true })) (empty_nil n.held e) in (
                      subst (λ u. PacketOk (slice_set w.nodes m (settled (record n { frozen = true }))) w.recorded.bases made w.crashed m (FrozenMessage u)) k
                          (frozen_ok (record w { nodes = slice_set w.nodes m (settled (record n { frozen = true })); packets = w.packets; released = w.released ++ now_released (record n { frozen = true }) n.held; recorded = record w.recorded { bases = w.recorded.bases } }) made f m (settled (record n { frozen = true })) (at_here (settled (record n { frozen = true }))) p refl none),
                      tt,
                    )

    -- any message
    pub lands_taking : (service from : ℕ) (msg : Message) → PacketOk w.nodes w.recorded.bases made w.crashed from msg → Lands (taking service m from msg n).node (taking service m from msg n).sent
    lands_taking service from (NewRow row) g = lands_row row g
    lands_taking service from (Sync row c) g = lands_sync from row c g
    lands_taking service from (Bridge row e k) g = lands_bridge from row e k g
    lands_taking service from (Effect v i) g = lands_effect from v i g
    lands_taking service from (Ack v c) g = lands_ack service from v c g
    lands_taking service from (Freeze v) g = lands_freeze service v
    lands_taking service from (JoinedMessage v b) g = lands_quiet
    lands_taking service from (FrozenMessage v) g = lands_quiet
