-- What a primary sends is right.
use Rattle.std.proofs.Common.{◌≡◌, ℕ, zero, suc, ◌+◌, ◌-◌, ◌<◌, ◌≤◌, Bool, true, false, cond, not, ◌&&◌, List, [], ◌∷◌, ◌++◌, Option, Some, None, is_some, flat_map, refl, ap, sym, ◌∙◌, subst, ◌⊎◌, inl, inr, arith, le_trans, true≢false}
use Rattle.partition_table.specs.Rows.{is_primary, is_in, numbers_of, backups_of, is_empty}
use Rattle.partition_protocol.specs.Messages.{Message, Bridge, Joined as JoinedMessage, Frozen as FrozenMessage, Sent, Packet}
use Rattle.partition_protocol.specs.Node.{Pair, Earlier, Node, acked, acked_by}
use Rattle.partition_protocol.specs.CatchUp.{heard, heard_earlier, effects, effects_from, recent_effects_to, is_covered, whole_snapshot, catch_up_by, catch_up}
use Rattle.partition_protocol.specs.Replica.{lags, joined_again, sent_again, to_one}
use Rattle.partition_protocol.specs.World.{World}
use Rattle.partition_protocol.specs.Links.{packets_from}
use Rattle.partition_table.specs.declared.RowMember.{RowMember}
use Rattle.partition_protocol.proofs.Lists.{In, Every, every_append, every_map, every_flat_map, every_if, cases, on_if}
use Rattle.partition_protocol.proofs.Histories.{IsBase}
use Rattle.partition_protocol.proofs.Invariant.{Shape, shape, NodeAt, IsUpTo, HasUpTo, HasAcked, HasJoined, PacketOk, NodeOk, Frame}
use Rattle.partition_protocol.proofs.RowFacts.{number_same, number_other, both_left, both_right, one_primary, among_in}
use Rattle.partition_protocol.proofs.Forward.{left_later}
use Rattle.partition_protocol.proofs.Release.{or_opening_cases, acked_by_in, first_in_members}

abbrev pub SentOk : {C : Type 0} → World C → List Shape → ℕ → Sent → Type 0
SentOk w made from s = PacketOk w.nodes w.recorded.bases made w.crashed from s.message

pub sent_packets : {C : Type 0} (w : World C) (made : List Shape) (from : ℕ) (ss : List Sent) → Every (SentOk w made from) ss
    → Every (λ (p : Packet). PacketOk w.nodes w.recorded.bases made w.crashed p.from p.message) (packets_from from ss)
sent_packets w made from [] h = tt
sent_packets w made from (s ∷ ss) h = (h.0, sent_packets w made from ss h.1)

pub heard_cases : (n : Node) (b : ℕ) (p : Pair) → heard n b ≡ Some p → (p.version ≡ n.known.version) ⊎ ((e : Earlier) × (n.earlier ≡ Some e) × (p.version ≡ e.version))
heard_cases n b p h = of_acked (acked n b) refl
  where
    of_earlier : (e : Option Earlier) → n.earlier ≡ e → heard_earlier e b ≡ Some p → (e : Earlier) × (n.earlier ≡ Some e) × (p.version ≡ e.version)
    of_earlier None s k = absurd cc
    of_earlier (Some e) s k = of_count (acked_by b e.acks) refl
      where
        of_count : (c : Option ℕ) → acked_by b e.acks ≡ c → (e : Earlier) × (n.earlier ≡ Some e) × (p.version ≡ e.version)
        of_count None z = absurd (cc (rw (z, heard_earlier) at k))
        of_count (Some c) z =
            let same : Some (record { version = e.version; count = c }) ≡ Some p = rw (z, heard_earlier) at k in
            let pair : record { version = e.version; count = c } ≡ p = cc in
            (e, s, ap (λ (q : Pair). q.version) (sym pair))

    of_acked : (c : Option ℕ) → acked n b ≡ c → (p.version ≡ n.known.version) ⊎ ((e : Earlier) × (n.earlier ≡ Some e) × (p.version ≡ e.version))
    of_acked None z = inr (of_earlier n.earlier refl (rw (z, heard) at h))
    of_acked (Some c) z =
        let same : Some (record { version = n.known.version; count = c }) ≡ Some p = rw (z, heard) at h in
        let pair : record { version = n.known.version; count = c } ≡ p = cc in
        inl (ap (λ (q : Pair). q.version) (sym pair))

pub some_value : (x : Option ℕ) → is_some x ≡ true → (c : ℕ) × (x ≡ Some c)
some_value None e = absurd (true≢false (sym e))
some_value (Some c) e = (c, refl)

pub empty_nil : {X : Type 0} (xs : List X) → is_empty xs ≡ true → xs ≡ []
empty_nil [] e = refl
empty_nil (x ∷ xs) e = absurd (true≢false (sym e))

module _ {C : Type 0} (w : World C) (made : List Shape) (frame : Frame w made) (m : ℕ) (n : Node) (at : NodeAt w.nodes m n) (leads : is_primary n.known m ≡ true) where
  abbrev pub MessageOk : Message → Type 0
  MessageOk x = PacketOk w.nodes w.recorded.bases made w.crashed m x

  pub ok : NodeOk w.recorded.bases made m n
  ok = frame.nodes m n at

  pub began : IsBase w.recorded.bases n.known.version
  began = (ok.primary leads).1

  pub top : IsUpTo w.nodes n.known.version n.pair.count
  top = subst (λ v. IsUpTo w.nodes v n.pair.count) (ok.primary leads).0 (frame.tops m n at)

  pub up_to_less : (v c d : ℕ) → d ≤ c → IsUpTo w.nodes v c → IsUpTo w.nodes v d
  up_to_less v c d l u k y a p e = le_trans l (u k y a p e)

  pub effects_from_ok : (v a k : ℕ) → IsBase w.recorded.bases v → ((j : ℕ) → a < j → j ≤ a + k → IsUpTo w.nodes v j) → Every MessageOk (effects_from v a k)
  effects_from_ok v a zero b u = tt
  effects_from_ok v a (suc k) b u = ((b, u (a + 1) (omega arith) (omega arith)), effects_from_ok v (a + 1) k b (λ j l r. u j (omega (arith, l)) (omega (arith, r))))

  pub effects_ok : (v a c : ℕ) → IsBase w.recorded.bases v → IsUpTo w.nodes v c → Every MessageOk (effects v a c)
  effects_ok v a c b u = effects_from_ok v a (c - a) b (λ j l r. up_to_less v c j (omega (arith, l, r)) u)

  pub snapshot_ok : Every MessageOk (whole_snapshot n)
  snapshot_ok = ((ok.known, began, top), tt)

  -- an earlier version, of which the same member was primary
  pub earlier_top : (e : Earlier) (c : ℕ) → n.earlier ≡ Some e → IsUpTo w.nodes e.version c
  earlier_top e c s k y a p v =
      let h = ok.earlier e leads s in
      let same : k ≡ m = one_primary frame.rows (shape y.known) h.3.0 k m (frame.nodes k y a).known h.3.1 (v ∙ sym h.3.2) p h.3.3 in
      let it : n ≡ y = cc (subst (λ j. NodeAt w.nodes j y) same a, at) in
      let v' : n.known.version ≡ e.version = ap (λ (z : Node). z.known.version) it ∙ v in
      absurd (omega (arith, h.1, v'))

  pub bridge_ok : (e : Earlier) → n.earlier ≡ Some e → MessageOk (Bridge n.known e.version n.adopted)
  bridge_ok e s = let h = ok.earlier e leads s in (ok.known, up_to_less n.known.version n.pair.count n.adopted (ok.adopted leads) top, h.0, h.1, h.4)

  pub bridged_effects_ok : (e : Earlier) (p : Pair) → n.earlier ≡ Some e → p.version ≡ e.version
      → Every MessageOk (effects p.version p.count n.adopted ++ (Bridge n.known p.version n.adopted ∷ effects n.known.version n.adopted n.pair.count))
  bridged_effects_ok e p s v = rw v
      (every_append MessageOk (effects e.version p.count n.adopted) (Bridge n.known e.version n.adopted ∷ effects n.known.version n.adopted n.pair.count)
      (effects_ok e.version p.count n.adopted (ok.earlier e leads s).2 (earlier_top e n.adopted s)) (bridge_ok e s, effects_ok n.known.version n.adopted n.pair.count began top))

  pub recent_effects_ok : (p : Pair) → (p.version ≡ n.known.version) ⊎ ((e : Earlier) × (n.earlier ≡ Some e) × (p.version ≡ e.version)) → Every MessageOk (recent_effects_to n p)
  recent_effects_ok p (inl v) = rw (number_same p.version n.known.version v) (rw v (effects_ok n.known.version p.count n.pair.count began top))
  recent_effects_ok p (inr h) =
      let l = (ok.earlier h.0 leads h.1).1 in
      rw (number_other p.version n.known.version (omega (arith, l, h.2))) (bridged_effects_ok h.0 p h.1 h.2)

  pub catch_up_by_ok : (eligible : Bool) (p : Option Pair) → ((q : Pair) → p ≡ Some q → (q.version ≡ n.known.version) ⊎ ((e : Earlier) × (n.earlier ≡ Some e) × (q.version ≡ e.version))) → Every MessageOk (catch_up_by n eligible p)
  catch_up_by_ok false p f = snapshot_ok
  catch_up_by_ok true None f = snapshot_ok
  catch_up_by_ok true (Some p) f = on_if (λ ms. Every MessageOk ms) (is_covered n p) (recent_effects_to n p) (whole_snapshot n) (recent_effects_ok p (f p refl)) snapshot_ok

  pub catch_up_ok : (b : RowMember) → Every (SentOk w made m) (catch_up n b)
  catch_up_ok b = every_map (SentOk w made m) (λ (x : Message). record { to = b.member; message = x }) (catch_up_by n b.eligible (heard n b.member)) (catch_up_by_ok b.eligible (heard n b.member) (heard_cases n b.member))

  pub adopting_ok : Every (SentOk w made m) (flat_map (catch_up n) (backups_of n.known))
  adopting_ok = every_flat_map (SentOk w made m) (catch_up n) (backups_of n.known) (λ b i. catch_up_ok b)

  -- a backup that has acknowledged has joined
  pub acked_joined : (b c : ℕ) → is_in n.known b ≡ true → acked n b ≡ Some c → HasJoined w.nodes n.known.version b
  acked_joined b c i e y a = go (or_opening_cases n.opening (acked_by b n.acks) c e)
    where
      of_has : (d : ℕ) → HasUpTo w.recorded.bases made n.known.version d b y → (y.pair.version ≡ n.known.version) ⊎ (n.known.version < y.known.version)
      of_has d (inl h) = inl h.0
      of_has d (inr l) = inr (left_later w.recorded.bases made n.known.version b y.known.version l)

      go : (acked_by b n.acks ≡ Some c) ⊎ ((n.opening ≡ true) × (0 ≡ c)) → (y.pair.version ≡ n.known.version) ⊎ (n.known.version < y.known.version)
      go (inl s) = of_has c (acked_by_in (λ d k. HasAcked w.nodes w.recorded.bases made n.known.version d k) b c n.acks (frame.acks m n at).taken s y a)
      go (inr s) = of_has 0 ((frame.acks m n at).opening s.0 b i y a)

  pub backup_in : (p : RowMember) → In p (backups_of n.known) → is_in n.known p.member ≡ true
  backup_in p i = among_in (numbers_of n.known) p.member (first_in_members n.known.members p i)

  pub joined_note_ok : (b c : ℕ) → is_in n.known b ≡ true → acked n b ≡ Some c → MessageOk (JoinedMessage n.known.version b)
  joined_note_ok b c i e = (began, (shape n.known, ok.known, refl, i), acked_joined b c i e)

  pub frozen_ok : n.frozen ≡ true → n.held ≡ [] → MessageOk (FrozenMessage n.known.version)
  frozen_ok f h = (m, (shape n.known, ok.known, refl, leads), inr (λ y a. let same : n ≡ y = cc (at, a) in subst (λ (z : Node). (n.known.version < z.known.version) ⊎ ((z.known.version ≡ n.known.version) × (z.frozen ≡ true) × (z.held ≡ []))) same (inr (refl, f, h))))

  abbrev pub again_to : RowMember → List Sent
  again_to p = cond (lags n p.member) (catch_up n p) []

  pub again_to_ok : (p : RowMember) → Every (SentOk w made m) (again_to p)
  again_to_ok p = every_if (SentOk w made m) (lags n p.member) (catch_up n p) [] (catch_up_ok p) tt

  pub joined_again_ok : (service : ℕ) (p : RowMember) → In p (backups_of n.known) → Every (SentOk w made m) (joined_again service n p)
  joined_again_ok service p i = go (cases (is_some (acked n p.member) && not p.eligible))
    where
      go : ((is_some (acked n p.member) && not p.eligible) ≡ true) ⊎ ((is_some (acked n p.member) && not p.eligible) ≡ false) → Every (SentOk w made m) (joined_again service n p)
      go (inl e) = let c = some_value (acked n p.member) (both_left (is_some (acked n p.member)) (not p.eligible) e) in rw (e, joined_again) (joined_note_ok p.member c.0 (backup_in p i) c.1, tt)
      go (inr e) = rw (e, joined_again) tt

  pub frozen_again_ok : (service : ℕ) → Every (SentOk w made m) (cond (n.frozen && is_empty n.held) (to_one service (FrozenMessage n.known.version)) [])
  frozen_again_ok service = go (cases (n.frozen && is_empty n.held))
    where
      go : ((n.frozen && is_empty n.held) ≡ true) ⊎ ((n.frozen && is_empty n.held) ≡ false) → Every (SentOk w made m) (cond (n.frozen && is_empty n.held) (to_one service (FrozenMessage n.known.version)) [])
      go (inl e) = rw e (frozen_ok (both_left n.frozen (is_empty n.held) e) (empty_nil n.held (both_right n.frozen (is_empty n.held) e)), tt)
      go (inr e) = rw e tt

  pub again_ok : (service : ℕ) → Every (SentOk w made m) (sent_again service n)
  again_ok service =
      let last : List Sent = cond (n.frozen && is_empty n.held) (to_one service (FrozenMessage n.known.version)) [] in
      let joins : List Sent = flat_map (joined_again service n) (backups_of n.known) in
      let copies : List Sent = flat_map again_to (backups_of n.known) in
      every_append (SentOk w made m) (copies ++ joins) last
      (every_append (SentOk w made m) copies joins (every_flat_map (SentOk w made m) again_to (backups_of n.known) (λ p i. again_to_ok p))
      (every_flat_map (SentOk w made m) (joined_again service n) (backups_of n.known) (joined_again_ok service))) (frozen_again_ok service)
