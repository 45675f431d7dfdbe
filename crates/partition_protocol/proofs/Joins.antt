-- A member that becomes eligible, and what else the service does without a row: its moves, and the crash of a member.
use Rattle.std.proofs.Common.{◌≡◌, ℕ, ◌+◌, ◌<◌, ◌≤◌, true, false, cond, ◌||◌, ◌==◌, List, [], ◌∷◌, map, Some, None, nat_eq, refl, ap, sym, ◌∙◌, subst, ◌⊎◌, ⊎_elim, inl, inr, arith}
use Rattle.partition_table.specs.Rows.{number_of, has_number, is_among, is_first, is_in, is_eligible, numbers_of, marked, with_eligible}
use Rattle.partition_protocol.specs.Messages.{Joined as JoinedMessage, Packet}
use Rattle.partition_protocol.specs.Node.{Pair, Held, Node, no_pair}
use Rattle.partition_protocol.specs.Service.{Move, NoMove, Joining, Joined, Freezing, Drained, joined_move}
use Rattle.grid_base.specs.Objects.{Object}
use Rattle.partition_protocol.specs.History.{history}
use Rattle.partition_protocol.specs.World.{World}
use Rattle.partition_protocol.specs.Claims.{Stands}
use Rattle.partition_table.specs.declared.Row.{Row}
use Rattle.partition_table.specs.declared.RowMember.{RowMember}
use Rattle.partition_protocol.proofs.Lists.{In, every_weaker, on_if, on_cond}
use Rattle.partition_protocol.proofs.Histories.{IsBase, base_below, start_at, stands_start}
use Rattle.partition_protocol.proofs.Invariant.{Shape, shape, NodeAt, RowsOk, PacketOk, MoveOk, StandingOk, SinceOk, Frame, content, ResetsOk, Invariant, KeptOk, BaseKeptOk}
use Rattle.partition_protocol.proofs.RowFacts.{in_map, not_both, none_among, false_or_not, is_not_less, either, either_right, or_true, same_number, number_same}
use Rattle.partition_protocol.proofs.Forward.{Forward, forward_same, packet_forward, gone_forward, move_forward, standing_forward, le_cases}
use Rattle.partition_protocol.proofs.Contents.{HasKept}
use Rattle.partition_protocol.proofs.NextRows.{eligible_at, at_eligible, is_in_member}

-- marks change no shape

pub marked_members : (m : ℕ) (ps : List RowMember) → map number_of (map (marked m) ps) ≡ map number_of ps
marked_members m [] = refl
marked_members m (p ∷ ps) = ap (λ ks. p.member ∷ ks) (marked_members m ps)

pub marked_shape : (row : Row) (m : ℕ) → shape (with_eligible row m) ≡ shape row
marked_shape row m = ap (λ ks. let s : Shape = record { version = row.version; reset = row.reset; lost = row.lost; members = ks } in s) (marked_members m row.members)

pub in_marked : (m : ℕ) (ps : List RowMember) (p : RowMember) → In p (map (marked m) ps) → (q : RowMember) × In q ps × (q.member ≡ p.member) × (p.eligible ≡ (q.eligible || has_number m q))
in_marked m [] p i = absurd i
in_marked m (q ∷ ps) p (inl e) = (q, inl refl, ap number_of e, ap (λ (k : RowMember). k.eligible) (sym e))
in_marked m (q ∷ ps) p (inr i) = let r = in_marked m ps p i in (r.0, inr r.1, r.2, r.3)

pub still_eligible : (row : Row) (m q : ℕ) → is_eligible row q ≡ true → is_eligible (with_eligible row m) q ≡ true
still_eligible row m q e =
    let p = eligible_at row q e in
    at_eligible (with_eligible row m) q (marked m p.0) (in_map (marked m) row.members p.0 p.1) p.2 (rw p.3 refl)

pub now_eligible : (row : Row) (m : ℕ) → is_in row m ≡ true → is_eligible (with_eligible row m) m ≡ true
now_eligible row m e =
    let p = is_in_member row m e in
    let a : (p.0.member == m) ≡ true = number_same p.0.member m p.2 in
    at_eligible (with_eligible row m) m (marked m p.0) (in_map (marked m) row.members p.0 p.1) p.2 (rw a (or_true p.0.eligible))

pub was_eligible : (row : Row) (m q : ℕ) → is_eligible (with_eligible row m) q ≡ true → (is_eligible row q ≡ true) ⊎ (q ≡ m)
was_eligible row m q e =
    let p = eligible_at (with_eligible row m) q e in
    let r = in_marked m row.members p.0 p.1 in
    ⊎_elim (λ a. inl (at_eligible row q r.0 r.1 (r.2 ∙ p.2) a)) (λ a. inr (sym (sym (same_number r.0.member m a) ∙ r.2 ∙ p.2))) (either r.0.eligible (has_number m r.0) (sym r.3 ∙ p.3))

pub joined_ok : (nodes : List Node) (crashed : List ℕ) (row : Row) (m : ℕ) (v : Move) → is_in row m ≡ true → MoveOk nodes crashed row v → MoveOk nodes crashed (with_eligible row m) (joined_move m v)
joined_ok nodes crashed row m NoMove i h = tt
joined_ok nodes crashed row m (Joining None t) i h = on_if (λ v. MoveOk nodes crashed (with_eligible row m) v) (t == m) NoMove (Joining None t) tt tt
joined_ok nodes crashed row m (Joining (Some s) t) i h = on_cond (λ v. MoveOk nodes crashed (with_eligible row m) v) (t == m) (Joined s t) (Joining (Some s) t)
    (λ e. subst (λ k. is_eligible (with_eligible row m) k ≡ true) (sym (same_number t m e)) (now_eligible row m i)) (λ e. tt)
joined_ok nodes crashed row m (Joined s t) i h = still_eligible row m t h
joined_ok nodes crashed row m (Freezing s t) i h = (still_eligible row m t h.0, subst (λ (k : Shape). is_first k.members s ≡ true) (sym (marked_shape row m)) h.1)
joined_ok nodes crashed row m (Drained s t) i h = (still_eligible row m t h.0, subst (λ (k : Shape). is_first k.members s ≡ true) (sym (marked_shape row m)) h.1, h.2)

module _ {C State : Type 0} (o : Object C State) (w : World C) (made : List Shape) (inv : Invariant o w made) where
  -- m joins the newest row
  module _ (m : ℕ) (there : is_in w.service.row m ≡ true) (good : PacketOk w.nodes w.recorded.bases made w.crashed m (JoinedMessage w.service.row.version m)) where
    abbrev pub row' : Row
    row' = with_eligible w.service.row m

    pub still : w.service.row.lost ≡ false
    still = false_or_not w.service.row.lost (λ e. not_both (is_in w.service.row m) there (none_among (numbers_of w.service.row) m (inv.frame.rows.lost (shape w.service.row) inv.frame.rows.newest_in e)))

    pub standing_is : w.recorded.standing ≡ w.service.row
    standing_is = inv.frame.standing.now still

    pub joined_pair : (n : Node) → NodeAt w.nodes m n → n.pair.version ≡ w.service.row.version
    joined_pair n at = go (good.2 n at)
      where
        top : n.known.version ≤ w.service.row.version
        top = inv.frame.rows.newest_top (shape n.known) (inv.frame.nodes m n at).known

        go : (n.pair.version ≡ w.service.row.version) ⊎ (w.service.row.version < n.known.version) → n.pair.version ≡ w.service.row.version
        go (inl e) = e
        go (inr l) = absurd (omega (arith, l, top))

    pub joined_known : (n : Node) → NodeAt w.nodes m n → w.service.row.version ≤ n.known.version
    joined_known n at = go (good.2 n at)
      where
        of_pair : n.pair.version ≡ w.service.row.version → (n.pair ≡ no_pair) ⊎ (IsBase w.recorded.bases n.pair.version × (n.pair.version ≤ n.known.version)) → w.service.row.version ≤ n.known.version
        of_pair e (inl z) = let y : n.pair.version ≡ 0 = ap (λ (p : Pair). p.version) z in omega (arith, y, e)
        of_pair e (inr h) = omega (arith, h.1, e)

        go : (n.pair.version ≡ w.service.row.version) ⊎ (w.service.row.version < n.known.version) → w.service.row.version ≤ n.known.version
        go (inl e) = of_pair e (inv.frame.nodes m n at).pair
        go (inr l) = omega (arith, l)

    pub join_standing : StandingOk w.crashed made row' row'
    join_standing = record {
      made_row = subst (λ s. In s made) (sym (marked_shape w.service.row m)) inv.frame.rows.newest_in;
      first = inv.frame.standing.first;
      rest = map (marked m) inv.frame.standing.rest;
      begins = ap (λ (k : Row). map (marked m) k.members) (sym standing_is) ∙ ap (map (marked m)) inv.frame.standing.begins;
      now = λ e. refl;
      next = λ l. absurd (not_both w.service.row.lost l still);
      after_loss = λ l. absurd (not_both w.service.row.lost l still);
    }

    pub join_since : SinceOk w.nodes w.recorded.bases made row'
    join_since q n s e at i l = go (was_eligible w.service.row m q e)
      where
        by_version : q ≡ m → (s.version ≡ w.service.row.version) ⊎ (s.version < w.service.row.version) → (is_among s.members q ≡ true) ⊎ ((u : ℕ) × IsBase w.recorded.bases u × (s.version < u) × (u ≤ n.known.version)) ⊎ (s.version < w.service.row.reset)
        by_version z (inl v) = inl (subst (λ k. is_among s.members k ≡ true) (sym z) (subst (λ (k : Shape). is_among k.members m ≡ true) (sym (inv.frame.rows.one s (shape w.service.row) i inv.frame.rows.newest_in v)) there))
        by_version z (inr v) = inr (inl (w.service.row.version, good.0, v, joined_known n (subst (λ k. NodeAt w.nodes k n) z at)))

        go : (is_eligible w.service.row q ≡ true) ⊎ (q ≡ m) → (is_among s.members q ≡ true) ⊎ ((u : ℕ) × IsBase w.recorded.bases u × (s.version < u) × (u ≤ n.known.version)) ⊎ (s.version < w.service.row.reset)
        go (inl a) = subst (λ (k : Row). (is_among s.members q ≡ true) ⊎ ((u : ℕ) × IsBase w.recorded.bases u × (s.version < u) × (u ≤ n.known.version)) ⊎ (s.version < k.reset)) standing_is
            (inv.frame.since q n s (subst (λ (k : Row). is_eligible k q ≡ true) (sym standing_is) a) at i (subst (λ (k : Row). s.version ≤ k.version) (sym standing_is) l))
        go (inr z) = by_version z (le_cases s.version w.service.row.version l)

    pub join_frame : Frame (record w { service = record { row = row'; move = joined_move m w.service.move; detected = w.service.detected }; recorded = record w.recorded { standing = row' } }) made
    join_frame = record {
      rows = subst (λ s. RowsOk w.members made s) (sym (marked_shape w.service.row m)) inv.frame.rows;
      standing = join_standing;
      moving = joined_ok w.nodes w.crashed w.service.row m w.service.move there inv.frame.moving;
      detected = inv.frame.detected;
      gone = inv.frame.gone;
      there = inv.frame.there;
      nodes = inv.frame.nodes;
      acks = inv.frame.acks;
      tops = inv.frame.tops;
      packets = inv.frame.packets;
      falling = inv.frame.falling;
      bases = inv.frame.bases;
      pairs = inv.frame.pairs;
      log = inv.frame.log;
      since = join_since;
    }

    pub reset_low : w.service.row.reset ≤ w.service.row.version
    reset_low = inv.frame.rows.old_reset (shape w.service.row) inv.frame.rows.newest_in

    pub has_all : (n : Node) (h : Held) → NodeAt w.nodes m n → In h w.released → HasKept w.recorded.openings w.recorded.log w.recorded.bases w.service.row.version n h
    has_all n h at i = inv.content.base_kept w.service.row.version m n h good.0 (subst (λ (k : Row). k.reset ≤ w.service.row.version) (sym standing_is) reset_low) good.1 (inr refl) at i

    pub join_kept : KeptOk w.nodes w.recorded.openings w.recorded.log w.recorded.bases row' w.released
    join_kept q n h e at i = go (was_eligible w.service.row m q e)
      where
        by_has : NodeAt w.nodes m n → HasKept w.recorded.openings w.recorded.log w.recorded.bases w.service.row.version n h → Stands h (history w.recorded.openings w.recorded.log w.recorded.bases n.pair)
        by_has a (inl s) = let v = joined_pair n a in stands_start w.recorded.openings w.recorded.log w.recorded.bases (w.service.row.version + 1) n.pair h inv.frame.falling (subst (λ u. IsBase w.recorded.bases u) (sym v) good.0) (subst (λ u. Stands h (start_at w.recorded.openings w.recorded.log w.recorded.bases u)) (sym v) s)
        by_has a (inr (inl l)) = let t = inv.frame.rows.newest_top (shape n.known) (inv.frame.nodes m n a).known in absurd (omega (arith, l, t))
        by_has a (inr (inr d)) = d.1

        go : (is_eligible w.service.row q ≡ true) ⊎ (q ≡ m) → Stands h (content w.recorded.openings w.recorded.log w.recorded.bases w.service.row.reset n.pair)
        go (inl a) = subst (λ (k : Row). Stands h (content w.recorded.openings w.recorded.log w.recorded.bases k.reset n.pair)) standing_is (inv.content.kept q n h (subst (λ (k : Row). is_eligible k q ≡ true) (sym standing_is) a) at i)
        go (inr z) = let a = subst (λ k. NodeAt w.nodes k n) z at in rw (is_not_less n.pair.version w.service.row.reset (omega (arith, joined_pair n a, reset_low))) (by_has a (has_all n h a i))

    pub join_base_kept : BaseKeptOk w.nodes w.recorded.openings w.recorded.log w.recorded.bases made row' w.service.row.version w.released
    join_base_kept v q n h b r j e at i = go e
      where
        old : (is_eligible w.recorded.standing q ≡ true) ⊎ (v ≡ w.service.row.version) → HasKept w.recorded.openings w.recorded.log w.recorded.bases v n h
        old k = inv.content.base_kept v q n h b (subst (λ (k : Row). k.reset ≤ v) (sym standing_is) r) j k at i

        newer : q ≡ m → (v ≡ w.service.row.version) ⊎ (v < w.service.row.version) → HasKept w.recorded.openings w.recorded.log w.recorded.bases v n h
        newer z (inl s) = old (inr s)
        newer z (inr l) = inr (inl (let k = joined_known n (subst (λ k. NodeAt w.nodes k n) z at) in omega (arith, l, k)))

        by_was : (is_eligible w.service.row q ≡ true) ⊎ (q ≡ m) → HasKept w.recorded.openings w.recorded.log w.recorded.bases v n h
        by_was (inl a) = old (inl (subst (λ (k : Row). is_eligible k q ≡ true) (sym standing_is) a))
        by_was (inr z) = let t = base_below w.recorded.bases (w.service.row.version + 1) v inv.frame.falling b in newer z (le_cases v w.service.row.version (omega (arith, t)))

        go : (is_eligible row' q ≡ true) ⊎ (v ≡ w.service.row.version) → HasKept w.recorded.openings w.recorded.log w.recorded.bases v n h
        go (inl a) = by_was (was_eligible w.service.row m q a)
        go (inr s) = old (inr s)

    pub join : Invariant o (record w { service = record { row = row'; move = joined_move m w.service.move; detected = w.service.detected }; recorded = record w.recorded { standing = row' } }) made
    join = record {
      frame = join_frame;
      content = record {
        rising = inv.content.rising;
        good = inv.content.good;
        opened = inv.content.opened;
        old = inv.content.old;
        resets = subst (λ (k : Row). ResetsOk w.recorded.openings w.recorded.log w.recorded.bases k.reset) standing_is inv.content.resets;
        kept = join_kept;
        base_kept = join_base_kept;
        held = inv.content.held;
      };
    }

  -- the same row, with another move, and more members detected that have crashed
  pub same_row : (move : Move) (detected : List ℕ) → MoveOk w.nodes w.crashed w.service.row move → ((m : ℕ) → is_among detected m ≡ true → is_among w.crashed m ≡ true)
      → Invariant o (record w { service = record { row = w.service.row; move = move; detected = detected } }) made
  same_row move detected mv dt = record {
    frame = record {
      rows = inv.frame.rows;
      standing = inv.frame.standing;
      moving = mv;
      detected = dt;
      gone = inv.frame.gone;
      there = inv.frame.there;
      nodes = inv.frame.nodes;
      acks = inv.frame.acks;
      tops = inv.frame.tops;
      packets = inv.frame.packets;
      falling = inv.frame.falling;
      bases = inv.frame.bases;
      pairs = inv.frame.pairs;
      log = inv.frame.log;
      since = inv.frame.since;
    };
    content = record { rising = inv.content.rising; good = inv.content.good; opened = inv.content.opened; old = inv.content.old; resets = inv.content.resets; kept = inv.content.kept; base_kept = inv.content.base_kept; held = inv.content.held };
  }

  -- the standing row is the service's, unless that is lost
  pub standing_same : cond w.service.row.lost w.recorded.standing w.service.row ≡ w.recorded.standing
  standing_same = on_cond (λ (k : Row). k ≡ w.recorded.standing) w.service.row.lost w.recorded.standing w.service.row (λ e. refl) (λ e. sym (inv.frame.standing.now e))

  -- a member crashes
  pub crash : (m : ℕ) → Invariant o (record w { crashed = m ∷ w.crashed }) made
  crash m = record {
    frame = record {
      rows = inv.frame.rows;
      standing = standing_forward w.nodes w.nodes w.recorded.bases w.recorded.bases made made w.crashed (m ∷ w.crashed) f w.service.row w.recorded.standing inv.frame.standing;
      moving = move_forward w.nodes w.nodes w.recorded.bases w.recorded.bases made made w.crashed (m ∷ w.crashed) f w.service.row w.service.move inv.frame.moving;
      detected = λ k e. more k (inv.frame.detected k e);
      gone = λ s t k i j l e d. gone_forward w.nodes w.nodes w.recorded.bases w.recorded.bases made made w.crashed (m ∷ w.crashed) f s.version k (inv.frame.gone s t k i j l e d);
      there = inv.frame.there;
      nodes = inv.frame.nodes;
      acks = inv.frame.acks;
      tops = inv.frame.tops;
      packets = every_weaker (λ (p : Packet). PacketOk w.nodes w.recorded.bases made w.crashed p.from p.message) (λ (p : Packet). PacketOk w.nodes w.recorded.bases made (m ∷ w.crashed) p.from p.message) w.packets
          (λ p q. packet_forward w.nodes w.nodes w.recorded.bases w.recorded.bases made made w.crashed (m ∷ w.crashed) f p.from p.message q) inv.frame.packets;
      falling = inv.frame.falling;
      bases = inv.frame.bases;
      pairs = inv.frame.pairs;
      log = inv.frame.log;
      since = inv.frame.since;
    };
    content = record { rising = inv.content.rising; good = inv.content.good; opened = inv.content.opened; old = inv.content.old; resets = inv.content.resets; kept = inv.content.kept; base_kept = inv.content.base_kept; held = inv.content.held };
  }
    where
      more : (k : ℕ) → is_among w.crashed k ≡ true → is_among (m ∷ w.crashed) k ≡ true
      more k e = either_right (nat_eq k m) (is_among w.crashed k) e

      f : Forward w.nodes w.nodes w.recorded.bases w.recorded.bases made made w.crashed (m ∷ w.crashed)
      f = record { bases_in = λ b i. i; made_in = λ s i. i; crashed_in = more; nodes_up = λ k n at. (n, at, forward_same w.recorded.bases w.recorded.bases made k n) }
