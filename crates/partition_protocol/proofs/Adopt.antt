-- A newer row that is adopted.
use Rattle.std.proofs.Common.{◌≡◌, ◌≢◌, ℕ, ◌+◌, ◌<◌, ◌≤◌, Bool, true, false, cond, ◌&&◌, ◌==◌, List, [], ◌∷◌, Option, Some, None, filter, nat_lt, slice_set, refl, ap, sym, ◌∙◌, subst, ◌⊎◌, ⊎_elim, inl, inr, arith, le_refl, le_of_eq, true≢false}
use Rattle.partition_table.specs.Rows.{is_among, is_primary, is_in, is_eligible, is_backup, numbers_of}
use Rattle.partition_protocol.specs.Node.{Pair, Earlier, Held, Node, no_pair}
use Rattle.partition_protocol.specs.Adoption.{adopt_as_primary, adopt_as_other, adopted_row, begun, emptied, stays_primary, carried_answers}
use Rattle.grid_base.specs.Objects.{Object}
use Rattle.partition_protocol.specs.History.{Entry, Called, Reset, Base, history, opening_at}
use Rattle.partition_protocol.specs.World.{World, bases_after}
use Rattle.partition_protocol.specs.Claims.{Stands, is_reset}
use Rattle.partition_table.specs.declared.Row.{Row}
use Rattle.partition_protocol.proofs.Lists.{In, Every, every_weaker, get_set, set_get_same, cases, on_if}
use Rattle.partition_protocol.proofs.Histories.{IsBelow, Falling, IsBase, start_at, start_of, start_first, start_later, history_skips, good_based, stands_more, stands_start}
use Rattle.partition_protocol.proofs.Invariant.{PairUp, Shape, shape, NodeAt, IsPrimaryIn, IsUpTo, IsGone, IsGoneAt, HasLeft, EntryOk, NodeOk, BaseOk, Frame, content, ContentOk, Invariant}
use Rattle.partition_protocol.proofs.RowFacts.{less, not_less, is_less, is_not_less, not_both, one_primary, number_other, other_number, none_among, true_or_not}
use Rattle.partition_protocol.proofs.Forward.{NodeForward, Forward, top_forward}
use Rattle.partition_protocol.proofs.Steps.{set_forward, packets_kept, log_kept, pairs_kept, bases_kept, frame_step}
use Rattle.partition_protocol.proofs.Contents.{HasKept, IsPair, content_step}
use Rattle.partition_protocol.proofs.SameRow.{quiet_step}
use Rattle.partition_protocol.proofs.Safe.{resets_history}
use Rattle.partition_protocol.proofs.Release.{not_gone}
use Rattle.partition_protocol.proofs.Awake

pub falling_under : (bs : List Base) (n v : ℕ) → Falling n bs → ((u : ℕ) → IsBase bs u → u < v) → Falling v bs
falling_under [] n v f a = tt
falling_under (b ∷ bs) n v f a = (a b.version (b, inl refl, refl), f.1)

-- a primary as it adopts a row
abbrev pub headed : Row → ℕ → ℕ → Option Earlier → List Held → Node
headed row c r e hs = record { known = row; pair = record { version = row.version; count = c }; opening = false; acks = []; earlier = e; recent = r; adopted = c; frozen = false; held = hs }

abbrev pub sided : Row → Pair → Node
sided row p = record { known = row; pair = p; opening = false; acks = []; earlier = None; recent = 0; adopted = 0; frozen = false; held = [] }

module _ {C State : Type 0} (o : Object C State) (w : World C) (made : List Shape) (inv : Invariant o w made) (m : ℕ) (n : Node) (at : NodeAt w.nodes m n) (lives : is_among w.crashed m ≡ false)
    (row : Row) (row_in : In (shape row) made) (newer : n.known.version < row.version) where
  pub ok : NodeOk w.recorded.bases made m n
  ok = inv.frame.nodes m n at

  pub pair_known : n.pair.version ≤ n.known.version
  pair_known = go ok.pair
    where
      go : (n.pair ≡ no_pair) ⊎ (IsBase w.recorded.bases n.pair.version × (n.pair.version ≤ n.known.version)) → n.pair.version ≤ n.known.version
      go (inl e) = let z : n.pair.version ≡ 0 = ap (λ (p : Pair). p.version) e in omega (arith, z)
      go (inr h) = h.1

  -- as its primary
  module _ (leads : is_primary row m ≡ true) where
    pub awake : IsGone w.nodes w.crashed row.version m → ⊥
    awake (inl d) = not_both (is_among w.crashed m) d lives
    awake (inr f) = go (f n at)
      where
        go : IsGoneAt row.version n → ⊥
        go (inl l) = absurd (omega (arith, l, newer))
        go (inr d) = absurd (omega (arith, d.0, newer))

    pub all_below : (u : ℕ) → IsBase w.recorded.bases u → u < row.version
    all_below u b = go (cases (nat_lt u row.version))
      where
        go : (nat_lt u row.version ≡ true) ⊎ (nat_lt u row.version ≡ false) → u < row.version
        go (inl t) = less u row.version t
        go (inr t) = let k = Awake.base_known w made inv.frame m (shape row) row_in leads awake n at u b (not_less u row.version t) in let l = not_less u row.version t in absurd (omega (arith, k, l, newer))

    pub reset_is : row.reset ≡ w.recorded.standing.reset
    reset_is = Awake.same_reset w made inv.frame m (shape row) row_in leads awake

    pub reset_low : w.recorded.standing.reset ≤ row.version
    reset_low = Awake.standing_reset w made inv.frame m (shape row) row_in leads awake

    pub eligible : is_eligible w.recorded.standing m ≡ true
    eligible = Awake.eligible_standing w made inv.frame m (shape row) row_in leads awake

    module _ (c r : ℕ) (e : Option Earlier) (hs : List Held) (bp : Pair) (bp_count : bp.count ≡ c) (bp_is : (bp ≡ n.pair) ⊎ (bp ≡ no_pair))
        (earlier_ok : (k : Earlier) → e ≡ Some k → (1 ≤ k.version) × (k.version < row.version) × IsBase w.recorded.bases k.version × IsPrimaryIn made k.version m × (bp ≡ record { version = k.version; count = c }))
        (begins : List (Entry C)) (begins_is : start_of w.recorded.openings w.recorded.log (record { version = row.version; reset = row.reset; pair = bp }) w.recorded.bases ≡ begins)
        (begins_resets : filter is_reset begins ≡ filter is_reset w.recorded.log)
        (begins_kept : (h : Held) → In h w.released → Stands h begins)
        (held_ok : (h : Held) → In h hs → (h.seen ≤ c) × Stands h begins) where
      abbrev pub n' : Node
      n' = headed row c r e hs

      abbrev pub b : Base
      b = record { version = row.version; reset = row.reset; pair = bp }

      abbrev pub bs : List Base
      bs = b ∷ w.recorded.bases

      pub began : IsBase bs row.version
      began = (b, inl refl, refl)

      pub forward : NodeForward w.recorded.bases bs made m n n'
      forward = record {
        known_up = omega (arith, newer);
        stays = λ s z k. absurd (omega (arith, newer, s));
        pair_up = inr (inl (row.version, began, omega (arith, pair_known, newer), le_refl row.version));
        count_up = λ p i. let l = all_below row.version i in absurd (omega (arith, l));
      }

      pub top : IsUpTo (slice_set w.nodes m n') row.version c
      top k y a p s = go (get_set w.nodes m k n' y a)
        where
          go : ((k ≡ m) × (n' ≡ y)) ⊎ ((k ≢ m) × NodeAt w.nodes k y) → c ≤ y.pair.count
          go (inl q) = subst (λ (z : Node). c ≤ z.pair.count) q.1 (le_refl c)
          go (inr q) = absurd (q.0 (one_primary inv.frame.rows (shape y.known) (shape row) k m (inv.frame.nodes k y q.1).known row_in s p leads))

      pub lead_frame : Frame (record w { nodes = slice_set w.nodes m n'; recorded = record w.recorded { bases = bs } }) made
      lead_frame = frame_step w made inv.frame m n n' at bs w.packets w.recorded.log w.released (record {
        forward = forward;
        bases_in = λ k i. inr i;
        node = node;
        acks = record { taken = tt; opening = λ z. absurd (true≢false (sym z)) };
        top = top;
        packets = packets_kept w made inv.frame m n n' at bs forward (λ k i. inr i) w.packets inv.frame.packets;
        falling = (low, falling_under w.recorded.bases (w.service.row.version + 1) row.version inv.frame.falling all_below);
        bases = (based, bases_kept w made inv.frame m n n' at bs forward (λ k i. inr i));
        pairs = pairs;
        log = log_kept w made inv.frame m n n' at bs forward (λ k i. inr i);
      })
        where
          pairs : (k : Base) → In k bs → PairUp (slice_set w.nodes m n') bs k
          pairs k (inr i) = pairs_kept w made inv.frame m n n' at bs forward (λ k i. inr i) k i
          pairs k (inl s) = subst (λ q. PairUp (slice_set w.nodes m n') bs q) s (in_bases bp_is, subst (λ q. IsUpTo (slice_set w.nodes m n') row.version q) (sym bp_count) top, old bp_is)
            where
              in_bases : (bp ≡ n.pair) ⊎ (bp ≡ no_pair) → (bp ≡ no_pair) ⊎ IsBase bs bp.version
              in_bases (inr z) = inl z
              in_bases (inl z) = subst (λ (q : Pair). (q ≡ no_pair) ⊎ IsBase bs q.version) (sym z) (⊎_elim (λ y. inl y) (λ y. inr (y.0.0, inr y.0.1, y.0.2)) ok.pair)

              old : (bp ≡ n.pair) ⊎ (bp ≡ no_pair) → IsUpTo (slice_set w.nodes m n') bp.version bp.count
              old (inr z) = λ j y a q v. let t : bp.count ≡ 0 = ap (λ (q : Pair). q.count) z in omega (arith, t)
              old (inl z) = subst (λ (q : Pair). IsUpTo (slice_set w.nodes m n') q.version q.count) (sym z)
                  (top_forward w.nodes (slice_set w.nodes m n') w.recorded.bases bs made made w.crashed w.crashed (set_forward w.nodes w.recorded.bases bs made w.crashed m n n' at forward (λ k i. inr i)) m n ok (inv.frame.tops m n at))

          low : row.version < w.service.row.version + 1
          low = let l = inv.frame.rows.newest_top (shape row) row_in in omega (arith, l)

          node : NodeOk bs made m n'
          node = record {
            known = row_in;
            pair = inr (began, le_refl row.version);
            primary = λ p. (refl, began);
            held = λ p. absurd (not_both (is_primary row m) leads p);
            earlier = λ k p s. let h = earlier_ok k s in (h.0, h.1, (h.2.0, inr h.2.1, h.2.2), h.3, (b, inl refl, refl, h.4));
            adopted = λ p. le_refl c;
          }

          based : BaseOk (slice_set w.nodes m n') made b
          based = record {
            row = shape row;
            made_row = row_in;
            version = refl;
            reset = refl;
            primary = m;
            heads = leads;
            knows = λ y a. let same : n' ≡ y = cc (set_get_same w.nodes m n' n at, a) in subst (λ (z : Node). row.version ≤ z.known.version) same (le_refl row.version);
          }

      pub start_is : start_at w.recorded.openings w.recorded.log bs row.version ≡ begins
      start_is = start_first w.recorded.openings w.recorded.log b w.recorded.bases row.version refl ∙ begins_is

      pub start_old : (v : ℕ) → IsBase w.recorded.bases v → start_at w.recorded.openings w.recorded.log bs v ≡ start_at w.recorded.openings w.recorded.log w.recorded.bases v
      start_old v i = let l = all_below v i in start_later w.recorded.openings w.recorded.log b w.recorded.bases v (omega (arith, l))

      pub pair_low : (p : Pair) → IsPair w.recorded.bases p → p.version < row.version
      pair_low p (inl z) = let y : p.version ≡ 0 = ap (λ (q : Pair). q.version) z in omega (arith, y, newer)
      pair_low p (inr i) = all_below p.version i

      pub history_old : (p : Pair) → IsPair w.recorded.bases p → history w.recorded.openings w.recorded.log bs p ≡ history w.recorded.openings w.recorded.log w.recorded.bases p
      history_old p i = let l = pair_low p i in history_skips w.recorded.openings w.recorded.log b w.recorded.bases p (omega (arith, l))

      pub tight : Falling (row.version + 1) bs
      tight = (omega arith, falling_under w.recorded.bases (w.service.row.version + 1) row.version inv.frame.falling all_below)

      pub stands_new : (k : ℕ) (h : Held) → Stands h begins → Stands h (history w.recorded.openings w.recorded.log bs (record { version = row.version; count = k }))
      stands_new k h s = stands_start w.recorded.openings w.recorded.log bs (row.version + 1) (record { version = row.version; count = k }) h tight began (subst (λ es. Stands h es) (sym start_is) s)

      pub lead_content : ContentOk o (record w { nodes = slice_set w.nodes m n'; recorded = record w.recorded { bases = bs } }) made
      lead_content = content_step o w made inv.frame inv.content m n' bs w.recorded.log (record {
        rising = inv.content.rising;
        good = good_based o w.recorded.openings w.recorded.log b w.recorded.bases inv.content.rising below inv.content.opened inv.content.good;
        opened = inv.content.opened;
        resets = record { started = started; opened = inv.content.resets.opened; none = inv.content.resets.none };
        history_kept = λ p h i s. subst (λ es. Stands h es) (sym (history_old p i)) s;
        start_kept = λ v h i s. subst (λ es. Stands h es) (sym (start_old v i)) s;
        start_new = start_new;
        kept = λ h i j. rw (is_not_less row.version w.recorded.standing.reset reset_low) (stands_new c h (begins_kept h j));
        base_kept = λ v h i z j k l. inr (inl (all_below v i));
        held = λ h i. let k = held_ok h i in (k.0, stands_new h.seen h k.1);
      }) w.packets
        where
          below : Every (IsBelow row.version) w.recorded.log
          below = every_weaker (EntryOk w.nodes w.recorded.bases) (IsBelow row.version) w.recorded.log one inv.frame.log
            where
              one : (x : Entry C) → EntryOk w.nodes w.recorded.bases x → IsBelow row.version x
              one (Called x) k = all_below x.version k.0
              one (Reset q) k = tt

          started : (k : Base) → In k bs → k.reset ≡ w.recorded.standing.reset → filter is_reset (start_at w.recorded.openings w.recorded.log bs k.version) ≡ filter is_reset w.recorded.log
          started k (inl s) z = ap (λ (q : Base). filter is_reset (start_at w.recorded.openings w.recorded.log bs q.version)) (sym s) ∙ ap (λ es. filter is_reset es) start_is ∙ begins_resets
          started k (inr i) z = ap (λ es. filter is_reset es) (start_old k.version (k, i, refl)) ∙ inv.content.resets.started k i z

          start_new : (v : ℕ) → IsBase bs v → IsBase w.recorded.bases v ⊎ ((h : Held) → In h w.released → Stands h (start_at w.recorded.openings w.recorded.log bs v))
          start_new v (k, inl s, z) = inr (λ h i. subst (λ u. Stands h (start_at w.recorded.openings w.recorded.log bs u)) (ap (λ (q : Base). q.version) s ∙ z) (subst (λ es. Stands h es) (sym start_is) (begins_kept h i)))
          start_new v (k, inr i, z) = inl (k, i, z)

      pub lead : Invariant o (record w { nodes = slice_set w.nodes m n'; recorded = record w.recorded { bases = bs } }) made
      lead = record { frame = lead_frame; content = lead_content }

    -- begun anew: the contents are those at the reopening
    pub lead_anew : (hs : List Held) → ((h : Held) → In h hs → ⊥) → n.pair.version < row.reset → Invariant o (record w { nodes = slice_set w.nodes m (headed row 0 0 None hs); recorded = record w.recorded { bases = record { version = row.version; reset = row.reset; pair = no_pair } ∷ w.recorded.bases } }) made
    lead_anew hs none l = lead 0 0 None hs no_pair refl (inr refl) (λ k s. absurd cc) (opening_at w.recorded.standing.reset w.recorded.openings) begins_is (inv.content.resets.opened (omega (arith, l, reset_is)))
        (λ h i. rw (is_less n.pair.version w.recorded.standing.reset (omega (arith, l, reset_is))) at (inv.content.kept m n h eligible at i)) (λ h i. absurd (none h i))
      where
        begins_is : start_of w.recorded.openings w.recorded.log (record { version = row.version; reset = row.reset; pair = no_pair }) w.recorded.bases ≡ opening_at w.recorded.standing.reset w.recorded.openings
        begins_is =
            let zero : (row.reset == 0) ≡ false = number_other row.reset 0 (omega (arith, l)) in
            rw (zero) (ap (λ r. opening_at r w.recorded.openings) reset_is)

    module _ (whole : row.reset ≤ n.pair.version) where
      pub reset_at : w.recorded.standing.reset ≤ n.pair.version
      reset_at = omega (arith, whole, reset_is)

      pub begins_old : start_of w.recorded.openings w.recorded.log (record { version = row.version; reset = row.reset; pair = n.pair }) w.recorded.bases ≡ history w.recorded.openings w.recorded.log w.recorded.bases n.pair
      begins_old = go (cases (row.reset == 0))
        where
          go : ((row.reset == 0) ≡ true) ⊎ ((row.reset == 0) ≡ false) → start_of w.recorded.openings w.recorded.log (record { version = row.version; reset = row.reset; pair = n.pair }) w.recorded.bases ≡ history w.recorded.openings w.recorded.log w.recorded.bases n.pair
          go (inl z) = rw z refl
          go (inr z) = let d = other_number row.reset 0 z in let y : (n.pair.version == 0) ≡ false = number_other n.pair.version 0 (omega (arith, d, whole)) in rw (z, y) refl

      pub old_kept : (h : Held) → In h w.released → Stands h (history w.recorded.openings w.recorded.log w.recorded.bases n.pair)
      old_kept h i = rw (is_not_less n.pair.version w.recorded.standing.reset reset_at) at (inv.content.kept m n h eligible at i)

      pub lead_promoted : Invariant o (record w { nodes = slice_set w.nodes m (headed row n.pair.count 0 None []); recorded = record w.recorded { bases = record { version = row.version; reset = row.reset; pair = n.pair } ∷ w.recorded.bases } }) made
      lead_promoted = lead n.pair.count 0 None [] n.pair refl (inl refl) (λ k s. absurd cc) (history w.recorded.openings w.recorded.log w.recorded.bases n.pair) begins_old (resets_history o w made inv m n at reset_at) old_kept (λ h i. absurd i)

      pub lead_stays : is_primary n.known m ≡ true
          → Invariant o (record w { nodes = slice_set w.nodes m (headed row n.pair.count n.recent (Some (record { version = n.known.version; acks = n.acks })) n.held); recorded = record w.recorded { bases = record { version = row.version; reset = row.reset; pair = n.pair } ∷ w.recorded.bases } }) made
      lead_stays p = lead n.pair.count n.recent (Some (record { version = n.known.version; acks = n.acks })) n.held n.pair refl (inl refl) earlier (history w.recorded.openings w.recorded.log w.recorded.bases n.pair) begins_old (resets_history o w made inv m n at reset_at) old_kept held
        where
          knows : n.pair.version ≡ n.known.version
          knows = (ok.primary p).0

          earlier : (k : Earlier) → Some (record { version = n.known.version; acks = n.acks }) ≡ Some k → (1 ≤ k.version) × (k.version < row.version) × IsBase w.recorded.bases k.version × IsPrimaryIn made k.version m × (n.pair ≡ record { version = k.version; count = n.pair.count })
          earlier k s =
              let same : record { version = n.known.version; acks = n.acks } ≡ k = cc in
              subst (λ (j : Earlier). (1 ≤ j.version) × (j.version < row.version) × IsBase w.recorded.bases j.version × IsPrimaryIn made j.version m × (n.pair ≡ record { version = j.version; count = n.pair.count })) same
              (inv.frame.rows.positive (shape n.known) ok.known, newer, (ok.primary p).1, (shape n.known, ok.known, refl, p), ap (λ v. record { version = v; count = n.pair.count }) knows)

          held : (h : Held) → In h n.held → (h.seen ≤ n.pair.count) × Stands h (history w.recorded.openings w.recorded.log w.recorded.bases n.pair)
          held h i =
              let k = inv.content.held m n h at i in (
                k.0,
                subst (λ v. Stands h (history w.recorded.openings w.recorded.log w.recorded.bases (record { version = v; count = n.pair.count }))) (sym knows)
                    (stands_more w.recorded.openings w.recorded.log w.recorded.bases (w.service.row.version + 1) n.known.version h.seen n.pair.count h inv.frame.falling (ok.primary p).1 k.0 k.1),
              )

  -- as another member, or as none
  module _ (other : is_primary row m ≡ false) where
    -- a row made after the newest that isn't lost has no members
    pub past_standing : w.recorded.standing.version < row.version → (row.lost ≡ true) × (w.service.row.lost ≡ true)
    past_standing l = (true_or_not row.lost not_still, lost)
      where
        top : row.version ≤ w.service.row.version
        top = inv.frame.rows.newest_top (shape row) row_in

        lost : w.service.row.lost ≡ true
        lost = true_or_not w.service.row.lost (λ e. let same : w.recorded.standing.version ≡ w.service.row.version = ap (λ (k : Row). k.version) (inv.frame.standing.now e) in absurd (omega (arith, top, l, same)))

        not_still : row.lost ≡ false → ⊥
        not_still e =
            let at_top : row.version ≡ w.service.row.version = omega (arith, top, l, inv.frame.standing.next lost) in
            not_both w.service.row.lost lost (ap (λ (s : Shape). s.lost) (sym (inv.frame.rows.one (shape row) (shape w.service.row) row_in inv.frame.rows.newest_in at_top)) ∙ e)

    module _ (p : Pair) (pair_ok : (p ≡ n.pair) ⊎ ((p ≡ no_pair) × HasLeft w.recorded.bases made n.pair.version m row.version))
        (kept : (h : Held) → is_eligible w.recorded.standing m ≡ true → In h w.released → Stands h (content w.recorded.openings w.recorded.log w.recorded.bases w.recorded.standing.reset p)) where
      pub side : Invariant o (record w { nodes = slice_set w.nodes m (sided row p) }) made
      side = quiet_step o w made inv m n at (sided row p) forward node (record { taken = tt; opening = λ z. absurd (true≢false (sym z)) }) top kept (λ v h i r j e k. base_kept v h (inv.content.base_kept v m n h i r j e at k)) (λ h i. absurd i)
        where
          forward : NodeForward w.recorded.bases w.recorded.bases made m n (sided row p)
          forward = record {
            known_up = omega (arith, newer);
            stays = λ s z k. absurd (omega (arith, newer, s));
            pair_up = up pair_ok;
            count_up = λ q i. absurd (not_both (is_primary row m) q other);
          }
            where
              up : (p ≡ n.pair) ⊎ ((p ≡ no_pair) × HasLeft w.recorded.bases made n.pair.version m row.version) → ((p.version ≡ n.pair.version) × (n.pair.count ≤ p.count)) ⊎ HasLeft w.recorded.bases made n.pair.version m row.version
              up (inl e) = inl (ap (λ (q : Pair). q.version) e, le_of_eq (ap (λ (q : Pair). q.count) (sym e)))
              up (inr h) = inr h.1

          whole : Forward w.nodes (slice_set w.nodes m (sided row p)) w.recorded.bases w.recorded.bases made made w.crashed w.crashed
          whole = set_forward w.nodes w.recorded.bases w.recorded.bases made w.crashed m n (sided row p) at forward (λ d i. i)

          in_bases : (p ≡ n.pair) ⊎ ((p ≡ no_pair) × HasLeft w.recorded.bases made n.pair.version m row.version) → (p ≡ no_pair) ⊎ (IsBase w.recorded.bases p.version × (p.version ≤ row.version))
          in_bases (inr h) = inl h.0
          in_bases (inl e) = subst (λ (q : Pair). (q ≡ no_pair) ⊎ (IsBase w.recorded.bases q.version × (q.version ≤ row.version))) (sym e) (⊎_elim (λ z. inl z) (λ h. inr (h.0, omega (arith, h.1, newer))) ok.pair)

          node : NodeOk w.recorded.bases made m (sided row p)
          node = record {
            known = row_in;
            pair = in_bases pair_ok;
            primary = λ q. absurd (not_both (is_primary row m) q other);
            held = λ q. refl;
            earlier = λ k q s. absurd (not_both (is_primary row m) q other);
            adopted = λ q. absurd (not_both (is_primary row m) q other);
          }

          top : IsUpTo (slice_set w.nodes m (sided row p)) p.version p.count
          top = go pair_ok
            where
              go : (p ≡ n.pair) ⊎ ((p ≡ no_pair) × HasLeft w.recorded.bases made n.pair.version m row.version) → IsUpTo (slice_set w.nodes m (sided row p)) p.version p.count
              go (inl e) = subst (λ (q : Pair). IsUpTo (slice_set w.nodes m (sided row p)) q.version q.count) (sym e) (top_forward w.nodes (slice_set w.nodes m (sided row p)) w.recorded.bases w.recorded.bases made made w.crashed w.crashed whole m n ok (inv.frame.tops m n at))
              go (inr h) = λ k y a q s. let z : p.count ≡ 0 = ap (λ (q : Pair). q.count) h.0 in omega (arith, z)

          base_kept : (v : ℕ) (h : Held) → HasKept w.recorded.openings w.recorded.log w.recorded.bases v n h → HasKept w.recorded.openings w.recorded.log w.recorded.bases v (sided row p) h
          base_kept v h (inl s) = inl s
          base_kept v h (inr (inl l)) = inr (inl (omega (arith, l, newer)))
          base_kept v h (inr (inr d)) = inr (inl (omega (arith, d.0, pair_known, newer)))

    pub side_whole : Invariant o (record w { nodes = slice_set w.nodes m (sided row n.pair) }) made
    side_whole = side n.pair (inl refl) (λ h e i. inv.content.kept m n h e at i)

    -- the contents of an eligible member that drops them are those at the reopening
    pub emptied_kept : n.pair.version < w.recorded.standing.reset → (h : Held) → is_eligible w.recorded.standing m ≡ true → In h w.released → Stands h (content w.recorded.openings w.recorded.log w.recorded.bases w.recorded.standing.reset no_pair)
    emptied_kept l h e i = rw (is_less 0 w.recorded.standing.reset (omega (arith, l))) (rw (is_less n.pair.version w.recorded.standing.reset l) at (inv.content.kept m n h e at i))

    pub side_emptied : is_in row m ≡ true → n.pair.version < row.reset → Invariant o (record w { nodes = slice_set w.nodes m (sided row no_pair) }) made
    side_emptied there l = side no_pair (inr (refl, inr (inr (shape row, row_in, l, omega (arith, pair_known, newer), le_refl row.version)))) (emptied_kept (omega (arith, l, reset_up)))
      where
        in_standing : row.version ≤ w.recorded.standing.version
        in_standing = go (cases (nat_lt w.recorded.standing.version row.version))
          where
            go : (nat_lt w.recorded.standing.version row.version ≡ true) ⊎ (nat_lt w.recorded.standing.version row.version ≡ false) → row.version ≤ w.recorded.standing.version
            go (inl t) = absurd (not_both (is_in row m) there (none_among (numbers_of row) m (inv.frame.rows.lost (shape row) row_in (past_standing (less w.recorded.standing.version row.version t)).0)))
            go (inr t) = not_less w.recorded.standing.version row.version t

        reset_up : row.reset ≤ w.recorded.standing.reset
        reset_up = go (cases (nat_lt w.recorded.standing.reset row.reset))
          where
            old : row.reset ≤ row.version
            old = inv.frame.rows.old_reset (shape row) row_in

            go : (nat_lt w.recorded.standing.reset row.reset ≡ true) ⊎ (nat_lt w.recorded.standing.reset row.reset ≡ false) → row.reset ≤ w.recorded.standing.reset
            go (inl t) = let k = less w.recorded.standing.reset row.reset t in le_of_eq (inv.frame.rows.same_reset (shape row) (shape w.recorded.standing) row_in inv.frame.standing.made_row in_standing (omega (arith, k, old)))
            go (inr t) = not_less w.recorded.standing.reset row.reset t

    pub side_idle : is_in row m ≡ false → Invariant o (record w { nodes = slice_set w.nodes m (sided row no_pair) }) made
    side_idle out = side no_pair (inr (refl, inr (inl (shape row, row_in, omega (arith, pair_known, newer), le_refl row.version, out)))) kept
      where
        kept : (h : Held) → is_eligible w.recorded.standing m ≡ true → In h w.released → Stands h (content w.recorded.openings w.recorded.log w.recorded.bases w.recorded.standing.reset no_pair)
        kept h e i = go (cases (nat_lt w.recorded.standing.version row.version))
          where
            since : (is_in row m ≡ true) ⊎ ((u : ℕ) × IsBase w.recorded.bases u × (row.version < u) × (u ≤ n.known.version)) ⊎ (row.version < w.recorded.standing.reset) → Stands h (content w.recorded.openings w.recorded.log w.recorded.bases w.recorded.standing.reset no_pair)
            since (inl j) = absurd (not_both (is_in row m) j out)
            since (inr (inl u)) = absurd (omega (arith, u.2, u.3, newer))
            since (inr (inr l)) = emptied_kept (omega (arith, l, pair_known, newer)) h e i

            go : (nat_lt w.recorded.standing.version row.version ≡ true) ⊎ (nat_lt w.recorded.standing.version row.version ≡ false) → Stands h (content w.recorded.openings w.recorded.log w.recorded.bases w.recorded.standing.reset no_pair)
            go (inl t) = absurd (not_both (is_among w.crashed m) (inv.frame.standing.after_loss (past_standing (less w.recorded.standing.version row.version t)).1 m e) lives)
            go (inr t) = since (inv.frame.since m n (shape row) e at row_in (not_less w.recorded.standing.version row.version t))

-- the node after it, case by case

pub and_false : (a b : Bool) → b ≡ false → (a && b) ≡ false
and_false true b e = e
and_false false b e = refl

pub adopted_anew : (m : ℕ) (row : Row) (n : Node) → is_primary row m ≡ true → nat_lt n.pair.version row.reset ≡ true → adopted_row m row n ≡ headed row 0 0 None (carried_answers m n)
adopted_anew m row n p l = rw (p, l) (ap (λ b. adopt_as_primary row b (carried_answers m n) (emptied n)) (and_false (is_primary n.known m) false refl))

pub adopted_stays : (m : ℕ) (row : Row) (n : Node) → is_primary row m ≡ true → nat_lt n.pair.version row.reset ≡ false → is_primary n.known m ≡ true
    → adopted_row m row n ≡ headed row n.pair.count n.recent (Some (record { version = n.known.version; acks = n.acks })) n.held
adopted_stays m row n p l k = rw (p, l, k) refl

pub adopted_promoted : (m : ℕ) (row : Row) (n : Node) → is_primary row m ≡ true → nat_lt n.pair.version row.reset ≡ false → is_primary n.known m ≡ false → adopted_row m row n ≡ headed row n.pair.count 0 None []
adopted_promoted m row n p l k = rw (p, l, k) refl

pub adopted_backup : (m : ℕ) (row : Row) (n : Node) → is_primary row m ≡ false → is_in row m ≡ true → nat_lt n.pair.version row.reset ≡ false → adopted_row m row n ≡ sided row n.pair
adopted_backup m row n p i l = rw (p, i, l) refl

pub adopted_emptied : (m : ℕ) (row : Row) (n : Node) → is_primary row m ≡ false → is_in row m ≡ true → nat_lt n.pair.version row.reset ≡ true → adopted_row m row n ≡ sided row no_pair
adopted_emptied m row n p i l = rw (p, i, l) refl

pub adopted_idle : (m : ℕ) (row : Row) (n : Node) → is_primary row m ≡ false → is_in row m ≡ false → adopted_row m row n ≡ sided row no_pair
adopted_idle m row n p i = rw (p, i) refl

pub adopted_known : (m : ℕ) (row : Row) (n : Node) → (adopted_row m row n).known ≡ row
adopted_known m row n =
    on_if (λ (a : Node). a.known ≡ row) (is_primary row m) (adopt_as_primary row (stays_primary row n m) (carried_answers m n) (begun row n)) (cond (is_backup row m) (adopt_as_other row (begun row n).pair) (adopt_as_other row no_pair)) refl
    (on_if (λ (a : Node). a.known ≡ row) (is_backup row m) (adopt_as_other row (begun row n).pair) (adopt_as_other row no_pair) refl refl)

-- the bases after it

pub base_of_led : (m : ℕ) (row : Row) (n : Node) (c r : ℕ) (e : Option Earlier) (hs : List Held) (bs : List Base) (p : Pair) → nat_lt n.known.version row.version ≡ true → is_primary row m ≡ true
    → cond (nat_lt n.pair.version row.reset) no_pair n.pair ≡ p → bases_after m n (headed row c r e hs) bs ≡ record { version = row.version; reset = row.reset; pair = p } ∷ bs
base_of_led m row n c r e hs bs p l k s = rw (l, k) (ap (λ q. record { version = row.version; reset = row.reset; pair = q } ∷ bs) s)

pub base_of_other : (m : ℕ) (row : Row) (n : Node) (p : Pair) (bs : List Base) → is_primary row m ≡ false → bases_after m n (sided row p) bs ≡ bs
base_of_other m row n p bs k = rw (and_false (nat_lt n.known.version row.version) (is_primary row m) k) refl

pub pair_anew : (n : Node) (row : Row) → nat_lt n.pair.version row.reset ≡ true → cond (nat_lt n.pair.version row.reset) no_pair n.pair ≡ no_pair
pair_anew n row e = rw e refl

pub pair_whole : (n : Node) (row : Row) → nat_lt n.pair.version row.reset ≡ false → cond (nat_lt n.pair.version row.reset) no_pair n.pair ≡ n.pair
pair_whole n row e = rw e refl

module _ {C State : Type 0} (o : Object C State) (w : World C) (made : List Shape) (inv : Invariant o w made) (m : ℕ) (n : Node) (at : NodeAt w.nodes m n) (lives : is_among w.crashed m ≡ false)
    (row : Row) (row_in : In (shape row) made) (newer : nat_lt n.known.version row.version ≡ true) where
  -- the goal, at the node after it
  abbrev pub Adopts : Node → Type 0
  Adopts a = Invariant o (record w { nodes = slice_set w.nodes m a; recorded = record w.recorded { bases = bases_after m n a w.recorded.bases } }) made

  pub l : n.known.version < row.version
  l = less n.known.version row.version newer

  pub by_bases : (a : Node) (ks : List Base) → bases_after m n a w.recorded.bases ≡ ks → Invariant o (record w { nodes = slice_set w.nodes m a; recorded = record w.recorded { bases = ks } }) made → Adopts a
  by_bases a ks e i = subst (λ k. Invariant o (record w { nodes = slice_set w.nodes m a; recorded = record w.recorded { bases = k } }) made) (sym e) i

  -- a primary that is begun anew holds nothing
  pub none_held : n.pair.version < row.reset → (h : Held) → In h (carried_answers m n) → ⊥
  none_held r h i = go (is_primary n.known m) refl i
    where
      known : In (shape n.known) made
      known = (inv.frame.nodes m n at).known

      go : (b : Bool) → is_primary n.known m ≡ b → In h (cond b n.held []) → ⊥
      go false e i = i
      go true e i =
          let pair = ((inv.frame.nodes m n at).primary e).0 in
          Awake.no_later_reset w made inv.frame m (shape n.known) known e (not_gone o w made inv m n at lives e h i) (shape row) row_in (omega (arith, r, pair))

  pub adopts_led : is_primary row m ≡ true → (nat_lt n.pair.version row.reset ≡ true) ⊎ (nat_lt n.pair.version row.reset ≡ false) → (is_primary n.known m ≡ true) ⊎ (is_primary n.known m ≡ false) → Adopts (adopted_row m row n)
  adopts_led p (inl t) k =
      rw (adopted_anew m row n p t) (by_bases (headed row 0 0 None (carried_answers m n)) (record { version = row.version; reset = row.reset; pair = no_pair } ∷ w.recorded.bases)
      (base_of_led m row n 0 0 None (carried_answers m n) w.recorded.bases no_pair newer p (pair_anew n row t)) (lead_anew o w made inv m n at lives row row_in l p (carried_answers m n) (none_held (less n.pair.version row.reset t)) (less n.pair.version row.reset t)))
  adopts_led p (inr t) (inl k) =
      let e : Option Earlier = Some (record { version = n.known.version; acks = n.acks }) in
      rw (adopted_stays m row n p t k) (by_bases (headed row n.pair.count n.recent e n.held) (record { version = row.version; reset = row.reset; pair = n.pair } ∷ w.recorded.bases)
      (base_of_led m row n n.pair.count n.recent e n.held w.recorded.bases n.pair newer p (pair_whole n row t)) (lead_stays o w made inv m n at lives row row_in l p (not_less n.pair.version row.reset t) k))
  adopts_led p (inr t) (inr k) =
      rw (adopted_promoted m row n p t k) (by_bases (headed row n.pair.count 0 None []) (record { version = row.version; reset = row.reset; pair = n.pair } ∷ w.recorded.bases)
      (base_of_led m row n n.pair.count 0 None [] w.recorded.bases n.pair newer p (pair_whole n row t)) (lead_promoted o w made inv m n at lives row row_in l p (not_less n.pair.version row.reset t)))

  pub adopts_other : is_primary row m ≡ false → (is_in row m ≡ true) ⊎ (is_in row m ≡ false) → (nat_lt n.pair.version row.reset ≡ true) ⊎ (nat_lt n.pair.version row.reset ≡ false) → Adopts (adopted_row m row n)
  adopts_other p (inr i) t = rw (adopted_idle m row n p i) (by_bases (sided row no_pair) w.recorded.bases (base_of_other m row n no_pair w.recorded.bases p) (side_idle o w made inv m n at lives row row_in l p i))
  adopts_other p (inl i) (inl t) = rw (adopted_emptied m row n p i t) (by_bases (sided row no_pair) w.recorded.bases (base_of_other m row n no_pair w.recorded.bases p) (side_emptied o w made inv m n at lives row row_in l p i (less n.pair.version row.reset t)))
  adopts_other p (inl i) (inr t) = rw (adopted_backup m row n p i t) (by_bases (sided row n.pair) w.recorded.bases (base_of_other m row n n.pair w.recorded.bases p) (side_whole o w made inv m n at lives row row_in l p))

  pub adopts : Adopts (adopted_row m row n)
  adopts = ⊎_elim (λ p. adopts_led p (cases (nat_lt n.pair.version row.reset)) (cases (is_primary n.known m))) (λ p. adopts_other p (cases (is_in row m)) (cases (nat_lt n.pair.version row.reset))) (cases (is_primary row m))
