-- What every event keeps is safe.
use Rattle.std.proofs.Common.{◌≡◌, ◌<◌, ◌≢◌, ℕ, ◌+◌, ◌≤◌, true, false, not, ◌==◌, nat_lt, List, [], ◌∷◌, filter, Contains, Some, refl, ap, sym, ◌∙◌, subst, ◌⊎◌, ⊎_elim, inl, inr, arith}
use Rattle.std.proofs.lemmas.Bool.Decides.{nat_tests}
use Rattle.partition_table.specs.Rows.{is_among, is_first, is_primary, is_in, is_eligible, numbers_of, first_of}
use Rattle.partition_protocol.specs.Node.{Pair, Held, Node, no_pair}
use Rattle.grid_base.specs.Objects.{Object}
use Rattle.partition_protocol.specs.History.{Entry, Base, Opening, history, opening_at, IsLegal}
use Rattle.partition_protocol.specs.World.{World, trail, trail_at, pair_history, is_live}
use Rattle.partition_protocol.specs.Sequences.{IsSubsequence}
use Rattle.partition_protocol.specs.Claims.{Stands, is_reset, IsSafe}
use Rattle.partition_table.specs.declared.Row.{Row}
use Rattle.partition_table.specs.declared.RowMember.{RowMember}
use Rattle.partition_protocol.proofs.Lists.{In, every_in, part_subsequence, in_contains, cases, on_if}
use Rattle.partition_protocol.proofs.Histories.{IsGood, IsBase, start_at, history_good, opened_good, resets_of_history}
use Rattle.partition_protocol.proofs.Invariant.{Shape, shape, NodeAt, BaseOk, Invariant, content, IsGoneAt, IsGone}
use Rattle.partition_protocol.proofs.RowFacts.{one_first, both_right, not_true, not_both, first_among, eligible_in, member_eligible, first_eligible_in, first_primary, no_first, none_among, less, not_less, is_not_less, not_both, false_or_not}

pub trail_first : {C : Type 0} (w : World C) (f : ℕ) (n : Node) → first_of w.recorded.standing.members ≡ Some f → NodeAt w.nodes f n → trail w ≡ content w.recorded.openings w.recorded.log w.recorded.bases w.recorded.standing.reset n.pair
trail_first w f n e g = ap (trail_at w) e ∙ rw (g, trail_at) refl

pub history_none : {C : Type 0} (os : List (Opening C)) (log : List (Entry C)) (bs : List Base) (p : Pair) → ((b : Base) → In b bs → b.version ≢ p.version) → history os log bs p ≡ []
history_none os log [] p f = refl
history_none os log (b ∷ bs) p f = let e : (b.version == p.version) ≡ false = grind (arith, nat_tests, f b (inl refl)) in rw (e, history) (history_none os log bs p (λ c i. f c (inr i)))

module _ {C State : Type 0} (o : Object C State) (w : World C) (made : List Shape) (inv : Invariant o w made) where
  -- the first member of the newest row that isn't lost
  pub first_node : (n : Node) × NodeAt w.nodes inv.frame.standing.first n
  first_node = inv.frame.there inv.frame.standing.first (inv.frame.rows.below (shape w.recorded.standing) inv.frame.standing.first inv.frame.standing.made_row
      (first_among (numbers_of w.recorded.standing) inv.frame.standing.first (first_primary w.recorded.standing inv.frame.standing.first inv.frame.standing.rest inv.frame.standing.begins)))

  pub trail_is : trail w ≡ content w.recorded.openings w.recorded.log w.recorded.bases w.recorded.standing.reset first_node.0.pair
  trail_is = trail_first w inv.frame.standing.first first_node.0 (ap first_of inv.frame.standing.begins) first_node.1

  pub content_good : (r : ℕ) (p : Pair) → IsGood o w.recorded.log (content w.recorded.openings w.recorded.log w.recorded.bases r p)
  content_good r p = on_if (λ es. IsGood o w.recorded.log es) (nat_lt p.version r) (opening_at r w.recorded.openings) (history w.recorded.openings w.recorded.log w.recorded.bases p)
      (opened_good o w.recorded.log r w.recorded.openings inv.content.opened) (history_good o w.recorded.openings w.recorded.log w.recorded.bases p inv.content.rising inv.content.good)

  pub legal : IsLegal o o.empty (trail w)
  legal = rw trail_is (content_good w.recorded.standing.reset first_node.0.pair).legal

  pub in_order : IsSubsequence (trail w) w.recorded.log
  in_order = rw trail_is (part_subsequence (content w.recorded.openings w.recorded.log w.recorded.bases w.recorded.standing.reset first_node.0.pair) w.recorded.log (content_good w.recorded.standing.reset first_node.0.pair).order)

  pub answered : (h : Held) → Contains w.released h → Stands h (trail w)
  answered h c = rw trail_is (inv.content.kept inv.frame.standing.first first_node.0 h
      (first_eligible_in w.recorded.standing inv.frame.standing.first inv.frame.standing.rest inv.frame.standing.begins) first_node.1 (in_contains h w.released c))

  -- a version that began stands no later than the newest row that isn't lost
  pub base_standing : (b : Base) → In b w.recorded.bases → b.version ≤ w.recorded.standing.version
  base_standing b i =
      let ok : BaseOk w.nodes made b = every_in (BaseOk w.nodes made) w.recorded.bases b inv.frame.bases i in
      let top : b.version ≤ w.service.row.version = subst (λ v. v ≤ w.service.row.version) ok.version (inv.frame.rows.newest_top ok.row ok.made_row) in
      ⊎_elim (λ lost. after ok top lost) (λ still. subst (λ (r : Row). b.version ≤ r.version) (sym (inv.frame.standing.now still)) top) (cases w.service.row.lost)
    where
      after : BaseOk w.nodes made b → b.version ≤ w.service.row.version → w.service.row.lost ≡ true → b.version ≤ w.recorded.standing.version
      after ok top lost =
          let newest = shape w.service.row in
          let not_it : b.version ≢ w.service.row.version =
          λ e. let same : ok.row ≡ newest = inv.frame.rows.one ok.row newest ok.made_row inv.frame.rows.newest_in (ok.version ∙ e) in
          not_both (is_first newest.members ok.primary) (subst (λ (s : Shape). is_first s.members ok.primary ≡ true) same ok.heads)
          (no_first newest.members ok.primary (inv.frame.rows.lost newest inv.frame.rows.newest_in lost)) in
          omega (arith, top, not_it, inv.frame.standing.next lost)

  pub base_reset : (b : Base) → In b w.recorded.bases → w.recorded.standing.reset ≤ b.version → b.reset ≡ w.recorded.standing.reset
  base_reset b i l =
      let ok : BaseOk w.nodes made b = every_in (BaseOk w.nodes made) w.recorded.bases b inv.frame.bases i in
      sym ok.reset ∙ inv.frame.rows.same_reset ok.row (shape w.recorded.standing) ok.made_row inv.frame.standing.made_row
      (subst (λ v. v ≤ w.recorded.standing.version) (sym ok.version) (base_standing b i)) (subst (λ v. w.recorded.standing.reset ≤ v) (sym ok.version) l)

  pub base_positive : (b : Base) → In b w.recorded.bases → 1 ≤ b.version
  base_positive b i = let ok : BaseOk w.nodes made b = every_in (BaseOk w.nodes made) w.recorded.bases b inv.frame.bases i in subst (λ v. 1 ≤ v) ok.version (inv.frame.rows.positive ok.row ok.made_row)

  pub resets_history : (m : ℕ) (n : Node) → NodeAt w.nodes m n → w.recorded.standing.reset ≤ n.pair.version → filter is_reset (history w.recorded.openings w.recorded.log w.recorded.bases n.pair) ≡ filter is_reset w.recorded.log
  resets_history m n at l = go (inv.frame.nodes m n at).pair
    where
      go : (n.pair ≡ no_pair) ⊎ (IsBase w.recorded.bases n.pair.version × (n.pair.version ≤ n.known.version)) → filter is_reset (history w.recorded.openings w.recorded.log w.recorded.bases n.pair) ≡ filter is_reset w.recorded.log
      go (inl e) =
          let zero : n.pair.version ≡ 0 = ap (λ (p : Pair). p.version) e in
          let none : history w.recorded.openings w.recorded.log w.recorded.bases n.pair ≡ [] = history_none w.recorded.openings w.recorded.log w.recorded.bases n.pair (λ b i. let p = base_positive b i in omega (arith, p, zero)) in
          ap (λ es. filter is_reset es) none ∙ sym (inv.content.resets.none (omega (arith, l, zero)))
      go (inr (i, k)) =
          let same : i.0.reset ≡ w.recorded.standing.reset = base_reset i.0 i.1 (subst (λ v. w.recorded.standing.reset ≤ v) (sym i.2) l) in
          resets_of_history w.recorded.openings w.recorded.log w.recorded.bases (w.service.row.version + 1) n.pair inv.frame.falling i
          ∙ ap (λ v. filter is_reset (start_at w.recorded.openings w.recorded.log w.recorded.bases v)) (sym i.2) ∙ inv.content.resets.started i.0 i.1 same

  pub resets : filter is_reset (trail w) ≡ filter is_reset w.recorded.log
  resets = rw trail_is (go (cases (nat_lt first_node.0.pair.version w.recorded.standing.reset)))
    where
      go : (nat_lt first_node.0.pair.version w.recorded.standing.reset ≡ true) ⊎ (nat_lt first_node.0.pair.version w.recorded.standing.reset ≡ false) → filter is_reset (content w.recorded.openings w.recorded.log w.recorded.bases w.recorded.standing.reset first_node.0.pair) ≡ filter is_reset w.recorded.log
      go (inl e) = rw e (inv.content.resets.opened (let l = less first_node.0.pair.version w.recorded.standing.reset e in omega (arith, l)))
      go (inr e) = rw e (resets_history inv.frame.standing.first first_node.0 first_node.1 (not_less first_node.0.pair.version w.recorded.standing.reset e))

  pub kept : (q : RowMember) (n : Node) (h : Held) → Contains w.service.row.members q → q.eligible ≡ true → NodeAt w.nodes q.member n → w.service.row.reset ≤ n.pair.version → Contains w.released h → Stands h (pair_history w n.pair)
  kept q n h c e at l r =
      let eligible : is_eligible w.service.row q.member ≡ true = member_eligible w.service.row q (in_contains q w.service.row.members c) e in
      let there : is_in w.service.row q.member ≡ true = eligible_in w.service.row q.member eligible in
      let still : w.service.row.lost ≡ false = false_or_not w.service.row.lost (λ lost. lost_none lost q.member there) in
      let same = inv.frame.standing.now still in
      let has : Stands h (content w.recorded.openings w.recorded.log w.recorded.bases w.recorded.standing.reset n.pair) = inv.content.kept q.member n h (subst (λ (row : Row). is_eligible row q.member ≡ true) (sym same) eligible) at (in_contains h w.released r) in
      by_history (subst (λ (row : Row). row.reset ≤ n.pair.version) (sym same) l) has
    where
      lost_none : w.service.row.lost ≡ true → (m : ℕ) → is_in w.service.row m ≡ true → ⊥
      lost_none lost m i = not_both (is_in w.service.row m) i (none_among (numbers_of w.service.row) m (inv.frame.rows.lost (shape w.service.row) inv.frame.rows.newest_in lost))

      by_history : w.recorded.standing.reset ≤ n.pair.version → Stands h (content w.recorded.openings w.recorded.log w.recorded.bases w.recorded.standing.reset n.pair) → Stands h (pair_history w n.pair)
      by_history k s = rw (is_not_less n.pair.version w.recorded.standing.reset k) at s

  -- a live member that is done with the version that it knows is frozen and holds nothing
  pub done_with : (m : ℕ) (n : Node) → is_live w m ≡ true → NodeAt w.nodes m n → IsGone w.nodes w.crashed n.known.version m → (n.frozen ≡ true) × (n.held ≡ [])
  done_with m n live at (inl c) = absurd (not_both (is_among w.crashed m) c (not_true (is_among w.crashed m) (both_right (nat_lt m w.members) (not (is_among w.crashed m)) live)))
  done_with m n live at (inr f) = of_node (f n at)
    where
      of_node : IsGoneAt n.known.version n → (n.frozen ≡ true) × (n.held ≡ [])
      of_node (inl l) = absurd (omega (arith, l))
      of_node (inr h) = (h.1, h.2)

  pub deposed : (m : ℕ) (n : Node) → is_live w m ≡ true → NodeAt w.nodes m n → is_primary n.known m ≡ true → is_primary w.service.row m ≡ false → (n.frozen ≡ true) × (n.held ≡ [])
  deposed m n live at p d =
      let known = (inv.frame.nodes m n at).known in
      let le = inv.frame.rows.newest_top (shape n.known) known in
      let not_same : n.known.version ≢ w.service.row.version =
      λ e. not_both (is_primary w.service.row m) (subst (λ (s : Shape). is_first s.members m ≡ true) (inv.frame.rows.one (shape n.known) (shape w.service.row) known inv.frame.rows.newest_in e) p) d in
      done_with m n live at (inv.frame.gone (shape n.known) (shape w.service.row) m known inv.frame.rows.newest_in (omega (arith, le, not_same)) p d)

  -- between a version and a later reset a row was lost, of which it wasn't primary
  pub outlived : (m : ℕ) (n : Node) → is_live w m ≡ true → NodeAt w.nodes m n → is_primary n.known m ≡ true → n.known.version < w.service.row.reset → (n.frozen ≡ true) × (n.held ≡ [])
  outlived m n live at p l =
      let known = (inv.frame.nodes m n at).known in
      let lost = inv.frame.rows.lost_between (shape n.known) (shape w.service.row) known inv.frame.rows.newest_in l in
      let none : is_first lost.0.members m ≡ false = no_first lost.0.members m lost.2 in
      let not_same : n.known.version ≢ lost.0.version = λ e. not_both (is_first lost.0.members m) (subst (λ (s : Shape). is_first s.members m ≡ true) (inv.frame.rows.one (shape n.known) lost.0 known lost.1 e) p) none in
      let le = lost.3 in
      done_with m n live at (inv.frame.gone (shape n.known) lost.0 m known lost.1 (omega (arith, le, not_same)) p none)

  pub stopped : (m : ℕ) (n : Node) (b : Base) → is_live w m ≡ true → NodeAt w.nodes m n → is_primary n.known m ≡ true → Contains w.recorded.bases b → n.known.version < b.version → (n.frozen ≡ true) × (n.held ≡ [])
  stopped m n b live at p c l = by_base (every_in (BaseOk w.nodes made) w.recorded.bases b inv.frame.bases (in_contains b w.recorded.bases c))
    where
      by_base : BaseOk w.nodes made b → (n.frozen ≡ true) × (n.held ≡ [])
      by_base k = done_with m n live at (inv.frame.gone (shape n.known) k.row m (inv.frame.nodes m n at).known k.made_row (omega (arith, l, k.version)) p
          (false_or_not (is_first k.row.members m) (λ e. let same = one_first k.row.members k.primary m k.heads e in
          let knows = k.knows n (subst (λ j. NodeAt w.nodes j n) (sym same) at) in absurd (omega (arith, knows, l)))))

  pub safe : IsSafe o w
  safe = record { legal = legal; in_order = in_order; resets = resets; answered = answered; kept = kept; deposed = deposed; outlived = outlived; stopped = stopped }
