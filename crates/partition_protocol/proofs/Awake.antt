-- A member that is not yet done with a version of which it is primary: it is primary of every later row.
use Rattle.std.proofs.Common.{◌≡◌, ℕ, ◌<◌, ◌≤◌, true, false, List, nat_lt, sym, subst, ◌⊎◌, inl, inr, arith}
use Rattle.partition_table.specs.Rows.{is_among, is_first, is_primary, is_eligible, numbers_of}
use Rattle.partition_protocol.specs.Node.{Node}
use Rattle.partition_protocol.specs.World.{World}
use Rattle.partition_table.specs.declared.Row.{Row}
use Rattle.partition_protocol.proofs.Lists.{In, every_in, cases}
use Rattle.partition_protocol.proofs.Histories.{IsBase}
use Rattle.partition_protocol.proofs.Invariant.{Shape, shape, NodeAt, IsGone, BaseOk, Frame}
use Rattle.partition_protocol.proofs.RowFacts.{not_less, less, not_both, false_or_not, true_or_not, one_first, no_first, first_primary, first_eligible_in}
use Rattle.partition_protocol.proofs.Forward.{le_cases}

module _ {C : Type 0} (w : World C) (made : List Shape) (frame : Frame w made) (m : ℕ) (r : Shape) (r_in : In r made) (leads : is_first r.members m ≡ true) (awake : IsGone w.nodes w.crashed r.version m → ⊥) where
  pub leads_on : (s : Shape) → In s made → r.version < s.version → is_first s.members m ≡ true
  leads_on s i l = true_or_not (is_first s.members m) (λ e. awake (frame.gone r s m r_in i l leads e))

  pub leads_from : (s : Shape) → In s made → r.version ≤ s.version → is_first s.members m ≡ true
  leads_from s i l = go (le_cases r.version s.version l)
    where
      go : (r.version ≡ s.version) ⊎ (r.version < s.version) → is_first s.members m ≡ true
      go (inl e) = subst (λ (t : Shape). is_first t.members m ≡ true) (frame.rows.one r s r_in i e) leads
      go (inr k) = leads_on s i k

  pub at_most_top : r.version ≤ w.service.row.version
  at_most_top = frame.rows.newest_top r r_in

  pub not_lost : w.service.row.lost ≡ false
  not_lost = false_or_not w.service.row.lost (λ e. not_both (is_primary w.service.row m) (leads_from (shape w.service.row) frame.rows.newest_in at_most_top)
      (no_first (numbers_of w.service.row) m (frame.rows.lost (shape w.service.row) frame.rows.newest_in e)))

  pub standing_is : w.recorded.standing ≡ w.service.row
  standing_is = frame.standing.now not_lost

  pub at_most_standing : r.version ≤ w.recorded.standing.version
  at_most_standing = subst (λ (k : Row). r.version ≤ k.version) (sym standing_is) at_most_top

  pub leads_standing : is_primary w.recorded.standing m ≡ true
  leads_standing = leads_from (shape w.recorded.standing) frame.standing.made_row at_most_standing

  pub eligible_standing : is_eligible w.recorded.standing m ≡ true
  eligible_standing =
      let same : frame.standing.first ≡ m = one_first (numbers_of w.recorded.standing) frame.standing.first m (first_primary w.recorded.standing frame.standing.first frame.standing.rest frame.standing.begins) leads_standing in
      subst (λ k. is_eligible w.recorded.standing k ≡ true) same (first_eligible_in w.recorded.standing frame.standing.first frame.standing.rest frame.standing.begins)

  -- it knows each later version that began
  pub base_known : (n : Node) → NodeAt w.nodes m n → (u : ℕ) → IsBase w.recorded.bases u → r.version ≤ u → u ≤ n.known.version
  base_known n at u b l = go (every_in (BaseOk w.nodes made) w.recorded.bases b.0 frame.bases b.1)
    where
      go : BaseOk w.nodes made b.0 → u ≤ n.known.version
      go k =
          let later : r.version ≤ k.row.version = omega (arith, l, b.2, k.version) in
          let same : k.primary ≡ m = one_first k.row.members k.primary m k.heads (leads_from k.row k.made_row later) in
          let knows = k.knows n (subst (λ j. NodeAt w.nodes j n) (sym same) at) in
          omega (arith, knows, b.2)

  pub no_later_reset : (s : Shape) → In s made → r.version < s.reset → ⊥
  no_later_reset s i l = let b = frame.rows.lost_between r s r_in i l in not_both (is_first b.0.members m) (leads_from b.0 b.1 b.3) (no_first b.0.members m b.2)

  pub standing_reset : w.recorded.standing.reset ≤ r.version
  standing_reset = go (cases (nat_lt r.version w.recorded.standing.reset))
    where
      go : (nat_lt r.version w.recorded.standing.reset ≡ true) ⊎ (nat_lt r.version w.recorded.standing.reset ≡ false) → w.recorded.standing.reset ≤ r.version
      go (inl t) = absurd (no_later_reset (shape w.recorded.standing) frame.standing.made_row (less r.version w.recorded.standing.reset t))
      go (inr t) = not_less r.version w.recorded.standing.reset t

  pub same_reset : r.reset ≡ w.recorded.standing.reset
  same_reset = frame.rows.same_reset r (shape w.recorded.standing) r_in frame.standing.made_row at_most_standing standing_reset

  -- an eligible member is in the row, or joined since
  pub eligible_there : (q : ℕ) (x : Node) → is_eligible w.recorded.standing q ≡ true → NodeAt w.nodes q x → (is_among r.members q ≡ true) ⊎ ((u : ℕ) × IsBase w.recorded.bases u × (r.version < u))
  eligible_there q x e a = go (frame.since q x r e a r_in at_most_standing)
    where
      go : (is_among r.members q ≡ true) ⊎ ((u : ℕ) × IsBase w.recorded.bases u × (r.version < u) × (u ≤ x.known.version)) ⊎ (r.version < w.recorded.standing.reset) → (is_among r.members q ≡ true) ⊎ ((u : ℕ) × IsBase w.recorded.bases u × (r.version < u))
      go (inl i) = inl i
      go (inr (inl u)) = inr (u.0, u.1, u.2)
      go (inr (inr l)) = let k = standing_reset in absurd (omega (arith, l, k))
