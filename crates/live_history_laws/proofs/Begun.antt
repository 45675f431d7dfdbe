-- The first member of the newest row has the history by which the partition stands.
use Rattle.std.proofs.Common.{◌≡◌, ℕ, ◌≤◌, false, List, [], ◌∷◌, Option, Some, refl, sym, ap, ◌∙◌, subst}
use Rattle.grid_base.specs.Objects.{Object}
use Rattle.partition_table.specs.declared.Row.{Row}
use Rattle.partition_table.specs.declared.RowMember.{RowMember}
use Rattle.partition_table.specs.Rows.{first_of, is_empty}
use Rattle.partition_protocol.specs.Node.{Node, Pair}
use Rattle.partition_protocol.specs.History.{state_after}
use Rattle.partition_protocol.specs.World.{World, start, trail, trail_at, pair_history, pair_state}
use Rattle.partition_protocol.specs.Events.{Event, run}
use Rattle.partition_protocol.proofs.Events.{Good}
use Rattle.partition_protocol.proofs.Invariant.{NodeAt}
use Rattle.partition_protocol.proofs.LostRows.{every_row_is_lost_if_empty}
use Rattle.partition_protocol.proofs.RowFacts.{is_not_less}
use Rattle.partition_protocol.proofs.Safe.{first_node}
use Rattle.partition_protocol.proofs.Theorem.{grid_good}
use Rattle.partition_world.specs.ContentsOf.{pair_at}

led : (rs : List RowMember) (first : ℕ) → first_of rs ≡ Some first → is_empty rs ≡ false
led [] first is = absurd cc
led (r ∷ rs) first is = refl

same_some : {A : Type 0} (a b : A) → ◌≡◌ {A = Option A} (Some a) (Some b) → a ≡ b
same_some a b e = cc

-- it has contents of the rows since the last reopening
trail_of_first : {C : Type 0} (w : World C) (first : ℕ) (node : Node) → w.recorded.standing ≡ w.service.row → first_of w.service.row.members ≡ Some first → NodeAt w.nodes first node → w.service.row.reset ≤ node.pair.version
    → trail w ≡ pair_history w node.pair
trail_of_first w first node stands leads there since =
    let least : w.recorded.standing.reset ≤ node.pair.version = subst (λ (r : Row). r.reset ≤ node.pair.version) (sym stands) since in
    ap (trail_at w) (ap (λ (r : Row). first_of r.members) stands ∙ leads) ∙ rw (there, is_not_less node.pair.version w.recorded.standing.reset least) refl

module _ {C State : Type 0} (o : Object C State) (partition members backups : ℕ) (events : List (Event C)) (some : 1 ≤ members) where
  abbrev w : World C
  w = run o (start partition members backups) events

  good : Good o w
  good = grid_good o partition members backups events some

  pub not_lost : (first : ℕ) → first_of w.service.row.members ≡ Some first → w.service.row.lost ≡ false
  not_lost first leads = (every_row_is_lost_if_empty o partition members backups events some).newest ∙ led w.service.row.members first leads

  pub first_has_trail : (first : ℕ) → first_of w.service.row.members ≡ Some first → w.service.row.reset ≤ (pair_at w first).version → pair_state o w (pair_at w first) ≡ state_after o o.empty (trail w)
  first_has_trail first leads since =
      let stands : w.recorded.standing ≡ w.service.row = good.1.frame.standing.now (not_lost first leads) in
      let node = first_node o w good.0 good.1 in
      let same : good.1.frame.standing.first ≡ first = same_some good.1.frame.standing.first first (sym (ap first_of good.1.frame.standing.begins) ∙ (ap (λ (r : Row). first_of r.members) stands ∙ leads)) in
      let there : NodeAt w.nodes first node.0 = subst (λ m. NodeAt w.nodes m node.0) same node.1 in
      let pair : pair_at w first ≡ node.0.pair = rw there refl in
      ap (pair_state o w) pair ∙ ap (state_after o o.empty) (sym (trail_of_first w first node.0 stands leads there (subst (λ (p : Pair). w.service.row.reset ≤ p.version) pair since)))
