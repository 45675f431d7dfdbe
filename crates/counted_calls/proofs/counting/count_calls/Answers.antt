use Rattle.std.proofs.Common.{◌≡◌, ℕ, List, length, sym, subst}
use Rattle.live_grid.specs.declared.grid.LiveGrid.{LiveGrid}
use Rattle.live_grid.specs.Grids.{AreCells, place_of}
use Rattle.counted_calls.specs.Counts.{HasCounted}
use Rattle.counted_calls.specs.declared.counting.Counted.{Counted}
use Rattle.counted_calls.proofs.Ended.{has_counted}
use Rattle.counted_calls.proofs.Regained.{pass_of_grid}
use Rattle.counted_calls.proofs.counting.count_calls.Goals as goal

pub stored-requires-clause-pass : goal.stored-requires-clause-pass
stored-requires-clause-pass g c =
    pass_of_grid c.new-stage.result.grid c.take_back.new.pass
    (subst (λ (grid : LiveGrid). length (place_of grid).cells.items ≡ 271) (sym c.new-stage.ensures.grid) c.in_ok-grid.ensures.of_grid.as_many) c.in_ok-answered.ensures.kept

pub returns : goal.returns
returns g c =
    let forms = c.args.forms.now in
    let capacity = c.args.capacity in
    let stage = c.new-stage.result in
    let counts : Counted = record { answered = c.in_ok-answered.answered; total = c.number_found-total.result } in
    let cells = subst (λ (grid : LiveGrid). AreCells 3 1 forms capacity (place_of grid).cells.items) (sym c.new-stage.ensures.grid) c.in_ok-grid.ensures.cells in
    let counted = has_counted c.every_count_is_what_is_stored.ensures stage.grid forms capacity stage.key c.in_ok-answered.answered c.take_back.new.pass c.stored.new.pass
    c.in_ok-name.name c.in_ok-found.found c.number_found-total.result cells c.in_ok-answered.ensures.gathered c.in_ok-found.ensures.looked c.in_ok-name.ensures c.number_found-total.ensures in
    subst (λ (grid : LiveGrid). HasCounted forms capacity c.args.key grid c.stored.new.pass counts) (sym c.into_grid.ensures)
    (subst (λ (key : List ℕ). HasCounted forms capacity key stage.grid c.stored.new.pass counts) c.new-stage.ensures.key counted)
