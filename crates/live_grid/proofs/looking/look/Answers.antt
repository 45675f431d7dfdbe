use Rattle.std.proofs.Common.{◌∙◌, sym, subst}
use Rattle.hand_cell.specs.Told.{so_far}
use Rattle.partition_threads.proofs.Places.{plan_at}
use Rattle.live_grid.specs.Lives.{LiveStands}
use Rattle.live_grid.proofs.Looks.{looked_in_turn}
use Rattle.live_grid.proofs.looking.look.Goals as goal

pub stored-found-requires : goal.stored-found-requires
stored-found-requires g c =
    let turn = c.enter-turn.result in
    (turn.plan, so_far turn, subst (λ live. LiveStands live turn.plan (so_far turn)) (sym c.value.ensures.value) c.value.ensures.stands)

pub returns : goal.returns
returns g c = λ plan there.
    let turn = c.enter-turn.result in
    let live = c.value.result.now in
    let stands = subst (λ w. LiveStands w turn.plan (so_far turn)) (sym c.value.ensures.value) c.value.ensures.stands in
    looked_in_turn plan c.args.key.now c.args.pass turn c.leave.result c.stored-found.result c.enter-turn.ensures.turn
    (c.enter-turn.ensures.plan ∙ plan_at c.args.place.now.cells.items c.args.partition c.from.result plan c.index.result.now there c.from.ensures c.index.ensures)
    live stands (c.stored-found.ensures turn.plan (so_far turn) stands) c.leave.ensures
