use Rattle.std.proofs.Common.{sym, ap, ◌∙◌, subst}
use Rattle.hand_cell.specs.Names.{Permits, IsNewKey}
use Rattle.partition_threads.proofs.Places.{plan_at}
use Rattle.live_grid.proofs.Following.{came_in_turn}
use Rattle.live_grid.proofs.control_turns.event_turn.Goals as goal

pub run-came-requires-clause-named : goal.run-came-requires-clause-named
run-came-requires-clause-named g c κs within =
    subst (Permits c.enter-turn.result.pass.names) (sym c.requires.key) (ap (λ p. Rattle.hand_cell.specs.Names.has p.names Rattle.hand_cell.specs.declared.names.Key.TheVariants.Control) c.enter-turn.ensures.turn.pass ∙ c.requires.named)

pub run-came-requires-clause-unused : goal.run-came-requires-clause-unused
run-came-requires-clause-unused g c κs within = subst (λ k. IsNewKey Rattle.live_grid.specs.Histories.live_key k c.enter-turn.result.pass.seen) (sym c.requires.key) tt

pub returns-clause-came : goal.returns-clause-came
returns-clause-came g c = λ plan there.
    let cell = c.index.result.now in
    came_in_turn plan c.args.event c.args.pass c.enter-turn.result c.run-came.new.self c.leave.result c.run-came.result c.enter-turn.ensures.turn
    (c.enter-turn.ensures.plan ∙ plan_at c.args.place.now.cells.items c.args.partition c.from.result plan cell there c.from.ensures c.index.ensures)
    c.run-came.ensures.pass c.run-came.ensures.ran c.run-came.ensures.gives c.run-came.ensures.refused c.leave.ensures

pub returns-clause-table : goal.returns-clause-table
returns-clause-table g c = ap (λ p. p.table) c.leave.ensures ∙ (ap (λ p. p.table) c.run-came.ensures.pass ∙ ap (λ p. p.table) c.enter-turn.ensures.turn.pass)
