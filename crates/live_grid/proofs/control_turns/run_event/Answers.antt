use Rattle.std.proofs.Common.{ap, ◌∙◌, sym, Some}
use Rattle.live_grid.proofs.Following.{went_on}
use Rattle.live_grid.proofs.control_turns.run_event.Goals as goal

pub deliver_all-pass-requires-clause-cell : goal.deliver_all-pass-requires-clause-cell
deliver_all-pass-requires-clause-cell g c = c.requires.cell ∙ ap Some (sym c.event_turn-pass.ensures.table)

pub returns-in-Ok : goal.returns-in-Ok
returns-in-Ok g c = λ plan there.
    went_on plan c.args.event c.args.pass c.event_turn-pass.result.0 c.deliver_all-pass.result c.in-Ok.happened
    (Rattle.std.proofs.Common.subst (Rattle.live_grid.specs.Control.CameTo plan c.args.event c.args.pass c.event_turn-pass.result.0) c.in-Ok.is (c.event_turn-pass.ensures.came plan there)) c.deliver_all-pass.ensures

pub returns-in-Err : goal.returns-in-Err
returns-in-Err g c = λ plan there.
    Rattle.std.proofs.Common.subst (Rattle.live_grid.specs.Control.CameTo plan c.args.event c.args.pass c.event_turn-pass.result.0) c.in-Err.is (c.event_turn-pass.ensures.came plan there)
