use Rattle.std.proofs.Common.{Err, List, map, ap, subst}
use Rattle.line_told.specs.declared.told.Told.{Told}
use Rattle.replay_run.specs.declared.run_end.RunEnd.TheVariants.{InFlight}
use Rattle.replay_run.proofs.Asking.{handed_on}
use Rattle.script_run.specs.AfterLines.{noting}
use Rattle.script_run.specs.Grids.{AreNear}
use Rattle.script_run.specs.Outputs.{messages_in}
use Rattle.script_run.specs.Runs.{ruled_of}
use Rattle.script_run.proofs.Playing.{grid_may, has_played, given_up_played}
use Rattle.script_run.proofs.grid.ScriptGrid.run_on_grid.Goals as goal

pub run_line-requires : goal.run_line-requires
run_line-requires g c = grid_may c.requires

pub returns-in_err-run_line-clause-full : goal.returns-in_err-run_line-clause-full
returns-in_err-run_line-clause-full g c = λ settings s goes was.
    let why = handed_on c.from_residual.result c.in_err-run_line.field-0.0 InFlight c.from_residual.ensures.1 was in
    given_up_played s c.args.line.now (c.in_err-run_line.ensures.full settings (ruled_of s) goes.grid (ap Err why))

pub returns-clause-ok : goal.returns-clause-ok
returns-clause-ok g c = λ settings s goes.
    let nears = c.note_all.new.nears in
    has_played (record c.args.self.now { grid = c.run_line.new.self; nears = nears }) s c.args.line.now c.new-ready.result c.run_line.new.out c.new-ready.ensures.told c.new-ready.ensures.printed
    (subst (λ (told : List Told). AreNear nears.items (map (noting (messages_in told)) s.nears)) c.as_slice.ensures.value (c.in_ok-note_all.ensures s.nears goes.nears))
    (c.in_ok-run_line.ensures.ok settings (ruled_of s) goes.grid)
