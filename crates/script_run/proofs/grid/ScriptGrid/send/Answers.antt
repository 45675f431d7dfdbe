use Rattle.std.proofs.lemmas.Result.{IfOk-weaker}
use Rattle.script_run.specs.Runs.{ruled_of}
use Rattle.script_run.proofs.Playing.{goes_as, may_play_as}
use Rattle.script_run.proofs.NearLines.{may_play_sent, has_sent}
use Rattle.script_run.proofs.grid.ScriptGrid.send.Goals as goal

pub mark_spoken-requires : goal.mark_spoken-requires
mark_spoken-requires g c = (c.requires.settings, c.requires.run, c.requires.stands, c.requires.read.0)

pub run_on_grid-requires : goal.run_on_grid-requires
run_on_grid-requires g c = may_play_as c.mark_spoken.ensures.rest (may_play_sent c.requires)

pub returns-clause-ok : goal.returns-clause-ok
returns-clause-ok g c = λ settings s stands.
    IfOk-weaker c.run_on_grid.result _ _
    (has_sent c.run_on_grid.new.self c.mark_spoken.new.self s c.args.conn c.args.bytes (λ skips. c.mark_spoken.ensures.spoken settings s c.args.bytes skips stands c.requires.read.1) c.run_on_grid.ensures.spoken)
    (c.run_on_grid.ensures.ok settings s (goes_as c.mark_spoken.ensures.rest stands.goes))

pub returns-clause-full : goal.returns-clause-full
returns-clause-full g c = λ settings s stands full. c.run_on_grid.ensures.full settings s (goes_as c.mark_spoken.ensures.rest stands.goes) full
