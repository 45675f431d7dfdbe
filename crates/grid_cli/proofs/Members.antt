-- No line changes how many members a grid has.
use Rattle.std.proofs.Common.{◌≡◌, ◌≤◌, List, refl, ◌∙◌}
use Rattle.grid_base.specs.declared.names.CallId.{CallId}
use Rattle.grid_base.specs.Objects.{Object}
use Rattle.grid_base.specs.declared.calls.Request.{Request}
use Rattle.object_store.specs.Partitions.{Partition}
use Rattle.replay_run.specs.Runs.{Run}
use Rattle.replay_run.specs.ScriptRuns.{IsRun}
use Rattle.script_lang.specs.declared.line.Line.{Line}
use Rattle.replay_run.proofs.EventRuns.{takes_kept}
use Rattle.replay_run.proofs.LineCounts.{IsCounted, line_counted}
use Rattle.replay_run.proofs.RunsOfLines.{run_ok}
use Rattle.masters_run.specs.Runs.{RuledRun}
use Rattle.masters_run.specs.AfterLines.{after_line}
use Rattle.masters_run.proofs.RuledRuns.{line_keeps}

-- with masters or without, it is one line more
pub ruled_line_counted : (o : Object Request Partition) (skips : List CallId) (s : RuledRun) (line : Line) → IsCounted s.run (after_line o skips s line).run
ruled_line_counted o skips s line =
    line_keeps o skips (IsCounted s.run) (λ r counted. record { members = counted.members; lines = counted.lines })
    (λ r p e quiet counted. let kept = takes_kept o skips r p e in record { members = kept.members ∙ counted.members; lines = kept.lines ∙ counted.lines })
    s line (record { members = refl; lines = refl }) (line_counted o skips s.run line)

pub members_stay : (o : Object Request Partition) (skips : List CallId) (s : RuledRun) (line : Line) → (after_line o skips s line).run.members ≡ s.run.members
members_stay o skips s line = (ruled_line_counted o skips s line).members

-- and it has some
pub has_members : {o : Object Request Partition} (r : Run) → IsRun o r → 1 ≤ r.members
has_members r is = (run_ok is).members
