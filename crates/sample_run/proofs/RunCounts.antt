-- What lines leave of a run: its members, and how many lines were run.
use Rattle.std.proofs.Common.{◌≡◌, ◌+◌, List, [], ◌∷◌, length, refl, ◌∙◌, arith}
use Rattle.grid_base.specs.declared.names.CallId.{CallId}
use Rattle.grid_base.specs.Objects.{Object}
use Rattle.grid_base.specs.declared.calls.Request.{Request}
use Rattle.object_store.specs.Partitions.{Partition}
use Rattle.replay_run.specs.Runs.{Run}
use Rattle.replay_run.specs.AfterLines.{after_line, after_lines}
use Rattle.script_lang.specs.declared.line.Line.{Line}
use Rattle.replay_run.proofs.LineCounts.{line_counted}

module _ (o : Object Request Partition) (skips : List CallId) where
  pub lines_members : (r : Run) (lines : List Line) → (after_lines o skips r lines).members ≡ r.members
  lines_members r [] = refl
  lines_members r (line ∷ lines) = lines_members (after_line o skips r line) lines ∙ (line_counted o skips r line).members

  pub lines_counted : (r : Run) (lines : List Line) → (after_lines o skips r lines).lines ≡ r.lines + length lines
  lines_counted r [] = omega arith
  lines_counted r (line ∷ lines) =
      let rest = lines_counted (after_line o skips r line) lines in
      let one = (line_counted o skips r line).lines in
      omega (arith, rest, one)
