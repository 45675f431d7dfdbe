use Rattle.std.proofs.Common.{◌≡◌, take}
use Rattle.replay_run.specs.Runs.{reopened_at}
use Rattle.replay_run.proofs.grid.Grid.reopened_lines.Given as goal

-- the lines of those that were looked at
abbrev pub invariant-loop-place : goal.invariant-loop-place
invariant-loop-place g l = l.lines.items ≡ reopened_at l.partition (take l.place l.self.reopened.items)
