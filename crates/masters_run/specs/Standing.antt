-- A partition with its masters stands for a list of lines of its own: what `masters_world` proves of every list of lines holds of it.
use Rattle.std.specs.Prelude.{◌≡◌, ℕ, ◌<◌, ◌≤◌, List, length}
use Rattle.grid_base.specs.Objects.{Object}
use Rattle.grid_base.specs.declared.calls.Request.{Request}
use Rattle.masters_world.specs.Machine.{Line, start, after, events}
use Rattle.replay_run.specs.Runs.{partitions, events_at}
use Rattle.masters_run.specs.Runs.{RuledRun, masters_at}

-- The masters are those of these lines, and what happened to the partition is what these lines make happen.
pub record IsOfLines {State : Type 0} (o : Object Request State) (s : RuledRun) (p : ℕ) (lines : List (Line Request)) : Type 0 where
  pub masters : (after o (start p s.run.members s.run.backups) lines).masters ≡ masters_at s p
  pub happened : events o (start p s.run.members s.run.backups) lines ≡ events_at p s.run.events

-- each partition has its masters, and lines for which it stands
pub record IsRuled {State : Type 0} (o : Object Request State) (s : RuledRun) : Type 0 where
  pub count : length s.masters ≡ partitions
  pub some : 1 ≤ s.run.members
  pub most : s.run.members ≤ 8
  pub lines : (p : ℕ) → p < partitions → List (Line Request)
  pub stands : (p : ℕ) (low : p < partitions) → IsOfLines o s p (lines p low)
