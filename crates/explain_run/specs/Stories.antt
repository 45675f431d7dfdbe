-- What the grid of a story stands for, and how far it is.
use Rattle.std.specs.Prelude.{ℕ}
use Rattle.replay_run.specs.Grids.{FormOf}
use Rattle.running_grid.specs.Runs.{IsRunning}
use Rattle.explain_run.specs.declared.story.Stage.{Stage}
use Rattle.explain_run.specs.declared.story.Stage.TheVariants.{Waiting, Running, Ended}
use Rattle.explain_run.specs.declared.story.Story.{Story}

-- A grid that runs a story's lines is one of a script.
abbrev pub RunsLines : {V : Type 0} {T : V → Type 0} → FormOf V T → Stage V T → Type 0
RunsLines form (Waiting processors) = Unit {0}
RunsLines form (Running watch) = IsRunning form watch.running
RunsLines form Ended = Unit {0}

-- between two lines of a story
abbrev pub GoesOn : {V : Type 0} {T : V → Type 0} → FormOf V T → Story V T → Type 0
GoesOn form story = RunsLines form story.stage

abbrev pub HasEnded : {V : Type 0} {T : V → Type 0} → Stage V T → Type 0
HasEnded (Waiting processors) = ⊥
HasEnded (Running watch) = ⊥
HasEnded Ended = Unit {0}

-- Nothing more is run.
abbrev pub IsOver : {V : Type 0} {T : V → Type 0} → Story V T → Type 0
IsOver story = HasEnded story.stage

-- how many of its lines ran, with the one that ended it
abbrev pub lines_of : {V : Type 0} {T : V → Type 0} → Story V T → ℕ
lines_of story = story.lines
