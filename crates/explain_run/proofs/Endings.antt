-- A story that is over goes on as any does.
use Rattle.replay_run.specs.Grids.{FormOf}
use Rattle.explain_run.specs.declared.story.Stage.{Stage}
use Rattle.explain_run.specs.declared.story.Stage.TheVariants.{Waiting, Running, Ended}
use Rattle.explain_run.specs.Stories.{RunsLines, HasEnded}

pub ended_runs : {V : Type 0} {T : V → Type 0} (form : FormOf V T) (stage : Stage V T) → HasEnded stage → RunsLines form stage
ended_runs form (Waiting processors) ended = absurd ended
ended_runs form (Running watch) ended = absurd ended
ended_runs form Ended ended = tt
