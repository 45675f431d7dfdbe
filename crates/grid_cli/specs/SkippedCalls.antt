-- A transcript that tells of no call that found no memory is the one of a run in which every call found memory.
use Rattle.std.specs.Prelude.{◌≡◌, ◌⊎◌, ℕ, List, []}
use Rattle.grid_base.specs.declared.names.CallId.{CallId}
use Rattle.partition_protocol.specs.Sequences.{IsFrontOf}
use Rattle.entry_processors.specs.Processors.{ProcessorForm}
use Rattle.replay_run.specs.SkippedCalls.{TellsOfNoSkip}
use Rattle.grid_cli.specs.PrintedRuns.{printed_run}
use Rattle.grid_cli.specs.Transcripts.{Transcript, following, too_long, transcript}
use Rattle.grid_cli.specs.declared.status.LimitWhat.TheVariants.{InFlight}

-- The run of the first was given up, and what it had printed begins the second too.
pub record AgreeUntilGivenUp (given_up other : Transcript) : Type 0 where
  pub text : List ℕ
  pub line : ℕ
  pub stops : given_up ≡ following text (too_long line InFlight)
  pub stands : IsFrontOf text other.text

abbrev pub Agree : Transcript → Transcript → Type 0
Agree t u = (t ≡ u) ⊎ AgreeUntilGivenUp t u

-- Where no message that a transcript prints is an error 10, it is the transcript without skips; of a run that was given up this holds of the lines before.
abbrev pub EveryTranscriptThatTellsOfNoSkipHasNone : Type 0
EveryTranscriptThatTellsOfNoSkipHasNone = (forms : List ProcessorForm) (skips : List CallId) (script : List ℕ) → TellsOfNoSkip (printed_run forms skips script).run
    → Agree (transcript forms skips script) (transcript forms [] script)
