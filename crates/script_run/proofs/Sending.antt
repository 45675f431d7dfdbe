-- What a near client sends is told as a line of bytes is: an outcome, and behind it what that brings.
use Rattle.std.proofs.Common.{◌≡◌, ℕ, Bool, true, false, cond, List, [], ◌++◌, refl, ap, ◌∙◌}
use Rattle.grid_base.specs.declared.names.CallId.{CallId}
use Rattle.call_engine.specs.Calls.{Settings}
use Rattle.call_engine.specs.Objects.{partition_object}
use Rattle.partition_protocol.proofs.Lists.{on_if}
use Rattle.script_lang.specs.declared.line.Line.TheVariants.{Arrive}
use Rattle.line_told.specs.declared.told.LineOutcome.{LineOutcome}
use Rattle.line_told.specs.declared.told.LineOutcome.TheVariants as outcome
use Rattle.line_told.specs.declared.told.Told.{Told}
use Rattle.replay_run.specs.LineTold.{came_to, outcome_told, messages_told, line_closing}
use Rattle.replay_run.specs.Printing.{does_nothing}
use Rattle.masters_run.specs.LineTold.{grid_told, ruled_told, unruled_told, line_told}
use Rattle.masters_run.specs.Runs.{RuledRun, has_masters}
use Rattle.script_run.specs.LineTold.{brought}

module _ (settings : Settings) (skips : List CallId) (s : RuledRun) (c : ℕ) (bytes : List ℕ) (next : RuledRun) where
  -- Masters tell nothing of bytes.
  bytes_told : line_told settings skips s (Arrive c bytes) next ≡ grid_told settings skips s (Arrive c bytes) next
  bytes_told =
      let line = Arrive c bytes in
      on_if (λ told. told ≡ grid_told settings skips s line next) (has_masters s) (ruled_told settings skips s line next) (unruled_told settings skips s line next) refl refl

  pub is_brought : (came : LineOutcome) × (line_told settings skips s (Arrive c bytes) next ≡ came_to came ++ brought settings skips s.run c bytes next.run)
  is_brought = by (does_nothing (partition_object settings) s.run (Arrive c bytes)) bytes_told
    where
      followed : List Told
      followed = messages_told settings skips s.run (Arrive c bytes) next.run

      closing : List Told
      closing = line_closing next.run (Arrive c bytes)

      by : (idle : Bool) → line_told settings skips s (Arrive c bytes) next ≡ cond idle (came_to outcome.Idle) (outcome_told settings s.run (Arrive c bytes) next.run ++ followed ++ closing)
          → (came : LineOutcome) × (line_told settings skips s (Arrive c bytes) next ≡ came_to came ++ cond idle [] (followed ++ closing))
      by true is = (outcome.Idle, is)
      by false is = (outcome.Ran, is)
