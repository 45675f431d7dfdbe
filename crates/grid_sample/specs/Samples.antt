-- What a sample prints, and what it has done.
use Rattle.std.specs.Prelude.{◌≡◌, ◌⊎◌, ℕ, ℤ, pos, List, [], ◌∷◌, ◌++◌, Option, Some, None, IfSome, IfNone, codes}
use Rattle.std.specs.Fmt.{signed_decimal}
use Rattle.entry_processors.specs.declared.form.Form.{Form}
use Rattle.partition_protocol.specs.Sequences.{IsFrontOf}
use Rattle.script_lang.specs.Words.{space, newline}
use Rattle.grid_cli.specs.Transcripts.{limit_text}
use Rattle.grid_cli.specs.declared.status.LimitWhat.TheVariants.{InFlight}
use Rattle.grid_cli.specs.declared.status.Status.{Status}
use Rattle.grid_cli.specs.declared.status.Status.TheVariants.{Done as IsDone, WriteFault, Limit as IsLimit, Memory}
use Rattle.grid_edge.specs.Faults.{Rose}
use Rattle.live_grid.specs.declared.grid.GridPass.{GridPass}
use Rattle.live_grid.specs.declared.grid.LiveGrid.{LiveGrid}
use Rattle.sample_run.specs.Summaries.{EndsSo, IsCertain, row, summary_text}
use Rattle.sample_run.specs.declared.sample.Sampled.{Sampled}
use Rattle.sample_run.specs.declared.sample.Sampled.TheVariants.{Done, Limit}
use Rattle.sample_run.specs.declared.summary.Summary.{Summary}
use Rattle.counted_calls.specs.Counts.{HasCounted}
use Rattle.counted_calls.specs.declared.counting.Counted.{Counted}
use Rattle.grid_sample.specs.declared.counts.TheConstants.{CAPACITY, KEY}

-- as text

-- what is printed of the script's run: its summary, or the line at which it was given up
abbrev pub sampled_text : Sampled → List ℕ
sampled_text (Done summary) = summary_text summary
sampled_text (Limit line) = limit_text line InFlight

-- 0 where what is stored is no number
abbrev pub or_zero : Option ℤ → ℤ
or_zero None = pos 0
or_zero (Some n) = n

abbrev pub counted_text : Counted → List ℕ
counted_text counts =
    row (codes "counted") counts.answered
    ++ codes "total" ++ space ∷ signed_decimal (or_zero counts.total) ++ newline ∷ []

-- what came of the two parts

-- The script of the number was run to this end
pub record CameTo (number : ℕ) (sampled : Sampled) : Type 0 where
  pub ends : EndsSo number sampled
  pub certain : IsCertain number sampled

-- The calls were counted on this grid, as this text tells
pub record HasCountedAs (forms : List Form) (grid : LiveGrid) (pass : GridPass) (text : List ℕ) : Type 0 where
  pub counts : Counted
  pub counted : HasCounted forms CAPACITY KEY grid pass counts
  pub text_is : text ≡ counted_text counts

-- what each part prints

-- the summary of the number's script
pub record IsSummaryText (number : ℕ) (text : List ℕ) : Type 0 where
  pub summary : Summary
  pub came : CameTo number (Done summary)
  pub text_is : text ≡ summary_text summary

-- what was printed where a sample stops in its first part: the limit that the script met, a front of what was to be printed, or nothing
abbrev pub StopsAtScript : ℕ → Status → List ℕ → Type 0
StopsAtScript number (IsLimit InFlight) text = (line : ℕ) × CameTo number (Limit line) × (text ≡ limit_text line InFlight)
StopsAtScript number WriteFault text = (sampled : Sampled) × CameTo number sampled × IsFrontOf text (sampled_text sampled)
StopsAtScript number Memory text = text ≡ []
StopsAtScript number _ text = ⊥

-- and where it stops in its second
abbrev pub StopsAtCounts : List Form → Status → List ℕ → Type 0
StopsAtCounts forms WriteFault text = (grid : LiveGrid) × (pass : GridPass) × (whole : List ℕ) × HasCountedAs forms grid pass whole × IsFrontOf text whole
StopsAtCounts forms Memory text = text ≡ []
StopsAtCounts forms _ text = ⊥

-- a text was written of which this holds
abbrev pub Writes : List ℕ → List ℕ → (List ℕ → Type 0) → Type 0
Writes before after P = (text : List ℕ) × (after ≡ before ++ text) × P text

-- the sample

-- The whole text is the summary of the number's script, and behind it what the calls came to on this grid
pub record IsWhole (number : ℕ) (forms : List Form) (grid : LiveGrid) (pass : GridPass) (text : List ℕ) : Type 0 where
  pub first : List ℕ
  pub second : List ℕ
  pub parts : text ≡ first ++ second
  pub summary : IsSummaryText number first
  pub counts : HasCountedAs forms grid pass second

-- The sample stopped in its second part
pub record StopsBehindSummary (number : ℕ) (forms : List Form) (status : Status) (text : List ℕ) : Type 0 where
  pub first : List ℕ
  pub second : List ℕ
  pub parts : text ≡ first ++ second
  pub summary : IsSummaryText number first
  pub stops : StopsAtCounts forms status second

-- what was printed where it stops with this status
abbrev pub StopsWith : ℕ → List Form → Status → List ℕ → Type 0
StopsWith number forms status text = StopsAtScript number status text ⊎ StopsBehindSummary number forms status text

-- A sample of this number ended with this status: it is done exactly where it hands a grid back, on which the calls were counted. What was
-- written is then the whole text, and else as much of it as the status says. Writing failed only where the sink counted a fault
pub record HasSampled (number : ℕ) (forms : List Form) (status : Status) (held : Option (LiveGrid × GridPass)) (before after : List ℕ) (faults faults_after : ℕ) : Type 0 where
  pub text : List ℕ
  pub taken : after ≡ before ++ text
  pub done : IfSome held (λ made. (status ≡ IsDone) × IsWhole number forms made.0 made.1 text)
  pub stops : IfNone held (StopsWith number forms status text)
  pub write_fault : status ≡ WriteFault → Rose faults faults_after
