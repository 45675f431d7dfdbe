-- What is told of a script's run, in numbers and as text.
use Rattle.std.specs.Prelude.{◌≡◌, ℕ, false, List, [], ◌∷◌, ◌++◌, codes, decimal}
use Rattle.grid_base.specs.declared.names.CallId.{CallId}
use Rattle.script_lang.specs.Words.{space, newline}
use Rattle.replay_run.specs.Runs.{Run}
use Rattle.replay_run.specs.Counts.{counts_of}
use Rattle.sample_run.specs.SampleRuns.{sample_settings, run_of, later_lines, HaveArrived, StopsAt}
use Rattle.sample_run.specs.declared.summary.Summary.{Summary}
use Rattle.sample_run.specs.declared.sample.Sampled.{Sampled}
use Rattle.sample_run.specs.declared.sample.Sampled.TheVariants.{Done, Limit}

abbrev pub summary_after : Run → Summary
summary_after r = record { lines = r.lines; counts = counts_of sample_settings r }

-- the summary of a number: that of the run in which every call finds memory
abbrev pub summary_of : ℕ → Summary
summary_of number = summary_after (run_of [] (later_lines number))

-- All lines of the number's script ran, and of their calls these found no memory.
pub record IsSummaryOf (number : ℕ) (summary : Summary) : Type 0 where
  pub skips : List CallId
  pub arrived : HaveArrived skips (run_of skips (later_lines number))
  pub goes_on : (run_of skips (later_lines number)).full ≡ false
  pub is : summary ≡ summary_after (run_of skips (later_lines number))

-- how the run of a number's script ends
abbrev pub EndsSo : ℕ → Sampled → Type 0
EndsSo number (Done summary) = IsSummaryOf number summary
EndsSo number (Limit line) = StopsAt (later_lines number) line

-- A summary that counts no want of memory is that of the number alone.
abbrev pub IsCertain : ℕ → Sampled → Type 0
IsCertain number (Done summary) = summary.counts.memory ≡ 0 → summary ≡ summary_of number
IsCertain number (Limit line) = Unit {0}

-- as text

-- a line of a word and a number
abbrev pub row : List ℕ → ℕ → List ℕ
row word number = word ++ space ∷ decimal number ++ newline ∷ []

abbrev pub summary_text : Summary → List ℕ
summary_text s =
    row (codes "lines") s.lines
    ++ row (codes "arrived") s.counts.arrived
    ++ row (codes "answered") s.counts.answered
    ++ row (codes "refused") s.counts.refused
    ++ row (codes "memory") s.counts.memory
    ++ row (codes "waiting") s.counts.waiting
    ++ row (codes "entries") s.counts.entries
    ++ row (codes "lost") s.counts.lost
