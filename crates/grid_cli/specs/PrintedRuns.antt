-- The run that a transcript prints: the messages of its lines stand in the text.
use Rattle.std.specs.Prelude.{◌≡◌, ℕ, false, true, if◌then◌else◌, List, [], ◌∷◌, ◌++◌, Result, Ok, Err, Contains}
use Rattle.grid_base.specs.declared.names.CallId.{CallId}
use Rattle.entry_processors.specs.Processors.{ProcessorForm}
use Rattle.call_engine.specs.Calls.{Settings}
use Rattle.script_lang.specs.Lines.{line_of, is_end}
use Rattle.script_lang.specs.declared.line.Line.{Line}
use Rattle.script_lang.specs.declared.line.Line.TheVariants.{Grid}
use Rattle.script_lang.specs.declared.refusal.LineWhy.{LineWhy}
use Rattle.replay_run.specs.Runs.{Appended}
use Rattle.script_run.specs.Runs.{ScriptRun, begun}
use Rattle.script_run.specs.AfterLines.{after_line}
use Rattle.replay_run.specs.Printing.{appended_text}
use Rattle.grid_cli.specs.Scripts.{lines_of}
use Rattle.grid_cli.specs.Transcripts.{settings, transcript}

-- The run after the lines whose text a transcript has: up to `end`, or to where a line isn't in the grammar or gives the run up.
abbrev pub printed_after : Settings → List CallId → ScriptRun → List (List ℕ) → ScriptRun
printed_after s skips r [] = r
printed_after s skips r (text ∷ texts) =
    elim (line_of false r.run.members text) [
      | Err why ↦ r
      | Ok line ↦
          let next = after_line s skips r line in
          if next.run.full then r
          else if is_end line then next
          else printed_after s skips next texts
    ]

abbrev pub printed_by_grid : List ProcessorForm → List CallId → List (List ℕ) → Result Line LineWhy → ScriptRun
printed_by_grid forms skips texts (Ok (Grid members backups capacity)) = printed_after (settings forms capacity) skips (begun members backups) texts
printed_by_grid forms skips texts line = begun 1 0

abbrev pub printed_of : List ProcessorForm → List CallId → List (List ℕ) → ScriptRun
printed_of forms skips [] = begun 1 0
printed_of forms skips (first ∷ texts) = printed_by_grid forms skips texts (line_of true 0 first)

-- the run that a script's transcript prints, where these calls found no memory
abbrev pub printed_run : List ProcessorForm → List CallId → List ℕ → ScriptRun
printed_run forms skips script = printed_of forms skips (lines_of script)

-- a text has this part
abbrev pub HasPart : List ℕ → List ℕ → Type 0
HasPart text part = (before behind : List ℕ) × (text ≡ before ++ part ++ behind)

abbrev pub EveryMessageIsPrinted : Type 0
EveryMessageIsPrinted = (forms : List ProcessorForm) (skips : List CallId) (script : List ℕ) (m : Appended) → Contains (printed_run forms skips script).run.appended m
    → HasPart (transcript forms skips script).text (appended_text m)
