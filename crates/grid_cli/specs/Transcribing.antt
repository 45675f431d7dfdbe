-- What the code that runs a script's lines has done: it follows the transcript, and stops where the transcript does.
use Rattle.std.specs.Prelude.{◌≡◌, ℕ, ◌<◌, ◌≤◌, true, length, Ok, List, [], ◌∷◌, ◌++◌, map, Option}
use Rattle.std.specs.declared.alloc.Global.{Global}
use Rattle.std.specs.declared.dyn_box.DynBox.{DynBox}
use Rattle.grid_base.specs.declared.names.CallId.{CallId}
use Rattle.partition_protocol.specs.Sequences.{IsFrontOf}
use Rattle.script_run.specs.declared.grid.ScriptGrid.{ScriptGrid}
use Rattle.grid_cli.specs.declared.status.Status.{Status}
use Rattle.grid_cli.specs.declared.status.Status.TheVariants.{Done, Usage, ScriptRefused, ReadFault, WriteFault, Limit, DoorFault, Memory}
use Rattle.grid_cli.specs.declared.transcriber.Begun.{Begun}
use Rattle.grid_cli.specs.declared.transcriber.Begun.TheVariants.{Made, Refused as NotBegun}
use Rattle.grid_cli.specs.declared.transcriber.Stage.{Stage}
use Rattle.grid_cli.specs.declared.transcriber.Stage.TheVariants.{Waiting, Running}
use Rattle.grid_cli.specs.declared.transcriber.Ran.{Ran}
use Rattle.grid_cli.specs.declared.transcriber.Ran.TheVariants.{Goes, Ended as IsEnded, Refused as IsRefused, GivenUp}
use Rattle.entry_processors.specs.Processors.{ProcessorForm}
use Rattle.script_run.specs.Runs.{ScriptRun, begun}
use Rattle.replay_run.specs.Printing.{ok_text}
use Rattle.script_lang.specs.Lines.{line_of}
use Rattle.script_lang.specs.declared.line.Line.TheVariants.{Grid as GridLine}
use Rattle.grid_cli.specs.Transcripts.{settings, Transcript, Ended, Refused, TooLong, first_line, refused}
use Rattle.grid_cli.specs.Statuses.{whole}
use Rattle.replay_run.specs.Grids.{FormOf}
use Rattle.script_run.specs.Grids.{Stands}
use Rattle.script_lang.specs.Limits.{most_lines, most_line_bytes}
use Rattle.grid_cli.specs.declared.status.LimitWhat.{LimitWhat}
use Rattle.grid_cli.specs.declared.status.LimitWhat.TheVariants.{InFlight}
use Rattle.grid_cli.specs.Progress.{IsAt}

-- The code has run these lines, and their text is this.
pub record HasRun {V : Type 0} {T : V → Type 0} (form : FormOf V T) (forms : List ProcessorForm) (grid : ScriptGrid V T) (skips : List CallId) (done : List (List ℕ)) (written : List ℕ) : Type 0 where
  pub capacity : ℕ
  pub run : ScriptRun
  pub stands : Stands form (settings forms capacity) grid run
  pub few : run.run.members ≤ 8
  pub at : IsAt forms capacity run skips done written

-- Before the first line there is no grid, and these are the processors that it will have.
pub record HasRunNone {V : Type 0} {T : V → Type 0} (form : FormOf V T) (forms : List ProcessorForm) (processors : List (DynBox V Global T)) (skips : List CallId) (done : List (List ℕ)) (written : List ℕ) : Type 0 where
  pub waits : map form processors ≡ forms
  pub no_skips : skips ≡ []
  pub no_lines : done ≡ []
  pub no_text : written ≡ []

abbrev pub Follows : {V : Type 0} {T : V → Type 0} → FormOf V T → List ProcessorForm → Stage V T → List CallId → List (List ℕ) → List ℕ → Type 0
Follows form forms (Waiting processors) skips done written = HasRunNone form forms processors.items skips done written
Follows form forms (Running grid) skips done written = HasRun form forms grid skips done written

-- One line more is within the limits.
abbrev pub HasRoomFor : List (List ℕ) → List ℕ → Type 0
HasRoomFor done text = (length done < most_lines) × (length text ≤ most_line_bytes)

-- the transcripts of these lines and any that follow
abbrev pub Continues : List ProcessorForm → List CallId → List (List ℕ) → List ℕ → (Transcript → Type 0) → Type 0
Continues forms skips done text P = (limit : Option LimitWhat) (texts : List (List ℕ)) → P (first_line forms skips limit (done ++ text ∷ texts))

-- what the first line made, and what it printed
abbrev pub IsBegunBy : {V : Type 0} {T : V → Type 0} → FormOf V T → List ProcessorForm → Begun V T → List ℕ → List ℕ → List ℕ → Type 0
IsBegunBy form forms (Made grid) text written added =
    (members backups capacity : ℕ) × (line_of true 0 text ≡ Ok (GridLine members backups capacity)) × (members ≤ 8)
    × Stands form (settings forms capacity) grid (begun members backups) × (added ≡ written ++ ok_text 1)
IsBegunBy form forms (NotBegun why) text written added =
    (added ≡ written) × ((skips : List CallId) (limit : Option LimitWhat) (texts : List (List ℕ)) → first_line forms skips limit (text ∷ texts) ≡ refused 1 why)

-- what a line did, which left this text
abbrev pub RanAs : {V : Type 0} {T : V → Type 0} → FormOf V T → List ProcessorForm → Ran → Stage V T → List CallId → List (List ℕ) → List ℕ → List ℕ → List ℕ → Type 0
RanAs form forms Goes stage skips done text written added = (more : List CallId) × Follows form forms stage (more ++ skips) (done ++ text ∷ []) (written ++ added)
RanAs form forms IsEnded stage skips done text written added = (more : List CallId) × Continues forms (more ++ skips) done text (λ t. t ≡ whole (written ++ added) Ended)
RanAs form forms (IsRefused line why) stage skips done text written added = Continues forms skips done text (λ t. t ≡ whole (written ++ added) (Refused line why))
RanAs form forms GivenUp stage skips done text written added = (more : List CallId) × Continues forms (more ++ skips) done text (λ t. (line : ℕ) × (t ≡ whole (written ++ added) (TooLong line InFlight)))

-- with which status the run stops at a line, where this was written
abbrev pub StopsAs : List ProcessorForm → Status → List CallId → List (List ℕ) → List ℕ → List ℕ → Type 0
StopsAs forms Done skips done text written = Continues forms skips done text (λ t. t ≡ whole written Ended)
StopsAs forms (ScriptRefused line why) skips done text written = Continues forms skips done text (λ t. t ≡ whole written (Refused line why))
StopsAs forms WriteFault skips done text written = Continues forms skips done text (λ t. IsFrontOf written t.text)
StopsAs forms Memory skips done text written = Continues forms skips done text (λ t. IsFrontOf written t.text)
StopsAs forms Usage skips done text written = ⊥
StopsAs forms ReadFault skips done text written = ⊥
StopsAs forms DoorFault skips done text written = ⊥
StopsAs forms (Limit what) skips done text written = Continues forms skips done text (λ t. (line : ℕ) × (t ≡ whole written (TooLong line what)))

-- The status with which a run ends whose lines are these and no more, where this was written; the script may have gone past a limit behind them.
abbrev pub Concludes : List ProcessorForm → Option LimitWhat → Status → List CallId → List (List ℕ) → List ℕ → Type 0
Concludes forms limit Done skips lines written = first_line forms skips limit lines ≡ whole written Ended
Concludes forms limit (ScriptRefused line why) skips lines written = first_line forms skips limit lines ≡ whole written (Refused line why)
Concludes forms limit WriteFault skips lines written = IsFrontOf written (first_line forms skips limit lines).text
Concludes forms limit (Limit what) skips lines written = (line : ℕ) × (first_line forms skips limit lines ≡ whole written (TooLong line what))
Concludes forms limit Memory skips lines written = IsFrontOf written (first_line forms skips limit lines).text
Concludes forms limit Usage skips lines written = ⊥
Concludes forms limit ReadFault skips lines written = ⊥
Concludes forms limit DoorFault skips lines written = ⊥
