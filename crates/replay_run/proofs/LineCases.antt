-- Which lines are left when the others are told apart, and which lines write as they go.
use Rattle.std.proofs.Common.{◌≡◌, ◌≢◌, ℕ, Bool, true, false, [], ◌++◌, Some, refl, ap, sym, ◌∙◌, append-nil, Vec, Global}
use Rattle.call_engine.specs.Calls.{Settings}
use Rattle.script_lang.specs.declared.line.Line.{Line}
use Rattle.script_lang.specs.declared.line.Line.TheVariants.{Grid as Begin, OpenConn, Dump, Links, Trail, Near, NearGet, NearFeed, Masters, Told as IsTold, MasterDeliver, MasterLose, MasterResend, MasterFlow, Comment, End}
use Rattle.replay_run.specs.Runs.{Run, At, event_by}
use Rattle.replay_run.specs.LineTold.{line_printed}
use Rattle.line_told.specs.declared.told.Told.{Told}
use Rattle.line_told.specs.declared.told.Ready.{Ready}
use Rattle.replay_run.specs.declared.grid.Grid.{Grid}
use Rattle.replay_run.specs.Grids.{FormOf, HasRun, HasGiven}
use Rattle.replay_run.specs.WorldCalls.{is_quiet}
use Rattle.replay_run.proofs.GridLines.{IsIdle, has_run_as}

-- A quiet line that is none of those that the grid runs makes a grid, which is made once, or is of a near client or of masters.
pub begins_again : (settings : Settings) (r : Run) (line : Line) → is_quiet line ≡ true → ((c member : ℕ) → line ≢ OpenConn c member) → ((p member : ℕ) → line ≢ Dump p member)
    → ((p : ℕ) → line ≢ Links p) → ((p : ℕ) → line ≢ Trail p) → ((p most : ℕ) → line ≢ MasterFlow p most) → line ≢ Comment → line ≢ End → IsIdle settings r line
begins_again settings r (Begin members backups capacity) quiet opens dump links trail flow comment end = record { after = refl; nothing = refl }
begins_again settings r (Near c name capacity) quiet opens dump links trail flow comment end = record { after = refl; nothing = refl }
begins_again settings r (NearGet c key) quiet opens dump links trail flow comment end = record { after = refl; nothing = refl }
begins_again settings r (NearFeed c most) quiet opens dump links trail flow comment end = record { after = refl; nothing = refl }
begins_again settings r Masters quiet opens dump links trail flow comment end = record { after = refl; nothing = refl }
begins_again settings r (IsTold member crashed) quiet opens dump links trail flow comment end = record { after = refl; nothing = refl }
begins_again settings r (MasterDeliver p from to place) quiet opens dump links trail flow comment end = record { after = refl; nothing = refl }
begins_again settings r (MasterLose p from to place) quiet opens dump links trail flow comment end = record { after = refl; nothing = refl }
begins_again settings r (MasterResend p member) quiet opens dump links trail flow comment end = record { after = refl; nothing = refl }
begins_again settings r (MasterFlow p most) quiet opens dump links trail flow comment end = absurd (flow p most refl)
begins_again settings r (OpenConn c member) quiet opens dump links trail flow comment end = absurd (opens c member refl)
begins_again settings r (Dump p member) quiet opens dump links trail flow comment end = absurd (dump p member refl)
begins_again settings r (Links p) quiet opens dump links trail flow comment end = absurd (links p refl)
begins_again settings r (Trail p) quiet opens dump links trail flow comment end = absurd (trail p refl)
begins_again settings r Comment quiet opens dump links trail flow comment end = absurd (comment refl)
begins_again settings r End quiet opens dump links trail flow comment end = absurd (end refl)
begins_again settings r line quiet opens dump links trail flow comment end = absurd cc

-- whether a line writes as it goes
abbrev pub is_writing : Line → Bool
is_writing (Dump p member) = true
is_writing (Links p) = true
is_writing (Trail p) = true
is_writing End = true
is_writing line = false

-- Another line writes nothing.
pub writes_nothing : (settings : Settings) (r : Run) (line : Line) → is_writing line ≡ false → line_printed settings r line ≡ []
writes_nothing settings r (Dump p member) other = absurd cc
writes_nothing settings r (Links p) other = absurd cc
writes_nothing settings r (Trail p) other = absurd cc
writes_nothing settings r End other = absurd cc
writes_nothing settings r line other = refl

-- A line that is an event is another one.
pub event_writes_none : (line : Line) (e : At) → event_by line ≡ Some e → is_writing line ≡ false
event_writes_none (Dump p member) e is = absurd cc
event_writes_none (Links p) e is = absurd cc
event_writes_none (Trail p) e is = absurd cc
event_writes_none End e is = absurd cc
event_writes_none line e is = refl

-- A quiet line that is none of those that the grid runs is another one too.
pub idle_writes_none : (line : Line) → ((p member : ℕ) → line ≢ Dump p member) → ((p : ℕ) → line ≢ Links p) → ((p : ℕ) → line ≢ Trail p) → line ≢ End → is_writing line ≡ false
idle_writes_none (Dump p member) dump links trail end = absurd (dump p member refl)
idle_writes_none (Links p) dump links trail end = absurd (links p refl)
idle_writes_none (Trail p) dump links trail end = absurd (trail p refl)
idle_writes_none End dump links trail end = absurd (end refl)
idle_writes_none line dump links trail end = refl

-- A line that writes nothing as it goes gives what it tells.
pub writes_none : {V : Type 0} {T : V → Type 0} {form : FormOf V T} {new : Grid V T} (settings : Settings) (r : Run) (line other : Line) → line ≡ other → is_writing other ≡ false → (out : Ready) (told : Vec Told Global)
    → HasRun form settings new r other out.told.items told.items → HasGiven form settings new r line out (record out { told = told })
writes_none {form = form} {new = new} settings r line other same none out told ran = record {
  told = has_run_as same ran;
  printed = sym (append-nil out.printed.items) ∙ ap (λ xs. out.printed.items ++ xs) (sym (ap (line_printed settings r) same ∙ writes_nothing settings r other none));
}
