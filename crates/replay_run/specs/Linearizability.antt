-- When the history that a run prints for an object is one that a single thread could have seen.
use Rattle.std.specs.Prelude.{◌≡◌, ℕ, ◌<◌, ◌≤◌, ◌≢◌, ◌⊎◌, Bool, true, false, ◌==◌, ◌&&◌, nat_lt, List, [], ◌∷◌, filter, Some, Contains}
use Rattle.grid_base.specs.Objects.{Object}
use Rattle.grid_base.specs.Names.{is_same}
use Rattle.grid_base.specs.declared.names.ObjectKey.{ObjectKey}
use Rattle.grid_base.specs.declared.names.CallId.{CallId}
use Rattle.grid_base.specs.declared.calls.Request.{Request}
use Rattle.call_engine.specs.Calls.{Settings}
use Rattle.call_engine.specs.Objects.{target_of, one_object, partition_object}
use Rattle.replay_run.specs.ScriptRuns.{home}
use Rattle.replay_run.specs.Runs.{Run, Arrival, Appended, partitions, reopened_at, begun}
use Rattle.replay_run.specs.AfterLines.{after_lines}
use Rattle.replay_run.specs.Printing.{PrintedCall, PrintedReset, Printed, Call, Reset, printed_by}
use Rattle.script_lang.specs.declared.line.Line.{Line}
use Rattle.script_lang.specs.declared.line.Line.TheVariants.{Trail, End}

-- An object of a grid: a map's entry in the partition of its key, or a queue, of which each partition has its own of that name.
pub record GridObject : Type 0 where
  pub partition : ℕ
  pub name : ObjectKey

abbrev pub is_on : GridObject → Request → Bool
is_on object request = (home request == object.partition) && is_same (target_of request) object.name

-- A call stands in the history of its object, and a reset in those of all objects of its partition.
abbrev pub is_of : GridObject → Printed → Bool
is_of object (Call e) = is_on object e.request
is_of object (Reset e) = e.partition == object.partition

-- the history that is printed for an object: its entries, in the order in which they are printed
abbrev pub history_of : GridObject → List Printed → List Printed
history_of object entries = filter (is_of object) entries

-- the first stands before the second
abbrev pub Before : {X : Type 0} → List X → X → X → Type 0
Before [] a b = ⊥
Before (x ∷ xs) a b = ((x ≡ a) × Contains xs b) ⊎ Before xs a b

-- Each reply is the one that the object gives in the state that the entries before it leave, where a reset leaves the empty one.
abbrev pub IsLegal : {State : Type 0} → Object Request State → State → List Printed → Type 0
IsLegal o s [] = Unit {0}
IsLegal o s (Call e ∷ es) = (e.reply ≡ o.reply s e.request e.now) × IsLegal o (o.after s e.request e.now) es
IsLegal o s (Reset e ∷ es) = IsLegal o o.empty es

-- the lines of the resets in a history
abbrev pub reset_lines : List Printed → List ℕ
reset_lines [] = []
reset_lines (Call e ∷ es) = reset_lines es
reset_lines (Reset e ∷ es) = e.line ∷ reset_lines es

-- The entry is the call of this arrival: at the line at which it arrived, and the moment at which it was made.
pub record IsOf (a : Arrival) (e : PrintedCall) : Type 0 where
  pub id : e.id ≡ a.request.id
  pub request : e.request ≡ a.request
  pub now : e.now ≡ a.now
  pub line : e.arrived ≡ a.line

pub record Fits {State : Type 0} (o : Object Request State) (object : GridObject) (r : Run) (h : List Printed) : Type 0 where
  -- each reply is the one that a single object gives a single thread there
  pub legal : IsLegal o o.empty h
  -- each entry is a reset, or a call on the object that arrived
  pub arrived : (e : PrintedCall) → Contains h (Call e) → (is_on object e.request ≡ true) × ((a : Arrival) × Contains r.arrivals a × IsOf a e)
  -- and that wasn't refused
  pub unrefused : (e : PrintedCall) (m : Appended) → Contains h (Call e) → Contains r.appended m → m.refuses ≢ Some e.id
  -- no call stands twice
  pub once : (a b : PrintedCall) → Before h (Call a) (Call b) → a.id ≢ b.id
  -- each answered call on the object stands in it, with its answer and the line at which it was given
  pub answered : (a : Arrival) (m : Appended) → Contains r.arrivals a → is_on object a.request ≡ true → Contains r.appended m → m.answers ≡ Some a.request.id
      → (e : PrintedCall) × Contains h (Call e) × IsOf a e × (e.reply ≡ m.bytes) × (e.answered ≡ Some m.line)
  -- no call is answered twice
  pub answered_once : (m n : Appended) (id : CallId) → Before r.appended m n → m.answers ≡ Some id → n.answers ≢ Some id
  -- and every answer that is printed was given
  pub given : (e : PrintedCall) (line : ℕ) → Contains h (Call e) → e.answered ≡ Some line → (m : Appended) × Contains r.appended m × (m.answers ≡ Some e.id) × (m.line ≡ line) × (m.bytes ≡ e.reply)
  -- no call stands before one that was answered before it arrived
  pub ordered : (a b : PrintedCall) (line : ℕ) → Before h (Call a) (Call b) → b.answered ≡ Some line → a.arrived ≤ line
  -- calls of one line that don't wait stand in the order of their numbers
  pub same_line : (a b : PrintedCall) (x y : Arrival) → Before h (Call a) (Call b) → a.arrived ≡ b.arrived → Contains r.arrivals x → Contains r.arrivals y → IsOf x a → IsOf y b
      → x.waits ≡ false → y.waits ≡ false → a.id.number < b.id.number
  -- the resets are the reopenings of the object's partition, in their order
  pub resets : reset_lines h ≡ reopened_at object.partition r.reopened
  -- a call that was answered before a reopening stands before its reset
  pub before_reset : (a : PrintedCall) (b : PrintedReset) (line : ℕ) → Contains h (Call a) → Contains h (Reset b) → a.answered ≡ Some line → line < b.line → Before h (Call a) (Reset b)
  -- and a call that arrived after it stands after it
  pub after_reset : (a : PrintedCall) (b : PrintedReset) → Contains h (Call a) → Contains h (Reset b) → b.line < a.arrived → Before h (Reset b) (Call a)

-- whether a line prints the history of an object: that of the object's partition, or of all the grid's
abbrev pub shows : Line → GridObject → Bool
shows (Trail p) object = object.partition == p
shows End object = nat_lt object.partition partitions
shows line object = false

-- One thread that used one object could have seen each history that a line prints of the run.
abbrev pub IsLinearizable : Settings → Run → Type 0
IsLinearizable settings r = (line : Line) (object : GridObject) → shows line object ≡ true → Fits (one_object settings object.name) object r (history_of object (printed_by (partition_object settings) r line))

-- whatever the processors, the queues' capacity, the lines after the first, and the calls that find no memory
abbrev pub EveryRunIsLinearizable : Type 0
EveryRunIsLinearizable = (settings : Settings) (members backups : ℕ) (skips : List CallId) (lines : List Line) → 1 ≤ members
    → IsLinearizable settings (after_lines (partition_object settings) skips (begun members backups) lines)
