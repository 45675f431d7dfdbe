-- What the lines of a control script order, and why one is refused.
use Rattle.std.specs.Prelude.{ℕ, ◌<◌, Bool, true, false, if◌then◌else◌, List, [], ◌∷◌, Option, Some, None, Result, Ok, Err, codes}
use Rattle.std.specs.List.{list_any}
use Rattle.grid_base.specs.declared.TheConstants.{PARTITIONS}
use Rattle.grid_base.specs.declared.calls.Request.{Request}
use Rattle.partition_world.specs.declared.event.Event.{Event}
use Rattle.partition_world.specs.declared.event.Event.TheVariants as event
use Rattle.script_lang.specs.Lines.{line_of}
use Rattle.script_lang.specs.Words.{are_same, words_of}
use Rattle.script_lang.specs.declared.line.Line.{Line}
use Rattle.script_lang.specs.declared.line.Line.TheVariants as line
use Rattle.script_lang.specs.declared.refusal.LineWhy.{LineWhy}
use Rattle.script_lang.specs.declared.refusal.LineWhy.TheVariants.{Word}
use Rattle.live_control.specs.declared.orders.Fate.{Fate}
use Rattle.live_control.specs.declared.orders.Fate.TheVariants as fate
use Rattle.live_control.specs.declared.orders.Order.{Order}
use Rattle.live_control.specs.declared.orders.Order.TheVariants as order
use Rattle.live_control.specs.declared.orders.Step.{Step}
use Rattle.live_control.specs.declared.orders.Step.TheVariants as step

-- what the lines of a control script begin with, and `grid`, which has a cause of its own
abbrev pub known_words : List (List ℕ)
known_words =
    codes "crash" ∷ codes "detect" ∷ codes "move" ∷ codes "join" ∷ codes "handover" ∷ codes "reopen" ∷ codes "advance"
    ∷ codes "resend" ∷ codes "end" ∷ codes "grid" ∷ []

abbrev pub is_known : List ℕ → Bool
is_known word = list_any (λ known. are_same known word) known_words

-- whether the first of these words is known
abbrev pub begins_known : List (List ℕ) → Bool
begins_known [] = false
begins_known (word ∷ words) = is_known word

-- what a line of the grammar orders, if it is one of a control script
abbrev pub order_of : Line → Option Order
order_of line.Comment = Some order.Comment
order_of line.End = Some order.End
order_of (line.Crash member) = Some (order.Everywhere (fate.Crash member))
order_of (line.Detect member) = Some (order.Everywhere (fate.Detect member))
order_of (line.Move partition from to) = Some (order.In partition (step.Move from to))
order_of (line.Join partition to) = Some (order.In partition (step.Join to))
order_of (line.Handover partition from to) = Some (order.In partition (step.Handover from to))
order_of (line.Advance partition) = Some (order.In partition step.Advance)
order_of (line.Reopen partition) = Some (order.In partition step.Reopen)
order_of (line.Resend partition end) = Some (order.In partition (step.Resend end))
order_of _ = None

-- a line of the grammar that isn't one of a control script begins with a wrong word
abbrev pub ordered : Option Order → Result Order LineWhy
ordered (Some order) = Ok order
ordered None = Err Word

-- what a text orders, without its newline, on a grid of so many members. Where the first word isn't known that is the cause
abbrev pub order_in : ℕ → List ℕ → Result Order LineWhy
order_in members text = elim (line_of false members text) [
  | Ok line ↦ ordered (order_of line)
  | Err why ↦ if begins_known (words_of text) then Err why else Err Word
]

-- the script ends there
abbrev pub is_end : Order → Bool
is_end order.End = true
is_end _ = false

-- the order's partition is one of the grid
abbrev pub IsPlaced : Order → Type 0
IsPlaced (order.In partition step) = partition < PARTITIONS
IsPlaced _ = Unit {0}

abbrev pub event_of_step : Step → Event Request
event_of_step (step.Move from to) = event.BeginMove from to
event_of_step (step.Join to) = event.BeginJoin to
event_of_step (step.Handover from to) = event.BeginHandover from to
event_of_step step.Advance = event.Advance
event_of_step step.Reopen = event.Reopen
event_of_step (step.Resend end) = event.Resend end

abbrev pub event_of_fate : Fate → Event Request
event_of_fate (fate.Crash member) = event.Crash member
event_of_fate (fate.Detect member) = event.Detect member
