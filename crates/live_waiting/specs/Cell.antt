-- A partition in a cell at which threads take turns, with the calls that wait in it. A visit is the turn of one thread, in which at most one event is made.
use Rattle.std.specs.Prelude.{ℕ, max, Bool, if◌then◌else◌, List, [], ◌∷◌, ◌++◌, Option, Some, None}
use Rattle.std.specs.List.{list_any}
use Rattle.std.specs.Option.{option_to_list}
use Rattle.grid_base.specs.Objects.{Object}
use Rattle.partition_protocol.specs.World.{map_or}
use Rattle.partition_protocol.specs.Events.{Event, Call}
use Rattle.waiting_protocol.specs.Machine.{Waiting, Line, Asks, Waits, Clock, Closes, Terms, stirs, Gone, events_of, turn, gone_in, opened, event_in}

-- visits

-- what a thread comes for
pub data Purpose (C : Type 0) : Type 0 where
  -- a call of the member
  Calls : (conn number : ℕ) (call : C) → Purpose C
  -- another event: a delivery, a crash, an operator's
  Makes : (event : Event C) → Purpose C
  -- a waiting call arrives at the member
  Brings : (conn number : ℕ) (call : C) (deadline : Option ℕ) → Purpose C
  -- a connection closes
  Drops : (conn : ℕ) → Purpose C
  -- nothing of its own: it only looks after those who wait
  Looks : Purpose C

-- a turn of a thread at the cell: the member for which it comes, the moment that it read there, and what it comes for
pub record Visit (C : Type 0) : Type 0 where
  pub member : ℕ
  pub read : ℕ
  pub purpose : Purpose C

-- moments

-- The moment that counts: that of the cell, where the thread read an earlier one
abbrev pub moment : {C : Type 0} → Waiting C → Visit C → ℕ
moment j v = max (j.clock v.member) v.read

abbrev pub clock_line : {C : Type 0} → Waiting C → Visit C → Line C
clock_line j v = Clock v.member (moment j v)

-- the cell at that moment
abbrev pub timed : {C State : Type 0} → Object C State → Waiting C → Visit C → Waiting C
timed o j v = opened o j (clock_line j v)

-- its own

abbrev pub line_for : {C : Type 0} → ℕ → ℕ → Purpose C → Option (Line C)
line_for m now (Calls conn number call) = Some (Asks (Call m conn number call now))
line_for m now (Makes e) = Some (Asks e)
line_for m now (Brings conn number call deadline) = Some (Waits (record { member = m; conn = conn; number = number; call = call; deadline = deadline }))
line_for m now (Drops conn) = Some (Closes conn)
line_for m now Looks = None

-- the line of its own that a thread brings
abbrev pub own_line : {C : Type 0} → Waiting C → Visit C → Option (Line C)
own_line j v = line_for v.member (moment j v) v.purpose

abbrev pub own : {C State : Type 0} → Object C State → Waiting C → Visit C → Waiting C
own o j v = map_or (own_line j v) (timed o j v) (opened o (timed o j v))

abbrev pub own_events : {C : Type 0} → Waiting C → Visit C → List (Event C)
own_events j v = map_or (own_line j v) [] event_in

-- a visit

-- something is to be done with somebody who waits
abbrev pub is_busy : {C State : Type 0} → Object C State → Terms C → Waiting C → Bool
is_busy o t j = list_any (stirs o t j) j.waiters

-- Whether one who waits goes first, and how things stand as he does: as the last line left them, while it still lets somebody go; else at the moment that counts, where somebody's time has come by it
abbrev pub serving : {C State : Type 0} → Object C State → Terms C → Waiting C → Visit C → Option (Waiting C)
serving o t j v = if is_busy o t j then Some j else (if is_busy o t (timed o j v) then Some (timed o j v) else None)

-- the cell after a visit: one who waits has left, or the thread has done its own
abbrev pub visited : {C State : Type 0} → Object C State → Terms C → Waiting C → Visit C → Waiting C
visited o t j v = map_or (serving o t j v) (own o j v) (turn o t)

-- who leaves by the rule
abbrev pub left_at : {C State : Type 0} → Object C State → Terms C → Waiting C → Visit C → List (Gone C)
left_at o t j v = map_or (serving o t j v) [] (gone_in o t)

-- what happens to the partition
abbrev pub events_at : {C State : Type 0} → Object C State → Terms C → Waiting C → Visit C → List (Event C)
events_at {C} o t j v = map_or (serving o t j v) (own_events j v) (λ (k : Waiting C). events_of (gone_in o t k))

-- the lines that it begins: none, while the last one still lets somebody go
abbrev pub lines_at : {C State : Type 0} → Object C State → Terms C → Waiting C → Visit C → List (Line C)
lines_at o t j v = if is_busy o t j then [] else clock_line j v ∷ (if is_busy o t (timed o j v) then [] else option_to_list (own_line j v))

-- visits, one after the other

abbrev pub cell_after : {C State : Type 0} → Object C State → Terms C → Waiting C → List (Visit C) → Waiting C
cell_after o t j [] = j
cell_after o t j (v ∷ vs) = cell_after o t (visited o t j v) vs

abbrev pub cell_left : {C State : Type 0} → Object C State → Terms C → Waiting C → List (Visit C) → List (Gone C)
cell_left o t j [] = []
cell_left o t j (v ∷ vs) = left_at o t j v ++ cell_left o t (visited o t j v) vs

abbrev pub cell_events : {C State : Type 0} → Object C State → Terms C → Waiting C → List (Visit C) → List (Event C)
cell_events o t j [] = []
cell_events o t j (v ∷ vs) = events_at o t j v ++ cell_events o t (visited o t j v) vs

abbrev pub cell_lines : {C State : Type 0} → Object C State → Terms C → Waiting C → List (Visit C) → List (Line C)
cell_lines o t j [] = []
cell_lines o t j (v ∷ vs) = lines_at o t j v ++ cell_lines o t (visited o t j v) vs
