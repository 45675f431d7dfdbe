-- What holds of a cell, after every list of visits.
use Rattle.std.specs.Prelude.{◌≡◌, ℕ, zero, suc, ◌+◌, ◌≤◌, ◌<◌, ◌⊎◌, true, false, List, [], ◌∷◌, ◌++◌, map, length, Option, Some, None, slice_get, Contains}
use Rattle.grid_base.specs.Objects.{Object}
use Rattle.partition_protocol.specs.Node.{Node}
use Rattle.partition_protocol.specs.World as world
use Rattle.partition_protocol.specs.World.{pair_state}
use Rattle.partition_protocol.specs.Events.{Event, Call, run}
use Rattle.partition_protocol.specs.Arrivals.{arrivals, name, NamedOnce}
use Rattle.partition_protocol.specs.Claims.{IsSafe, IsFaithful}
use Rattle.waiting_protocol.specs.Machine.{Waiter, Waiting, Line, Terms, start, is_due, is_ready, Gone, event_in, events_of, gone_as, turn, turned, gone, opened, fate, is_made, after, events, all_gone}
use Rattle.waiting_protocol.specs.Claims.{IsQuiet, IsItsTurn, IsAsPlain, IsWithout, NoneIsOf, NoneLeftOf, names_in, name_of, waits_in}
use Rattle.live_waiting.specs.Cell.{Calls, Brings, Drops, Looks, Visit, timed, own, own_events, serving, visited, left_at, events_at, cell_after, cell_left, cell_events, cell_lines}

-- a run under way

-- All lines but the last have been served to their end, and of the last so many turns have been made: that is how things stand, and all that has left and happened.
pub record IsUnderWay {C State : Type 0} (o : Object C State) (t : Terms C) (s : Waiting C) (lines : List (Line C)) (j : Waiting C) (left : List (Gone C)) (happened : List (Event C)) : Type 0 where
  pub served : List (Line C)
  pub last : Line C
  pub turns : ℕ
  pub whole : lines ≡ served ++ last ∷ []
  pub state : j ≡ turned o t turns (opened o (after o t s served) last)
  pub leavers : left ≡ all_gone o t s served ++ gone o t turns (opened o (after o t s served) last)
  pub making : happened ≡ events o t s served ++ (event_in last ++ events_of (gone o t turns (opened o (after o t s served) last)))

-- it has not begun
pub record IsYetToBegin {C : Type 0} (s : Waiting C) (lines : List (Line C)) (j : Waiting C) (left : List (Gone C)) (happened : List (Event C)) : Type 0 where
  pub whole : lines ≡ []
  pub state : j ≡ s
  pub leavers : left ≡ []
  pub making : happened ≡ []

-- The turns that are left bring it to the end of the run of all lines: so what has left and happened is the front of what leaves and happens in that run.
pub record HasItsEnd {C State : Type 0} (o : Object C State) (t : Terms C) (s : Waiting C) (lines : List (Line C)) (j : Waiting C) (left : List (Gone C)) (happened : List (Event C)) : Type 0 where
  pub state : turned o t (length j.waiters) j ≡ after o t s lines
  pub leavers : left ++ gone o t (length j.waiters) j ≡ all_gone o t s lines
  pub making : happened ++ events_of (gone o t (length j.waiters) j) ≡ events o t s lines

-- Whatever threads come, in any order and with any readings of their clocks, the cell is a run of the machine under way.
abbrev pub EveryCellIsUnderWay : {C State : Type 0} → Object C State → Type 0
EveryCellIsUnderWay {C} o = (t : Terms C) (partition members backups : ℕ) (visits : List (Visit C))
    → let s = start partition members backups in
    let lines = cell_lines o t s visits in
    let j = cell_after o t s visits in
    let left = cell_left o t s visits in
    let happened = cell_events o t s visits in
    (IsYetToBegin s lines j left happened ⊎ IsUnderWay o t s lines j left happened) × HasItsEnd o t s lines j left happened

-- So the partition's world is that of what happened, and all that is claimed of the protocol holds of it
pub record IsOfWhatHappened {C State : Type 0} (o : Object C State) (p n b : ℕ) (lines : List (Line C)) (j : Waiting C) (happened : List (Event C)) : Type 0 where
  pub world_is : run o (world.start p n b) happened ≡ j.world
  pub once : NamedOnce (names_in lines) → NamedOnce (map name (arrivals happened))
  pub safe : 1 ≤ n → NamedOnce (names_in lines) → IsSafe o j.world × IsFaithful happened j.world

abbrev pub EveryCellIsOfWhatHappened : {C State : Type 0} → Object C State → Type 0
EveryCellIsOfWhatHappened {C} o = (t : Terms C) (partition members backups : ℕ) (visits : List (Visit C))
    → let s = start partition members backups in
    IsOfWhatHappened o partition members backups (cell_lines o t s visits) (cell_after o t s visits) (cell_events o t s visits)

-- a visit

-- one who waits goes first, and nothing else is done: the first of those with whom something is to be done, as things then stand
pub record Serves {C State : Type 0} (o : Object C State) (t : Terms C) (j : Waiting C) (v : Visit C) (k : Waiting C) (x : Waiter C) : Type 0 where
  pub is : serving o t j v ≡ Some k
  -- as the last line left it, or, where that is served to its end, at the moment that counts
  pub stands : (k ≡ j) ⊎ (IsQuiet o t j × (k ≡ timed o j v))
  pub its : IsItsTurn o t k x
  pub state : visited o t j v ≡ turn o t k
  pub leavers : left_at o t j v ≡ gone_as o t k x ∷ []
  pub making : events_at o t j v ≡ events_of (gone_as o t k x ∷ [])
  -- what is done with it is what its plain call says
  pub plain_call : IsAsPlain o t k x

-- The thread does its own: nothing was to be done with anybody who waits, as the last line left things or at the moment that counts
pub record DoesItsOwn {C State : Type 0} (o : Object C State) (t : Terms C) (j : Waiting C) (v : Visit C) : Type 0 where
  pub is : serving o t j v ≡ None
  pub served : IsQuiet o t j
  pub quiet : IsQuiet o t (timed o j v)
  pub state : visited o t j v ≡ own o j v
  pub leavers : left_at o t j v ≡ []
  pub making : events_at o t j v ≡ own_events j v

abbrev pub EveryVisitDoesOneThing : {C State : Type 0} → Object C State → Type 0
EveryVisitDoesOneThing {C} o = (t : Terms C) (j : Waiting C) (v : Visit C) → ((k : Waiting C) × (x : Waiter C) × Serves o t j v k x) ⊎ DoesItsOwn o t j v

-- moments never fall, and are no less than what was read by who did its own
pub record MomentsRise {C State : Type 0} (o : Object C State) (t : Terms C) (j : Waiting C) (v : Visit C) : Type 0 where
  pub rise : (m : ℕ) → j.clock m ≤ (visited o t j v).clock m
  pub reached : DoesItsOwn o t j v → v.read ≤ (visited o t j v).clock v.member
  -- and its call is made at that moment
  pub called : (conn number : ℕ) (call : C) → DoesItsOwn o t j v → v.purpose ≡ Calls conn number call
      → events_at o t j v ≡ Call v.member conn number call ((visited o t j v).clock v.member) ∷ []
  -- who leaves, leaves at the moment of its member
  pub then : (g : Gone C) → Contains (left_at o t j v) g → g.now ≡ (visited o t j v).clock g.waiter.member

abbrev pub EveryMomentRises : {C State : Type 0} → Object C State → Type 0
EveryMomentRises {C} o = (t : Terms C) (j : Waiting C) (v : Visit C) → MomentsRise o t j v

-- laws of who waits

-- each waiting call that was taken in waits or has left, once, or was dropped with its connection
pub record LeavesOnce {C State : Type 0} (o : Object C State) (lines : List (Line C)) (j : Waiting C) (left : List (Gone C)) : Type 0 where
  pub once : NamedOnce (names_in lines) → NamedOnce (map (λ (g : Gone C). name_of g.waiter) left ++ map name_of j.waiters)
  pub arrived : (g : Gone C) → Contains left g → Contains (waits_in lines) g.waiter
  pub waits : (x : Waiter C) → Contains j.waiters x → Contains (waits_in lines) x

abbrev pub EveryWaiterLeavesOnce : {C State : Type 0} → Object C State → Type 0
EveryWaiterLeavesOnce {C} o = (t : Terms C) (partition members backups : ℕ) (visits : List (Visit C))
    → let s = start partition members backups in
    LeavesOnce o (cell_lines o t s visits) (cell_after o t s visits) (cell_left o t s visits)

-- Of two waiters of one member with one plain call the later is let go, where the member serves, only if it is due, the earlier isn't, and neither is ready
abbrev pub EveryEarlierGoesFirst : {C State : Type 0} → Object C State → Type 0
EveryEarlierGoesFirst {C} o = (t : Terms C) (j k : Waiting C) (v : Visit C) (x y : Waiter C) (serves : Serves o t j v k y) → Contains serves.its.front x
    → x.member ≡ y.member → x.call ≡ y.call → (node : Node) → slice_get k.world.nodes y.member ≡ Some node
    → let now = k.clock y.member in
    (is_made (fate o t k y) ≡ true) × (is_ready o t (pair_state o k.world node.pair) y.call now ≡ false)
    × (is_due now x.deadline ≡ false) × (is_due now y.deadline ≡ true)

-- Without a waiter, until it is let go or dropped, the same things happen and the same others leave, at the same visits
pub record IsStillTheSame {C State : Type 0} (o : Object C State) (t : Terms C) (x : Waiter C) (j k : Waiting C) (visits : List (Visit C)) : Type 0 where
  pub states : IsWithout x (cell_after o t j visits) (cell_after o t k visits)
  pub events_same : cell_events o t j visits ≡ cell_events o t k visits
  pub left_same : cell_left o t j visits ≡ cell_left o t k visits
  pub lines_same : cell_lines o t j visits ≡ cell_lines o t k visits

-- the visit does the same to both
pub record DoesTheSame {C State : Type 0} (o : Object C State) (t : Terms C) (j k : Waiting C) (v : Visit C) : Type 0 where
  pub states : visited o t j v ≡ visited o t k v
  pub making : events_at o t j v ≡ events_at o t k v
  pub leavers : left_at o t j v ≡ left_at o t k v

pub record HasGone {C State : Type 0} (o : Object C State) (t : Terms C) (x : Waiter C) (j k : Waiting C) (visits : List (Visit C)) : Type 0 where
  pub before : List (Visit C)
  pub visit : Visit C
  pub later : List (Visit C)
  pub whole : visits ≡ before ++ visit ∷ later
  pub until : IsStillTheSame o t x j k before
  -- it is let go, or its connection closes: then all is as if it had never been
  pub how : ((i : Waiting C) × Serves o t (cell_after o t j before) visit i x)
      ⊎ ((visit.purpose ≡ Drops x.conn) × DoesTheSame o t (cell_after o t j before) (cell_after o t k before) visit)

abbrev pub EveryWaiterChangesNothing : {C State : Type 0} → Object C State → Type 0
EveryWaiterChangesNothing {C} o = (t : Terms C) (x : Waiter C) (j k : Waiting C) (visits : List (Visit C)) → IsWithout x j k
    → IsStillTheSame o t x j k visits ⊎ HasGone o t x j k visits

-- The visit that brings it does beside that what a mere look does
pub record ArrivesUnseen {C State : Type 0} (o : Object C State) (t : Terms C) (j : Waiting C) (v w : Visit C) (x : Waiter C) : Type 0 where
  pub states : IsWithout x (visited o t j v) (visited o t j w)
  pub making : (events_at o t j v ≡ []) × (events_at o t j w ≡ [])
  pub leavers : (left_at o t j v ≡ []) × (left_at o t j w ≡ [])

abbrev pub EveryArrivalIsUnseen : {C State : Type 0} → Object C State → Type 0
EveryArrivalIsUnseen {C} o = (t : Terms C) (j : Waiting C) (m read conn number : ℕ) (call : C) (deadline : Option ℕ)
    → let v : Visit C = record { member = m; read = read; purpose = Brings conn number call deadline } in
    let w : Visit C = record { member = m; read = read; purpose = Looks } in
    DoesItsOwn o t j v → ArrivesUnseen o t j v w (record { member = m; conn = conn; number = number; call = call; deadline = deadline })

-- From the visit on that closes a connection nobody of it waits, and nobody of it leaves, as long as no waiting call of it is taken in
abbrev pub EveryClosedConnectionIsLeft : {C State : Type 0} → Object C State → Type 0
EveryClosedConnectionIsLeft {C} o = (t : Terms C) (j : Waiting C) (v : Visit C) (conn : ℕ) (more : List (Visit C))
    → v.purpose ≡ Drops conn → DoesItsOwn o t j v
    → let k = visited o t j v in
    NoneIsOf conn (waits_in (cell_lines o t k more))
    → NoneIsOf conn (cell_after o t k more).waiters × NoneLeftOf conn (cell_left o t k more)

-- ends

-- A visit that serves makes the list shorter by one; so of more visits than there are who wait one does its own, and all before it serve.
pub record ComesToItsOwn {C State : Type 0} (o : Object C State) (t : Terms C) (j : Waiting C) (visits : List (Visit C)) : Type 0 where
  pub before : List (Visit C)
  pub visit : Visit C
  pub later : List (Visit C)
  pub whole : visits ≡ before ++ visit ∷ later
  pub does : DoesItsOwn o t (cell_after o t j before) visit
  pub shorter : length (cell_after o t j before).waiters + length before ≡ length j.waiters

abbrev pub EveryThreadComesToItsOwn : {C State : Type 0} → Object C State → Type 0
EveryThreadComesToItsOwn {C} o = (t : Terms C) (j : Waiting C) (visits : List (Visit C)) → length j.waiters < length visits → ComesToItsOwn o t j visits

-- one who only looks, so often, with one reading
abbrev pub looks : {C : Type 0} → ℕ → ℕ → ℕ → List (Visit C)
looks m now zero = []
looks m now (suc n) = record { member = m; read = now; purpose = Looks } ∷ looks m now n

-- If nobody comes for anything else, as many visits as there are who wait end with nothing to be done, at that reading too.
pub record ComesToRest {C State : Type 0} (o : Object C State) (t : Terms C) (m now : ℕ) (k : Waiting C) : Type 0 where
  pub served : IsQuiet o t k
  pub quiet : IsQuiet o t (timed o k (record { member = m; read = now; purpose = Looks }))

abbrev pub EveryCellComesToRest : {C State : Type 0} → Object C State → Type 0
EveryCellComesToRest {C} o = (t : Terms C) (j : Waiting C) (m now n : ℕ) → length j.waiters ≤ n
    → ComesToRest o t m now (cell_after o t j (looks m now n))
