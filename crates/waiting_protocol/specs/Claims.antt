-- What holds of calls that wait, after every list of lines.
use Rattle.std.specs.Prelude.{◌≡◌, ◌≢◌, ℕ, ◌+◌, ◌<◌, ◌≤◌, ◌⊎◌, ◌||◌, true, false, List, [], ◌∷◌, ◌++◌, map, length, Some, None, slice_get, Contains}
use Rattle.grid_base.specs.Objects.{Object}
use Rattle.partition_protocol.specs.Node.{Node}
use Rattle.partition_protocol.specs.Execution.{Reached, Executes, reached}
use Rattle.partition_protocol.specs.World as world
use Rattle.partition_protocol.specs.World.{World, is_live, pair_state}
use Rattle.partition_protocol.specs.Events.{Event, Call, Deliver, Crash, HeldAt, ReleasedAt, Refused, happens, run}
use Rattle.partition_protocol.specs.Arrivals.{CallName, arrivals, name, NamedOnce}
use Rattle.partition_protocol.specs.Claims.{IsSafe, IsFaithful, IsLawful}
use Rattle.waiting_protocol.specs.Machine.{Waiter, Waiting, Line, Asks, Waits, Clock, Closes, Terms, start, is_due, is_ready, comes, Runs, Starves, IsRefused, Leaves, is_made, fate, fate_in, stirs, Gone, plain, gone_as, leaving, turn, gone_in, turned, gone, opened, event_in, goes, gone_by, events_by, after, events, all_gone}

-- something is to be done with none of them
abbrev pub NoneStirs : {C State : Type 0} → Object C State → Terms C → Waiting C → List (Waiter C) → Type 0
NoneStirs {C} o t j xs = (x : Waiter C) → Contains xs x → stirs o t j x ≡ false

-- nothing is left to be done
abbrev pub IsQuiet : {C State : Type 0} → Object C State → Terms C → Waiting C → Type 0
IsQuiet o t j = NoneStirs o t j j.waiters

-- x is the first with which something is to be done: it leaves next
pub record IsItsTurn {C State : Type 0} (o : Object C State) (t : Terms C) (j : Waiting C) (x : Waiter C) : Type 0 where
  pub front : List (Waiter C)
  pub back : List (Waiter C)
  pub place : j.waiters ≡ front ++ x ∷ back
  pub earlier : NoneStirs o t j front
  pub stirred : stirs o t j x ≡ true
  -- what it leaves is the rest of the list and the world after its event, if it runs
  pub left : turn o t j ≡ leaving o t j (record { front = front; one = x; back = back })
  pub gone : gone_in o t j ≡ gone_as o t j x ∷ []

-- a turn: nothing, where nothing is to be done, or it is that of one waiter
abbrev pub Turns : {C State : Type 0} → Object C State → Terms C → Waiting C → Type 0
Turns {C} o t j = (IsQuiet o t j × (turn o t j ≡ j) × (gone_in o t j ≡ [])) ⊎ ((x : Waiter C) × IsItsTurn o t j x)

-- what becomes of the plain call at that moment agrees with the rule: an event where it runs, and else the refusal that is given in place of an event
pub record IsAsPlain {C State : Type 0} (o : Object C State) (t : Terms C) (j : Waiting C) (x : Waiter C) : Type 0 where
  pub refused : (r : Reached) → fate o t j x ≡ IsRefused r → happens o j.world (plain x (j.clock x.member)) ≡ record { world = j.world; outcome = Refused r }
  pub runs : fate o t j x ≡ Runs → let h = happens o j.world (plain x (j.clock x.member)) in (seen : ℕ) × ((h.outcome ≡ HeldAt seen) ⊎ (h.outcome ≡ ReleasedAt seen))
  -- a plain call is made only of one that is ready or due, and is an event only where it finds memory
  pub wished : is_made (fate o t j x) ≡ true → (node : Node) × (slice_get j.world.nodes x.member ≡ Some node) × (reached x.member node ≡ Executes) × (comes o t j.world (j.clock x.member) x node ≡ true)
  pub fed : fate o t j x ≡ Runs → t.starves x ≡ false
  pub unfed : fate o t j x ≡ Starves → t.starves x ≡ true
  -- only one of no live member leaves without an answer
  pub dropped : fate o t j x ≡ Leaves → (is_live j.world x.member ≡ false) ⊎ (slice_get j.world.nodes x.member ≡ None)

-- it waits at a live member that serves, and is neither ready nor due
pub record WaitsOn {C State : Type 0} (o : Object C State) (t : Terms C) (j : Waiting C) (x : Waiter C) : Type 0 where
  pub live : is_live j.world x.member ≡ true
  pub node : Node
  pub known : slice_get j.world.nodes x.member ≡ Some node
  pub serves : reached x.member node ≡ Executes
  pub unready : is_ready o t (pair_state o j.world node.pair) x.call (j.clock x.member) ≡ false
  pub undue : is_due (j.clock x.member) x.deadline ≡ false

-- names

abbrev pub names_in : {C : Type 0} → List (Line C) → List CallName
names_in [] = []
names_in (Asks e ∷ ls) = map name (arrivals (e ∷ [])) ++ names_in ls
names_in (Waits x ∷ ls) = record { conn = x.conn; number = x.number } ∷ names_in ls
names_in (Clock m now ∷ ls) = names_in ls
names_in (Closes c ∷ ls) = names_in ls

abbrev pub name_of : {C : Type 0} → Waiter C → CallName
name_of x = record { conn = x.conn; number = x.number }

-- the events that are asked for, and the waiting calls that arrive
abbrev pub asked_in : {C : Type 0} → List (Line C) → List (Event C)
asked_in [] = []
asked_in (l ∷ ls) = event_in l ++ asked_in ls

abbrev pub waits_by : {C : Type 0} → Line C → List (Waiter C)
waits_by (Asks e) = []
waits_by (Waits x) = x ∷ []
waits_by (Clock m now) = []
waits_by (Closes c) = []

abbrev pub waits_in : {C : Type 0} → List (Line C) → List (Waiter C)
waits_in [] = []
waits_in (l ∷ ls) = waits_by l ++ waits_in ls

-- after lines

pub record IsRuled {C State : Type 0} (o : Object C State) (t : Terms C) (p n b : ℕ) (lines : List (Line C)) (j : Waiting C) (happened : List (Event C)) : Type 0 where
  -- the world is that of what happened, so all that is claimed of the partition's protocol holds
  pub of_events : run o (world.start p n b) happened ≡ j.world
  -- names once carries over from the calls that arrive, waiting or not
  pub once : NamedOnce (names_in lines) → NamedOnce (map name (arrivals happened))
  pub safe : 1 ≤ n → NamedOnce (names_in lines) → IsSafe o j.world × IsFaithful happened j.world
  -- what waits has a name of its own, and made no event
  pub waiting : NamedOnce (names_in lines) → NamedOnce (map name (arrivals happened) ++ map name_of j.waiters)
  -- each event was asked for, or is the plain call of a waiting call that arrived, at some moment, and found memory
  pub sources : (e : Event C) → Contains happened e → Contains (asked_in lines) e ⊎ ((x : Waiter C) × (now : ℕ) × Contains (waits_in lines) x × (t.starves x ≡ false) × (e ≡ plain x now))
  -- there are no more events than lines
  pub steps : length happened + length j.waiters ≤ length lines
  -- nothing is left to be done
  pub quiet : IsQuiet o t j
  pub waits : (x : Waiter C) → Contains j.waiters x → WaitsOn o t j x
  -- each further line goes by the rule, turn by turn
  pub turns : (l : Line C) (i : ℕ) → Turns o t (turned o t i (opened o j l))
  -- and comes to its end after at most as many turns as there are waiters: each makes the list shorter
  pub ends : (l : Line C) → IsQuiet o t (goes o t j l)
  pub shorter : (l : Line C) (i : ℕ) (x : Waiter C) → let k = turned o t i (opened o j l) in IsItsTurn o t k x → length (turn o t k).waiters < length k.waiters
  -- what is done is what the plain call says
  pub plain_calls : (l : Line C) (i : ℕ) (x : Waiter C) → IsAsPlain o t (turned o t i (opened o j l)) x

-- of any number of members and backups
abbrev pub EveryWaiterIsRuled : {C State : Type 0} → Object C State → Type 0
EveryWaiterIsRuled {C} o = (t : Terms C) (partition members backups : ℕ) (lines : List (Line C))
    → IsRuled o t partition members backups lines (after o t (start partition members backups) lines) (events o t (start partition members backups) lines)

-- Two waiters of one member with one plain call: the later has its turn at a member that serves only where it is due, the earlier isn't, and neither is ready
abbrev pub EarlierOfTwoGoesFirst : {C State : Type 0} → Object C State → Type 0
EarlierOfTwoGoesFirst {C} o = (t : Terms C) (j : Waiting C) (x y : Waiter C) (turn : IsItsTurn o t j y) → Contains turn.front x
    → x.member ≡ y.member → x.call ≡ y.call → (node : Node) → slice_get j.world.nodes y.member ≡ Some node
    → let now = j.clock y.member in
    (is_made (fate o t j y) ≡ true) × (is_ready o t (pair_state o j.world node.pair) y.call now ≡ false) × (is_due now x.deadline ≡ false) × (is_due now y.deadline ≡ true)

-- leaving a waiter out

-- k is j without the waiter
pub record IsWithout {C : Type 0} (x : Waiter C) (j k : Waiting C) : Type 0 where
  pub front : List (Waiter C)
  pub back : List (Waiter C)
  pub world : k.world ≡ j.world
  pub clock : k.clock ≡ j.clock
  pub with_it : j.waiters ≡ front ++ x ∷ back
  pub without : k.waiters ≡ front ++ back

-- Up to its turn in that line nothing differs but that it waits
pub record ComesToItsTurn {C State : Type 0} (o : Object C State) (t : Terms C) (x : Waiter C) (j k : Waiting C) (l : Line C) : Type 0 where
  pub turn : ℕ
  pub before : IsWithout x (turned o t turn (opened o j l)) (turned o t turn (opened o k l))
  pub others : gone o t turn (opened o j l) ≡ gone o t turn (opened o k l)
  pub its : IsItsTurn o t (turned o t turn (opened o j l)) x

-- after the lines, it waits or has had its turn, or its connection was closed; up to there nothing else depends on it
pub record IsStillWaiting {C State : Type 0} (o : Object C State) (t : Terms C) (x : Waiter C) (j k : Waiting C) (lines : List (Line C)) : Type 0 where
  pub states : IsWithout x (after o t j lines) (after o t k lines)
  pub events_same : events o t j lines ≡ events o t k lines
  pub gone_same : all_gone o t j lines ≡ all_gone o t k lines

pub record HasLeft {C State : Type 0} (o : Object C State) (t : Terms C) (x : Waiter C) (j k : Waiting C) (lines : List (Line C)) : Type 0 where
  pub before : List (Line C)
  pub line : Line C
  pub later : List (Line C)
  pub whole : lines ≡ before ++ line ∷ later
  pub until : IsStillWaiting o t x j k before
  -- by the rule, or as its connection closed: then all goes on as if it had never been
  pub how : ComesToItsTurn o t x (after o t j before) (after o t k before) line
      ⊎ ((line ≡ Closes x.conn) × (goes o t (after o t j before) line ≡ goes o t (after o t k before) line) × (events_by o t (after o t j before) line ≡ events_by o t (after o t k before) line))

abbrev pub NothingDependsOn : {C State : Type 0} → Object C State → Terms C → Waiter C → Waiting C → Waiting C → List (Line C) → Type 0
NothingDependsOn o t x j k lines = IsStillWaiting o t x j k lines ⊎ HasLeft o t x j k lines

-- the waiter arrives after some lines: it has its turn at once, or it waits; from then on as above, against the run without it
abbrev pub EveryWaiterIsSilent : {C State : Type 0} → Object C State → Type 0
EveryWaiterIsSilent {C} o = (t : Terms C) (partition members backups : ℕ) (lines more : List (Line C)) (x : Waiter C)
    → let j = after o t (start partition members backups) lines in
    IsItsTurn o t (opened o j (Waits x)) x
    ⊎ (IsWithout x (goes o t j (Waits x)) j × (events_by o t j (Waits x) ≡ []) × (gone_by o t j (Waits x) ≡ []) × NothingDependsOn o t x (goes o t j (Waits x)) j more)

-- elsewhere

-- an event that may stir the waiters of that member
abbrev pub IsAt : {C : Type 0} → Event C → ℕ → Type 0
IsAt (Call m conn number call now) k = m ≡ k
IsAt (Deliver f t i) k = t ≡ k
IsAt (Crash m) k = m ≡ k
IsAt _ k = ⊥

-- any other event changes nothing of what is to be done with them
abbrev pub EveryOtherEventIsIdle : {C State : Type 0} → Object C State → Type 0
EveryOtherEventIsIdle {C} o = (t : Terms C) (partition members backups : ℕ) (events : List (Event C)) (event : Event C) (now : ℕ) (x : Waiter C) → 1 ≤ members → IsLawful o
    → (IsAt event x.member → ⊥)
    → let w = run o (world.start partition members backups) events in
    fate_in o t (happens o w event).world now x ≡ fate_in o t w now x

-- of that member may a line make waiters leave
abbrev pub IsLineAt : {C : Type 0} → Line C → ℕ → Type 0
IsLineAt (Asks e) k = IsAt e k
IsLineAt (Waits x) k = x.member ≡ k
IsLineAt (Clock m now) k = m ≡ k
IsLineAt (Closes c) k = ⊥

-- so only one member's list need be looked at
abbrev pub EveryLeaverIsOfItsLine : {C State : Type 0} → Object C State → Type 0
EveryLeaverIsOfItsLine {C} o = (t : Terms C) (partition members backups : ℕ) (lines : List (Line C)) (l : Line C) (g : Gone C) → 1 ≤ members → IsLawful o
    → Contains (gone_by o t (after o t (start partition members backups) lines) l) g → IsLineAt l g.waiter.member

-- closed connections

-- no waiting call of that connection is among them
abbrev pub NoneIsOf : {C : Type 0} → ℕ → List (Waiter C) → Type 0
NoneIsOf {C} conn xs = (x : Waiter C) → Contains xs x → x.conn ≢ conn

-- none of these who left was of that connection
abbrev pub NoneLeftOf : {C : Type 0} → ℕ → List (Gone C) → Type 0
NoneLeftOf {C} conn gs = (g : Gone C) → Contains gs g → g.waiter.conn ≢ conn

-- From the line that closes a connection on, nobody of it waits, and nobody of it leaves by the rule, as long as no waiting call of it arrives
abbrev pub EveryClosedConnectionIsLeft : {C State : Type 0} → Object C State → Type 0
EveryClosedConnectionIsLeft {C} o = (t : Terms C) (j : Waiting C) (conn : ℕ) (more : List (Line C)) → NoneIsOf conn (waits_in more)
    → NoneIsOf conn (after o t j (Closes conn ∷ more)).waiters × NoneLeftOf conn (all_gone o t j (Closes conn ∷ more))
