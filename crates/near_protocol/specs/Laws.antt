-- More of what holds of every run of a partition: who executes, and how versions go on in the log.
use Rattle.std.specs.Prelude.{◌≡◌, ℕ, ◌<◌, ◌≤◌, List, [], ◌∷◌, ◌++◌, length, drop, true, Some, slice_get, Contains}
use Rattle.grid_base.specs.Objects.{Object}
use Rattle.partition_table.specs.Rows.{is_primary}
use Rattle.partition_protocol.specs.Node.{Held, Node}
use Rattle.partition_protocol.specs.History.{Executed, Entry, Called, Reset}
use Rattle.partition_protocol.specs.World.{World, start}
use Rattle.partition_protocol.specs.Events.{Event, Call, Deliver, happens, run}
use Rattle.near_protocol.specs.Claims.{Before}

-- Versions never fall in the log, and a reopening's is above all before it
pub record IsLogRising {C : Type 0} (log : List (Entry C)) : Type 0 where
  pub calls : (a b : Executed C) → Before log (Called a) (Called b) → a.version ≤ b.version
  pub resets : (a : Executed C) (r : ℕ) → Before log (Called a) (Reset r) → a.version < r

-- two members that know themselves primary of one version are one
abbrev pub IsLedByOne : {C : Type 0} → World C → Type 0
IsLedByOne w = (m k : ℕ) (a b : Node) → slice_get w.nodes m ≡ Some a → slice_get w.nodes k ≡ Some b
    → is_primary a.known m ≡ true → is_primary b.known k ≡ true → a.known.version ≡ b.known.version → m ≡ k

-- of any number of members and backups
abbrev pub EveryLogRises : {C State : Type 0} → Object C State → Type 0
EveryLogRises {C} o =
    (partition members backups : ℕ) (events : List (Event C)) → 1 ≤ members
    → IsLogRising (run o (start partition members backups) events).recorded.log

abbrev pub EveryVersionIsLedByOne : {C State : Type 0} → Object C State → Type 0
EveryVersionIsLedByOne {C} o =
    (partition members backups : ℕ) (events : List (Event C)) → 1 ≤ members
    → IsLedByOne (run o (start partition members backups) events)

-- who answers

-- the event is a step of that member
abbrev pub IsStepOf : {C : Type 0} → Event C → ℕ → Type 0
IsStepOf (Call k conn number call now) m = k ≡ m
IsStepOf (Deliver from to place) m = to ≡ m
IsStepOf _ m = ⊥

-- the answer is to a call that reached that member
abbrev pub WasAskedAt : {C : Type 0} → List (Event C) → ℕ → Held → Type 0
WasAskedAt {C} events m h = (call : C) × (now : ℕ) × Contains events (Call m h.conn h.number call now)

-- An answer is held by the member that its call reached, and released by a step of that member
abbrev pub EveryAnswerIsOfItsMember : {C State : Type 0} → Object C State → Type 0
EveryAnswerIsOfItsMember {C} o =
    (partition members backups : ℕ) (events : List (Event C)) (event : Event C)
    → let w = run o (start partition members backups) events in
    let next = (happens o w event).world in
    ((m : ℕ) (node : Node) (h : Held) → slice_get w.nodes m ≡ Some node → Contains node.held h → WasAskedAt events m h)
    × ((h : Held) → Contains (drop (length w.released) next.released) h
    → (m : ℕ) × IsStepOf event m × WasAskedAt (events ++ event ∷ []) m h)
