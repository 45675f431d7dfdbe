-- What holds of one line: how those leave that it makes leave, in which order, and what it adds to what happened.
use Rattle.std.specs.Prelude.{◌≡◌, ℕ, ◌≤◌, ◌==◌, ◌&&◌, if◌then◌else◌, Bool, true, false, not, List, [], ◌∷◌, ◌++◌, map, filter, Option, Some, None, slice_get, Contains}
use Rattle.std.specs.List.{list_any}
use Rattle.grid_base.specs.Objects.{Object}
use Rattle.partition_protocol.specs.Node.{Node}
use Rattle.partition_protocol.specs.Execution.{Reached, Executes, PartitionLost, WrongTarget, Migrating, reached}
use Rattle.partition_protocol.specs.World.{World, map_or, is_live}
use Rattle.partition_protocol.specs.Events.{Event}
use Rattle.partition_protocol.specs.Arrivals.{Asked, CallName, arrivals, name, NamedOnce}
use Rattle.partition_protocol.specs.Claims.{IsLawful}
use Rattle.waiting_protocol.specs.Machine.{Waiter, Waiting, Line, Terms, start, Fate, IsRefused, Leaves, is_made, Gone, opened, goes, gone_by, after, events}
use Rattle.waiting_protocol.specs.Claims.{IsLineAt, names_in, name_of, asked_in, waits_in}

-- one kind

-- what a member would do with a call: nothing, where it has crashed or the number is no member's
abbrev pub standing : {C : Type 0} → World C → ℕ → Option Reached
standing w m = if is_live w m then map_or (slice_get w.nodes m) None (λ (node : Node). Some (reached m node)) else None

-- Who leaves goes by that: without an answer, with its plain call, or with that refusal.
abbrev pub IsBy : Option Reached → Fate → Type 0
IsBy None f = f ≡ Leaves
IsBy (Some Executes) f = is_made f ≡ true
IsBy (Some (PartitionLost v)) f = f ≡ IsRefused (PartitionLost v)
IsBy (Some (WrongTarget v)) f = f ≡ IsRefused (WrongTarget v)
IsBy (Some (Migrating v)) f = f ≡ IsRefused (Migrating v)

-- All that a line makes leave are of one member, and leave by what that member did as the line began with them: so all with their plain calls, or all with one refusal, or all without an answer.
pub record IsOfOneKind {C State : Type 0} (o : Object C State) (t : Terms C) (j : Waiting C) (l : Line C) : Type 0 where
  pub by : (g : Gone C) → Contains (gone_by o t j l) g → IsLineAt l g.waiter.member × IsBy (standing (opened o j l).world g.waiter.member) g.fate
  pub alike : (g h : Gone C) → Contains (gone_by o t j l) g → Contains (gone_by o t j l) h → g.waiter.member ≡ h.waiter.member
  -- and that doesn't change
  pub stays : (m : ℕ) → standing (goes o t j l).world m ≡ standing (opened o j l).world m

abbrev pub EveryLineIsOfOneKind : {C State : Type 0} → Object C State → Type 0
EveryLineIsOfOneKind {C} o = (t : Terms C) (partition members backups : ℕ) (lines : List (Line C)) (l : Line C) → 1 ≤ members → IsLawful o
    → IsOfOneKind o t (after o t (start partition members backups) lines) l

-- refusals

-- it waits at that member
abbrev pub is_at : {C : Type 0} → ℕ → Waiter C → Bool
is_at m x = x.member == m

-- who leaves so, at the moment of each one's member
abbrev pub all_gone_as : {C : Type 0} → (ℕ → ℕ) → Fate → List (Waiter C) → List (Gone C)
all_gone_as {C} clock f xs = map (λ (x : Waiter C). record { waiter = x; fate = f; now = clock x.member }) xs

-- how all leave that wait at a member which doesn't serve
abbrev pub refusing : Option Reached → Option Fate
refusing None = Some Leaves
refusing (Some Executes) = None
refusing (Some (PartitionLost v)) = Some (IsRefused (PartitionLost v))
refusing (Some (WrongTarget v)) = Some (IsRefused (WrongTarget v))
refusing (Some (Migrating v)) = Some (IsRefused (Migrating v))

-- At a line of a member that doesn't serve all leave that wait there, in order of arrival, and nobody else; and nothing happens but what the line asks for.
abbrev pub EveryRefusalIsInOrder : {C State : Type 0} → Object C State → Type 0
EveryRefusalIsInOrder {C} o = (t : Terms C) (partition members backups : ℕ) (lines : List (Line C)) (l : Line C) (m : ℕ) (f : Fate) → 1 ≤ members → IsLawful o
    → let j = after o t (start partition members backups) lines in
    let k = opened o j l in
    IsLineAt l m → refusing (standing k.world m) ≡ Some f
    → (gone_by o t j l ≡ all_gone_as k.clock f (filter (is_at m) k.waiters))
    × ((goes o t j l).waiters ≡ filter (λ (x : Waiter C). not (is_at m x)) k.waiters)
    × ((goes o t j l).world ≡ k.world)

-- order

abbrev pub is_name : CallName → CallName → Bool
is_name k a = (a.conn == k.conn) && (a.number == k.number)

-- a call that doesn't wait, where these are the waiting calls that arrive
abbrev pub is_plain : {C : Type 0} → List (Waiter C) → Asked C → Bool
is_plain {C} waits a = not (list_any (λ (x : Waiter C). is_name (name a) (name_of x)) waits)

-- the calls among events that don't wait
abbrev pub plain_in : {C : Type 0} → List (Waiter C) → List (Event C) → List (Asked C)
plain_in waits es = filter (is_plain waits) (arrivals es)

-- What happens at later lines comes behind what happened before.
pub record KeepsOrder {C State : Type 0} (o : Object C State) (t : Terms C) (s : Waiting C) (earlier later : List (Line C)) : Type 0 where
  pub apart : events o t s (earlier ++ later) ≡ events o t s earlier ++ events o t (after o t s earlier) later
  -- A call that arrives later, whether it waits or not, is not among the earlier events, where no two have one name: so it stands behind each call that was executed by then.
  pub behind : NamedOnce (names_in (earlier ++ later)) → (k : CallName) → Contains (names_in later) k → Contains (map name (arrivals (events o t s earlier))) k → ⊥
  -- Those that don't wait stand in the order in which they were asked for.
  pub plain : plain_in (waits_in earlier) (events o t s earlier) ≡ plain_in (waits_in earlier) (asked_in earlier)

-- from the start, of any lines cut in two
abbrev pub EveryLineKeepsOrder : {C State : Type 0} → Object C State → Type 0
EveryLineKeepsOrder {C} o = (t : Terms C) (partition members backups : ℕ) (earlier later : List (Line C)) → KeepsOrder o t (start partition members backups) earlier later
