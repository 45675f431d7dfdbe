-- What a cell's history has of visits, who need be looked at, and until when nobody need look.
use Rattle.std.specs.Prelude.{◌≡◌, ℕ, Bool, ◌≤◌, ◌⊎◌, ◌==◌, min, if◌then◌else◌, true, false, List, [], ◌∷◌, ◌++◌, map, Option, Some, None, slice_get, Contains}
use Rattle.grid_base.specs.Objects.{Object}
use Rattle.partition_protocol.specs.Node.{Node}
use Rattle.partition_protocol.specs.World.{pair_state}
use Rattle.partition_protocol.specs.Arrivals.{CallName, arrivals, name, NamedOnce}
use Rattle.partition_protocol.specs.Claims.{IsLawful}
use Rattle.waiting_protocol.specs.Machine.{Waiter, Waiting, Line, Test, Terms, Gone, start, is_due, is_ready, stirs}
use Rattle.waiting_protocol.specs.Claims.{IsQuiet, IsLineAt, names_in}
use Rattle.live_waiting.specs.Cell.{Purpose, Calls, Makes, Brings, Drops, Looks, Visit, moment, timed, visited, left_at, events_at, lines_at, cell_after, cell_left, cell_events, cell_lines}
use Rattle.live_waiting.specs.Claims.{Serves, DoesItsOwn}

-- histories

-- Visits that come later add to what happened and left, at the end
pub record GoesOn {C State : Type 0} (o : Object C State) (t : Terms C) (j : Waiting C) (visits more : List (Visit C)) : Type 0 where
  pub state : cell_after o t j (visits ++ more) ≡ cell_after o t (cell_after o t j visits) more
  pub leavers : cell_left o t j (visits ++ more) ≡ cell_left o t j visits ++ cell_left o t (cell_after o t j visits) more
  pub making : cell_events o t j (visits ++ more) ≡ cell_events o t j visits ++ cell_events o t (cell_after o t j visits) more
  pub lines : cell_lines o t j (visits ++ more) ≡ cell_lines o t j visits ++ cell_lines o t (cell_after o t j visits) more

abbrev pub EveryCellGoesOn : {C State : Type 0} → Object C State → Type 0
EveryCellGoesOn {C} o = (t : Terms C) (j : Waiting C) (visits more : List (Visit C)) → GoesOn o t j visits more

-- the visit of a thread that only looks
abbrev pub looking : {C : Type 0} → Visit C → Visit C
looking v = record { member = v.member; read = v.read; purpose = Looks }

-- a mere look lets the same one go, and does the same
pub record DoesAsALook {C State : Type 0} (o : Object C State) (t : Terms C) (j k : Waiting C) (v : Visit C) (x : Waiter C) : Type 0 where
  pub serves : Serves o t j (looking v) k x
  pub state : visited o t j (looking v) ≡ visited o t j v
  pub leavers : left_at o t j (looking v) ≡ left_at o t j v
  pub making : events_at o t j (looking v) ≡ events_at o t j v
  pub lines : lines_at o t j (looking v) ≡ lines_at o t j v

-- One that serves does what a mere look does: so a history may have it as a look, whatever its thread came for
abbrev pub EveryServingVisitIsALook : {C State : Type 0} → Object C State → Type 0
EveryServingVisitIsALook {C} o = (t : Terms C) (j k : Waiting C) (v : Visit C) (x : Waiter C) → Serves o t j v k x
    → DoesAsALook o t j k v x

abbrev pub purpose_names : {C : Type 0} → Purpose C → List CallName
purpose_names (Calls conn number call) = record { conn = conn; number = number } ∷ []
purpose_names (Makes e) = map name (arrivals (e ∷ []))
purpose_names (Brings conn number call deadline) = record { conn = conn; number = number } ∷ []
purpose_names (Drops conn) = []
purpose_names Looks = []

-- the names of the calls for which threads came
abbrev pub visit_names : {C : Type 0} → List (Visit C) → List CallName
visit_names [] = []
visit_names (v ∷ vs) = purpose_names v.purpose ++ visit_names vs

-- Where no two visits came for calls of one name, no two calls of the lines have one name: which the laws ask for
abbrev pub EveryNameIsOfAVisit : {C State : Type 0} → Object C State → Type 0
EveryNameIsOfAVisit {C} o = (t : Terms C) (j : Waiting C) (visits : List (Visit C))
    → NamedOnce (visit_names visits) → NamedOnce (names_in (cell_lines o t j visits))

-- who need be looked at

-- the member is that of the last line
pub record IsOfLastLine {C : Type 0} (lines : List (Line C)) (m : ℕ) : Type 0 where
  pub served : List (Line C)
  pub last : Line C
  pub whole : lines ≡ served ++ last ∷ []
  pub at : IsLineAt last m

-- Who is let go waits at the member of the last line, or, once that is served to its end, at the member for which the thread comes: so two lists are looked at
abbrev pub EveryLeaverIsAtOneOfTwo : {C State : Type 0} → Object C State → Type 0
EveryLeaverIsAtOneOfTwo {C} o = (t : Terms C) (partition members backups : ℕ) (visits : List (Visit C)) (v : Visit C) (k : Waiting C) (x : Waiter C)
    → 1 ≤ members → IsLawful o
    → let s = start partition members backups in
    let j = cell_after o t s visits in
    Serves o t j v k x → IsOfLastLine (cell_lines o t s visits) x.member ⊎ (IsQuiet o t j × (x.member ≡ v.member))

-- After a look, and after a connection was closed, nothing is to be done with anybody
abbrev pub EveryIdleVisitLetsNobodyGo : {C State : Type 0} → Object C State → Type 0
EveryIdleVisitLetsNobodyGo {C} o = (t : Terms C) (j : Waiting C) (v : Visit C) → DoesItsOwn o t j v
    → (v.purpose ≡ Looks) ⊎ ((conn : ℕ) × (v.purpose ≡ Drops conn)) → IsQuiet o t (visited o t j v)

-- and after a waiting call has arrived, with nobody but that one
abbrev pub EveryNewcomerIsLookedAtAlone : {C State : Type 0} → Object C State → Type 0
EveryNewcomerIsLookedAtAlone {C} o = (t : Terms C) (j : Waiting C) (v : Visit C) (conn number : ℕ) (call : C) (deadline : Option ℕ)
    → DoesItsOwn o t j v → v.purpose ≡ Brings conn number call deadline
    → (x : Waiter C) → Contains j.waiters x → stirs o t (visited o t j v) x ≡ false

-- until when nobody need look

abbrev pub earlier_end : Option ℕ → Option ℕ → Option ℕ
earlier_end None d = d
earlier_end (Some a) None = Some a
earlier_end (Some a) (Some b) = Some (min a b)

-- the first moment at which the wait of somebody at that member ends, if it ends for anybody
abbrev pub earliest : {C : Type 0} → ℕ → List (Waiter C) → Option ℕ
earliest m [] = None
earliest m (x ∷ xs) = if x.member == m then earlier_end x.deadline (earliest m xs) else earliest m xs

-- Before that moment nobody there is due, and from then on somebody is
pub record IsTheEarliest {C : Type 0} (m now : ℕ) (xs : List (Waiter C)) : Type 0 where
  pub before : is_due now (earliest m xs) ≡ false → (x : Waiter C) → Contains xs x → x.member ≡ m → is_due now x.deadline ≡ false
  pub after : is_due now (earliest m xs) ≡ true → (x : Waiter C) × Contains xs x × (x.member ≡ m) × (is_due now x.deadline ≡ true)

abbrev pub EveryEarliestEndIsSomebodys : Type 0 → Type 0
EveryEarliestEndIsSomebodys C = (m now : ℕ) (xs : List (Waiter C)) → IsTheEarliest m now xs

-- nobody at the member for which the thread comes is ready at the moment that counts
abbrev pub NoneIsReadyThen : {C State : Type 0} → Object C State → Terms C → Waiting C → Visit C → Type 0
NoneIsReadyThen {C} o t j v = (x : Waiter C) (node : Node) → Contains j.waiters x → x.member ≡ v.member
    → slice_get j.world.nodes x.member ≡ Some node → is_ready o t (pair_state o j.world node.pair) x.call (moment j v) ≡ false

-- Where the last line is served to its end, a look before that moment lets nobody go, unless somebody there has become ready by time alone
abbrev pub EverySleeperMaySleep : {C State : Type 0} → Object C State → Type 0
EverySleeperMaySleep {C} o = (t : Terms C) (j : Waiting C) (v : Visit C) → IsQuiet o t j
    → is_due (moment j v) (earliest v.member j.waiters) ≡ false → NoneIsReadyThen o t j v
    → IsQuiet o t (timed o j v)

-- memory

-- Whether a waiting call finds memory matters only as it is let go: where two terms agree on those who have left, all has gone the same way. So what is said of any terms holds of memory that is found, or not, as it comes
pub record GoesTheSameWay {C State : Type 0} (o : Object C State) (t u : Terms C) (j : Waiting C) (visits : List (Visit C)) : Type 0 where
  pub state : cell_after o t j visits ≡ cell_after o u j visits
  pub leavers : cell_left o t j visits ≡ cell_left o u j visits
  pub making : cell_events o t j visits ≡ cell_events o u j visits
  pub lines : cell_lines o t j visits ≡ cell_lines o u j visits

abbrev pub EveryWantOfMemoryComesLate : {C State : Type 0} → Object C State → Type 0
EveryWantOfMemoryComesLate {C} o = (wished : Test C) (f g : Waiter C → Bool) (j : Waiting C) (visits : List (Visit C))
    → let t : Terms C = record { wished = wished; starves = f } in
    let u : Terms C = record { wished = wished; starves = g } in
    ((x : Gone C) → Contains (cell_left o t j visits) x → f x.waiter ≡ g x.waiter) → GoesTheSameWay o t u j visits
