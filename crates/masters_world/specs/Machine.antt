-- A partition whose table service is run by its members' masters.
-- Each event of the service is proposed as a decision, and runs on the partition's world as it is published. All else runs at once.
use Rattle.std.specs.Prelude.{ℕ, Bool, false, not, ◌&&◌, ◌==◌, if◌then◌else◌, List, [], ◌∷◌, ◌++◌, map, Option, Some, None, is_some, slice_get}
use Rattle.grid_base.specs.Objects.{Object}
use Rattle.partition_table.specs.Rows.{is_among}
use Rattle.masters_protocol.specs.Members.{Outcome}
use Rattle.masters_protocol.specs.Machine as masters
use Rattle.masters_protocol.specs.Machine.{Masters, master, pending}
use Rattle.partition_protocol.specs.Messages.{Packet}
use Rattle.partition_protocol.specs.World as world
use Rattle.partition_protocol.specs.World.{World, map_or}
use Rattle.partition_protocol.specs.Links.{link}
use Rattle.partition_protocol.specs.Events as partition
use Rattle.masters_world.specs.Decisions.{Decision, Detect, BeginMove, BeginJoin, BeginHandover, Advance, Reopen, Take, event_of}

pub record Ruled (C : Type 0) : Type 0 where
  pub masters : Masters Decision
  pub world : World C

-- what can be asked for
pub data Line (C : Type 0) : Type 0 where
  -- an event of the partition
  Asks : (event : partition.Event C) → Line C
  -- a member is told that another has crashed
  Told : (member crashed : ℕ) → Line C
  -- the message at that place of a link between masters is handed over
  MasterDeliver : (from to place : ℕ) → Line C
  -- it is lost
  MasterLose : (from to place : ℕ) → Line C
  -- a master asks or stores again
  MasterResend : (member : ℕ) → Line C

abbrev pub start : {C : Type 0} → (partition n backups : ℕ) → Ruled C
start p n b = record { masters = masters.start n; world = world.start p n b }

-- what the masters are asked

-- the live master that serves was told of that crash
abbrev pub was_told : {C : Type 0} → Ruled C → ℕ → Bool
was_told j x = map_or (master j.masters) false (λ m. map_or (slice_get j.masters.members m) false (λ n. is_among n.told x))

-- that the service takes the message there, if there is one
abbrev pub taking : ℕ → ℕ → Option Packet → List Decision
taking f i None = []
taking f i (Some p) = Take f i p.message ∷ []

-- what an event that is asked for proposes. While something is pending no message to the service is
abbrev pub proposals : {C : Type 0} → Ruled C → partition.Event C → List Decision
proposals j (partition.Deliver f t i) = if (t == j.world.members) && not (pending j.masters) then taking f i (slice_get (link f t j.world.packets) i) else []
proposals j (partition.Detect m) = if was_told j m then Detect m ∷ [] else []
proposals j (partition.BeginMove from to) = BeginMove from to ∷ []
proposals j (partition.BeginJoin to) = BeginJoin to ∷ []
proposals j (partition.BeginHandover from to) = BeginHandover from to ∷ []
proposals j partition.Advance = Advance ∷ []
proposals j partition.Reopen = Reopen ∷ []
proposals j _ = []

abbrev pub proposing : List Decision → List (masters.Event Decision)
proposing ds = map (λ d. masters.Propose d) ds

-- the event of the masters, if there is one. A crash is an event of both
abbrev pub asked_by : {C : Type 0} → Ruled C → Line C → List (masters.Event Decision)
asked_by j (Asks (partition.Crash m)) = masters.Crash m ∷ []
asked_by j (Asks e) = proposing (proposals j e)
asked_by j (Told m x) = masters.Told m x ∷ []
asked_by j (MasterDeliver f t i) = masters.Deliver f t i ∷ []
asked_by j (MasterLose f t i) = masters.Lose f t i ∷ []
asked_by j (MasterResend m) = masters.Resend m ∷ []

-- what happens to the partition

-- The member's event that runs at once, if there is one. A message to the service isn't lost while something is pending,
-- and the service sends again only where a live master serves
abbrev pub at_once_of : {C : Type 0} → Ruled C → partition.Event C → List (partition.Event C)
at_once_of j (partition.Call m conn number call now) = partition.Call m conn number call now ∷ []
at_once_of j (partition.Deliver f t i) = if t == j.world.members then [] else partition.Deliver f t i ∷ []
at_once_of j (partition.Lose f t i) = if (t == j.world.members) && pending j.masters then [] else partition.Lose f t i ∷ []
at_once_of j (partition.Repeat f t i) = partition.Repeat f t i ∷ []
at_once_of j (partition.Resend end) = if (end == j.world.members) && not (is_some (master j.masters)) then [] else partition.Resend end ∷ []
at_once_of j (partition.Crash m) = partition.Crash m ∷ []
at_once_of j _ = []

abbrev pub at_once : {C : Type 0} → Ruled C → Line C → List (partition.Event C)
at_once j (Asks e) = at_once_of j e
at_once j _ = []

-- what stands past a list's length in a longer one
abbrev pub past : {X : Type 0} → List X → List X → List X
past [] ys = ys
past (x ∷ xs) [] = []
past (x ∷ xs) (y ∷ ys) = past xs ys

abbrev pub masters_after : {C : Type 0} → Ruled C → Line C → Masters Decision
masters_after j l = masters.run j.masters (asked_by j l)

-- the decisions that are published
abbrev pub published_by : {C : Type 0} → Ruled C → Line C → List Decision
published_by j l = past j.masters.published (masters_after j l).published

-- the events that happen to the partition
abbrev pub events_by : {C : Type 0} → Ruled C → Line C → List (partition.Event C)
events_by j l = at_once j l ++ map (event_of j.world.members) (published_by j l)

abbrev pub goes : {C State : Type 0} → Object C State → Ruled C → Line C → Ruled C
goes o j l = record { masters = masters_after j l; world = partition.run o j.world (events_by j l) }

-- what a line comes to

abbrev pub masters_say : Masters Decision → List (masters.Event Decision) → List Outcome
masters_say M [] = []
masters_say M (e ∷ es) = let h = masters.happens M e in h.outcome ∷ masters_say h.world es

abbrev pub partition_says : {C State : Type 0} → Object C State → World C → List (partition.Event C) → List partition.Outcome
partition_says o w [] = []
partition_says o w (e ∷ es) = let h = partition.happens o w e in h.outcome ∷ partition_says o h.world es

-- the outcomes of what the masters are asked, of what happens at once, and of the decisions that are published
pub record Answer : Type 0 where
  pub masters : List Outcome
  pub at_once : List partition.Outcome
  pub published : List partition.Outcome

abbrev pub answer : {C State : Type 0} → Object C State → Ruled C → Line C → Answer
answer o j l = record {
  masters = masters_say j.masters (asked_by j l);
  at_once = partition_says o j.world (at_once j l);
  published = partition_says o (partition.run o j.world (at_once j l)) (map (event_of j.world.members) (published_by j l));
}

-- over a list of lines

abbrev pub after : {C State : Type 0} → Object C State → Ruled C → List (Line C) → Ruled C
after o j [] = j
after o j (l ∷ ls) = after o (goes o j l) ls

-- what the masters were asked
abbrev pub asked : {C State : Type 0} → Object C State → Ruled C → List (Line C) → List (masters.Event Decision)
asked o j [] = []
asked o j (l ∷ ls) = asked_by j l ++ asked o (goes o j l) ls

-- what happened to the partition
abbrev pub events : {C State : Type 0} → Object C State → Ruled C → List (Line C) → List (partition.Event C)
events o j [] = []
events o j (l ∷ ls) = events_by j l ++ events o (goes o j l) ls

abbrev pub answers : {C State : Type 0} → Object C State → Ruled C → List (Line C) → List Answer
answers o j [] = []
answers o j (l ∷ ls) = answer o j l ∷ answers o (goes o j l) ls
