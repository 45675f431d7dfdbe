-- Worked examples, which the definitions compute. On partition 5 of three members with one backup, member 2 leads and member 0 is its backup.
use Rattle.std.specs.Prelude.{◌≡◌, ℕ, List, [], ◌∷◌, ◌++◌, length, refl}
use Rattle.masters_protocol.specs.Members.{Proposed, Counted}
use Rattle.partition_protocol.specs.Took.{Joined as TookJoined}
use Rattle.partition_protocol.specs.Examples.{register}
use Rattle.partition_protocol.specs.Events.{Deliver, Lose, Crash, BeginMove, BeginJoin, RowMadeAt, TookMessage}
use Rattle.masters_world.specs.Decisions.{Decision, BeginMove as Moving}
use Rattle.masters_world.specs.Machine.{Line, Asks, Told, MasterDeliver, Answer, start, answer, after}

pub record Seen : Type 0 where
  pub published : List Decision
  pub version : ℕ
  pub flight : ℕ

-- after these lines
abbrev pub seen_after : List (Line ℕ) → Seen
seen_after ls = let j = after register (start 5 3 1) ls in record { published = j.masters.published; version = j.world.service.row.version; flight = length j.world.packets }

-- what one more comes to
abbrev pub then : List (Line ℕ) → Line ℕ → Answer
then ls l = answer register (after register (start 5 3 1) ls) l

-- member 0 stores at both others
abbrev pub stored : List (Line ℕ)
stored = MasterDeliver 0 1 0 ∷ MasterDeliver 0 2 0 ∷ MasterDeliver 1 0 0 ∷ []

-- a move is stored at both others, and its row is made as the second answer comes

a_move_is_proposed : then [] (Asks (BeginMove 2 1)) ≡ record { masters = Proposed 1 ∷ []; at_once = []; published = [] }
a_move_is_proposed = refl

it_waits : seen_after (Asks (BeginMove 2 1) ∷ stored) ≡ record { published = []; version = 1; flight = 0 }
it_waits = refl

it_runs : then (Asks (BeginMove 2 1) ∷ stored) (MasterDeliver 2 0 0) ≡ record { masters = Counted ∷ []; at_once = []; published = RowMadeAt 2 ∷ [] }
it_runs = refl

its_row_is_told : seen_after (Asks (BeginMove 2 1) ∷ stored ++ MasterDeliver 2 0 0 ∷ []) ≡ record { published = Moving 2 1 ∷ []; version = 2; flight = 3 }
its_row_is_told = refl

-- the next master gathers it, and publishes it
it_survives : seen_after (Asks (BeginMove 2 1) ∷ MasterDeliver 0 1 0 ∷ Asks (Crash 0) ∷ Told 1 0 ∷ MasterDeliver 1 2 0 ∷ MasterDeliver 2 1 0 ∷ MasterDeliver 1 2 0 ∷ MasterDeliver 2 1 0 ∷ MasterDeliver 0 2 0 ∷ [])
    ≡ record { published = Moving 2 1 ∷ []; version = 2; flight = 3 }
it_survives = refl

-- Member 1 joins. That it has is said to the service, and the master that proposes to take it crashes before another member has stored it

abbrev pub joined : List (Line ℕ)
joined = Asks (BeginJoin 1) ∷ stored ++ MasterDeliver 2 0 0 ∷ Asks (Deliver 3 0 0) ∷ Asks (Deliver 3 1 0) ∷ Asks (Deliver 3 2 0) ∷ Asks (Deliver 2 0 0) ∷ Asks (Deliver 0 2 0) ∷ Asks (Deliver 2 1 0) ∷ Asks (Deliver 1 2 0) ∷ []

abbrev pub crashed : List (Line ℕ)
crashed = joined ++ Asks (Deliver 2 3 0) ∷ Asks (Crash 0) ∷ []

it_is_proposed_to_take_it : then joined (Asks (Deliver 2 3 0)) ≡ record { masters = Proposed 2 ∷ []; at_once = []; published = [] }
it_is_proposed_to_take_it = refl

-- while it is pending, in a message between masters alone, the message to the service is not lost, nor is it proposed again
it_is_not_lost : then crashed (Asks (Lose 2 3 0)) ≡ record { masters = []; at_once = []; published = [] }
it_is_not_lost = refl

it_is_not_proposed_again : then crashed (Asks (Deliver 2 3 0)) ≡ record { masters = []; at_once = []; published = [] }
it_is_not_proposed_again = refl

-- the next master finds it at member 1, and the service takes it from its place
it_is_taken : then (crashed ++ Asks (Lose 2 3 0) ∷ MasterDeliver 0 1 0 ∷ Told 1 0 ∷ MasterDeliver 1 2 0 ∷ MasterDeliver 2 1 0 ∷ MasterDeliver 1 2 0 ∷ []) (MasterDeliver 2 1 0)
    ≡ record { masters = Counted ∷ []; at_once = []; published = TookMessage TookJoined ∷ [] }
it_is_taken = refl
