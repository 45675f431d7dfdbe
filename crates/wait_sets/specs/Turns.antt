-- Whose turn it is in a list, and what becomes of that waiter.
use Rattle.std.specs.Prelude.{◌≡◌, ℕ, ◌≤◌, List, [], ◌∷◌, length, take, position, remove, slice_get, Option, Some, None}
use Rattle.grid_base.specs.declared.calls.Request.{Request}
use Rattle.object_store.specs.Partitions.{Partition}
use Rattle.call_engine.specs.Calls.{Settings}
use Rattle.wait_sets.specs.declared.waiter.Waiter.{Waiter}
use Rattle.wait_sets.specs.WaitSets.{is_its_turn, NoneIsDue}
use Rattle.wait_sets.specs.declared.turn.Standing.{Standing}
use Rattle.wait_sets.specs.declared.turn.Standing.TheVariants.{Serves, Refuses, Gone}
use Rattle.wait_sets.specs.declared.turn.Turn.{Turn}
use Rattle.wait_sets.specs.declared.turn.Turn.TheVariants.{Call, Refusal, Silence}

-- So many at the front weren't due at the last look.
abbrev pub AreUndue : Option ℕ → ℕ → List Waiter → Type 0
AreUndue None undue waiters = undue ≤ length waiters
AreUndue (Some now) undue waiters = (undue ≤ length waiters) × NoneIsDue now (take undue waiters)

-- the waiter at that place left, or nobody did
abbrev pub TakesNext : Option ℕ → List Waiter → Option Waiter → List Waiter → Type 0
TakesNext None old None new = new ≡ old
TakesNext (Some place) old (Some waiter) new = (slice_get old place ≡ Some waiter) × (new ≡ remove old place)
TakesNext None old (Some waiter) new = ⊥
TakesNext (Some place) old None new = ⊥

-- the place of the first, if there is one
abbrev pub first_place : List Waiter → Option ℕ
first_place [] = None
first_place (w ∷ ws) = Some 0

-- At a member that serves it is the turn of the first that is ready or due, and at any other that of the first.
abbrev pub place_in_turn : Settings → Partition → ℕ → Standing → List Waiter → Option ℕ
place_in_turn settings s now Serves waiters = position (is_its_turn settings s now) waiters
place_in_turn settings s now (Refuses why) waiters = first_place waiters
place_in_turn settings s now Gone waiters = first_place waiters

-- what becomes of a waiter there
abbrev pub turn_as : Standing → Request → Turn
turn_as Serves request = Call request
turn_as (Refuses why) request = Refusal request why
turn_as Gone request = Silence request

-- the waiter at that place left, and becomes so
pub record TakesAt (standing : Standing) (place : ℕ) (old : List Waiter) (turn : Turn) (new : List Waiter) : Type 0 where
  pub waiter : Waiter
  pub there : slice_get old place ≡ Some waiter
  pub left : new ≡ remove old place
  pub becomes : turn ≡ turn_as standing waiter.request

abbrev pub Takes : Standing → Option ℕ → List Waiter → Option Turn → List Waiter → Type 0
Takes standing None old None new = new ≡ old
Takes standing (Some place) old (Some turn) new = TakesAt standing place old turn new
Takes standing None old (Some turn) new = ⊥
Takes standing (Some place) old None new = ⊥

abbrev pub TakesTurn : Settings → Partition → ℕ → Standing → List Waiter → Option Turn → List Waiter → Type 0
TakesTurn settings s now standing old turn new = Takes standing (place_in_turn settings s now standing old) old turn new
