-- Threads that were made and have ended.
use Rattle.std.specs.Prelude.{◌≡◌, ℕ, zero, suc, List, [], ◌∷◌, ◌++◌, map, length, All}
use Rattle.std.specs.declared.thread.PromisedHandle.{PromisedHandle}
use Rattle.thread_crew.specs.declared.room.Ended.{Ended}
use Rattle.thread_crew.specs.declared.room.GivesNumber.{GivesNumber}

abbrev pub Numbered : Type 0
Numbered = PromisedHandle ℕ GivesNumber

abbrev pub number_of : Numbered → ℕ
number_of thread = thread.promise.number

abbrev pub thread_of : Ended → Numbered
thread_of ended = ended.thread.value

-- the numbers below n, in their order
abbrev pub numbers_below : ℕ → List ℕ
numbers_below zero = []
numbers_below (suc n) = numbers_below n ++ n ∷ []

-- these threads have the numbers from 0 on
abbrev pub AreNumbered : List Numbered → Type 0
AreNumbered threads = map number_of threads ≡ numbers_below (length threads)

abbrev pub HasGivenItsNumber : Ended → Type 0
HasGivenItsNumber ended = ended.gave ≡ number_of (thread_of ended)

-- So many threads were made, with the numbers from 0 on, and each has ended, since it has given its number
pub record HaveEnded (threads : ℕ) (ended : List Ended) : Type 0 where
  pub numbered : map number_of (map thread_of ended) ≡ numbers_below threads
  pub gave : All HasGivenItsNumber ended
