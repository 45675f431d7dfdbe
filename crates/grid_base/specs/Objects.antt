-- A one-thread object: what one thread sees that calls one value, one call after the other.
use Rattle.std.specs.Prelude.{ℕ, ◌^◌, ◌<◌, Bool, List}

-- The state at first; what a call answers in a state at a moment, and which state it leaves; and whether that counts as a change.
pub record Object (Call State : Type 0) : Type 0 where
  pub empty : State
  pub reply : State → Call → ℕ → List ℕ
  pub after : State → Call → ℕ → State
  pub changes : State → Call → ℕ → Bool

-- So few calls made the state that their number has four bytes, and so each length and number in it.
pub record IsSmall {State : Type 0} (within : ℕ → State → Type 0) (s : State) : Type 0 where
  pub calls : ℕ
  pub few : calls < 2 ^ 32
  pub made : within calls s
