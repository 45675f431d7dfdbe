-- What a shelf is to contracts: a one-thread object for each plan, with bytes for its effects and its states.
use Rattle.std.specs.Prelude.{ℕ, List, Option}
use Rattle.grid_base.specs.Objects.{Object}
use Rattle.grid_base.specs.declared.calls.Change.{Change}

pub record ShelfModel (S Plan Call State : Type 0) : Type 1 where
  -- the state that a shelf has
  pub state : S → State
  pub empty_state : State
  -- the object that the shelf is by a plan
  pub object : Plan → Object Call State
  -- the bytes that make the state after a call of the one before it; none where nothing changes
  pub effect_of : Plan → State → Call → ℕ → Option (List ℕ)
  -- how the call changes a value
  pub change_of : Plan → State → Call → ℕ → Option Change
  -- what every call keeps to, so that its effect can be written down: the limits of a message
  pub within_limits : Call → Type 0
  -- what so many calls within their limits can make of the empty state, and states no larger than that
  pub within : ℕ → State → Type 0
  -- the state after an effect; none where the effect does not fit the state
  pub applied : List ℕ → State → Option State
  -- the bytes that stand for a state
  pub snapshot_of : State → List ℕ

-- what a shelf is by one plan
pub record Meaning (S Call State : Type 0) : Type 0 where
  pub object : Object Call State
  pub state : S → State
  pub effect_of : State → Call → ℕ → Option (List ℕ)
  pub change_of : State → Call → ℕ → Option Change
  pub snapshot_of : State → List ℕ

abbrev pub meaning : {S Plan Call State : Type 0} → ShelfModel S Plan Call State → Plan → Meaning S Call State
meaning model plan = record {
  object = model.object plan;
  state = model.state;
  effect_of = model.effect_of plan;
  change_of = model.change_of plan;
  snapshot_of = model.snapshot_of;
}
