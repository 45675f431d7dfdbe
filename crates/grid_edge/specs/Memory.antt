-- What contracts see of a source and a sink in memory.
use Rattle.std.specs.Prelude.{◌≡◌, ℕ, ◌+◌, ◌≤◌, List, ◌++◌, length, take, drop}
use Rattle.grid_edge.specs.Given.{Given, after_piece}
use Rattle.grid_edge.specs.Plan.{Plan, after_call, after_fault}

-- what was given, the bytes that are left, the most that one call gives, and which calls fail
pub record Input : Type 0 where
  pub given : Given
  pub left : List ℕ
  pub most : ℕ
  pub plan : Plan

-- after a call with so much room that gave n bytes
abbrev pub after_read : Input → (room n : ℕ) → Input
after_read input room n = record input { given = after_piece input.given room n (take n input.left); left = drop n input.left; plan = after_call input.plan }

-- after a call that failed
abbrev pub after_failed_read : Input → Input
after_failed_read input = record input { plan = after_fault input.plan }

-- the bytes that were taken, for how many more there is room, the most that one call takes, and which calls fail
pub record Output : Type 0 where
  pub taken : List ℕ
  pub room : ℕ
  pub most : ℕ
  pub plan : Plan

-- a call took this piece, which used up no more than its length of the room
pub record Takes (old new : Output) (piece : List ℕ) : Type 0 where
  pub taken : new.taken ≡ old.taken ++ piece
  pub room : old.room ≤ new.room + length piece
  pub most : new.most ≡ old.most
  pub plan : new.plan ≡ after_call old.plan

-- a call failed, and took nothing
pub record TakesNothing (old new : Output) : Type 0 where
  pub taken : new.taken ≡ old.taken
  pub room : old.room ≤ new.room
  pub most : new.most ≡ old.most
  pub plan : new.plan ≡ after_fault old.plan

-- the bytes of a steady source: what was given, and what is left
pub record Steady : Type 0 where
  pub given : Given
  pub left : List ℕ

-- after a call with so much room that gave n bytes
abbrev pub after_steady_read : Steady → (room n : ℕ) → Steady
after_steady_read steady room n = record { given = after_piece steady.given room n (take n steady.left); left = drop n steady.left }
