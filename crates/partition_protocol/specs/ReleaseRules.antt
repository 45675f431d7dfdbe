-- When an answer is released: at the first event at which each backup has acknowledged what it saw, the oldest first.
use Rattle.std.specs.Prelude.{◌≡◌, ℕ, ◌≤◌, ◌⊎◌, true, List, [], ◌∷◌, ◌++◌, Some, slice_get, slice_set, Contains}
use Rattle.grid_base.specs.Objects.{Object}
use Rattle.partition_table.specs.Rows.{is_backup}
use Rattle.partition_protocol.specs.Node.{Held, Node, acked}
use Rattle.partition_protocol.specs.World.{World, start, is_live}
use Rattle.partition_protocol.specs.Events.{Event, Call, happens, run}

-- acknowledgements, to a node in the version that it knows

-- member b has acknowledged so many effects, or more
abbrev pub HasAcknowledged : Node → ℕ → ℕ → Type 0
HasAcknowledged node k b = (c : ℕ) × (acked node b ≡ Some c) × (k ≤ c)

-- each backup of the row that the node knows has
abbrev pub AllHaveAcknowledged : Node → ℕ → Type 0
AllHaveAcknowledged node k = (b : ℕ) → is_backup node.known b ≡ true → HasAcknowledged node k b

-- one of them hasn't
abbrev pub OneHasNotAcknowledged : Node → ℕ → Type 0
OneHasNotAcknowledged node k = (b : ℕ) × (is_backup node.known b ≡ true) × (HasAcknowledged node k b → ⊥)

-- none is released late

-- of each answer that a member still holds after an event, a backup hasn't acknowledged what it saw
abbrev pub EveryHeldAnswerWaits : {C State : Type 0} → Object C State → Type 0
EveryHeldAnswerWaits {C} o =
    (partition members backups : ℕ) (events : List (Event C)) (m : ℕ) (node : Node) (h : Held) → 1 ≤ members
    → slice_get (run o (start partition members backups) events).nodes m ≡ Some node → Contains node.held h
    → OneHasNotAcknowledged node h.seen

-- and none early

-- the answer to a call that is executed in an event: it saw what its member then has
abbrev pub answer_to : {C : Type 0} → Event C → Node → List Held
answer_to (Call m conn number call now) after = record { conn = conn; number = number; seen = after.pair.count } ∷ []
answer_to _ after = []

pub record ReleasesInOrder {C : Type 0} (event : Event C) (before after : Node) (answers : List Held) : Type 0 where
  -- these answers and those still held are, in order, what was held before and the answer to a call executed now
  pub oldest : answers ++ after.held ≡ before.held ++ answer_to event after
  -- each backup of the row that the member now knows has acknowledged what they saw
  pub acknowledged : (h : Held) → Contains answers h → AllHaveAcknowledged after h.seen

-- one live member takes a step, and releases these answers
pub record IsStepOfOne {C : Type 0} (event : Event C) (w next : World C) : Type 0 where
  pub member : ℕ
  pub before : Node
  pub after : Node
  pub answers : List Held
  pub lives : is_live w member ≡ true
  pub was : slice_get w.nodes member ≡ Some before
  pub nodes : next.nodes ≡ slice_set w.nodes member after
  pub released : next.released ≡ w.released ++ answers
  pub in_order : ReleasesInOrder event before after answers

-- no member does, and nothing is released
abbrev pub IsStepOfNone : {C : Type 0} → World C → World C → Type 0
IsStepOfNone w next = (next.nodes ≡ w.nodes) × (next.released ≡ w.released)

abbrev pub EveryReleaseIsInOrder : {C State : Type 0} → Object C State → Type 0
EveryReleaseIsInOrder {C} o =
    (partition members backups : ℕ) (events : List (Event C)) (event : Event C) → 1 ≤ members
    → let w = run o (start partition members backups) events in
    let next = (happens o w event).world in
    IsStepOfNone w next ⊎ IsStepOfOne event w next
