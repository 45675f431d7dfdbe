-- How listeners come and go, and in which order they are told.
use Rattle.std.specs.Prelude.{◌≡◌, ℕ, ◌≤◌, ◌==◌, if◌then◌else◌, List, [], ◌∷◌, ◌++◌, filter, ⊤}
use Rattle.std.specs.List.{AllByRecursion}
use Rattle.partition_table.specs.declared.Row.{Row}
use Rattle.primary_hold.specs.declared.answer.CallAnswer.{CallAnswer}
use Rattle.listeners.specs.Standing.{placed, without}
use Rattle.listeners.specs.Telling.{Sent, events_of, rows_of}
use Rattle.listeners.specs.declared.listener.Listener.{Listener}

pub data Step : Type 0 where
  Registered : (listener : Listener) → Step
  -- a connection was closed
  Closed : (conn : ℕ) → Step

-- who listens after further steps
abbrev pub after : List Listener → List Step → List Listener
after all [] = all
after all (Registered listener ∷ steps) = after (placed listener all) steps
after all (Closed conn ∷ steps) = after (without conn all) steps

-- the registrations of a connection that stand after further steps: each comes last, until the connection is closed
abbrev pub registered : ℕ → List Listener → List Step → List Listener
registered conn before [] = before
registered conn before (Registered listener ∷ steps) = registered conn (if listener.conn == conn then before ++ listener ∷ [] else before) steps
registered conn before (Closed closed ∷ steps) = registered conn (if closed == conn then [] else before) steps

-- Whatever the steps, the listeners of each connection are those that it registered since it was last closed, in that order.
abbrev pub EveryConnectionKeepsItsOrder : Type 0
EveryConnectionKeepsItsOrder =
    (steps : List Step) (conn : ℕ) → filter (λ (listener : Listener). listener.conn == conn) (after [] steps) ≡ registered conn [] steps

-- The connections never fall.
abbrev pub GoInOrder : List Sent → Type 0
GoInOrder [] = ⊤
GoInOrder (sent ∷ others) = AllByRecursion (λ (other : Sent). sent.0 ≤ other.0) others × GoInOrder others

-- Whatever the steps, events go to the connections in their order.
abbrev pub EveryEventGoesInOrder : Type 0
EveryEventGoesInOrder =
    (steps : List Step) (partition : ℕ) (answer : CallAnswer) (rows : List (ℕ × Row)) →
    GoInOrder (events_of partition answer (after [] steps)) × GoInOrder (rows_of rows (after [] steps))
