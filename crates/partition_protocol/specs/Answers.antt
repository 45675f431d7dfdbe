-- An answer is held by one member, once, until it is released, and it is released once.
use Rattle.std.specs.Prelude.{◌≡◌, ◌≢◌, ℕ, List, map, Some, slice_get, Contains}
use Rattle.grid_base.specs.Objects.{Object}
use Rattle.partition_protocol.specs.Node.{Held, Node}
use Rattle.partition_protocol.specs.World.{World, start}
use Rattle.partition_protocol.specs.Events.{Event, run}
use Rattle.partition_protocol.specs.Arrivals.{CallName, name, arrivals, NamedOnce}

-- the name of the call that an answer is for
abbrev pub answered_call : Held → CallName
answered_call h = record { conn = h.conn; number = h.number }

pub record AreAnswersSingle {C : Type 0} (w : World C) : Type 0 where
  -- no call is released twice
  pub released : NamedOnce (map answered_call w.released)
  -- a member holds no call's answer twice
  pub held : (m : ℕ) (node : Node) → slice_get w.nodes m ≡ Some node → NamedOnce (map answered_call node.held)
  -- no two members hold a call's answer
  pub apart : (m k : ℕ) (a b : Node) (g h : Held) → m ≢ k → slice_get w.nodes m ≡ Some a → slice_get w.nodes k ≡ Some b
      → Contains a.held g → Contains b.held h → answered_call g ≢ answered_call h
  -- and what is held wasn't released
  pub waiting : (m : ℕ) (node : Node) (g h : Held) → slice_get w.nodes m ≡ Some node → Contains node.held g → Contains w.released h
      → answered_call g ≢ answered_call h

-- of any number of members and backups, where no two calls have one name
abbrev pub EveryAnswerIsSingle : {C State : Type 0} → Object C State → Type 0
EveryAnswerIsSingle {C} o =
    (partition members backups : ℕ) (events : List (Event C)) → NamedOnce (map name (arrivals events))
    → AreAnswersSingle (run o (start partition members backups) events)
