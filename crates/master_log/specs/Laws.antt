-- The agreement of masters, in the words of their calls.
use Rattle.std.specs.Prelude.{◌≡◌, ℕ, ◌≤◌, true, List, ◌++◌}
use Rattle.partition_protocol.specs.Sequences.{IsFrontOf}
use Rattle.masters_protocol.specs.Members.{Member, is_master}
use Rattle.masters_protocol.specs.Machine.{Event, is_live}
use Rattle.masters_protocol.specs.Claims.{IsLiveMember}
use Rattle.master_wire.specs.declared.decision.Decision.{Decision}
use Rattle.master_log.specs.declared.masters.Masters.{Masters}
use Rattle.master_log.specs.Standing.{size_of, run_of, log_at, StandsFor}

-- what `published` answers
abbrev pub published_of : Masters → List (Event Decision) → List Decision
published_of masters events = (run_of masters events).published

-- The same members, after the same events and more
pub record IsLater (old new : Masters) (before after : List (Event Decision)) : Type 0 where
  pub size : size_of new ≡ size_of old
  pub first : StandsFor old before
  pub second : StandsFor new (before ++ after)

-- what is published stands in front of what is published later, and of each log of a member that lives then
pub record IsInFront (old new : Masters) (before after : List (Event Decision)) : Type 0 where
  pub published : IsFrontOf (published_of old before) (published_of new (before ++ after))
  pub logs : (m : ℕ) → is_live (run_of new (before ++ after)) m ≡ true → IsFrontOf (published_of old before) (log_at (run_of new (before ++ after)) m)

abbrev pub EveryListIsAFront : Type 0
EveryListIsAFront = (old new : Masters) (before after : List (Event Decision)) → IsLater old new before after → IsInFront old new before after

-- of two members that live, of which one gathers or serves, that one is no higher; so there is one at most
abbrev pub AtMostOneIsMaster : Type 0
AtMostOneIsMaster = (masters : Masters) (events : List (Event Decision)) → StandsFor masters events → (m k : ℕ) (n j : Member Decision) → IsLiveMember (run_of masters events) m n → IsLiveMember (run_of masters events) k j
    → is_master n.role ≡ true → (m ≤ k) × (is_master j.role ≡ true → m ≡ k)
