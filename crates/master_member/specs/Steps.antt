-- A member's whole step: what the machine has it do, and, where it has gathered by that, that it serves.
use Rattle.std.specs.Prelude.{◌≡◌, ℕ, ◌≤◌, if◌then◌else◌, List, [], ◌++◌, map, length}
use Rattle.masters_protocol.specs.Members.{Member, Sent, Step, is_gathered, server, storing}
use Rattle.link_net.specs.Links.{sent_to}
use Rattle.std.specs.List.{AllByRecursion}
use Rattle.master_wire.specs.declared.decision.Decision.{Decision}
use Rattle.master_wire.specs.Spelling.{spelling, IsSpelled}
use Rattle.master_member.specs.declared.taking.Taken.{Taken}
use Rattle.master_member.specs.Outcomes.{outcome_of}

-- who has gathered serves
abbrev pub settled : ℕ → ℕ → Member Decision → Member Decision
settled size m n = if is_gathered size m n then server n else n

-- and has its log stored
abbrev pub settling : ℕ → ℕ → Member Decision → List (Sent Decision)
settling size m n = if is_gathered size m n then storing size m (server n) else []

-- the bytes of what is sent, and who takes them
abbrev pub written : Sent Decision → ℕ × List ℕ
written s = (s.to, spelling s.message)

-- These bytes are what is sent
pub record AreWritten (out : List (ℕ × List ℕ)) (sent : List (Sent Decision)) : Type 0 where
  pub bytes : out ≡ map written sent
  pub spelled : AllByRecursion (λ (s : Sent Decision). IsSpelled s.message) sent

-- To each member at most one of them goes, and none to a number that is no member's
pub record IsSingle (size : ℕ) (out : List (ℕ × List ℕ)) : Type 0 where
  pub few : (to : ℕ) → length (sent_to to out) ≤ 1
  pub within : (to : ℕ) → size ≤ to → sent_to to out ≡ []

-- Member m has taken that step whole, and these bytes are to be sent
pub record HasStepped (size m : ℕ) (step : Step Decision) (new : Member Decision) (out : List (ℕ × List ℕ)) : Type 0 where
  pub member : new ≡ settled size m step.member
  pub sent : AreWritten out (step.sent ++ settling size m step.member)
  pub single : IsSingle size out

-- Member m has taken a message: the step, and how it is answered
pub record HasTaken (size m : ℕ) (step : Step Decision) (new : Member Decision) (taken : Taken) : Type 0 where
  pub stepped : HasStepped size m step new taken.sent.items
  pub took : outcome_of taken.took ≡ step.outcome
