-- What the code answers, in the words of the machines.
use Rattle.std.specs.Prelude.{ℕ, Option, Some, None}
use Rattle.masters_protocol.specs.Members.{Outcome, NothingDone, Proposed, RefusedBusy, RefusedFull}
use Rattle.masters_world.specs.Decisions as decision
use Rattle.masters_world.specs.Decisions.{Decision}
use Rattle.script_lang.specs.declared.line.Line.{Line}
use Rattle.script_lang.specs.declared.line.Line.TheVariants.{Move, Join, Handover, Advance, Reopen}
use Rattle.masters_run.specs.declared.publishing.Proposal.{Proposal}
use Rattle.masters_run.specs.declared.publishing.Proposal.TheVariants as proposal

abbrev pub answer_of : Proposal → Outcome
answer_of proposal.NoMaster = NothingDone
answer_of (proposal.Busy length) = RefusedBusy length
answer_of proposal.Full = RefusedFull
answer_of (proposal.Proposed n) = Proposed n

-- the decision that a line asks for by itself, and its partition

pub record Decided : Type 0 where
  pub partition : ℕ
  pub decision : Decision

abbrev pub decided_in : ℕ → Decision → Option Decided
decided_in p d = Some (record { partition = p; decision = d })

abbrev pub decision_by : Line → Option Decided
decision_by (Move p from to) = decided_in p (decision.BeginMove from to)
decision_by (Join p to) = decided_in p (decision.BeginJoin to)
decision_by (Handover p from to) = decided_in p (decision.BeginHandover from to)
decision_by (Advance p) = decided_in p decision.Advance
decision_by (Reopen p) = decided_in p decision.Reopen
decision_by line = None
