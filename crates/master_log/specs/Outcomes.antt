-- The answers of the code, in the machine's words.
use Rattle.std.specs.Prelude.{ℕ, Bool, if◌then◌else◌, Result, Ok, Err, Option, Some, None}
use Rattle.masters_protocol.specs.Members.{Outcome, NothingDone, Done, Proposed, RefusedBusy, RefusedFull}
use Rattle.master_log.specs.declared.refusal.ProposeRefused.{ProposeRefused}
use Rattle.master_log.specs.declared.refusal.ProposeRefused.TheVariants as refused

-- whether anything was done
abbrev pub done_if : Bool → Outcome
done_if done = if done then Done else NothingDone

-- how a proposal is answered; want of memory is no answer of the machine
abbrev pub proposal_of : Result ℕ ProposeRefused → Option Outcome
proposal_of (Ok number) = Some (Proposed number)
proposal_of (Err refused.NoMaster) = Some NothingDone
proposal_of (Err (refused.Busy length)) = Some (RefusedBusy length)
proposal_of (Err refused.Full) = Some RefusedFull
proposal_of (Err refused.Memory) = None
