-- Why a call was refused, in the protocol's words.
use Rattle.std.specs.Prelude.{Option, Some, None, Result, Ok, Err}
use Rattle.partition_protocol.specs.Service.{MoveRefused as WhyNotMoved, Lost as IsLost, NotIdle as IsNotIdle, NotThere as IsNotThere, AlreadyThere as IsAlreadyThere, NotLive as IsNotLive, NotEligible as IsNotEligible, ReopenRefused as WhyNotReopened, NotLost as IsNotLost, NoMember as HasNoMember}
use Rattle.table_service.specs.declared.refusals.MoveRefused.{MoveRefused}
use Rattle.table_service.specs.declared.refusals.MoveRefused.TheVariants.{Lost, NotIdle, NotThere, AlreadyThere, NotLive, NotEligible}
use Rattle.table_service.specs.declared.refusals.ReopenRefused.{ReopenRefused}
use Rattle.table_service.specs.declared.refusals.ReopenRefused.TheVariants as reopen

abbrev pub why_not_moved : MoveRefused → WhyNotMoved
why_not_moved Lost = IsLost
why_not_moved NotIdle = IsNotIdle
why_not_moved NotThere = IsNotThere
why_not_moved AlreadyThere = IsAlreadyThere
why_not_moved NotLive = IsNotLive
why_not_moved NotEligible = IsNotEligible

abbrev pub move_refusal : {V : Type 0} → Result V MoveRefused → Option WhyNotMoved
move_refusal (Ok v) = None
move_refusal (Err refused) = Some (why_not_moved refused)

abbrev pub why_not_reopened : ReopenRefused → WhyNotReopened
why_not_reopened reopen.NotLost = IsNotLost
why_not_reopened reopen.NoMember = HasNoMember

abbrev pub reopen_refusal : {V : Type 0} → Result V ReopenRefused → Option WhyNotReopened
reopen_refusal (Ok v) = None
reopen_refusal (Err refused) = Some (why_not_reopened refused)
