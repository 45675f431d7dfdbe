-- What the steps of a member alone come to.
use Rattle.std.specs.Prelude.{◌≡◌, ℕ, true, false, if◌then◌else◌}
use Rattle.grid_base.specs.Shelves.{Meaning}
use Rattle.partition_table.specs.Rows.{is_empty}
use Rattle.partition_protocol.specs.Messages.{Message}
use Rattle.partition_protocol.specs.Execution.{Executes, reached}
use Rattle.partition_protocol.specs.Replica.{taking}
use Rattle.member_wire.specs.Said.{took_of}
use Rattle.replica_node.specs.Calls.{refused_as}
use Rattle.replica_node.specs.declared.calls.Execution.{Execution}
use Rattle.apart_protocol.specs.Contents.{Cargo}
use Rattle.apart_protocol.specs.Member.{Own, Takes, does}
use Rattle.member_alone.specs.declared.outcome.CallOutcome.{CallOutcome}
use Rattle.member_alone.specs.declared.outcome.CallOutcome.TheVariants.{Held, Released, Refused}
use Rattle.member_alone.specs.declared.outcome.Taking.{Taking}
use Rattle.member_alone.specs.declared.outcome.Taking.TheVariants.{Took, Stopped}
use Rattle.member_alone.specs.declared.lone.LoneMember.{LoneMember}
use Rattle.member_alone.specs.Lives.{Life, lived}
use Rattle.member_alone.specs.Stands.{StandsForMember, HasStepped, is_stopped}

-- what is told of a call that was executed
abbrev pub outcome_of : Execution → CallOutcome
outcome_of e = if e.is_held then Held e.seen else Released e.seen

-- What became of a call, as the member finds itself before and after it
abbrev pub CallTells : {S C State : Type 0} → Meaning S C State → Life C State → Own C State → CallOutcome → Type 0
CallTells k life own (Held seen) = let x = lived k life in let next = (does k.object life.service life.member own x).member in
    (reached life.member x.node ≡ Executes) × (seen ≡ next.node.pair.count) × (is_empty next.node.held ≡ false)
CallTells k life own (Released seen) = let x = lived k life in let next = (does k.object life.service life.member own x).member in
    (reached life.member x.node ≡ Executes) × (seen ≡ next.node.pair.count) × (is_empty next.node.held ≡ true)
CallTells k life own (Refused why) = reached life.member (lived k life).node ≡ refused_as why

-- The call was a step of the member's own, and its outcome tells what became of it
pub record HasCalled {S C State : Type 0} (k : Meaning S C State) (life : Life C State) (own : Own C State) (new : LoneMember S) (outcome : CallOutcome) : Type 0 where
  pub stands : HasStepped k life own new
  pub tells : CallTells k life own outcome

-- The message was taken, as a step of the member's own, and it is told how
abbrev pub HasTakenIn : {S C State : Type 0} → Meaning S C State → Life C State → ℕ → Message → Cargo C State → LoneMember S → Taking → Type 0
HasTakenIn k life from message cargo new (Took took) =
    (took_of took ≡ (taking life.service life.member from message (lived k life).node).took)
    × HasStepped k life (Takes from message cargo) new × (is_stopped new ≡ false)
HasTakenIn k life from message cargo new Stopped = ⊥

-- The bytes are no message: the member has stopped, and made no step
abbrev pub HasStopped : {S C State : Type 0} → Meaning S C State → Life C State → LoneMember S → Taking → Type 0
HasStopped k life new (Took took) = ⊥
HasStopped k life new Stopped = StandsForMember k new life × (is_stopped new ≡ true)

-- The message was taken, or the member has stopped, and made no step
abbrev pub HasTakenOrStopped : {S C State : Type 0} → Meaning S C State → Life C State → ℕ → Message → Cargo C State
    → LoneMember S → Taking → Type 0
HasTakenOrStopped k life from message cargo new (Took took) = HasTakenIn k life from message cargo new (Took took)
HasTakenOrStopped k life from message cargo new Stopped = StandsForMember k new life × (is_stopped new ≡ true)

-- it did not stop
abbrev pub IsTook : Taking → Type 0
IsTook (Took took) = Unit {0}
IsTook Stopped = ⊥
