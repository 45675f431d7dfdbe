-- What a turn of a worker comes to.
use Rattle.std.specs.Prelude.{◌≡◌, ◌⊎◌, ℕ, List, ◌++◌, length, Contains, Option, Some, None, IfSome}
use Rattle.grid_base.specs.declared.names.CallId.{CallId}
use Rattle.grid_base.specs.declared.calls.Request.{Request}
use Rattle.hand_cell.specs.declared.names.Key.{Key}
use Rattle.hand_cell.specs.declared.names.Key.TheVariants.{Call, Free}
use Rattle.hand_cell.specs.declared.outcome.LiveOutcome.{LiveOutcome}
use Rattle.hand_cell.specs.Names.{NoneOf}
use Rattle.hand_cell.specs.Told.{Told, Taken, so_far, after_ran, having_seen}
use Rattle.job_queues.specs.declared.call.BegunCall.{BegunCall}
use Rattle.job_queues.specs.Answers.{IsWhyNot}
use Rattle.job_queues.specs.Calls.{IsServed}

module _ {T P E : Type 0} (tells : P → List E → E → LiveOutcome → Type 0) (old new : Taken T E P) (event : E) (outcome : Option LiveOutcome) where
  -- The event was run, and this is its outcome, if that is known
  pub record HasRunIt : Type 0 where
    pub ran : new.ran ≡ Some event
    pub told : IfSome outcome (λ o. tells old.plan (so_far new) event o)

  -- The event was refused, which is the outcome
  pub record HasRefusedIt : Type 0 where
    pub nothing_ran : new.ran ≡ None
    pub refusal : LiveOutcome
    pub told : outcome ≡ Some refusal
    pub why : IsWhyNot (length old.pass.seen) refusal

  abbrev pub HasServed : Type 0
  HasServed = HasRunIt ⊎ HasRefusedIt

module _ {E : Type 0} (key_of : E → Key) where
  -- no event was run, or one that has no name
  abbrev pub IsFree : Option E → Type 0
  IsFree None = Unit {0}
  IsFree (Some event) = key_of event ≡ Free

  -- The same pass, which has seen more, and none of it has a name of the pass
  pub record Follows (before after : Told E) : Type 0 where
    pub later : List E
    pub pass : after ≡ having_seen before (before.seen ++ later)
    pub not_own : NoneOf key_of before.names later

module _ {T P E O : Type 0} (key_of : E → Key) (tells : P → List E → E → LiveOutcome → Type 0) (call_of : ℕ → Request → ℕ → E) where
  -- A request was run in a turn of this pass, at a member and a moment, on a cell that was made for this: with its outcome, or under way
  pub record HasBegun (plan : P) (first : Told E) (member : ℕ) (request : Request) (now : ℕ) (call : BegunCall T P E O) (outcome : Option LiveOutcome) : Type 0 where
    pub same_member : call.member ≡ member
    pub same_partition : call.partition ≡ request.partition
    pub same_id : call.id ≡ request.id
    pub first_noted : call.first.value ≡ first
    pub event_noted : call.event.value ≡ call_of member request now
    pub key : key_of (call_of member request now) ≡ Call request.id
    pub served : IsServed key_of tells (record { plan = plan; first = first; event = call_of member request now }) call.pass outcome

module _ {T P E : Type 0} (key_of : E → Key) (tells : P → List E → E → LiveOutcome → Type 0) (call_of : ℕ → Request → ℕ → E) where
  -- In a turn an event with no name was run, or none, and it was ended. Of a call that was run before at that member the outcome is told, if
  -- it is known
  pub record HasDelivered (turn : Taken T E P) (member : ℕ) (id : CallId) (pass : Told E) (outcome : Option LiveOutcome) : Type 0 where
    pub ran : Option E
    pub free : IsFree key_of ran
    pub pass_is : pass ≡ having_seen turn.pass (after_ran turn.pass.seen ran)
    pub told : (request : Request) (now : ℕ) → Contains pass.seen (call_of member request now) → request.id ≡ id
        → IfSome outcome (λ o. tells turn.plan pass.seen (call_of member request now) o)
