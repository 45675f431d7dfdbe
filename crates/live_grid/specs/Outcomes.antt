-- What an outcome of a call tells of the history that has the call.
use Rattle.std.specs.Prelude.{◌≡◌, ◌≢◌, ℕ, false, List, ◌∷◌, ◌++◌, Option, Some, None, Contains}
use Rattle.grid_base.specs.declared.names.CallId.{CallId}
use Rattle.grid_base.specs.declared.calls.Request.{Request}
use Rattle.grid_base.specs.declared.refusal.PartitionRefused.{PartitionRefused}
use Rattle.grid_base.specs.declared.refusal.PartitionRefused.TheVariants as refusal
use Rattle.hand_cell.specs.declared.outcome.LiveOutcome.{LiveOutcome}
use Rattle.hand_cell.specs.declared.outcome.LiveOutcome.TheVariants as live
use Rattle.primary_hold.specs.declared.answer.CallAnswer.{CallAnswer}
use Rattle.partition_protocol.specs.Node.{Held}
use Rattle.partition_protocol.specs.World.{World as Machine, is_live}
use Rattle.partition_protocol.specs.Execution.{Reached, PartitionLost as IsLost, WrongTarget as IsElsewhere, Migrating as IsFrozen}
use Rattle.partition_protocol.specs.Events.{Refused}
use Rattle.partition_protocol.specs.Arrivals.{CallName}
use Rattle.partition_protocol.specs.Answers.{answered_call}
use Rattle.partition_world.specs.declared.event.CallOutcome.TheVariants as call
use Rattle.partition_world.specs.declared.event.Event.{Event}
use Rattle.partition_world.specs.declared.event.Event.TheVariants as event
use Rattle.partition_world.specs.declared.event.Happened.{Happened}
use Rattle.partition_world.specs.declared.event.Happened.TheVariants as happened
use Rattle.partition_world.specs.Events.{happened_of}
use Rattle.partition_world.specs.Worlds.{IsReleased}
use Rattle.live_grid.specs.declared.plan.GridPlan.{GridPlan}
use Rattle.live_grid.specs.Histories.{cells, outcome_after}

-- a call's name, in the protocol's words
abbrev pub name_of : CallId → CallName
name_of id = record { conn = id.conn; number = id.number }

-- no answer was released that has the name
abbrev pub IsUnanswered : {C : Type 0} → Machine C → CallName → Type 0
IsUnanswered machine named = (answer : Held) → Contains machine.released answer → answered_call answer ≢ named

-- an event's outcome is the protocol's
abbrev pub LiveGives : GridPlan → List (Event Request) → Event Request → Happened → Type 0
LiveGives plan history e outcome = happened_of outcome ≡ outcome_after plan history e

module _ (plan : GridPlan) (history : List (Event Request)) where
  -- A reply is that of an answer which was released, and has the call's name
  pub record IsRepliedIn (id : CallId) (reply : List ℕ) : Type 0 where
    pub answer : CallAnswer
    pub released : IsReleased (cells plan history) answer
    pub named : answer.id ≡ id
    pub reply_is : answer.reply ≡ reply

  -- A refusal is that of the call's event, which stands in the history and made no entry
  pub record IsRefusedIn (e : Event Request) (why : Reached) : Type 0 where
    pub before : List (Event Request)
    pub after : List (Event Request)
    pub whole : history ≡ before ++ e ∷ after
    pub outcome : outcome_after plan before e ≡ Refused why

  -- The member takes no steps, and no answer was released that has the call's name
  pub record IsGoneIn (member : ℕ) (id : CallId) : Type 0 where
    pub not_live : is_live (cells plan history) member ≡ false
    pub unanswered : IsUnanswered (cells plan history) (name_of id)

  -- Of a call's event, with its member and its name. Want of memory and of room are no outcomes of an event
  abbrev pub TellsOf : Event Request → ℕ → CallId → LiveOutcome → Type 0
  TellsOf e member id (live.Replied reply) = IsRepliedIn id reply
  TellsOf e member id (live.PartitionLost version) = IsRefusedIn e (IsLost version)
  TellsOf e member id (live.WrongTarget version) = IsRefusedIn e (IsElsewhere version)
  TellsOf e member id (live.Migrating version) = IsRefusedIn e (IsFrozen version)
  TellsOf e member id live.MemberGone = IsGoneIn member id
  TellsOf e member id live.Exhausted = ⊥
  TellsOf e member id live.Memory = ⊥

  -- only calls have outcomes
  abbrev pub LiveTells : Event Request → LiveOutcome → Type 0
  LiveTells (event.Call member id call now) outcome = TellsOf (event.Call member id call now) member id outcome
  LiveTells _ outcome = ⊥

-- a refusal as an outcome
abbrev pub refused_as : PartitionRefused → LiveOutcome
refused_as (refusal.PartitionLost version) = live.PartitionLost version
refused_as (refusal.WrongTarget version) = live.WrongTarget version
refused_as (refusal.Migrating version) = live.Migrating version

-- what a call's event tells at once: a refusal, or that no live member was there
abbrev pub settled_as : Happened → Option LiveOutcome
settled_as happened.Nothing = Some live.MemberGone
settled_as (happened.Called (call.Refused why)) = Some (refused_as why)
settled_as _ = None
