-- What a server's clients were sent, in the histories that its passes have seen.
use Rattle.std.proofs.Common.{◌⊎◌, ℕ, ◌<◌, List, Contains, length, sym, ◌∙◌, subst}
use Rattle.grid_base.specs.declared.calls.Request.{Request}
use Rattle.grid_edge.specs.Doors.{Return, Book}
use Rattle.hand_cell.specs.Told.{Told}
use Rattle.loop_journal.specs.declared.entry.Entry.{Entry}
use Rattle.partition_threads.specs.declared.workplace.Workplace.{Workplace}
use Rattle.partition_world.specs.declared.event.Event.{Event}
use Rattle.partition_world.specs.declared.event.Happened.{Happened}
use Rattle.session_core.specs.declared.item.Item.TheVariants.{Call}
use Rattle.live_grid.specs.declared.plan.GridPlan.{GridPlan}
use Rattle.live_grid.specs.declared.world.LiveWorld.{LiveWorld}
use Rattle.live_grid.specs.Histories.{live_key, live_call}
use Rattle.live_grid.specs.Outcomes.{LiveTells}
use Rattle.live_history_laws.specs.Names.{AreNew}
use Rattle.live_session.specs.Connections.{IsNotRun, TellsOutcome}
use Rattle.live_server.specs.Serving.{HasServedAll}
use Rattle.served_history_laws.specs.Histories.{HaveMembers, AreAnswered, IsHistoryOf, TellsHistories}
use Rattle.served_history_laws.proofs.Answered.{NewAreNamedOnce, RepliesStand, PartitionsFit, ObjectsFit, is_answered}
use Rattle.served_history_laws.proofs.Once.{are_new, each_of_client}

module _ (once : NewAreNamedOnce) (stand : RepliesStand) (partitions : PartitionsFit) (objects : ObjectsFit)
    (place : Workplace LiveWorld GridPlan (Event Request) Happened) (given : List ℕ) (journal : List Entry) (passes : List (Told (Event Request))) (book : Book)
    (members : HaveMembers place) (all : HasServedAll live_key LiveTells live_call place given journal passes book) where
  new : (partition : ℕ) (plan : GridPlan) (history : List (Event Request)) → IsHistoryOf place given passes partition plan history → AreNew history
  new partition plan history is = subst AreNew (sym is.history_is) (are_new place given journal passes book all partition is.pass is.there)

  answers : (at : ℕ) (other : Return) (within : at < length book.returns)
      → AreAnswered place given passes (all.served at other within).arrival.member (all.served at other within).answered.answers.answered (all.served at other within).answered.answers.replies
  answers at other within k request bytes plan history asked said is =
      let served = all.served at other within in
      is_answered once stand partitions objects place given served.answered.log served.answered.by_clock plan (members request.partition plan is.plan_is) history (new request.partition plan history is)
      served.arrival.member request is.plan_is bytes
      (subst (λ (l : List (Event Request)). TellsOutcome live_key LiveTells live_call served.answered.log place served.arrival.member request l bytes
      ⊎ IsNotRun live_key LiveTells live_call served.answered.log place request l bytes) (served.seen_is request.partition is.pass is.there ∙ sym is.history_is)
      (served.answered.answers.each.each k (Call request) bytes asked said))

  pub tells_histories : TellsHistories place given journal passes book
  unfolding answers
  tells_histories = record {
    clients = all;
    objects = λ partition plan history is name. objects plan history name (members partition plan is.plan_is) (once history (new partition plan history is));
    answered = answers;
    calls = λ partition plan history is event id there named.
        each_of_client place given journal passes book all partition is.pass is.there event id (subst (λ (l : List (Event Request)). Contains l event) is.history_is there) named;
    once = new;
  }
