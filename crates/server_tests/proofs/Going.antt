-- How a connection goes on by a turn.
use Rattle.std.proofs.Common.{◌≡◌, ℕ, List, ◌++◌, subst}
use Rattle.grid_base.specs.declared.calls.Request.{Request}
use Rattle.live_grid.specs.Histories.{live_call, live_key}
use Rattle.live_grid.specs.Outcomes.{LiveTells}
use Rattle.live_grid.specs.declared.plan.GridPlan.{GridPlan}
use Rattle.live_grid.specs.declared.world.LiveWorld.{LiveWorld}
use Rattle.live_session.specs.Connections.{IsServedTo}
use Rattle.live_session.specs.Starts.{Log, after_turn}
use Rattle.live_session.specs.Turns.{Streams, Before, HasTurned}
use Rattle.live_session.specs.declared.connection.Connection.{Connection}
use Rattle.live_session.specs.declared.step.CallStep.{CallStep}
use Rattle.live_session.specs.declared.turned.Turned.{Turned}
use Rattle.live_session.specs.declared.turned.Turned.TheVariants.{Moved, NotYet}
use Rattle.loop_journal.specs.declared.entry.Entry.{Entry}
use Rattle.partition_world.specs.declared.event.Event.{Event}
use Rattle.partition_world.specs.declared.event.Happened.{Happened}
use Rattle.server_tests.proofs.Opening.{Place}

module _ (place : Place) where
  -- the connection is served
  abbrev pub IsServed : Connection LiveWorld GridPlan (Event Request) Happened → Type 0
  IsServed connection = (seen : ℕ → List (Event Request)) × (log : Log) × (read written : List ℕ) × IsServedTo live_key LiveTells live_call log place connection seen read written

  module _ (given given_now : List ℕ) (journal journal_now : List Entry) (was : Before LiveWorld GridPlan (Event Request) Happened) (is : Connection LiveWorld GridPlan (Event Request) Happened) (before after : Streams)
      (seen : ℕ → List (Event Request)) (log : Log) (read written : List ℕ) (turned : Turned) (step : CallStep)
      (turn : HasTurned live_key LiveTells live_call place given given_now journal journal_now was is before after seen log read written turned step) where
    as_turned : (came_to : Turned) → turned ≡ came_to → HasTurned live_key LiveTells live_call place given given_now journal journal_now was is before after seen log read written came_to step
    as_turned came_to same = subst (λ (t : Turned). HasTurned live_key LiveTells live_call place given given_now journal journal_now was is before after seen log read written t step) same turn

    pub served_moved : turned ≡ Moved → IsServed is
    served_moved same =
        let moved = as_turned Moved same in
        (moved.sees, after_turn log moved.started moved.entries, read ++ moved.moves.read, written ++ moved.moves.written, moved.stands.0)

    pub served_waiting : turned ≡ NotYet → IsServed is
    served_waiting same =
        let waits = as_turned NotYet same in
        (waits.sees, after_turn log waits.started waits.entries, read ++ waits.moves.read, written ++ waits.moves.written, waits.stands.0)
