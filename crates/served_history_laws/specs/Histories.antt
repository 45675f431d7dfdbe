-- What the clients of a server were sent, in the histories that its passes have seen.
use Rattle.std.specs.Prelude.{◌≡◌, ◌⊎◌, ℕ, ℤ, ◌<◌, ◌≤◌, true, List, length, Contains, Some, slice_get}
use Rattle.grid_base.specs.declared.names.CallId.{CallId}
use Rattle.grid_base.specs.declared.names.ObjectKey.{ObjectKey}
use Rattle.grid_base.specs.declared.calls.Request.{Request}
use Rattle.grid_edge.specs.Doors.{Arrival, Return, Book}
use Rattle.message_frames.specs.Messages.{messages_of}
use Rattle.hand_cell.specs.declared.names.Key.TheVariants as key
use Rattle.hand_cell.specs.Told.{Told}
use Rattle.job_queues.specs.Roster.{roster_of}
use Rattle.loop_journal.specs.declared.entry.Entry.{Entry}
use Rattle.partition_threads.specs.declared.workplace.Workplace.{Workplace}
use Rattle.call_engine.specs.Objects.{one_object, target_of}
use Rattle.partition_world.specs.declared.event.Event.{Event}
use Rattle.partition_world.specs.declared.event.Happened.{Happened}
use Rattle.session_core.specs.Items.{items_of}
use Rattle.session_core.specs.declared.item.Item.{Item}
use Rattle.session_core.specs.declared.item.Item.TheVariants.{Call}
use Rattle.live_grid.specs.declared.plan.GridPlan.{GridPlan}
use Rattle.live_grid.specs.declared.world.LiveWorld.{LiveWorld}
use Rattle.live_grid.specs.Histories.{live_key, live_call}
use Rattle.live_grid.specs.Outcomes.{LiveTells}
use Rattle.live_grid.specs.Plans.{settings_for}
use Rattle.live_history_laws.specs.Entries.{HasEntry, StandsNowhere, asks_of, object_trail}
use Rattle.live_history_laws.specs.Fitting.{Fits}
use Rattle.live_history_laws.specs.Names.{AreNew}
use Rattle.live_session.specs.Connections.{IsCallOf}
use Rattle.live_session.specs.Replies.{error_to}
use Rattle.live_server.specs.Serving.{HasServedAll, WasServed}

-- the bytes are an error that answers a message of this correlation
abbrev pub IsErrorTo : ℤ → List ℕ → Type 0
IsErrorTo correlation bytes = (code : ℕ) × (more : ℤ) × (bytes ≡ error_to correlation code more)

-- The clock has given these moments by now
module _ (given : List ℕ) (plan : GridPlan) (history : List (Event Request)) where
  -- The call's event stands in the partition's history, at this member and at a moment that the clock gave, and the call in its object's, with these
  -- bytes as its reply
  pub record StandsWith (member : ℕ) (request : Request) (bytes : List ℕ) : Type 0 where
    pub now : ℕ
    pub by_clock : Contains given now
    pub came : Contains history (live_call member request now)
    pub entry : HasEntry (object_trail plan history (target_of request)) request.id request now bytes

  -- The call stands nowhere in its object's history, and these bytes are an error
  pub record IsRefusedWith (request : Request) (bytes : List ℕ) : Type 0 where
    pub nowhere : StandsNowhere (object_trail plan history (target_of request)) request.id
    pub error : IsErrorTo request.correlation bytes

  -- these bytes answer the call at this member: they are its reply in its object's history, or they refuse it
  abbrev pub IsAnsweredWith : ℕ → Request → List ℕ → Type 0
  IsAnsweredWith member request bytes = StandsWith member request bytes ⊎ IsRefusedWith request bytes

module _ (place : Workplace LiveWorld GridPlan (Event Request) Happened) (given : List ℕ) (passes : List (Told (Event Request))) where
  -- The history is what the pass of this partition has seen, and the plan that of its cell
  pub record IsHistoryOf (partition : ℕ) (plan : GridPlan) (history : List (Event Request)) : Type 0 where
    pub plan_is : slice_get (roster_of place.cells.items).plans partition ≡ Some plan
    pub pass : Told (Event Request)
    pub there : slice_get passes partition ≡ Some pass
    pub history_is : history ≡ pass.seen

  -- each of these messages that is a call has its answer at its place, by its partition's history
  abbrev pub AreAnswered : (member : ℕ) → List Item → List (List ℕ) → Type 0
  AreAnswered member messages replies = (at : ℕ) (request : Request) (bytes : List ℕ) (plan : GridPlan) (history : List (Event Request))
      → slice_get messages at ≡ Some (Call request) → slice_get replies at ≡ Some bytes → IsHistoryOf request.partition plan history
      → IsAnsweredWith given plan history member request bytes

-- and so stands the journal of the thread that served
module _ (place : Workplace LiveWorld GridPlan (Event Request) Happened) (given : List ℕ) (journal : List Entry) (passes : List (Told (Event Request))) where
  -- The event is the call of one message of this connection, in the message's partition
  pub record IsOfConnection {arrivals : List Arrival} {back : Return} (served : WasServed live_key LiveTells live_call place given journal passes arrivals back) (partition : ℕ) (event : Event Request) (id : CallId) : Type 0 where
    pub number : back.number ≡ id.conn
    pub call : IsCallOf live_key LiveTells live_call served.answered.log place (items_of back.number served.arrival.member (messages_of true served.answered.read)) served.arrival.member partition event id

  module _ (book : Book) where
    -- it is that of one of the connections that came
    pub record IsOfClient (clients : HasServedAll live_key LiveTells live_call place given journal passes book) (partition : ℕ) (event : Event Request) (id : CallId) : Type 0 where
      pub at : ℕ
      pub other : Return
      pub within : at < length book.returns
      pub is : IsOfConnection (clients.served at other within) partition event id

    -- The clients that came through the doors were served from one thread's use of each object.
    pub record TellsHistories : Type 0 where
      pub clients : HasServedAll live_key LiveTells live_call place given journal passes book
      -- what was seen of each object in each partition is what one thread could have seen that used one object, and no call stands in it twice
      pub objects : (partition : ℕ) (plan : GridPlan) (history : List (Event Request)) → IsHistoryOf place given passes partition plan history
          → (name : ObjectKey) → Fits (one_object (settings_for plan) name) (asks_of name) plan history (object_trail plan history name)
      -- each call of a connection that was answered stands in it, at the connection's member, with the reply whose bytes the connection was sent at its place
      pub answered : (at : ℕ) (other : Return) (within : at < length book.returns)
          → AreAnswered place given passes (clients.served at other within).arrival.member (clients.served at other within).answered.answers.answered (clients.served at other within).answered.answers.replies
      -- each call that was seen is that of one message of a connection that came, and was seen once
      pub calls : (partition : ℕ) (plan : GridPlan) (history : List (Event Request)) → IsHistoryOf place given passes partition plan history
          → (event : Event Request) (id : CallId) → Contains history event → live_key event ≡ key.Call id → IsOfClient clients partition event id
      pub once : (partition : ℕ) (plan : GridPlan) (history : List (Event Request)) → IsHistoryOf place given passes partition plan history → AreNew history

-- The law

-- each cell was made for a grid that has members
abbrev pub HaveMembers : Workplace LiveWorld GridPlan (Event Request) Happened → Type 0
HaveMembers place = (partition : ℕ) (plan : GridPlan) → slice_get (roster_of place.cells.items).plans partition ≡ Some plan → 1 ≤ plan.members

-- A server that has served all connections by what its passes have seen tells histories
abbrev pub ServedTellsHistories : (given : List ℕ) → Type 0
ServedTellsHistories given = (place : Workplace LiveWorld GridPlan (Event Request) Happened) (journal : List Entry) (passes : List (Told (Event Request))) (book : Book)
    → HaveMembers place → HasServedAll live_key LiveTells live_call place given journal passes book → TellsHistories place given journal passes book
