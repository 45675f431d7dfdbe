-- The history by which a live partition stands, and that of each of its objects.
use Rattle.std.specs.Prelude.{◌≡◌, ◌≢◌, ℕ, ◌⊎◌, Bool, true, List, [], ◌∷◌, filter, Contains}
use Rattle.grid_base.specs.Names.{is_same}
use Rattle.grid_base.specs.declared.names.CallId.{CallId}
use Rattle.grid_base.specs.declared.names.ObjectKey.{ObjectKey}
use Rattle.grid_base.specs.declared.calls.Request.{Request}
use Rattle.call_engine.specs.Objects.{target_of}
use Rattle.partition_protocol.specs.History.{Entry, Executed, Called, Reset}
use Rattle.partition_protocol.specs.World.{trail}
use Rattle.partition_world.specs.Answers.{id_of}
use Rattle.partition_world.specs.declared.event.Event.{Event}
use Rattle.partition_world.specs.declared.event.Event.TheVariants as event
use Rattle.live_grid.specs.declared.plan.GridPlan.{GridPlan}
use Rattle.live_grid.specs.Histories.{cells}

-- the history by which the partition stands
abbrev pub trail_of : GridPlan → List (Event Request) → List (Entry Request)
trail_of plan history = trail (cells plan history)

-- the request is on the object of that name
abbrev pub asks_of : ObjectKey → Request → Bool
asks_of name request = is_same (target_of request) name

-- a call is an entry of its object, and a reopening of all objects
abbrev pub is_of : ObjectKey → Entry Request → Bool
is_of name (Called call) = asks_of name call.call
is_of name (Reset version) = true

-- what the partition's history has of one object, in its order
abbrev pub object_trail : GridPlan → List (Event Request) → ObjectKey → List (Entry Request)
object_trail plan history name = filter (is_of name) (trail_of plan history)

-- the first stands before the second
abbrev pub StandsBefore : {X : Type 0} → List X → X → X → Type 0
StandsBefore [] a b = ⊥
StandsBefore (x ∷ xs) a b = ((x ≡ a) × Contains xs b) ⊎ StandsBefore xs a b

-- A call that was executed came with an event of the history
pub record CameIn (history : List (Event Request)) (call : Executed Request) : Type 0 where
  pub member : ℕ
  pub there : Contains history (event.Call member (id_of call) call.call call.now)

-- no entry is of the call of that name
abbrev pub StandsNowhere : List (Entry Request) → CallId → Type 0
StandsNowhere entries id = (call : Executed Request) → Contains entries (Called call) → id_of call ≢ id

-- An entry of the call with that reply is there
pub record HasReply (entries : List (Entry Request)) (id : CallId) (reply : List ℕ) : Type 0 where
  pub call : Executed Request
  pub there : Contains entries (Called call)
  pub named : id_of call ≡ id
  pub reply_is : call.reply ≡ reply

-- The entry of that call, made at that moment, with that reply is there
pub record HasEntry (entries : List (Entry Request)) (id : CallId) (request : Request) (now : ℕ) (reply : List ℕ) : Type 0 where
  pub version : ℕ
  pub seen : ℕ
  pub there : Contains entries (Called (record { conn = id.conn; number = id.number; version = version; seen = seen; now = now; call = request; reply = reply }))
