-- The call that is under way, what is written, and the call that comes next.
use Rattle.std.specs.Prelude.{◌≡◌, ◌≢◌, ◌⊎◌, ℕ, ◌<◌, Bool, true, false, List, [], ◌∷◌, length, Option, Some, None}
use Rattle.grid_base.specs.declared.calls.Request.{Request}
use Rattle.loop_journal.specs.declared.entry.NotedCall.{NotedCall}
use Rattle.session_core.specs.declared.item.Item.{Item}
use Rattle.session_core.specs.declared.item.Item.TheVariants.{Call}
use Rattle.live_session.specs.declared.connection.Asked.{Asked}
use Rattle.live_session.specs.declared.connection.Connection.{Connection}
use Rattle.live_session.specs.Going.{Keeps, noted_by}

-- how many bytes are left to write at most where a message is taken up, whose answer is put behind them
abbrev pub most_left : ℕ
most_left = 65536

-- what of this is offered to the sink: all, unless a write has failed
abbrev pub offered_of : (broken : Bool) → List ℕ → List ℕ
offered_of true left = []
offered_of false left = left

module _ {T P E O : Type 0} where
  -- No call is under way, there is room for an answer more, and what waits first is a call of this partition
  pub record IsNext (connection : Connection T P E O) (partition : ℕ) : Type 0 where
    pub idle : connection.asked ≡ None
    pub room : length connection.out < most_left
    pub request : Request
    pub behind : List Item
    pub first : connection.items.items ≡ Call request ∷ behind
    pub partition_is : request.partition ≡ partition

  -- the call that is under way, as it is noted
  abbrev pub noted_of : Option (Asked T P E O) → Option NotedCall
  noted_of None = None
  noted_of (Some asked) = noted_by asked.going asked.call

  -- a call comes next
  abbrev pub MayStart : Connection T P E O → Type 0
  MayStart connection = (partition : ℕ) × IsNext connection partition

  -- what the connection offers to the sink
  abbrev pub offered : Connection T P E O → List ℕ
  offered connection = offered_of connection.broken connection.out

  -- Answers gather: no call is under way, a message waits, and there is room for its answer
  pub record IsGathering (connection : Connection T P E O) : Type 0 where
    pub idle : connection.asked ≡ None
    pub waits : connection.items.items ≢ []
    pub room : length connection.out < most_left

  -- why nothing is written next: the connection keeps a call, nothing is left, or answers gather
  abbrev pub WritesNothing : Connection T P E O → Type 0
  WritesNothing connection = Keeps connection ⊎ (offered connection ≡ []) ⊎ IsGathering connection
