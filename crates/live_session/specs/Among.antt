-- A turn of a connection among those of one loop.
use Rattle.std.specs.Prelude.{◌≡◌, ℕ, ◌<◌, List, length, Some, slice_get, slice_set}
use Rattle.grid_base.specs.declared.names.CallId.{CallId}
use Rattle.grid_base.specs.declared.calls.Request.{Request}
use Rattle.hand_cell.specs.declared.names.Key.{Key}
use Rattle.hand_cell.specs.declared.outcome.LiveOutcome.{LiveOutcome}
use Rattle.hand_cell.specs.Told.{Told, having_seen, SeesMore}
use Rattle.loop_journal.specs.declared.entry.Entry.{Entry}
use Rattle.loop_journal.specs.declared.entry.NotedCall.{NotedCall}
use Rattle.partition_threads.specs.declared.workplace.Workplace.{Workplace}
use Rattle.session_calls.specs.Learning.{Begins, HasTaughtAt}
use Rattle.session_calls.specs.Sessions.{IsSessionOf, pass_at}
use Rattle.live_session.specs.declared.connection.Connection.{Connection}
use Rattle.live_session.specs.declared.step.CallStep.{CallStep}
use Rattle.live_session.specs.declared.step.CallStep.TheVariants.{Nothing, Begun, Ended, Made}
use Rattle.live_session.specs.declared.turned.Turned.{Turned}
use Rattle.live_session.specs.Connections.{StandsAt, IsServedTo}
use Rattle.live_session.specs.Next.{IsNext}
use Rattle.live_session.specs.Turns.{Streams, Before, HasTurned}
use Rattle.live_session.specs.Starts.{Log}

-- The pass of the partition among these has seen more than it had, and all of this; the others are as before
pub record KnowsMore {E : Type 0} (key_of : E → Key) (partition : ℕ) (seen : List E) (known now : List (Told E)) : Type 0 where
  pub was : Told E
  pub there : slice_get known partition ≡ Some was
  pub taught : Told E
  pub same : taught ≡ having_seen was taught.seen
  pub more : SeesMore key_of was.names was.seen taught.seen
  pub knows : Begins seen taught.seen
  pub written : now ≡ slice_set known partition taught

-- what the pass of the partition among these has seen begins this
abbrev pub StandsBehind : {E : Type 0} → List (Told E) → ℕ → List E → Type 0
StandsBehind known partition seen = (pass : Told _) → slice_get known partition ≡ Some pass → Begins pass.seen seen

-- The event of a call that is seen anew stands behind what the pass of its partition among these has seen
pub record IsMadeBehind {E : Type 0} (key_of : E → Key) (call : NotedCall) (seen sees : List E) (known : List (Told E)) : Type 0 where
  pub begins : StandsBehind known call.partition sees
  pub behind : (pass : Told E) → slice_get known call.partition ≡ Some pass → (at : ℕ) → StandsAt key_of call.id sees at → ¬ (at < length seen) → ¬ (at < length pass.seen)

-- What a turn did to passes of a loop, where this was seen before it and that after it: a call was started behind what they have seen, or they have
-- seen what was seen as one came to its outcome
abbrev pub KeepsKnown : {E : Type 0} → (E → Key) → CallStep → (seen sees : ℕ → List E) → (known now : List (Told E)) → Type 0
KeepsKnown key_of Nothing seen sees known now = now ≡ known
KeepsKnown key_of (Begun call) seen sees known now = (now ≡ known) × StandsBehind known call.partition (sees call.partition)
KeepsKnown key_of (Ended call) seen sees known now = KnowsMore key_of call.partition (sees call.partition) known now
KeepsKnown key_of (Made call) seen sees known now =
    IsMadeBehind key_of call (seen call.partition) (sees call.partition) known × KnowsMore key_of call.partition (sees call.partition) known now

module _ {T P E O : Type 0} where
  -- a call that came to its outcome has its pass back
  pub record MaySettleAt (place : Workplace T P E O) (connection : Connection T P E O) (call : NotedCall) : Type 0 where
    pub session : IsSessionOf place connection.pass
    pub pass : Told E
    pub there : pass_at connection.pass call.partition ≡ Some (Some pass)

  abbrev pub MaySettle : Workplace T P E O → CallStep → Connection T P E O → Type 0
  MaySettle place (Ended call) connection = MaySettleAt place connection call
  MaySettle place (Made call) connection = MaySettleAt place connection call
  MaySettle place step connection = Unit {0}

  -- These passes were taught what the session has seen of the call's partition
  pub record HasSettledAt (key_of : E → Key) (place : Workplace T P E O) (call : NotedCall) (old new : Connection T P E O) (known now : List (Told E)) : Type 0 where
    pub taught : HasTaughtAt key_of old.pass new.pass call.partition known now
    pub session : IsSessionOf place new.pass

  -- nothing has changed, but for the passes that were taught where a call came to its outcome
  abbrev pub HasSettled : (E → Key) → Workplace T P E O → CallStep → (old new : Connection T P E O) → (known now : List (Told E)) → Type 0
  HasSettled key_of place (Ended call) old new known now = HasSettledAt key_of place call old new known now
  HasSettled key_of place (Made call) old new known now = HasSettledAt key_of place call old new known now
  HasSettled key_of place step old new known now = (new.pass ≡ old.pass) × (now ≡ known)

module _ {T P E O : Type 0} (key_of : E → Key) (tells : P → List E → E → LiveOutcome → Type 0) (call_of : ℕ → Request → ℕ → E) (place : Workplace T P E O) where
  -- The connection is served as before by more that it has seen, none of which is a call of its own; a call that comes next stands behind what these
  -- passes have seen
  pub record IsPrepared (old new : Connection T P E O) (seen : ℕ → List E) (log : Log) (read written : List ℕ) (known : List (Told E)) : Type 0 where
    pub sees : ℕ → List E
    pub more : (partition : ℕ) → Begins (seen partition) (sees partition)
    pub own : (id : CallId) (partition at : ℕ) → id.conn ≡ old.pass.conn → StandsAt key_of id (sees partition) at → StandsAt key_of id (seen partition) at
    pub served : IsServedTo key_of tells call_of log place new sees read written
    pub behind : (partition : ℕ) → IsNext old partition → StandsBehind known partition (sees partition)

  -- A turn among connections of one loop: what it came to, and what it did to the loop's passes
  pub record HasTurnedAmong (given given_now : List ℕ) (journal journal_now : List Entry) (was : Before T P E O) (new : Connection T P E O) (before after : Streams) (seen : ℕ → List E)
      (log : Log) (read written : List ℕ) (turned : Turned) (step : CallStep) (known known_now : List (Told E)) : Type 0 where
    pub turn : HasTurned key_of tells call_of place given given_now journal journal_now was new before after seen log read written turned step
    pub keeps : KeepsKnown key_of step seen turn.sees known known_now
