-- The sessions of the example.
use Rattle.std.specs.Prelude.{◌≡◌, ℕ, Some, length}
use Rattle.hand_cell.specs.Told.{Told}
use Rattle.job_queues.specs.Terms.{Terms}
use Rattle.partition_threads.specs.Workplaces.{IsTokenAt}
use Rattle.session_calls.specs.declared.calls.Finished.{Finished}
use Rattle.session_calls.specs.declared.calls.Finished.TheVariants.{Ready, NotYet}
use Rattle.session_calls.specs.declared.session.SessionPass.{SessionPass}
use Rattle.session_calls.specs.declared.session.Started.{Started}
use Rattle.session_calls.specs.Calls.{MayFinish}
use Rattle.session_calls.specs.Passes.{ArePassesOf}
use Rattle.session_calls.specs.Sessions.{IsSessionOf, pass_at}
use Rattle.job_examples.specs.declared.relay.Relay.{Relay}
use Rattle.job_examples.specs.declared.relay.Event.{Event}
use Rattle.job_examples.specs.declared.sessions.Opened.{Opened}
use Rattle.job_examples.specs.Relays.{key_of}
use Rattle.job_examples.specs.Serving.{Place, IsNewPass}

abbrev pub Session : Type 0
Session = SessionPass Relay (Unit {0}) Event (Unit {0})

abbrev pub Called : Type 0
Called = Started Relay (Unit {0}) Event (Unit {0})

-- no call of the session was started, and it has a pass of the place's one cell with this connection's name
pub record IsNewSession (place : Place) (conn : ℕ) (session : Session) : Type 0 where
  pub session_is : IsSessionOf place session
  pub one : length session.passes.items ≡ 1
  pub pass : Told Event
  pub there : pass_at session 0 ≡ Some (Some pass)
  pub pass_is : IsNewPass place conn pass

-- what is left of the one cell's pass, the sessions of two connections, and a token of the first worker's queue
pub record AreOpened (opened : Opened) : Type 0 where
  pub one : length opened.place.cells.items ≡ 1
  pub passes : ArePassesOf opened.place.cells.items opened.passes.items
  pub first : IsNewSession opened.place 1 opened.first
  pub second : IsNewSession opened.place 2 opened.second
  pub queue : IsTokenAt opened.place 0 opened.queue

-- a call of the session is under way
abbrev pub IsAwaited : Place → Session → Called → Type 0
IsAwaited place session started = (terms : Terms (Unit {0}) Event) × MayFinish key_of place terms session started

-- this holds of the call, if it was found not yet ended
abbrev pub IfNotYet : (Called → Type 0) → Finished Relay (Unit {0}) Event (Unit {0}) → Type 0
IfNotYet holds (Ready outcome) = Unit {0}
IfNotYet holds (NotYet again) = holds again

-- this holds, if the call was found ended
abbrev pub IfReady : Type 0 → Finished Relay (Unit {0}) Event (Unit {0}) → Type 0
IfReady holds (Ready outcome) = holds
IfReady holds (NotYet again) = Unit {0}
