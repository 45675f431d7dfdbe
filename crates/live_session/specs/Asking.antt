-- What comes of a call that has its outcome, and what is noted of one that was made or started.
use Rattle.std.specs.Prelude.{◌≡◌, ℕ, ℤ, List, [], ◌∷◌, ◌++◌, Option, Some, None}
use Rattle.hand_cell.specs.declared.outcome.LiveOutcome.{LiveOutcome}
use Rattle.loop_journal.specs.declared.entry.Entry.{Entry}
use Rattle.loop_journal.specs.declared.entry.Entry.TheVariants.{Started as NotedStart, Finished as NotedFinish}
use Rattle.loop_journal.specs.declared.entry.NotedCall.{NotedCall}
use Rattle.session_calls.specs.declared.making.Made.{Made}
use Rattle.session_calls.specs.declared.making.Made.TheVariants.{Ready, Started, Kept}
use Rattle.live_session.specs.declared.connection.Connection.{Connection}
use Rattle.live_session.specs.declared.connection.Going.{Going}
use Rattle.live_session.specs.declared.connection.Going.TheVariants.{Worker, Connection as Here, Lost}
use Rattle.live_session.specs.declared.step.CallStep.{CallStep}
use Rattle.live_session.specs.declared.step.CallStep.TheVariants as step
use Rattle.live_session.specs.declared.turned.ConnectionEnd.TheVariants.{Memory}
use Rattle.live_session.specs.declared.turned.Turned.{Turned}
use Rattle.live_session.specs.declared.turned.Turned.TheVariants.{Moved, Ended}
use Rattle.live_session.specs.Replies.{told_bytes}

module _ {T P E O : Type 0} where
  -- the connection after a call has its outcome: with what tells of it behind what is left to write; or, where nothing does since the member is gone,
  -- with the call lost
  abbrev pub told_of : NotedCall → ℤ → Option (List ℕ) → Connection T P E O → Connection T P E O
  told_of call correlation (Some told) old = record old { out = old.out ++ told }
  told_of call correlation None old = record old { asked = Some (record { call = call; going = Lost; correlation = correlation }) }

  -- so it is, unless memory is wanting
  abbrev pub IsTold : NotedCall → ℤ → LiveOutcome → (old new : Connection T P E O) → Turned → Type 0
  IsTold call correlation outcome old new Moved = new ≡ told_of call correlation (told_bytes correlation outcome) old
  IsTold call correlation outcome old new (Ended Memory) = new ≡ old
  IsTold call correlation outcome old new turned = ⊥

  -- The call's finish is noted, and then its outcome was told. Nothing else has changed
  pub record HasAnswer (call : NotedCall) (correlation : ℤ) (outcome : LiveOutcome) (old new : Connection T P E O) (journal journal_now : List Entry) (turned : Turned) : Type 0 where
    pub noted : journal_now ≡ journal ++ NotedFinish call ∷ []
    pub told : IsTold call correlation outcome old new turned

  -- The call's start is noted, and it is under way so
  pub record IsUnderWayBy (call : NotedCall) (correlation : ℤ) (going : Going T P E O) (old new : Connection T P E O) (journal journal_now : List Entry) (turned : Turned) (did : CallStep) : Type 0 where
    pub noted : journal_now ≡ journal ++ NotedStart call ∷ []
    pub asked : new ≡ record old { asked = Some (record { call = call; going = going; correlation = correlation }) }
    pub moved : turned ≡ Moved
    pub did_is : did ≡ step.Begun call

  -- The call's start is noted, and then it was answered
  pub record IsAnsweredAtOnce (call : NotedCall) (correlation : ℤ) (outcome : LiveOutcome) (old new : Connection T P E O) (journal journal_now : List Entry) (turned : Turned) (did : CallStep) : Type 0 where
    pub answer : HasAnswer call correlation outcome old new (journal ++ NotedStart call ∷ []) journal_now turned
    pub did_is : did ≡ step.Made call

  -- what the connection did of what its session's call came to
  abbrev pub HasNotedMade : NotedCall → ℤ → Made T P E O → (old new : Connection T P E O) → (journal journal_now : List Entry) → Turned → CallStep → Type 0
  HasNotedMade call correlation (Ready outcome) old new journal journal_now turned did = IsAnsweredAtOnce call correlation outcome old new journal journal_now turned did
  HasNotedMade call correlation (Started started) old new journal journal_now turned did = IsUnderWayBy call correlation (Worker started) old new journal journal_now turned did
  HasNotedMade call correlation (Kept begun why) old new journal journal_now turned did = IsUnderWayBy call correlation (Here begun) old new journal journal_now turned did
