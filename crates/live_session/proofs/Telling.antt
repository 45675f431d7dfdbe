-- What was noted of a call and told of its outcome.
use Rattle.std.proofs.Common.{◌≡◌, ℤ, List, [], ◌∷◌, ◌++◌, refl, sym, subst}
use Rattle.hand_cell.specs.declared.outcome.LiveOutcome.{LiveOutcome}
use Rattle.loop_journal.specs.declared.entry.Entry.{Entry}
use Rattle.loop_journal.specs.declared.entry.Entry.TheVariants.{Started}
use Rattle.loop_journal.specs.declared.entry.NotedCall.{NotedCall}
use Rattle.session_calls.specs.declared.making.Made.{Made as MadeCall}
use Rattle.session_calls.specs.declared.making.Made.TheVariants.{Ready}
use Rattle.live_session.specs.declared.connection.Connection.{Connection}
use Rattle.live_session.specs.declared.step.CallStep.TheVariants.{Made}
use Rattle.live_session.specs.declared.turned.Turned.{Turned}
use Rattle.live_session.specs.Asking.{HasAnswer, HasNotedMade}

module _ {T P E O : Type 0} (call : NotedCall) (correlation : ℤ) (outcome : LiveOutcome) (old new : Connection T P E O) (journal journal_now : List Entry) (turned : Turned) where
  -- by an equal number
  pub answer_as : (same : ℤ) → same ≡ correlation → HasAnswer call same outcome old new journal journal_now turned → HasAnswer call correlation outcome old new journal journal_now turned
  answer_as same is answer = subst (λ (k : ℤ). HasAnswer call k outcome old new journal journal_now turned) is answer

-- A call that was made at once
pub notes_ready : {T P E O : Type 0} (call : NotedCall) (correlation : ℤ) (outcome : LiveOutcome) (old new : Connection T P E O) (journal journal_then journal_now : List Entry) (turned : Turned) (made : MadeCall T P E O)
    → made ≡ Ready outcome → journal_then ≡ journal ++ Started call ∷ [] → HasAnswer call correlation outcome old new journal_then journal_now turned
    → HasNotedMade call correlation made old new journal journal_now turned (Made call)
notes_ready {T} {P} {E} {O} call correlation outcome old new journal journal_then journal_now turned made is then answer =
    subst (λ (m : MadeCall T P E O). HasNotedMade call correlation m old new journal journal_now turned (Made call)) (sym is)
    (record { answer = subst (λ (j : List Entry). HasAnswer call correlation outcome old new j journal_now turned) then answer; did_is = refl })
