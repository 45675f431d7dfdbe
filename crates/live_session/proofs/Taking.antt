-- What a turn takes up, and what it starts.
use Rattle.std.proofs.Common.{◌≡◌, ℤ, Bool, List, length, Option, None, sym, ap, ◌∙◌, subst}
use Rattle.loop_journal.specs.declared.entry.Entry.{Entry}
use Rattle.loop_journal.specs.declared.entry.NotedCall.{NotedCall}
use Rattle.session_calls.specs.declared.making.Made.{Made as MadeOf}
use Rattle.session_calls.specs.declared.making.Made.TheVariants.{Ready, Started, Kept}
use Rattle.session_core.specs.declared.item.Item.{Item}
use Rattle.live_session.specs.declared.connection.Asked.{Asked}
use Rattle.live_session.specs.declared.connection.Connection.{Connection}
use Rattle.live_session.specs.declared.step.CallStep.{CallStep}
use Rattle.live_session.specs.declared.step.CallStep.TheVariants.{Nothing, Begun, Ended, Made}
use Rattle.live_session.specs.declared.turned.Turned.{Turned}
use Rattle.live_session.specs.Asking.{HasNotedMade}
use Rattle.live_session.specs.Steps.{IfStarts}
use Rattle.live_session.specs.Turns.{before_of}

-- no call was started
pub none_started : (holds : NotedCall → Type 0) (did : CallStep) → IfStarts (λ call. ⊥) did → IfStarts holds did
none_started holds Nothing started = tt
none_started holds (Begun call) started = absurd started
none_started holds (Ended call) started = tt
none_started holds (Made call) started = absurd started

-- what holds of each call of which that holds
pub started_weaker : (holds weaker : NotedCall → Type 0) → ((call : NotedCall) → holds call → weaker call) → (did : CallStep) → IfStarts holds did → IfStarts weaker did
started_weaker holds weaker each Nothing started = tt
started_weaker holds weaker each (Begun call) started = each call started
started_weaker holds weaker each (Ended call) started = tt
started_weaker holds weaker each (Made call) started = each call started

-- what holds of the step that it was
pub started_so : (holds : NotedCall → Type 0) (did is : CallStep) → did ≡ is → IfStarts holds is → IfStarts holds did
started_so holds did is same started = subst (λ (s : CallStep). IfStarts holds s) (sym same) started

-- what was noted of a made call is a start of it
pub started_of : {T P E O : Type 0} (holds : NotedCall → Type 0) (call : NotedCall) (correlation : ℤ) (made : MadeOf T P E O) (old new : Connection T P E O) (journal journal_now : List Entry) (turned : Turned) (did : CallStep)
    → HasNotedMade call correlation made old new journal journal_now turned did → holds call → IfStarts holds did
started_of holds call correlation (Ready outcome) old new journal journal_now turned did noted its = started_so holds did (Made call) noted.did_is its
started_of holds call correlation (Started started) old new journal journal_now turned did noted its = started_so holds did (Begun call) noted.did_is its
started_of holds call correlation (Kept begun why) old new journal journal_now turned did noted its = started_so holds did (Begun call) noted.did_is its

-- How a connection stood at which no call is under way, wherever its parts lie
pub was_bare : {T P E O : Type 0} (c laid : Connection T P E O) → c.asked ≡ None → laid.asked ≡ None → c.items.items ≡ laid.items.items → c.broken ≡ laid.broken → before_of c ≡ before_of laid
was_bare {T} {P} {E} {O} c laid idle bare same_items same_broken =
    ap (λ (a : Option (Asked T P E O)). record { asked = a; waiting = length c.items.items; broken = c.broken }) (idle ∙ sym bare)
    ∙ (ap (λ (l : List Item). record { asked = laid.asked; waiting = length l; broken = c.broken }) same_items
    ∙ ap (λ (b : Bool). record { asked = laid.asked; waiting = length laid.items.items; broken = b }) same_broken)
