-- What a turn did to the calls of its connection.
use Rattle.std.specs.Prelude.{◌≡◌, ℕ, List, [], ◌∷◌, All, Option, Some, None}
use Rattle.grid_base.specs.declared.names.CallId.{CallId}
use Rattle.loop_journal.specs.Journals.{call_in}
use Rattle.loop_journal.specs.declared.entry.Entry.{Entry}
use Rattle.loop_journal.specs.declared.entry.Entry.TheVariants.{Started, Finished}
use Rattle.loop_journal.specs.declared.entry.NotedCall.{NotedCall}
use Rattle.live_session.specs.declared.step.CallStep.{CallStep}
use Rattle.live_session.specs.declared.step.CallStep.TheVariants.{Nothing, Begun, Ended, Made}

-- by this step the call that was under way came to the one that is
abbrev pub StepsTo : (was is : Option NotedCall) → CallStep → Type 0
StepsTo None None Nothing = Unit {0}
StepsTo None None (Made call) = Unit {0}
StepsTo None (Some is) (Begun call) = call ≡ is
StepsTo (Some was) None (Ended call) = call ≡ was
StepsTo (Some was) (Some is) Nothing = is ≡ was
StepsTo was is step = ⊥

-- what the journal has of it
abbrev pub HasNotedCalls : CallStep → List Entry → Type 0
HasNotedCalls Nothing entries = All (λ entry. call_in entry ≡ None) entries
HasNotedCalls (Begun call) entries = entries ≡ Started call ∷ []
HasNotedCalls (Ended call) entries = entries ≡ Finished call ∷ []
HasNotedCalls (Made call) entries = entries ≡ Started call ∷ Finished call ∷ []

-- a call was started in it, of which this holds
abbrev pub StartsOne : (NotedCall → Type 0) → CallStep → Type 0
StartsOne holds (Begun call) = holds call
StartsOne holds (Made call) = holds call
StartsOne holds step = ⊥

-- of a call that was started in it, if one was, this holds
abbrev pub IfStarts : (NotedCall → Type 0) → CallStep → Type 0
IfStarts holds (Begun call) = holds call
IfStarts holds (Made call) = holds call
IfStarts holds step = Unit {0}

-- a call came to its outcome in it, of which this holds
abbrev pub EndsOne : (NotedCall → Type 0) → CallStep → Type 0
EndsOne holds (Ended call) = holds call
EndsOne holds (Made call) = holds call
EndsOne holds step = ⊥

-- the call of this name in this partition came to its outcome in it
abbrev pub IsEnded : CallStep → CallId → ℕ → Type 0
IsEnded step id partition = EndsOne (λ call. (call.id ≡ id) × (call.partition ≡ partition)) step
