-- What was done for a connection, and when its calls were started.
use Rattle.std.specs.Prelude.{◌≡◌, ◌⊎◌, ℕ, List, [], ◌∷◌, ◌++◌, Option, Some, None}
use Rattle.grid_base.specs.declared.calls.Request.{Request}
use Rattle.loop_journal.specs.declared.entry.Entry.{Entry}
use Rattle.live_session.specs.declared.step.CallStep.{CallStep}
use Rattle.live_session.specs.Steps.{StartsOne}

-- the start of a call: its number, and the moment that the clock gave for it
pub record Start : Type 0 where
  pub number : ℕ
  pub moment : ℕ

abbrev pub start_of : Request → ℕ → Start
start_of request moment = record { number = request.id.number; moment = moment }

-- with the start of a call, if one was started
abbrev pub with_start : Option Start → List Start → List Start
with_start None starts = starts
with_start (Some start) starts = start ∷ starts

-- what was done for a connection: the starts of its calls, the latest first, and all that its thread's journal has of it
pub record Log : Type 0 where
  pub starts : List Start
  pub entries : List Entry

abbrev pub nothing_done : Log
nothing_done = record { starts = []; entries = [] }

-- after a turn that started a call, if it did, and of which the journal has this
abbrev pub after_turn : Log → Option Start → List Entry → Log
after_turn log started entries = record { starts = with_start started log.starts; entries = log.entries ++ entries }

-- The clock gave these starts, the latest first, their moments, in their order and each by a reading of its own
abbrev pub AreGiven : List Start → (given : List ℕ) → Type 0
AreGiven [] given = Unit {0}
AreGiven (start ∷ earlier) given = (before after : List ℕ) × (given ≡ before ++ start.moment ∷ after) × AreGiven earlier before

-- What a turn asked the clock for: the moment of the call that it started; and else no more than one moment
abbrev pub AsksClock : Option Start → CallStep → (given given_now : List ℕ) → Type 0
AsksClock None step given given_now = (given_now ≡ given) ⊎ ((moment : ℕ) × (given_now ≡ given ++ moment ∷ []))
AsksClock (Some start) step given given_now = StartsOne (λ call. call.id.number ≡ start.number) step × (given_now ≡ given ++ start.moment ∷ [])
