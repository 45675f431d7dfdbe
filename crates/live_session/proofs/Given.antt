-- How the starts of calls stay given as the clock gives more.
use Rattle.std.proofs.Common.{◌≡◌, ℕ, List, [], ◌∷◌, ◌++◌, Option, Some, None, ⊎_elim, ap, ◌∙◌, sym, subst, append_assoc, append-nil}
use Rattle.session_calls.specs.Learning.{Begins}
use Rattle.live_session.specs.declared.step.CallStep.{CallStep}
use Rattle.live_session.specs.Starts.{Start, with_start, AreGiven, AsksClock}

-- the clock gave more
pub still_given : (starts : List Start) (given more : List ℕ) → AreGiven starts given → AreGiven starts (given ++ more)
still_given [] given more are = tt
still_given (start ∷ earlier) given more are =
    (are.0, are.1 ++ more, ap (λ (l : List ℕ). l ++ more) are.2 ∙ append_assoc are.0 (start.moment ∷ are.1) more, are.3)

pub given_since : (starts : List Start) (given given_now : List ℕ) → Begins given given_now → AreGiven starts given → AreGiven starts given_now
given_since starts given given_now more are = subst (AreGiven starts) (sym more.1) (still_given starts given more.0 are)

-- and gave more again
pub gives_more : (first given given_now : List ℕ) → Begins first given → Begins given given_now → Begins first given_now
gives_more first given given_now one two = (one.0 ++ two.0, two.1 ∙ ap (λ (l : List ℕ). l ++ two.0) one.1 ∙ append_assoc first one.0 two.0)

module _ (step : CallStep) (given given_now : List ℕ) where
  -- a turn's clock gave no less than before
  pub asks_more : (started : Option Start) → AsksClock started step given given_now → Begins given given_now
  asks_more None asks = ⊎_elim (λ (same : given_now ≡ given). ([], same ∙ sym (append-nil given))) (λ (one : (moment : ℕ) × (given_now ≡ given ++ moment ∷ [])). (one.0 ∷ [], one.1)) asks
  asks_more (Some start) asks = (start.moment ∷ [], asks.1)

  -- with the start of the turn, if it started a call
  pub given_with : (started : Option Start) (starts : List Start) → AsksClock started step given given_now → AreGiven starts given → AreGiven (with_start started starts) given_now
  given_with None starts asks are = given_since starts given given_now (asks_more None asks) are
  given_with (Some start) starts asks are = (given, [], asks.1, are)
