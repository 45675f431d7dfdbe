-- The state that a call leaves is that which its effect makes, or the same one where it has none. A result that fails.
use Rattle.std.proofs.Common.{◌≡◌, ℕ, List, Option, Some, None, Result, Ok, Err, IsErrAnd, IfErr, OnErr, refl, sym, ◌∙◌}

pub state_called : {State : Type 0} (applied : List ℕ → State → Option State) (effect : Option (List ℕ)) (old new after : State)
    → ((bytes : List ℕ) → effect ≡ Some bytes → applied bytes old ≡ Some new) → (effect ≡ None → new ≡ old)
    → ((bytes : List ℕ) → effect ≡ Some bytes → applied bytes old ≡ Some after) → (effect ≡ None → after ≡ old) → new ≡ after
state_called applied None old new after made stays made' stays' = stays refl ∙ sym (stays' refl)
state_called applied (Some bytes) old new after made stays made' stays' = let same : Some new ≡ Some after = sym (made bytes refl) ∙ made' bytes refl in cc

pub on_err : {X E : Type 0} (r : Result X E) (P : Type 0) → P → OnErr r P
on_err (Ok x) P p = tt
on_err (Err e) P p = p

pub if_err : {X E : Type 0} (r : Result X E) (P Q : E → Type 0) → IsErrAnd r P → ((e : E) → P e → Q e) → IfErr r Q
if_err (Ok x) P Q h f = absurd h
if_err (Err e) P Q h f = f e h
