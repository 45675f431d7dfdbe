-- A message that was put last is put last whatever its bytes are called.
use Rattle.std.proofs.Common.{◌≡◌, ℕ, List, [], ◌∷◌, ◌++◌, Result, subst}
use Rattle.std.specs.Prelude.{OnOk}

pub put_last : {V E : Type 0} (result : Result V E) (old new : List (ℕ × List ℕ)) (to : ℕ) (bytes text : List ℕ) → bytes ≡ text → OnOk result (new ≡ old ++ (to, bytes) ∷ []) → OnOk result (new ≡ old ++ (to, text) ∷ [])
put_last result old new to bytes text is put = subst (λ (b : List ℕ). OnOk result (new ≡ old ++ (to, b) ∷ [])) is put
