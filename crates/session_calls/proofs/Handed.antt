-- A list of tokens that grows by one.
use Rattle.std.proofs.Common.{◌≡◌, ℕ, zero, suc, ◌+◌, ◌⊎◌, inl, inr, ⊎_elim, List, [], ◌∷◌, ◌++◌, Some, slice_get, length, sym, refl, ap, ◌∙◌, subst}
use Rattle.job_queues.specs.Tokens.{Token}
use Rattle.partition_threads.specs.declared.workplace.Workplace.{Workplace}
use Rattle.partition_threads.specs.Workplaces.{IsTokenAt}
use Rattle.session_calls.specs.Passes.{AreTokensFrom}
use Rattle.session_calls.proofs.Places.{same_some, none_some}

pushed : {A : Type 0} (xs : List A) (x : A) (p : ℕ) (y : A) → slice_get (xs ++ x ∷ []) p ≡ Some y → (slice_get xs p ≡ Some y) ⊎ ((p ≡ length xs) × (y ≡ x))
pushed [] x zero y e = inr (refl, sym (same_some x y e))
pushed [] x (suc p) y e = absurd (none_some y e)
pushed (z ∷ zs) x zero y e = inl e
pushed (z ∷ zs) x (suc p) y e = ⊎_elim (λ (h : slice_get zs p ≡ Some y). inl h) (λ (h : (p ≡ length zs) × (y ≡ x)). inr (ap suc h.0, h.1)) (pushed zs x p y e)

module _ {T P E O : Type 0} (place : Workplace T P E O) (first : ℕ) where
  pub no_tokens : (ts : List (Token P)) → ts ≡ [] → AreTokensFrom place first ts
  no_tokens ts none k token e = absurd (none_some token (subst (λ (z : List (Token P)). slice_get z k ≡ Some token) none e))

  pub tokens_more : (ts us : List (Token P)) (at : ℕ) (token : Token P) → length ts ≡ at → AreTokensFrom place first ts → IsTokenAt place (first + at) token → us ≡ ts ++ token ∷ [] → AreTokensFrom place first us
  tokens_more ts us at token long are is pushed_on k t e = ⊎_elim
      (λ (h : slice_get ts k ≡ Some t). are k t h)
      (λ (h : (k ≡ length ts) × (t ≡ token)). subst (λ (z : Token P). IsTokenAt place (first + k) z) (sym h.1) (subst (λ (n : ℕ). IsTokenAt place (first + n) token) (sym (h.0 ∙ long)) is))
      (pushed ts token k t (subst (λ (z : List (Token P)). slice_get z k ≡ Some t) pushed_on e))
