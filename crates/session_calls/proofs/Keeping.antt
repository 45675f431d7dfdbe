-- A session keeps a place for a pass of each cell, and the tokens of its member's workers.
use Rattle.std.proofs.Common.{◌≡◌, ℕ, ◌+◌, ◌*◌, ⊎_elim, Option, Some, slice_get, set, length, sym, ap, ◌∙◌, subst}
use Rattle.std.proofs.lemmas.List.{length-set}
use Rattle.hand_cell.specs.Told.{Told}
use Rattle.job_queues.specs.Roster.{roster_of}
use Rattle.job_queues.specs.Tokens.{Token, IsSameQueue}
use Rattle.partition_threads.specs.declared.workplace.Workplace.{Workplace}
use Rattle.partition_threads.specs.Workplaces.{IsTokenAt}
use Rattle.session_calls.specs.declared.session.SessionPass.{SessionPass}
use Rattle.session_calls.specs.Sessions.{IsSessionOf, HasPassAt}
use Rattle.session_calls.proofs.Places.{after_set}

module _ {T P E O : Type 0} (place : Workplace T P E O) (old new : SessionPass T P E O) (is : IsSessionOf place old) where
  -- with something else at a partition, but no pass of another cell
  pub with_pass : (p : ℕ) (v : Option (Told E)) → ((q : Told E) → v ≡ Some q → slice_get (roster_of place.cells.items).tables p ≡ Some q.table) → HasPassAt old new p v → IsSessionOf place new
  with_pass p v of_cell has = record {
    each = ap length has.passes ∙ (length-set old.passes.items p v ∙ is.each);
    passes = λ k q e. ⊎_elim (λ (h : (Some q ≡ v) × (k ≡ p)). subst (λ z. slice_get (roster_of place.cells.items).tables z ≡ Some q.table) (sym h.1) (of_cell q (sym h.0)))
        (λ (h : slice_get old.passes.items k ≡ Some (Some q)). is.passes k q h)
        (after_set old.passes.items p v k (Some q) (subst (λ z. slice_get z k ≡ Some (Some q)) has.passes e));
    four = ap length has.same_tokens ∙ is.four;
    tokens = λ k b e. subst (λ m. IsTokenAt place (4 * m + k) b) (sym has.same_member) (is.tokens k b (subst (λ z. slice_get z k ≡ Some b) has.same_tokens e));
  }

  -- with another token of the same queue
  pub with_token : (k : ℕ) (token after : Token P) → slice_get old.tokens.items k ≡ Some token → IsSameQueue token after → new.passes.items ≡ old.passes.items → new.member ≡ old.member
      → new.tokens.items ≡ set old.tokens.items k after → IsSessionOf place new
  with_token k token after was same passes member written = record {
    each = ap length passes ∙ is.each;
    passes = λ p q e. is.passes p q (subst (λ z. slice_get z p ≡ Some (Some q)) passes e);
    four = ap length written ∙ (length-set old.tokens.items k after ∙ is.four);
    tokens = λ j b e. subst (λ m. IsTokenAt place (4 * m + j) b) (sym member) (⊎_elim
        (λ (h : (b ≡ after) × (j ≡ k)). let of = is.tokens k token was in subst (λ z. IsTokenAt place (4 * old.member + j) z) (sym h.0) (subst (λ z. IsTokenAt place (4 * old.member + z) after) (sym h.1)
        (record { queue = of.queue ∙ ap Some (sym same.queue); roster = same.roster ∙ of.roster })))
        (λ (h : slice_get old.tokens.items j ≡ Some b). is.tokens j b h)
        (after_set old.tokens.items k after j b (subst (λ z. slice_get z j ≡ Some b) written e)));
  }
