-- Passes that are joined one after another, from the last place to the first.
use Rattle.std.proofs.Common.{◌≡◌, ◌≢◌, ℕ, zero, suc, ◌+◌, ◌<◌, ◌≤◌, ⊎_elim, List, [], ◌∷◌, Option, Some, slice_get, set, length, sym, refl, ap, ◌∙◌, subst, arith}
use Rattle.std.proofs.lemmas.Bool.{cases_lt}
use Rattle.std.proofs.lemmas.List.{length-set}
use Rattle.std.proofs.lemmas.Option.{slice_get_within}
use Rattle.hand_cell.specs.declared.names.Key.{Key}
use Rattle.hand_cell.specs.Told.{Told}
use Rattle.session_calls.specs.Passes.{IsJoinedWith, HasJoinedAt, AreJoinedWith}
use Rattle.session_calls.proofs.Places.{same_some, set_there}

-- a write elsewhere
set_elsewhere : {A : Type 0} (xs : List A) (i k : ℕ) (v : A) → k ≢ i → slice_get (set xs i v) k ≡ slice_get xs k
set_elsewhere [] i k v ne = refl
set_elsewhere (x ∷ xs) zero zero v ne = absurd (ne refl)
set_elsewhere (x ∷ xs) zero (suc k) v ne = refl
set_elsewhere (x ∷ xs) (suc i) zero v ne = refl
set_elsewhere (x ∷ xs) (suc i) (suc k) v ne = set_elsewhere xs i k v (λ e. ne (ap suc e))

module _ {E : Type 0} (key_of : E → Key) (old : List (Told E)) (others : List (Option (Told E))) where
  -- from this place on the others are joined, and before it nothing has changed
  pub record AreJoinedFrom (from : ℕ) (now : List (Told E)) : Type 0 where
    pub as_long : length now ≡ length old
    pub before : (place : ℕ) → place < from → slice_get now place ≡ slice_get old place
    pub behind : (place : ℕ) (pass other joined : Told E) → from ≤ place → slice_get old place ≡ Some pass → slice_get others place ≡ Some (Some other) → slice_get now place ≡ Some joined
        → IsJoinedWith key_of pass other joined

  pub joined_none : (n : ℕ) → length others ≤ n → AreJoinedFrom n old
  joined_none n all = record {
    as_long = refl;
    before = λ k less. refl;
    behind = λ k p q r from was there is. let within = slice_get_within others k (Some q) there in absurd (omega arith);
  }

  pub joined_more : (n : ℕ) (now new : List (Told E)) (other : Told E) → AreJoinedFrom (n + 1) now → slice_get others n ≡ Some (Some other) → HasJoinedAt key_of n other now new → AreJoinedFrom n new
  joined_more n now new other are that has = record {
    as_long = ap length has.written ∙ (length-set now n has.joined ∙ are.as_long);
    before = λ k less. let ne : k ≢ n = omega arith in let within : k < n + 1 = omega arith in there k ne ∙ are.before k within;
    behind = λ k p q r from was that_one is. ⊎_elim
        (λ (more : n < k). let ne : k ≢ n = omega arith in let from_next : n + 1 ≤ k = omega arith in are.behind k p q r from_next was that_one (sym (there k ne) ∙ is))
        (λ (most : k ≤ n). let e : k ≡ n = omega arith in here k e p q r was that_one is)
        (cases_lt n k);
  }
    where
      there : (k : ℕ) → k ≢ n → slice_get new k ≡ slice_get now k
      there k ne = ap (λ (z : List (Told E)). slice_get z k) has.written ∙ set_elsewhere now n k has.joined ne

      less : n < n + 1
      less = omega arith

      here : (k : ℕ) → k ≡ n → (p q r : Told E) → slice_get old k ≡ Some p → slice_get others k ≡ Some (Some q) → slice_get new k ≡ Some r → IsJoinedWith key_of p q r
      here k e p q r was that_one is =
          let old_one : has.pass ≡ p = same_some has.pass p (sym has.there ∙ (are.before n less ∙ (ap (slice_get old) (sym e) ∙ was))) in
          let other_one : other ≡ q = same_some other q (same_some (Some other) (Some q) (sym that ∙ (ap (slice_get others) (sym e) ∙ that_one))) in
          let new_one : has.joined ≡ r = same_some has.joined r (sym (set_there now n has.pass has.joined has.there) ∙ (ap (λ (z : List (Told E)). slice_get z n) (sym has.written) ∙ (ap (slice_get new) (sym e) ∙ is))) in
          subst (λ z. IsJoinedWith key_of z q r) old_one (subst (λ z. IsJoinedWith key_of has.pass z r) other_one (subst (λ z. IsJoinedWith key_of has.pass other z) new_one has.is_joined))

  pub joined_all : (now : List (Told E)) → AreJoinedFrom 0 now → AreJoinedWith key_of old others now
  joined_all now are = record { as_long = are.as_long; each = λ k p q r was that is. let from : 0 ≤ k = omega arith in are.behind k p q r from was that is }

  -- one more, counted by what is left
  pub joined_down : (at before after : ℕ) (now new : List (Told E)) (other : Told E) → before ≡ after + 1 → at ≡ after → AreJoinedFrom before now → slice_get others after ≡ Some (Some other) → HasJoinedAt key_of at other now new
      → AreJoinedFrom after new
  joined_down at before after now new other one here are that has = joined_more after now new other (subst (λ (n : ℕ). AreJoinedFrom n now) one are) that (subst (λ (n : ℕ). HasJoinedAt key_of n other now new) here has)
