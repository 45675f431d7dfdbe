-- The place of the first element of a list that passes a test.
use Rattle.std.proofs.Common.{◌≡◌, ℕ, suc, ◌+◌, ◌<◌, Bool, true, false, not, cond, nat_lt, List, [], ◌∷◌, length, get_or, set, Some, None, refl, ap, sym, ◌∙◌, arith}
use Rattle.std.specs.List.{find, position, position_or_len}
use Rattle.std.proofs.lemmas.Bool.Decides.{nat_tests}
use Rattle.grid_client.specs.Lists.{changed_by}

module _ {X : Type 0} (test : X → Bool) where
  -- It is within the list, and what is there is the first that is found.
  pub record IsFirst (xs : List X) (place : ℕ) : Type 0 where
    pub at : position_or_len test xs ≡ place
    pub within : place < length xs

  pub first_placed : (xs : List X) (place : ℕ) → position test xs ≡ Some place → IsFirst xs place
  first_placed xs place e = by (nat_lt (position_or_len test xs) (length xs)) refl e
    where
      by : (b : Bool) → nat_lt (position_or_len test xs) (length xs) ≡ b → cond b (Some (position_or_len test xs)) None ≡ Some place → IsFirst xs place
      by true is e = let same : position_or_len test xs ≡ place = cc in record { at = same; within = grind (arith, nat_tests) }
      by false is e = absurd cc

  set_first : (xs : List X) (new : X) → position_or_len test xs < length xs → set xs (position_or_len test xs) new ≡ changed_by test (λ x. new) xs
  set_first [] new within = absurd (omega (arith, within))
  set_first (x ∷ xs) new within = by (test x) within (set_first xs new)
    where
      by : (b : Bool) → cond (not b) (1 + position_or_len test xs) 0 < suc (length xs) → (position_or_len test xs < length xs → set xs (position_or_len test xs) new ≡ changed_by test (λ x. new) xs)
          → set (x ∷ xs) (cond (not b) (1 + position_or_len test xs) 0) new ≡ cond b (new ∷ xs) (x ∷ changed_by test (λ x. new) xs)
      by true low rest = refl
      by false low rest =
          let one : 1 + position_or_len test xs ≡ suc (position_or_len test xs) = omega arith in
          ap (λ n. set (x ∷ xs) n new) one ∙ ap (λ ys. x ∷ ys) (rest (omega (arith, low)))

  pub set_placed : (xs : List X) (place : ℕ) (new : X) → IsFirst xs place → set xs place new ≡ changed_by test (λ x. new) xs
  set_placed xs place new is =
      let at = is.at in let low = is.within in
      ap (λ n. set xs n new) (sym at) ∙ set_first xs new (omega (arith, at, low))

  found_first : (xs : List X) (d : X) → position_or_len test xs < length xs → find test xs ≡ Some (get_or xs (position_or_len test xs) d)
  found_first [] d within = absurd (omega (arith, within))
  found_first (x ∷ xs) d within = by (test x) within (found_first xs d)
    where
      by : (b : Bool) → cond (not b) (1 + position_or_len test xs) 0 < suc (length xs) → (position_or_len test xs < length xs → find test xs ≡ Some (get_or xs (position_or_len test xs) d))
          → cond b (Some x) (find test xs) ≡ Some (get_or (x ∷ xs) (cond (not b) (1 + position_or_len test xs) 0) d)
      by true low rest = refl
      by false low rest =
          let one : 1 + position_or_len test xs ≡ suc (position_or_len test xs) = omega arith in
          rest (omega (arith, low)) ∙ ap (λ n. Some (get_or (x ∷ xs) n d)) (sym one)

  pub found_at : (xs : List X) (place : ℕ) (d : X) → IsFirst xs place → find test xs ≡ Some (get_or xs place d)
  found_at xs place d is =
      let at = is.at in let low = is.within in
      found_first xs d (omega (arith, at, low)) ∙ ap (λ n. Some (get_or xs n d)) at

  pub found_placed : (xs : List X) (place : ℕ) (x : X) → IsFirst xs place → x ≡ get_or xs place x → find test xs ≡ Some x
  found_placed xs place x is e = found_at xs place x is ∙ ap Some (sym e)

  pub none_placed : (xs : List X) → position test xs ≡ None → find test xs ≡ None
  none_placed [] e = refl
  none_placed (x ∷ xs) e = by (test x) e (none_placed xs)
    where
      by : (b : Bool) → cond (nat_lt (cond (not b) (1 + position_or_len test xs) 0) (suc (length xs))) (Some (cond (not b) (1 + position_or_len test xs) 0)) None ≡ None → (position test xs ≡ None → find test xs ≡ None)
          → cond b (Some x) (find test xs) ≡ None
      by true e rest = absurd (let low : nat_lt 0 (suc (length xs)) ≡ true = grind (arith, nat_tests) in cc (rw low at e))
      by false e rest = rest (later (nat_lt (position_or_len test xs) (length xs)) refl)
        where
          later : (d : Bool) → nat_lt (position_or_len test xs) (length xs) ≡ d → cond d (Some (position_or_len test xs)) None ≡ None
          later false is = refl
          later true is = absurd (let low : nat_lt (1 + position_or_len test xs) (suc (length xs)) ≡ true = grind (arith, nat_tests) in cc (rw low at e))
