-- Pieces round a separator, found from the left.
use Rattle.std.proofs.Common.{◌≡◌, ℕ, zero, suc, ◌+◌, ◌==◌, Bool, true, false, cond, List, [], ◌∷◌, length, get_or, take, drop, refl, ap, ◌∙◌, arith, add-one}
use Rattle.memchr.specs.Find.{Nowhere, NoneBefore, Passes, is_byte}
use Rattle.std.specs.List.{slice_split}
use Rattle.std.specs.List as Std
use Rattle.script_lang.specs.Words.{pieces_at, onto_first}

later : (x k : ℕ) (xs : List ℕ) → get_or (x ∷ xs) (k + 1) 0 ≡ get_or xs k 0
later x k xs = rw add-one refl

after : (x k : ℕ) (xs : List ℕ) → drop (suc k + 1) (x ∷ xs) ≡ drop (k + 1) xs
after x k xs = simp add-one

-- the first piece is all
whole : (sep x : ℕ) (xs : List ℕ) (b : Bool) → (b ≡ true → ⊥) → pieces_at sep xs ≡ xs ∷ [] → cond b ([] ∷ pieces_at sep xs) (onto_first x (pieces_at sep xs)) ≡ (x ∷ xs) ∷ []
whole sep x xs true never ih = absurd (never refl)
whole sep x xs false never ih = ap (onto_first x) ih

-- the first piece goes on
goes_on : (sep x : ℕ) (piece : List ℕ) (rest : List (List ℕ)) (xs : List ℕ) (b : Bool) → (b ≡ true → ⊥) → pieces_at sep xs ≡ piece ∷ rest
    → cond b ([] ∷ pieces_at sep xs) (onto_first x (pieces_at sep xs)) ≡ (x ∷ piece) ∷ rest
goes_on sep x piece rest xs true never ih = absurd (never refl)
goes_on sep x piece rest xs false never ih = ap (onto_first x) ih

-- without a separator all is one piece
pub uncut : (sep : ℕ) (xs : List ℕ) → Nowhere (Passes (is_byte sep) xs) 0 (length xs) → pieces_at sep xs ≡ xs ∷ []
uncut sep [] h = refl
uncut sep (x ∷ xs) h =
    let rest : Nowhere (Passes (is_byte sep) xs) 0 (length xs) = λ k low high p. h (k + 1) (omega arith) (omega arith) (ap (λ y. y == sep) (later x k xs) ∙ p) in
    whole sep x xs (x == sep) (h 0 (omega arith) (omega arith)) (uncut sep xs rest)

-- the first separator ends the first piece
pub cut : (sep : ℕ) (xs : List ℕ) (k : ℕ) → NoneBefore (Passes (is_byte sep) xs) 0 (length xs) k → Passes (is_byte sep) xs k → pieces_at sep xs ≡ take k xs ∷ pieces_at sep (drop (k + 1) xs)
cut sep [] k before here = absurd (omega (arith, before.high))
cut sep (x ∷ xs) zero before here = rw here refl
cut sep (x ∷ xs) (suc k) before here =
    let inner : NoneBefore (Passes (is_byte sep) xs) 0 (length xs) k = record {
      low = omega arith;
      high = omega (arith, before.high);
      before = λ j low high p. before.before (j + 1) (omega arith) (omega arith) (ap (λ y. y == sep) (later x j xs) ∙ p);
    } in
    rw (after x k xs) (goes_on sep x (take k xs) (pieces_at sep (drop (k + 1) xs)) xs (x == sep) (before.before 0 (omega arith) (omega arith)) (cut sep xs k inner here))

-- there is a first piece
pub first_piece : (sep : ℕ) (xs : List ℕ) → (piece : List ℕ) × (rest : List (List ℕ)) × (pieces_at sep xs ≡ piece ∷ rest)
first_piece sep [] = ([], [], refl)
first_piece sep (x ∷ xs) = either (x == sep) (first_piece sep xs)
  where
    either : (b : Bool) → (piece : List ℕ) × (rest : List (List ℕ)) × (pieces_at sep xs ≡ piece ∷ rest)
        → (piece : List ℕ) × (rest : List (List ℕ)) × (cond b ([] ∷ pieces_at sep xs) (onto_first x (pieces_at sep xs)) ≡ piece ∷ rest)
    either true ih = ([], pieces_at sep xs, refl)
    either false ih = (x ∷ ih.0, ih.1, ap (onto_first x) ih.2)

-- pieces are the parts that std's `split` gives
pub pieces_at-slice_split : (sep : ℕ) (xs : List ℕ) → pieces_at sep xs ≡ slice_split (λ x. x == sep) xs
pieces_at-slice_split sep [] = refl
pieces_at-slice_split sep (x ∷ xs) = by_test (x == sep) (pieces_at-slice_split sep xs)
  where
    onto : (pieces : List (List ℕ)) → onto_first x pieces ≡ Std.onto_first x pieces
    onto [] = refl
    onto (piece ∷ pieces) = refl

    by_test : (b : Bool) → pieces_at sep xs ≡ slice_split (λ y. y == sep) xs
        → cond b ([] ∷ pieces_at sep xs) (onto_first x (pieces_at sep xs)) ≡ cond b ([] ∷ slice_split (λ y. y == sep) xs) (Std.onto_first x (slice_split (λ y. y == sep) xs))
    by_test true ih = ap (λ ps. [] ∷ ps) ih
    by_test false ih = ap (onto_first x) ih ∙ onto (slice_split (λ y. y == sep) xs)
