-- How many bytes the pieces of a text have, and the lines among them.
use Rattle.std.proofs.Common.{◌≡◌, ℕ, suc, ◌+◌, ◌≤◌, ◌==◌, Bool, true, false, cond, List, [], ◌∷◌, length, sum_by, refl, ap, sym, ◌∙◌, arith}
use Rattle.std.proofs.lemmas.List.Sums.{sum_by-cons}
use Rattle.script_lang.specs.Words.{newline, pieces_at, onto_first, fronts, last_piece, whole_lines, unfinished}
use Rattle.script_lang.proofs.Pieces.{first_piece}

-- there is one piece at least
some_piece : (separator : ℕ) (xs : List ℕ) → 1 ≤ length (pieces_at separator xs)
some_piece separator xs = let p = first_piece separator xs in let e = ap length p.2 in omega (arith, e)

-- The pieces and the separators between them are the bytes.
exact_size : (separator : ℕ) (xs : List ℕ) → sum_by length (pieces_at separator xs) + length (pieces_at separator xs) ≡ length xs + 1
exact_size separator [] = let one = sum_by-cons (length {A = ℕ}) [] [] in omega (arith, one)
exact_size separator (x ∷ xs) = go (x == separator) (exact_size separator xs)
  where
    onto : (pieces : List (List ℕ)) → 1 ≤ length pieces → sum_by length (onto_first x pieces) + length (onto_first x pieces) ≡ sum_by length pieces + length pieces + 1
    onto [] some = absurd (omega arith)
    onto (piece ∷ pieces) some =
        let more = sum_by-cons length (x ∷ piece) pieces in
        let less = sum_by-cons length piece pieces in
        omega (arith, more, less)

    go : (same : Bool) → sum_by length (pieces_at separator xs) + length (pieces_at separator xs) ≡ length xs + 1
        → sum_by length (cond same ([] ∷ pieces_at separator xs) (onto_first x (pieces_at separator xs))) + length (cond same ([] ∷ pieces_at separator xs) (onto_first x (pieces_at separator xs))) ≡ length (x ∷ xs) + 1
    go true h = let more = sum_by-cons length [] (pieces_at separator xs) in omega (arith, h, more)
    go false h =
        let e = onto (pieces_at separator xs) (some_piece separator xs) in
        omega (arith, h, e)

pub pieces_size : (separator : ℕ) (xs : List ℕ) → sum_by length (pieces_at separator xs) ≤ length xs
pieces_size separator xs = omega (arith, exact_size separator xs, some_piece separator xs)

split_size : (p : List ℕ) (ps : List (List ℕ)) → sum_by length (fronts (p ∷ ps)) + length (last_piece (p ∷ ps)) ≡ sum_by length (p ∷ ps)
split_size p [] = let one = sum_by-cons length p [] in omega (arith, one)
split_size p (q ∷ qs) =
    let e = split_size q qs in
    let front = sum_by-cons length p (fronts (q ∷ qs)) in
    let whole = sum_by-cons length p (q ∷ qs) in
    let last : length (last_piece (p ∷ q ∷ qs)) ≡ length (last_piece (q ∷ qs)) = refl in
    omega (arith, e, front, whole, last)

length-fronts : (p : List ℕ) (ps : List (List ℕ)) → length (fronts (p ∷ ps)) ≡ length ps
length-fronts p [] = refl
length-fronts p (q ∷ qs) = ap suc (length-fronts q qs)

pub few_lines : (xs : List ℕ) → length (whole_lines xs) ≤ length xs
few_lines xs =
    let p = first_piece newline xs in
    let fronts_are : length (whole_lines xs) ≡ length p.1 = ap (λ ps. length (fronts ps)) p.2 ∙ length-fronts p.0 p.1 in
    let pieces_are : length (pieces_at newline xs) ≡ length p.1 + 1 = ap length p.2 ∙ omega arith in
    omega (arith, exact_size newline xs, fronts_are, pieces_are)

-- The lines that are whole, their newlines, and what is left are the bytes.
pub lines_size : (xs : List ℕ) → length (whole_lines xs) + sum_by length (whole_lines xs) + length (unfinished xs) ≡ length xs
lines_size xs =
    let p = first_piece newline xs in
    let fronts_are : length (whole_lines xs) ≡ length p.1 = ap (λ ps. length (fronts ps)) p.2 ∙ length-fronts p.0 p.1 in
    let pieces_are : length (pieces_at newline xs) ≡ length p.1 + 1 = ap length p.2 ∙ omega arith in
    let parts : sum_by length (whole_lines xs) + length (unfinished xs) ≡ sum_by length (pieces_at newline xs) =
    ap (λ ps. sum_by length (fronts ps) + length (last_piece ps)) p.2 ∙ split_size p.0 p.1 ∙ ap (λ ps. sum_by length ps) (sym p.2) in
    let all = exact_size newline xs in
    omega (arith, fronts_are, pieces_are, parts, all)
