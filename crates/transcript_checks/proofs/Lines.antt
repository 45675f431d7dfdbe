-- Two texts are the same exactly where their lines are.
use Rattle.std.specs.Prelude.{◌↔◌, IsNone}
use Rattle.std.specs.Option.{option_map}
use Rattle.std.proofs.Common.{◌≡◌, ℕ, ◌+◌, ◌==◌, Bool, true, false, cond, List, [], ◌∷◌, ◌++◌, Option, Some, None, refl, ap, sym, ◌∙◌, arith}
use Rattle.std.proofs.lemmas.Bool.Decides.{nat_tests}
use Rattle.std.proofs.lemmas.Slice.Eq.{bytes_eq-Decides}
use Rattle.script_lang.specs.Words.{newline, pieces_at, onto_first, are_same}
use Rattle.script_lang.proofs.Pieces.{first_piece}
use Rattle.transcript_checks.specs.declared.difference.Difference.{Difference}
use Rattle.transcript_checks.specs.Differences.{difference_from, first_difference, differs_as}

-- Texts that compare as the same are the same.

same_text : (xs ys : List ℕ) → are_same xs ys ≡ true → xs ≡ ys
same_text xs ys h = (bytes_eq-Decides xs ys).0 h

are_same_self : (xs : List ℕ) → are_same xs xs ≡ true
are_same_self xs = (bytes_eq-Decides xs xs).1 refl

-- lines, with a newline between two of them
abbrev joined : List (List ℕ) → List ℕ
joined [] = []
joined (line ∷ []) = line
joined (line ∷ next ∷ lines) = line ++ newline ∷ joined (next ∷ lines)

joined_onto : (x : ℕ) (line : List ℕ) (lines : List (List ℕ)) → joined (onto_first x (line ∷ lines)) ≡ x ∷ joined (line ∷ lines)
joined_onto x line [] = refl
joined_onto x line (next ∷ lines) = refl

lines_joined : (xs : List ℕ) → joined (pieces_at newline xs) ≡ xs
lines_joined [] = refl
lines_joined (x ∷ xs) = go (x == newline) refl (lines_joined xs)
  where
    first : (line : List ℕ) × (lines : List (List ℕ)) × (pieces_at newline xs ≡ line ∷ lines)
    first = first_piece newline xs

    go : (b : Bool) → (x == newline) ≡ b → joined (pieces_at newline xs) ≡ xs → joined (cond b ([] ∷ pieces_at newline xs) (onto_first x (pieces_at newline xs))) ≡ x ∷ xs
    go true e ih =
        let same : x ≡ newline = grind (arith, nat_tests, e) in
        ap (λ ls. joined ([] ∷ ls)) first.2 ∙ ap (λ ls. newline ∷ joined ls) (sym first.2) ∙ ap (λ ys. newline ∷ ys) ih ∙ ap (λ y. y ∷ xs) (sym same)
    go false e ih = ap (λ ls. joined (onto_first x ls)) first.2 ∙ joined_onto x first.0 first.1 ∙ ap (λ ls. x ∷ joined ls) (sym first.2) ∙ ap (λ ys. x ∷ ys) ih

pub same_lines : (xs ys : List ℕ) → pieces_at newline xs ≡ pieces_at newline ys → xs ≡ ys
same_lines xs ys e = sym (lines_joined xs) ∙ ap joined e ∙ lines_joined ys

pub none_in_same : (number : ℕ) (lines : List (List ℕ)) → difference_from number lines lines ≡ None
none_in_same number [] = refl
none_in_same number (line ∷ lines) = rw (are_same_self line) (none_in_same (number + 1) lines)

pub same_in_none : (number : ℕ) (lines wanteds : List (List ℕ)) → difference_from number lines wanteds ≡ None → lines ≡ wanteds
same_in_none number [] [] e = refl
same_in_none number [] (wanted ∷ wanteds) e = absurd cc
same_in_none number (line ∷ lines) [] e = absurd cc
same_in_none number (line ∷ lines) (wanted ∷ wanteds) e = go (are_same line wanted) refl (same_in_none (number + 1) lines wanteds) e
  where
    go : (b : Bool) → are_same line wanted ≡ b → (difference_from (number + 1) lines wanteds ≡ None → lines ≡ wanteds)
        → cond b (difference_from (number + 1) lines wanteds) (Some (record { number = number; printed = line; wanted = wanted })) ≡ None → line ∷ lines ≡ wanted ∷ wanteds
    go true same ih s = (λ i. same_text line wanted same i ∷ ih s i)
    go false same ih s = absurd cc

pub none_where_same : (printed wanted : List ℕ) → printed ≡ wanted → first_difference printed wanted ≡ None
none_where_same printed wanted e = ap (first_difference printed) (sym e) ∙ none_in_same 1 (pieces_at newline printed)

pub same_where_none : (printed wanted : List ℕ) → first_difference printed wanted ≡ None → printed ≡ wanted
same_where_none printed wanted e = same_lines printed wanted (same_in_none 1 (pieces_at newline printed) (pieces_at newline wanted) e)

-- as the code has it
pub is_same : (d : Option Difference) (printed wanted : List ℕ) → option_map differs_as d ≡ first_difference printed wanted → IsNone d ↔ (printed ≡ wanted)
is_same None printed wanted e = (λ h. same_where_none printed wanted (sym e), λ h. refl)
is_same (Some d) printed wanted e = (λ h. let clash : true ≡ false = h in absurd cc, λ h. let clash : Some (differs_as d) ≡ None = e ∙ none_where_same printed wanted h in absurd cc)
