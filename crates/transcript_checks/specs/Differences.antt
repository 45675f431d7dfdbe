-- The first line in which a text differs from the one that is wanted.
use Rattle.std.specs.Prelude.{◌≡◌, ℕ, zero, suc, ◌+◌, if◌then◌else◌, List, [], ◌∷◌, Option, Some, None, codes, refl}
use Rattle.std.specs.Borrow.{Bor}
use Rattle.script_lang.specs.Words.{are_same, newline, pieces_at}
use Rattle.transcript_checks.specs.declared.difference.Difference.{Difference}

-- a line by its number from 1: what was printed there, and what is wanted there; nothing where the text has ended
pub record Differs : Type 0 where
  pub number : ℕ
  pub printed : List ℕ
  pub wanted : List ℕ

-- of two lists of lines, of which the first has this number
abbrev pub difference_from : ℕ → List (List ℕ) → List (List ℕ) → Option Differs
difference_from number [] [] = None
difference_from number [] (wanted ∷ wanteds) = Some (record { number = number; printed = []; wanted = wanted })
difference_from number (printed ∷ lines) [] = Some (record { number = number; printed = printed; wanted = [] })
difference_from number (printed ∷ lines) (wanted ∷ wanteds) =
    if are_same printed wanted then difference_from (number + 1) lines wanteds
    else Some (record { number = number; printed = printed; wanted = wanted })

-- A newline stands between two lines, so a text that a newline ends has an empty last line.
abbrev pub first_difference : List ℕ → List ℕ → Option Differs
first_difference printed wanted = difference_from 1 (pieces_at newline printed) (pieces_at newline wanted)

-- the line with so many before it; nothing where there are no more
abbrev pub nth_line : ℕ → List (List ℕ) → List ℕ
nth_line before [] = []
nth_line zero (line ∷ lines) = line
nth_line (suc before) (line ∷ lines) = nth_line before lines

-- a wrong line, a line too many and a line too few
wrong_line : first_difference (codes "a") (codes "b") ≡ Some (record { number = 1; printed = codes "a"; wanted = codes "b" })
wrong_line = refl

line_too_many : first_difference (97 ∷ newline ∷ 98 ∷ newline ∷ []) (97 ∷ newline ∷ []) ≡ Some (record { number = 2; printed = codes "b"; wanted = [] })
line_too_many = refl

line_too_few : first_difference (97 ∷ newline ∷ []) (97 ∷ newline ∷ 98 ∷ newline ∷ []) ≡ Some (record { number = 2; printed = []; wanted = codes "b" })
line_too_few = refl

-- as the code has it

abbrev pub differs_as : Difference → Differs
differs_as d = record { number = d.number; printed = d.printed.now; wanted = d.wanted.now }

-- the lines after the first
abbrev pub rest_lines : Option (Bor (List ℕ)) → List (List ℕ)
rest_lines None = []
rest_lines (Some rest) = pieces_at newline rest.now
