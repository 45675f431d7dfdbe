-- How many pieces there are round a separator, and how long they are.
use Rattle.std.proofs.Common.{◌≡◌, ℕ, ◌+◌, ◌==◌, ◌≤◌, List, [], ◌∷◌, length, count_by, sum_by, ap, ◌∙◌, arith}
use Rattle.std.proofs.lemmas.List.Sums.{sum_by-cons}
use Rattle.memchr.specs.Find.{is_byte}
use Rattle.script_lang.specs.Words.{pieces_at}
use Rattle.std.proofs.lemmas.List.Splits.{length-slice_split}
use Rattle.script_lang.proofs.Pieces.{pieces_at-slice_split}
use Rattle.script_lang.proofs.PieceSizes.{pieces_size}

pub length-pieces_at : (sep : ℕ) (xs : List ℕ) → length (pieces_at sep xs) ≡ count_by (is_byte sep) xs + 1
length-pieces_at sep xs = ap length (pieces_at-slice_split sep xs) ∙ length-slice_split (λ x. x == sep) xs

-- Each piece is as long as the text at most.
abbrev pub AreShort : ℕ → List (List ℕ) → Type 0
AreShort size [] = Unit {0}
AreShort size (piece ∷ pieces) = (length piece ≤ size) × AreShort size pieces

AreShort-sum : (size : ℕ) (pieces : List (List ℕ)) → sum_by length pieces ≤ size → AreShort size pieces
AreShort-sum size [] small = tt
AreShort-sum size (piece ∷ pieces) small = let all = sum_by-cons length piece pieces in (omega (arith, all, small), AreShort-sum size pieces (omega (arith, all, small)))

pub AreShort-pieces_at : (sep : ℕ) (xs : List ℕ) → AreShort (length xs) (pieces_at sep xs)
AreShort-pieces_at sep xs = AreShort-sum (length xs) (pieces_at sep xs) (pieces_size sep xs)
