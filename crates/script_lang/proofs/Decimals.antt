-- Reading digits on only makes a number greater.
use Rattle.std.proofs.Common.{◌≡◌, ℕ, suc, ◌+◌, ◌-◌, ◌*◌, ◌<◌, ◌≤◌, ◌^◌, List, [], ◌∷◌, length, fold, drop, get_or, Option, Some, None, SomeIff, ap, arith}
use Rattle.std.proofs.Math.Seq.{drop-cons}

pub fold_grows : (v : ℕ) (ds : List ℕ) → v ≤ fold (λ n d. n * 10 + (d - 48)) v ds
fold_grows v [] = omega arith
fold_grows v (d ∷ ds) = omega (arith, fold_grows (v * 10 + (d - 48)) ds)

-- the digit at a place is read first
pub reads_on : (v i : ℕ) (word : List ℕ) → i < length word
    → fold (λ n d. n * 10 + (d - 48)) v (drop i word) ≡ fold (λ n d. n * 10 + (d - 48)) (v * 10 + (get_or word i 0 - 48)) (drop (suc i) word)
reads_on v i word inside = ap (fold (λ n d. n * 10 + (d - 48)) v) (drop-cons word i 0 inside)

-- A number that is too large before its last digit is too large.
pub too_large : (result : Option ℕ) (v : ℕ) (ds : List ℕ) (value : ℕ) → result ≡ None → 2 ^ 64 ≤ v → fold (λ n d. n * 10 + (d - 48)) v ds ≡ value → SomeIff result (value < 2 ^ 64) value
too_large None v ds value is large e = λ small. omega (arith, fold_grows v ds)
too_large (Some n) v ds value is large e = absurd (let no : Some n ≡ None = is in cc)
