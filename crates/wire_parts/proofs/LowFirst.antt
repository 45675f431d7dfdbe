-- Numbers as bytes, the low byte first, whatever the width: what is written is read, and what is read is written.
use Rattle.std.proofs.Common.{◌≡◌, ℕ, zero, suc, ◌+◌, ◌*◌, ◌/◌, ◌%◌, ◌^◌, ◌<◌, List, [], ◌∷◌, length, refl, sym, ap, subst, ◌∙◌, arith}
use Rattle.std.specs.Prelude.{slice_index}
use Rattle.std.specs.Int.{byte_at, byte_worth, bytes_low_first, sum_through}
use Rattle.std.proofs.Math.Nat.{pow-suc, pow-succ', div-div-eq-div-mul}
use Rattle.wire_parts.proofs.Formats.{IsBytes}

-- the number whose bytes these are
abbrev pub value_of : List ℕ → ℕ
value_of [] = 0
value_of (byte ∷ bytes) = byte + 256 * value_of bytes

-- ---- what `from_le_bytes` sums up

times : (byte p : ℕ) → byte * (p * 256) ≡ 256 * (byte * p)
times byte p = omega arith

worth_later : (i byte : ℕ) → byte_worth (suc i) byte ≡ 256 * byte_worth i byte
worth_later zero byte = omega arith
worth_later (suc i) byte = let more = pow-suc 256 (suc i) in ap (λ (p : ℕ). byte * p) more ∙ times byte (256 ^ suc i)

sum_first : (f g : ℕ → ℕ) (k : ℕ) → ((i : ℕ) → f (suc i) ≡ 256 * g i) → sum_through f (suc k) ≡ f 0 + 256 * sum_through g k
sum_first f g zero later = omega (arith, later 0)
sum_first f g (suc k) later = let rest = sum_first f g k later in omega (arith, rest, later (suc k))

abbrev pub summed : List ℕ → ℕ → ℕ
summed bytes k = sum_through (λ i. byte_worth i (slice_index bytes i)) k

summed_is : (k : ℕ) (bytes : List ℕ) → length bytes ≡ suc k → summed bytes k ≡ value_of bytes
summed_is k [] len = absurd (omega (arith, len))
summed_is zero (byte ∷ []) len = omega arith
summed_is zero (byte ∷ b ∷ bytes) len = absurd (omega (arith, len))
summed_is (suc k) (byte ∷ bytes) len =
    let rest = summed_is k bytes (omega (arith, len)) in
    sum_first (λ i. byte_worth i (slice_index (byte ∷ bytes) i)) (λ i. byte_worth i (slice_index bytes i)) k (λ i. worth_later i (slice_index bytes i)) ∙ ap (λ (n : ℕ). byte + 256 * n) rest

-- ---- what `to_le_bytes` writes

byte_later : (i n : ℕ) → byte_at (suc i) n ≡ byte_at i (n / 256)
byte_later zero n = refl
byte_later (suc i) n = ap (λ (p : ℕ). n / p % 256) (pow-succ' 256 (suc i)) ∙ ap (λ (m : ℕ). m % 256) (sym (div-div-eq-div-mul n 256 (256 ^ suc i)))

written_later : (i k n : ℕ) → bytes_low_first (suc i) k n ≡ bytes_low_first i k (n / 256)
written_later i zero n = refl
written_later i (suc k) n = let one = byte_later i n in let rest = written_later (suc i) k n in λ j. one j ∷ rest j

length-bytes_low_first : (i k n : ℕ) → length (bytes_low_first i k n) ≡ k
length-bytes_low_first i zero n = refl
length-bytes_low_first i (suc k) n = ap suc (length-bytes_low_first (suc i) k n)

value-written : (k n : ℕ) → n < 256 ^ k → value_of (bytes_low_first 0 k n) ≡ n
value-written zero n fits = omega arith
value-written (suc k) n fits =
    let fewer : n / 256 < 256 ^ k = omega (arith, pow-suc 256 k) in
    let rest : value_of (bytes_low_first 0 k (n / 256)) ≡ n / 256 = value-written k (n / 256) fewer in
    ap (λ (bytes : List ℕ). n % 256 + 256 * value_of bytes) (written_later 0 k n) ∙ omega (arith, rest)

written-value : (bytes : List ℕ) → IsBytes bytes → bytes_low_first 0 (length bytes) (value_of bytes) ≡ bytes
written-value [] are = refl
written-value (byte ∷ bytes) are =
    let rest = written-value bytes (λ i. are (suc i)) in
    let low : value_of (byte ∷ bytes) % 256 ≡ byte = omega (arith, are 0) in
    let high : value_of (byte ∷ bytes) / 256 ≡ value_of bytes = omega (arith, are 0) in
    let later : bytes_low_first 1 (length bytes) (value_of (byte ∷ bytes)) ≡ bytes = written_later 0 (length bytes) (value_of (byte ∷ bytes)) ∙ ap (bytes_low_first 0 (length bytes)) high ∙ rest in
    λ i. low i ∷ later i

value_fits : (bytes : List ℕ) → IsBytes bytes → value_of bytes < 256 ^ length bytes
value_fits [] are = omega arith
value_fits (byte ∷ bytes) are = let rest = value_fits bytes (λ i. are (suc i)) in omega (arith, rest, are 0, pow-suc 256 (length bytes))

-- ---- so many bytes, and the number that they sum up to

pub summed_fits : (k : ℕ) (bytes : List ℕ) → IsBytes bytes → length bytes ≡ suc k → summed bytes k < 256 ^ suc k
summed_fits k bytes are len = subst (λ (n : ℕ). n < 256 ^ suc k) (sym (summed_is k bytes len)) (subst (λ (m : ℕ). value_of bytes < 256 ^ m) len (value_fits bytes are))

pub written-summed : (k : ℕ) (bytes : List ℕ) → IsBytes bytes → length bytes ≡ suc k → bytes_low_first 0 (suc k) (summed bytes k) ≡ bytes
written-summed k bytes are len = ap (bytes_low_first 0 (suc k)) (summed_is k bytes len) ∙ subst (λ (m : ℕ). bytes_low_first 0 m (value_of bytes) ≡ bytes) len (written-value bytes are)

pub summed-written : (k n : ℕ) → n < 256 ^ suc k → summed (bytes_low_first 0 (suc k) n) k ≡ n
summed-written k n fits = summed_is k (bytes_low_first 0 (suc k) n) (length-bytes_low_first 0 (suc k) n) ∙ value-written (suc k) n fits
