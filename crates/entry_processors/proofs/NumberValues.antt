-- A number is read from its value, and from nothing else.
use Rattle.std.proofs.Common.{◌≡◌, ℕ, ◌+◌, ◌^◌, ◌<◌, Bool, true, false, ◌&&◌, ℤ, pos, negsuc, List, ◌++◌, length, get_or, take, drop, All, Some, None, refl, ap, sym, ◌∙◌, arith, FitsSigned, w64, length-drop}
use Rattle.std.proofs.lemmas.Bool.Decides.{nat_tests, Decides-eqb}
use Rattle.std.proofs.lemmas.Int.{ints, to_z-of_z, of_z-to_z}
use Rattle.std.proofs.lemmas.Nat.{from_be_bytes-to_be_bytes_8, be_bytes_8}
use Rattle.std.proofs.lemmas.List.{take-append-drop, get_or_past, get_or-drop}
use Rattle.std.specs.Prelude.{nat_eq, ◌==◌}
use Rattle.std.specs.Int.{from_be_bytes, to_be_bytes, cast_signed, cast_unsigned}
use Rattle.std.specs.Cmp.Lexicographic.{pointwise, same_text}
use Rattle.entry_processors.specs.NumberValues.{number_header, number_value, is_number_value, fits_64_bits}
use Rattle.entry_processors.specs.OutcomeFacts.{IsReadAsSpelled, IsSpelledOneWay}

fits_where_tested : (number : ℤ) → fits_64_bits number ≡ true → FitsSigned w64 number
fits_where_tested (pos n) e = grind (arith, nat_tests, ints)
fits_where_tested (negsuc n) e = grind (arith, nat_tests, ints)

bits_fit : (number : ℤ) → FitsSigned w64 number → cast_unsigned w64 number < 2 ^ 64
bits_fit number fits = omega (arith, ints)

pub is_read_as_spelled : (number : ℤ) → IsReadAsSpelled number
is_read_as_spelled number e =
    let fits = fits_where_tested number e in
    let bits = from_be_bytes-to_be_bytes_8 (cast_unsigned w64 number) (bits_fit number fits) in
    ap (λ n. Some (cast_signed w64 n)) bits ∙ ap Some (to_z-of_z w64 number fits)

bytes_fit : (bytes : List ℕ) → All (λ byte. byte < 256) bytes → (i : ℕ) → get_or (drop 8 bytes) i 0 < 256
bytes_fit bytes fit i = grind (arith, get_or-drop 8 bytes i 0, get_or_past bytes (8 + i) 0, fit (8 + i) 0)

bits_of : (bytes : List ℕ) → ((i : ℕ) → get_or bytes i 0 < 256) → from_be_bytes w64 bytes < 2 ^ 64
bits_of bytes fit = omega (arith, fit 0, fit 1, fit 2, fit 3, fit 4, fit 5, fit 6, fit 7)

both_true : (a b : Bool) → (a && b) ≡ true → (a ≡ true) × (b ≡ true)
both_true true true e = (refl, refl)
both_true true false e = cc
both_true false b e = cc

spelled_again : (bytes : List ℕ) → All (λ byte. byte < 256) bytes → is_number_value bytes ≡ true → bytes ≡ number_value (cast_signed w64 (from_be_bytes w64 (drop 8 bytes)))
spelled_again bytes fit is =
    let both = both_true (pointwise nat_eq (take 8 bytes) number_header) (length bytes == 16) is in
    let header : take 8 bytes ≡ number_header = same_text (take 8 bytes) number_header (sym both.0) in
    let size : length bytes ≡ 16 = (Decides-eqb (length bytes) 16).0 both.1 in
    let rest : length (drop 8 bytes) ≡ 8 = omega (arith, length-drop 8 bytes) in
    let small = bytes_fit bytes fit in
    let digits = be_bytes_8 (drop 8 bytes) (from_be_bytes w64 (drop 8 bytes)) rest small refl in
    let bits = of_z-to_z w64 (from_be_bytes w64 (drop 8 bytes)) (bits_of (drop 8 bytes) small) in
    sym (take-append-drop 8 bytes) ∙ ap (λ front. front ++ drop 8 bytes) header ∙ ap (λ digits. number_header ++ digits) (sym digits ∙ ap (to_be_bytes w64) (sym bits))

pub is_spelled_one_way : (bytes : List ℕ) (number : ℤ) → IsSpelledOneWay bytes number
is_spelled_one_way bytes number fit e = go (is_number_value bytes) refl
  where
    go : (is : Bool) → is_number_value bytes ≡ is → bytes ≡ number_value number
    go true is =
        let some : Some (cast_signed w64 (from_be_bytes w64 (drop 8 bytes))) ≡ Some number = rw is at e in
        let same : cast_signed w64 (from_be_bytes w64 (drop 8 bytes)) ≡ number = cc in
        spelled_again bytes fit is ∙ ap number_value same
    go false is = let none : None ≡ Some number = rw is at e in cc
