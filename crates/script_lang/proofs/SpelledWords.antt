-- Words that are joined by spaces are those of the text, and what numbers and bytes are spelled as is read again.
use Rattle.std.proofs.Common.{◌≡◌, ℕ, zero, suc, ◌+◌, ◌*◌, ◌-◌, ◌<◌, ◌≤◌, ◌^◌, ◌==◌, ◌&&◌, Bool, true, false, not, cond, nat_le, nat_lt, List, [], ◌∷◌, ◌++◌, length, get_or, fold, Option, Some, None, option_and_then, Ok, Err, All, refl, ap, sym, ◌∙◌, arith, rules}
use Rattle.std.specs.Prelude.{codes}
use Rattle.std.specs.Fmt.{decimal}
use Rattle.std.specs.Char.{is_ascii_digit}
use Rattle.std.specs.List.{list_all, AllPass, join_with_byte}
use Rattle.std.proofs.lemmas.Bool.Decides.{nat_tests}
use Rattle.std.proofs.lemmas.Fmt.{digits_decimal, digits_value-decimal, decimal_nonempty, first_decimal, decimal_digit}
use Rattle.std.proofs.lemmas.List.Splits.{slice_split_none, slice_split_at}
use Rattle.std.proofs.lemmas.List.Sums.{AllPass-from_list_all}
use Rattle.std.proofs.lemmas.Str.Parse.{IsNumeralModel, numerals_by_fold}
use Rattle.hex.specs.Hex.{encode_lower, is_hex_digit, IsBytes}
use Rattle.hex.proofs.HexLemmas.{decode_of-encode_lower, decode_of-ok, length-encode_with}
use Rattle.script_lang.specs.Words.{are_same, space, words_of, is_decimal, decimal_value, number_of, number_within, bytes_of}
use Rattle.script_lang.proofs.Pieces.{pieces_at-slice_split}
use Rattle.script_lang.specs.Lines.{Range, number_value, hex_value}
use Rattle.script_lang.specs.Readings.{IsIn}
use Rattle.script_lang.specs.declared.reading.Value.TheVariants as Values
use Rattle.script_lang.specs.declared.refusal.LineWhy.TheVariants.{Number, Hex}

-- Words and the text.

-- a word has no space
abbrev pub IsWord : List ℕ → Type 0
IsWord word = All (λ x. (x == space) ≡ false) word

abbrev pub AreWords : List (List ℕ) → Type 0
AreWords [] = Unit {0}
AreWords (word ∷ words) = IsWord word × AreWords words

pub words_of-joined : (word : List ℕ) (words : List (List ℕ)) → AreWords (word ∷ words) → words_of (join_with_byte space (word ∷ words)) ≡ word ∷ words
words_of-joined word [] are = pieces_at-slice_split space word ∙ slice_split_none (λ x. x == space) word are.0
words_of-joined word (next ∷ words) are =
    pieces_at-slice_split space (word ++ space ∷ join_with_byte space (next ∷ words))
    ∙ slice_split_at (λ x. x == space) word space (join_with_byte space (next ∷ words)) are.0 refl
    ∙ ap (λ ws. word ∷ ws) (sym (pieces_at-slice_split space (join_with_byte space (next ∷ words))) ∙ words_of-joined next words are.1)

-- a test that a word passes, and a space doesn't
IsWord-passing : (test : ℕ → Bool) → test space ≡ false → (word : List ℕ) → AllPass test word → IsWord word
IsWord-passing test stops word passes k d inside = by (get_or word k d == space) refl
  where
    by : (b : Bool) → (get_or word k d == space) ≡ b → b ≡ false
    by false is = refl
    by true is =
        let same : get_or word k d ≡ space = grind (arith, nat_tests) in
        let clash : true ≡ false = sym (passes k d inside) ∙ ap test same ∙ stops in absurd cc

pub IsWord-literal : (word : List ℕ) → list_all (λ x. not (x == space)) word ≡ true → IsWord word
IsWord-literal word passes = IsWord-passing (λ x. not (x == space)) refl word (AllPass-from_list_all (λ x. not (x == space)) word passes)

-- Numbers.

digits : IsNumeralModel (λ ds. list_all is_ascii_digit ds ≡ true) decimal_value
digits = numerals_by_fold _ (search rules) (λ n ds. fold (λ m d. m * 10 + (d - 48)) n ds) (search rules)

pub IsWord-decimal : (n : ℕ) → n < 2 ^ 64 → IsWord (decimal n)
IsWord-decimal n small = IsWord-passing is_ascii_digit refl (decimal n) (AllPass-from_list_all is_ascii_digit (decimal n) (digits_decimal digits n small))

is_decimal-digits : (ds : List ℕ) → 48 < get_or ds 0 0 → 0 < length ds → list_all is_ascii_digit ds ≡ true → is_decimal ds ≡ true
is_decimal-digits ds first some all =
    let full : (length ds == 0) ≡ false = grind (arith, nat_tests) in
    let lead : (get_or ds 0 0 == 48) ≡ false = grind (arith, nat_tests) in
    by (nat_lt 1 (length ds)) full lead
  where
    by : (long : Bool) → (length ds == 0) ≡ false → (get_or ds 0 0 == 48) ≡ false → cond (length ds == 0) false (cond (long && (get_or ds 0 0 == 48)) false (list_all is_ascii_digit ds)) ≡ true
    by true full lead = rw (full, lead) all
    by false full lead = rw full all

is_decimal-decimal : (n : ℕ) → n < 2 ^ 64 → is_decimal (decimal n) ≡ true
is_decimal-decimal zero small = rw (decimal_digit 0 (omega arith)) refl
is_decimal-decimal (suc n) small = is_decimal-digits (decimal (suc n)) (first_decimal (suc n) (omega arith) small) (decimal_nonempty (suc n) small) (digits_decimal digits (suc n) small)

number_of-decimal : (n : ℕ) → n < 2 ^ 64 → number_of (decimal n) ≡ Some n
number_of-decimal n small = rw (is_decimal-decimal n small) (ap Some (digits_value-decimal digits n small))

number_within-decimal : (least most n : ℕ) → n < 2 ^ 64 → least ≤ n → n ≤ most → number_within least most (decimal n) ≡ Some n
number_within-decimal least most n small low high =
    let above : nat_le least n ≡ true = grind (arith, nat_tests) in
    let below : nat_le n most ≡ true = grind (arith, nat_tests) in
    ap (option_and_then (λ m. cond (nat_le least m && nat_le m most) (Some m) None)) (number_of-decimal n small) ∙ rw (above, below) refl

-- a number in its range is read from its digits
pub number_value-decimal : (range : Range) (n : ℕ) → n < 2 ^ 64 → IsIn range n → number_value range (decimal n) ≡ Ok (Values.Number n)
number_value-decimal range n small within =
    ap (λ (number : Option ℕ). elim number [ None ↦ Err Number | Some m ↦ Ok (Values.Number m) ]) (number_within-decimal range.least range.most n small within.0 within.1)

-- a number's digits aren't the word `all`
digits_are_not_all : (ds : List ℕ) → list_all is_ascii_digit ds ≡ true → are_same ds (codes "all") ≡ false
digits_are_not_all [] all = refl
digits_are_not_all (d ∷ ds) all = by (d == 97) refl
  where
    by : (b : Bool) → (d == 97) ≡ b → b && are_same ds (codes "ll") ≡ false
    by false is = refl
    by true is =
        let same : d ≡ 97 = grind (arith, nat_tests) in
        let clash : false ≡ true = rw same at all in absurd cc

pub no_number_is_all : (n : ℕ) → n < 2 ^ 64 → are_same (decimal n) (codes "all") ≡ false
no_number_is_all n small = digits_are_not_all (decimal n) (digits_decimal digits n small)

-- Bytes.

pub IsWord-encode_lower : (bytes : List ℕ) → IsBytes bytes → IsWord (encode_lower bytes)
IsWord-encode_lower bytes are = IsWord-passing is_hex_digit refl (encode_lower bytes) (decode_of-ok (encode_lower bytes) bytes (decode_of-encode_lower bytes are)).1

-- bytes are read from their digits
pub hex_value-encode_lower : (bytes : List ℕ) → IsBytes bytes → 1 ≤ length bytes → hex_value (encode_lower bytes) ≡ Ok (Values.Bytes bytes)
hex_value-encode_lower bytes are some =
    let full : (length (encode_lower bytes) == 0) ≡ false = by (length (encode_lower bytes)) (length-encode_with _ bytes) in
    let read : bytes_of (encode_lower bytes) ≡ Some bytes = rw (full, decode_of-encode_lower bytes are) refl in
    ap (λ (found : Option (List ℕ)). elim found [ None ↦ Err Hex | Some b ↦ Ok (Values.Bytes b) ]) read
  where
    by : (n : ℕ) → n ≡ 2 * length bytes → (n == 0) ≡ false
    by n twice = grind (arith, nat_tests)
