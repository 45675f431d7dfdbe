-- What is spelled in messages are bytes, and in lines no newline.
use Rattle.std.proofs.Common.{◌≡◌, ℕ, zero, suc, ◌+◌, ◌-◌, ◌*◌, ◌<◌, ◌≤◌, ◌^◌, ◌==◌, Bool, true, false, not, nat_lt, List, [], ◌∷◌, ◌++◌, length, get_or, map, decimal, fold, All, flat_map, refl, ap, sym, subst, ◌∙◌, arith, rules, lit<, length-append}
use Rattle.std.specs.Prelude.{codes}
use Rattle.std.specs.Int.{byte_at, bytes_low_first, bytes_high_first}
use Rattle.std.specs.Char.{is_ascii_digit}
use Rattle.std.specs.List.{list_all, AllPass, join_with_byte}
use Rattle.std.proofs.lemmas.Bool.Decides.{nat_tests}
use Rattle.std.proofs.lemmas.Fmt.{digits_decimal, length-decimal-le}
use Rattle.std.proofs.lemmas.List.Elements.{All-nil, All-cons, All-append, All-get_or}
use Rattle.std.proofs.lemmas.List.Sums.{AllPass-from_list_all}
use Rattle.std.proofs.lemmas.Str.Parse.{IsNumeralModel, numerals_by_fold}
use Rattle.hex.specs.Hex.{encode_lower, is_hex_digit, IsBytes}
use Rattle.hex.proofs.HexLemmas.{decode_of-encode_lower, decode_of-ok}
use Rattle.frame_codec.specs.Frames.{frame_bytes, frame_length}
use Rattle.frame_codec.specs.Laws.{spelled, IsBytes as AreBytes}
use Rattle.frame_codec.specs.declared.frames.Frame.{Frame}
use Rattle.script_lang.specs.Words.{newline, space, decimal_value}
use Rattle.workload_gen.proofs.Appending.{joined}

-- ---- bytes

is_byte : (i n : ℕ) → byte_at i n < 256
is_byte zero n = omega arith
is_byte (suc i) n = omega arith

pub low_first_are : (i k n : ℕ) → AreBytes (bytes_low_first i k n)
low_first_are i zero n = All-nil (λ byte. byte < 256)
low_first_are i (suc k) n = All-cons (λ byte. byte < 256) (byte_at i n) (bytes_low_first (suc i) k n) (is_byte i n) (low_first_are (suc i) k n)

pub high_first_are : (k n : ℕ) → AreBytes (bytes_high_first k n)
high_first_are zero n = All-nil (λ byte. byte < 256)
high_first_are (suc k) n = All-cons (λ byte. byte < 256) (byte_at k n) (bytes_high_first k n) (is_byte k n) (high_first_are k n)

pub both_are : (one two : List ℕ) → AreBytes one → AreBytes two → AreBytes (one ++ two)
both_are one two = All-append (λ byte. byte < 256) one two

pub literal_are : (bytes : List ℕ) → list_all (λ x. nat_lt x 256) bytes ≡ true → AreBytes bytes
literal_are bytes passes k d inside =
    let below : nat_lt (get_or bytes k d) 256 ≡ true = AllPass-from_list_all (λ x. nat_lt x 256) bytes passes k d inside in
    grind (arith, nat_tests)

frame_is : (frame : Frame) → AreBytes frame.payload → AreBytes (frame_bytes frame)
frame_is frame are =
    let size = bytes_low_first 0 4 (frame_length frame) in
    let flags = bytes_low_first 0 2 frame.flags in
    both_are (size ++ flags) frame.payload (both_are size flags (low_first_are 0 4 (frame_length frame)) (low_first_are 0 2 frame.flags)) are

abbrev pub HaveBytes : List Frame → Type 0
HaveBytes [] = Unit {0}
HaveBytes (frame ∷ frames) = AreBytes frame.payload × HaveBytes frames

pub frames_are : (frames : List Frame) → HaveBytes frames → AreBytes (spelled frames)
frames_are [] have = All-nil (λ byte. byte < 256)
frames_are (frame ∷ frames) have = both_are (frame_bytes frame) (spelled frames) (frame_is frame have.0) (frames_are frames have.1)

pub by_index : (bytes : List ℕ) → AreBytes bytes → IsBytes bytes
by_index [] are i = lit< tt
by_index (byte ∷ bytes) are zero = All-get_or (λ x. x < 256) (byte ∷ bytes) 0 0 (omega arith) are
by_index (byte ∷ bytes) are (suc i) = by_index bytes (λ k d within. are (suc k) d (omega arith)) i

-- ---- no newline

abbrev pub HasNoNewline : List ℕ → Type 0
HasNoNewline text = All (λ x. (x == newline) ≡ false) text

-- a test that each byte passes, and a newline doesn't
passing : (test : ℕ → Bool) → test newline ≡ false → (text : List ℕ) → AllPass test text → HasNoNewline text
passing test stops text passes k d inside = by (get_or text k d == newline) refl
  where
    by : (b : Bool) → (get_or text k d == newline) ≡ b → b ≡ false
    by false is = refl
    by true is =
        let same : get_or text k d ≡ newline = grind (arith, nat_tests) in
        let clash : true ≡ false = sym (passes k d inside) ∙ ap test same ∙ stops in absurd cc

pub literal_has_none : (text : List ℕ) → list_all (λ x. not (x == newline)) text ≡ true → HasNoNewline text
literal_has_none text passes = passing (λ x. not (x == newline)) refl text (AllPass-from_list_all (λ x. not (x == newline)) text passes)

hex_has_none : (bytes : List ℕ) → IsBytes bytes → HasNoNewline (encode_lower bytes)
hex_has_none bytes are = passing is_hex_digit refl (encode_lower bytes) (decode_of-ok (encode_lower bytes) bytes (decode_of-encode_lower bytes are)).1

digits : IsNumeralModel (λ ds. list_all is_ascii_digit ds ≡ true) decimal_value
digits = numerals_by_fold _ (search rules) (λ n ds. fold (λ m d. m * 10 + (d - 48)) n ds) (search rules)

number_has_none : (n : ℕ) → n < 2 ^ 64 → HasNoNewline (decimal n)
number_has_none n small = passing is_ascii_digit refl (decimal n) (AllPass-from_list_all is_ascii_digit (decimal n) (digits_decimal digits n small))

behind_space : (text : List ℕ) → HasNoNewline text → HasNoNewline (space ∷ text)
behind_space text none = All-cons (λ x. (x == newline) ≡ false) space text refl none

pub then_none : (one two : List ℕ) → HasNoNewline one → HasNoNewline two → HasNoNewline (one ++ two)
then_none one two = All-append (λ x. (x == newline) ≡ false) one two

abbrev pub AreSmall : List ℕ → Type 0
AreSmall [] = Unit {0}
AreSmall (n ∷ ns) = (n < 2 ^ 64) × AreSmall ns

numbers_have_none : (ns : List ℕ) → AreSmall ns → HasNoNewline (flat_map (λ number. space ∷ decimal number) ns)
numbers_have_none [] small = All-nil (λ x. (x == newline) ≡ false)
numbers_have_none (n ∷ ns) small =
    then_none (space ∷ decimal n) (flat_map (λ number. space ∷ decimal number) ns) (behind_space (decimal n) (number_has_none n small.0)) (numbers_have_none ns small.1)

-- a keyword and numbers
pub words_have_none : (keyword ns : List ℕ) → list_all (λ x. not (x == newline)) keyword ≡ true → AreSmall ns → HasNoNewline (join_with_byte space (keyword ∷ map decimal ns))
words_have_none keyword ns passes small =
    subst HasNoNewline (sym (joined keyword ns)) (then_none keyword (flat_map (λ number. space ∷ decimal number) ns) (literal_has_none keyword passes) (numbers_have_none ns small))

-- a keyword, a number and bytes
pub arrival_has_none : (conn : ℕ) (bytes : List ℕ) → conn < 2 ^ 64 → IsBytes bytes → HasNoNewline (codes "bytes" ++ space ∷ (decimal conn ++ space ∷ encode_lower bytes))
arrival_has_none conn bytes small are =
    then_none (codes "bytes") (space ∷ (decimal conn ++ space ∷ encode_lower bytes)) (literal_has_none (codes "bytes") refl)
    (behind_space (decimal conn ++ space ∷ encode_lower bytes) (then_none (decimal conn) (space ∷ encode_lower bytes) (number_has_none conn small) (behind_space (encode_lower bytes) (hex_has_none bytes are))))

-- ---- how long a line is

numbers_are_short : (ns : List ℕ) → AreSmall ns → length (flat_map (λ number. space ∷ decimal number) ns) ≤ 21 * length ns
numbers_are_short [] small = omega arith
numbers_are_short (n ∷ ns) small =
    let digits : length (decimal n) ≤ 20 = length-decimal-le 20 n (omega arith) (omega (arith, small.0)) small.0 in
    let others = numbers_are_short ns small.1 in
    let all = length-append (space ∷ decimal n) (flat_map (λ number. space ∷ decimal number) ns) in
    omega (arith, digits, others, all)

-- a keyword and up to five numbers
pub words_are_short : (keyword ns : List ℕ) → AreSmall ns → length keyword + 21 * length ns ≤ 154 → length (join_with_byte space (keyword ∷ map decimal ns)) ≤ 154
words_are_short keyword ns small few =
    let all = length-append keyword (flat_map (λ number. space ∷ decimal number) ns) in
    let numbers = numbers_are_short ns small in
    subst (λ (text : List ℕ). length text ≤ 154) (sym (joined keyword ns)) (omega (arith, all, numbers, few))
