-- The parts of a message are formats: bytes, numbers, marks, and bytes behind their length.
use Rattle.std.proofs.Common.{◌≡◌, ℕ, zero, suc, ◌+◌, ◌-◌, ◌<◌, ◌≤◌, Bool, true, false, cond, ltb, List, [], ◌∷◌, ◌++◌, length, take, drop, Result, Ok, Err, refl, sym, ap, subst, ◌∙◌, inl, inr, length-append, add-zero, arith}
use Rattle.std.specs.Int.{w32, from_le_bytes}
use Rattle.std.proofs.lemmas.Bool.{cases_lt, ltb-false, ltb-true, le-ltb}
use Rattle.std.proofs.lemmas.List.{take_at, drop_at, take-append-drop, length-take, get_or-drop, get_or-take, get_or_past}
use Rattle.std.proofs.lemmas.Nat.{le_bytes_4, from_le_bytes-to_le_bytes_4}
use Rattle.wire_parts.specs.declared.refusal.WireRefused.{WireRefused}
use Rattle.wire_parts.specs.declared.refusal.WireRefused.TheVariants.{Short, Tag}
use Rattle.wire_parts.specs.Places.{Place}
use Rattle.wire_parts.specs.Parts.{◌>>=◌, IsByte, AreBytes, IsNumber, first_of, byte_at, number_at, number, mark, marked_by, mark_at}
use Rattle.wire_parts.proofs.Formats.{IsBytes, place, gives, ok_is, Begins, Fault, Takes, IsFormat, Spells}

-- ---- bytes

pub IsBytes-drop : (n : ℕ) (bytes : List ℕ) → IsBytes bytes → IsBytes (drop n bytes)
IsBytes-drop n bytes h i = rw get_or-drop (h (n + i))

pub IsBytes-take : (n : ℕ) (bytes : List ℕ) → IsBytes bytes → IsBytes (take n bytes)
IsBytes-take n bytes h i =
    elim (cases_lt i n) [
      | inl lt ↦ rw (get_or-take n bytes i 0 lt) (h i)
      | inr le ↦ rw (get_or_past (take n bytes) i 0 (omega (arith, length-take n bytes))) (omega arith)
    ]

-- past the end there is a 0
pub IsBytes-from_all : (bytes : List ℕ) → AreBytes bytes → IsBytes bytes
IsBytes-from_all bytes all i =
    elim (cases_lt i (length bytes)) [
      | inl lt ↦ all i 0 lt
      | inr le ↦ rw (get_or_past bytes i 0 le) (omega arith)
    ]

IsBytes-rest : (byte : ℕ) (bytes : List ℕ) → IsBytes (byte ∷ bytes) → IsBytes bytes
IsBytes-rest byte bytes h i = h (suc i)

IsBytes-append : (a b : List ℕ) → IsBytes a → IsBytes b → IsBytes (a ++ b)
IsBytes-append [] b one two i = two i
IsBytes-append (x ∷ a) b one two zero = one 0
IsBytes-append (x ∷ a) b one two (suc i) = IsBytes-append a b (IsBytes-rest x a one) two i

abbrev pub zeros : ℕ → List ℕ
zeros zero = []
zeros (suc n) = 0 ∷ zeros n

pub length-zeros : (n : ℕ) → length (zeros n) ≡ n
length-zeros zero = refl
length-zeros (suc n) = ap suc (length-zeros n)

IsBytes-zeros : (n : ℕ) → IsBytes (zeros n)
IsBytes-zeros zero i = omega arith
IsBytes-zeros (suc n) zero = omega arith
IsBytes-zeros (suc n) (suc i) = IsBytes-zeros n i

-- a test that did not fail, and one that did
pub guard_ok : {A : Type 0} (b : Bool) (d : WireRefused) (x y : A) → cond b (Err d) (Ok x) ≡ Ok y → (b ≡ false) × (x ≡ y)
guard_ok true d x y e = absurd cc
guard_ok false d x y e = (refl, cc)

pub guard_err : {A : Type 0} (b : Bool) (d e : WireRefused) (x : A) → cond b (Err d) (Ok x) ≡ Err e → (b ≡ true) × (d ≡ e)
guard_err true d e x is = (refl, cc)
guard_err false d e x is = absurd cc

-- ---- one byte

abbrev pub SpellsByte : ℕ → List ℕ → Type 0
SpellsByte = Spells IsByte (λ byte. byte ∷ [])

byte_taken : (at : ℕ) (rest : List ℕ) (q : Place) (byte : ℕ) → IsBytes rest → first_of at rest ≡ gives byte q → Takes SpellsByte (place at rest) byte q
byte_taken at [] q byte bytes e = absurd cc
byte_taken at (b ∷ rest) q byte bytes e =
    subst (λ (got : ℕ × Place). Takes SpellsByte (place at (b ∷ rest)) got.0 got.1) (ok_is (b, place (at + 1) rest) (byte, q) e)
    (record { text = b ∷ []; spells = record { fits = bytes 0; is = refl }; parts = refl; moved = refl; bytes = IsBytes-rest b rest bytes })

byte_some : Begins SpellsByte []
byte_some = record { value = 0; text = 0 ∷ []; spells = record { fits = omega arith; is = refl }; rest = 0 ∷ []; whole = refl }

-- where there is no byte, some value begins
pub no_byte : {C : Type 0} (S : C → List ℕ → Type 0) → Begins S [] → (at : ℕ) (rest : List ℕ) (e : WireRefused) → first_of at rest ≡ Err e → Fault S (place at rest) e
no_byte S some at [] e is = let same : Short at ≡ e = cc in subst (Fault S (place at [])) same (record { from = omega arith; to = omega arith; begins = some })
no_byte S some at (b ∷ rest) e is = absurd cc

pub byte_format : IsFormat byte_at SpellsByte
byte_format = record {
  reads = record {
    takes = λ p q byte bytes e. byte_taken p.at p.rest q byte bytes e;
    again = λ at byte text rest s. rw s.is refl;
  };
  some = byte_some;
  faults = λ p e bytes is. no_byte SpellsByte byte_some p.at p.rest e is;
}

-- ---- a number

abbrev pub SpellsNumber : ℕ → List ℕ → Type 0
SpellsNumber = Spells IsNumber number

-- four bytes are a number
four_bytes : (bytes : List ℕ) → IsBytes bytes → length bytes ≡ 4 → SpellsNumber (from_le_bytes w32 bytes) bytes
four_bytes bytes fits len = record { fits = omega (arith, fits 0, fits 1, fits 2, fits 3); is = sym (le_bytes_4 bytes (from_le_bytes w32 bytes) len fits refl) }

-- and fewer begin one
pub number_begun : (bytes : List ℕ) → IsBytes bytes → length bytes < 4 → Begins SpellsNumber bytes
number_begun bytes fits few =
    let more = zeros (4 - length bytes) in
    let len : length (bytes ++ more) ≡ 4 = omega (arith, length-append bytes more, length-zeros (4 - length bytes)) in
    record { value = from_le_bytes w32 (bytes ++ more); text = bytes ++ more; spells = four_bytes (bytes ++ more) (IsBytes-append bytes more fits (IsBytes-zeros (4 - length bytes))) len; rest = more; whole = refl }

pub number_taken : (p q : Place) (n : ℕ) → IsBytes p.rest → number_at w32 p ≡ Ok (n, q) → Takes SpellsNumber p n q
number_taken p q n bytes e =
    let g = guard_ok (ltb (length p.rest) 4) (Short p.at) (from_le_bytes w32 (take 4 p.rest), place (p.at + 4) (drop 4 p.rest)) (n, q) e in
    let long : 4 ≤ length p.rest = ltb-false _ _ g.0 in
    let len : length (take 4 p.rest) ≡ 4 = omega (arith, length-take 4 p.rest) in
    subst (λ (got : ℕ × Place). Takes SpellsNumber p got.0 got.1) g.1
    (record { text = take 4 p.rest; spells = four_bytes (take 4 p.rest) (IsBytes-take 4 p.rest bytes) len; parts = sym (take-append-drop 4 p.rest); moved = omega (arith, len); bytes = IsBytes-drop 4 p.rest bytes })

text_again : (at n : ℕ) (text rest : List ℕ) → length text ≡ 4 → from_le_bytes w32 text ≡ n → number_at w32 (place at (text ++ rest)) ≡ Ok (n, place (at + 4) rest)
text_again at n text rest len is =
    let long : ltb (length (text ++ rest)) 4 ≡ false = le-ltb _ _ (omega (arith, length-append text rest)) in
    rw (long, take_at text rest 4 len, drop_at text rest 4 len, is) refl

pub number_again : (at n : ℕ) (text rest : List ℕ) → SpellsNumber n text → number_at w32 (place at (text ++ rest)) ≡ Ok (n, place (at + length text) rest)
number_again at n text rest s =
    let len : length text ≡ 4 = ap length s.is in
    let back : from_le_bytes w32 text ≡ n = ap (from_le_bytes w32) s.is ∙ from_le_bytes-to_le_bytes_4 n s.fits in
    rw len (text_again at n text rest len back)

number_fault : (p : Place) (e : WireRefused) → IsBytes p.rest → number_at w32 p ≡ Err e → Fault SpellsNumber p e
number_fault p e bytes is =
    let g = guard_err (ltb (length p.rest) 4) (Short p.at) e (from_le_bytes w32 (take 4 p.rest), place (p.at + 4) (drop 4 p.rest)) is in
    subst (Fault SpellsNumber p) g.1 (record { from = omega arith; to = omega arith; begins = number_begun p.rest bytes (ltb-true _ _ g.0) })

pub number_format : IsFormat (number_at w32) SpellsNumber
number_format = record {
  reads = record { takes = number_taken; again = number_again };
  some = number_begun [] (IsBytes-zeros 0) (omega arith);
  faults = number_fault;
}

-- ---- a mark

abbrev pub SpellsMark : Bool → List ℕ → Type 0
SpellsMark = Spells (λ _. Unit {0}) mark

abbrev marking : ℕ → List ℕ → Result (Bool × Place) WireRefused
marking at rest = first_of at rest >>= λ byte. marked_by at byte.0 >>= λ is. Ok (is, byte.1)

mark_read : (at : ℕ) (rest : List ℕ) (is : Bool) → IsBytes rest → Takes SpellsMark (place at (mark is ++ rest)) is (place (at + 1) rest)
mark_read at rest true bytes = record { text = mark true; spells = record { fits = tt; is = refl }; parts = refl; moved = refl; bytes = bytes }
mark_read at rest false bytes = record { text = mark false; spells = record { fits = tt; is = refl }; parts = refl; moved = refl; bytes = bytes }

mark_taken : (at : ℕ) (rest : List ℕ) (q : Place) (is : Bool) → IsBytes rest → marking at rest ≡ gives is q → Takes SpellsMark (place at rest) is q
mark_taken at [] q is bytes e = absurd cc
mark_taken at (zero ∷ rest) q is bytes e =
    subst (λ (got : Bool × Place). Takes SpellsMark (place at (0 ∷ rest)) got.0 got.1) (ok_is (false, place (at + 1) rest) (is, q) e) (mark_read at rest false (IsBytes-rest 0 rest bytes))
mark_taken at (suc zero ∷ rest) q is bytes e =
    subst (λ (got : Bool × Place). Takes SpellsMark (place at (1 ∷ rest)) got.0 got.1) (ok_is (true, place (at + 1) rest) (is, q) e) (mark_read at rest true (IsBytes-rest 1 rest bytes))
mark_taken at (suc (suc b) ∷ rest) q is bytes e = absurd cc

mark_again : (at : ℕ) (is : Bool) (rest : List ℕ) → marking at (mark is ++ rest) ≡ Ok (is, place (at + length (mark is)) rest)
mark_again at true rest = refl
mark_again at false rest = refl

mark_some : Begins SpellsMark []
mark_some = record { value = false; text = mark false; spells = record { fits = tt; is = refl }; rest = mark false; whole = refl }

no_mark : (b : ℕ) (is : Bool) (t u : List ℕ) → suc (suc b) ∷ t ≡ mark is ++ u → ⊥
no_mark b true t u same = absurd (let first : suc (suc b) ≡ 1 = cc in omega (arith, first))
no_mark b false t u same = absurd (let first : suc (suc b) ≡ 0 = cc in omega (arith, first))

mark_fault : (at : ℕ) (rest : List ℕ) (e : WireRefused) → marking at rest ≡ Err e → Fault SpellsMark (place at rest) e
mark_fault at [] e is = no_byte SpellsMark mark_some at [] e (let same : Short at ≡ e = cc in ap Err same)
mark_fault at (zero ∷ rest) e is = absurd cc
mark_fault at (suc zero ∷ rest) e is = absurd cc
mark_fault at (suc (suc b) ∷ rest) e is =
    let same : Tag at ≡ e = cc in
    subst (Fault SpellsMark (place at (suc (suc b) ∷ rest))) same
    (record { before = 0; is_at = sym (add-zero at); within = omega arith; begins = mark_some; no_more = λ c text t u s whole. no_mark b c t u (whole ∙ ap (λ (w : List ℕ). w ++ u) s.is) })

pub mark_format : IsFormat mark_at SpellsMark
unfolding mark_at
mark_format = record {
  reads = record {
    takes = λ p q is bytes e. mark_taken p.at p.rest q is bytes e;
    again = λ at is text rest s. rw s.is (mark_again at is rest);
  };
  some = mark_some;
  faults = λ p e bytes is. mark_fault p.at p.rest e is;
}
