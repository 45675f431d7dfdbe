-- Values that were read have their fields' forms.
use Rattle.std.proofs.Common.{◌≡◌, ℕ, ◌≤◌, ◌&&◌, Bool, true, false, cond, nat_le, List, [], ◌∷◌, length, Option, Some, None, option_and_then, Result, Ok, Err, refl, sym, subst, arith, codes}
use Rattle.std.proofs.lemmas.Bool.Decides.{nat_tests}
use Rattle.script_lang.specs.Words.{are_same, number_of, number_within, bytes_of}
use Rattle.script_lang.specs.Lines.{Range, range_of, number_value, hex_value, value_of, values_of, ◌>>=◌}
use Rattle.script_lang.specs.Readings.{IsIn, Fits, Fit}
use Rattle.script_lang.proofs.Steps.{both_read}
use Rattle.script_lang.specs.declared.fields.Field.{Field}
use Rattle.script_lang.specs.declared.fields.Field.TheVariants.{Members, Backups, Capacity, Connection, Member, LinkEnd, Partition, PartitionOrAll, Place, Moment, Deliveries, Steps, Entries, Amount, Hex as HexField}
use Rattle.script_lang.specs.declared.reading.Value.{Value}
use Rattle.script_lang.specs.declared.reading.Value.TheVariants as Values
use Rattle.script_lang.specs.declared.refusal.LineWhy.{LineWhy}
use Rattle.script_lang.specs.declared.refusal.LineWhy.TheVariants.{Number, Hex}

-- a number that was read is in its range
number_within-in : (least most : ℕ) (number : Option ℕ) (n : ℕ) → option_and_then (λ n. cond (nat_le least n && nat_le n most) (Some n) None) number ≡ Some n → (least ≤ n) × (n ≤ most)
number_within-in least most None n e = absurd (let no : ◌≡◌ {A = Option ℕ} None (Some n) = e in cc)
number_within-in least most (Some m) n e = either (nat_le least m && nat_le m most) refl e
  where
    either : (b : Bool) → nat_le least m && nat_le m most ≡ b → cond b (Some m) None ≡ Some n → (least ≤ n) × (n ≤ most)
    either true is e = let same : m ≡ n = cc in (grind (arith, nat_tests), grind (arith, nat_tests))
    either false is e = absurd (let no : ◌≡◌ {A = Option ℕ} None (Some n) = e in cc)

-- a value that is read as a number is one in its range
pub record IsNumber (range : Range) (value : Value) : Type 0 where
  pub number : ℕ
  pub is : value ≡ Values.Number number
  pub within : IsIn range number

abbrev as_number : Option ℕ → Result Value LineWhy
as_number number = elim number [ None ↦ Err Number | Some n ↦ Ok (Values.Number n) ]

as_number-read : (range : Range) (word : List ℕ) (value : Value) (number : Option ℕ) → number_within range.least range.most word ≡ number → as_number number ≡ Ok value → IsNumber range value
as_number-read range word value None is e = absurd (let no : ◌≡◌ {A = Result Value LineWhy} (Err Number) (Ok value) = e in cc)
as_number-read range word value (Some n) is e =
    let read : ◌≡◌ {A = Result Value LineWhy} (Ok (Values.Number n)) (Ok value) = e in
    record {
      number = n;
      is = let same : value ≡ Values.Number n = cc in same;
      within = number_within-in range.least range.most (number_of word) n is;
    }

number_value-read : (range : Range) (word : List ℕ) (value : Value) → number_value range word ≡ Ok value → IsNumber range value
number_value-read range word value e = as_number-read range word value (number_within range.least range.most word) refl e

Fits-number : (members : ℕ) (field : Field) (word : List ℕ) (value : Value) → ((n : ℕ) → IsIn (range_of members field) n → Fits members field (Values.Number n))
    → number_value (range_of members field) word ≡ Ok value → Fits members field value
Fits-number members field word value fits e =
    let read = number_value-read (range_of members field) word value e in
    subst (Fits members field) (sym read.is) (fits read.number read.within)

abbrev as_bytes : Option (List ℕ) → Result Value LineWhy
as_bytes bytes = elim bytes [ None ↦ Err Hex | Some b ↦ Ok (Values.Bytes b) ]

-- a word of bytes is no other value
not_hex : (bytes : Option (List ℕ)) (value : Value) → ((b : List ℕ) → Values.Bytes b ≡ value → ⊥) → as_bytes bytes ≡ Ok value → ⊥
not_hex None value other e = let no : ◌≡◌ {A = Result Value LineWhy} (Err Hex) (Ok value) = e in cc
not_hex (Some b) value other e = let read : ◌≡◌ {A = Result Value LineWhy} (Ok (Values.Bytes b)) (Ok value) = e in other b cc

Fits-hex : (members : ℕ) (word : List ℕ) (value : Value) → hex_value word ≡ Ok value → Fits members HexField value
Fits-hex members word (Values.Bytes bytes) e = tt
Fits-hex members word (Values.Number n) e = absurd (not_hex (bytes_of word) (Values.Number n) (λ bytes e. cc) e)
Fits-hex members word Values.All e = absurd (not_hex (bytes_of word) Values.All (λ bytes e. cc) e)

Fits-all : (members : ℕ) (word : List ℕ) (value : Value) (b : Bool) → cond b (Ok Values.All) (number_value (range_of members PartitionOrAll) word) ≡ Ok value → Fits members PartitionOrAll value
Fits-all members word value true e = subst (Fits members PartitionOrAll) (let same : Values.All ≡ value = cc in same) tt
Fits-all members word value false e = Fits-number members PartitionOrAll word value (λ n is. is) e

pub Fits-value_of : (members : ℕ) (field : Field) (word : List ℕ) (value : Value) → value_of members field word ≡ Ok value → Fits members field value
Fits-value_of members HexField word value e = Fits-hex members word value e
Fits-value_of members PartitionOrAll word value e = Fits-all members word value (are_same word (codes "all")) e
Fits-value_of members Members word value e = Fits-number members Members word value (λ n is. is) e
Fits-value_of members Backups word value e = Fits-number members Backups word value (λ n is. is) e
Fits-value_of members Capacity word value e = Fits-number members Capacity word value (λ n is. is) e
Fits-value_of members Connection word value e = Fits-number members Connection word value (λ n is. is) e
Fits-value_of members Member word value e = Fits-number members Member word value (λ n is. is) e
Fits-value_of members LinkEnd word value e = Fits-number members LinkEnd word value (λ n is. is) e
Fits-value_of members Partition word value e = Fits-number members Partition word value (λ n is. is) e
Fits-value_of members Place word value e = Fits-number members Place word value (λ n is. is) e
Fits-value_of members Moment word value e = Fits-number members Moment word value (λ n is. is) e
Fits-value_of members Deliveries word value e = Fits-number members Deliveries word value (λ n is. is) e
Fits-value_of members Steps word value e = Fits-number members Steps word value (λ n is. is) e
Fits-value_of members Entries word value e = Fits-number members Entries word value (λ n is. is) e
Fits-value_of members Amount word value e = Fits-number members Amount word value (λ n is. is) e

-- each value has its field's form
pub Fit-values_of : (members : ℕ) (fields : List Field) (words : List (List ℕ)) (values : List Value) → length words ≡ length fields → values_of members fields words ≡ Ok values → Fit members fields values
Fit-values_of members [] [] values same e = subst (Fit members []) (let none : [] ≡ values = cc in none) tt
Fit-values_of members [] (word ∷ words) values same e = absurd (omega (arith, same))
Fit-values_of members (field ∷ fields) [] values same e = absurd (omega (arith, same))
Fit-values_of members (field ∷ fields) (word ∷ words) values same e =
    let first = both_read (value_of members field word) (λ (value : Value). values_of members fields words >>= (λ (rest : List Value). Ok (value ∷ rest))) values e in
    let others = both_read (values_of members fields words) (λ (rest : List Value). Ok (first.0 ∷ rest)) values first.2 in
    let whole : ◌≡◌ {A = Result (List Value) LineWhy} (Ok (first.0 ∷ others.0)) (Ok values) = others.2 in
    subst (Fit members (field ∷ fields)) (let is : first.0 ∷ others.0 ≡ values = cc in is)
    (Fits-value_of members field word first.0 first.1, Fit-values_of members fields words others.0 (omega (arith, same)) others.1)

-- What fits a grid fits a greater one.
Fits-greater : (members more : ℕ) → members ≤ more → (field : Field) (value : Value) → Fits members field value → Fits more field value
Fits-greater members more le Member (Values.Number n) fits = (omega arith, omega (arith, fits.1))
Fits-greater members more le LinkEnd (Values.Number n) fits = (omega arith, omega (arith, fits.1))
Fits-greater members more le field value fits = fits

pub Fit-greater : (members more : ℕ) → members ≤ more → (fields : List Field) (values : List Value) → Fit members fields values → Fit more fields values
Fit-greater members more le [] [] fit = tt
Fit-greater members more le [] (value ∷ values) fit = absurd fit
Fit-greater members more le (field ∷ fields) [] fit = absurd fit
Fit-greater members more le (field ∷ fields) (value ∷ values) fit = (Fits-greater members more le field value fit.0, Fit-greater members more le fields values fit.1)
