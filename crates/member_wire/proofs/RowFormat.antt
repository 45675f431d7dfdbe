-- Rows are a format.
use Rattle.std.proofs.Common.{◌≡◌, ℕ, ◌≤◌, Bool, true, false, ltb, leb, List, [], ◌∷◌, ◌++◌, length, Ok, refl, sym, ap, subst, ◌∙◌, arith}
use Rattle.std.specs.List.{flat_map}
use Rattle.std.specs.Int.{w32}
use Rattle.std.proofs.lemmas.Bool.{and_parts, leb-true}
use Rattle.std.proofs.lemmas.Bool.Decides.{nat_tests}
use Rattle.partition_table.specs.declared.Row.{Row}
use Rattle.partition_table.specs.declared.RowMember.{RowMember}
use Rattle.wire_parts.specs.Parts.{◌>>=◌, IsByte, number_at, number, mark_at, mark}
use Rattle.member_wire.specs.Reading.{fitting_at, members_at, row_at}
use Rattle.member_wire.specs.Spelling.{is_count, IsSpelledRow, member_bytes, row_bytes}
use Rattle.wire_parts.proofs.Formats.{IsFormat, Spells, said_as}
use Rattle.wire_parts.proofs.Following.{Follows, followed, Made, made}
use Rattle.wire_parts.proofs.PartFormats.{SpellsNumber, number_format, SpellsMark, mark_format}
use Rattle.member_wire.proofs.FittingFormat.{SpellsFitting, fitting_format}
use Rattle.member_wire.proofs.MembersFormat.{SpellsMembers, members_format}

-- ---- a row

abbrev row_of : ℕ → ℕ → Bool → List RowMember → Row
row_of version reset lost members = record { version = version; reset = reset; lost = lost; members = members }

abbrev RowParts : Row → List ℕ → Type 0
RowParts = Follows SpellsNumber (λ v. Follows SpellsNumber (λ r. Follows SpellsMark (λ l. Follows (SpellsFitting (is_count l)) (λ n. Made (row_of v r l) (SpellsMembers n)))))

pub both : {a b c d : List ℕ} → a ≡ b → c ≡ d → a ++ c ≡ b ++ d
both {a} {b} {c} {d} one two = ap (λ (x : List ℕ). x ++ c) one ∙ ap (λ (x : List ℕ). b ++ x) two

some_count : (lost : Bool) → (n : ℕ) × IsByte n × (is_count lost n ≡ true)
some_count true = (0, omega arith, refl)
some_count false = (1, omega arith, refl)

pub few_members : (lost : Bool) (n : ℕ) → is_count lost n ≡ true → IsByte n
few_members true n e = let none : n ≡ 0 = grind (arith, nat_tests) in omega (arith, none)
few_members false n e = let few = and_parts (ltb 0 n) (leb n 8) e in let most : n ≤ 8 = leb-true _ _ few.1 in omega (arith, most)

parts_format : IsFormat row_at RowParts
unfolding row_at
parts_format =
    followed (number_at w32) SpellsNumber
    (λ v p. number_at w32 p >>= λ r. mark_at r.1 >>= λ l. fitting_at (is_count l.0) l.1 >>= λ n. members_at [] n.0 n.1 >>= λ ms. Ok (row_of v r.0 l.0 ms.0, ms.1))
    (λ v. Follows SpellsNumber (λ r. Follows SpellsMark (λ l. Follows (SpellsFitting (is_count l)) (λ n. Made (row_of v r l) (SpellsMembers n))))) number_format
    (λ v tv sv. followed (number_at w32) SpellsNumber
    (λ r p. mark_at p >>= λ l. fitting_at (is_count l.0) l.1 >>= λ n. members_at [] n.0 n.1 >>= λ ms. Ok (row_of v r l.0 ms.0, ms.1))
    (λ r. Follows SpellsMark (λ l. Follows (SpellsFitting (is_count l)) (λ n. Made (row_of v r l) (SpellsMembers n)))) number_format
    (λ r tr sr. followed mark_at SpellsMark
    (λ l p. fitting_at (is_count l) p >>= λ n. members_at [] n.0 n.1 >>= λ ms. Ok (row_of v r l ms.0, ms.1))
    (λ l. Follows (SpellsFitting (is_count l)) (λ n. Made (row_of v r l) (SpellsMembers n))) mark_format
    (λ l tl sl. followed (fitting_at (is_count l)) (SpellsFitting (is_count l))
    (λ n p. members_at [] n p >>= λ ms. Ok (row_of v r l ms.0, ms.1))
    (λ n. Made (row_of v r l) (SpellsMembers n)) (fitting_format (is_count l) (some_count l))
    (λ n tn sn. made (row_of v r l) (members_at [] n) (SpellsMembers n) (members_format n (omega (arith, sn.fits.0)))))))

abbrev pub SpellsRow : Row → List ℕ → Type 0
SpellsRow = Spells IsSpelledRow row_bytes

to_row : (row : Row) (text : List ℕ) → RowParts row text → SpellsRow row text
to_row row text v =
    let r = v.is_back in
    let l = r.is_back in
    let n = l.is_back in
    let ms = n.is_back in
    let value : row ≡ row_of v.first r.first l.first ms.first = ms.value in
    let count : is_count l.first (length ms.first) ≡ true = rw ms.spells.fits.count n.is_front.fits.1 in
    let members : n.back ≡ flat_map member_bytes ms.first = ms.spells.is in
    let first : n.front ≡ length ms.first ∷ [] = n.is_front.is ∙ ap (λ (k : ℕ). k ∷ []) (sym ms.spells.fits.count) in
    let spelled : text ≡ number v.first ++ (number r.first ++ (mark l.first ++ ((length ms.first ∷ []) ++ flat_map member_bytes ms.first))) =
    v.whole ∙ both v.is_front.is (r.whole ∙ both r.is_front.is (l.whole ∙ both l.is_front.is (n.whole ∙ both first members))) in
    subst (λ (x : Row). SpellsRow x text) (sym value)
    (record { fits = record { version = v.is_front.fits; reset = r.is_front.fits; count = count; members = ms.spells.fits.bytes; distinct = ms.spells.fits.distinct }; is = spelled })

from_row : (row : Row) (text : List ℕ) → SpellsRow row text → RowParts row text
from_row row text s =
    let fits = s.fits in
    let members = flat_map member_bytes row.members in
    let count = length row.members ∷ [] in
    record {
      first = row.version;
      front = number row.version;
      back = number row.reset ++ (mark row.lost ++ (count ++ members));
      is_front = record { fits = fits.version; is = refl };
      is_back = record {
        first = row.reset;
        front = number row.reset;
        back = mark row.lost ++ (count ++ members);
        is_front = record { fits = fits.reset; is = refl };
        is_back = record {
          first = row.lost;
          front = mark row.lost;
          back = count ++ members;
          is_front = record { fits = tt; is = refl };
          is_back = record {
            first = length row.members;
            front = count;
            back = members;
            is_front = record { fits = (few_members row.lost (length row.members) fits.count, fits.count); is = refl };
            is_back = record { first = row.members; spells = record { fits = record { count = refl; bytes = fits.members; distinct = fits.distinct }; is = refl }; value = refl };
            whole = refl;
          };
          whole = refl;
        };
        whole = refl;
      };
      whole = s.is;
    }

pub row_format : IsFormat row_at SpellsRow
row_format = said_as row_at RowParts SpellsRow to_row from_row parts_format
