-- The members of a row, one after the other, are a format.
use Rattle.std.proofs.Common.{◌≡◌, ℕ, zero, suc, ◌+◌, ◌<◌, ◌≤◌, true, List, [], ◌∷◌, ◌++◌, length, map, Ok, refl, sym, ap, subst, ◌∙◌, append_assoc, length-append, arith}
use Rattle.std.specs.List.{flat_map}
use Rattle.std.proofs.lemmas.Bool.{not-true, not_from_false}
use Rattle.std.proofs.lemmas.List.{length-map, append-nil}
use Rattle.std.proofs.lemmas.List.Concat.{flat_map-cons}
use Rattle.partition_table.specs.declared.RowMember.{RowMember}
use Rattle.partition_table.specs.Rows.{number_of}
use Rattle.partition_table.specs.RowFacts.{are_distinct}
use Rattle.wire_parts.specs.Parts.{◌>>=◌, mark_at, mark}
use Rattle.member_wire.specs.Reading.{fitting_at, is_new, member_at, members_at}
use Rattle.member_wire.specs.Spelling.{member_bytes}
use Rattle.wire_parts.proofs.Formats.{IsFormat, Spells, said_as}
use Rattle.wire_parts.proofs.Following.{Follows, followed, IsDone, ended, Made, made}
use Rattle.wire_parts.proofs.PartFormats.{SpellsMark, mark_format}
use Rattle.member_wire.proofs.NewNumbers.{fresh}
use Rattle.member_wire.proofs.Members.{NewMember, AllNew, AllBytes, bytes_of_new, distinct_of_new, all_new}
use Rattle.member_wire.proofs.FittingFormat.{SpellsFitting, fitting_format}

-- ---- a member of a row

abbrev pub SpellsMember : List RowMember → RowMember → List ℕ → Type 0
SpellsMember listed = Spells (NewMember listed) member_bytes

-- a number, and whether it may lead
abbrev MemberParts : List RowMember → RowMember → List ℕ → Type 0
MemberParts listed = Follows (SpellsFitting (is_new listed)) (λ m. Made (λ b. record { member = m; eligible = b }) SpellsMark)

to_member : (listed : List RowMember) (r : RowMember) (text : List ℕ) → MemberParts listed r text → SpellsMember listed r text
to_member listed r text s =
    let is : r ≡ record { member = s.first; eligible = s.is_back.first } = s.is_back.value in
    subst (λ (x : RowMember). SpellsMember listed x text) (sym is) (record { fits = (s.is_front.fits.0, not-true _ s.is_front.fits.1); is = rw (s.whole, s.is_front.is, s.is_back.spells.is) refl })

from_member : (listed : List RowMember) (r : RowMember) (text : List ℕ) → SpellsMember listed r text → MemberParts listed r text
from_member listed r text s = record {
  first = r.member;
  front = r.member ∷ [];
  back = mark r.eligible;
  is_front = record { fits = (s.fits.0, not_from_false _ s.fits.1); is = refl };
  is_back = record { first = r.eligible; spells = record { fits = tt; is = refl }; value = refl };
  whole = s.is;
}

pub member_format : (listed : List RowMember) → length listed < 256 → IsFormat (member_at listed) (SpellsMember listed)
unfolding member_at
member_format listed few =
    let new = fresh 256 (map number_of listed) (rw length-map few) in
    said_as (member_at listed) (MemberParts listed) (SpellsMember listed) (to_member listed) (from_member listed)
    (followed (fitting_at (is_new listed)) (SpellsFitting (is_new listed)) (λ m p. mark_at p >>= λ b. Ok (record { member = m; eligible = b.0 }, b.1)) (λ m. Made (λ b. record { member = m; eligible = b }) SpellsMark)
    (fitting_format (is_new listed) (new.0, new.1, not_from_false _ new.2))
    (λ m text s. made (λ b. record { member = m; eligible = b }) mark_at SpellsMark mark_format))

-- ---- the members of a row

abbrev MembersAfter : List RowMember → ℕ → List RowMember → List ℕ → Type 0
MembersAfter listed zero = IsDone listed
MembersAfter listed (suc n) = Follows (SpellsMember listed) (λ r. MembersAfter (listed ++ r ∷ []) n)

members_after : (n : ℕ) (listed : List RowMember) → length listed + n ≤ 256 → IsFormat (members_at listed n) (MembersAfter listed n)
unfolding members_at
members_after zero listed few = ended listed
members_after (suc n) listed few =
    let rest = members_after n in
    followed (member_at listed) (SpellsMember listed) (λ r. members_at (listed ++ r ∷ []) n) (λ r. MembersAfter (listed ++ r ∷ []) n)
    (member_format listed (omega (arith, few)))
    (λ r text s. rest (listed ++ r ∷ []) (omega (arith, few, length-append listed (r ∷ []))))

-- what so many members behind these are
record Behind (listed : List RowMember) (n : ℕ) (rs : List RowMember) (text : List ℕ) : Type 0 where
  more : List RowMember
  is : rs ≡ listed ++ more
  count : length more ≡ n
  new : AllNew listed more
  spelled : text ≡ flat_map member_bytes more

to_behind : (n : ℕ) (listed rs : List RowMember) (text : List ℕ) → MembersAfter listed n rs text → Behind listed n rs text
to_behind zero listed rs text s = record { more = []; is = s.value ∙ sym (append-nil listed); count = refl; new = tt; spelled = s.empty }
to_behind (suc n) listed rs text s =
    let later = to_behind n (listed ++ s.first ∷ []) rs s.back s.is_back in
    record {
      more = s.first ∷ later.more;
      is = later.is ∙ append_assoc listed (s.first ∷ []) later.more;
      count = ap suc later.count;
      new = (s.is_front.fits, later.new);
      spelled = s.whole ∙ ap (λ (w : List ℕ). w ++ s.back) s.is_front.is ∙ ap (λ (w : List ℕ). member_bytes s.first ++ w) later.spelled ∙ sym (flat_map-cons member_bytes s.first later.more);
    }

from_behind : (more listed : List RowMember) → AllNew listed more → MembersAfter listed (length more) (listed ++ more) (flat_map member_bytes more)
from_behind [] listed new = record { value = append-nil listed; empty = refl }
from_behind (r ∷ more) listed new =
    let later = from_behind more (listed ++ r ∷ []) new.1 in
    record {
      first = r;
      front = member_bytes r;
      back = flat_map member_bytes more;
      is_front = record { fits = new.0; is = refl };
      is_back = subst (λ rs. MembersAfter (listed ++ r ∷ []) (length more) rs (flat_map member_bytes more)) (append_assoc listed (r ∷ []) more) later;
      whole = flat_map-cons member_bytes r more;
    }

-- so many members, each once
pub record Listing (n : ℕ) (rs : List RowMember) : Type 0 where
  pub count : length rs ≡ n
  pub bytes : AllBytes rs
  pub distinct : are_distinct (map number_of rs) ≡ true

abbrev pub SpellsMembers : ℕ → List RowMember → List ℕ → Type 0
SpellsMembers n = Spells (Listing n) (flat_map member_bytes)

to_members : (n : ℕ) (rs : List RowMember) (text : List ℕ) → MembersAfter [] n rs text → SpellsMembers n rs text
to_members n rs text s =
    let b = to_behind n [] rs text s in
    subst (λ xs. SpellsMembers n xs text) (sym b.is)
    (record { fits = record { count = b.count; bytes = bytes_of_new [] b.more b.new; distinct = (distinct_of_new [] b.more b.new).0 }; is = b.spelled })

from_members : (n : ℕ) (rs : List RowMember) (text : List ℕ) → SpellsMembers n rs text → MembersAfter [] n rs text
from_members n rs text s =
    subst (λ k. MembersAfter [] k rs text) s.fits.count
    (subst (λ t. MembersAfter [] (length rs) rs t) (sym s.is) (from_behind rs [] (all_new rs s.fits.bytes s.fits.distinct)))

pub members_format : (n : ℕ) → n ≤ 256 → IsFormat (members_at [] n) (SpellsMembers n)
members_format n few = said_as (members_at [] n) (MembersAfter [] n) (SpellsMembers n) (to_members n) (from_members n) (members_after n [] (omega (arith, few)))
