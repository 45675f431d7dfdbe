-- Messages are a format: a kind, and the fields of that kind.
use Rattle.std.proofs.Common.{◌≡◌, ℕ, ◌+◌, Bool, true, ◌==◌, List, [], ◌∷◌, ◌++◌, length, take, Option, Some, None, Result, Ok, Err, refl, sym, ap, subst, ◌∙◌, ⊎_elim, append_assoc, length-append, add-zero, arith}
use Rattle.std.specs.List.{find}
use Rattle.std.specs.Int.{w32}
use Rattle.std.proofs.lemmas.Bool.{cond_both}
use Rattle.std.proofs.lemmas.Bool.Decides.{nat_tests}
use Rattle.member_wire.specs.declared.kind.Kind.{Kind}
use Rattle.member_wire.specs.declared.kind.Kind.TheVariants as kinds
use Rattle.member_wire.specs.declared.message.MemberMessage.{MemberMessage}
use Rattle.member_wire.specs.declared.message.MemberMessage.TheVariants as said
use Rattle.wire_parts.specs.declared.refusal.WireRefused.{WireRefused}
use Rattle.wire_parts.specs.declared.refusal.WireRefused.TheVariants.{Tag}
use Rattle.wire_parts.specs.Places.{Place}
use Rattle.wire_parts.specs.Parts.{◌>>=◌, byte_at, number_at, number, sized_at, sized}
use Rattle.member_wire.specs.Kinds.{kind_byte, kind_of, all_kinds}
use Rattle.member_wire.specs.Reading.{row_at, row_message_at, sync_at, effect_at, ack_at, joined_at, freeze_at, frozen_at, bridge_at, known_kind, kind_at, fields_at, message_at}
use Rattle.member_wire.specs.Spelling.{row_bytes, kind_of_message, field_bytes, spelling, IsSpelled}
use Rattle.wire_parts.proofs.Formats.{IsBytes, place, ok_is, Begins, BeginsNone, FailsAt, Fault, Takes, IsFormat, Spells, said_as}
use Rattle.wire_parts.proofs.Following.{bind_ok, bind_err, Follows, followed, Made, made}
use Rattle.wire_parts.proofs.PartFormats.{SpellsByte, byte_format, no_byte, SpellsNumber, number_format}
use Rattle.wire_parts.proofs.SizedFormat.{SpellsSized, sized_format}
use Rattle.member_wire.proofs.RowFormat.{SpellsRow, row_format, both}

-- ---- the kind

abbrev SpellsKind : Kind → List ℕ → Type 0
SpellsKind = Spells (λ _. Unit {0}) (λ kind. kind_byte kind ∷ [])

find_passes : (fits : Kind → Bool) (ks : List Kind) (k : Kind) → find fits ks ≡ Some k → fits k ≡ true
find_passes fits [] k found = cc
find_passes fits (x ∷ ks) k found =
    let later = find_passes fits ks k in
    cond_both (fits x) (Some x) (find fits ks) (λ o. o ≡ Some k → fits k ≡ true) (λ passes e. let same : k ≡ x = cc in ap fits same ∙ passes) (λ _ e. later e) found

byte_of_kind : (byte : ℕ) (k : Kind) → kind_of byte ≡ Some k → byte ≡ kind_byte k
byte_of_kind byte k e = let same = find_passes (λ kind. kind_byte kind == byte) all_kinds k e in grind (arith, nat_tests)

kind_of_byte : (k : Kind) → kind_of (kind_byte k) ≡ Some k
kind_of_byte kinds.NewRow = refl
kind_of_byte kinds.Sync = refl
kind_of_byte kinds.Effect = refl
kind_of_byte kinds.Ack = refl
kind_of_byte kinds.Joined = refl
kind_of_byte kinds.Freeze = refl
kind_of_byte kinds.Frozen = refl
kind_of_byte kinds.Bridge = refl

known_ok : (at : ℕ) (o : Option Kind) (p q : Place) (k : Kind) → known_kind at o p ≡ Ok (k, q) → (o ≡ Some k) × (p ≡ q)
known_ok at None p q k e = absurd cc
known_ok at (Some kind) p q k e =
    let pair = ok_is (kind, p) (k, q) e in
    (ap (λ (got : Kind × Place). Some got.0) pair, ap (λ (got : Kind × Place). got.1) pair)

known_err : (at : ℕ) (o : Option Kind) (p : Place) (e : WireRefused) → known_kind at o p ≡ Err e → (o ≡ None) × (Tag at ≡ e)
known_err at None p e is = (refl, cc)
known_err at (Some kind) p e is = absurd cc

some_kind : Begins SpellsKind []
some_kind = record { value = kinds.NewRow; text = 1 ∷ []; spells = record { fits = tt; is = refl }; rest = 1 ∷ []; whole = refl }

kind_taken : (p q : Place) (k : Kind) → IsBytes p.rest → kind_at p ≡ Ok (k, q) → Takes SpellsKind p k q
kind_taken p q k are e =
    let x = bind_ok (byte_at p) (λ byte. known_kind p.at (kind_of byte.0) byte.1) (k, q) e in
    let t = byte_format.reads.takes p x.0.1 x.0.0 are x.1 in
    let known = known_ok p.at (kind_of x.0.0) x.0.1 q k x.2 in
    subst (Takes SpellsKind p k) known.1
    (record { text = t.text; spells = record { fits = tt; is = t.spells.is ∙ ap (λ (b : ℕ). b ∷ []) (byte_of_kind x.0.0 k known.0) }; parts = t.parts; moved = t.moved; bytes = t.bytes })

kind_again : (at : ℕ) (k : Kind) (text rest : List ℕ) → SpellsKind k text → kind_at (place at (text ++ rest)) ≡ Ok (k, place (at + length text) rest)
kind_again at k text rest s = rw (s.is, kind_of_byte k) refl

none_kind : (p q : Place) (byte : ℕ) → kind_of byte ≡ None → Takes SpellsByte p byte q → BeginsNone SpellsKind (take 1 p.rest)
none_kind p q byte none t c text u w s same =
    let front : take 1 p.rest ≡ byte ∷ [] = ap (take 1) (t.parts ∙ ap (λ (x : List ℕ). x ++ q.rest) t.spells.is) in
    let whole : byte ∷ u ≡ kind_byte c ∷ w = ap (λ (x : List ℕ). x ++ u) (sym front) ∙ same ∙ ap (λ (x : List ℕ). x ++ w) s.is in
    let one : byte ≡ kind_byte c = cc in
    let clash : None ≡ Some c = sym none ∙ ap kind_of one ∙ kind_of_byte c in
    absurd cc

no_kind : (p q : Place) (byte : ℕ) → kind_of byte ≡ None → Takes SpellsByte p byte q → FailsAt SpellsKind p p.at
no_kind p q byte none t = record {
  before = 0;
  is_at = sym (add-zero p.at);
  within = omega (arith, ap length t.parts, length-append t.text q.rest, ap length t.spells.is);
  begins = some_kind;
  no_more = none_kind p q byte none t;
}

kind_fault : (p : Place) (e : WireRefused) → IsBytes p.rest → kind_at p ≡ Err e → Fault SpellsKind p e
kind_fault p e are is =
    ⊎_elim (λ first. no_byte SpellsKind some_kind p.at p.rest e first)
    (λ second.
    let t = byte_format.reads.takes p second.0.1 second.0.0 are second.1 in
    let known = known_err p.at (kind_of second.0.0) second.0.1 e second.2 in
    subst (Fault SpellsKind p) known.1 (no_kind p second.0.1 second.0.0 known.0 t))
    (bind_err (byte_at p) (λ byte. known_kind p.at (kind_of byte.0) byte.1) e is)

kind_format : IsFormat kind_at SpellsKind
kind_format = record { reads = record { takes = kind_taken; again = kind_again }; some = some_kind; faults = kind_fault }

-- ---- the fields

-- a number, and then what may depend on it
before_rest : {C : Type 0} (R : ℕ → Place → Result (C × Place) WireRefused) (S : ℕ → C → List ℕ → Type 0) → ((n : ℕ) → IsFormat (R n) (S n)) → IsFormat (λ p. number_at w32 p >>= λ n. R n.0 n.1) (Follows SpellsNumber S)
before_rest R S f = followed (number_at w32) SpellsNumber R S number_format (λ n text s. f n)

abbrev FieldsOf : Kind → MemberMessage → List ℕ → Type 0
FieldsOf kinds.NewRow = Made said.NewRow SpellsRow
FieldsOf kinds.Sync = Follows SpellsRow (λ row. Follows SpellsNumber (λ count. Made (said.Sync row count) SpellsSized))
FieldsOf kinds.Effect = Follows SpellsNumber (λ version. Follows SpellsNumber (λ number. Made (said.Effect version number) SpellsSized))
FieldsOf kinds.Ack = Follows SpellsNumber (λ version. Made (said.Ack version) SpellsNumber)
FieldsOf kinds.Joined = Follows SpellsNumber (λ version. Made (said.Joined version) SpellsByte)
FieldsOf kinds.Freeze = Made said.Freeze SpellsNumber
FieldsOf kinds.Frozen = Made said.Frozen SpellsNumber
FieldsOf kinds.Bridge = Follows SpellsRow (λ row. Follows SpellsNumber (λ base. Made (said.Bridge row base) SpellsNumber))

fields_format : (kind : Kind) → IsFormat (fields_at kind) (FieldsOf kind)
unfolding row_message_at sync_at effect_at ack_at joined_at freeze_at frozen_at bridge_at
fields_format kinds.NewRow = made said.NewRow row_at SpellsRow row_format
fields_format kinds.Sync =
    followed row_at SpellsRow (λ row p. number_at w32 p >>= λ count. sized_at count.1 >>= λ bytes. Ok (said.Sync row count.0 bytes.0, bytes.1))
    (λ row. Follows SpellsNumber (λ count. Made (said.Sync row count) SpellsSized)) row_format
    (λ row text s. before_rest (λ count p. sized_at p >>= λ bytes. Ok (said.Sync row count bytes.0, bytes.1)) (λ count. Made (said.Sync row count) SpellsSized)
    (λ count. made (said.Sync row count) sized_at SpellsSized sized_format))
fields_format kinds.Effect =
    before_rest (λ version p. number_at w32 p >>= λ number. sized_at number.1 >>= λ bytes. Ok (said.Effect version number.0 bytes.0, bytes.1))
    (λ version. Follows SpellsNumber (λ number. Made (said.Effect version number) SpellsSized))
    (λ version. before_rest (λ number p. sized_at p >>= λ bytes. Ok (said.Effect version number bytes.0, bytes.1)) (λ number. Made (said.Effect version number) SpellsSized)
    (λ number. made (said.Effect version number) sized_at SpellsSized sized_format))
fields_format kinds.Ack =
    before_rest (λ version p. number_at w32 p >>= λ count. Ok (said.Ack version count.0, count.1)) (λ version. Made (said.Ack version) SpellsNumber) (λ version. made (said.Ack version) (number_at w32) SpellsNumber number_format)
fields_format kinds.Joined =
    before_rest (λ version p. byte_at p >>= λ member. Ok (said.Joined version member.0, member.1)) (λ version. Made (said.Joined version) SpellsByte) (λ version. made (said.Joined version) byte_at SpellsByte byte_format)
fields_format kinds.Freeze = made said.Freeze (number_at w32) SpellsNumber number_format
fields_format kinds.Frozen = made said.Frozen (number_at w32) SpellsNumber number_format
fields_format kinds.Bridge =
    followed row_at SpellsRow (λ row p. number_at w32 p >>= λ base. number_at w32 base.1 >>= λ count. Ok (said.Bridge row base.0 count.0, count.1))
    (λ row. Follows SpellsNumber (λ base. Made (said.Bridge row base) SpellsNumber)) row_format
    (λ row text s. before_rest (λ base p. number_at w32 p >>= λ count. Ok (said.Bridge row base count.0, count.1)) (λ base. Made (said.Bridge row base) SpellsNumber)
    (λ base. made (said.Bridge row base) (number_at w32) SpellsNumber number_format))

-- ---- a message

-- what its fields are, of its kind
record IsOfKind (kind : Kind) (m : MemberMessage) (text : List ℕ) : Type 0 where
  kind_is : kind_of_message m ≡ kind
  fits : IsSpelled m
  is : text ≡ field_bytes m

three : (text a b c d e f : List ℕ) → text ≡ a ++ b → a ≡ d → b ≡ c ++ e → c ≡ f → text ≡ (d ++ f) ++ e
three text a b c d e f whole one rest two = whole ∙ both one (rest ∙ both two refl) ∙ sym (append_assoc d f e)

to_fields : (kind : Kind) (m : MemberMessage) (text : List ℕ) → FieldsOf kind m text → IsOfKind kind m text
to_fields kinds.NewRow m text s = subst (λ x. IsOfKind kinds.NewRow x text) (sym s.value) (record { kind_is = refl; fits = s.spells.fits; is = s.spells.is })
to_fields kinds.Sync m text s =
    let last = s.is_back.is_back in
    subst (λ x. IsOfKind kinds.Sync x text) (sym last.value)
    (record { kind_is = refl; fits = (s.is_front.fits, s.is_back.is_front.fits, last.spells.fits); is = three _ _ _ _ _ _ _ s.whole s.is_front.is (s.is_back.whole ∙ both refl last.spells.is) s.is_back.is_front.is })
to_fields kinds.Effect m text s =
    let last = s.is_back.is_back in
    subst (λ x. IsOfKind kinds.Effect x text) (sym last.value)
    (record { kind_is = refl; fits = (s.is_front.fits, s.is_back.is_front.fits, last.spells.fits); is = three _ _ _ _ _ _ _ s.whole s.is_front.is (s.is_back.whole ∙ both refl last.spells.is) s.is_back.is_front.is })
to_fields kinds.Ack m text s =
    subst (λ x. IsOfKind kinds.Ack x text) (sym s.is_back.value)
    (record { kind_is = refl; fits = (s.is_front.fits, s.is_back.spells.fits); is = s.whole ∙ both s.is_front.is s.is_back.spells.is })
to_fields kinds.Joined m text s =
    subst (λ x. IsOfKind kinds.Joined x text) (sym s.is_back.value)
    (record { kind_is = refl; fits = (s.is_front.fits, s.is_back.spells.fits); is = s.whole ∙ both s.is_front.is s.is_back.spells.is })
to_fields kinds.Freeze m text s = subst (λ x. IsOfKind kinds.Freeze x text) (sym s.value) (record { kind_is = refl; fits = s.spells.fits; is = s.spells.is })
to_fields kinds.Frozen m text s = subst (λ x. IsOfKind kinds.Frozen x text) (sym s.value) (record { kind_is = refl; fits = s.spells.fits; is = s.spells.is })
to_fields kinds.Bridge m text s =
    let last = s.is_back.is_back in
    subst (λ x. IsOfKind kinds.Bridge x text) (sym last.value)
    (record { kind_is = refl; fits = (s.is_front.fits, s.is_back.is_front.fits, last.spells.fits); is = three _ _ _ _ _ _ _ s.whole s.is_front.is (s.is_back.whole ∙ both refl last.spells.is) s.is_back.is_front.is })

-- a value that fits, in its one spelling
itself : {C : Type 0} {Fits : C → Type 0} (spelled : C → List ℕ) (c : C) → Fits c → Spells Fits spelled c (spelled c)
itself spelled c fits = record { fits = fits; is = refl }

from_fields : (m : MemberMessage) → IsSpelled m → FieldsOf (kind_of_message m) m (field_bytes m)
from_fields (said.NewRow row) fits = record { first = row; spells = itself row_bytes row fits; value = refl }
from_fields (said.Sync row count snapshot) fits = record {
  first = row;
  front = row_bytes row;
  back = number count ++ sized snapshot;
  is_front = itself row_bytes row fits.0;
  is_back = record {
    first = count;
    front = number count;
    back = sized snapshot;
    is_front = itself number count fits.1;
    is_back = record { first = snapshot; spells = itself sized snapshot fits.2; value = refl };
    whole = refl;
  };
  whole = append_assoc (row_bytes row) (number count) (sized snapshot);
}
from_fields (said.Effect version number' effect) fits = record {
  first = version;
  front = number version;
  back = number number' ++ sized effect;
  is_front = itself number version fits.0;
  is_back = record {
    first = number';
    front = number number';
    back = sized effect;
    is_front = itself number number' fits.1;
    is_back = record { first = effect; spells = itself sized effect fits.2; value = refl };
    whole = refl;
  };
  whole = append_assoc (number version) (number number') (sized effect);
}
from_fields (said.Ack version count) fits = record {
  first = version;
  front = number version;
  back = number count;
  is_front = itself number version fits.0;
  is_back = record { first = count; spells = itself number count fits.1; value = refl };
  whole = refl;
}
from_fields (said.Joined version member) fits = record {
  first = version;
  front = number version;
  back = member ∷ [];
  is_front = itself number version fits.0;
  is_back = record { first = member; spells = itself (λ byte. byte ∷ []) member fits.1; value = refl };
  whole = refl;
}
from_fields (said.Freeze version) fits = record { first = version; spells = itself number version fits; value = refl }
from_fields (said.Frozen version) fits = record { first = version; spells = itself number version fits; value = refl }
from_fields (said.Bridge row base count) fits = record {
  first = row;
  front = row_bytes row;
  back = number base ++ number count;
  is_front = itself row_bytes row fits.0;
  is_back = record {
    first = base;
    front = number base;
    back = number count;
    is_front = itself number base fits.1;
    is_back = record { first = count; spells = itself number count fits.2; value = refl };
    whole = refl;
  };
  whole = append_assoc (row_bytes row) (number base) (number count);
}

abbrev pub SpellsMessage : MemberMessage → List ℕ → Type 0
SpellsMessage = Spells IsSpelled spelling

to_message : (m : MemberMessage) (text : List ℕ) → Follows SpellsKind FieldsOf m text → SpellsMessage m text
to_message m text s =
    let f = to_fields s.first m s.back s.is_back in
    record { fits = f.fits; is = s.whole ∙ both (s.is_front.is ∙ ap (λ (k : Kind). kind_byte k ∷ []) (sym f.kind_is)) f.is }

from_message : (m : MemberMessage) (text : List ℕ) → SpellsMessage m text → Follows SpellsKind FieldsOf m text
from_message m text s = record {
  first = kind_of_message m;
  front = kind_byte (kind_of_message m) ∷ [];
  back = field_bytes m;
  is_front = record { fits = tt; is = refl };
  is_back = from_fields m s.fits;
  whole = s.is;
}

pub message_format : IsFormat message_at SpellsMessage
unfolding message_at
message_format =
    said_as message_at (Follows SpellsKind FieldsOf) SpellsMessage to_message from_message (followed kind_at SpellsKind fields_at FieldsOf kind_format (λ k text s. fields_format k))
