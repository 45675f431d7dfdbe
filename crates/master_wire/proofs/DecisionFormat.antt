-- A decision is read as it is spelled: its kind, and the fields of that kind.
use Rattle.std.proofs.Common.{◌≡◌, ℕ, List, [], ◌∷◌, ◌++◌, Some, Ok, refl, sym, ap, subst, ◌∙◌}
use Rattle.std.specs.Int.{w32}
use Rattle.wire_parts.specs.Places.{Place}
use Rattle.wire_parts.specs.Parts.{◌>>=◌, byte_at, number_at, number, sized_at, sized}
use Rattle.wire_parts.proofs.Formats.{Reads, Spells, reads_as}
use Rattle.wire_parts.proofs.Following.{Follows, reads_followed, IsDone, reads_ended, Made, reads_made}
use Rattle.wire_parts.proofs.PartFormats.{SpellsByte, byte_format, SpellsNumber, number_format}
use Rattle.wire_parts.proofs.SizedFormat.{SpellsSized, sized_format}
use Rattle.master_wire.specs.declared.decision.Decision.{Decision}
use Rattle.master_wire.specs.declared.decision.Decision.TheVariants.{Detect, BeginMove, BeginJoin, BeginHandover, Advance, Reopen, Take}
use Rattle.master_wire.specs.declared.kinds.DecisionKind.{DecisionKind}
use Rattle.master_wire.specs.declared.kinds.DecisionKind.TheVariants as kinds
use Rattle.master_wire.specs.Kinds.{decision_byte, decision_kinds, decision_of}
use Rattle.master_wire.specs.Spelling.{kind_of_decision, decision_fields, decision_bytes, IsSpelledDecision}
use Rattle.master_wire.specs.Reading.{decision_kind_at, detect_at, begin_move_at, begin_join_at, begin_handover_at, take_at, decision_fields_at, decision_at}
use Rattle.master_wire.proofs.KindFormat.{SpellsKind, reads_kind}

pub both : {a b c d : List ℕ} → a ≡ b → c ≡ d → a ++ c ≡ b ++ d
both {a} {b} {c} {d} one two = ap (λ (x : List ℕ). x ++ c) one ∙ ap (λ (x : List ℕ). b ++ x) two

-- a value that fits, in its one spelling
pub itself : {C : Type 0} {Fits : C → Type 0} (spelled : C → List ℕ) (c : C) → Fits c → Spells Fits spelled c (spelled c)
itself spelled c fits = record { fits = fits; is = refl }

abbrev pub one_byte : ℕ → List ℕ
one_byte byte = byte ∷ []

abbrev SpellsDecisionKind : DecisionKind → List ℕ → Type 0
SpellsDecisionKind = SpellsKind decision_byte decision_kinds

each_kind : (k : DecisionKind) → decision_of (decision_byte k) ≡ Some k
each_kind kinds.Detect = refl
each_kind kinds.BeginMove = refl
each_kind kinds.BeginJoin = refl
each_kind kinds.BeginHandover = refl
each_kind kinds.Advance = refl
each_kind kinds.Reopen = refl
each_kind kinds.Take = refl

-- ---- the fields

abbrev FieldsOf : DecisionKind → Decision → List ℕ → Type 0
FieldsOf kinds.Detect = Made Detect SpellsByte
FieldsOf kinds.BeginMove = Follows SpellsByte (λ from. Made (BeginMove from) SpellsByte)
FieldsOf kinds.BeginJoin = Made BeginJoin SpellsByte
FieldsOf kinds.BeginHandover = Follows SpellsByte (λ from. Made (BeginHandover from) SpellsByte)
FieldsOf kinds.Advance = IsDone Advance
FieldsOf kinds.Reopen = IsDone Reopen
FieldsOf kinds.Take = Follows SpellsByte (λ from. Follows SpellsNumber (λ place. Made (Take from place) SpellsSized))

fields_read : (kind : DecisionKind) → Reads (decision_fields_at kind) (FieldsOf kind)
unfolding detect_at begin_move_at begin_join_at begin_handover_at take_at
fields_read kinds.Detect = reads_made Detect byte_at SpellsByte byte_format.reads
fields_read kinds.BeginMove =
    reads_followed byte_at SpellsByte (λ from p. byte_at p >>= λ to. Ok (BeginMove from to.0, to.1)) (λ from. Made (BeginMove from) SpellsByte) byte_format.reads
    (λ from text s. reads_made (BeginMove from) byte_at SpellsByte byte_format.reads)
fields_read kinds.BeginJoin = reads_made BeginJoin byte_at SpellsByte byte_format.reads
fields_read kinds.BeginHandover =
    reads_followed byte_at SpellsByte (λ from p. byte_at p >>= λ to. Ok (BeginHandover from to.0, to.1)) (λ from. Made (BeginHandover from) SpellsByte) byte_format.reads
    (λ from text s. reads_made (BeginHandover from) byte_at SpellsByte byte_format.reads)
fields_read kinds.Advance = reads_ended Advance
fields_read kinds.Reopen = reads_ended Reopen
fields_read kinds.Take =
    reads_followed byte_at SpellsByte (λ from p. number_at w32 p >>= λ place. sized_at place.1 >>= λ bytes. Ok (Take from place.0 bytes.0, bytes.1))
    (λ from. Follows SpellsNumber (λ place. Made (Take from place) SpellsSized)) byte_format.reads
    (λ from text s. reads_followed (number_at w32) SpellsNumber (λ place p. sized_at p >>= λ bytes. Ok (Take from place bytes.0, bytes.1)) (λ place. Made (Take from place) SpellsSized) number_format.reads
    (λ place text s. reads_made (Take from place) sized_at SpellsSized sized_format.reads))

-- ---- a decision

-- what its fields are, of its kind
record IsOfKind (kind : DecisionKind) (d : Decision) (text : List ℕ) : Type 0 where
  kind_is : kind_of_decision d ≡ kind
  fits : IsSpelledDecision d
  is : text ≡ decision_fields d

to_fields : (kind : DecisionKind) (d : Decision) (text : List ℕ) → FieldsOf kind d text → IsOfKind kind d text
to_fields kinds.Detect d text s = subst (λ x. IsOfKind kinds.Detect x text) (sym s.value) (record { kind_is = refl; fits = s.spells.fits; is = s.spells.is })
to_fields kinds.BeginMove d text s =
    subst (λ x. IsOfKind kinds.BeginMove x text) (sym s.is_back.value)
    (record { kind_is = refl; fits = (s.is_front.fits, s.is_back.spells.fits); is = s.whole ∙ both s.is_front.is s.is_back.spells.is })
to_fields kinds.BeginJoin d text s = subst (λ x. IsOfKind kinds.BeginJoin x text) (sym s.value) (record { kind_is = refl; fits = s.spells.fits; is = s.spells.is })
to_fields kinds.BeginHandover d text s =
    subst (λ x. IsOfKind kinds.BeginHandover x text) (sym s.is_back.value)
    (record { kind_is = refl; fits = (s.is_front.fits, s.is_back.spells.fits); is = s.whole ∙ both s.is_front.is s.is_back.spells.is })
to_fields kinds.Advance d text s = subst (λ x. IsOfKind kinds.Advance x text) (sym s.value) (record { kind_is = refl; fits = tt; is = s.empty })
to_fields kinds.Reopen d text s = subst (λ x. IsOfKind kinds.Reopen x text) (sym s.value) (record { kind_is = refl; fits = tt; is = s.empty })
to_fields kinds.Take d text s =
    let last = s.is_back.is_back in
    subst (λ x. IsOfKind kinds.Take x text) (sym last.value)
    (record { kind_is = refl; fits = (s.is_front.fits, s.is_back.is_front.fits, last.spells.fits); is = s.whole ∙ both s.is_front.is (s.is_back.whole ∙ both s.is_back.is_front.is last.spells.is) })

from_fields : (d : Decision) → IsSpelledDecision d → FieldsOf (kind_of_decision d) d (decision_fields d)
from_fields (Detect member) fits = record { first = member; spells = itself one_byte member fits; value = refl }
from_fields (BeginMove from to) fits = record {
  first = from;
  front = from ∷ [];
  back = to ∷ [];
  is_front = itself one_byte from fits.0;
  is_back = record { first = to; spells = itself one_byte to fits.1; value = refl };
  whole = refl;
}
from_fields (BeginJoin to) fits = record { first = to; spells = itself one_byte to fits; value = refl }
from_fields (BeginHandover from to) fits = record {
  first = from;
  front = from ∷ [];
  back = to ∷ [];
  is_front = itself one_byte from fits.0;
  is_back = record { first = to; spells = itself one_byte to fits.1; value = refl };
  whole = refl;
}
from_fields Advance fits = record { value = refl; empty = refl }
from_fields Reopen fits = record { value = refl; empty = refl }
from_fields (Take from place message) fits = record {
  first = from;
  front = from ∷ [];
  back = number place ++ sized message;
  is_front = itself one_byte from fits.0;
  is_back = record {
    first = place;
    front = number place;
    back = sized message;
    is_front = itself number place fits.1;
    is_back = record { first = message; spells = itself sized message fits.2; value = refl };
    whole = refl;
  };
  whole = refl;
}

abbrev pub SpellsDecision : Decision → List ℕ → Type 0
SpellsDecision = Spells IsSpelledDecision decision_bytes

to_decision : (d : Decision) (text : List ℕ) → Follows SpellsDecisionKind FieldsOf d text → SpellsDecision d text
to_decision d text s =
    let f = to_fields s.first d s.back s.is_back in
    record { fits = f.fits; is = s.whole ∙ both (s.is_front.is ∙ ap (λ (k : DecisionKind). decision_byte k ∷ []) (sym f.kind_is)) f.is }

from_decision : (d : Decision) (text : List ℕ) → SpellsDecision d text → Follows SpellsDecisionKind FieldsOf d text
from_decision d text s = record {
  first = kind_of_decision d;
  front = decision_byte (kind_of_decision d) ∷ [];
  back = decision_fields d;
  is_front = record { fits = tt; is = refl };
  is_back = from_fields d s.fits;
  whole = s.is;
}

pub decision_read : Reads decision_at SpellsDecision
unfolding decision_at
decision_read =
    reads_as decision_at (Follows SpellsDecisionKind FieldsOf) SpellsDecision to_decision from_decision
    (reads_followed decision_kind_at SpellsDecisionKind decision_fields_at FieldsOf (reads_kind decision_byte decision_kinds each_kind) (λ k text s. fields_read k))
