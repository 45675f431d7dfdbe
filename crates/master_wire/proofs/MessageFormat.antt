-- A message is read as it is spelled: its kind, and the fields of that kind.
use Rattle.std.proofs.Common.{◌≡◌, ℕ, List, [], ◌∷◌, ◌++◌, Some, Ok, length, refl, sym, ap, subst, ◌∙◌}
use Rattle.std.specs.Int.{w32}
use Rattle.masters_protocol.specs.Members.{Message, Store, Stored, Ask, Tell}
use Rattle.wire_parts.specs.Places.{Place}
use Rattle.wire_parts.specs.Parts.{◌>>=◌, byte_at, number_at, number}
use Rattle.wire_parts.proofs.Formats.{Reads, Spells, reads_as}
use Rattle.wire_parts.proofs.Following.{Follows, reads_followed, Made, reads_made}
use Rattle.wire_parts.proofs.PartFormats.{SpellsByte, byte_format, SpellsNumber, number_format}
use Rattle.master_wire.specs.declared.decision.Decision.{Decision}
use Rattle.master_wire.specs.declared.kinds.MessageKind.{MessageKind}
use Rattle.master_wire.specs.declared.kinds.MessageKind.TheVariants as kinds
use Rattle.master_wire.specs.Kinds.{message_byte, message_kinds, message_of}
use Rattle.master_wire.specs.Spelling.{log_bytes, kind_of_message, message_fields, spelling, IsSpelled}
use Rattle.master_wire.specs.Reading.{log_at, message_kind_at, store_at, stored_at, ask_at, tell_at, message_fields_at, message_at}
use Rattle.master_wire.proofs.KindFormat.{SpellsKind, reads_kind}
use Rattle.master_wire.proofs.DecisionFormat.{both, itself, one_byte}
use Rattle.master_wire.proofs.LogFormat.{SpellsLog, log_read}

abbrev SpellsMessageKind : MessageKind → List ℕ → Type 0
SpellsMessageKind = SpellsKind message_byte message_kinds

each_kind : (k : MessageKind) → message_of (message_byte k) ≡ Some k
each_kind kinds.Store = refl
each_kind kinds.Stored = refl
each_kind kinds.Ask = refl
each_kind kinds.Tell = refl

abbrev FieldsOf : MessageKind → Message Decision → List ℕ → Type 0
FieldsOf kinds.Store = Follows SpellsByte (λ term. Made (Store term) SpellsLog)
FieldsOf kinds.Stored = Follows SpellsByte (λ term. Made (Stored term) SpellsNumber)
FieldsOf kinds.Ask = Made Ask SpellsByte
FieldsOf kinds.Tell = Follows SpellsByte (λ term. Made (Tell term) SpellsLog)

fields_read : (kind : MessageKind) → Reads (message_fields_at kind) (FieldsOf kind)
unfolding store_at stored_at ask_at tell_at
fields_read kinds.Store =
    reads_followed byte_at SpellsByte (λ term p. log_at p >>= λ log. Ok (Store term log.0, log.1)) (λ term. Made (Store term) SpellsLog) byte_format.reads
    (λ term text s. reads_made (Store term) log_at SpellsLog log_read)
fields_read kinds.Stored =
    reads_followed byte_at SpellsByte (λ term p. number_at w32 p >>= λ n. Ok (Stored term n.0, n.1)) (λ term. Made (Stored term) SpellsNumber) byte_format.reads
    (λ term text s. reads_made (Stored term) (number_at w32) SpellsNumber number_format.reads)
fields_read kinds.Ask = reads_made Ask byte_at SpellsByte byte_format.reads
fields_read kinds.Tell =
    reads_followed byte_at SpellsByte (λ term p. log_at p >>= λ log. Ok (Tell term log.0, log.1)) (λ term. Made (Tell term) SpellsLog) byte_format.reads
    (λ term text s. reads_made (Tell term) log_at SpellsLog log_read)

-- what its fields are, of its kind
record IsOfKind (kind : MessageKind) (m : Message Decision) (text : List ℕ) : Type 0 where
  kind_is : kind_of_message m ≡ kind
  fits : IsSpelled m
  is : text ≡ message_fields m

to_fields : (kind : MessageKind) (m : Message Decision) (text : List ℕ) → FieldsOf kind m text → IsOfKind kind m text
to_fields kinds.Store m text s =
    subst (λ x. IsOfKind kinds.Store x text) (sym s.is_back.value)
    (record { kind_is = refl; fits = (s.is_front.fits, s.is_back.spells.fits.0, s.is_back.spells.fits.1); is = s.whole ∙ both s.is_front.is s.is_back.spells.is })
to_fields kinds.Stored m text s =
    subst (λ x. IsOfKind kinds.Stored x text) (sym s.is_back.value)
    (record { kind_is = refl; fits = (s.is_front.fits, s.is_back.spells.fits); is = s.whole ∙ both s.is_front.is s.is_back.spells.is })
to_fields kinds.Ask m text s = subst (λ x. IsOfKind kinds.Ask x text) (sym s.value) (record { kind_is = refl; fits = s.spells.fits; is = s.spells.is })
to_fields kinds.Tell m text s =
    subst (λ x. IsOfKind kinds.Tell x text) (sym s.is_back.value)
    (record { kind_is = refl; fits = (s.is_front.fits, s.is_back.spells.fits.0, s.is_back.spells.fits.1); is = s.whole ∙ both s.is_front.is s.is_back.spells.is })

from_fields : (m : Message Decision) → IsSpelled m → FieldsOf (kind_of_message m) m (message_fields m)
from_fields (Store term log) fits = record {
  first = term;
  front = term ∷ [];
  back = log_bytes log;
  is_front = itself one_byte term fits.0;
  is_back = record { first = log; spells = itself log_bytes log (fits.1, fits.2); value = refl };
  whole = refl;
}
from_fields (Stored term count) fits = record {
  first = term;
  front = term ∷ [];
  back = number count;
  is_front = itself one_byte term fits.0;
  is_back = record { first = count; spells = itself number count fits.1; value = refl };
  whole = refl;
}
from_fields (Ask term) fits = record { first = term; spells = itself one_byte term fits; value = refl }
from_fields (Tell term log) fits = record {
  first = term;
  front = term ∷ [];
  back = log_bytes log;
  is_front = itself one_byte term fits.0;
  is_back = record { first = log; spells = itself log_bytes log (fits.1, fits.2); value = refl };
  whole = refl;
}

abbrev pub SpellsMessage : Message Decision → List ℕ → Type 0
SpellsMessage = Spells IsSpelled spelling

to_message : (m : Message Decision) (text : List ℕ) → Follows SpellsMessageKind FieldsOf m text → SpellsMessage m text
to_message m text s =
    let f = to_fields s.first m s.back s.is_back in
    record { fits = f.fits; is = s.whole ∙ both (s.is_front.is ∙ ap (λ (k : MessageKind). message_byte k ∷ []) (sym f.kind_is)) f.is }

from_message : (m : Message Decision) (text : List ℕ) → SpellsMessage m text → Follows SpellsMessageKind FieldsOf m text
from_message m text s = record {
  first = kind_of_message m;
  front = message_byte (kind_of_message m) ∷ [];
  back = message_fields m;
  is_front = record { fits = tt; is = refl };
  is_back = from_fields m s.fits;
  whole = s.is;
}

pub message_read : Reads message_at SpellsMessage
unfolding message_at
message_read =
    reads_as message_at (Follows SpellsMessageKind FieldsOf) SpellsMessage to_message from_message
    (reads_followed message_kind_at SpellsMessageKind message_fields_at FieldsOf (reads_kind message_byte message_kinds each_kind) (λ k text s. fields_read k))
