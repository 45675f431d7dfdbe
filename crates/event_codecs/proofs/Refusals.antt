-- Only another type is unknown, only a message that spells no event of its type is bad, and no message says that memory is wanting.
use Rattle.std.proofs.Common.{◌≡◌, ◌≢◌, ◌↔◌, ℕ, suc, ◌==◌, Bool, true, false, cond, List, [], ◌∷◌, Option, Some, None, Result, Ok, Err, refl, sym, ap, subst, ◌∙◌, arith}
use Rattle.std.specs.Prelude.{Any, drop}
use Rattle.std.proofs.lemmas.Bool.{eqb-true}
use Rattle.grid_base.specs.declared.refusal.CallRefused.{CallRefused}
use Rattle.grid_base.specs.declared.refusal.CallRefused.TheVariants.{UnknownType, BadCall, Memory}
use Rattle.frame_codec.specs.declared.frames.Frame.{Frame}
use Rattle.fixed_fields.specs.Requests.{IsReadAs, Row, kind_of, kinds_in, reader_of, reader_in}
use Rattle.fixed_fields.proofs.Refusals.{bad_not_unknown, bad_not_memory}
use Rattle.fixed_fields.proofs.Tables.{none_in}
use Rattle.message_frames.specs.Assembly.{first_payload}
use Rattle.message_frames.specs.declared.message.Message.{Message}
use Rattle.event_codecs.specs.Events.{Reader, events, event_by, event_of}
use Rattle.event_codecs.specs.SpelledEvents.{HasArrived, HasEventKind, HasOtherKind, SpellsNone}
use Rattle.event_codecs.specs.declared.events.ClientEvent.{ClientEvent}
use Rattle.event_codecs.proofs.EventReading.{found}
use Rattle.event_codecs.proofs.EventSpelling.{read_again}

module _ (payload : List ℕ) (frames : List Frame) where
  unknown_by : (reader : Option Reader) → (event_by payload frames reader ≡ Err UnknownType) ↔ (reader ≡ None)
  unknown_by None = ((λ e. refl), (λ none. refl))
  unknown_by (Some reader) = ((λ e. absurd (bad_not_unknown (reader payload frames) e)), (λ none. absurd cc))

  memory_by : (reader : Option Reader) → event_by payload frames reader ≢ Err Memory
  memory_by None e = cc
  memory_by (Some reader) e = bad_not_memory (reader payload frames) e

pub only_unknown : (message : Message) → (event_of message ≡ Err UnknownType) ↔ HasOtherKind message
unfolding event_of
only_unknown message =
    let payload : List ℕ = first_payload message.frames in
    let by = unknown_by payload (drop 1 message.frames) (reader_in (kind_of payload) events) in
    let among = none_in (kind_of payload) events in
    ((λ e. among.0 (by.0 e)), (λ all. by.1 (among.1 all)))

pub not_wanting : (message : Message) → event_of message ≢ Err Memory
unfolding event_of
not_wanting message = let payload : List ℕ = first_payload message.frames in memory_by payload (drop 1 message.frames) (reader_in (kind_of payload) events)

-- ---- bad calls

-- a type that the table has is among its types
some_of : (kind : ℕ) (reader : Reader) (rows : List (Row Reader)) → reader_of kind rows ≡ Some reader → Any (λ other. Some kind ≡ Some other) (kinds_in rows)
some_of kind reader [] e = absurd cc
some_of kind reader (row ∷ rows) e = go (kind == row.kind) refl e (some_of kind reader rows)
  where
    go : (same : Bool) → (kind == row.kind) ≡ same → cond same (Some row.reader) (reader_of kind rows) ≡ Some reader → (reader_of kind rows ≡ Some reader → Any (λ other. Some kind ≡ Some other) (kinds_in rows)) → Any (λ other. Some kind ≡ Some other) (row.kind ∷ kinds_in rows)
    go true same s later = (0, row.kind, omega arith, refl, ap Some (eqb-true kind row.kind same))
    go false same s later = let at = later s in (suc at.0, at.1, omega (arith, at.2), at.3, at.4)

some_in : (kind : Option ℕ) (reader : Reader) → reader_in kind events ≡ Some reader → Any (λ other. kind ≡ Some other) (kinds_in events)
some_in None reader e = absurd cc
some_in (Some kind) reader e = some_of kind reader events e

bad_by : (payload : List ℕ) (frames : List Frame) (kind : Option ℕ) (reader : Option Reader) → reader_in kind events ≡ reader → event_by payload frames reader ≡ Err BadCall → Any (λ other. kind ≡ Some other) (kinds_in events)
bad_by payload frames kind None found e = absurd cc
bad_by payload frames kind (Some reader) found e = some_in kind reader found

bad_has_kind : (message : Message) → event_of message ≡ Err BadCall → HasEventKind message
unfolding event_of
bad_has_kind message e = let payload : List ℕ = first_payload message.frames in bad_by payload (drop 1 message.frames) (kind_of payload) (reader_in (kind_of payload) events) refl e

pub bad_spells_none : (message : Message) → event_of message ≡ Err BadCall → SpellsNone message
bad_spells_none message e = record { kind = bad_has_kind message e; none = (λ event its s. let read = read_again message event its s in cc) }

pub only_bad : (message : Message) → HasArrived message → (event_of message ≡ Err BadCall) ↔ SpellsNone message
only_bad message all = (bad_spells_none message, (λ spells. go (event_of message) refl spells))
  where
    go : (read : Result ClientEvent CallRefused) → event_of message ≡ read → SpellsNone message → event_of message ≡ Err BadCall
    go (Ok event) e spells = let is = found message event all e in absurd (spells.none event is.0 is.1)
    go (Err UnknownType) e spells =
        let others = (only_unknown message).0 e in
        let kind = spells.kind in
        absurd (others kind.0 kind.1 kind.2 (kind.4 ∙ ap Some (sym kind.3)))
    go (Err BadCall) e spells = e
    go (Err Memory) e spells = absurd (not_wanting message e)

-- ---- the reader

-- a message that begins with this frame, of that type
module _ (message : Message) (first : Frame) (behind : List Frame) (kind : ℕ) (result : Result ClientEvent CallRefused) (cut : message.frames ≡ first ∷ behind) (typed : kind_of first.payload ≡ Some kind) (is : IsReadAs result (event_by first.payload behind (reader_of kind events))) where
  event_is : event_of message ≡ event_by first.payload behind (reader_of kind events)
  unfolding event_of
  event_is =
      ap (λ (frames : List Frame). event_by (first_payload frames) (drop 1 frames) (reader_in (kind_of (first_payload frames)) events)) cut
      ∙ ap (λ (k : Option ℕ). event_by first.payload behind (reader_in k events)) typed

  read_as : IsReadAs result (event_of message)
  read_as = subst (IsReadAs result) (sym event_is) is

  pub told_unknown : (result ≡ Err UnknownType) ↔ (reader_of kind events ≡ None) → (result ≡ Err UnknownType) ↔ HasOtherKind message
  told_unknown exact = (
    (λ e. (only_unknown message).0 (subst (λ r. IsReadAs r (event_of message)) e read_as)),
    (λ other. exact.1 ((unknown_by first.payload behind (reader_of kind events)).0 (sym event_is ∙ (only_unknown message).1 other))),
  )

  pub told_bad : result ≡ Err BadCall → SpellsNone message
  told_bad e = bad_spells_none message (subst (λ r. IsReadAs r (event_of message)) e read_as)
