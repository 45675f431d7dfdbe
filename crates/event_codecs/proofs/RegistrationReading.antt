-- A message is read as a registration exactly where it spells one, and refused with its cause.
use Rattle.std.proofs.Common.{◌≡◌, ◌≢◌, ◌↔◌, ℕ, zero, suc, ◌^◌, ◌<◌, ◌==◌, ℤ, Bool, true, false, List, [], ◌∷◌, ◌++◌, take, drop, Option, Some, None, Ok, Err, lit<, refl, sym, ap, subst, ◌∙◌}
use Rattle.std.specs.Prelude.{slice_get, not}
use Rattle.std.specs.Option.{ok_or}
use Rattle.std.proofs.lemmas.Bool.{eqb-true, eqb-false}
use Rattle.std.proofs.lemmas.List.{take-append-drop}
use Rattle.grid_base.specs.declared.refusal.CallRefused.TheVariants.{UnknownType, BadCall, Memory}
use Rattle.frame_codec.specs.Laws.{IsBytes}
use Rattle.frame_codec.specs.declared.frames.Frame.{Frame}
use Rattle.fixed_fields.specs.Fields.{byte_at, int32_at, int32_of, int32_bytes, int64_at, int64_bytes}
use Rattle.fixed_fields.specs.Requests.{kind_of, text_in, reader_in}
use Rattle.fixed_fields.specs.Spelled.{request_head, HoldParts}
use Rattle.fixed_fields.proofs.Parts.{text_of, first_holds, first_held, text_held}
use Rattle.fixed_fields.proofs.ReadFields.{take_on}
use Rattle.fixed_fields.proofs.Refusals.{bad_not_unknown, bad_not_memory}
use Rattle.fixed_fields.proofs.Steps.{behind, given, ok_or_some}
use Rattle.fixed_fields.proofs.Tables.{EachRow, reader_keeps, none_in}
use Rattle.fixed_fields.proofs.Written.{kind_read}
use Rattle.message_frames.specs.Assembly.{first_payload}
use Rattle.message_frames.specs.declared.message.Message.{Message}
use Rattle.event_codecs.specs.Registrations.{entry_listener_kind, invalidation_listener_kind, cluster_view_kind, says_yes, Reader, entries_in, invalidations_in, rows_in, registrations, registration_by, registration_of}
use Rattle.event_codecs.specs.SpelledEvents.{HasArrived}
use Rattle.event_codecs.specs.SpelledRegistrations.{kind_of_registration, correlation_of, parts_of, IsRegistration, SpellsFlag, SpellFields, Spells, HasOtherKind}
use Rattle.event_codecs.specs.declared.registration.Registration.{Registration}
use Rattle.event_codecs.specs.declared.registration.Registration.TheVariants.{Entries, Invalidations, Rows}
use Rattle.event_codecs.proofs.Heads.{head_found, first_bytes, correlation_read, partition_there}

-- ---- read, so spelled

-- a byte at a place
byte_is : (bytes : List ℕ) (at byte : ℕ) → slice_get bytes at ≡ Some byte → byte ∷ [] ≡ take 1 (drop at bytes)
byte_is [] at byte e = absurd cc
byte_is (first ∷ bytes) zero byte e = let same : byte ≡ first = cc in ap (λ (b : ℕ). b ∷ []) same
byte_is (first ∷ bytes) (suc at) byte e = byte_is bytes at byte e

flag_is : (byte : ℕ) → SpellsFlag (says_yes byte) byte
flag_is byte = go (byte == 0) refl
  where
    go : (zero_there : Bool) → (byte == 0) ≡ zero_there → SpellsFlag (not zero_there) byte
    go true same = eqb-true byte 0 same
    go false other = eqb-false byte 0 other

-- what a first payload and the frames behind it spell, but for the type
record SpellParts (kind : ℕ) (payload : List ℕ) (frames : List Frame) (registration : Registration) : Type 0 where
  its : IsRegistration registration
  kind_is : kind_of_registration registration ≡ kind
  partition : ℤ
  fields : List ℕ
  said : SpellFields registration fields
  count : ℕ
  front : request_head kind (correlation_of registration) partition ++ fields ≡ take count payload
  held : HoldParts frames (parts_of registration)

module _ (kind : ℕ) (payload : List ℕ) (frames : List Frame) (bytes : IsBytes payload) (typed : kind_of payload ≡ Some kind) where
  abbrev Found : Registration → Type 0
  Found registration = SpellParts kind payload frames registration

  entries_found : entry_listener_kind ≡ kind → (registration : Registration) → entries_in payload frames ≡ Some registration → Found registration
  entries_found is registration e =
      behind (Found registration) (int64_at payload 4) _ registration e (λ correlation c e.
      behind (Found registration) (int32_at payload 12) _ registration e (λ partition p e.
      behind (Found registration) (byte_at payload 16) _ registration e (λ byte b e.
      behind (Found registration) (text_in frames) _ registration e (λ name n e.
      let head = head_found kind payload bytes typed correlation partition c p in
      let named = text_of frames name n in
      subst Found (given (Entries correlation name (says_yes byte)) registration e) (record {
        its = record { correlation = head.correlation_fits; name = named.1 };
        kind_is = is;
        partition = partition;
        fields = byte ∷ [];
        said = (byte, refl, flag_is byte);
        count = 17;
        front = (λ i. head.spelled i ++ byte_is payload 16 byte b i) ∙ take_on 16 1 payload;
        held = first_holds frames name [] named.0 tt;
      })))))

  invalidations_found : invalidation_listener_kind ≡ kind → (registration : Registration) → invalidations_in payload frames ≡ Some registration → Found registration
  invalidations_found is registration e =
      behind (Found registration) (int64_at payload 4) _ registration e (λ correlation c e.
      behind (Found registration) (int32_at payload 12) _ registration e (λ partition p e.
      behind (Found registration) (text_in frames) _ registration e (λ name n e.
      let head = head_found kind payload bytes typed correlation partition c p in
      let named = text_of frames name n in
      subst Found (given (Invalidations correlation name) registration e) (record {
        its = record { correlation = head.correlation_fits; name = named.1 };
        kind_is = is;
        partition = partition;
        fields = [];
        said = refl;
        count = 16;
        front = head.spelled;
        held = first_holds frames name [] named.0 tt;
      }))))

  rows_found : cluster_view_kind ≡ kind → (registration : Registration) → rows_in payload frames ≡ Some registration → Found registration
  rows_found is registration e =
      behind (Found registration) (int64_at payload 4) _ registration e (λ correlation c e.
      behind (Found registration) (int32_at payload 12) _ registration e (λ partition p e.
      let head = head_found kind payload bytes typed correlation partition c p in
      subst Found (given (Rows correlation) registration e) (record {
        its = record { correlation = head.correlation_fits; name = tt };
        kind_is = is;
        partition = partition;
        fields = [];
        said = refl;
        count = 16;
        front = head.spelled;
        held = tt;
      })))

abbrev IsRow : ℕ → Reader → Type 0
IsRow kind reader = (payload : List ℕ) (frames : List Frame) (registration : Registration) → IsBytes payload → kind_of payload ≡ Some kind → reader payload frames ≡ Some registration → SpellParts kind payload frames registration

every_row : EachRow IsRow registrations
every_row = (
  (λ payload frames registration bytes typed e. entries_found entry_listener_kind payload frames bytes typed refl registration e),
  (
    (λ payload frames registration bytes typed e. invalidations_found invalidation_listener_kind payload frames bytes typed refl registration e),
    ((λ payload frames registration bytes typed e. rows_found cluster_view_kind payload frames bytes typed refl registration e), tt),
  ),
)

by_reader : (payload : List ℕ) (frames : List Frame) (registration : Registration) (kind : Option ℕ) (reader : Option Reader) → IsBytes payload → kind_of payload ≡ kind → reader_in kind registrations ≡ reader → registration_by payload frames reader ≡ Ok registration
    → (k : ℕ) × SpellParts k payload frames registration
by_reader payload frames registration kind None bytes typed found e = absurd cc
by_reader payload frames registration None (Some reader) bytes typed found e = absurd cc
by_reader payload frames registration (Some kind) (Some reader) bytes typed found e =
    (kind, reader_keeps IsRow registrations every_row kind reader found payload frames registration bytes typed (ok_or_some (reader payload frames) BadCall registration e))

pub registration_found : (message : Message) (registration : Registration) → HasArrived message → registration_of message ≡ Ok registration → IsRegistration registration × Spells message registration
unfolding registration_of
registration_found message registration all e =
    let payload : List ℕ = first_payload message.frames in
    let frames : List Frame = drop 1 message.frames in
    let by = by_reader payload frames registration (kind_of payload) (reader_in (kind_of payload) registrations) (first_bytes message.frames all) refl refl e in
    let s = by.1 in
    let front = ap (λ (kind : ℕ). request_head kind (correlation_of registration) s.partition ++ s.fields) s.kind_is ∙ s.front in (
      s.its,
      record {
        partition = s.partition;
        fields = s.fields;
        more = drop s.count payload;
        said = s.said;
        payload = sym (ap (λ (front : List ℕ). front ++ drop s.count payload) front ∙ take-append-drop s.count payload);
        parts = s.held;
      },
    )

-- ---- spelled, so read

flag_read : (with_value : Bool) (byte : ℕ) → SpellsFlag with_value byte → says_yes byte ≡ with_value
flag_read true byte h = go (byte == 0) refl
  where
    go : (zero_there : Bool) → (byte == 0) ≡ zero_there → not zero_there ≡ true
    go true same = absurd (h (eqb-true byte 0 same))
    go false other = refl
flag_read false byte h = ap says_yes h

-- what reads a registration of its type
abbrev reader_for : Registration → Reader
reader_for (Entries correlation name with_value) = entries_in
reader_for (Invalidations correlation name) = invalidations_in
reader_for (Rows correlation) = rows_in

-- its type is in the table, and a number of 31 bits
in_table : (registration : Registration) → (reader_in (Some (kind_of_registration registration)) registrations ≡ Some (reader_for registration)) × (kind_of_registration registration < 2 ^ 31)
in_table (Entries correlation name with_value) = (refl, lit< tt)
in_table (Invalidations correlation name) = (refl, lit< tt)
in_table (Rows correlation) = (refl, lit< tt)

entries_are : (payload : List ℕ) (frames : List Frame) (correlation partition : ℤ) (byte : ℕ) (name : List ℕ) → int64_at payload 4 ≡ Some correlation → int32_at payload 12 ≡ Some partition → byte_at payload 16 ≡ Some byte → text_in frames ≡ Some name
    → entries_in payload frames ≡ Some (Entries correlation name (says_yes byte))
entries_are payload frames correlation partition byte name c p b n = rw (c, p, b, n) refl

invalidations_are : (payload : List ℕ) (frames : List Frame) (correlation partition : ℤ) (name : List ℕ) → int64_at payload 4 ≡ Some correlation → int32_at payload 12 ≡ Some partition → text_in frames ≡ Some name
    → invalidations_in payload frames ≡ Some (Invalidations correlation name)
invalidations_are payload frames correlation partition name c p n = rw (c, p, n) refl

rows_are : (payload : List ℕ) (frames : List Frame) (correlation partition : ℤ) → int64_at payload 4 ≡ Some correlation → int32_at payload 12 ≡ Some partition → rows_in payload frames ≡ Some (Rows correlation)
rows_are payload frames correlation partition c p = rw (c, p) refl

module _ (more : List ℕ) (frames : List Frame) where
  reader_again : (registration : Registration) (partition : ℤ) (fields : List ℕ) → IsRegistration registration → SpellFields registration fields → HoldParts frames (parts_of registration)
      → reader_for registration ((request_head (kind_of_registration registration) (correlation_of registration) partition ++ fields) ++ more) frames ≡ Some registration
  reader_again (Entries correlation name with_value) partition fields h said held =
      let byte : ℕ = said.0 in
      let behind : List ℕ = byte ∷ more in
      let head = request_head entry_listener_kind correlation partition in
      let first = first_held frames name [] held in
      let its = entries_are (head ++ behind) frames correlation (int32_of (int32_bytes partition)) byte name (correlation_read entry_listener_kind correlation partition behind h.correlation) (partition_there entry_listener_kind correlation partition behind) refl (text_held frames name first.0 h.name) in
      ap (λ (f : List ℕ). entries_in ((head ++ f) ++ more) frames) said.1 ∙ its ∙ ap (λ (b : Bool). Some (Entries correlation name b)) (flag_read with_value byte said.2)
  reader_again (Invalidations correlation name) partition fields h said held =
      let head = request_head invalidation_listener_kind correlation partition in
      let first = first_held frames name [] held in
      ap (λ (f : List ℕ). invalidations_in ((head ++ f) ++ more) frames) said
      ∙ invalidations_are (head ++ more) frames correlation (int32_of (int32_bytes partition)) name (correlation_read invalidation_listener_kind correlation partition more h.correlation) (partition_there invalidation_listener_kind correlation partition more) (text_held frames name first.0 h.name)
  reader_again (Rows correlation) partition fields h said held =
      let head = request_head cluster_view_kind correlation partition in
      ap (λ (f : List ℕ). rows_in ((head ++ f) ++ more) frames) said
      ∙ rows_are (head ++ more) frames correlation (int32_of (int32_bytes partition)) (correlation_read cluster_view_kind correlation partition more h.correlation) (partition_there cluster_view_kind correlation partition more)

pub registration_again : (message : Message) (registration : Registration) → IsRegistration registration → Spells message registration → registration_of message ≡ Ok registration
unfolding registration_of
registration_again message registration h s =
    let payload : List ℕ = first_payload message.frames in
    let frames : List Frame = drop 1 message.frames in
    let table = in_table registration in
    let typed : kind_of payload ≡ Some (kind_of_registration registration) =
    ap kind_of s.payload ∙ kind_read (kind_of_registration registration) ((int64_bytes (correlation_of registration) ++ int32_bytes s.partition ++ s.fields) ++ s.more) table.1
    in
    let read : reader_for registration payload frames ≡ Some registration = ap (λ (p : List ℕ). reader_for registration p frames) s.payload ∙ reader_again s.more frames registration s.partition s.fields h s.said s.parts in
    ap (λ (k : Option ℕ). registration_by payload frames (reader_in k registrations)) typed
    ∙ ap (λ (r : Option Reader). registration_by payload frames r) table.0
    ∙ ap (λ (e : Option Registration). ok_or e BadCall) read

-- ---- refused

module _ (payload : List ℕ) (frames : List Frame) where
  unknown_by : (reader : Option Reader) → (registration_by payload frames reader ≡ Err UnknownType) ↔ (reader ≡ None)
  unknown_by None = ((λ e. refl), (λ none. refl))
  unknown_by (Some reader) = ((λ e. absurd (bad_not_unknown (reader payload frames) e)), (λ none. absurd cc))

  memory_by : (reader : Option Reader) → registration_by payload frames reader ≢ Err Memory
  memory_by None e = cc
  memory_by (Some reader) e = bad_not_memory (reader payload frames) e

pub only_unknown : (message : Message) → (registration_of message ≡ Err UnknownType) ↔ HasOtherKind message
unfolding registration_of
only_unknown message =
    let payload : List ℕ = first_payload message.frames in
    let by = unknown_by payload (drop 1 message.frames) (reader_in (kind_of payload) registrations) in
    let among = none_in (kind_of payload) registrations in
    ((λ e. among.0 (by.0 e)), (λ all. by.1 (among.1 all)))

pub not_wanting : (message : Message) → registration_of message ≢ Err Memory
unfolding registration_of
not_wanting message = let payload : List ℕ = first_payload message.frames in memory_by payload (drop 1 message.frames) (reader_in (kind_of payload) registrations)
