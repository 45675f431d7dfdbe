-- An event is read from the messages that spell it.
use Rattle.std.proofs.Common.{◌≡◌, ℕ, ◌^◌, ◌<◌, ℤ, Bool, cond, List, [], ◌∷◌, ◌++◌, length, drop, Option, Some, Ok, Err, option_map, lit<, refl, ap, subst, ◌∙◌}
use Rattle.std.specs.Prelude.{IfSome}
use Rattle.std.specs.Option.{ok_or}
use Rattle.std.specs.Result.{result_ok}
use Rattle.std.specs.Int.{w32, w64, to_le_bytes}
use Rattle.std.specs.Int.RustNames.{FitsSigned}
use Rattle.std.proofs.lemmas.Bool.{le-leb}
use Rattle.grid_base.specs.declared.refusal.CallRefused.TheVariants.{BadCall}
use Rattle.frame_codec.specs.declared.frames.Frame.{Frame}
use Rattle.fixed_fields.specs.declared.refusal.FieldRefused.TheVariants.{NoFrame}
use Rattle.fixed_fields.specs.Fields.{int32_at, int32_of, int32_bytes, int64_at, int64_bytes}
use Rattle.fixed_fields.specs.Frames.{content_of, next_nullable, not_null}
use Rattle.fixed_fields.specs.Requests.{kind_of, data_in, text_in, reader_in}
use Rattle.fixed_fields.specs.Spelled.{request_head}
use Rattle.fixed_fields.proofs.Parts.{first_held, data_held, text_held}
use Rattle.fixed_fields.proofs.Written.{field_at-written, int32_read, int64_read, kind_read}
use Rattle.message_frames.specs.Assembly.{first_payload}
use Rattle.message_frames.specs.declared.message.Message.{Message}
use Rattle.event_codecs.specs.Events.{entry_kind, invalidation_kind, rows_kind, number_at, key_in, value_in, rows_in, Reader, entry_in, invalidation_in, rows_event_in, events, event_by, event_of}
use Rattle.event_codecs.specs.SpelledEvents.{kind_of_event, correlation_of, partition_of, fields_of, IsKey, IsEvent, HoldValues, HoldEvent, Spells}
use Rattle.event_codecs.specs.declared.events.ClientEvent.{ClientEvent}
use Rattle.event_codecs.specs.declared.events.ClientEvent.TheVariants.{Entry, Invalidation, Rows}
use Rattle.event_codecs.specs.declared.seen.SeenRow.{SeenRow}
use Rattle.event_codecs.proofs.Heads.{correlation_read, partition_read, partition_there}
use Rattle.event_codecs.proofs.Numbers.{number_read}
use Rattle.event_codecs.proofs.RowSpelling.{list_read}

-- ---- frames

value_next : (frames : List Frame) (value : Option (List ℕ)) (values : List (Option (List ℕ))) → HoldValues frames (value ∷ values) → (next_nullable frames ≡ Ok value) × HoldValues (drop 1 frames) values
value_next [] value values h = absurd h
value_next (frame ∷ frames) value values h = (ap (λ (plain : Bool). cond plain (Ok (content_of frame)) (Err NoFrame)) h.0 ∙ ap Ok h.1, h.2)

key_is : (frames : List Frame) (key : List ℕ) → IsKey key → data_in frames ≡ Some key → key_in frames ≡ Some key
key_is frames key h e = let long = le-leb 8 (length key) h in rw (e, long) refl

-- ---- events of the parts that were read

entry_is : (payload : List ℕ) (frames : List Frame) (correlation partition kind : ℤ) (key : List ℕ) (new old : Option (List ℕ)) → int64_at payload 4 ≡ Some correlation → int32_at payload 12 ≡ Some partition → int32_at payload 16 ≡ Some kind
    → key_in frames ≡ Some key → value_in (drop 1 frames) ≡ Some new → value_in (drop 1 (drop 1 frames)) ≡ Some old → entry_in payload frames ≡ Some (Entry correlation partition kind key new old)
entry_is payload frames correlation partition kind key new old c p k e n o = rw (c, p, k, e, n, o) refl

invalidation_is : (payload : List ℕ) (frames : List Frame) (correlation partition : ℤ) (version number : ℕ) (name key : List ℕ) → int64_at payload 4 ≡ Some correlation → int32_at payload 12 ≡ Some partition → number_at payload 16 ≡ Some version
    → number_at payload 20 ≡ Some number → text_in frames ≡ Some name → key_in (drop 1 frames) ≡ Some key → invalidation_in payload frames ≡ Some (Invalidation correlation partition version number name key)
invalidation_is payload frames correlation partition version number name key c p v m n e = rw (c, p, v, m, n, e) refl

rows_is : (payload : List ℕ) (frames : List Frame) (correlation partition : ℤ) (rows : List SeenRow) → int64_at payload 4 ≡ Some correlation → int32_at payload 12 ≡ Some partition → rows_in frames ≡ Some rows → rows_event_in payload frames ≡ Some (Rows correlation rows)
rows_is payload frames correlation partition rows c p r = rw (c, p, r) refl

-- ---- each event

-- what reads an event of its type
abbrev reader_for : ClientEvent → Reader
reader_for (Entry correlation partition kind key new old) = entry_in
reader_for (Invalidation correlation partition version number name key) = invalidation_in
reader_for (Rows correlation rows) = rows_event_in

-- its type is in the table, and a number of 31 bits
in_table : (event : ClientEvent) → (reader_in (Some (kind_of_event event)) events ≡ Some (reader_for event)) × (kind_of_event event < 2 ^ 31)
in_table (Entry correlation partition kind key new old) = (refl, lit< tt)
in_table (Invalidation correlation partition version number name key) = (refl, lit< tt)
in_table (Rows correlation rows) = (refl, lit< tt)

module _ (more : List ℕ) (frames : List Frame) where
  abbrev payload_of : ClientEvent → ℤ → List ℕ
  payload_of event partition = (request_head (kind_of_event event) (correlation_of event) partition ++ fields_of event) ++ more

  reader_again : (event : ClientEvent) (partition : ℤ) → IsEvent event → IfSome (partition_of event) (λ its. its ≡ partition) → HoldEvent frames event → reader_for event (payload_of event partition) frames ≡ Some event
  reader_again (Entry correlation partition kind key new old) stated h same held =
      let first = value_next frames (Some key) (new ∷ old ∷ []) held in
      let second = value_next (drop 1 frames) new (old ∷ []) first.1 in
      let third = value_next (drop 1 (drop 1 frames)) old [] second.1 in
      let head = request_head entry_kind correlation partition in
      let behind = int32_bytes kind ++ more in
      let its = entry_is (head ++ behind) frames correlation partition kind key new old (correlation_read entry_kind correlation partition behind h.correlation) (partition_read entry_kind correlation partition behind h.partition) (int32_read head more kind h.parts.0)
      (key_is frames key h.parts.1 (ap (λ r. result_ok (not_null r)) first.0)) (ap result_ok second.0) (ap result_ok third.0) in
      subst (λ (p : ℤ). entry_in (payload_of (Entry correlation partition kind key new old) p) frames ≡ Some (Entry correlation partition kind key new old)) same its
  reader_again (Invalidation correlation partition version number name key) stated h same held =
      let first = first_held frames name (key ∷ []) held in
      let second = first_held (drop 1 frames) key [] first.1 in
      let head = request_head invalidation_kind correlation partition in
      let behind = to_le_bytes w32 version ++ to_le_bytes w32 number ++ more in
      let its = invalidation_is (head ++ behind) frames correlation partition version number name key (correlation_read invalidation_kind correlation partition behind h.correlation) (partition_read invalidation_kind correlation partition behind h.partition)
      (number_read head (to_le_bytes w32 number ++ more) version h.parts.0) (number_read (head ++ to_le_bytes w32 version) more number h.parts.1)
      (text_held frames name first.0 h.parts.2) (key_is (drop 1 frames) key h.parts.3 (data_held (drop 1 frames) key second.0)) in
      subst (λ (p : ℤ). invalidation_in (payload_of (Invalidation correlation partition version number name key) p) frames ≡ Some (Invalidation correlation partition version number name key)) same its
  reader_again (Rows correlation rows) stated h same held =
      rows_is (request_head rows_kind correlation stated ++ more) frames correlation (int32_of (int32_bytes stated)) rows (correlation_read rows_kind correlation stated more h.correlation) (partition_there rows_kind correlation stated more) (list_read frames rows h.parts held)

-- ---- the message

pub read_again : (message : Message) (event : ClientEvent) → IsEvent event → Spells message event → event_of message ≡ Ok event
unfolding event_of
read_again message event h s =
    let payload : List ℕ = first_payload message.frames in
    let frames : List Frame = drop 1 message.frames in
    let spelled : List ℕ = payload_of s.more frames event s.partition in
    let table = in_table event in
    let typed : kind_of payload ≡ Some (kind_of_event event) =
    ap kind_of s.fields ∙ kind_read (kind_of_event event) ((int64_bytes (correlation_of event) ++ int32_bytes s.partition ++ fields_of event) ++ s.more) table.1
    in
    let read : reader_for event payload frames ≡ Some event = ap (λ (p : List ℕ). reader_for event p frames) s.fields ∙ reader_again s.more frames event s.partition h s.stated s.frames in
    ap (λ (k : Option ℕ). event_by payload frames (reader_in k events)) typed
    ∙ ap (λ (r : Option Reader). event_by payload frames r) table.0
    ∙ ap (λ (e : Option ClientEvent). ok_or e BadCall) read
