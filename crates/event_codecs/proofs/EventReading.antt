-- What is read as an event is one, and its message spells it.
use Rattle.std.proofs.Common.{◌≡◌, ℕ, ◌<◌, ℤ, Bool, true, false, cond, leb, List, [], ◌∷◌, ◌++◌, length, take, drop, All, Option, Some, None, Result, Ok, Err, refl, sym, ap, subst, ◌∙◌, append_assoc}
use Rattle.std.specs.Prelude.{IfSome}
use Rattle.std.specs.Result.{result_ok}
use Rattle.std.specs.Int.{w32, w64, to_le_bytes}
use Rattle.std.specs.Int.RustNames.{FitsSigned}
use Rattle.std.proofs.lemmas.Bool.{leb-true}
use Rattle.std.proofs.lemmas.List.{take-append-drop}
use Rattle.std.proofs.lemmas.List.Elements.{All-nil, All-head, All-drop}
use Rattle.grid_base.specs.declared.refusal.CallRefused.TheVariants.{BadCall}
use Rattle.frame_codec.specs.Laws.{IsBytes}
use Rattle.frame_codec.specs.declared.frames.Frame.{Frame}
use Rattle.fixed_fields.specs.declared.refusal.FieldRefused.{FieldRefused}
use Rattle.fixed_fields.specs.declared.refusal.FieldRefused.TheVariants.{NoFrame}
use Rattle.fixed_fields.specs.Fields.{int32_at, int64_at, int64_bytes}
use Rattle.fixed_fields.specs.Frames.{content_of, next_data, next_nullable, not_null}
use Rattle.fixed_fields.specs.Requests.{kind_of, data_in, text_in, reader_in}
use Rattle.fixed_fields.specs.Spelled.{request_head}
use Rattle.fixed_fields.specs.Structures.{is_plain}
use Rattle.fixed_fields.proofs.Parts.{data_of, text_of, first_holds}
use Rattle.fixed_fields.proofs.ReadFields.{int32_is, int64_is, kind_is, take_on}
use Rattle.fixed_fields.proofs.Steps.{behind, given, if_some, ok_or_some}
use Rattle.fixed_fields.proofs.Tables.{EachRow, reader_keeps}
use Rattle.message_frames.specs.Assembly.{first_payload}
use Rattle.message_frames.specs.declared.message.Message.{Message}
use Rattle.event_codecs.specs.Events.{number_at, key_in, value_in, rows_in, Reader, entry_in, invalidation_in, rows_event_in, events, event_by, event_of, entry_kind, invalidation_kind, rows_kind}
use Rattle.event_codecs.specs.SpelledEvents.{kind_of_event, correlation_of, partition_of, fields_of, IsKey, IsEvent, HoldValues, HoldEvent, HasArrived, Spells}
use Rattle.event_codecs.specs.declared.events.ClientEvent.{ClientEvent}
use Rattle.event_codecs.specs.declared.events.ClientEvent.TheVariants.{Entry, Invalidation, Rows}
use Rattle.event_codecs.proofs.Heads.{head_found, first_bytes}
use Rattle.event_codecs.proofs.Numbers.{number_is}
use Rattle.event_codecs.proofs.RowReading.{list_found}

-- ---- frames

value_of : (frames : List Frame) (value : Option (List ℕ)) → value_in frames ≡ Some value → next_nullable frames ≡ Ok value
value_of frames value e = go (next_nullable frames) e
  where
    go : (found : Result (Option (List ℕ)) FieldRefused) → result_ok found ≡ Some value → found ≡ Ok value
    go (Err why) s = absurd cc
    go (Ok content) s = cc

value_holds : (frames : List Frame) (value : Option (List ℕ)) (values : List (Option (List ℕ))) → next_nullable frames ≡ Ok value → HoldValues (drop 1 frames) values → HoldValues frames (value ∷ values)
value_holds [] value values e h = absurd cc
value_holds (frame ∷ frames) value values e h = go (is_plain frame) refl e
  where
    go : (plain : Bool) → is_plain frame ≡ plain → cond plain (Ok (content_of frame)) (Err NoFrame) ≡ Ok value → HoldValues (frame ∷ frames) (value ∷ values)
    go true p s = (p, cc, h)
    go false p s = absurd cc

-- a key that is read is data that isn't null
key_found : (frames : List Frame) (key : List ℕ) → key_in frames ≡ Some key → IsKey key × (next_data frames ≡ Ok key)
key_found frames key e = behind (IsKey key × (next_data frames ≡ Ok key)) (data_in frames) _ key e (λ found read e.
    let is = if_some (leb 8 (length found)) found key e in
    let here : IsKey found × (next_data frames ≡ Ok found) = (leb-true 8 (length found) is.0, data_of frames found read) in
    subst (λ key. IsKey key × (next_data frames ≡ Ok key)) is.1 here)

data_is_value : (frames : List Frame) (bytes : List ℕ) → next_data frames ≡ Ok bytes → next_nullable frames ≡ Ok (Some bytes)
data_is_value frames bytes e = go (next_nullable frames) e
  where
    go : (found : Result (Option (List ℕ)) FieldRefused) → not_null found ≡ Ok bytes → found ≡ Ok (Some bytes)
    go (Err why) s = absurd cc
    go (Ok None) s = absurd cc
    go (Ok (Some content)) s = cc

-- ---- the first payload

-- what a first payload and the frames behind it spell, but for the type
pub record SpellParts (kind : ℕ) (payload : List ℕ) (frames : List Frame) (event : ClientEvent) : Type 0 where
  pub its : IsEvent event
  pub kind_is : kind_of_event event ≡ kind
  pub partition : ℤ
  pub stated : IfSome (partition_of event) (λ its. its ≡ partition)
  pub count : ℕ
  pub fields : request_head kind (correlation_of event) partition ++ fields_of event ≡ take count payload
  pub held : HoldEvent frames event

module _ (kind : ℕ) (payload : List ℕ) (frames : List Frame) (bytes : IsBytes payload) (all : All (λ frame. IsBytes frame.payload) frames) (typed : kind_of payload ≡ Some kind) where
  abbrev Found : ClientEvent → Type 0
  Found event = SpellParts kind payload frames event

  entry_found : entry_kind ≡ kind → (event : ClientEvent) → entry_in payload frames ≡ Some event → Found event
  entry_found is event e =
      behind (Found event) (int64_at payload 4) _ event e (λ correlation c e.
      behind (Found event) (int32_at payload 12) _ event e (λ partition p e.
      behind (Found event) (int32_at payload 16) _ event e (λ change k e.
      behind (Found event) (key_in frames) _ event e (λ key y e.
      behind (Found event) (value_in (drop 1 frames)) _ event e (λ new n e.
      behind (Found event) (value_in (drop 1 (drop 1 frames))) _ event e (λ old o e.
      let head = head_found kind payload bytes typed correlation partition c p in
      let field = int32_is payload 16 change bytes k in
      let keyed = key_found frames key y in
      let third = value_holds (drop 1 (drop 1 frames)) old [] (value_of (drop 1 (drop 1 frames)) old o) tt in
      let second = value_holds (drop 1 frames) new (old ∷ []) (value_of (drop 1 frames) new n) third in
      subst Found (given (Entry correlation partition change key new old) event e) (record {
        its = record { correlation = head.correlation_fits; partition = head.partition_fits; parts = (field.fits, keyed.0) };
        kind_is = is;
        partition = partition;
        stated = refl;
        count = 20;
        fields = (λ i. head.spelled i ++ field.spelled i) ∙ take_on 16 4 payload;
        held = value_holds frames (Some key) (new ∷ old ∷ []) (data_is_value frames key keyed.1) second;
      })))))))

  invalidation_found : invalidation_kind ≡ kind → (event : ClientEvent) → invalidation_in payload frames ≡ Some event → Found event
  invalidation_found is event e =
      behind (Found event) (int64_at payload 4) _ event e (λ correlation c e.
      behind (Found event) (int32_at payload 12) _ event e (λ partition p e.
      behind (Found event) (number_at payload 16) _ event e (λ version v e.
      behind (Found event) (number_at payload 20) _ event e (λ number m e.
      behind (Found event) (text_in frames) _ event e (λ name n e.
      behind (Found event) (key_in (drop 1 frames)) _ event e (λ key y e.
      let head = head_found kind payload bytes typed correlation partition c p in
      let first = number_is payload 16 version bytes v in
      let second = number_is payload 20 number bytes m in
      let named = text_of frames name n in
      let keyed = key_found (drop 1 frames) key y in
      let numbers : to_le_bytes w32 version ++ to_le_bytes w32 number ≡ take 4 (drop 16 payload) ++ take 4 (drop 20 payload) = (λ i. first.spelled i ++ second.spelled i) in
      subst Found (given (Invalidation correlation partition version number name key) event e) (record {
        its = record { correlation = head.correlation_fits; partition = head.partition_fits; parts = (first.fits, second.fits, named.1, keyed.0) };
        kind_is = is;
        partition = partition;
        stated = refl;
        count = 24;
        fields = (λ i. head.spelled i ++ numbers i) ∙ sym (append_assoc (take 16 payload) (take 4 (drop 16 payload)) (take 4 (drop 20 payload))) ∙ ap (λ (front : List ℕ). front ++ take 4 (drop 20 payload)) (take_on 16 4 payload) ∙ take_on 20 4 payload;
        held = first_holds frames name (key ∷ []) named.0 (first_holds (drop 1 frames) key [] keyed.1 tt);
      })))))))

  rows_found : rows_kind ≡ kind → (event : ClientEvent) → rows_event_in payload frames ≡ Some event → Found event
  rows_found is event e =
      behind (Found event) (int64_at payload 4) _ event e (λ correlation c e.
      behind (Found event) (int32_at payload 12) _ event e (λ partition p e.
      behind (Found event) (rows_in frames) _ event e (λ rows r e.
      let head = head_found kind payload bytes typed correlation partition c p in
      let list = list_found frames rows all r in
      subst Found (given (Rows correlation rows) event e) (record {
        its = record { correlation = head.correlation_fits; partition = tt; parts = list.0 };
        kind_is = is;
        partition = partition;
        stated = tt;
        count = 16;
        fields = head.spelled;
        held = list.1;
      }))))

-- ---- the table

abbrev IsRow : ℕ → Reader → Type 0
IsRow kind reader = (payload : List ℕ) (frames : List Frame) (event : ClientEvent) → IsBytes payload → All (λ frame. IsBytes frame.payload) frames → kind_of payload ≡ Some kind → reader payload frames ≡ Some event → SpellParts kind payload frames event

every_row : EachRow IsRow events
every_row = (
  (λ payload frames event bytes all typed e. entry_found entry_kind payload frames bytes all typed refl event e),
  (
    (λ payload frames event bytes all typed e. invalidation_found invalidation_kind payload frames bytes all typed refl event e),
    ((λ payload frames event bytes all typed e. rows_found rows_kind payload frames bytes all typed refl event e), tt),
  ),
)

by_reader : (payload : List ℕ) (frames : List Frame) (event : ClientEvent) (kind : Option ℕ) (reader : Option Reader) → IsBytes payload → All (λ frame. IsBytes frame.payload) frames → kind_of payload ≡ kind → reader_in kind events ≡ reader → event_by payload frames reader ≡ Ok event
    → (k : ℕ) × SpellParts k payload frames event
by_reader payload frames event kind None bytes all typed found e = absurd cc
by_reader payload frames event None (Some reader) bytes all typed found e = absurd cc
by_reader payload frames event (Some kind) (Some reader) bytes all typed found e =
    (kind, reader_keeps IsRow events every_row kind reader found payload frames event bytes all typed (ok_or_some (reader payload frames) BadCall event e))

pub found : (message : Message) (event : ClientEvent) → HasArrived message → event_of message ≡ Ok event → IsEvent event × Spells message event
unfolding event_of
found message event all e =
    let payload : List ℕ = first_payload message.frames in
    let frames : List Frame = drop 1 message.frames in
    let by = by_reader payload frames event (kind_of payload) (reader_in (kind_of payload) events) (first_bytes message.frames all) (All-drop (λ frame. IsBytes frame.payload) 1 message.frames all) refl refl e in
    let s = by.1 in
    let front = ap (λ (kind : ℕ). request_head kind (correlation_of event) s.partition ++ fields_of event) s.kind_is ∙ s.fields in (
      s.its,
      record {
        partition = s.partition;
        stated = s.stated;
        more = drop s.count payload;
        fields = sym (ap (λ (front : List ℕ). front ++ drop s.count payload) front ∙ take-append-drop s.count payload);
        frames = s.held;
      },
    )
