-- What the table of calls keeps: each call that is read has its type's row, and its message spells it.
use Rattle.std.proofs.Common.{◌≡◌, ℕ, ◌<◌, ℤ, pos, negsuc, Bool, true, false, cond, List, [], ◌∷◌, ◌++◌, take, drop, All, Option, Some, None, Ok, refl, sym, ap, subst, ◌∙◌, arith}
use Rattle.std.specs.Prelude.{nat_lt}
use Rattle.std.specs.Str.{IsUtf8}
use Rattle.std.specs.Int.{w32, to_le_bytes}
use Rattle.std.proofs.lemmas.Bool.{ltb-true}
use Rattle.std.proofs.lemmas.List.{length-take, length-drop, take-append-drop}
use Rattle.std.proofs.lemmas.List.Elements.{All-drop}
use Rattle.grid_base.specs.Limits.{FitsFrame, offered_in, QueueCallFits}
use Rattle.grid_base.specs.Names.{queue_of}
use Rattle.grid_base.specs.declared.TheConstants.{PARTITIONS}
use Rattle.grid_base.specs.declared.calls.QueueCall.{QueueCall}
use Rattle.grid_base.specs.declared.calls.QueueCall.TheVariants.{Offer, Poll, Peek, Size, RemainingCapacity, Clear}
use Rattle.grid_base.specs.declared.refusal.CallRefused.TheVariants.{BadCall}
use Rattle.frame_codec.specs.Laws.{IsBytes}
use Rattle.frame_codec.specs.declared.frames.Frame.{Frame}
use Rattle.fixed_fields.specs.Fields.{int32_at, int32_bytes}
use Rattle.fixed_fields.specs.Requests.{kind_of, data_in, text_in, reader_in}
use Rattle.fixed_fields.specs.Spelled.{HoldParts}
use Rattle.fixed_fields.proofs.Parts.{data_of, text_of, first_holds, data_all, parts_all}
use Rattle.fixed_fields.proofs.ReadFields.{int32_is, kind_is, take_on}
use Rattle.fixed_fields.proofs.Steps.{behind, given, ok_or_some}
use Rattle.fixed_fields.proofs.Tables.{EachRow, reader_keeps}
use Rattle.message_frames.specs.Assembly.{first_payload}
use Rattle.message_frames.specs.declared.message.Message.{Message}
use Rattle.queue_codecs.specs.Calls.{Reader, partition_of, partition_in, named_in, offer_in, placed_in, queue_calls, call_by, queue_call_of}
use Rattle.queue_codecs.specs.SpelledCalls.{kind_of_call, parts_of, IsCall, IsPlaced, Spells}

-- ---- the parts of a call

-- what is read of a call: its name, its parts, and the value of an offer
pub record IsRead (frames : List Frame) (name : List ℕ) (parts values : List (List ℕ)) : Type 0 where
  pub text : IsUtf8 name
  pub held : HoldParts frames parts
  pub fit : All (λ frame. FitsFrame frame.payload) frames → FitsFrame name × All FitsFrame values

module _ (frames : List Frame) where
  name_read : (name : List ℕ) (values : List (List ℕ)) → text_in frames ≡ Some name → HoldParts (drop 1 frames) values → IsRead frames name (name ∷ values) values
  name_read name values n v =
      let named = text_of frames name n in
      record {
        text = named.1;
        held = first_holds frames name values named.0 v;
        fit = λ fit. (data_all FitsFrame frames name fit named.0, parts_all FitsFrame (drop 1 frames) values (All-drop (λ frame. FitsFrame frame.payload) 1 frames fit) v);
      }

  -- What holds of each call that is made of what was read, holds of a call that was read.

  pub named_read : (make : List ℕ → QueueCall) (Is : QueueCall → Type 0) (call : QueueCall) → named_in make frames ≡ Some call → ((name : List ℕ) → IsRead frames name (name ∷ []) [] → Is (make name)) → Is call
  named_read make Is call e each = behind (Is call) (text_in frames) _ call e (λ name n e. subst Is (given (make name) call e) (each name (name_read name [] n tt)))

  pub offer_read : (Is : QueueCall → Type 0) (call : QueueCall) → offer_in frames ≡ Some call → ((name value : List ℕ) → IsRead frames name (name ∷ value ∷ []) (value ∷ []) → Is (Offer name value)) → Is call
  offer_read Is call e each =
      behind (Is call) (text_in frames) _ call e (λ name n e.
      behind (Is call) (data_in (drop 1 frames)) _ call e (λ value v e.
      let held = first_holds (drop 1 frames) value [] (data_of (drop 1 frames) value v) tt in
      subst Is (given (Offer name value) call e) (each name value (name_read name (value ∷ []) n held))))

-- ---- the table

abbrev pub IsCallRead : List Frame → QueueCall → Type 0
IsCallRead frames call = IsRead frames (queue_of call) (parts_of call) (offered_in call)

abbrev Is : List Frame → ℕ → QueueCall → Type 0
Is frames kind call = IsCallRead frames call × (kind_of_call call ≡ kind)

-- Of a row, calls of its type are read, whole.
abbrev IsRow : ℕ → Reader → Type 0
IsRow kind reader = (frames : List Frame) (call : QueueCall) → reader frames ≡ Some call → Is frames kind call

every_row : EachRow IsRow queue_calls
every_row = (
  (λ frames call e. offer_read frames (Is frames _) call e (λ name value h. (h, refl))),
  (
    (λ frames call e. named_read frames Size (Is frames _) call e (λ name h. (h, refl))),
    (
      (λ frames call e. named_read frames Poll (Is frames _) call e (λ name h. (h, refl))),
      (
        (λ frames call e. named_read frames Peek (Is frames _) call e (λ name h. (h, refl))),
        (
          (λ frames call e. named_read frames Clear (Is frames _) call e (λ name h. (h, refl))),
          (
            (λ frames call e. named_read frames RemainingCapacity (Is frames _) call e (λ name h. (h, refl))),
            tt,
          ),
        ),
      ),
    ),
  ),
)

-- ---- found

pub partition_is : (number : ℤ) (partition : ℕ) → partition_of number ≡ Some partition → (number ≡ pos partition) × (partition < PARTITIONS)
partition_is (pos n) partition e = go (nat_lt n PARTITIONS) refl e
  where
    go : (b : Bool) → nat_lt n PARTITIONS ≡ b → cond b (Some n) None ≡ Some partition → (pos n ≡ pos partition) × (partition < PARTITIONS)
    go true below s = let same : n ≡ partition = cc in (ap pos same, subst (λ (k : ℕ). k < PARTITIONS) same (ltb-true n PARTITIONS below))
    go false below s = absurd cc
partition_is (negsuc n) partition e = absurd cc

-- what is read of a message: the call's parts, its type, and its partition
pub record IsMessageRead (message : Message) (call : QueueCall) : Type 0 where
  pub parts : IsCallRead (drop 1 message.frames) call
  pub kind : kind_of (first_payload message.frames) ≡ Some (kind_of_call call)
  pub placed : IsPlaced message

module _ (message : Message) where
  abbrev payload : List ℕ
  payload = first_payload message.frames

  abbrev frames : List Frame
  frames = drop 1 message.frames

  by_reader : (kind : Option ℕ) (reader : Option Reader) (call : QueueCall) → kind_of payload ≡ kind → reader_in kind queue_calls ≡ reader → call_by payload frames reader ≡ Ok call → IsMessageRead message call
  by_reader kind None call k r e = absurd cc
  by_reader None (Some reader) call k r e = absurd cc
  by_reader (Some kind) (Some reader) call k r e =
      let placed = ok_or_some (placed_in reader payload frames) BadCall call e in
      behind (IsMessageRead message call) (partition_in payload) _ call placed (λ partition p read.
      behind (IsMessageRead message call) (int32_at payload 12) _ partition p (λ number n p.
      let is = partition_is number partition p in
      let row = reader_keeps IsRow queue_calls every_row kind reader r frames call read in
      record { parts = row.0; kind = k ∙ ap Some (sym row.1); placed = record { partition = partition; within = is.1; stated = n ∙ ap Some is.0 } }))

pub call_read : (message : Message) (call : QueueCall) → queue_call_of message ≡ Ok call → IsMessageRead message call
unfolding queue_call_of
call_read message call e =
    let payload : List ℕ = first_payload message.frames in
    by_reader message (kind_of payload) (reader_in (kind_of payload) queue_calls) call refl refl e

fields_joined : (payload kind partition : List ℕ) → kind ≡ take 4 payload → partition ≡ take 4 (drop 12 payload) → payload ≡ (kind ++ take 8 (drop 4 payload) ++ partition) ++ drop 16 payload
fields_joined payload kind partition k p =
    let front : kind ++ take 8 (drop 4 payload) ++ partition ≡ take 16 payload =
    (λ i. k i ++ take 8 (drop 4 payload) ++ p i) ∙ ap (λ (t : List ℕ). t ++ take 4 (drop 12 payload)) (take_on 4 8 payload) ∙ take_on 12 4 payload
    in
    sym (take-append-drop 16 payload) ∙ ap (λ (t : List ℕ). t ++ drop 16 payload) (sym front)

pub call_found : (message : Message) (call : QueueCall) → IsBytes (first_payload message.frames) → queue_call_of message ≡ Ok call → IsCall call × Spells message call
call_found message call bytes e =
    let payload : List ℕ = first_payload message.frames in
    let read = call_read message call e in
    let partition = int32_is payload 12 (pos read.placed.partition) bytes read.placed.stated in (
      read.parts.text,
      record {
        correlation = take 8 (drop 4 payload);
        eight = omega (arith, partition.room, length-take 8 (drop 4 payload), length-drop 4 payload);
        partition = read.placed.partition;
        within = read.placed.within;
        more = drop 16 payload;
        fields = fields_joined payload (to_le_bytes w32 (kind_of_call call)) (int32_bytes (pos read.placed.partition)) (kind_is payload (kind_of_call call) bytes read.kind) partition.spelled;
        parts = read.parts.held;
      },
    )

-- ---- what else holds of a call that is read

pub call_fits : (message : Message) (call : QueueCall) → All (λ frame. FitsFrame frame.payload) message.frames → queue_call_of message ≡ Ok call → QueueCallFits call
call_fits message call fit e = (call_read message call e).parts.fit (All-drop (λ frame. FitsFrame frame.payload) 1 message.frames fit)

pub call_placed : (message : Message) (call : QueueCall) → queue_call_of message ≡ Ok call → IsPlaced message
call_placed message call e = (call_read message call e).placed
