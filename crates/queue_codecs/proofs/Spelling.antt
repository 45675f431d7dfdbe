-- A call is read from the messages that spell it.
use Rattle.std.proofs.Common.{◌≡◌, ℕ, ◌+◌, ◌^◌, ◌<◌, ℤ, pos, true, List, [], ◌∷◌, ◌++◌, length, drop, Option, Some, Ok, lit<, length-append, arith, refl, sym, ap, ◌∙◌, append_assoc}
use Rattle.std.specs.Prelude.{nat_lt}
use Rattle.std.specs.Option.{ok_or}
use Rattle.std.specs.Str.{IsUtf8}
use Rattle.std.specs.Int.{w32, to_le_bytes}
use Rattle.std.proofs.lemmas.Bool.{lt-ltb}
use Rattle.grid_base.specs.declared.TheConstants.{PARTITIONS}
use Rattle.grid_base.specs.declared.calls.QueueCall.{QueueCall}
use Rattle.grid_base.specs.declared.calls.QueueCall.TheVariants.{Offer, Poll, Peek, Size, RemainingCapacity, Clear}
use Rattle.grid_base.specs.declared.refusal.CallRefused.TheVariants.{BadCall}
use Rattle.frame_codec.specs.declared.frames.Frame.{Frame}
use Rattle.fixed_fields.specs.Fields.{int32_at, int32_bytes, int64_bytes}
use Rattle.fixed_fields.specs.Requests.{kind_of, data_in, text_in, reader_of, reader_in}
use Rattle.fixed_fields.specs.Spelled.{HoldParts}
use Rattle.fixed_fields.proofs.Parts.{first_held, data_held, text_held, sent_held}
use Rattle.fixed_fields.proofs.Steps.{bind_at}
use Rattle.fixed_fields.proofs.Written.{int32_read, kind_read}
use Rattle.message_frames.specs.Assembly.{first_payload}
use Rattle.message_frames.specs.declared.message.Message.{Message}
use Rattle.queue_codecs.specs.Calls.{Reader, partition_in, named_in, offer_in, placed_in, queue_calls, call_by, queue_call_of}
use Rattle.queue_codecs.specs.SpelledCalls.{kind_of_call, parts_of, IsCall, Spells, call_message}

-- ---- the parts

named_again : (frames : List Frame) (make : List ℕ → QueueCall) (name : List ℕ) → text_in frames ≡ Some name → named_in make frames ≡ Some (make name)
named_again frames make name n = rw n refl

offer_again : (frames : List Frame) (name value : List ℕ) → text_in frames ≡ Some name → data_in (drop 1 frames) ≡ Some value → offer_in frames ≡ Some (Offer name value)
offer_again frames name value n v = rw (n, v) refl

-- ---- each call

-- what reads a call of its type
abbrev pub reader_for : QueueCall → Reader
reader_for (Offer name value) = offer_in
reader_for (Poll name) = named_in Poll
reader_for (Peek name) = named_in Peek
reader_for (Size name) = named_in Size
reader_for (RemainingCapacity name) = named_in RemainingCapacity
reader_for (Clear name) = named_in Clear

-- its type is in the table, and a number of 31 bits
abbrev IsInTable : QueueCall → Type 0
IsInTable call = (reader_of (kind_of_call call) queue_calls ≡ Some (reader_for call)) × (kind_of_call call < 2 ^ 31)

in_table : (call : QueueCall) → IsInTable call
in_table (Offer name value) = (refl, lit< tt)
in_table (Poll name) = (refl, lit< tt)
in_table (Peek name) = (refl, lit< tt)
in_table (Size name) = (refl, lit< tt)
in_table (RemainingCapacity name) = (refl, lit< tt)
in_table (Clear name) = (refl, lit< tt)

module _ (frames : List Frame) where
  named_held : (make : List ℕ → QueueCall) (name : List ℕ) → IsUtf8 name → HoldParts frames (name ∷ []) → named_in make frames ≡ Some (make name)
  named_held make name text held = named_again frames make name (text_held frames name (first_held frames name [] held).0 text)

  pub reader_again : (call : QueueCall) → IsCall call → HoldParts frames (parts_of call) → reader_for call frames ≡ Some call
  reader_again (Offer name value) text held =
      let first = first_held frames name (value ∷ []) held in
      let second = first_held (drop 1 frames) value [] first.1 in
      offer_again frames name value (text_held frames name first.0 text) (data_held (drop 1 frames) value second.0)
  reader_again (Poll name) text held = named_held Poll name text held
  reader_again (Peek name) text held = named_held Peek name text held
  reader_again (Size name) text held = named_held Size name text held
  reader_again (RemainingCapacity name) text held = named_held RemainingCapacity name text held
  reader_again (Clear name) text held = named_held Clear name text held

-- ---- the message

-- the partition, at its place
pub partition_again : (kind correlation : List ℕ) (partition : ℕ) (more : List ℕ) → length kind ≡ 4 → length correlation ≡ 8 → partition < PARTITIONS → partition_in ((kind ++ correlation ++ int32_bytes (pos partition)) ++ more) ≡ Some partition
partition_again kind correlation partition more four eight within =
    let front : List ℕ = kind ++ correlation in
    let small : partition < 2 ^ 31 = omega (arith, within) in
    let size : length front ≡ 12 = length-append kind correlation ∙ (λ i. four i + eight i) in
    let stated : int32_at ((front ++ int32_bytes (pos partition)) ++ more) 12 ≡ Some (pos partition) =
    ap (λ (at : ℕ). int32_at ((front ++ int32_bytes (pos partition)) ++ more) at) (sym size) ∙ int32_read front more (pos partition) (record { sfits = small })
    in
    let below : nat_lt partition PARTITIONS ≡ true = lt-ltb partition PARTITIONS within in
    rw (stated, below) refl

pub placed_again : (reader : Reader) (payload : List ℕ) (frames : List Frame) (partition : ℕ) (call : QueueCall) → partition_in payload ≡ Some partition → reader frames ≡ Some call → placed_in reader payload frames ≡ Some call
placed_again reader payload frames partition call p r = bind_at (partition_in payload) (λ partition. reader frames) partition p ∙ r

pub call_again : (message : Message) (call : QueueCall) → IsCall call → Spells message call → queue_call_of message ≡ Ok call
unfolding queue_call_of
call_again message call h s =
    let payload : List ℕ = first_payload message.frames in
    let frames : List Frame = drop 1 message.frames in
    let kind : List ℕ = to_le_bytes w32 (kind_of_call call) in
    let stated : List ℕ = int32_bytes (pos s.partition) in
    let table = in_table call in
    let typed : kind_of payload ≡ Some (kind_of_call call) =
    ap kind_of (s.fields ∙ append_assoc (kind ++ s.correlation) stated s.more ∙ append_assoc kind s.correlation (stated ++ s.more)) ∙ kind_read (kind_of_call call) (s.correlation ++ (stated ++ s.more)) table.1
    in
    let partition : partition_in payload ≡ Some s.partition = ap partition_in s.fields ∙ partition_again kind s.correlation s.partition s.more refl s.eight s.within in
    let read = placed_again (reader_for call) payload frames s.partition call partition (reader_again frames call h s.parts) in
    ap (λ (k : Option ℕ). call_by payload frames (reader_in k queue_calls)) typed
    ∙ ap (λ (r : Option Reader). call_by payload frames r) table.0
    ∙ ap (λ (c : Option QueueCall). ok_or c BadCall) read

pub sent_again : (correlation : ℤ) (partition : ℕ) (call : QueueCall) (more : List ℕ) (behind : List Frame) → IsCall call → partition < PARTITIONS → queue_call_of (call_message correlation partition call more behind) ≡ Ok call
sent_again correlation partition call more behind h within =
    call_again (call_message correlation partition call more behind) call h (record {
      correlation = int64_bytes correlation;
      eight = refl;
      partition = partition;
      within = within;
      more = more;
      fields = refl;
      parts = sent_held (parts_of call) behind;
    })
