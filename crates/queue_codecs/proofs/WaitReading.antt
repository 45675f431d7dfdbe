-- A message is read as a waiting call exactly where it spells one, and refused with its cause.
use Rattle.std.proofs.Common.{◌≡◌, ◌≢◌, ◌↔◌, ℕ, ◌+◌, ◌^◌, ◌<◌, ℤ, pos, List, [], ◌∷◌, ◌++◌, length, take, drop, All, Option, Some, None, Ok, Err, lit<, length-append, refl, sym, ap, subst, ◌∙◌, append_assoc, arith}
use Rattle.std.specs.Option.{ok_or}
use Rattle.std.specs.Int.{w32, w64, to_le_bytes}
use Rattle.std.specs.Int.RustNames.{FitsSigned}
use Rattle.std.proofs.lemmas.List.{length-take, length-drop, take-append-drop}
use Rattle.std.proofs.lemmas.List.Elements.{All-drop}
use Rattle.grid_base.specs.Limits.{FitsFrame, QueueCallFits}
use Rattle.grid_base.specs.declared.TheConstants.{PARTITIONS}
use Rattle.grid_base.specs.declared.calls.QueueCall.{QueueCall}
use Rattle.grid_base.specs.declared.calls.QueueCall.TheVariants.{Offer, Poll}
use Rattle.grid_base.specs.declared.refusal.CallRefused.TheVariants.{UnknownType, BadCall, Memory}
use Rattle.frame_codec.specs.Laws.{IsBytes}
use Rattle.frame_codec.specs.declared.frames.Frame.{Frame}
use Rattle.fixed_fields.specs.Fields.{int32_at, int32_bytes, int64_at, int64_bytes}
use Rattle.fixed_fields.specs.Requests.{kind_of, kinds_in, reader_of, reader_in}
use Rattle.fixed_fields.proofs.Parts.{sent_held}
use Rattle.fixed_fields.proofs.ReadFields.{int32_is, int64_is, kind_is, take_on}
use Rattle.fixed_fields.proofs.Refusals.{bad_not_unknown, bad_not_memory}
use Rattle.fixed_fields.proofs.Steps.{bind_at, behind, given, ok_or_some}
use Rattle.fixed_fields.proofs.Tables.{EachRow, reader_keeps, none_in}
use Rattle.fixed_fields.proofs.Written.{int64_read, kind_read}
use Rattle.message_frames.specs.Assembly.{first_payload}
use Rattle.message_frames.specs.declared.message.Message.{Message}
use Rattle.queue_codecs.specs.Calls.{Reader, partition_in, placed_in}
use Rattle.queue_codecs.specs.SpelledCalls.{parts_of, IsPlaced}
use Rattle.queue_codecs.specs.Waits.{offer_wait_kind, poll_wait_kind, Wait, queue_waits, waiting_in, wait_by, queue_wait_of}
use Rattle.queue_codecs.specs.SpelledWaits.{kind_of_wait, IsWait, SpellsWait, wait_message}
use Rattle.queue_codecs.proofs.Spelling.{reader_for, reader_again, partition_again, placed_again}
use Rattle.queue_codecs.proofs.Table.{IsCallRead, named_read, offer_read, partition_is}

-- ---- read, so spelled

abbrev Is : List Frame → ℕ → QueueCall → Type 0
Is frames kind call = IsCallRead frames call × (kind_of_wait call ≡ Some kind)

-- Of a row, calls that may wait under its type are read, whole.
abbrev IsRow : ℕ → Reader → Type 0
IsRow kind reader = (frames : List Frame) (call : QueueCall) → reader frames ≡ Some call → Is frames kind call

every_row : EachRow IsRow queue_waits
every_row = (
  (λ frames call e. offer_read frames (Is frames _) call e (λ name value h. (h, refl))),
  ((λ frames call e. named_read frames Poll (Is frames _) call e (λ name h. (h, refl))), tt),
)

-- what is read of a message: the plain call, its type, its partition, and the timeout
record IsWaitRead (message : Message) (wait : Wait) : Type 0 where
  kind : ℕ
  typed : kind_of (first_payload message.frames) ≡ Some kind
  its : Is (drop 1 message.frames) kind wait.0
  placed : IsPlaced message
  timeout : int64_at (first_payload message.frames) 16 ≡ Some wait.1

module _ (message : Message) where
  abbrev payload : List ℕ
  payload = first_payload message.frames

  abbrev frames : List Frame
  frames = drop 1 message.frames

  by_reader : (kind : Option ℕ) (reader : Option Reader) (wait : Wait) → kind_of payload ≡ kind → reader_in kind queue_waits ≡ reader → wait_by payload frames reader ≡ Ok wait → IsWaitRead message wait
  by_reader kind None wait k r e = absurd cc
  by_reader None (Some reader) wait k r e = absurd cc
  by_reader (Some kind) (Some reader) wait k r e =
      let Goal : Type 0 = IsWaitRead message wait in
      behind Goal (int64_at payload 16) _ wait (ok_or_some (waiting_in reader payload frames) BadCall wait e) (λ timeout t e.
      behind Goal (placed_in reader payload frames) _ wait e (λ call c e.
      behind Goal (partition_in payload) _ call c (λ partition p read.
      behind Goal (int32_at payload 12) _ partition p (λ number n p.
      let is = partition_is number partition p in
      let row = reader_keeps IsRow queue_waits every_row kind reader r frames call read in
      let placed : IsPlaced message = record { partition = partition; within = is.1; stated = n ∙ ap Some is.0 } in
      subst (λ (wait : Wait). IsWaitRead message wait) (given (call, timeout) wait e) (record { kind = kind; typed = k; its = row; placed = placed; timeout = t })))))

wait_read : (message : Message) (wait : Wait) → queue_wait_of message ≡ Ok wait → IsWaitRead message wait
unfolding queue_wait_of
wait_read message wait e =
    let payload : List ℕ = first_payload message.frames in
    by_reader message (kind_of payload) (reader_in (kind_of payload) queue_waits) wait refl refl e

fields_joined : (payload kind partition timeout : List ℕ) → kind ≡ take 4 payload → partition ≡ take 4 (drop 12 payload) → timeout ≡ take 8 (drop 16 payload)
    → payload ≡ (kind ++ take 8 (drop 4 payload) ++ partition ++ timeout) ++ drop 24 payload
fields_joined payload kind partition timeout k p t =
    let twelve : kind ++ take 8 (drop 4 payload) ≡ take 12 payload = ap (λ (four : List ℕ). four ++ take 8 (drop 4 payload)) k ∙ take_on 4 8 payload in
    let sixteen : kind ++ take 8 (drop 4 payload) ++ partition ≡ take 16 payload = (λ i. twelve i ++ p i) ∙ take_on 12 4 payload in
    let front : kind ++ take 8 (drop 4 payload) ++ partition ++ timeout ≡ take 24 payload = (λ i. sixteen i ++ t i) ∙ take_on 16 8 payload in
    sym (take-append-drop 24 payload) ∙ ap (λ (t : List ℕ). t ++ drop 24 payload) (sym front)

pub wait_found : (message : Message) (wait : Wait) → IsBytes (first_payload message.frames) → queue_wait_of message ≡ Ok wait → IsWait wait × SpellsWait message wait
wait_found message wait bytes e =
    let payload : List ℕ = first_payload message.frames in
    let read = wait_read message wait e in
    let partition = int32_is payload 12 (pos read.placed.partition) bytes read.placed.stated in
    let timeout = int64_is payload 16 wait.1 bytes read.timeout in (
      record { call = read.its.0.text; timeout = timeout.fits },
      record {
        kind = read.kind;
        may = read.its.1;
        correlation = take 8 (drop 4 payload);
        eight = omega (arith, partition.room, length-take 8 (drop 4 payload), length-drop 4 payload);
        partition = read.placed.partition;
        within = read.placed.within;
        more = drop 24 payload;
        fields = fields_joined payload (to_le_bytes w32 read.kind) (int32_bytes (pos read.placed.partition)) (int64_bytes wait.1) (kind_is payload read.kind bytes read.typed) partition.spelled timeout.spelled;
        parts = read.its.0.held;
      },
    )

-- ---- what else holds of a waiting call that is read

pub wait_fits : (message : Message) (wait : Wait) → All (λ frame. FitsFrame frame.payload) message.frames → queue_wait_of message ≡ Ok wait → QueueCallFits wait.0
wait_fits message wait fit e = (wait_read message wait e).its.0.fit (All-drop (λ frame. FitsFrame frame.payload) 1 message.frames fit)

pub wait_placed : (message : Message) (wait : Wait) → queue_wait_of message ≡ Ok wait → IsPlaced message
wait_placed message wait e = (wait_read message wait e).placed

-- ---- spelled, so read

-- the type under which a call waits is in the table, and a number of 31 bits
in_table : (call : QueueCall) (kind : ℕ) → kind_of_wait call ≡ Some kind → (reader_of kind queue_waits ≡ Some (reader_for call)) × (kind < 2 ^ 31)
in_table (Offer name value) kind k =
    let same : offer_wait_kind ≡ kind = cc in
    subst (λ (n : ℕ). (reader_of n queue_waits ≡ Some (reader_for (Offer name value))) × (n < 2 ^ 31)) same (refl, lit< tt)
in_table (Poll name) kind k =
    let same : poll_wait_kind ≡ kind = cc in
    subst (λ (n : ℕ). (reader_of n queue_waits ≡ Some (reader_for (Poll name))) × (n < 2 ^ 31)) same (refl, lit< tt)
in_table _ kind k = absurd cc

-- the timeout, at its place
timeout_again : (kind correlation : List ℕ) (partition timeout : ℤ) (more : List ℕ) → length kind ≡ 4 → length correlation ≡ 8 → FitsSigned w64 timeout
    → int64_at ((kind ++ correlation ++ int32_bytes partition ++ int64_bytes timeout) ++ more) 16 ≡ Some timeout
timeout_again kind correlation partition timeout more four eight fits =
    let front : List ℕ = kind ++ correlation ++ int32_bytes partition in
    let size : length front ≡ 16 = omega (arith, length-append (kind ++ correlation) (int32_bytes partition), length-append kind correlation, four, eight) in
    ap (λ (at : ℕ). int64_at ((front ++ int64_bytes timeout) ++ more) at) (sym size) ∙ int64_read front (front ++ int64_bytes timeout) (int64_bytes timeout) timeout fits refl refl more

waiting_again : (reader : Reader) (payload : List ℕ) (frames : List Frame) (call : QueueCall) (timeout : ℤ) → int64_at payload 16 ≡ Some timeout → placed_in reader payload frames ≡ Some call → waiting_in reader payload frames ≡ Some (call, timeout)
waiting_again reader payload frames call timeout t p = bind_at (int64_at payload 16) _ timeout t ∙ bind_at (placed_in reader payload frames) _ call p

pub wait_again : (message : Message) (wait : Wait) → IsWait wait → SpellsWait message wait → queue_wait_of message ≡ Ok wait
unfolding queue_wait_of
wait_again message wait h s =
    let payload : List ℕ = first_payload message.frames in
    let frames : List Frame = drop 1 message.frames in
    let kind : List ℕ = to_le_bytes w32 s.kind in
    let front : List ℕ = kind ++ s.correlation ++ int32_bytes (pos s.partition) in
    let timeout : List ℕ = int64_bytes wait.1 in
    let table = in_table wait.0 s.kind s.may in
    let apart : payload ≡ front ++ (timeout ++ s.more) = s.fields ∙ append_assoc front timeout s.more in
    let typed : kind_of payload ≡ Some s.kind =
    ap kind_of (apart ∙ append_assoc (kind ++ s.correlation) (int32_bytes (pos s.partition)) (timeout ++ s.more) ∙ append_assoc kind s.correlation (int32_bytes (pos s.partition) ++ (timeout ++ s.more)))
    ∙ kind_read s.kind (s.correlation ++ (int32_bytes (pos s.partition) ++ (timeout ++ s.more))) table.1
    in
    let partition : partition_in payload ≡ Some s.partition = ap partition_in apart ∙ partition_again kind s.correlation s.partition (timeout ++ s.more) refl s.eight s.within in
    let timed : int64_at payload 16 ≡ Some wait.1 = ap (λ (p : List ℕ). int64_at p 16) s.fields ∙ timeout_again kind s.correlation (pos s.partition) wait.1 s.more refl s.eight h.timeout in
    let plain = placed_again (reader_for wait.0) payload frames s.partition wait.0 partition (reader_again frames wait.0 h.call s.parts) in
    ap (λ (k : Option ℕ). wait_by payload frames (reader_in k queue_waits)) typed
    ∙ ap (λ (r : Option Reader). wait_by payload frames r) table.0
    ∙ ap (λ (c : Option Wait). ok_or c BadCall) (waiting_again (reader_for wait.0) payload frames wait.0 wait.1 timed plain)

pub wait_sent : (correlation : ℤ) (partition kind : ℕ) (wait : Wait) (more : List ℕ) (behind : List Frame) → IsWait wait → kind_of_wait wait.0 ≡ Some kind → partition < PARTITIONS → queue_wait_of (wait_message correlation partition kind wait more behind) ≡ Ok wait
wait_sent correlation partition kind wait more behind h may within =
    wait_again (wait_message correlation partition kind wait more behind) wait h (record {
      kind = kind;
      may = may;
      correlation = int64_bytes correlation;
      eight = refl;
      partition = partition;
      within = within;
      more = more;
      fields = refl;
      parts = sent_held (parts_of wait.0) behind;
    })

-- ---- refused

module _ (payload : List ℕ) (frames : List Frame) where
  unknown_by : (reader : Option Reader) → (wait_by payload frames reader ≡ Err UnknownType) ↔ (reader ≡ None)
  unknown_by None = ((λ e. refl), (λ none. refl))
  unknown_by (Some reader) = ((λ e. absurd (bad_not_unknown (waiting_in reader payload frames) e)), (λ none. absurd cc))

  memory_by : (reader : Option Reader) → wait_by payload frames reader ≢ Err Memory
  memory_by None e = cc
  memory_by (Some reader) e = bad_not_memory (waiting_in reader payload frames) e

pub only_unknown : (message : Message) → (queue_wait_of message ≡ Err UnknownType) ↔ All (λ kind. kind_of (first_payload message.frames) ≢ Some kind) (kinds_in queue_waits)
unfolding queue_wait_of
only_unknown message =
    let payload : List ℕ = first_payload message.frames in
    let by = unknown_by payload (drop 1 message.frames) (reader_in (kind_of payload) queue_waits) in
    let among = none_in (kind_of payload) queue_waits in
    ((λ e. among.0 (by.0 e)), (λ all. by.1 (among.1 all)))

pub not_wanting : (message : Message) → queue_wait_of message ≢ Err Memory
unfolding queue_wait_of
not_wanting message = let payload : List ℕ = first_payload message.frames in memory_by payload (drop 1 message.frames) (reader_in (kind_of payload) queue_waits)
