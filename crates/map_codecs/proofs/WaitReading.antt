-- A message is read as a waiting call exactly where it spells one, and refused with its cause.
use Rattle.std.proofs.Common.{◌≡◌, ◌≢◌, ◌↔◌, ℕ, ◌+◌, ◌^◌, ◌<◌, ℤ, List, [], ◌∷◌, ◌++◌, length, take, drop, All, Option, Some, None, Ok, Err, lit<, refl, sym, ap, subst, ◌∙◌, append_assoc, arith}
use Rattle.std.specs.Prelude.{IfSome}
use Rattle.std.specs.Option.{ok_or}
use Rattle.std.specs.Int.{w32, w64, to_le_bytes}
use Rattle.std.specs.Int.RustNames.{FitsSigned}
use Rattle.std.proofs.lemmas.List.{length-take, length-drop}
use Rattle.std.proofs.lemmas.List.Elements.{All-nil, All-cons, All-append, All-drop}
use Rattle.grid_base.specs.Limits.{FitsFrame, MapCallFits}
use Rattle.grid_base.specs.Names.{key_of}
use Rattle.grid_base.specs.declared.names.ClientKey.{ClientKey}
use Rattle.grid_base.specs.declared.calls.MapCall.{MapCall}
use Rattle.grid_base.specs.declared.calls.MapCall.TheVariants.{Put, TryLock}
use Rattle.grid_base.specs.declared.refusal.CallRefused.TheVariants.{UnknownType, BadCall, Memory}
use Rattle.frame_codec.specs.Laws.{IsBytes}
use Rattle.frame_codec.specs.declared.frames.Frame.{Frame}
use Rattle.fixed_fields.specs.Fields.{int32_bytes, int64_at, int64_bytes}
use Rattle.fixed_fields.specs.Requests.{kind_of, kinds_in, reader_of, reader_in}
use Rattle.fixed_fields.specs.Spelled.{HoldParts}
use Rattle.fixed_fields.proofs.Parts.{sent_held}
use Rattle.fixed_fields.proofs.ReadFields.{int64_is, kind_is}
use Rattle.fixed_fields.proofs.Refusals.{bad_not_unknown, bad_not_memory}
use Rattle.fixed_fields.proofs.Steps.{bind_at, behind, given, ok_or_some}
use Rattle.fixed_fields.proofs.Tables.{EachRow, reader_keeps, none_in}
use Rattle.fixed_fields.proofs.Written.{kind_read}
use Rattle.message_frames.specs.Assembly.{first_payload}
use Rattle.message_frames.specs.declared.message.Message.{Message}
use Rattle.map_codecs.specs.Calls.{Reader, leased_in, stored_in}
use Rattle.map_codecs.specs.SpelledCalls.{IsKey, IsCallOf, caller_of, numbers_of, parts_of, HasArrived}
use Rattle.map_codecs.specs.Waits.{lock_wait_kind, put_wait_kind, Wait, map_waits, waiting_in, wait_by, map_wait_of}
use Rattle.map_codecs.specs.SpelledWaits.{kind_of_wait, wait_fields, IsWaitOf, SpellsWait, wait_message}
use Rattle.map_codecs.proofs.Numbers.{StandAt, spelled_at}
use Rattle.map_codecs.proofs.Reading.{leased_read, stored_read}
use Rattle.map_codecs.proofs.Spelling.{leased_again, stored_again, numbers_stand}
use Rattle.map_codecs.proofs.Table.{IsCallRead, fields_joined, first_bytes}

-- ---- read, so spelled

abbrev wait_numbers : Wait → List ℤ
wait_numbers wait = numbers_of wait.0 ++ wait.1 ∷ []

-- what is read of a waiting call: its plain call, and the timeout behind the numbers of that
record IsWaitRead (client : ClientKey) (payload : List ℕ) (frames : List Frame) (kind : ℕ) (wait : Wait) : Type 0 where
  call : IsCallRead client payload frames wait.0
  stand : StandAt payload 16 (wait_numbers wait)
  timeout : int64_at payload 32 ≡ Some wait.1
  may : kind_of_wait wait.0 ≡ Some kind

module _ (client : ClientKey) (payload : List ℕ) (frames : List Frame) (wait : Wait) where
  lock_wait_read : waiting_in (leased_in TryLock) client payload frames ≡ Some wait → IsWaitRead client payload frames lock_wait_kind wait
  lock_wait_read e =
      let Is : Wait → Type 0 = IsWaitRead client payload frames lock_wait_kind in
      behind (Is wait) (int64_at payload 32) _ wait e (λ timeout t e.
      behind (Is wait) (leased_in TryLock client payload frames) _ wait e (λ call c e.
      subst Is (given (call, timeout) wait e)
      (leased_read client payload frames TryLock (λ call. Is (call, timeout)) call c (λ name key owner lease h. record { call = h; stand = (h.stand.0, (h.stand.1.0, (t, tt))); timeout = t; may = refl }))))

  put_wait_read : waiting_in (stored_in Put) client payload frames ≡ Some wait → IsWaitRead client payload frames put_wait_kind wait
  put_wait_read e =
      let Is : Wait → Type 0 = IsWaitRead client payload frames put_wait_kind in
      behind (Is wait) (int64_at payload 32) _ wait e (λ timeout t e.
      behind (Is wait) (stored_in Put client payload frames) _ wait e (λ call c e.
      subst Is (given (call, timeout) wait e)
      (stored_read client payload frames Put (λ call. Is (call, timeout)) call c (λ name key owner value ttl h. record { call = h; stand = (h.stand.0, (h.stand.1.0, (t, tt))); timeout = t; may = refl }))))

abbrev IsRow : ℕ → Reader → Type 0
IsRow kind reader = (client : ClientKey) (payload : List ℕ) (frames : List Frame) (wait : Wait) → waiting_in reader client payload frames ≡ Some wait → IsWaitRead client payload frames kind wait

every_row : EachRow IsRow map_waits
every_row = (lock_wait_read, (put_wait_read, tt))

module _ (client : ClientKey) (payload : List ℕ) (frames : List Frame) where
  by_reader : (kind : Option ℕ) (reader : Option Reader) (wait : Wait) → reader_in kind map_waits ≡ reader → wait_by client payload frames reader ≡ Ok wait → (k : ℕ) × (kind ≡ Some k) × IsWaitRead client payload frames k wait
  by_reader kind None wait r e = absurd cc
  by_reader None (Some reader) wait r e = absurd cc
  by_reader (Some kind) (Some reader) wait r e =
      (kind, refl, reader_keeps IsRow map_waits every_row kind reader r client payload frames wait (ok_or_some (waiting_in reader client payload frames) BadCall wait e))

wait_read : (client : ClientKey) (message : Message) (wait : Wait) → map_wait_of client message ≡ Ok wait
    → (k : ℕ) × (kind_of (first_payload message.frames) ≡ Some k) × IsWaitRead client (first_payload message.frames) (drop 1 message.frames) k wait
unfolding map_wait_of
wait_read client message wait e =
    let payload : List ℕ = first_payload message.frames in
    by_reader client payload (drop 1 message.frames) (kind_of payload) (reader_in (kind_of payload) map_waits) wait refl e

pub wait_found : (client : ClientKey) (message : Message) (wait : Wait) → HasArrived message → map_wait_of client message ≡ Ok wait → IsWaitOf client wait × SpellsWait message wait
wait_found client message wait arrived e =
    let payload : List ℕ = first_payload message.frames in
    let read = wait_read client message wait e in
    let its = read.2 in
    let bytes = first_bytes message.frames arrived.bytes in
    let later = All-drop (λ frame. IsBytes frame.payload) 1 message.frames arrived.bytes in
    let plain = spelled_at payload bytes 16 (numbers_of wait.0) arrived.head its.call.stand in
    let numbers = spelled_at payload bytes 16 (wait_numbers wait) arrived.head its.stand in (
      record {
        call = record { name = its.call.text; key = its.call.long; caller = its.call.whose; numbers = plain.fit; processor = its.call.run later };
        timeout = (int64_is payload 32 wait.1 bytes its.timeout).fits;
      },
      record {
        kind = read.0;
        may = its.may;
        between = take 12 (drop 4 payload);
        twelve = omega (arith, numbers.room, length-take 12 (drop 4 payload), length-drop 4 payload);
        more = drop (16 + length (wait_fields wait)) payload;
        fields = fields_joined payload read.0 (wait_fields wait) (kind_is payload read.0 bytes read.1) numbers.fields;
        parts = its.call.held later;
      },
    )

-- ---- what else holds of a waiting call that is read

pub wait_fits : (client : ClientKey) (message : Message) (wait : Wait) → All (λ frame. FitsFrame frame.payload) message.frames → map_wait_of client message ≡ Ok wait → MapCallFits wait.0
wait_fits client message wait fit e = (wait_read client message wait e).2.call.fit (All-drop (λ frame. FitsFrame frame.payload) 1 message.frames fit)

pub wait_keyed : (client : ClientKey) (message : Message) (wait : Wait) → map_wait_of client message ≡ Ok wait → IsKey (key_of wait.0)
wait_keyed client message wait e = (wait_read client message wait e).2.call.long

pub wait_whose : (client : ClientKey) (message : Message) (wait : Wait) → map_wait_of client message ≡ Ok wait → IfSome (caller_of wait.0) (λ owner. owner.client ≡ client)
wait_whose client message wait e = (wait_read client message wait e).2.call.whose

-- ---- spelled, so read

-- what reads the waiting calls of a type, and so this one
record IsReadBy (client : ClientKey) (payload : List ℕ) (frames : List Frame) (kind : ℕ) (wait : Wait) : Type 0 where
  reader : Reader
  in_table : reader_of kind map_waits ≡ Some reader
  again : waiting_in reader client payload frames ≡ Some wait

module _ (client : ClientKey) (payload : List ℕ) (frames : List Frame) (timeout : ℤ) where
  waiting_again : (reader : Reader) (call : MapCall) → int64_at payload 32 ≡ Some timeout → reader client payload frames ≡ Some call → waiting_in reader client payload frames ≡ Some (call, timeout)
  waiting_again reader call t read = bind_at (int64_at payload 32) _ timeout t ∙ bind_at (reader client payload frames) _ call read

  read_by : (call : MapCall) (kind : ℕ) → kind_of_wait call ≡ Some kind → IsCallOf client call → StandAt payload 16 (wait_numbers (call, timeout)) → HoldParts frames (parts_of call) → IsReadBy client payload frames kind (call, timeout)
  read_by (TryLock name key owner lease) kind k h stand held =
      let same : lock_wait_kind ≡ kind = cc in
      let read = leased_again client payload frames TryLock name key owner lease (record { text = h.name; long = h.key; whose = h.caller; stand = (stand.0, (stand.1.0, tt)); held = held }) in
      subst (λ (kind : ℕ). IsReadBy client payload frames kind (TryLock name key owner lease, timeout)) same (record {
        reader = leased_in TryLock;
        in_table = refl;
        again = waiting_again (leased_in TryLock) (TryLock name key owner lease) stand.1.1.0 read;
      })
  read_by (Put name key owner value ttl) kind k h stand held =
      let same : put_wait_kind ≡ kind = cc in
      let read = stored_again client payload frames Put name key owner value ttl (record { text = h.name; long = h.key; whose = h.caller; stand = (stand.0, (stand.1.0, tt)); held = held }) in
      subst (λ (kind : ℕ). IsReadBy client payload frames kind (Put name key owner value ttl, timeout)) same (record {
        reader = stored_in Put;
        in_table = refl;
        again = waiting_again (stored_in Put) (Put name key owner value ttl) stand.1.1.0 read;
      })
  read_by _ kind k h stand held = absurd cc

-- a type of waiting calls is a number of 31 bits
small_kind : (call : MapCall) (kind : ℕ) → kind_of_wait call ≡ Some kind → kind < 2 ^ 31
small_kind (TryLock name key owner lease) kind k = let same : lock_wait_kind ≡ kind = cc in subst (λ (n : ℕ). n < 2 ^ 31) same (lit< tt)
small_kind (Put name key owner value ttl) kind k = let same : put_wait_kind ≡ kind = cc in subst (λ (n : ℕ). n < 2 ^ 31) same (lit< tt)
small_kind _ kind k = absurd cc

pub wait_again : (client : ClientKey) (message : Message) (wait : Wait) → IsWaitOf client wait → SpellsWait message wait → map_wait_of client message ≡ Ok wait
unfolding map_wait_of
wait_again client message wait h s =
    let payload : List ℕ = first_payload message.frames in
    let frames : List Frame = drop 1 message.frames in
    let kind : List ℕ = to_le_bytes w32 s.kind in
    let typed : kind_of payload ≡ Some s.kind =
    ap kind_of (s.fields ∙ append_assoc (kind ++ s.between) (wait_fields wait) s.more ∙ append_assoc kind s.between (wait_fields wait ++ s.more)) ∙ kind_read s.kind (s.between ++ (wait_fields wait ++ s.more)) (small_kind wait.0 s.kind s.may)
    in
    let fit : All (FitsSigned w64) (wait_numbers wait) = All-append (FitsSigned w64) (numbers_of wait.0) (wait.1 ∷ []) h.call.numbers (All-cons (FitsSigned w64) wait.1 [] h.timeout (All-nil (FitsSigned w64))) in
    let stand : StandAt payload 16 (wait_numbers wait) = subst (λ (p : List ℕ). StandAt p 16 (wait_numbers wait)) (sym s.fields) (numbers_stand kind s.between s.more (wait_numbers wait) refl s.twelve fit) in
    let read = read_by client payload frames wait.1 wait.0 s.kind s.may h.call stand s.parts in
    ap (λ (k : Option ℕ). wait_by client payload frames (reader_in k map_waits)) typed
    ∙ ap (λ (r : Option Reader). wait_by client payload frames r) read.in_table
    ∙ ap (λ (c : Option Wait). ok_or c BadCall) read.again

pub wait_sent : (client : ClientKey) (correlation partition : ℤ) (kind : ℕ) (wait : Wait) (more : List ℕ) (behind : List Frame) → IsWaitOf client wait → kind_of_wait wait.0 ≡ Some kind
    → map_wait_of client (wait_message correlation partition kind wait more behind) ≡ Ok wait
wait_sent client correlation partition kind wait more behind h may =
    wait_again client (wait_message correlation partition kind wait more behind) wait h (record {
      kind = kind;
      may = may;
      between = int64_bytes correlation ++ int32_bytes partition;
      twelve = refl;
      more = more;
      fields = refl;
      parts = sent_held (parts_of wait.0) behind;
    })

-- ---- the reader

-- what its two steps read
pub waiting_ok : (reader : Reader) (client : ClientKey) (payload : List ℕ) (frames : List Frame) (call : MapCall) (timeout : ℤ)
    → ok_or (int64_at payload 32) BadCall ≡ Ok timeout → ok_or (reader client payload frames) BadCall ≡ Ok call → ok_or (waiting_in reader client payload frames) BadCall ≡ Ok (call, timeout)
waiting_ok reader client payload frames call timeout t read =
    ap (λ (wait : Option Wait). ok_or wait BadCall)
    (waiting_again client payload frames timeout reader call (ok_or_some (int64_at payload 32) BadCall timeout t) (ok_or_some (reader client payload frames) BadCall call read))

-- ---- refused

module _ (client : ClientKey) (payload : List ℕ) (frames : List Frame) where
  unknown_by : (reader : Option Reader) → (wait_by client payload frames reader ≡ Err UnknownType) ↔ (reader ≡ None)
  unknown_by None = ((λ e. refl), (λ none. refl))
  unknown_by (Some reader) = ((λ e. absurd (bad_not_unknown (waiting_in reader client payload frames) e)), (λ none. absurd cc))

  memory_by : (reader : Option Reader) → wait_by client payload frames reader ≢ Err Memory
  memory_by None e = cc
  memory_by (Some reader) e = bad_not_memory (waiting_in reader client payload frames) e

pub only_unknown : (client : ClientKey) (message : Message) → (map_wait_of client message ≡ Err UnknownType) ↔ All (λ kind. kind_of (first_payload message.frames) ≢ Some kind) (kinds_in map_waits)
unfolding map_wait_of
only_unknown client message =
    let payload : List ℕ = first_payload message.frames in
    let by = unknown_by client payload (drop 1 message.frames) (reader_in (kind_of payload) map_waits) in
    let among = none_in (kind_of payload) map_waits in
    ((λ e. among.0 (by.0 e)), (λ all. by.1 (among.1 all)))

pub not_wanting : (client : ClientKey) (message : Message) → map_wait_of client message ≢ Err Memory
unfolding map_wait_of
not_wanting client message = let payload : List ℕ = first_payload message.frames in memory_by client payload (drop 1 message.frames) (reader_in (kind_of payload) map_waits)
