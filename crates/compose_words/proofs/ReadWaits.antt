-- What is said of a call that may wait is read as that call of the client, with its timeout.
use Rattle.std.proofs.Common.{◌≡◌, ℕ, ◌<◌, ℤ, [], Option, Some, None, Result, Ok, Err, refl, sym, ap, ◌∙◌}
use Rattle.std.specs.Prelude.{drop}
use Rattle.std.specs.Int.{w64}
use Rattle.std.specs.Int.RustNames.{FitsSigned}
use Rattle.grid_base.specs.declared.TheConstants.{PARTITIONS}
use Rattle.grid_base.specs.declared.names.ClientKey.{ClientKey}
use Rattle.grid_base.specs.declared.calls.MapCall.{MapCall}
use Rattle.grid_base.specs.declared.calls.QueueCall.{QueueCall}
use Rattle.grid_base.specs.declared.calls.GridCall.TheVariants as calls
use Rattle.grid_base.specs.declared.refusal.CallRefused.{CallRefused}
use Rattle.grid_base.specs.declared.refusal.CallRefused.TheVariants.{UnknownType}
use Rattle.fixed_fields.specs.Requests.{kind_of as kind_in, reader_in}
use Rattle.message_frames.specs.Assembly.{first_payload}
use Rattle.message_frames.specs.declared.message.Message.{Message}
use Rattle.map_codecs.specs.Calls.{Reader as MapReader, map_calls}
use Rattle.map_codecs.specs.Waits.{map_waits, wait_by as map_wait_by, map_wait_of}
use Rattle.map_codecs.specs.SpelledWaits as map_spelled
use Rattle.map_codecs.proofs.WaitReading.{wait_sent as map_wait_sent}
use Rattle.queue_codecs.specs.Calls.{Reader as QueueReader, queue_calls, call_by as queue_call_by, queue_call_of}
use Rattle.queue_codecs.specs.SpelledCalls as queues
use Rattle.queue_codecs.specs.Waits.{queue_waits, wait_by as queue_wait_by, queue_wait_of}
use Rattle.queue_codecs.specs.SpelledWaits as queue_spelled
use Rattle.queue_codecs.proofs.WaitReading.{wait_sent as queue_wait_sent}
use Rattle.session_core.specs.Items.{either_call, call_of, either_wait, wait_of}
use Rattle.compose_words.specs.Sessions.{made_by}
use Rattle.compose_words.specs.Waits.{plain_of, plain_of_queue, kind_of_map_wait, kind_of_queue_wait}
use Rattle.compose_words.specs.declared.saying.MapWait.{MapWait}
use Rattle.compose_words.specs.declared.saying.MapWait.TheVariants as map_said
use Rattle.compose_words.specs.declared.saying.QueueWait.{QueueWait}
use Rattle.compose_words.specs.declared.saying.QueueWait.TheVariants as queue_said
use Rattle.compose_words.proofs.ReadCalls.{IsSayable, clients_call, no_map_kind}

-- ---- other types

pub no_queue_kind : (message : Message) (kind : ℕ) → kind_in (first_payload message.frames) ≡ Some kind → reader_in (Some kind) queue_calls ≡ None → queue_call_of message ≡ Err UnknownType
unfolding queue_call_of
no_queue_kind message kind e none =
    let payload = first_payload message.frames in
    ap (λ (found : Option ℕ). queue_call_by payload (drop 1 message.frames) (reader_in found queue_calls)) e
    ∙ ap (λ (reader : Option QueueReader). queue_call_by payload (drop 1 message.frames) reader) none

pub no_map_wait : (client : ClientKey) (message : Message) (kind : ℕ) → kind_in (first_payload message.frames) ≡ Some kind → reader_in (Some kind) map_waits ≡ None → map_wait_of client message ≡ Err UnknownType
unfolding map_wait_of
no_map_wait client message kind e none =
    let payload = first_payload message.frames in
    ap (λ (found : Option ℕ). map_wait_by client payload (drop 1 message.frames) (reader_in found map_waits)) e
    ∙ ap (λ (reader : Option MapReader). map_wait_by client payload (drop 1 message.frames) reader) none

pub no_queue_wait : (message : Message) (kind : ℕ) → kind_in (first_payload message.frames) ≡ Some kind → reader_in (Some kind) queue_waits ≡ None → queue_wait_of message ≡ Err UnknownType
unfolding queue_wait_of
no_queue_wait message kind e none =
    let payload = first_payload message.frames in
    ap (λ (found : Option ℕ). queue_wait_by payload (drop 1 message.frames) (reader_in found queue_waits)) e
    ∙ ap (λ (reader : Option QueueReader). queue_wait_by payload (drop 1 message.frames) reader) none

-- a type that no call has
abbrev pub IsNoCall : ℕ → Type 0
IsNoCall kind = (reader_in (Some kind) map_calls ≡ None) × (reader_in (Some kind) queue_calls ≡ None)

-- nor one that may wait
abbrev pub IsNoWait : ℕ → Type 0
IsNoWait kind = (reader_in (Some kind) map_waits ≡ None) × (reader_in (Some kind) queue_waits ≡ None)

pub no_call : (client : ClientKey) (message : Message) (kind : ℕ) → kind_in (first_payload message.frames) ≡ Some kind → IsNoCall kind → call_of client message ≡ Err UnknownType
no_call client message kind e none =
    ap (λ (found : Result MapCall CallRefused). either_call found (queue_call_of message)) (no_map_kind client message kind e none.0)
    ∙ ap (λ (found : Result QueueCall CallRefused). either_call (Err UnknownType) found) (no_queue_kind message kind e none.1)

pub no_wait : (client : ClientKey) (message : Message) (kind : ℕ) → kind_in (first_payload message.frames) ≡ Some kind → IsNoWait kind → wait_of client message ≡ Err UnknownType
no_wait client message kind e none =
    ap (λ (found : Result (MapCall × ℤ) CallRefused). either_wait found (queue_wait_of message)) (no_map_wait client message kind e none.0)
    ∙ ap (λ (found : Result (QueueCall × ℤ) CallRefused). either_wait (Err UnknownType) found) (no_queue_wait message kind e none.1)

pub map_wait_no_call : (wait : MapWait) → IsNoCall (kind_of_map_wait wait)
map_wait_no_call (map_said.Lock name key owner lease) = (refl, refl)
map_wait_no_call (map_said.Put name key owner value ttl) = (refl, refl)

pub queue_wait_no_call : (wait : QueueWait) → IsNoCall (kind_of_queue_wait wait)
queue_wait_no_call (queue_said.Offer name value) = (refl, refl)
queue_wait_no_call (queue_said.Poll name) = (refl, refl)

-- ---- on an entry

may_wait : (client : ClientKey) (wait : MapWait) → map_spelled.kind_of_wait (made_by client (plain_of wait)) ≡ Some (kind_of_map_wait wait)
may_wait client (map_said.Lock name key owner lease) = refl
may_wait client (map_said.Put name key owner value ttl) = refl

same_wait : (client : ClientKey) (correlation partition timeout : ℤ) (wait : MapWait)
    → map_spelled.wait_message correlation partition (kind_of_map_wait wait) (made_by client (plain_of wait), timeout) [] [] ≡ map_spelled.wait_message correlation partition (kind_of_map_wait wait) (plain_of wait, timeout) [] []
same_wait client correlation partition timeout (map_said.Lock name key owner lease) = refl
same_wait client correlation partition timeout (map_said.Put name key owner value ttl) = refl

pub map_wait_read : (client : ClientKey) (correlation partition timeout : ℤ) (wait : MapWait) → IsSayable (plain_of wait) → FitsSigned w64 timeout
    → wait_of client (map_spelled.wait_message correlation partition (kind_of_map_wait wait) (plain_of wait, timeout) [] []) ≡ Ok (calls.Map (made_by client (plain_of wait)), timeout)
map_wait_read client correlation partition timeout wait s fits =
    let kind = kind_of_map_wait wait in
    let call = made_by client (plain_of wait) in
    let message = map_spelled.wait_message correlation partition kind (plain_of wait, timeout) [] [] in
    let read : map_wait_of client message ≡ Ok (call, timeout) =
    ap (map_wait_of client) (sym (same_wait client correlation partition timeout wait))
    ∙ map_wait_sent client correlation partition kind (call, timeout) [] [] (record { call = clients_call client (plain_of wait) s; timeout = fits }) (may_wait client wait)
    in
    ap (λ (found : Result (MapCall × ℤ) CallRefused). either_wait found (queue_wait_of message)) read

-- ---- on a queue

queue_may_wait : (wait : QueueWait) → queue_spelled.kind_of_wait (plain_of_queue wait) ≡ Some (kind_of_queue_wait wait)
queue_may_wait (queue_said.Offer name value) = refl
queue_may_wait (queue_said.Poll name) = refl

no_map_reader : (wait : QueueWait) → reader_in (Some (kind_of_queue_wait wait)) map_waits ≡ None
no_map_reader (queue_said.Offer name value) = refl
no_map_reader (queue_said.Poll name) = refl

pub queue_wait_read : (client : ClientKey) (correlation : ℤ) (partition : ℕ) (timeout : ℤ) (wait : QueueWait)
    → kind_in (first_payload (queue_spelled.wait_message correlation partition (kind_of_queue_wait wait) (plain_of_queue wait, timeout) [] []).frames) ≡ Some (kind_of_queue_wait wait)
    → queues.IsCall (plain_of_queue wait) → FitsSigned w64 timeout → partition < PARTITIONS
    → wait_of client (queue_spelled.wait_message correlation partition (kind_of_queue_wait wait) (plain_of_queue wait, timeout) [] []) ≡ Ok (calls.Queue (plain_of_queue wait), timeout)
queue_wait_read client correlation partition timeout wait e is fits within =
    let kind = kind_of_queue_wait wait in
    let call = plain_of_queue wait in
    let message = queue_spelled.wait_message correlation partition kind (call, timeout) [] [] in
    let read : queue_wait_of message ≡ Ok (call, timeout) = queue_wait_sent correlation partition kind (call, timeout) [] [] (record { call = is; timeout = fits }) (queue_may_wait wait) within in
    ap (λ (found : Result (MapCall × ℤ) CallRefused). either_wait found (queue_wait_of message)) (no_map_wait client message kind e (no_map_reader wait))
    ∙ ap (λ (found : Result (QueueCall × ℤ) CallRefused). either_wait (Err UnknownType) found) read
