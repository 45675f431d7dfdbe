-- What the table of calls keeps: each call that is read has its type's row, and is one of its client that its message spells.
use Rattle.std.proofs.Common.{◌≡◌, ℕ, ◌+◌, ◌<◌, List, [], ◌∷◌, ◌++◌, length, take, drop, All, Option, Some, None, Ok, refl, sym, ap, ◌∙◌, arith}
use Rattle.std.specs.Prelude.{IfSome}
use Rattle.std.specs.Int.{w32, to_le_bytes}
use Rattle.std.proofs.lemmas.List.{length-take, length-drop, take-append-drop}
use Rattle.std.proofs.lemmas.List.Elements.{All-nil, All-head, All-drop}
use Rattle.grid_base.specs.Limits.{FitsFrame, values_in, MapCallFits}
use Rattle.grid_base.specs.Names.{map_of, key_of}
use Rattle.grid_base.specs.declared.names.ClientKey.{ClientKey}
use Rattle.grid_base.specs.declared.calls.MapCall.{MapCall}
use Rattle.grid_base.specs.declared.calls.MapCall.TheVariants.{Put, Set, PutIfAbsent, Get, ContainsKey, Remove, Delete, Replace, ReplaceIfSame, RemoveIfSame, TryLock, Unlock, IsLocked, ForceUnlock, PutMaxIdle, SetMaxIdle}
use Rattle.grid_base.specs.declared.refusal.CallRefused.TheVariants.{BadCall}
use Rattle.frame_codec.specs.Laws.{IsBytes}
use Rattle.frame_codec.specs.declared.frames.Frame.{Frame}
use Rattle.fixed_fields.specs.Requests.{kind_of, reader_in}
use Rattle.fixed_fields.proofs.ReadFields.{kind_is, take_on}
use Rattle.fixed_fields.proofs.Steps.{ok_or_some}
use Rattle.fixed_fields.proofs.Tables.{EachRow, reader_keeps}
use Rattle.message_frames.specs.Assembly.{first_payload}
use Rattle.message_frames.specs.declared.message.Message.{Message}
use Rattle.map_codecs.specs.Calls.{Reader, map_calls, call_by, map_call_of}
use Rattle.map_codecs.specs.SpelledCalls.{IsKey, IsCallOf, kind_of_call, caller_of, numbers_of, parts_of, processor_of, call_fields, HasArrived, Spells}
use Rattle.map_codecs.proofs.Numbers.{spelled_at}
use Rattle.map_codecs.proofs.Reading.{IsRead, bare_read, keyed_read, leased_read, valued_read, compared_read, stored_read, idle_read, executed_read}

abbrev pub IsCallRead : ClientKey → List ℕ → List Frame → MapCall → Type 0
IsCallRead client payload frames call = IsRead client payload frames (map_of call) (key_of call) (caller_of call) (numbers_of call) (parts_of call) (values_in call) (processor_of call)

-- Of a row, calls of its type are read, whole.
abbrev IsRow : ℕ → Reader → Type 0
IsRow kind reader = (client : ClientKey) (payload : List ℕ) (frames : List Frame) (call : MapCall) → reader client payload frames ≡ Some call → IsCallRead client payload frames call × (kind_of_call call ≡ kind)

abbrev Is : ClientKey → List ℕ → List Frame → ℕ → MapCall → Type 0
Is client payload frames kind call = IsCallRead client payload frames call × (kind_of_call call ≡ kind)

every_row : EachRow IsRow map_calls
every_row = (
  (λ client payload frames call e. stored_read client payload frames Put (Is client payload frames _) call e (λ name key owner value ttl h. (h, refl))),
  (
    (λ client payload frames call e. keyed_read client payload frames Get (Is client payload frames _) call e (λ name key owner h. (h, refl))),
    (
      (λ client payload frames call e. keyed_read client payload frames Remove (Is client payload frames _) call e (λ name key owner h. (h, refl))),
      (
        (λ client payload frames call e. valued_read client payload frames Replace (Is client payload frames _) call e (λ name key owner value h. (h, refl))),
        (
          (λ client payload frames call e. compared_read client payload frames ReplaceIfSame (Is client payload frames _) call e (λ name key owner test value h. (h, refl))),
          (
            (λ client payload frames call e. keyed_read client payload frames ContainsKey (Is client payload frames _) call e (λ name key owner h. (h, refl))),
            (
              (λ client payload frames call e. valued_read client payload frames RemoveIfSame (Is client payload frames _) call e (λ name key owner test h. (h, refl))),
              (
                (λ client payload frames call e. keyed_read client payload frames Delete (Is client payload frames _) call e (λ name key owner h. (h, refl))),
                (
                  (λ client payload frames call e. stored_read client payload frames PutIfAbsent (Is client payload frames _) call e (λ name key owner value ttl h. (h, refl))),
                  (
                    (λ client payload frames call e. stored_read client payload frames Set (Is client payload frames _) call e (λ name key owner value ttl h. (h, refl))),
                    (
                      (λ client payload frames call e. leased_read client payload frames TryLock (Is client payload frames _) call e (λ name key owner lease h. (h, refl))),
                      (
                        (λ client payload frames call e. bare_read client payload frames IsLocked (Is client payload frames _) call e (λ name key h. (h, refl))),
                        (
                          (λ client payload frames call e. keyed_read client payload frames Unlock (Is client payload frames _) call e (λ name key owner h. (h, refl))),
                          (
                            (λ client payload frames call e. executed_read client payload frames (Is client payload frames _) call e (λ name key owner number argument h. (h, refl))),
                            (
                              (λ client payload frames call e. bare_read client payload frames ForceUnlock (Is client payload frames _) call e (λ name key h. (h, refl))),
                              (
                                (λ client payload frames call e. idle_read client payload frames PutMaxIdle (Is client payload frames _) call e (λ name key owner value ttl idle h. (h, refl))),
                                (
                                  (λ client payload frames call e. idle_read client payload frames SetMaxIdle (Is client payload frames _) call e (λ name key owner value ttl idle h. (h, refl))),
                                  tt,
                                ),
                              ),
                            ),
                          ),
                        ),
                      ),
                    ),
                  ),
                ),
              ),
            ),
          ),
        ),
      ),
    ),
  ),
)

-- ---- found

module _ (client : ClientKey) (payload : List ℕ) (frames : List Frame) where
  by_reader : (kind : Option ℕ) (reader : Option Reader) (call : MapCall) → reader_in kind map_calls ≡ reader → call_by client payload frames reader ≡ Ok call → IsCallRead client payload frames call × (kind ≡ Some (kind_of_call call))
  by_reader kind None call r e = absurd cc
  by_reader None (Some reader) call r e = absurd cc
  by_reader (Some kind) (Some reader) call r e =
      let row = reader_keeps IsRow map_calls every_row kind reader r client payload frames call (ok_or_some (reader client payload frames) BadCall call e) in
      (row.0, ap Some (sym row.1))

-- A call that was read is the client's, and what it brings was read of the frames behind the first.
pub call_read : (client : ClientKey) (message : Message) (call : MapCall) → map_call_of client message ≡ Ok call
    → IsCallRead client (first_payload message.frames) (drop 1 message.frames) call × (kind_of (first_payload message.frames) ≡ Some (kind_of_call call))
unfolding map_call_of
call_read client message call e =
    let payload : List ℕ = first_payload message.frames in
    by_reader client payload (drop 1 message.frames) (kind_of payload) (reader_in (kind_of payload) map_calls) call refl e

-- the fields are the front of the payload
pub fields_joined : (payload : List ℕ) (kind : ℕ) (fields : List ℕ) → to_le_bytes w32 kind ≡ take 4 payload → fields ≡ take (length fields) (drop 16 payload)
    → payload ≡ (to_le_bytes w32 kind ++ take 12 (drop 4 payload) ++ fields) ++ drop (16 + length fields) payload
fields_joined payload kind fields k f =
    let size : ℕ = length fields in
    let front : to_le_bytes w32 kind ++ take 12 (drop 4 payload) ++ fields ≡ take (16 + size) payload =
    (λ i. k i ++ take 12 (drop 4 payload) ++ f i) ∙ ap (λ (t : List ℕ). t ++ take size (drop 16 payload)) (take_on 4 12 payload) ∙ take_on 16 size payload
    in
    sym (take-append-drop (16 + size) payload) ∙ ap (λ (t : List ℕ). t ++ drop (16 + size) payload) (sym front)

pub first_bytes : (frames : List Frame) → All (λ frame. IsBytes frame.payload) frames → IsBytes (first_payload frames)
first_bytes [] all = All-nil (λ byte. byte < 256)
first_bytes (frame ∷ frames) all = All-head (λ frame. IsBytes frame.payload) frame frames all

pub call_found : (client : ClientKey) (message : Message) (call : MapCall) → HasArrived message → map_call_of client message ≡ Ok call → IsCallOf client call × Spells message call
call_found client message call arrived e =
    let payload : List ℕ = first_payload message.frames in
    let read = call_read client message call e in
    let bytes = first_bytes message.frames arrived.bytes in
    let later = All-drop (λ frame. IsBytes frame.payload) 1 message.frames arrived.bytes in
    let numbers = spelled_at payload bytes 16 (numbers_of call) arrived.head read.0.stand in (
      record { name = read.0.text; key = read.0.long; caller = read.0.whose; numbers = numbers.fit; processor = read.0.run later },
      record {
        between = take 12 (drop 4 payload);
        twelve = omega (arith, numbers.room, length-take 12 (drop 4 payload), length-drop 4 payload);
        more = drop (16 + length (call_fields call)) payload;
        fields = fields_joined payload (kind_of_call call) (call_fields call) (kind_is payload (kind_of_call call) bytes read.1) numbers.fields;
        parts = read.0.held later;
      },
    )

-- ---- what else holds of a call that is read

pub call_fits : (client : ClientKey) (message : Message) (call : MapCall) → All (λ frame. FitsFrame frame.payload) message.frames → map_call_of client message ≡ Ok call → MapCallFits call
call_fits client message call fit e = (call_read client message call e).0.fit (All-drop (λ frame. FitsFrame frame.payload) 1 message.frames fit)

pub call_keyed : (client : ClientKey) (message : Message) (call : MapCall) → map_call_of client message ≡ Ok call → IsKey (key_of call)
call_keyed client message call e = (call_read client message call e).0.long

pub call_whose : (client : ClientKey) (message : Message) (call : MapCall) → map_call_of client message ≡ Ok call → IfSome (caller_of call) (λ owner. owner.client ≡ client)
call_whose client message call e = (call_read client message call e).0.whose
