-- Only another type is unknown, and no message says that memory is wanting.
use Rattle.std.proofs.Common.{◌≡◌, ◌≢◌, ◌↔◌, ℕ, List, Option, Some, None, All, Err, refl}
use Rattle.std.specs.Prelude.{drop}
use Rattle.grid_base.specs.declared.names.ClientKey.{ClientKey}
use Rattle.grid_base.specs.declared.refusal.CallRefused.TheVariants.{UnknownType, Memory}
use Rattle.frame_codec.specs.declared.frames.Frame.{Frame}
use Rattle.fixed_fields.specs.Requests.{kind_of, kinds_in, reader_in}
use Rattle.fixed_fields.proofs.Refusals.{bad_not_unknown, bad_not_memory}
use Rattle.fixed_fields.proofs.Tables.{none_in}
use Rattle.message_frames.specs.Assembly.{first_payload}
use Rattle.message_frames.specs.declared.message.Message.{Message}
use Rattle.map_codecs.specs.Calls.{Reader, map_calls, call_by, map_call_of}

module _ (client : ClientKey) (payload : List ℕ) (frames : List Frame) where
  unknown_by : (reader : Option Reader) → (call_by client payload frames reader ≡ Err UnknownType) ↔ (reader ≡ None)
  unknown_by None = ((λ e. refl), (λ none. refl))
  unknown_by (Some reader) = ((λ e. absurd (bad_not_unknown (reader client payload frames) e)), (λ none. absurd cc))

  memory_by : (reader : Option Reader) → call_by client payload frames reader ≢ Err Memory
  memory_by None e = cc
  memory_by (Some reader) e = bad_not_memory (reader client payload frames) e

pub only_unknown : (client : ClientKey) (message : Message) → (map_call_of client message ≡ Err UnknownType) ↔ All (λ kind. kind_of (first_payload message.frames) ≢ Some kind) (kinds_in map_calls)
unfolding map_call_of
only_unknown client message =
    let payload : List ℕ = first_payload message.frames in
    let by = unknown_by client payload (drop 1 message.frames) (reader_in (kind_of payload) map_calls) in
    let among = none_in (kind_of payload) map_calls in
    ((λ e. among.0 (by.0 e)), (λ all. by.1 (among.1 all)))

pub not_wanting : (client : ClientKey) (message : Message) → map_call_of client message ≢ Err Memory
unfolding map_call_of
not_wanting client message = let payload : List ℕ = first_payload message.frames in memory_by client payload (drop 1 message.frames) (reader_in (kind_of payload) map_calls)
