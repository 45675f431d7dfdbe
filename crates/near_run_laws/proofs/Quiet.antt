-- The answers to a near client's opening say nothing to its machine.
use Rattle.std.proofs.Common.{◌≡◌, ℕ, ◌+◌, ◌≤◌, ◌<◌, ◌^◌, true, false, ◌||◌, ◌==◌, List, [], ◌∷◌, ◌++◌, length, drop, Some, None, Err, refl, ap, sym, ◌∙◌, append-nil, arith, lit<, lit≤}
use Rattle.std.specs.Prelude.{ℤ, pos}
use Rattle.std.specs.Int.{w32, w64, to_le_bytes}
use Rattle.std.specs.Int.RustNames.{FitsSigned}
use Rattle.std.proofs.lemmas.Bool.Decides.{nat_tests}
use Rattle.std.proofs.lemmas.Int.{ints}
use Rattle.std.proofs.lemmas.List.Elements.{All-nil, All-cons}
use Rattle.grid_base.specs.declared.TheConstants.{PARTITIONS}
use Rattle.grid_base.specs.declared.refusal.CallRefused.TheVariants.{UnknownType}
use Rattle.frame_codec.specs.Frames.{frame_bytes}
use Rattle.frame_codec.specs.Laws.{IsWithinLimits, spelled}
use Rattle.frame_codec.specs.declared.frames.Frame.{Frame}
use Rattle.fixed_fields.specs.Fields.{int32_bytes, int64_bytes, uuid_bytes}
use Rattle.fixed_fields.specs.Requests.{kind_of, reader_of, reader_in}
use Rattle.fixed_fields.specs.Responses.{single, response_head, response_of}
use Rattle.fixed_fields.proofs.Written.{int64_read, kind_read}
use Rattle.message_frames.specs.Assembly.{first_payload}
use Rattle.message_frames.specs.Writing.{IsWritable}
use Rattle.message_frames.specs.declared.message.Message.{Message}
use Rattle.client_codecs.specs.Authentications.{authentication_kind}
use Rattle.client_codecs.specs.Replies.{status_of, authentication_reply}
use Rattle.map_codecs.specs.Calls.{get_kind}
use Rattle.event_codecs.specs.Events.{events, event_by, event_of}
use Rattle.event_codecs.specs.Registrations.{invalidation_listener_kind, cluster_view_kind}
use Rattle.event_codecs.specs.declared.registration.Registration.TheVariants as registration
use Rattle.request_codecs.specs.Openings.{authentication_correlation, invalidations_correlation, rows_correlation}
use Rattle.replay_run.specs.Runs.{registered_reply}
use Rattle.near_run_laws.specs.Hearings.{HasHead}
use Rattle.near_run_laws.specs.Pieces.{IsQuiet}

-- bytes that are those of a message which says nothing
pub record IsQuietMessage (bytes : List ℕ) : Type 0 where
  pub frames : List Frame
  pub is : bytes ≡ spelled frames
  pub writable : IsWritable frames
  pub head : 13 ≤ length (first_payload frames)
  pub quiet : IsQuiet (record { frames = frames })

no_event : (message : Message) (kind : ℕ) → kind_of (first_payload message.frames) ≡ Some kind → reader_of kind events ≡ None → event_of message ≡ Err UnknownType
unfolding event_of
no_event message kind is none =
    ap (λ x. event_by (first_payload message.frames) (drop 1 message.frames) (reader_in x events)) is
    ∙ ap (event_by (first_payload message.frames) (drop 1 message.frames)) none

-- a response of one frame
module _ (kind : ℕ) (correlation : ℤ) (fields : List ℕ) (low : kind + 1 < 2 ^ 31) (fits : FitsSigned w64 correlation) (short : length fields ≤ 1000) (apart : ((kind + 1 == 0) || (kind + 1 == get_kind + 1)) ≡ false) (none : reader_of (kind + 1) events ≡ None) where
  abbrev it : Frame
  it = record { flags = single; payload = response_head kind correlation ++ fields }

  within : IsWithinLimits it
  within = (lit< tt, omega (arith, short))

  head_read : HasHead (record { frames = it ∷ [] }) (kind + 1) correlation
  head_read = record {
    kind_is = kind_read (kind + 1) (int64_bytes correlation ++ 0 ∷ fields) low;
    correlation_is = int64_read (to_le_bytes w32 (kind + 1)) (to_le_bytes w32 (kind + 1) ++ int64_bytes correlation) (int64_bytes correlation) correlation fits refl refl (0 ∷ fields);
  }

  pub quiet_response : IsQuietMessage (response_of kind correlation fields)
  quiet_response = record {
    frames = it ∷ [];
    is = sym (append-nil (frame_bytes it));
    writable = record { each = All-cons IsWithinLimits it [] within (All-nil IsWithinLimits); form = refl; fits = grind (arith, nat_tests, short) };
    head = omega arith;
    quiet = record { kind = kind + 1; correlation = correlation; head = head_read; apart = apart; unknown = no_event (record { frames = it ∷ [] }) (kind + 1) head_read.kind_is none };
  }

pub quiet_authentication : (member : ℕ) → IsQuietMessage (authentication_reply authentication_correlation true member)
quiet_authentication member = quiet_response authentication_kind authentication_correlation (status_of true ∷ uuid_bytes (Some (member + 1)) ++ int32_bytes (pos PARTITIONS)) (lit< tt) (omega (arith, ints)) (lit≤ tt) refl refl

pub quiet_invalidations : (name : List ℕ) → IsQuietMessage (registered_reply (registration.Invalidations invalidations_correlation name))
quiet_invalidations name = quiet_response invalidation_listener_kind invalidations_correlation [] (lit< tt) (omega (arith, ints)) (lit≤ tt) refl refl

pub quiet_rows : IsQuietMessage (registered_reply (registration.Rows rows_correlation))
quiet_rows = quiet_response cluster_view_kind rows_correlation [] (lit< tt) (omega (arith, ints)) (lit≤ tt) refl refl
