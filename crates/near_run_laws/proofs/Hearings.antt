-- The answer to a get, and a refusal, are heard.
use Rattle.std.proofs.Common.{◌≡◌, ℕ, ◌+◌, ◌<◌, ◌≤◌, false, List, [], ◌∷◌, ◌++◌, length, Some, None, refl, ap, sym, ◌∙◌, append-nil, arith, lit<, lit≤}
use Rattle.std.specs.Prelude.{ℤ, pos, All}
use Rattle.std.specs.Int.{w32, w64, to_le_bytes}
use Rattle.std.specs.Int.RustNames.{FitsSigned}
use Rattle.std.proofs.lemmas.Int.{ints}
use Rattle.std.proofs.lemmas.List.Elements.{All-nil, All-cons}
use Rattle.grid_base.specs.declared.calls.Answer.TheVariants.{Maybe}
use Rattle.frame_codec.specs.Frames.{frame_bytes}
use Rattle.frame_codec.specs.Laws.{spelled, IsWithinLimits}
use Rattle.frame_codec.specs.declared.frames.Frame.{Frame}
use Rattle.fixed_fields.specs.Fields.{int32_bytes, int64_bytes}
use Rattle.fixed_fields.specs.Replies.{reply_bytes}
use Rattle.fixed_fields.specs.Responses.{single, head_bytes}
use Rattle.fixed_fields.proofs.Written.{int64_read, int32_read, kind_read}
use Rattle.message_frames.specs.Assembly.{most_messages, first_payload}
use Rattle.message_frames.specs.Grammar.{Piece, Unfragmented, piece_frames}
use Rattle.message_frames.specs.Laws.{IsStream}
use Rattle.message_frames.specs.Messages.{Heard, heard}
use Rattle.message_frames.specs.Writing.{IsWritable}
use Rattle.message_frames.proofs.HeardPieces.{grammar_heard}
use Rattle.message_frames.proofs.Written.{written_message_heard}
use Rattle.map_codecs.specs.Calls.{get_kind}
use Rattle.grid_client.specs.Nears.{Value}
use Rattle.grid_client.specs.Calls.{correlation_of}
use Rattle.grid_client.specs.Messages.{value_of}
use Rattle.near_run_laws.specs.Maps.{value_said}
use Rattle.near_run_laws.specs.Hearings.{value_frame, answer_frames, EveryAnswerIsHeard, EveryRefusalIsHeard}

fits_number : (number : ℕ) → number < most_messages → FitsSigned w64 (correlation_of number)
fits_number number small = omega (arith, ints, small)

-- one message alone
alone : (frames : List Frame) → IsWritable frames → 13 ≤ length (first_payload frames) → heard false (spelled frames) ≡ record { messages = record { frames = frames } ∷ []; fault = None }
alone frames w head =
    let stream : IsStream 13 [] = record { frames = All-nil (λ (piece : Piece). All IsWithinLimits (piece_frames piece)); rules = refl } in
    let adds = written_message_heard 13 [] frames w (record { stream = stream; head = head; number = lit< tt }) in
    ap (heard false) (sym (append-nil (spelled frames))) ∙ grammar_heard false (Unfragmented frames ∷ []) adds.stream

-- ---- the answer

pub its_bytes : (number : ℕ) (value : Value) → reply_bytes get_kind (correlation_of number) (Maybe value) ≡ spelled (answer_frames number value)
its_bytes number None = ap (λ b. frame_bytes (record { flags = 0xC000; payload = head_bytes (get_kind + 1) (correlation_of number) }) ++ b) (sym (append-nil (frame_bytes (value_frame None))))
its_bytes number (Some value) = ap (λ b. frame_bytes (record { flags = 0xC000; payload = head_bytes (get_kind + 1) (correlation_of number) }) ++ b) (sym (append-nil (frame_bytes (value_frame (Some value)))))

its_value : (number : ℕ) (value : Value) → value_of (record { frames = answer_frames number value }) ≡ Some value
its_value number None = refl
its_value number (Some value) = refl

pub every_answer_is_heard : EveryAnswerIsHeard
every_answer_is_heard number value small writable = record {
  only = only;
  head = record {
    kind_is = kind_read (get_kind + 1) (int64_bytes (correlation_of number) ++ 0 ∷ []) (lit< tt);
    correlation_is = int64_read (to_le_bytes w32 (get_kind + 1)) (to_le_bytes w32 (get_kind + 1) ++ int64_bytes (correlation_of number)) (int64_bytes (correlation_of number)) (correlation_of number) (fits_number number small) refl refl (0 ∷ []);
  };
  brings = its_value number value;
  read = ap (λ (h : Heard). value_said h.messages) only ∙ its_value number value;
}
  where
    only : heard false (reply_bytes get_kind (correlation_of number) (Maybe value)) ≡ record { messages = record { frames = answer_frames number value } ∷ []; fault = None }
    only = ap (heard false) (its_bytes number value) ∙ alone (answer_frames number value) writable (lit≤ tt)

-- ---- a refusal

abbrev error_frame : ℤ → ℤ → ℤ → Frame
error_frame correlation code first = record { flags = single; payload = head_bytes 0 correlation ++ int32_bytes code ++ int32_bytes first ++ int32_bytes (pos 0) }

pub error_writable : (correlation code first : ℤ) → IsWritable (error_frame correlation code first ∷ [])
error_writable correlation code first = record {
  each = All-cons IsWithinLimits (error_frame correlation code first) [] (lit< tt, lit≤ tt) (All-nil IsWithinLimits);
  form = refl;
  fits = refl;
}

pub every_refusal_is_heard : EveryRefusalIsHeard
every_refusal_is_heard number code first small fits = record {
  only = ap (heard false) (sym (append-nil (frame_bytes (error_frame (correlation_of number) code first)))) ∙ alone (error_frame (correlation_of number) code first ∷ []) (error_writable (correlation_of number) code first) (lit≤ tt);
  head = record {
    kind_is = kind_read 0 (int64_bytes (correlation_of number) ++ 0 ∷ int32_bytes code ++ int32_bytes first ++ int32_bytes (pos 0)) (lit< tt);
    correlation_is = int64_read (to_le_bytes w32 0) (to_le_bytes w32 0 ++ int64_bytes (correlation_of number)) (int64_bytes (correlation_of number)) (correlation_of number) (fits_number number small) refl refl (0 ∷ int32_bytes code ++ int32_bytes first ++ int32_bytes (pos 0));
  };
  code_is = int32_read (head_bytes 0 (correlation_of number)) (int32_bytes first ++ int32_bytes (pos 0)) code fits;
}
