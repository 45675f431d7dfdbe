-- What is said goes on any stream of a connection that has room for it.
use Rattle.std.proofs.Common.{◌≡◌, ℕ, ◌+◌, ℤ, SFits, to_z, of_z, true, List, [], ◌∷◌, ◌++◌, length, None, Result, Ok, Err, refl, sym, ap, subst, ◌∙◌, append_assoc, append-nil, arith}
use Rattle.std.specs.Prelude.{IfOk, OnOk, IfSome}
use Rattle.std.specs.List.{flat_map}
use Rattle.std.specs.Int.{w32, w64}
use Rattle.std.specs.Int.RustNames.{FitsSigned}
use Rattle.std.proofs.lemmas.Int.{to_z-of_z}
use Rattle.std.proofs.lemmas.List.Concat.{flat_map-append}
use Rattle.frame_codec.specs.Laws.{spelled}
use Rattle.message_frames.specs.Grammar.{Piece, Unfragmented, piece_bytes, stream_of}
use Rattle.message_frames.specs.Messages.{prefix_of, Heard, heard, messages_of}
use Rattle.message_frames.specs.Writing.{IsWritable}
use Rattle.message_frames.specs.declared.message.Message.{Message}
use Rattle.message_frames.proofs.HeardPieces.{grammar_heard}
use Rattle.message_frames.proofs.Written.{written_message_heard}
use Rattle.map_codecs.specs.SpelledCalls.{processor_of}
use Rattle.session_core.specs.Items.{identity_after_all, item_of, items_from, items_of}
use Rattle.session_core.proofs.ItemLists.{items_from-append, identity_after_all-append}
use Rattle.compose_words.specs.Sayings.{message_of, bytes_of, IsPlaced, IsNamed, IsKeyed, FitMessage}
use Rattle.compose_words.specs.Sessions.{item_said, identity_said, Say}
use Rattle.compose_words.specs.Layout.{payload_of, parts_of, frames_with, NumbersFit}
use Rattle.compose_words.specs.declared.refusal.SayRefused.{SayRefused}
use Rattle.compose_words.specs.declared.saying.Saying.{Saying}
use Rattle.compose_words.specs.declared.saying.Saying.TheVariants.{Hello, Ping, OnMap, OnQueue, WaitOnMap, WaitOnQueue, Listen}
use Rattle.compose_words.specs.Waits.{plain_of}
use Rattle.compose_words.specs.declared.saying.MapWait.{MapWait}
use Rattle.compose_words.specs.declared.saying.MapWait.TheVariants as map_waits
use Rattle.compose_words.proofs.Layouts.{form_is, frames_are}
use Rattle.compose_words.proofs.Heads.{said_head}
use Rattle.compose_words.proofs.Items.{CanBeSaid, item_is_said, client_is_said}

no_processor : (wait : MapWait) → IfSome (processor_of (plain_of wait)) (FitsSigned w32)
no_processor (map_waits.Lock name key owner lease) = tt
no_processor (map_waits.Put name key owner value ttl) = tt

-- what is named and keyed can be said
pub can_be_said : (saying : Saying) → IsNamed saying → IsKeyed saying → NumbersFit saying → CanBeSaid saying
can_be_said (Hello authentication) named keyed numbers = record { fits = numbers; text = named }
can_be_said Ping named keyed numbers = tt
can_be_said (OnMap call) named keyed numbers = record { name = named; key = keyed; numbers = numbers.0; processor = numbers.1 }
can_be_said (OnQueue partition call) named keyed numbers = named
can_be_said (WaitOnMap wait timeout) named keyed numbers =
    (record { name = named; key = keyed; numbers = numbers.0; processor = no_processor wait }, numbers.1)
can_be_said (WaitOnQueue partition wait timeout) named keyed numbers = (named, numbers)
can_be_said (Listen listening) named keyed numbers = named

pub writable : (correlation : ℤ) (saying : Saying) → FitMessage (message_of correlation saying).frames → IsWritable (message_of correlation saying).frames
writable correlation saying fit = record { each = fit.each; form = form_is correlation saying; fits = fit.all }

-- one piece more
stream_longer : (pieces : List Piece) (piece : Piece) → stream_of true pieces ++ piece_bytes piece ≡ stream_of true (pieces ++ piece ∷ [])
stream_longer pieces piece =
    append_assoc (prefix_of true) (flat_map piece_bytes pieces) (piece_bytes piece)
    ∙ ap (λ bytes. prefix_of true ++ (flat_map piece_bytes pieces ++ bytes)) (sym (append-nil (piece_bytes piece)))
    ∙ ap (λ bytes. prefix_of true ++ bytes) (sym (flat_map-append piece_bytes pieces (piece ∷ [])))

-- one message more
item_longer : (conn member : ℕ) (messages : List Message) (message : Message)
    → items_of conn member (messages ++ message ∷ []) ≡ items_of conn member messages ++ item_of member (record { conn = conn; number = length messages }) (identity_after_all conn None messages) message ∷ []
item_longer conn member messages message =
    let here : 0 + length messages ≡ length messages = omega arith in
    items_from-append conn member 0 None messages (message ∷ [])
    ∙ ap (λ n. items_from conn member 0 None messages ++ items_from conn member n (identity_after_all conn None messages) (message ∷ [])) here

module _ (correlation : ℤ) (saying : Saying) (fits : SFits w64 correlation) (placed : IsPlaced saying) (can : CanBeSaid saying) where
  items_longer : (conn member : ℕ) (messages : List Message)
      → items_of conn member (messages ++ message_of correlation saying ∷ [])
      ≡ items_of conn member messages ++ item_said member (record { conn = conn; number = length messages }) (identity_after_all conn None messages) correlation saying ∷ []
  items_longer conn member messages =
      item_longer conn member messages (message_of correlation saying)
      ∙ ap (λ item. items_of conn member messages ++ item ∷ []) (item_is_said member (record { conn = conn; number = length messages }) (identity_after_all conn None messages) correlation saying fits placed can)

  client_longer : (conn : ℕ) (messages : List Message) → identity_after_all conn None (messages ++ message_of correlation saying ∷ []) ≡ identity_said conn (identity_after_all conn None messages) saying
  client_longer conn messages =
      identity_after_all-append conn None messages (message_of correlation saying ∷ [])
      ∙ client_is_said 0 (record { conn = conn; number = 0 }) conn (identity_after_all conn None messages) correlation saying fits placed can

  pub said_bytes : FitMessage (message_of correlation saying).frames → Say correlation saying (bytes_of correlation saying)
  said_bytes fit pieces room =
      let frames = (message_of correlation saying).frames in
      let piece = Unfragmented frames in
      let adds = written_message_heard 16 pieces frames (writable correlation saying fit) (record { stream = room.stream; head = (said_head correlation saying fits placed).long; number = room.number }) in
      let before = ap (λ (h : Heard). h.messages) (grammar_heard true pieces room.stream) in
      let after = ap (heard true) (stream_longer pieces piece) ∙ grammar_heard true (pieces ++ piece ∷ []) adds.stream in
      let messages : messages_of true (stream_of true pieces ++ bytes_of correlation saying) ≡ messages_of true (stream_of true pieces) ++ message_of correlation saying ∷ [] =
      ap (λ (h : Heard). h.messages) after ∙ adds.messages ∙ ap (λ ms. ms ++ message_of correlation saying ∷ []) (sym before)
      in
      record {
        piece = piece;
        spelled = refl;
        stream = adds.stream;
        whole = ap (λ (h : Heard). h.fault) after;
        item = λ conn member. ap (items_of conn member) messages ∙ items_longer conn member (messages_of true (stream_of true pieces));
        client = λ conn. ap (identity_after_all conn None) messages ∙ client_longer conn (messages_of true (stream_of true pieces));
      }

pub laid_out_same : (correlation : ℤ) (saying : Saying) (payload : List ℕ) (parts : List (List ℕ)) → payload ≡ payload_of correlation saying → parts ≡ parts_of saying
    → frames_with payload parts ≡ (message_of correlation saying).frames
laid_out_same correlation saying payload parts p ps = (λ i. frames_with (p i) (ps i)) ∙ sym (frames_are correlation saying)

-- what was laid out of its payload and its parts is the message,
pub laid_out_is : (r : Result (List ℕ) SayRefused) (correlation : ℤ) (saying : Saying) (payload : List ℕ) (parts : List (List ℕ)) → payload ≡ payload_of correlation saying → parts ≡ parts_of saying
    → IfOk r (λ bytes. bytes ≡ spelled (frames_with payload parts)) → IfOk r (λ bytes. bytes ≡ bytes_of correlation saying)
laid_out_is (Err why) correlation saying payload parts p ps bytes = tt
laid_out_is (Ok bytes) correlation saying payload parts p ps is = is ∙ ap spelled (laid_out_same correlation saying payload parts p ps)

-- and says it
pub laid_out_says : (r : Result (List ℕ) SayRefused) (correlation : ℤ) (saying : Saying) (payload : List ℕ) (parts : List (List ℕ)) → SFits w64 correlation → IsPlaced saying → CanBeSaid saying
    → payload ≡ payload_of correlation saying → parts ≡ parts_of saying → IfOk r (λ bytes. bytes ≡ spelled (frames_with payload parts)) → OnOk r (FitMessage (frames_with payload parts)) → IfOk r (λ bytes. Say correlation saying bytes)
laid_out_says (Err why) correlation saying payload parts fits placed can p ps bytes fit = tt
laid_out_says (Ok bytes) correlation saying payload parts fits placed can p ps is fit =
    let same = laid_out_same correlation saying payload parts p ps in
    subst (Say correlation saying) (sym (is ∙ ap spelled same)) (said_bytes correlation saying fits placed can (subst FitMessage same fit))

-- a correlation is the same as its bits say
pub same_payload : (n : ℤ) (saying : Saying) → SFits w64 n → payload_of (to_z w64 (of_z w64 n)) saying ≡ payload_of n saying
same_payload n saying fits = ap (λ (k : ℤ). payload_of k saying) (to_z-of_z w64 n fits)
