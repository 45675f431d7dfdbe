-- What is heard of a text are the messages of the pieces that its frames split into. A fault stands behind them.
use Rattle.std.proofs.Common.{◌≡◌, ℕ, ◌+◌, ◌<◌, ◌≤◌, true, List, [], ◌∷◌, ◌++◌, length, flat_map, All, Option, Some, None, refl, sym, ◌∙◌, ap, subst, arith, append_assoc, length-append}
use Rattle.std.proofs.lemmas.List.Concat.{flat_map-append}
use Rattle.frame_codec.specs.Frames.{frame_bytes, frame_length}
use Rattle.frame_codec.specs.FrameReaders.{shown}
use Rattle.frame_codec.specs.Laws.{IsWithinLimits, IsSpelledBy, placed, unplaced, spelled}
use Rattle.frame_codec.specs.Reading.{Reading, Front, Partial, Whole, Wrong, front, reading}
use Rattle.frame_codec.specs.declared.frames.Frame.{Frame}
use Rattle.frame_codec.specs.declared.frames.PlacedFrame.{PlacedFrame}
use Rattle.frame_codec.specs.declared.malformed.Malformed.{Malformed}
use Rattle.frame_codec.proofs.Spelling.{length-frame_bytes}
use Rattle.message_frames.specs.Assembly.{Chain, Assembly, Assembled, assembled, nothing_yet}
use Rattle.message_frames.specs.Grammar.{Piece, is_piece, piece_frames, piece_bytes}
use Rattle.message_frames.specs.Merging.{merged, chains_after, complete_after}
use Rattle.message_frames.specs.Messages.{prefix_of, shortest_start, Heard, heard_of_frames, or_else}
use Rattle.message_frames.specs.Laws.{IsStream, NoPieceBegins, what_is_heard_is_in_the_grammar}
use Rattle.message_frames.proofs.Composition.{stays_failed}
use Rattle.message_frames.proofs.FaultPlaces.{AreInRange, PlaceInRange, fault_in_range}
use Rattle.message_frames.proofs.FrameLaws.{read, spelled_by}
use Rattle.message_frames.proofs.HeardPieces.{all_front, all_back, AreFrames, pieces_within, spelled_pieces, last_of_stream, frames_read, unplaced-append}
use Rattle.message_frames.proofs.NextPiece.{TakesNext}
use Rattle.message_frames.proofs.Prefixes.{behind, heard_behind}
use Rattle.message_frames.proofs.Refused.{NoFault, piece_may}
use Rattle.message_frames.proofs.Streams.{frames_in, state_after, pieces_go_on, Split, split, messages_of_pieces, unplaced-placed, placed-append, place_behind, rests_between, state_sound}

-- places

place_behind_is : (at : ℕ) (frames : List Frame) → place_behind at frames ≡ at + length (spelled frames)
place_behind_is at [] = omega arith
place_behind_is at (frame ∷ frames) = omega (arith, place_behind_is (at + frame_length frame) frames, length-append (frame_bytes frame) (spelled frames), length-frame_bytes frame)

in_range : (low high at : ℕ) (frames : List Frame) → low ≤ at → at + length (spelled frames) ≤ high → AreInRange low high (placed at frames)
in_range low high at [] below within = tt
in_range low high at (frame ∷ frames) below within =
    let size = length-frame_bytes frame in
    let all = length-append (frame_bytes frame) (spelled frames) in
    ((below, omega (arith, within, size, all)), in_range low high (at + frame_length frame) frames (omega (arith, below)) (omega (arith, within, size, all)))

-- A fault that is shown at a place is of a text that isn't empty.
shown_there : (at : ℕ) (rest : List ℕ) (fault : Malformed) → shown at (front rest) ≡ Some fault → (fault.at ≡ at) × (0 < length rest)
shown_there at [] fault e = absurd (let clash : None ≡ Some fault = e in cc)
shown_there at (byte ∷ rest) fault e = (go (front (byte ∷ rest)) e, omega arith)
  where
    go : (f : Front) → shown at f ≡ Some fault → fault.at ≡ at
    go Partial s = absurd (cc)
    go (Whole frame) s = absurd (cc)
    go (Wrong why) s = let same : record { at = at; why = why } ≡ fault = cc in sym (ap (λ (m : Malformed). m.at) same)

neither : (first second : Option Malformed) → or_else first second ≡ None → (first ≡ None) × (second ≡ None)
neither None second e = (refl, e)
neither (Some fault) second e = absurd (cc)

-- Behind pieces there is no message in progress.
between_is : (low high : ℕ) (chains : List Chain) (complete : ℕ) (pieces : List Piece) → PlaceInRange low high (state_after chains complete pieces).place
between_is low high chains complete [] = tt
between_is low high chains complete (piece ∷ pieces) = between_is low high (chains_after piece chains) (complete_after piece complete) pieces

no_fault_first : (shortest : ℕ) (first others : List PlacedFrame) (s : Assembly) → NoFault (assembled shortest (first ++ others) s) → NoFault (assembled shortest first s)
no_fault_first shortest first others s none = go (assembled shortest first s).fault refl
  where
    go : (fault : Option Malformed) → (assembled shortest first s).fault ≡ fault → NoFault (assembled shortest first s)
    go None e = e
    go (Some fault) e = let clash : Some fault ≡ None = sym e ∙ sym (ap (λ (a : Assembled). a.fault) (stays_failed shortest first others s fault e)) ∙ none in absurd (cc)

-- Bytes behind a prefix, their reading, and its frames split into pieces and more.
module _ (shortest n : ℕ) (bytes : List ℕ) (by : IsSpelledBy n bytes (reading n bytes)) (s : Split shortest [] 0 (unplaced (reading n bytes).frames)) where
  abbrev rest : List ℕ
  rest = spelled s.more ++ (reading n bytes).rest

  abbrev state : Assembly
  state = state_after [] 0 s.pieces

  abbrev more_placed : List PlacedFrame
  more_placed = placed (place_behind n (frames_in s.pieces)) s.more

  limits : All IsWithinLimits (frames_in s.pieces ++ s.more)
  limits = subst (All IsWithinLimits) s.whole by.limits

  split_stream : IsStream shortest s.pieces
  split_stream = record { frames = pieces_within s.pieces (all_front IsWithinLimits (frames_in s.pieces) s.more limits); rules = s.rules }

  bytes_are : bytes ≡ flat_map piece_bytes s.pieces ++ rest
  bytes_are =
      by.whole
      ∙ ap (λ fs. spelled fs ++ (reading n bytes).rest) s.whole
      ∙ ap (λ bs. bs ++ (reading n bytes).rest) (flat_map-append frame_bytes (frames_in s.pieces) s.more)
      ∙ append_assoc (spelled (frames_in s.pieces)) (spelled s.more) (reading n bytes).rest
      ∙ ap (λ bs. bs ++ rest) (sym (spelled_pieces s.pieces))

  frames_are : (reading n bytes).frames ≡ placed n (frames_in s.pieces) ++ more_placed
  frames_are = by.places ∙ ap (placed n) s.whole ∙ placed-append n (frames_in s.pieces) s.more

  split_messages : (heard_of_frames shortest (reading n bytes)).messages ≡ merged [] s.pieces
  split_messages =
      ap (λ fs. (assembled shortest fs nothing_yet).messages) frames_are
      ∙ messages_of_pieces shortest n s.pieces more_placed s.rules
      (λ t. s.rest (subst (TakesNext shortest state.chains state.complete) (unplaced-placed (place_behind n (frames_in s.pieces)) s.more) t))

  -- A piece of the rest's bytes is one of its frames.
  front_of_more : (piece : Piece) (more : List ℕ) → AreFrames piece → rest ≡ piece_bytes piece ++ more → (later : List Frame) × (s.more ≡ piece_frames piece ++ later)
  front_of_more piece more frames e =
      let left = read 0 s.more (reading n bytes).rest (all_back IsWithinLimits (frames_in s.pieces) s.more limits) by.rest_is_none in
      let right = frames_read 0 (piece_frames piece) more frames in
      let later = unplaced (reading right.0 more).frames in
      let same : placed 0 s.more ≡ placed 0 (piece_frames piece) ++ (reading right.0 more).frames = ap (λ (q : Reading). q.frames) (sym left ∙ ap (reading 0) e ∙ right.1) in (
        later,
        sym (unplaced-placed 0 s.more) ∙ ap unplaced same ∙ unplaced-append (placed 0 (piece_frames piece)) (reading right.0 more).frames
            ∙ ap (λ fs. fs ++ later) (unplaced-placed 0 (piece_frames piece)),
      )

  split_complete : NoPieceBegins shortest s.pieces rest
  split_complete piece more longer e =
      let last = last_of_stream shortest s.pieces piece longer in
      let front = front_of_more piece more last.0 e in
      s.rest (record { piece = piece; more = front.0; front = front.1; form = last.1.0; may = last.1.1 })

  -- the fault

  more_fault : (assembled shortest (reading n bytes).frames nothing_yet).fault ≡ (assembled shortest more_placed state).fault
  more_fault = ap (λ fs. (assembled shortest fs nothing_yet).fault) frames_are ∙ ap (λ (a : Assembled). a.fault) (pieces_go_on shortest n s.pieces more_placed [] 0 s.rules)

  low_is : place_behind n (frames_in s.pieces) ≡ n + length (flat_map piece_bytes s.pieces)
  low_is = place_behind_is n (frames_in s.pieces) ∙ ap (λ bs. n + length bs) (sym (spelled_pieces s.pieces))

  long : length bytes ≡ length (flat_map piece_bytes s.pieces) + (length (spelled s.more) + length (reading n bytes).rest)
  long = ap length bytes_are ∙ length-append (flat_map piece_bytes s.pieces) rest ∙ ap (λ m. length (flat_map piece_bytes s.pieces) + m) (length-append (spelled s.more) (reading n bytes).rest)

  frame_fault_there : (fault : Malformed) → (reading n bytes).fault ≡ Some fault → (n + length (flat_map piece_bytes s.pieces) ≤ fault.at) × (fault.at < n + length bytes)
  frame_fault_there fault e =
      let all = frames_in s.pieces ++ s.more in
      let text : bytes ≡ spelled all ++ (reading n bytes).rest = by.whole ∙ ap (λ fs. spelled fs ++ (reading n bytes).rest) s.whole in
      let exact = read n all (reading n bytes).rest limits by.rest_is_none in
      let shows : shown (n + length (spelled all)) (front (reading n bytes).rest) ≡ Some fault = ap (λ (q : Reading). q.fault) (sym exact ∙ sym (ap (reading n) text)) ∙ e in
      let there = shown_there (n + length (spelled all)) (reading n bytes).rest fault shows in
      let parts : length (spelled all) ≡ length (flat_map piece_bytes s.pieces) + length (spelled s.more) =
      ap length (flat_map-append frame_bytes (frames_in s.pieces) s.more) ∙ length-append (spelled (frames_in s.pieces)) (spelled s.more)
      ∙ ap (λ bs. length bs + length (spelled s.more)) (sym (spelled_pieces s.pieces)) in
      (omega (arith, there.0, parts), omega (arith, there.0, there.1, parts, long))

  message_fault_there : (fault : Malformed) → (assembled shortest (reading n bytes).frames nothing_yet).fault ≡ Some fault →
      (n + length (flat_map piece_bytes s.pieces) ≤ fault.at) × (fault.at < n + length bytes)
  message_fault_there fault e =
      fault_in_range (n + length (flat_map piece_bytes s.pieces)) (n + length bytes) shortest more_placed state fault
      (in_range (n + length (flat_map piece_bytes s.pieces)) (n + length bytes) (place_behind n (frames_in s.pieces)) s.more (omega (arith, low_is)) (omega (arith, low_is, long)))
      (between_is (n + length (flat_map piece_bytes s.pieces)) (n + length bytes) [] 0 s.pieces) (sym more_fault ∙ e)

  split_fault : (fault : Malformed) → (heard_of_frames shortest (reading n bytes)).fault ≡ Some fault → (n + length (flat_map piece_bytes s.pieces) ≤ fault.at) × (fault.at < n + length bytes)
  split_fault fault e = go (assembled shortest (reading n bytes).frames nothing_yet).fault refl
    where
      go : (found : Option Malformed) → (assembled shortest (reading n bytes).frames nothing_yet).fault ≡ found → (n + length (flat_map piece_bytes s.pieces) ≤ fault.at) × (fault.at < n + length bytes)
      go None f = frame_fault_there fault (sym (ap (λ g. or_else g (reading n bytes).fault) f) ∙ e)
      go (Some found) f =
          let same : Some found ≡ Some fault = sym (ap (λ g. or_else g (reading n bytes).fault) f) ∙ e in
          message_fault_there fault (f ∙ same)

  split_sound : (heard_of_frames shortest (reading n bytes)).fault ≡ None → (piece : Piece) (more : List ℕ) → AreFrames piece → is_piece piece ≡ true → rest ≡ piece_bytes piece ++ more → ⊥
  split_sound none piece more frames form e =
      let front = front_of_more piece more frames e in
      let at = place_behind n (frames_in s.pieces) in
      let first = placed at (piece_frames piece) in
      let others = placed (place_behind at (piece_frames piece)) front.0 in
      let no_fault : (assembled shortest (first ++ others) state).fault ≡ None =
      ap (λ fs. (assembled shortest fs state).fault) (sym (ap (placed at) front.1 ∙ placed-append at (piece_frames piece) front.0))
      ∙ sym more_fault ∙ (neither (assembled shortest (reading n bytes).frames nothing_yet).fault (reading n bytes).fault none).0 in
      let sound = state_sound shortest s.pieces s.rules in
      let may = piece_may shortest piece first state.chains state.complete sound.few sound.counted (unplaced-placed at (piece_frames piece)) form
      (subst (λ t. NoFault (assembled shortest first t)) (rests_between [] 0 s.pieces) (no_fault_first shortest first others state no_fault)) in
      s.rest (record { piece = piece; more = front.0; front = front.1; form = form; may = may })

pub heard_pieces : what_is_heard_is_in_the_grammar
heard_pieces prefix bytes are = (
  s.pieces,
  rest shortest n bytes by s,
  record {
    whole = ap (λ bs. prefix_of prefix ++ bs) (bytes_are shortest n bytes by s) ∙ sym (append_assoc (prefix_of prefix) (flat_map piece_bytes s.pieces) (rest shortest n bytes by s));
    stream = split_stream shortest n bytes by s;
    messages = ap (λ (h : Heard). h.messages) (heard_behind prefix bytes) ∙ split_messages shortest n bytes by s;
    complete = split_complete shortest n bytes by s;
    fault = λ fault e.
        let there = split_fault shortest n bytes by s fault (sym (ap (λ (h : Heard). h.fault) (heard_behind prefix bytes)) ∙ e) in
        (omega (arith, there.0, length-append (prefix_of prefix) (flat_map piece_bytes s.pieces)), omega (arith, there.1, length-append (prefix_of prefix) bytes));
    sound = λ none. split_sound shortest n bytes by s (sym (ap (λ (h : Heard). h.fault) (heard_behind prefix bytes)) ∙ none);
  },
)
  where
    shortest : ℕ
    shortest = shortest_start prefix

    n : ℕ
    n = behind prefix

    by : IsSpelledBy (behind prefix) bytes (reading (behind prefix) bytes)
    by = spelled_by (behind prefix) bytes are

    s : Split (shortest_start prefix) [] 0 (unplaced (reading (behind prefix) bytes).frames)
    s = split (shortest_start prefix) [] 0 (unplaced (reading (behind prefix) bytes).frames)
