-- A stream that breaks off in the midst of a piece.
use Rattle.std.proofs.Common.{◌≡◌, ℕ, ◌+◌, Bool, true, false, List, [], ◌∷◌, ◌++◌, length, flat_map, All, Option, Some, None, refl, sym, ◌∙◌, ap, subst, arith, append_assoc, append-nil, length-append}
use Rattle.std.proofs.lemmas.Bool.{and_parts, false≢true, both_ways, not-true}
use Rattle.std.proofs.lemmas.List.Concat.{flat_map-append}
use Rattle.std.proofs.lemmas.List.Elements.{All-head, All-append}
use Rattle.frame_codec.specs.Frames.{frame_bytes, frame_length}
use Rattle.frame_codec.specs.FrameReaders.{shown}
use Rattle.frame_codec.specs.Laws.{IsWithinLimits, BeginsWithNoFrame, placed, unplaced, spelled}
use Rattle.frame_codec.specs.Reading.{Reading, Whole, front, reading}
use Rattle.frame_codec.specs.declared.frames.Frame.{Frame}
use Rattle.frame_codec.specs.declared.malformed.Malformed.{Malformed}
use Rattle.frame_codec.proofs.Fronts.{front-append_same_whole}
use Rattle.frame_codec.proofs.Spelling.{front-frame_bytes, length-frame_bytes}
use Rattle.message_frames.specs.Assembly.{is_unfragmented, assembled, nothing_yet}
use Rattle.message_frames.specs.Grammar.{Piece, Unfragmented, Fragment, is_piece, ends_at_final, piece_frames, piece_bytes, stream_of}
use Rattle.message_frames.specs.Messages.{prefix_of, shortest_start, Heard, heard, messages_of, fault_of}
use Rattle.message_frames.specs.Laws.{IsStream, messages_in, a_stream_is_heard_so_far, a_fault_is_outside_the_grammar}
use Rattle.message_frames.specs.Merging.{may_come}
use Rattle.message_frames.proofs.HeardPieces.{all_front, all_back, AreFrames, frames_within, spelled_pieces, last_of_stream, stream_front, grammar_heard}
use Rattle.message_frames.proofs.FrameLaws.{read}
use Rattle.message_frames.proofs.NextPiece.{TakesNext}
use Rattle.message_frames.proofs.Pieces.{last_is_final, others_follow}
use Rattle.message_frames.proofs.Places.{FrontFits, front_fits_text}
use Rattle.message_frames.proofs.Staying.{faults_stay}
use Rattle.message_frames.proofs.Streams.{frames_in, state_after, messages_of_pieces, unplaced-placed, placed-append, place_behind}
use Rattle.message_frames.proofs.Prefixes.{behind, heard_behind}

-- two lists joined in two ways: one of the first parts begins the other
pub data Cut {X : Type 0} (a b c d : List X) : Type 0 where
  Within : (x : X) (left : List X) → c ≡ a ++ x ∷ left → Cut a b c d
  Beyond : (more : List X) → a ≡ c ++ more → more ++ b ≡ d → Cut a b c d

cut_behind : {X : Type 0} (x y : X) (a b c d : List X) → x ≡ y → Cut a b c d → Cut (x ∷ a) b (y ∷ c) d
cut_behind x y a b c d same (Within z left e) = Within z left (ap (λ w. w ∷ c) (sym same) ∙ ap (λ cs. x ∷ cs) e)
cut_behind x y a b c d same (Beyond more e f) = Beyond more (ap (λ w. w ∷ a) same ∙ ap (λ ws. y ∷ ws) e) f

pub cut : {X : Type 0} (a b c d : List X) → a ++ b ≡ c ++ d → Cut a b c d
cut a b [] d e = Beyond a refl e
cut [] b (y ∷ c) d e = Within y c refl
cut (x ∷ a) b (y ∷ c) d e =
    let same : x ≡ y = cc in
    let tails : a ++ b ≡ c ++ d = cc in
    cut_behind x y a b c d same (cut a b c d tails)

-- a piece isn't a proper front of another

nothing_more : (xs ys : List Frame) → ends_at_final xs ≡ true → ends_at_final (xs ++ ys) ≡ true → ys ≡ []
nothing_more [] ys ends all = absurd (false≢true ends)
nothing_more (x ∷ []) [] ends all = refl
nothing_more (x ∷ []) (y ∷ ys) ends all = absurd (both_ways _ (others_follow x y ys all).0 (last_is_final x ends))
nothing_more (x ∷ z ∷ xs) ys ends all = nothing_more (z ∷ xs) ys (others_follow x z xs ends).1 (others_follow x z (xs ++ ys) all).1

pub no_piece_begins_another : (first whole : Piece) (more : List Frame) → is_piece first ≡ true → is_piece whole ≡ true →
    piece_frames whole ≡ piece_frames first ++ more → more ≡ []
no_piece_begins_another (Unfragmented a) (Unfragmented b) more form other e =
    nothing_more a more (and_parts _ _ form).1 (subst (λ fs. ends_at_final fs ≡ true) e (and_parts _ _ other).1)
no_piece_begins_another (Unfragmented []) (Fragment k b) more form other e = absurd (false≢true form)
no_piece_begins_another (Unfragmented (x ∷ a)) (Fragment k b) more form other e =
    let same : k ≡ x = cc in
    let apart = not-true _ (and_parts _ _ (and_parts _ _ other).0).0 in
    absurd (both_ways _ (subst (λ f. is_unfragmented f ≡ false) same apart) (and_parts _ _ form).0)
no_piece_begins_another (Fragment h a) (Unfragmented []) more form other e = absurd (false≢true other)
no_piece_begins_another (Fragment h a) (Unfragmented (x ∷ b)) more form other e =
    let same : h ≡ x = cc in
    let apart = not-true _ (and_parts _ _ (and_parts _ _ form).0).0 in
    absurd (both_ways _ (subst (λ f. is_unfragmented f ≡ false) same apart) (and_parts _ _ other).0)
no_piece_begins_another (Fragment h a) (Fragment k b) more form other e =
    let tails : b ≡ a ++ more = cc in
    nothing_more a more (and_parts _ _ form).1 (subst (λ fs. ends_at_final fs ≡ true) tails (and_parts _ _ other).1)

-- frames that break off: whole ones, and a part of the next

pub record Broken (frames : List Frame) (begun : List ℕ) : Type 0 where
  pub whole : List Frame
  pub frame : Frame
  pub later : List Frame
  pub part : List ℕ
  pub next : ℕ
  pub left : List ℕ
  pub frames_are : frames ≡ whole ++ frame ∷ later
  pub begun_is : begun ≡ spelled whole ++ part
  pub frame_is : frame_bytes frame ≡ part ++ next ∷ left

broken_at : (frame : Frame) (frames : List Frame) (begun : List ℕ) (byte : ℕ) (more : List ℕ) → Cut begun (byte ∷ more) (frame_bytes frame) (spelled frames) →
    ((rest : List ℕ) → rest ++ byte ∷ more ≡ spelled frames → Broken frames rest) → Broken (frame ∷ frames) begun
broken_at frame frames begun byte more (Within next left e) later =
    record { whole = []; frame = frame; later = frames; part = begun; next = next; left = left; frames_are = refl; begun_is = refl; frame_is = e }
broken_at frame frames begun byte more (Beyond rest e f) later =
    let b = later rest f in
    record {
      whole = frame ∷ b.whole;
      frame = b.frame;
      later = b.later;
      part = b.part;
      next = b.next;
      left = b.left;
      frames_are = ap (λ fs. frame ∷ fs) b.frames_are;
      begun_is = e ∙ ap (λ bs. frame_bytes frame ++ bs) b.begun_is ∙ sym (append_assoc (frame_bytes frame) (spelled b.whole) b.part);
      frame_is = b.frame_is;
    }

pub broken : (frames : List Frame) (begun : List ℕ) (byte : ℕ) (more : List ℕ) → begun ++ byte ∷ more ≡ spelled frames → Broken frames begun
broken [] [] byte more e = absurd (cc)
broken [] (b ∷ begun) byte more e = absurd (cc)
broken (frame ∷ frames) begun byte more e = broken_at frame frames begun byte more (cut begun (byte ∷ more) (frame_bytes frame) (spelled frames) e) (λ rest f. broken frames rest byte more f)

-- A part of a frame's bytes begins with no frame.
part_begins_none : (frame : Frame) (part : List ℕ) (next : ℕ) (left : List ℕ) → IsWithinLimits frame → frame_bytes frame ≡ part ++ next ∷ left → BeginsWithNoFrame part
part_begins_none frame part next left limits e other whole =
    let is_frame : front (frame_bytes frame) ≡ Whole frame = ap front (sym (append-nil (frame_bytes frame))) ∙ front-frame_bytes frame [] limits in
    let is_other : front (frame_bytes frame) ≡ Whole other = ap front e ∙ front-append_same_whole part (next ∷ left) other whole in
    let same : frame ≡ other = cc in
    absurd (omega (arith, (subst (FrontFits part) whole (front_fits_text part)).0, ap frame_length same, length-frame_bytes frame, ap length e, length-append part (next ∷ left)))

stream_of_more : (prefix : Bool) (pieces : List Piece) (piece : Piece) (begun more : List ℕ) → begun ++ more ≡ piece_bytes piece →
    (stream_of prefix pieces ++ begun) ++ more ≡ stream_of prefix (pieces ++ piece ∷ [])
stream_of_more prefix pieces piece begun more e =
    append_assoc (stream_of prefix pieces) begun more
    ∙ ap (λ bs. stream_of prefix pieces ++ bs) (e ∙ sym (append-nil (piece_bytes piece)))
    ∙ append_assoc (prefix_of prefix) (flat_map piece_bytes pieces) (flat_map piece_bytes (piece ∷ []))
    ∙ ap (λ bs. prefix_of prefix ++ bs) (sym (flat_map-append piece_bytes pieces (piece ∷ [])))

no_fault_so_far : (prefix : Bool) (pieces : List Piece) (piece : Piece) (begun more : List ℕ) → IsStream (shortest_start prefix) (pieces ++ piece ∷ []) →
    begun ++ more ≡ piece_bytes piece → fault_of prefix (stream_of prefix pieces ++ begun) ≡ None
no_fault_so_far prefix pieces piece begun more s e = go (fault_of prefix (stream_of prefix pieces ++ begun)) refl
  where
    text : List ℕ
    text = stream_of prefix pieces ++ begun

    go : (fault : Option Malformed) → fault_of prefix (stream_of prefix pieces ++ begun) ≡ fault → fault_of prefix (stream_of prefix pieces ++ begun) ≡ None
    go None f = f
    go (Some fault) f =
        let whole = ap (heard prefix) (stream_of_more prefix pieces piece begun more e) ∙ grammar_heard prefix (pieces ++ piece ∷ []) s in
        let clash : Some fault ≡ None = sym f ∙ ap (λ (h : Heard). h.fault) (sym (faults_stay prefix text more fault f) ∙ whole) in absurd (cc)

messages_so_far : (prefix : Bool) (pieces : List Piece) (piece : Piece) (begun : List ℕ) → IsStream (shortest_start prefix) (pieces ++ piece ∷ []) →
    Broken (piece_frames piece) begun → messages_of prefix (stream_of prefix pieces ++ begun) ≡ messages_in pieces
messages_so_far prefix pieces piece begun s b =
    ap (messages_of prefix) (append_assoc (prefix_of prefix) (flat_map piece_bytes pieces) begun)
    ∙ ap (λ (h : Heard). h.messages) (heard_behind prefix (flat_map piece_bytes pieces ++ begun))
    ∙ ap (λ bs. (assembled shortest (reading n bs).frames nothing_yet).messages) bytes_are
    ∙ ap (λ (r : Reading). (assembled shortest r.frames nothing_yet).messages) exact
    ∙ ap (λ fs. (assembled shortest fs nothing_yet).messages) (placed-append n (frames_in pieces) b.whole)
    ∙ messages_of_pieces shortest n pieces (placed (place_behind n (frames_in pieces)) b.whole) (stream_front shortest pieces (piece ∷ []) s).rules none
  where
    shortest : ℕ
    shortest = shortest_start prefix

    n : ℕ
    n = behind prefix

    last : AreFrames piece × ((is_piece piece ≡ true) × (may_come (shortest_start prefix) (state_after [] 0 pieces).chains (state_after [] 0 pieces).complete piece ≡ true))
    last = last_of_stream shortest pieces piece s

    limits : All IsWithinLimits (b.whole ++ b.frame ∷ b.later)
    limits = subst (All IsWithinLimits) b.frames_are last.0

    all : All IsWithinLimits (frames_in pieces ++ b.whole)
    all = All-append IsWithinLimits (frames_in pieces) b.whole (frames_within pieces (stream_front shortest pieces (piece ∷ []) s).frames) (all_front IsWithinLimits b.whole (b.frame ∷ b.later) limits)

    bytes_are : flat_map piece_bytes pieces ++ begun ≡ spelled (frames_in pieces ++ b.whole) ++ b.part
    bytes_are =
        ap (λ bs. bs ++ begun) (spelled_pieces pieces)
        ∙ ap (λ bs. spelled (frames_in pieces) ++ bs) b.begun_is
        ∙ sym (append_assoc (spelled (frames_in pieces)) (spelled b.whole) b.part)
        ∙ ap (λ bs. bs ++ b.part) (sym (flat_map-append frame_bytes (frames_in pieces) b.whole))

    part_none : BeginsWithNoFrame b.part
    part_none = part_begins_none b.frame b.part b.next b.left (All-head IsWithinLimits b.frame b.later (all_back IsWithinLimits b.whole (b.frame ∷ b.later) limits)) b.frame_is

    exact : reading n (spelled (frames_in pieces ++ b.whole) ++ b.part)
        ≡ record { frames = placed n (frames_in pieces ++ b.whole); fault = shown (n + length (spelled (frames_in pieces ++ b.whole))) (front b.part); rest = b.part }
    exact = read n (frames_in pieces ++ b.whole) b.part all part_none

    none : TakesNext (shortest_start prefix) (state_after [] 0 pieces).chains (state_after [] 0 pieces).complete (unplaced (placed (place_behind (behind prefix) (frames_in pieces)) b.whole)) → ⊥
    none t =
        let front = sym (unplaced-placed (place_behind n (frames_in pieces)) b.whole) ∙ t.front in
        let whole : piece_frames piece ≡ piece_frames t.piece ++ (t.more ++ b.frame ∷ b.later) =
        b.frames_are ∙ ap (λ fs. fs ++ b.frame ∷ b.later) front ∙ append_assoc (piece_frames t.piece) t.more (b.frame ∷ b.later) in
        let nothing = no_piece_begins_another t.piece piece (t.more ++ b.frame ∷ b.later) t.form last.1.0 whole in
        absurd (omega (arith, ap length nothing, length-append t.more (b.frame ∷ b.later)))

pub so_far_heard : a_stream_is_heard_so_far
so_far_heard prefix pieces piece begun [] s e some = absurd (some refl)
so_far_heard prefix pieces piece begun (byte ∷ more) s e some =
    ap (λ ms. record { messages = ms; fault = fault_of prefix (stream_of prefix pieces ++ begun) }) (messages_so_far prefix pieces piece begun s (broken (piece_frames piece) begun byte more e))
    ∙ ap (λ f. record { messages = messages_in pieces; fault = f }) (no_fault_so_far prefix pieces piece begun (byte ∷ more) s e)

pub fault_outside : a_fault_is_outside_the_grammar
fault_outside prefix text more pieces some s e = go (fault_of prefix text) refl
  where
    go : (fault : Option Malformed) → fault_of prefix text ≡ fault → ⊥
    go None f = some f
    go (Some fault) f =
        let clash : Some fault ≡ None =
        sym f ∙ ap (λ (h : Heard). h.fault) (sym (faults_stay prefix text more fault f) ∙ ap (heard prefix) e ∙ grammar_heard prefix pieces s) in
        absurd (cc)
