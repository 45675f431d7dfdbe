-- The bytes of pieces are heard as the pieces' messages, and what is heard are messages of pieces.
use Rattle.std.proofs.Common.{◌≡◌, ℕ, ◌+◌, ◌-◌, Bool, true, List, [], ◌∷◌, ◌++◌, length, flat_map, All, None, refl, sym, ◌∙◌, ap, subst, append_assoc, append-nil}
use Rattle.std.proofs.lemmas.Bool.{and_parts, and_from}
use Rattle.std.proofs.lemmas.List.Concat.{flat_map-append}
use Rattle.std.proofs.lemmas.List.Elements.{All-nil, All-cons, All-head, All-tail, All-append}
use Rattle.frame_codec.specs.Frames.{frame_bytes}
use Rattle.frame_codec.specs.Laws.{IsWithinLimits, IsBytes, BeginsWithNoFrame, placed, unplaced, spelled}
use Rattle.frame_codec.specs.Reading.{Reading, Whole, Partial, reading}
use Rattle.frame_codec.specs.declared.frames.Frame.{Frame}
use Rattle.frame_codec.specs.declared.frames.PlacedFrame.{PlacedFrame}
use Rattle.message_frames.specs.Assembly.{Chain, Assembled, assembled, nothing_yet}
use Rattle.message_frames.specs.Grammar.{Piece, is_piece, piece_frames, piece_bytes, stream_of}
use Rattle.message_frames.specs.Merging.{keeps_rules, may_come, chains_after, complete_after}
use Rattle.message_frames.specs.Messages.{prefix_of, shortest_start, Heard, heard_of_frames, or_else, messages_of}
use Rattle.message_frames.specs.Laws.{IsStream, messages_in, NoPieceBegins, the_grammar_is_heard, exactly_the_pieces_are_heard, nothing_is_heard_without_the_prefix}
use Rattle.message_frames.proofs.FrameLaws.{read, on, spelled_by}
use Rattle.message_frames.proofs.NextPiece.{TakesNext}
use Rattle.message_frames.proofs.Prefixes.{Begins, Differs, Shorter, Follows, begins, behind, heard_behind, heard_of_other, heard_of_less}
use Rattle.message_frames.proofs.Streams.{frames_in, state_after, pieces_run, messages_of_pieces}

-- All of a list and of its parts

pub all_front : {X : Type 0} (P : X → Type 0) (xs ys : List X) → All P (xs ++ ys) → All P xs
all_front P [] ys all = All-nil P
all_front P (x ∷ xs) ys all = All-cons P x xs (All-head P x (xs ++ ys) all) (all_front P xs ys (All-tail P x (xs ++ ys) all))

pub all_back : {X : Type 0} (P : X → Type 0) (xs ys : List X) → All P (xs ++ ys) → All P ys
all_back P [] ys all = all
all_back P (x ∷ xs) ys all = all_back P xs ys (All-tail P x (xs ++ ys) all)

-- every frame within the limits
abbrev pub AreFrames : Piece → Type 0
AreFrames piece = All IsWithinLimits (piece_frames piece)

pub frames_within : (pieces : List Piece) → All AreFrames pieces → All IsWithinLimits (frames_in pieces)
frames_within [] all = All-nil IsWithinLimits
frames_within (piece ∷ pieces) all =
    All-append IsWithinLimits (piece_frames piece) (frames_in pieces) (All-head AreFrames piece pieces all) (frames_within pieces (All-tail AreFrames piece pieces all))

pub pieces_within : (pieces : List Piece) → All IsWithinLimits (frames_in pieces) → All AreFrames pieces
pieces_within [] all = All-nil AreFrames
pieces_within (piece ∷ pieces) all =
    All-cons AreFrames piece pieces (all_front IsWithinLimits (piece_frames piece) (frames_in pieces) all)
    (pieces_within pieces (all_back IsWithinLimits (piece_frames piece) (frames_in pieces) all))

-- The bytes of pieces are those of their frames.
pub spelled_pieces : (pieces : List Piece) → flat_map piece_bytes pieces ≡ spelled (frames_in pieces)
spelled_pieces [] = refl
spelled_pieces (piece ∷ pieces) =
    ap (λ bs. piece_bytes piece ++ bs) (spelled_pieces pieces) ∙ sym (flat_map-append frame_bytes (piece_frames piece) (frames_in pieces))

pub nothing_begins : BeginsWithNoFrame []
nothing_begins frame e = absurd (let clash : Partial ≡ Whole frame = e in cc)

-- rules of one more piece

pub rules_so_far : (shortest : ℕ) (chains : List Chain) (complete : ℕ) (pieces more : List Piece) → keeps_rules shortest chains complete (pieces ++ more) ≡ true →
    (keeps_rules shortest chains complete pieces ≡ true) × (keeps_rules shortest (state_after chains complete pieces).chains (state_after chains complete pieces).complete more ≡ true)
rules_so_far shortest chains complete [] more rules = (refl, rules)
rules_so_far shortest chains complete (piece ∷ pieces) more rules =
    let parts = and_parts _ _ rules in
    let later = rules_so_far shortest (chains_after piece chains) (complete_after piece complete) pieces more parts.1 in
    (and_from _ _ parts.0 later.0, later.1)

pub stream_front : (shortest : ℕ) (pieces more : List Piece) → IsStream shortest (pieces ++ more) → IsStream shortest pieces
stream_front shortest pieces more s = record { frames = all_front AreFrames pieces more s.frames; rules = (rules_so_far shortest [] 0 pieces more s.rules).0 }

-- one more piece of a stream may come where the others leave off
pub last_of_stream : (shortest : ℕ) (pieces : List Piece) (piece : Piece) → IsStream shortest (pieces ++ piece ∷ []) →
    AreFrames piece × ((is_piece piece ≡ true) × (may_come shortest (state_after [] 0 pieces).chains (state_after [] 0 pieces).complete piece ≡ true))
last_of_stream shortest pieces piece s =
    let rules = (rules_so_far shortest [] 0 pieces (piece ∷ []) s.rules).1 in
    let parts = and_parts _ _ (and_parts _ true rules).0 in
    (All-head AreFrames piece [] (all_back AreFrames pieces (piece ∷ []) s.frames), parts)

rules_longer : (shortest : ℕ) (chains : List Chain) (complete : ℕ) (pieces : List Piece) (piece : Piece) → keeps_rules shortest chains complete pieces ≡ true →
    keeps_rules shortest (state_after chains complete pieces).chains (state_after chains complete pieces).complete (piece ∷ []) ≡ true →
    keeps_rules shortest chains complete (pieces ++ piece ∷ []) ≡ true
rules_longer shortest chains complete [] piece rules one = one
rules_longer shortest chains complete (first ∷ pieces) piece rules one =
    let parts = and_parts _ _ rules in
    and_from _ _ parts.0 (rules_longer shortest (chains_after first chains) (complete_after first complete) pieces piece parts.1 one)

pub longer_stream : (shortest : ℕ) (pieces : List Piece) (piece : Piece) → IsStream shortest pieces → AreFrames piece → is_piece piece ≡ true →
    may_come shortest (state_after [] 0 pieces).chains (state_after [] 0 pieces).complete piece ≡ true → IsStream shortest (pieces ++ piece ∷ [])
longer_stream shortest pieces piece s limits form may =
    record {
      frames = All-append AreFrames pieces (piece ∷ []) s.frames (All-cons AreFrames piece [] limits (All-nil AreFrames));
      rules = rules_longer shortest [] 0 pieces piece s.rules (and_from _ _ (and_from _ _ form may) refl);
    }

pub unplaced-append : (xs ys : List PlacedFrame) → unplaced (xs ++ ys) ≡ unplaced xs ++ unplaced ys
unplaced-append [] ys = refl
unplaced-append (x ∷ xs) ys = ap (λ fs. x.frame ∷ fs) (unplaced-append xs ys)

-- A text that isn't the prefix and bytes behind it.
pub unheard : nothing_is_heard_without_the_prefix
unheard prefix text apart = go (begins 0 (prefix_of prefix) text)
  where
    go : Begins 0 (prefix_of prefix) text → messages_of prefix text ≡ []
    go (Differs place differs other) = ap (λ (h : Heard). h.messages) (heard_of_other prefix text place (rw append-nil at (differs [])))
    go (Shorter agrees short other) = ap (λ (h : Heard). h.messages) (heard_of_less prefix text agrees short)
    go (Follows bytes e) = absurd (apart bytes e)

-- What follows the spellings of frames is read on from behind them.
pub frames_read : (at : ℕ) (frames : List Frame) (rest : List ℕ) → All IsWithinLimits frames →
    (place : ℕ) × (reading at (spelled frames ++ rest) ≡ record (reading place rest) { frames = placed at frames ++ (reading place rest).frames })
frames_read at frames rest limits =
    let text = spelled frames in
    let exact : reading at text ≡ record { frames = placed at frames; fault = None; rest = [] } = ap (reading at) (sym (append-nil text)) ∙ read at frames [] limits nothing_begins in
    let whole = on at text rest (ap (λ (r : Reading). r.fault) exact) in
    (at + (length text - 0), whole ∙ rw exact refl)

read_whole : (at : ℕ) (frames : List Frame) → All IsWithinLimits frames → reading at (spelled frames) ≡ record { frames = placed at frames; fault = None; rest = [] }
read_whole at frames limits = ap (reading at) (sym (append-nil (spelled frames))) ∙ read at frames [] limits nothing_begins

pub grammar_heard : the_grammar_is_heard
grammar_heard prefix pieces s =
    let shortest = shortest_start prefix in
    let n = behind prefix in
    let whole = read_whole n (frames_in pieces) (frames_within pieces s.frames) in
    let run = pieces_run shortest n pieces [] 0 s.rules in
    heard_behind prefix (flat_map piece_bytes pieces)
    ∙ ap (λ bytes. heard_of_frames shortest (reading n bytes)) (spelled_pieces pieces)
    ∙ ap (heard_of_frames shortest) whole
    ∙ ap (λ (a : Assembled). record { messages = a.messages; fault = or_else a.fault None }) run

-- the messages of pieces and a rest, where no further piece is read of the rest
messages_with_rest : (prefix : Bool) (pieces : List Piece) (rest : List ℕ) → IsStream (shortest_start prefix) pieces →
    ((place : ℕ) → TakesNext (shortest_start prefix) (state_after [] 0 pieces).chains (state_after [] 0 pieces).complete (unplaced (reading place rest).frames) → ⊥) →
    messages_of prefix (stream_of prefix pieces ++ rest) ≡ messages_in pieces
messages_with_rest prefix pieces rest s none =
    let shortest = shortest_start prefix in
    let n = behind prefix in
    let bytes = flat_map piece_bytes pieces ++ rest in
    let whole = frames_read n (frames_in pieces) rest (frames_within pieces s.frames) in
    let frames_are : (reading n bytes).frames ≡ placed n (frames_in pieces) ++ (reading whole.0 rest).frames =
    ap (λ (r : Reading). r.frames) (ap (λ bs. reading n (bs ++ rest)) (spelled_pieces pieces) ∙ whole.1) in
    ap (messages_of prefix) (append_assoc (prefix_of prefix) (flat_map piece_bytes pieces) rest)
    ∙ ap (λ (h : Heard). h.messages) (heard_behind prefix bytes)
    ∙ ap (λ fs. (assembled shortest fs nothing_yet).messages) frames_are
    ∙ messages_of_pieces shortest n pieces (reading whole.0 rest).frames s.rules (none whole.0)

-- A piece that is read of a rest begins it.
piece_begins : (shortest : ℕ) (pieces : List Piece) (rest : List ℕ) → IsBytes rest → IsStream shortest pieces → NoPieceBegins shortest pieces rest → (place : ℕ) →
    TakesNext shortest (state_after [] 0 pieces).chains (state_after [] 0 pieces).complete (unplaced (reading place rest).frames) → ⊥
piece_begins shortest pieces rest bytes s none place t =
    let by = spelled_by place rest bytes in
    let limits = all_front IsWithinLimits (piece_frames t.piece) t.more (subst (All IsWithinLimits) t.front by.limits) in
    none t.piece (spelled t.more ++ (reading place rest).rest) (longer_stream shortest pieces t.piece s limits t.form t.may)
    (by.whole
    ∙ ap (λ fs. spelled fs ++ (reading place rest).rest) t.front
    ∙ ap (λ bs. bs ++ (reading place rest).rest) (flat_map-append frame_bytes (piece_frames t.piece) t.more)
    ∙ append_assoc (piece_bytes t.piece) (spelled t.more) (reading place rest).rest)

pub exactly_heard : exactly_the_pieces_are_heard
exactly_heard prefix pieces rest s bytes none = messages_with_rest prefix pieces rest s (piece_begins (shortest_start prefix) pieces rest bytes s none)
