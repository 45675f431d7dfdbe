-- Pieces one after the other, and frames split into the pieces that a connection takes of them and the rest.
use Rattle.std.proofs.Common.{◌≡◌, ℕ, zero, suc, ◌+◌, ◌<◌, ◌≤◌, true, false, List, [], ◌∷◌, ◌++◌, length, flat_map, None, refl, sym, ◌∙◌, ap, subst, ◌⊎◌, inl, inr, arith, append_assoc, append-nil, length-append}
use Rattle.std.proofs.lemmas.Bool.{cases_Bool, and_parts, and_from, false≢true}
use Rattle.frame_codec.specs.Frames.{frame_length}
use Rattle.frame_codec.specs.Laws.{placed, unplaced}
use Rattle.frame_codec.specs.declared.frames.Frame.{Frame}
use Rattle.frame_codec.specs.declared.frames.PlacedFrame.{PlacedFrame}
use Rattle.message_frames.specs.Assembly.{Chain, Assembly, Assembled, assembled, nothing_yet}
use Rattle.message_frames.specs.Grammar.{Piece, Unfragmented, Fragment, is_piece, piece_frames}
use Rattle.message_frames.specs.Merging.{merged, keeps_rules, chains_after, complete_after, completes}
use Rattle.message_frames.proofs.Bounds.{assembled_sound}
use Rattle.message_frames.proofs.Composition.{goes_on}
use Rattle.message_frames.proofs.NextPiece.{TakesNext, takes_none}
use Rattle.message_frames.proofs.NoPiece.{takes_or_not, no_piece_no_message}
use Rattle.message_frames.proofs.Pieces.{between_with, given, piece_runs}
use Rattle.message_frames.proofs.Soundness.{IsSound, nothing_is_sound}

-- frames with their places

pub unplaced-placed : (at : ℕ) (frames : List Frame) → unplaced (placed at frames) ≡ frames
unplaced-placed at [] = refl
unplaced-placed at (frame ∷ frames) = ap (λ fs. frame ∷ fs) (unplaced-placed (at + frame_length frame) frames)

-- the place behind frames
abbrev pub place_behind : ℕ → List Frame → ℕ
place_behind at [] = at
place_behind at (frame ∷ frames) = place_behind (at + frame_length frame) frames

pub placed-append : (at : ℕ) (xs ys : List Frame) → placed at (xs ++ ys) ≡ placed at xs ++ placed (place_behind at xs) ys
placed-append at [] ys = refl
placed-append at (x ∷ xs) ys = ap (λ ps. record { at = at; frame = x } ∷ ps) (placed-append (at + frame_length x) xs ys)

-- pieces

abbrev pub frames_in : List Piece → List Frame
frames_in pieces = flat_map piece_frames pieces

-- what stands after pieces
abbrev pub state_after : List Chain → ℕ → List Piece → Assembly
state_after chains complete [] = between_with chains complete
state_after chains complete (piece ∷ pieces) = state_after (chains_after piece chains) (complete_after piece complete) pieces

merged_next : (chains : List Chain) (piece : Piece) (pieces : List Piece) → merged chains (piece ∷ pieces) ≡ given piece chains ++ merged (chains_after piece chains) pieces
merged_next chains piece pieces = go (cases_Bool (completes piece))
  where
    go : (completes piece ≡ true) ⊎ (completes piece ≡ false) → merged chains (piece ∷ pieces) ≡ given piece chains ++ merged (chains_after piece chains) pieces
    go (inl e) = rw e refl
    go (inr e) = rw e refl

-- Pieces that keep the rules are assembled without a fault.
pub pieces_run : (shortest at : ℕ) (pieces : List Piece) (chains : List Chain) (complete : ℕ) → keeps_rules shortest chains complete pieces ≡ true →
    assembled shortest (placed at (frames_in pieces)) (between_with chains complete) ≡ record { messages = merged chains pieces; fault = None; after = state_after chains complete pieces }
pieces_run shortest at [] chains complete rules = refl
pieces_run shortest at (piece ∷ pieces) chains complete rules =
    let parts = and_parts _ _ rules in
    let here = and_parts _ _ parts.0 in
    let first = placed at (piece_frames piece) in
    let behind = place_behind at (piece_frames piece) in
    let run = piece_runs shortest piece first chains complete (unplaced-placed at (piece_frames piece)) here.0 here.1 in
    let later = pieces_run shortest behind pieces (chains_after piece chains) (complete_after piece complete) parts.1 in
    ap (λ xs. assembled shortest xs (between_with chains complete)) (placed-append at (piece_frames piece) (frames_in pieces))
    ∙ goes_on shortest first (placed behind (frames_in pieces)) (between_with chains complete) (ap (λ (a : Assembled). a.fault) run)
    ∙ rw (run, later) (ap (λ ms. record { messages = ms; fault = None; after = state_after chains complete (piece ∷ pieces) }) (sym (merged_next chains piece pieces)))

-- Frames behind such pieces are assembled from where the pieces leave off.
pub pieces_go_on : (shortest at : ℕ) (pieces : List Piece) (more : List PlacedFrame) (chains : List Chain) (complete : ℕ) → keeps_rules shortest chains complete pieces ≡ true →
    let later = assembled shortest more (state_after chains complete pieces) in
    assembled shortest (placed at (frames_in pieces) ++ more) (between_with chains complete) ≡ record { messages = merged chains pieces ++ later.messages; fault = later.fault; after = later.after }
pieces_go_on shortest at pieces more chains complete rules =
    let run = pieces_run shortest at pieces chains complete rules in
    goes_on shortest (placed at (frames_in pieces)) more (between_with chains complete) (ap (λ (a : Assembled). a.fault) run) ∙ rw run refl

-- splitting

pub record Split (shortest : ℕ) (chains : List Chain) (complete : ℕ) (frames : List Frame) : Type 0 where
  pub pieces : List Piece
  pub more : List Frame
  pub whole : frames ≡ frames_in pieces ++ more
  pub rules : keeps_rules shortest chains complete pieces ≡ true
  pub rest : TakesNext shortest (state_after chains complete pieces).chains (state_after chains complete pieces).complete more → ⊥

-- A piece has frames.
pub shorter_behind : (piece : Piece) (more : List Frame) → is_piece piece ≡ true → length more < length (piece_frames piece ++ more)
shorter_behind (Unfragmented []) more form = absurd (false≢true form)
shorter_behind (Unfragmented (frame ∷ frames)) more form = omega (arith, length-append frames more)
shorter_behind (Fragment header frames) more form = omega (arith, length-append frames more)

split_within : (bound shortest : ℕ) (chains : List Chain) (complete : ℕ) (frames : List Frame) → length frames ≤ bound → Split shortest chains complete frames
split_within zero shortest chains complete [] short = record { pieces = []; more = []; whole = refl; rules = refl; rest = takes_none shortest chains complete }
split_within zero shortest chains complete (frame ∷ frames) short = absurd (omega arith)
split_within (suc bound) shortest chains complete frames short = go (takes_or_not shortest chains complete frames) (λ cs n fs. split_within bound shortest cs n fs)
  where
    go : TakesNext shortest chains complete frames ⊎ (TakesNext shortest chains complete frames → ⊥) →
        ((cs : List Chain) (n : ℕ) (fs : List Frame) → length fs ≤ bound → Split shortest cs n fs) → Split shortest chains complete frames
    go (inr none) later = record { pieces = []; more = frames; whole = refl; rules = refl; rest = none }
    go (inl t) later =
        let fewer = shorter_behind t.piece t.more t.form in
        let s = later (chains_after t.piece chains) (complete_after t.piece complete) t.more (omega (arith, fewer, short, ap length t.front)) in
        record {
          pieces = t.piece ∷ s.pieces;
          more = s.more;
          whole = t.front ∙ ap (λ fs. piece_frames t.piece ++ fs) s.whole ∙ sym (append_assoc (piece_frames t.piece) (frames_in s.pieces) s.more);
          rules = and_from _ _ (and_from _ _ t.form t.may) s.rules;
          rest = s.rest;
        }

pub split : (shortest : ℕ) (chains : List Chain) (complete : ℕ) (frames : List Frame) → Split shortest chains complete frames
split shortest chains complete frames = split_within (length frames) shortest chains complete frames (omega arith)

-- Behind pieces the place is between two.
pub rests_between : (chains : List Chain) (complete : ℕ) (pieces : List Piece) →
    state_after chains complete pieces ≡ between_with (state_after chains complete pieces).chains (state_after chains complete pieces).complete
rests_between chains complete [] = refl
rests_between chains complete (piece ∷ pieces) = rests_between (chains_after piece chains) (complete_after piece complete) pieces

pub state_sound : (shortest : ℕ) (pieces : List Piece) → keeps_rules shortest [] 0 pieces ≡ true → IsSound (state_after [] 0 pieces)
state_sound shortest pieces rules =
    subst IsSound (ap (λ (a : Assembled). a.after) (pieces_run shortest 0 pieces [] 0 rules))
    (assembled_sound shortest (placed 0 (frames_in pieces)) nothing_yet nothing_is_sound)

-- From a stream's first frame: pieces, and then frames that begin with no further piece, complete the pieces' messages.
pub messages_of_pieces : (shortest at : ℕ) (pieces : List Piece) (more : List PlacedFrame) → keeps_rules shortest [] 0 pieces ≡ true →
    (TakesNext shortest (state_after [] 0 pieces).chains (state_after [] 0 pieces).complete (unplaced more) → ⊥) →
    (assembled shortest (placed at (frames_in pieces) ++ more) nothing_yet).messages ≡ merged [] pieces
messages_of_pieces shortest at pieces more rules none =
    let s = state_after [] 0 pieces in
    let sound = state_sound shortest pieces rules in
    let nothing = no_piece_no_message shortest more s.chains s.complete sound.few sound.counted none in
    ap (λ (a : Assembled). a.messages) (pieces_go_on shortest at pieces more [] 0 rules)
    ∙ ap (λ ms. merged [] pieces ++ ms) (ap (λ state. (assembled shortest more state).messages) (rests_between [] 0 pieces) ∙ nothing)
    ∙ append-nil (merged [] pieces)
