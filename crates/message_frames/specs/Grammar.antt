-- The grammar of a connection's bytes: a stream is its prefix, followed by pieces one after the other.
use Rattle.std.specs.Prelude.{ℕ, Bool, true, false, not, ◌&&◌, if◌then◌else◌, List, [], ◌∷◌, ◌++◌, flat_map}
use Rattle.frame_codec.specs.Laws.{spelled}
use Rattle.frame_codec.specs.declared.frames.Frame.{Frame}
use Rattle.message_frames.specs.Assembly.{is_unfragmented, is_final, is_header}
use Rattle.message_frames.specs.Messages.{prefix_of}

-- a message in one, or a fragment of one with its header
pub data Piece : Type 0 where
  Unfragmented : (frames : List Frame) → Piece
  Fragment : (header : Frame) (frames : List Frame) → Piece

abbrev pub is_empty : List Frame → Bool
is_empty [] = true
is_empty (frame ∷ frames) = false

abbrev pub begins_unfragmented : List Frame → Bool
begins_unfragmented [] = false
begins_unfragmented (frame ∷ frames) = is_unfragmented frame

-- There is a final frame, and the first one is the last of all.
abbrev pub ends_at_final : List Frame → Bool
ends_at_final [] = false
ends_at_final (frame ∷ frames) = if is_final frame then is_empty frames else ends_at_final frames

-- An unfragmented message's first frame says so. A fragment's header doesn't, and at least one frame follows it.
abbrev pub is_piece : Piece → Bool
is_piece (Unfragmented frames) = begins_unfragmented frames && ends_at_final frames
is_piece (Fragment header frames) = not (is_unfragmented header) && is_header header && ends_at_final frames

-- spelling

abbrev pub piece_frames : Piece → List Frame
piece_frames (Unfragmented frames) = frames
piece_frames (Fragment header frames) = header ∷ frames

abbrev pub piece_bytes : Piece → List ℕ
piece_bytes piece = spelled (piece_frames piece)

abbrev pub stream_of : Bool → List Piece → List ℕ
stream_of prefix pieces = prefix_of prefix ++ flat_map piece_bytes pieces
