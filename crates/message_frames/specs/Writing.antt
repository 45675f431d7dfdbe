-- How a message is written: in one piece, or in fragments of whole frames.
use Rattle.std.specs.Prelude.{◌≡◌, ℕ, ◌+◌, ◌-◌, ◌^◌, ◌<◌, ◌≤◌, ◌++◌, Bool, true, false, if◌then◌else◌, List, [], ◌∷◌, length, sum_by, flat_map, All, IsTrue, IsFalse, nat_le, bit_or}
use Rattle.std.specs.Int.{w64, to_le_bytes}
use Rattle.frame_codec.specs.Frames.{frame_length}
use Rattle.frame_codec.specs.Laws.{IsWithinLimits}
use Rattle.frame_codec.specs.declared.frames.Frame.{Frame}
use Rattle.frame_codec.specs.declared.flags.TheConstants.{BEGIN_FRAGMENT, END_FRAGMENT, FINAL}
use Rattle.message_frames.specs.Assembly.{most_chains, most_messages, is_open, first_payload}
use Rattle.message_frames.specs.Grammar.{Piece, Unfragmented, Fragment, is_piece}
use Rattle.message_frames.specs.Laws.{IsStream, messages_in}
use Rattle.message_frames.specs.Merging.{fits, open_after}

-- An unfragmented message of the grammar, within the limits.
pub record IsWritable (frames : List Frame) : Type 0 where
  pub each : All IsWithinLimits frames
  pub form : IsTrue (is_piece (Unfragmented frames))
  pub fits : IsTrue (fits frames)

-- What stood in a buffer still stands at its front.
abbrev pub KeepsFront : List ℕ → List ℕ → Type 0
KeepsFront old new = (more : List ℕ) × (new ≡ old ++ more)

-- packing

abbrev pub with_first : Frame → List (List Frame) → List (List Frame)
with_first frame [] = (frame ∷ []) ∷ []
with_first frame (group ∷ groups) = (frame ∷ group) ∷ groups

-- Frames behind a fragment's first ones: what still fits into its room, and the fragments after it.
abbrev pub packed_behind : ℕ → ℕ → List Frame → List (List Frame)
packed_behind size room [] = [] ∷ []
packed_behind size room (frame ∷ frames) =
    if nat_le (frame_length frame) room then with_first frame (packed_behind size (room - frame_length frame) frames)
    else [] ∷ with_first frame (packed_behind size (size - frame_length frame) frames)

-- The frames of each fragment: one, and as many more as keep them within the size together.
abbrev pub packed : ℕ → List Frame → List (List Frame)
packed size [] = []
packed size (frame ∷ frames) = with_first frame (packed_behind size (size - frame_length frame) frames)

-- fragments

abbrev pub with_flag : ℕ → Frame → Frame
with_flag flag frame = record frame { flags = bit_or frame.flags flag }

-- the frames of a fragment that others follow: the last of them is final in the fragment
abbrev pub ended : List Frame → List Frame
ended [] = []
ended (frame ∷ []) = with_flag FINAL frame ∷ []
ended (frame ∷ next ∷ frames) = frame ∷ ended (next ∷ frames)

abbrev pub header_flags : Bool → Bool → ℕ
header_flags true last = BEGIN_FRAGMENT
header_flags false true = END_FRAGMENT
header_flags false false = 0

-- the header of a chain's first fragment or another one, its last or not
abbrev pub header_of : ℕ → Bool → Bool → Frame
header_of id first last = record { flags = header_flags first last; payload = to_le_bytes w64 id }

-- the fragment of these frames, the chain's first or another, its last or not
abbrev pub fragment_of : ℕ → Bool → Bool → List Frame → Piece
fragment_of id first true frames = Fragment (header_of id first true) frames
fragment_of id first false frames = Fragment (header_of id first false) (ended frames)

-- the fragments of a chain from one on, its first or another
abbrev pub chain_from : ℕ → Bool → List (List Frame) → List Piece
chain_from id first [] = []
chain_from id first (frames ∷ []) = fragment_of id first true frames ∷ []
chain_from id first (frames ∷ next ∷ groups) = fragment_of id first false frames ∷ chain_from id false (next ∷ groups)

-- A message that is one fragment is written unfragmented.
abbrev pub chain_of_groups : ℕ → List (List Frame) → List Piece
chain_of_groups id [] = []
chain_of_groups id (frames ∷ []) = Unfragmented frames ∷ []
chain_of_groups id (frames ∷ next ∷ groups) = chain_from id true (frames ∷ next ∷ groups)

abbrev pub fragments_of : ℕ → ℕ → List Frame → List Piece
fragments_of id size frames = chain_of_groups id (packed size frames)

-- what packing keeps

-- One frame, or several that are within the size together.
abbrev pub IsWithin : ℕ → List Frame → Type 0
IsWithin size [] = ⊥
IsWithin size (frame ∷ []) = Unit {0}
IsWithin size (frame ∷ next ∷ frames) = sum_by frame_length (frame ∷ next ∷ frames) ≤ size

-- The first frame of the fragments that follow would not have fitted too.
abbrev pub IsFull : ℕ → List Frame → List (List Frame) → Type 0
IsFull size frames [] = Unit {0}
IsFull size frames ([] ∷ groups) = ⊥
IsFull size frames ((next ∷ more) ∷ groups) = size < sum_by frame_length frames + frame_length next

abbrev pub ArePacked : ℕ → List (List Frame) → Type 0
ArePacked size [] = Unit {0}
ArePacked size (frames ∷ groups) = IsWithin size frames × IsFull size frames groups × ArePacked size groups

-- Packing keeps the frames in order, and each fragment has as many of them as it can have.
pub record IsPacking (size : ℕ) (frames : List Frame) (groups : List (List Frame)) : Type 0 where
  pub whole : flat_map (λ group. group) groups ≡ frames
  pub full : ArePacked size groups

abbrev pub packing_is_full : Type 0
packing_is_full = (size : ℕ) (frames : List Frame) → IsPacking size frames (packed size frames)

-- what is written

-- Further pieces go on a stream, add one message to its messages, and leave the chains open that were open.
pub record AddsMessage (shortest : ℕ) (pieces more : List Piece) (frames : List Frame) : Type 0 where
  pub stream : IsStream shortest (pieces ++ more)
  pub messages : messages_in (pieces ++ more) ≡ messages_in pieces ++ record { frames = frames } ∷ []
  pub chains : open_after [] (pieces ++ more) ≡ open_after [] pieces

-- A connection takes one more message of these frames: the first payload has a head, and there is a number left.
pub record HasRoomFor (shortest : ℕ) (pieces : List Piece) (frames : List Frame) : Type 0 where
  pub stream : IsStream shortest pieces
  pub head : shortest ≤ length (first_payload frames)
  pub number : length (messages_in pieces) < most_messages

-- It takes one more chain with that id too.
pub record HasRoomForChain (id : ℕ) (pieces : List Piece) : Type 0 where
  pub small : id < 2 ^ 64
  pub closed : IsFalse (is_open id (open_after [] pieces))
  pub chain : length (open_after [] pieces) < most_chains

abbrev pub a_written_message_is_heard : Type 0
a_written_message_is_heard =
    (shortest : ℕ) (pieces : List Piece) (frames : List Frame) → IsWritable frames → HasRoomFor shortest pieces frames →
    AddsMessage shortest pieces (Unfragmented frames ∷ []) frames

abbrev pub written_fragments_are_heard : Type 0
written_fragments_are_heard =
    (shortest : ℕ) (pieces : List Piece) (id size : ℕ) (frames : List Frame) → IsWritable frames → HasRoomFor shortest pieces frames → HasRoomForChain id pieces →
    AddsMessage shortest pieces (fragments_of id size frames) frames
