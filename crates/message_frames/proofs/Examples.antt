-- Examples of the grammar, by computation: a message in two fragments, with another message between them.
use Rattle.std.proofs.Common.{◌≡◌, ℕ, true, false, List, [], ◌∷◌, Some, None, replicate, refl}
use Rattle.std.specs.Int.{w64, to_le_bytes}
use Rattle.frame_codec.specs.Reading.{reading}
use Rattle.frame_codec.specs.declared.frames.Frame.{Frame}
use Rattle.frame_codec.specs.declared.malformed.Why.TheVariants.{BadFragment}
use Rattle.message_frames.specs.Grammar.{Piece, Unfragmented, Fragment, stream_of}
use Rattle.message_frames.specs.Merging.{merged, keeps_rules}
use Rattle.message_frames.specs.Messages.{heard}
use Rattle.message_frames.specs.Writing.{packed, fragments_of}

abbrev frame : ℕ → List ℕ → Frame
frame flags payload = record { flags = flags; payload = payload }

abbrev header : ℕ → ℕ → Frame
header flags id = frame flags (to_le_bytes w64 id)

-- the frames of a message; both fragment bits stay on its first one
abbrev first : Frame
first = frame 0xc000 (replicate 16 0)

abbrev key : Frame
key = frame 0 (107 ∷ [])

abbrev value : Frame
value = frame 0x2000 (118 ∷ [])

-- a message of one frame
abbrev ping : Frame
ping = frame 0xe000 (replicate 16 1)

-- the first two frames, of which the second is the fragment's last one
abbrev opening : Piece
opening = Fragment (header 0x8000 7) (first ∷ frame 0x2000 (107 ∷ []) ∷ [])

abbrev closing : Piece
closing = Fragment (header 0x4000 7) (value ∷ [])

abbrev pieces : List Piece
pieces = opening ∷ Unfragmented (ping ∷ []) ∷ closing ∷ []

merges : merged [] pieces ≡ record { frames = ping ∷ [] } ∷ record { frames = first ∷ key ∷ value ∷ [] } ∷ []
merges = refl

keeps : keeps_rules 16 [] 0 pieces ≡ true
keeps = refl

is_heard : heard true (stream_of true pieces) ≡ record { messages = record { frames = ping ∷ [] } ∷ record { frames = first ∷ key ∷ value ∷ [] } ∷ []; fault = None }
unfolding heard reading
is_heard = refl

-- A chain that is open isn't opened again, and one that isn't open isn't closed.
opened_twice : keeps_rules 16 [] 0 (opening ∷ opening ∷ []) ≡ false
opened_twice = refl

closed_before : keeps_rules 16 [] 0 (closing ∷ []) ≡ false
closed_before = refl

closed_before_heard : heard false (stream_of false (closing ∷ [])) ≡ record { messages = []; fault = Some (record { at = 0; why = BadFragment }) }
unfolding heard reading
closed_before_heard = refl

-- the same for a member's first payload of fifteen bytes
short_start : keeps_rules 16 [] 0 (Unfragmented (frame 0xe000 (replicate 15 0) ∷ []) ∷ []) ≡ false
short_start = refl

-- Twenty-nine bytes are the first two frames. One byte less is the first one alone, and so is a size that it doesn't fit into.
two_fit : packed 29 (first ∷ key ∷ value ∷ []) ≡ (first ∷ key ∷ []) ∷ (value ∷ []) ∷ []
two_fit = refl

one_fits : packed 28 (first ∷ key ∷ value ∷ []) ≡ (first ∷ []) ∷ (key ∷ value ∷ []) ∷ []
one_fits = refl

none_fits : packed 1 (first ∷ key ∷ value ∷ []) ≡ (first ∷ []) ∷ (key ∷ []) ∷ (value ∷ []) ∷ []
none_fits = refl

written : fragments_of 7 29 (first ∷ key ∷ value ∷ []) ≡ opening ∷ closing ∷ []
written = refl

written_whole : fragments_of 7 100 (first ∷ key ∷ value ∷ []) ≡ Unfragmented (first ∷ key ∷ value ∷ []) ∷ []
written_whole = refl
