-- Structures: frames between a begin frame and its matching end frame, others nested in them.
use Rattle.std.specs.Prelude.{◌≡◌, ℕ, zero, suc, ◌==◌, Bool, not, ◌&&◌, ◌||◌, IsTrue, if◌then◌else◌, bit_and, List, [], ◌∷◌, ◌++◌, Option, Some, None}
use Rattle.frame_codec.specs.declared.frames.Frame.{Frame}
use Rattle.frame_codec.specs.declared.flags.TheConstants.{BEGIN_STRUCTURE, END_STRUCTURE}

abbrev pub has_flag : ℕ → Frame → Bool
has_flag flag frame = not (bit_and frame.flags flag == 0)

-- A frame with the flag of a begin opens a structure. One that has both flags opens one too, and closes none.
abbrev pub opens : Frame → Bool
opens frame = has_flag BEGIN_STRUCTURE frame

abbrev pub closes : Frame → Bool
closes frame = has_flag END_STRUCTURE frame && not (opens frame)

-- a frame with neither of the flags
abbrev pub is_plain : Frame → Bool
is_plain frame = not (opens frame || closes frame)

-- The frames behind the one that closes the last of so many open structures; none where they aren't all closed.
abbrev pub after_closing : ℕ → List Frame → Option (List Frame)
after_closing zero frames = Some frames
after_closing (suc depth) [] = None
after_closing (suc depth) (frame ∷ frames) =
    if opens frame then after_closing (suc (suc depth)) frames else if closes frame then after_closing depth frames else after_closing (suc depth) frames

-- The frames behind the structure that comes first; none where a structure doesn't come first, or isn't closed.
abbrev pub after_structure : List Frame → Option (List Frame)
after_structure [] = None
after_structure (frame ∷ frames) = if opens frame then after_closing 1 frames else None

-- The same as a grammar: plain frames and whole structures, in any order.
pub data AreNested : List Frame → Type 0 where
  nothing : AreNested []
  plain : (frame : Frame) (behind : List Frame) → IsTrue (is_plain frame) → AreNested behind → AreNested (frame ∷ behind)
  structure : (opening : Frame) (inside : List Frame) (closing : Frame) (behind : List Frame) → IsTrue (opens opening) → AreNested inside → IsTrue (closes closing) → AreNested behind → AreNested (opening ∷ inside ++ closing ∷ behind)

-- the first of these frames are one structure, and the others are the rest
pub record BeginsWithStructure (frames rest : List Frame) : Type 0 where
  pub opening : Frame
  pub inside : List Frame
  pub closing : Frame
  pub opened : IsTrue (opens opening)
  pub nested : AreNested inside
  pub closed : IsTrue (closes closing)
  pub spelled : frames ≡ opening ∷ inside ++ closing ∷ rest
