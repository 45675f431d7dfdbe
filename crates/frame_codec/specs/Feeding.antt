-- A reader in the midst of a feed.
use Rattle.std.specs.Prelude.{◌≡◌, ℕ, ◌≤◌, List, ◌++◌, length, take}
use Rattle.frame_codec.specs.FrameReaders.{InProgress, StandsFor, frames_of}
use Rattle.frame_codec.specs.declared.frames.PlacedFrame.{PlacedFrame}

-- The reader stands for a text, whose frames are the earlier ones and those that were given.
pub record HasGiven (earlier : List PlacedFrame) (reader : InProgress) (frames : List PlacedFrame) (at : ℕ) (text : List ℕ) : Type 0 where
  pub stands : StandsFor reader at text
  pub given : earlier ++ frames ≡ frames_of at text

-- Between two states of a reader and its given frames it took so many bytes of a piece.
abbrev pub Takes : InProgress → List PlacedFrame → InProgress → List PlacedFrame → List ℕ → ℕ → Type 0
Takes old given new now piece n =
    (earlier : List PlacedFrame) (at : ℕ) (text : List ℕ) → HasGiven earlier old given at text → HasGiven earlier new now at (text ++ take n piece)

-- It took a part of the piece, whatever part.
abbrev pub TakesSome : InProgress → List PlacedFrame → InProgress → List PlacedFrame → List ℕ → Type 0
TakesSome old given new now piece = (n : ℕ) × (n ≤ length piece) × Takes old given new now piece n
