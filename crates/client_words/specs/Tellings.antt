-- What it means that words say a message again.
use Rattle.std.specs.Prelude.{◌≡◌, ℤ, List, All}
use Rattle.frame_codec.specs.Laws.{IsWithinLimits, spelled}
use Rattle.frame_codec.specs.declared.frames.Frame.{Frame}
use Rattle.compose_words.specs.Sayings.{bytes_of, IsPlaced}
use Rattle.compose_words.specs.declared.saying.Saying.{Saying}

-- With that correlation, a `say` line of what is said gives the bytes of these frames.
pub record IsSaidBy (correlation : ℤ) (saying : Saying) (frames : List Frame) : Type 0 where
  pub placed : IsPlaced saying
  pub bytes : bytes_of correlation saying ≡ spelled frames

-- Some `say` line gives them, if each is as short as a frame has to be.
abbrev pub CanBeSaid : ℤ → List Frame → Type 0
CanBeSaid correlation frames = All IsWithinLimits frames → (saying : Saying) × IsSaidBy correlation saying frames
