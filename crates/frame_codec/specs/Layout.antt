-- How the first bytes of a frame lie in memory: a header of which some bytes are there, and then the payload.
use Rattle.std.specs.Prelude.{◌≡◌, ℕ, ◌<◌, ◌≤◌, List, [], ◌++◌, length, take}
use Rattle.frame_codec.specs.declared.frames.TheConstants.{HEADER_LENGTH}

pub record IsLaidOut (header : List ℕ) (count : ℕ) (payload : List ℕ) : Type 0 where
  pub room : length header ≡ HEADER_LENGTH
  pub within : count ≤ HEADER_LENGTH
  pub header_first : count < HEADER_LENGTH → payload ≡ []

abbrev pub laid_out : List ℕ → ℕ → List ℕ → List ℕ
laid_out header count payload = take count header ++ payload
