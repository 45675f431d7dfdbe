-- How a reader goes over bytes, part by part.
use Rattle.std.specs.Prelude.{◌≡◌, ℕ, ◌<◌, ◌≤◌, Bool, true, false, List, ◌++◌, length, drop, None}
use Rattle.link_frames.specs.Reading.{Reading, reading}
use Rattle.link_frames.specs.declared.parts.LinkPart.{LinkPart}
use Rattle.link_frames.specs.declared.parts.Stage.{Stage}
use Rattle.link_frames.specs.declared.reader.Read.{Read}

abbrev pub with_parts : List LinkPart → Reading → Reading
with_parts parts r = record r { parts = parts ++ r.parts }

-- So far parts of some of the bytes were read, and what is left is still to be read.
pub record IsOn (stage : Stage) (bytes : List ℕ) (read : Read) : Type 0 where
  pub within : read.length ≤ length bytes
  pub sound : read.fault ≡ None
  pub reads : reading stage bytes ≡ with_parts read.parts.items (reading read.stage (drop read.length bytes))

-- All is read that there is to read.
pub record IsDone (stage : Stage) (bytes : List ℕ) (read : Read) : Type 0 where
  pub within : read.length ≤ length bytes
  pub reads : reading stage bytes ≡ record { parts = read.parts.items; fault = read.fault; stage = read.stage; rest = drop read.length bytes }

-- One part more was read, or there is none.
abbrev pub HasRead : Bool → Stage → List ℕ → Read → Type 0
HasRead true stage bytes read = IsOn stage bytes read
HasRead false stage bytes read = IsDone stage bytes read

-- how many bytes one part more has at least
abbrev pub least_taken : Bool → ℕ
least_taken true = 1
least_taken false = 0
