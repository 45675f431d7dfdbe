-- A script of which a source gives the bytes: what is said of it by those that were read.
use Rattle.std.specs.Prelude.{◌≡◌, ℕ, true, false, List, [], ◌++◌, Option}
use Rattle.std.specs.Io.KnownBytes.{prepend_known, IsAtEnd}
use Rattle.grid_base.specs.declared.names.CallId.{CallId}
use Rattle.grid_edge.specs.Given.{Given}

-- What is said of a script of which these bytes were read and this text was written, where these calls found no memory.
abbrev pub Claim : Type 1
Claim = (skips : List CallId) (script read text : List ℕ) → Type 0

-- These bytes may follow what a source gave: none, once a read has found the end.
abbrev pub MayFollow : Given → List ℕ → Type 0
MayFollow given rest = given.ended ≡ true → rest ≡ []

-- These bytes were read since the source had given the first. What holds, holds of each script that begins with them and may go on so.
pub record IsOfScript (first now : Given) (Holds : (script read : List ℕ) → Type 0) : Type 0 where
  pub read : List ℕ
  pub read_is : now.bytes ≡ first.bytes ++ read
  pub holds : (rest : List ℕ) → MayFollow now rest → Holds (read ++ rest) read

-- The sink has taken a text since, which tells this of the script that was read, for some calls that found no memory.
pub record Prints (Tells : Claim) (first now : Given) (before after : List ℕ) : Type 0 where
  pub skips : List CallId
  pub text : List ℕ
  pub text_is : after ≡ before ++ text
  pub script : IsOfScript first now (λ script read. Tells skips script read text)
