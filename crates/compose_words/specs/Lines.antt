-- What is said, as a line of a script.
use Rattle.std.specs.Prelude.{ℕ, ◌≤◌, ℤ, Bool, true, false, List, [], ◌∷◌, ◌++◌, length}
use Rattle.message_frames.specs.Messages.{prefix_of}
use Rattle.script_lang.specs.Spelling.{spelled}
use Rattle.script_lang.specs.Words.{newline}
use Rattle.script_lang.specs.declared.line.Line.TheVariants.{Arrive}
use Rattle.script_lang.specs.Limits.{most_line_bytes}
use Rattle.compose_words.specs.Sayings.{message_of, bytes_of, FitMessage}
use Rattle.compose_words.specs.declared.saying.Saying.{Saying}

-- the line at which bytes arrive on a connection, with its newline
abbrev pub arrival_line : ℕ → List ℕ → List ℕ
arrival_line conn bytes = spelled (Arrive conn bytes) ++ newline ∷ []

-- what stands before a message: the prefix, where nothing came on the connection before
abbrev pub opening : Bool → List ℕ
opening true = []
opening false = prefix_of true

-- A saying fits its line: its message is within the limits of one, and the line is no longer than one may be.
pub record FitsLine (conn : ℕ) (begun : Bool) (correlation : ℤ) (saying : Saying) : Type 0 where
  pub message : FitMessage (message_of correlation saying).frames
  pub line : length (spelled (Arrive conn (opening begun ++ bytes_of correlation saying))) ≤ most_line_bytes
