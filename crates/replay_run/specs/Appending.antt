-- What is appended to the outputs of connections.
use Rattle.std.specs.Prelude.{List, length, drop}
pub use Rattle.line_told.specs.Printing.{appended_text}
use Rattle.replay_run.specs.Runs.{Run, Appended}

-- what was appended at the last line, or by a part of it
abbrev pub new_messages : Run → Run → List Appended
new_messages before after = drop (length before.appended) after.appended
