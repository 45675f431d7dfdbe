-- The output of a connection: what is appended to it.
use Rattle.std.specs.Prelude.{ℕ, ◌==◌, if◌then◌else◌, List, [], ◌∷◌}
use Rattle.std.specs.List.{flat_map}
use Rattle.line_told.specs.declared.told.Told.{Told}
use Rattle.line_told.specs.declared.told.Told.TheVariants as told
use Rattle.replay_run.specs.Runs.{Appended}

-- what a message is to a connection: its bytes, or nothing
abbrev pub bytes_to : ℕ → Appended → List ℕ
bytes_to c m = if m.conn == c then m.bytes else []

-- what messages bring to a connection, in order
abbrev pub sent_to : ℕ → List Appended → List ℕ
sent_to c messages = flat_map (bytes_to c) messages

-- the messages among what was told
abbrev pub message_in : Told → List Appended
message_in (told.Message m) = m ∷ []
message_in told = []

abbrev pub messages_in : List Told → List Appended
messages_in all = flat_map message_in all
