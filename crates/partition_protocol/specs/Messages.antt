-- What the members of a partition and the table service say to one another.
-- No message carries contents: it names them by a version and a count of effects, and what they are follows from the calls.
use Rattle.std.specs.Prelude.{ℕ}
use Rattle.partition_table.specs.declared.Row.{Row}

-- what is said. Rows go with the marks of their members as the sender knows them
pub data Message : Type 0 where
  -- the service made this row
  NewRow : (row : Row) → Message
  -- the primary's contents, whole, as they are in the row's version after so many effects
  Sync : (row : Row) (count : ℕ) → Message
  -- the effect of that number in a version
  Effect : (version number : ℕ) → Message
  -- the row's version began with what the base version had after so many effects
  Bridge : (row : Row) (base count : ℕ) → Message
  -- the sender has that version's contents after so many effects
  Ack : (version count : ℕ) → Message
  -- a joiner of that version has its contents
  Joined : (version member : ℕ) → Message
  -- the primary of that version is to execute no more
  Freeze : (version : ℕ) → Message
  -- the primary of that version executes no more, and holds no answer
  Frozen : (version : ℕ) → Message

-- a message on its way out: to whom
pub record Sent : Type 0 where
  pub to : ℕ
  pub message : Message

-- a message in flight. Members are named by their numbers, and the service by the number of members
pub record Packet : Type 0 where
  pub from : ℕ
  pub to : ℕ
  pub message : Message
