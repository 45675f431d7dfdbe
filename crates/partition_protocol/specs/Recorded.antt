-- What is recorded of a partition so that its histories can be told. No member and no service looks at it, so a program need not keep it.
use Rattle.std.specs.Prelude.{List}
use Rattle.partition_table.specs.declared.Row.{Row}
use Rattle.partition_protocol.specs.History.{Entry, Base, Opening}

-- the rows, executions and adoptions so far, as far as histories depend on them
pub record Recorded (C : Type 0) : Type 0 where
  pub standing : Row  -- the newest row that isn't lost, by which the partition stands
  pub log : List (Entry C)  -- the calls executed and the reopenings, in order
  pub bases : List Base  -- of each version that a primary began, the newest first
  pub openings : List (Opening C)  -- the newest first
