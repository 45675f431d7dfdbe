-- A call that reaches a member: who executes it, and what the member then holds and sends.
use Rattle.std.specs.Prelude.{ℕ, ◌+◌, Bool, not, if◌then◌else◌, List, [], ◌∷◌, ◌++◌, map}
use Rattle.partition_table.specs.declared.RowMember.{RowMember}
use Rattle.partition_table.specs.Rows.{is_primary, backups_of}
use Rattle.partition_protocol.specs.Messages.{Effect, Sent}
use Rattle.partition_protocol.specs.Node.{Node}

-- what becomes of a call: a refusal carries the known version
pub data Reached : Type 0 where
  Executes : Reached
  PartitionLost : (version : ℕ) → Reached
  WrongTarget : (version : ℕ) → Reached
  Migrating : (version : ℕ) → Reached

-- member m executes a call where it is primary by the row that it knows, and isn't frozen
abbrev pub reached : ℕ → Node → Reached
reached m node =
    if node.known.lost then PartitionLost node.known.version
    else if not (is_primary node.known m) then WrongTarget node.known.version
    else if node.frozen then Migrating node.known.version
    else Executes

-- the node after it has executed a call, with an effect or without, before any release. The answer is held at the count that the call saw
abbrev pub executing : Bool → ℕ → ℕ → Node → Node
executing changes conn number node =
    let c = if changes then node.pair.count + 1 else node.pair.count in
    record node {
      pair = record { version = node.pair.version; count = c };
      recent = if changes then node.recent + 1 else node.recent;
      held = node.held ++ record { conn = conn; number = number; seen = c } ∷ [];
    }

-- an effect is sent to each backup, with its number
abbrev pub sent_on_executing : Bool → Node → List Sent
sent_on_executing changes after =
    if changes then map (λ (b : RowMember). record { to = b.member; message = Effect after.pair.version after.pair.count }) (backups_of after.known) else []
