-- What a member decided about a message, in the protocol's words.
use Rattle.std.specs.Prelude.{◌≡◌, ℕ, Bool, true, false, if◌then◌else◌, List, [], ◌++◌, Option, Some, None}
use Rattle.partition_table.specs.declared.Row.{Row}
use Rattle.partition_table.specs.Rows.{is_primary, is_backup}
use Rattle.partition_protocol.specs.Messages.{Sent, Ack, Joined, Frozen}
use Rattle.partition_protocol.specs.Node.{Node, with_ack}
use Rattle.partition_protocol.specs.Adoption.{adopted_row, sent_on_adopting}
use Rattle.partition_protocol.specs.Replica.{Step, with_sent, with_pair, to_one}
use Rattle.member_wire.specs.declared.took.Took.{Took}
use Rattle.member_wire.specs.declared.took.Took.TheVariants as took
use Rattle.member_wire.specs.Said.{took_of}
use Rattle.backup_apply.specs.declared.contents.ContentsChange.{ContentsChange}
use Rattle.backup_apply.specs.declared.contents.ContentsChange.TheVariants.{Keep, Install, Apply}
use Rattle.backup_apply.specs.declared.steps.BackupStep.{BackupStep}
use Rattle.backup_apply.specs.declared.steps.BackupStep.TheVariants.{Acknowledges, Silent}
use Rattle.backup_apply.specs.Steps.{step_of as backup_step, took_by as took_by_backup, change_by}
use Rattle.replica_node.specs.declared.reaction.Reaction.{Reaction}
use Rattle.replica_node.specs.declared.reaction.Reaction.TheVariants.{Backup, KeepsAck, Freezes}
use Rattle.replica_node.specs.declared.decision.Decision.{Decision}
use Rattle.replica_node.specs.declared.decision.Decision.TheVariants.{Adopts, Stays}

-- in the row that it knows

-- a joiner of that version has its contents, and the service is told so
abbrev pub joined_note : ℕ → ℕ → ℕ → Bool → List Sent
joined_note service version member joined = if joined then to_one service (Joined version member) else []

-- a primary is frozen and holds nothing, and the service is told so
abbrev pub drained_note : ℕ → ℕ → Bool → List Sent
drained_note service version drained = if drained then to_one service (Frozen version) else []

-- what it says in a version
abbrev pub sent_by : ℕ → ℕ → ℕ → Reaction → List Sent
sent_by service known from (Backup (Acknowledges version count change took)) = to_one from (Ack version count)
sent_by service version from (Backup (Silent took)) = []
sent_by service version from (KeepsAck count joined drained) = joined_note service version from joined ++ drained_note service version drained
sent_by service version from (Freezes drained) = drained_note service version drained

-- what it then knows, before any release
abbrev pub node_by : ℕ → Reaction → Node → Node
node_by from (Backup (Acknowledges version count change took)) node = with_pair node version count
node_by from (Backup (Silent took)) node = node
node_by from (KeepsAck count joined drained) node = record node { acks = with_ack from count node.acks }
node_by from (Freezes drained) node = record node { frozen = true }

-- how it took the message
abbrev pub took_by : Reaction → Took
took_by (Backup step) = took_by_backup step
took_by (KeepsAck count joined drained) = took.Acked
took_by (Freezes drained) = took.Frozen

-- and what its contents do
abbrev pub change_in : Reaction → ContentsChange
change_in (Backup step) = change_by step
change_in (KeepsAck count joined drained) = Keep
change_in (Freezes drained) = Keep

abbrev pub reaction_step : ℕ → ℕ → Reaction → Node → Step
reaction_step service from reaction node = record {
  node = node_by from reaction node;
  sent = sent_by service node.known.version from reaction;
  took = took_of (took_by reaction);
}

-- A primary's contents have the known version's name, and acknowledgements are kept of its backups alone
abbrev pub IsSound : ℕ → ℕ → Reaction → Node → Type 0
IsSound m from (Backup (Acknowledges version count change took)) node = is_primary node.known m ≡ false
IsSound m from (Backup (Silent took)) node = Unit {0}
IsSound m from (KeepsAck count joined drained) node = (is_primary node.known m ≡ true) × (is_backup node.known from ≡ true)
IsSound m from (Freezes drained) node = Unit {0}

-- in a newer row

abbrev pub adoption_step : ℕ → ℕ → Row → BackupStep → Node → Step
adoption_step m from row next node = let adopted = adopted_row m row node in with_sent (sent_on_adopting m adopted) (backup_step from next adopted)

-- an effect is of the known version, and so comes with no row
abbrev pub IsWhole : ContentsChange → Type 0
IsWhole Keep = Unit {0}
IsWhole (Install snapshot) = Unit {0}
IsWhole (Apply effect) = ⊥

-- The primary of a newer row does nothing more about the message
pub record IsSoundIn (m : ℕ) (row : Row) (next : BackupStep) : Type 0 where
  pub leads : is_primary row m ≡ true → next ≡ Silent (took_by_backup next)
  pub whole : IsWhole (change_by next)

-- all that was decided

abbrev pub step_of : ℕ → ℕ → ℕ → Decision → Node → Step
step_of service m from (Adopts row next) node = adoption_step m from row.now next node
step_of service m from (Stays reaction) node = reaction_step service from reaction node

abbrev pub adopted_by : Decision → Option Row
adopted_by (Adopts row next) = Some row.now
adopted_by (Stays reaction) = None

abbrev pub took_of_decision : Decision → Took
took_of_decision (Adopts row next) = took_by_backup next
took_of_decision (Stays reaction) = took_by reaction

abbrev pub change_of : Decision → ContentsChange
change_of (Adopts row next) = change_by next
change_of (Stays reaction) = change_in reaction

abbrev pub IsSoundly : ℕ → ℕ → Decision → Node → Type 0
IsSoundly m from (Adopts row next) node = IsSoundIn m row.now next
IsSoundly m from (Stays reaction) node = IsSound m from reaction node
