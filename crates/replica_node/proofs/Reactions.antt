-- What a backup does, as a member's reaction, and what follows for what it knows and sends.
use Rattle.std.proofs.Common.{◌≡◌, ℕ, refl}
use Rattle.partition_protocol.specs.Node.{Node, settled}
use Rattle.member_wire.specs.Said.{took_of}
use Rattle.backup_apply.specs.declared.steps.BackupStep.{BackupStep}
use Rattle.backup_apply.specs.declared.steps.BackupStep.TheVariants.{Acknowledges, Silent}
use Rattle.backup_apply.specs.Steps.{step_of as backup_step, took_by as took_by_backup}
use Rattle.replica_node.specs.declared.reaction.Reaction.{Reaction}
use Rattle.replica_node.specs.declared.reaction.Reaction.TheVariants.{Backup, KeepsAck, Freezes}
use Rattle.replica_node.specs.Decisions.{reaction_step, node_by, sent_by}

pub backup_reacts : (service from : ℕ) (step : BackupStep) (node : Node) → backup_step from step node ≡ reaction_step service from (Backup step) node
backup_reacts service from (Acknowledges version count change took) node = refl
backup_reacts service from (Silent took) node = refl

-- a backup's words are to the sender, in whatever version
pub backup_says : (service from known known' : ℕ) (step : BackupStep) → sent_by service known from (Backup step) ≡ sent_by service known' from (Backup step)
backup_says service from known known' (Acknowledges version count change took) = refl
backup_says service from known known' (Silent took) = refl

pub backup_took : (from : ℕ) (step : BackupStep) (node : Node) → (backup_step from step node).took ≡ took_of (took_by_backup step)
backup_took from (Acknowledges version count change took) node = refl
backup_took from (Silent took) node = refl

-- the known row stays
pub known_by : (from : ℕ) (reaction : Reaction) (node : Node) → (settled (node_by from reaction node)).known ≡ node.known
known_by from (Backup (Acknowledges version count change took)) node = refl
known_by from (Backup (Silent took)) node = refl
known_by from (KeepsAck count joined drained) node = refl
known_by from (Freezes drained) node = refl
