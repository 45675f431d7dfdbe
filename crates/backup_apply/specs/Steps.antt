-- A backup's step in the protocol's words.
use Rattle.std.specs.Prelude.{ℕ}
use Rattle.partition_protocol.specs.Node.{Node}
use Rattle.partition_protocol.specs.Replica.{Step, unanswered, acknowledging, with_pair}
use Rattle.member_wire.specs.declared.took.Took.{Took}
use Rattle.member_wire.specs.Said.{took_of}
use Rattle.backup_apply.specs.declared.contents.ContentsChange.{ContentsChange}
use Rattle.backup_apply.specs.declared.contents.ContentsChange.TheVariants.{Keep}
use Rattle.backup_apply.specs.declared.steps.BackupStep.{BackupStep}
use Rattle.backup_apply.specs.declared.steps.BackupStep.TheVariants.{Acknowledges, Silent}

abbrev pub step_of : ℕ → BackupStep → Node → Step
step_of from (Acknowledges version count change took) node = acknowledging (with_pair node version count) from (took_of took)
step_of from (Silent took) node = unanswered node (took_of took)

-- how it took what it was sent
abbrev pub took_by : BackupStep → Took
took_by (Acknowledges version count change took) = took
took_by (Silent took) = took

-- and what its contents do
abbrev pub change_by : BackupStep → ContentsChange
change_by (Acknowledges version count change took) = change
change_by (Silent took) = Keep
