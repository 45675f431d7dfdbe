-- The numbers and the versions with which a member refuses a call that reached it.
use Rattle.std.specs.Prelude.{ℕ}
use Rattle.grid_base.specs.Errors.{partition_lost, wrong_target, migrating}
use Rattle.grid_base.specs.declared.refusal.PartitionRefused.{PartitionRefused}
use Rattle.grid_base.specs.declared.refusal.PartitionRefused.TheVariants.{PartitionLost, WrongTarget, Migrating}

abbrev pub code_of : PartitionRefused → ℕ
code_of (PartitionLost version) = partition_lost
code_of (WrongTarget version) = wrong_target
code_of (Migrating version) = migrating

abbrev pub version_of : PartitionRefused → ℕ
version_of (PartitionLost version) = version
version_of (WrongTarget version) = version
version_of (Migrating version) = version
