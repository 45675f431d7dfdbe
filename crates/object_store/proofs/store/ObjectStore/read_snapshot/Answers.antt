use Rattle.std.proofs.Common.{subst}
use Rattle.wire_parts.specs.Parts.{IsUnlessMemory}
use Rattle.object_store.proofs.ReadWhole.{same_partition_in}
use Rattle.object_store.proofs.store.ObjectStore.read_snapshot.Goals as goal

pub returns : goal.returns
returns c = subst (IsUnlessMemory c.read_partition.result) (same_partition_in c.args.bytes.now) c.read_partition.ensures
