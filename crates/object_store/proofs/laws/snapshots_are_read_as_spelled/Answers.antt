use Rattle.object_store.proofs.SnapshotLaws.{snapshot_again, snapshot_found}
use Rattle.object_store.proofs.laws.snapshots_are_read_as_spelled.Goals as goal

pub returns-clause-again : goal.returns-clause-again
returns-clause-again c = snapshot_again

pub returns-clause-found : goal.returns-clause-found
returns-clause-found c = snapshot_found
