use Rattle.std.proofs.Common.{None, ap, ◌∙◌}
use Rattle.grid_base.specs.declared.names.ObjectKey.TheVariants.{Entry}
use Rattle.object_store.specs.Records.{Map}
use Rattle.map_records.specs.MapEntries.{empty_entry}
use Rattle.object_store.specs.Partitions.{with_record}
use Rattle.object_store.proofs.TableLaws.{entry_set}
use Rattle.object_store.proofs.store.ObjectStore.drop_entry.Goals as goal

pub returns : goal.returns
returns c =
    entry_set c.self.inside.maps c.drop_entry.new.maps c.self.inside.queues c.args.map.now c.args.key.now None c.self.invariant.0.0 c.drop_entry.ensures.kept.0 c.drop_entry.ensures.entries
    ∙ ap (λ s. with_record s (Entry c.args.map.now c.args.key.now) (Map empty_entry)) c.self.view_is
