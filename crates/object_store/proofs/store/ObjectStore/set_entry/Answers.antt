use Rattle.std.proofs.Common.{Some, ap, ◌∙◌}
use Rattle.grid_base.specs.declared.names.ObjectKey.TheVariants.{Entry}
use Rattle.object_store.specs.Records.{Map}
use Rattle.object_store.specs.Partitions.{with_record}
use Rattle.std.proofs.lemmas.Result.{on_ok_weaker, on_err_weaker}
use Rattle.object_store.proofs.TableLaws.{entry_set, same_in_tables}
use Rattle.object_store.proofs.store.ObjectStore.set_entry.Goals as goal

pub returns-clause-ok : goal.returns-clause-ok
returns-clause-ok c = on_ok_weaker _ (λ sets.
    entry_set c.self.inside.maps c.set_entry.new.maps c.self.inside.queues c.args.map c.args.key (Some c.args.kept) c.self.invariant.0.0 c.set_entry.ensures.kept.0 sets
    ∙ ap (λ s. with_record s (Entry c.args.map c.args.key) (Map c.args.kept)) c.self.view_is) c.set_entry.ensures.ok

pub returns-clause-err : goal.returns-clause-err
returns-clause-err c = on_err_weaker _ (λ same.
    same_in_tables c.self.inside.maps c.set_entry.new.maps c.self.inside.queues c.self.invariant.0.0 c.set_entry.ensures.kept.0 same ∙ c.self.view_is) c.set_entry.ensures.err
