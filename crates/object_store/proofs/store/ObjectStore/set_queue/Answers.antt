use Rattle.std.proofs.Common.{Some, ap, ◌∙◌}
use Rattle.grid_base.specs.declared.names.ObjectKey.TheVariants.{Queue}
use Rattle.object_store.specs.Records.{Queue as OfQueue}
use Rattle.object_store.specs.Partitions.{with_record}
use Rattle.std.proofs.lemmas.Result.{on_ok_weaker, on_err_weaker}
use Rattle.object_store.proofs.TableLaws.{queue_set, same_in_queues}
use Rattle.object_store.proofs.store.ObjectStore.set_queue.Goals as goal

pub returns-clause-ok : goal.returns-clause-ok
returns-clause-ok c = on_ok_weaker _ (λ sets.
    queue_set c.self.inside.maps c.self.inside.queues c.set_queue.new.queues c.args.name (Some c.args.queue) c.self.invariant.0.0 sets
    ∙ ap (λ s. with_record s (Queue c.args.name) (OfQueue c.args.queue)) c.self.view_is) c.set_queue.ensures.ok

pub returns-clause-err : goal.returns-clause-err
returns-clause-err c = on_err_weaker _ (λ same.
    same_in_queues c.self.inside.maps c.self.inside.queues c.set_queue.new.queues c.self.invariant.0.0 same ∙ c.self.view_is) c.set_queue.ensures.err
