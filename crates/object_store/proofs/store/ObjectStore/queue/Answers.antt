use Rattle.std.proofs.Common.{◌∙◌}
use Rattle.object_store.proofs.TableLaws.{queue_looked_up}
use Rattle.object_store.proofs.store.ObjectStore.queue.Goals as goal

pub returns : goal.returns
returns c = c.get.ensures.value ∙ queue_looked_up c.args.self.now c.self.inside.maps c.self.inside.queues c.args.name.now c.self.view_is c.self.invariant.1
