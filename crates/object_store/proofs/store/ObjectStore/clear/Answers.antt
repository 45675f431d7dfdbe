use Rattle.std.proofs.Common.{[], None, refl}
use Rattle.object_store.proofs.TableLaws.{queue_changed}
use Rattle.object_store.proofs.store.ObjectStore.clear.Goals as goal

pub returns : goal.returns
returns c = queue_changed c.args.self.now c.self.inside.maps c.self.inside.queues c.clear.new.queues c.args.name.now None (λ items. []) c.self.view_is c.self.invariant.0.0 c.clear.ensures.none refl
