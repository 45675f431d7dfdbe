use Rattle.std.proofs.Common.{drop}
use Rattle.object_store.specs.Tables.{items_at}
use Rattle.object_store.specs.Records.{kept_items, Queue as OfQueue}
use Rattle.object_store.proofs.TableLaws.{queue_changed, unwrap-kept_items}
use Rattle.object_store.proofs.store.ObjectStore.pop.Goals as goal

pub returns : goal.returns
returns c =
    let rest = drop 1 (items_at c.self.inside.queues c.args.name.now) in
    queue_changed c.args.self.now c.self.inside.maps c.self.inside.queues c.pop.new.queues c.args.name.now (kept_items (OfQueue rest)) (λ items. drop 1 items) c.self.view_is c.self.invariant.0.0 c.pop.ensures.rest (unwrap-kept_items rest)
