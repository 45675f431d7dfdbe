use Rattle.std.proofs.Common.{ap, sym, ◌∙◌}
use Rattle.call_engine.specs.Readiness.{entry_wish, queue_wish, wish_of, is_granted}
use Rattle.call_engine.proofs.Wishes.{ready_where_granted}
use Rattle.call_engine.proofs.shelf.GridShelf.ready.Goals as goal

pub returns-in-Map : goal.returns-in-Map
returns-in-Map g c =
    c.is_entry_ready.ensures c.args.env.now.capacity
    ∙ ap (λ s. is_granted c.args.env.now.capacity s c.args.now (entry_wish c.in-Map.on_entry)) c.store.ensures
    ∙ sym (ready_where_granted _ c.args.self.now c.args.call.now c.args.now ∙ ap (λ k. is_granted c.args.env.now.capacity c.args.self.now c.args.now (wish_of k)) c.in-Map.is)

pub returns-in-Queue : goal.returns-in-Queue
returns-in-Queue g c =
    c.is_queue_ready.ensures c.args.now
    ∙ ap (λ s. is_granted c.args.env.now.capacity s c.args.now (queue_wish c.in-Queue.on_queue)) c.store-in-Queue.ensures
    ∙ sym (ready_where_granted _ c.args.self.now c.args.call.now c.args.now ∙ ap (λ k. is_granted c.args.env.now.capacity c.args.self.now c.args.now (wish_of k)) c.in-Queue.is)
