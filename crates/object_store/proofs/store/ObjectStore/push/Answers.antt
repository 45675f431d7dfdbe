use Rattle.std.proofs.Common.{[], ◌∷◌, ◌++◌, Some, refl, ◌∙◌}
use Rattle.object_store.specs.Tables.{items_at}
use Rattle.std.proofs.lemmas.Result.{on_ok_weaker, on_err_weaker}
use Rattle.object_store.proofs.TableLaws.{queue_changed, same_in_queues}
use Rattle.object_store.proofs.store.ObjectStore.push.Goals as goal

pub returns-clause-ok : goal.returns-clause-ok
returns-clause-ok c = on_ok_weaker _ (λ sets.
    queue_changed c.args.self.now c.self.inside.maps c.self.inside.queues c.push.new.queues c.args.name (Some (items_at c.self.inside.queues c.args.name ++ c.args.value ∷ [])) (λ items. items ++ c.args.value ∷ []) c.self.view_is c.self.invariant.0.0 sets refl) c.push.ensures.ok

pub returns-clause-err : goal.returns-clause-err
returns-clause-err c = on_err_weaker _ (λ same.
    same_in_queues c.self.inside.maps c.self.inside.queues c.push.new.queues c.self.invariant.0.0 same ∙ c.self.view_is) c.push.ensures.err
