use Rattle.call_engine.proofs.ShelfSteps.{applied_where_put}
use Rattle.call_engine.proofs.shelf.GridShelfShelf.apply.Goals as goal

pub returns-in-Ok-clause-ok : goal.returns-in-Ok-clause-ok
returns-in-Ok-clause-ok c = applied_where_put _ _ _ _ _ _ _ c.self.view_is c.as_slice.ensures c.in-Ok.ensures c.requires c.put_effect.ensures.ok
