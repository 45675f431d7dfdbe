use Rattle.call_engine.proofs.ShelfSteps.{installed}
use Rattle.call_engine.proofs.shelf.GridShelfShelf.install.Goals as goal

pub returns-in-Ok : goal.returns-in-Ok
returns-in-Ok c s small is = installed s _ _ _ c.as_slice.ensures c.in-Ok.ensures small is
