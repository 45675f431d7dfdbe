use Rattle.replay_run.proofs.SeenWorlds.{seen_is, is_seen}
use Rattle.replay_run.proofs.grid.Grid.world.Goals as goal

pub returns-clause-world : goal.returns-clause-world
returns-clause-world g c = λ settings r h low.
    seen_is c.args.self.now r h c.args.partition c.from.result low c.from.ensures c.deref.result.now c.deref.ensures.value c.get.result c.get.ensures.lookup.1

pub returns-clause-there : goal.returns-clause-there
returns-clause-there g c = λ settings r h low.
    is_seen c.args.self.now r h c.args.partition c.from.result low c.from.ensures c.deref.result.now c.deref.ensures.value c.get.result c.get.ensures.lookup.2
