use Rattle.std.proofs.Common.{sym, subst, []}
use Rattle.partition_world.specs.Worlds.{IsReleased}
use Rattle.live_grid.specs.Plans.{settings_for}
use Rattle.live_grid.specs.Histories.{cells}
use Rattle.live_grid.specs.Lives.{AreReleased}
use Rattle.live_grid.proofs.Pushed.{none_at_all}
use Rattle.live_grid.proofs.world.LiveWorld.new.Goals as goal

pub returns : goal.returns
returns c = let plan = c.args.plan.now in record {
  world = record { stands = c.in_ok-world.ensures.stands (settings_for plan); setup = c.in_ok-world.ensures.setup };
  answers = subst (AreReleased plan []) (sym c.in_ok-with_capacity.ensures.items) (none_at_all (IsReleased (cells plan [])));
}
