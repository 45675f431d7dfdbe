use Rattle.live_grid.specs.Histories.{live_key}
use Rattle.partition_threads.proofs.Going.{follows_turn}
use Rattle.live_grid.proofs.control_turns.delivery_turn.Goals as goal

pub returns : goal.returns
returns g c = follows_turn live_key c.args.pass c.enter-turn.result c.deliver-ran.new.turn c.leave.result c.enter-turn.ensures.turn c.deliver-ran.ensures.pass c.deliver-ran.ensures.free c.leave.ensures
