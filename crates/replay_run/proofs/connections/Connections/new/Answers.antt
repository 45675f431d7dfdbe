use Rattle.std.proofs.Common.{ap, ◌∙◌, arith, ◌≡◌}
use Rattle.replay_run.specs.Tables.{unopened, slots_as, no_connections}
use Rattle.replay_run.proofs.Slots.{none_opened}
use Rattle.replay_run.proofs.connections.Connections.new.Goals as goal

pub returns : goal.returns
unfolding no_connections
returns c =
    let all : c.loop.counter ≡ 64 = omega arith in
    ap slots_as c.loop.invariant ∙ none_opened c.loop.counter ∙ ap unopened all
