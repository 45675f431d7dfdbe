-- The turn of the list is the run's.
use Rattle.std.proofs.Common.{refl, arith}
use Rattle.replay_run.proofs.Asking.{world_within, moment_within}
use Rattle.replay_run.proofs.NextTurns.{turn_taken, list_there, node_there}
use Rattle.replay_run.proofs.grid.Grid.next_turn.Goals as goal

pub index-world-requires : goal.index-world-requires
index-world-requires g c =
    let within = world_within c.args.self.now c.requires.stands.1 c.requires.stands.3 c.args.at.partition c.from.result c.requires.partition c.from.ensures in
    omega (arith, within, c.args.self.now.worlds.ok.0)

pub standing_of-standing-requires : goal.standing_of-standing-requires
standing_of-standing-requires g c =
    node_there c.args.self.now c.requires.stands.1 c.requires.stands.3 c.args.at.member c.args.at.partition c.requires.member c.requires.partition c.from.result c.from.ensures c.index-world.result.now c.index-world.ensures

pub contents-requires : goal.contents-requires
contents-requires g c =
    node_there c.args.self.now c.requires.stands.1 c.requires.stands.3 c.args.at.member c.args.at.partition c.requires.member c.requires.partition c.from.result c.from.ensures c.index-world.result.now c.index-world.ensures

pub index-now-requires : goal.index-now-requires
index-now-requires g c =
    let within = moment_within c.args.self.now c.requires.stands.1 c.requires.stands.3 c.args.at.member c.from-2.result c.requires.member c.from-2.ensures in
    omega (arith, within, c.args.self.now.moments.ok.0)

pub turn-requires : goal.turn-requires
turn-requires g c = list_there c.args.self.now c.requires.stands.1 c.requires.stands.3 c.args.at.member c.args.at.partition c.requires.member c.requires.partition

pub returns-clause-taken : goal.returns-clause-taken
returns-clause-taken g c = λ settings r run h.
    let grid = c.args.self.now in
    turn_taken grid (record grid { waiters = c.turn.new.self }) refl r h run c.args.at.member c.args.at.partition c.requires.member c.requires.partition c.from.result c.from.ensures c.index-world.result.now c.index-world.ensures
    c.from-2.result c.from-2.ensures c.index-now.result.now c.index-now.ensures c.standing_of-standing.result c.contents.result.shelf.now c.standing_of-standing.ensures c.contents.ensures.state c.turn.result c.turn.ensures.turn c.turn.ensures.others
