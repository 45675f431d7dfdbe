use Rattle.std.proofs.Common.{arith}
use Rattle.std.proofs.lemmas.Option.{slice_get_within}
use Rattle.replay_run.proofs.Asking.{told_history}
use Rattle.replay_run.proofs.grid.Grid.push_history.Goals as goal
use Rattle.call_engine.specs.Env.{settings_of}

pub index-requires : goal.index-requires
index-requires g c =
    let has = c.requires.stands.2.holds.worlds c.args.partition c.requires.placed in
    let within = slice_get_within c.args.self.now.worlds.items c.args.partition has.world has.there in
    omega (arith, within, c.args.self.now.worlds.ok.0, c.from.ensures)

pub returns : goal.returns
returns g c = λ settings r s.
    let told = told_history _ c.args.self.now r s c.args.partition c.from.result c.requires.placed c.from.ensures c.index.result.now c.index.ensures c.in_ok-trail.trail (c.in_ok-trail.ensures (settings_of _ c.args.self.now.env)) in
    c.push_entries.ensures settings r s told
