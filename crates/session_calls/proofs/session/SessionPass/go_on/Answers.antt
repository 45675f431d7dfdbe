use Rattle.std.proofs.Common.{refl}
use Rattle.session_calls.proofs.Taking.{went, went_keeps}
use Rattle.session_calls.proofs.session.SessionPass.go_on.Goals as goal

pub returns-clause-came : goal.returns-clause-came
returns-clause-came g c terms may =
    went g.T.Stands.key_of g.T.Served.call_of g.T.Served.tells g.T.Served.fits c.args.place.now c.args.self.now c.requires.session c.index_mut-token.result.now c.go_on-came.new.token terms c.args.call may
    c.from.result c.from.ensures c.index_mut-token.ensures.value _ c.take_in.new.self refl refl refl refl
    c.go_on-came.result c.take_in.result c.go_on-came.ensures.told (c.go_on-came.ensures.came terms may.running.begun) c.take_in.ensures

pub returns-clause-kept : goal.returns-clause-kept
returns-clause-kept g c =
    let terms = c.requires.may.0 in let may = c.requires.may.1 in
    went_keeps g.T.Stands.key_of g.T.Served.call_of g.T.Served.tells g.T.Served.fits c.args.place.now c.args.self.now c.requires.session c.index_mut-token.result.now c.go_on-came.new.token terms c.args.call may
    c.from.result c.from.ensures c.index_mut-token.ensures.value _ c.take_in.new.self refl refl refl refl
    c.go_on-came.result c.take_in.result c.go_on-came.ensures.told (c.go_on-came.ensures.came terms may.running.begun) c.take_in.ensures
