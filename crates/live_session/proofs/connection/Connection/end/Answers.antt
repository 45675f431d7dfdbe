use Rattle.std.proofs.Common.{rules, w64, SFits}
use Rattle.std.proofs.lemmas.Int.{to_z-of_z}
use Rattle.live_session.proofs.Telling.{answer_as}
use Rattle.live_session.proofs.connection.Connection.end.Goals as goal

pub returns-clause-answer : goal.returns-clause-answer
returns-clause-answer g c =
    let fits : SFits w64 c.args.correlation = search rules in
    answer_as c.args.call c.args.correlation c.args.outcome c.args.self.now c.answer.new.self c.args.journal.now c.answer.new.journal c.answer.result _
    (to_z-of_z w64 c.args.correlation fits) c.answer.ensures
