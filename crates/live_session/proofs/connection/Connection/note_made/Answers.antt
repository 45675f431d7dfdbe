use Rattle.std.proofs.Common.{rules, w64, SFits}
use Rattle.std.proofs.lemmas.Int.{to_z-of_z}
use Rattle.live_session.proofs.Telling.{answer_as, notes_ready}
use Rattle.live_session.proofs.connection.Connection.note_made.Goals as goal

pub returns-in-Ready : goal.returns-in-Ready
returns-in-Ready g c =
    let fits : SFits w64 c.args.correlation = search rules in
    notes_ready c.args.call c.args.correlation c.in-Ready.outcome c.args.self.now c.answer.new.self c.args.journal.now c.started.new.self c.answer.new.journal c.answer.result c.args.made
    c.in-Ready.is c.started.ensures
    (answer_as c.args.call c.args.correlation c.in-Ready.outcome c.args.self.now c.answer.new.self c.started.new.self c.answer.new.journal c.answer.result _
    (to_z-of_z w64 c.args.correlation fits) c.answer.ensures)
