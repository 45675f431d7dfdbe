use Rattle.std.specs.Prelude.{[]}
use Rattle.session_core.proofs.Standing.{first_session}
use Rattle.session_core.proofs.session.Session.new.Goals as goal

pub invariant_of-result : goal.invariant_of-result
invariant_of-result c = ([], first_session c.args.conn c.args.member c.new.result c.new.ensures)

pub returns : goal.returns
returns c = first_session c.args.conn c.args.member c.new.result c.new.ensures
