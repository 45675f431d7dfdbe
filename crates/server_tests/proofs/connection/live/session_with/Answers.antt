use Rattle.std.proofs.Common.{refl}
use Rattle.server_tests.proofs.Opening.{new_session}
use Rattle.server_tests.proofs.connection.live.session_with.Goals as goal

pub returns : goal.returns
returns c = new_session _ c.args.passes.items c.requires.passes _ refl c.in_ok-places_of.ensures c.in_ok-member_tokens.ensures
