use Rattle.server_tests.proofs.Going.{IsServed}
use Rattle.server_tests.proofs.connection.tests.take_turns.Given as goal

-- the connection is served
abbrev pub invariant-loop : goal.invariant-loop
invariant-loop g l = IsServed l.place l.connection
