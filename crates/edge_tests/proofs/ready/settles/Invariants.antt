use Rattle.std.proofs.Common.{◌≡◌}
use Rattle.tcp_edge.specs.TcpDoors.{book_of}
use Rattle.edge_tests.proofs.ready.settles.Given as goal

-- nobody came so far, and none was given back
abbrev pub invariant-loop : goal.invariant-loop
invariant-loop l = book_of l.doors ≡ book_of l.fn.doors
