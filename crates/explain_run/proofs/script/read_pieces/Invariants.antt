use Rattle.std.proofs.Common.{◌≤◌}
use Rattle.explain_run.proofs.script.read_pieces.Given as goal

-- no fault is forgotten
abbrev pub invariant-pieces : goal.invariant-pieces
invariant-pieces g l = g.S.Source.faults l.fn.source ≤ g.S.Source.faults l.source
