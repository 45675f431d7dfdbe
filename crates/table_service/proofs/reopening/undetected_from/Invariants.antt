use Rattle.table_service.proofs.Candidates.{AreFound}
use Rattle.table_service.proofs.reopening.undetected_from.Given as goal

-- the candidates are those that were found, and those of the members that are left
abbrev pub invariant-loop-k : goal.invariant-loop-k
invariant-loop-k l = AreFound l.partition l.members l.k l.detected l.found.items
