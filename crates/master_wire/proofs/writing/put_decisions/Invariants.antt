use Rattle.std.proofs.Common.{◌≡◌, ◌++◌, take}
use Rattle.std.specs.List.{flat_map}
use Rattle.master_wire.specs.Spelling.{decision_bytes, AreSpelled}
use Rattle.master_wire.proofs.writing.put_decisions.Given as goal

-- the decisions before this one are put, and have a spelling
abbrev pub invariant-loop-decision : goal.invariant-loop-decision
invariant-loop-decision l = (l.out.items ≡ l.initial.out.items ++ flat_map decision_bytes (take l.decision-index l.log)) × AreSpelled (take l.decision-index l.log)
