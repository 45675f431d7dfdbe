-- A log whose decisions have a spelling, with one more.
use Rattle.std.specs.Prelude.{List, [], ◌∷◌, ◌++◌}
use Rattle.master_wire.specs.declared.decision.Decision.{Decision}
use Rattle.master_wire.specs.Spelling.{IsSpelledDecision, AreSpelled}

pub spelled_push : (log : List Decision) (d : Decision) → AreSpelled log → IsSpelledDecision d → AreSpelled (log ++ d ∷ [])
spelled_push [] d a b = (b, tt)
spelled_push (x ∷ log) d a b = (a.0, spelled_push log d a.1 b)
