use Rattle.std.proofs.Common.{◌≡◌, ◌≤◌, ◌+◌, ◌-◌, ℕ, false, if◌then◌else◌, List, [], ◌++◌}
use Rattle.script_lang.specs.Limits.{most_bytes}
use Rattle.live_control.specs.Reading.{HasCome, LeadsTo}
use Rattle.live_control.proofs.lines.LineReader.next.Given as goal

abbrev pub invariant-pieces : goal.invariant-pieces
invariant-pieces g l = record {
  going : l.self.has_ended ≡ false;
  never_falls : g.S.Source.faults l.fn.script ≤ g.S.Source.faults l.script;
  come : (came : List ℕ) (given : List (List ℕ)) → HasCome l.fn.self (g.S.Source.given l.fn.script) came given []
      → LeadsTo (g.S.Source.given l.fn.script) (g.S.Source.given l.script) (λ more. HasCome l.self (g.S.Source.given l.script) (came ++ more) given l.self.line.items);
}

abbrev pub decreases-pieces : goal.decreases-pieces
decreases-pieces g l = (most_bytes - l.self.bytes) + (if l.self.is_over then 0 else 1)
