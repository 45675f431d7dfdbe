use Rattle.std.proofs.Common.{◌≡◌, ◌++◌}
use Rattle.std.specs.Prelude.{drop}
use Rattle.std.specs.List.{flat_map}
use Rattle.script_run.specs.Printing.{heard_text}
use Rattle.script_run.proofs.print.push_all_heard.Given as goal

-- the text so far and that of what is left are all
abbrev pub invariant-loop-heard : goal.invariant-loop-heard
invariant-loop-heard l = l.out.items ++ flat_map (heard_text l.line) (drop l.heard-index l.all) ≡ l.fn.out.items ++ flat_map (heard_text l.fn.line) l.fn.all
