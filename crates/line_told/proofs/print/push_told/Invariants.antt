use Rattle.std.proofs.Common.{◌≡◌, ◌++◌, take}
use Rattle.line_told.specs.Printing.{text_of}
use Rattle.line_told.proofs.print.push_told.Given as goal

-- what was told so far was printed
abbrev pub invariant-loop-one : goal.invariant-loop-one
invariant-loop-one l = l.out.items ≡ l.initial.out.items ++ text_of l.line (take l.one-index l.told)
