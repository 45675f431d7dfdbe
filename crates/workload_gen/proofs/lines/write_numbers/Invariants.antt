use Rattle.std.proofs.Common.{◌≡◌, ◌++◌, ◌∷◌, decimal, flat_map, take}
use Rattle.script_lang.specs.Words.{space}
use Rattle.workload_gen.proofs.lines.write_numbers.Given as goal

-- the numbers before this one were appended
abbrev pub invariant-loop-number : goal.invariant-loop-number
invariant-loop-number l = l.out.items ≡ l.initial.out.items ++ flat_map (λ number. space ∷ decimal number) (take l.number-index l.numbers)
