use Rattle.std.proofs.Common.{◌≡◌, ◌<◌, ◌-◌, ◌*◌, ◌+◌, ◌^◌, drop, fold}
use Rattle.script_lang.specs.Words.{decimal_value}
use Rattle.script_lang.proofs.numbers.value_of_digits.Given as goal

-- the digits that are left, read on from the value so far, give the word's value
abbrev pub invariant-loop-digit : goal.invariant-loop-digit
invariant-loop-digit l = (l.value < 2 ^ 64) × (fold (λ n d. n * 10 + (d - 48)) l.value (drop l.digit-index l.word) ≡ decimal_value l.word)
