use Rattle.std.proofs.Common.{◌≡◌, ℕ, ◌+◌, ◌-◌, ◌*◌, List, suc, drop, get_or, sym, ◌∙◌, arith}
use Rattle.std.proofs.lemmas.List.{drop_all}
use Rattle.script_lang.specs.Words.{decimal_value}
use Rattle.script_lang.proofs.Decimals.{reads_on, too_large}
use Rattle.script_lang.proofs.numbers.value_of_digits.Goals as goal

pub returns-in_err-checked_mul : goal.returns-in_err-checked_mul
returns-in_err-checked_mul c =
    let word : List ℕ = c.args.word.now in
    let i : ℕ = c.loop-digit.digit-index in
    let read = sym (reads_on c.loop-digit.value i word c.loop-digit-test.true) ∙ c.loop-digit.invariant.1 in
    too_large _ (c.loop-digit.value * 10 + (get_or word i 0 - 48)) (drop (suc i) word) _ c.from_residual.ensures (omega (arith, c.in_err-checked_mul.ensures)) read

pub returns-in_err-value : goal.returns-in_err-value
returns-in_err-value c =
    let word : List ℕ = c.args.word.now in
    let i : ℕ = c.loop-digit.digit-index in
    let read = sym (reads_on c.loop-digit.value i word c.loop-digit-test.true) ∙ c.loop-digit.invariant.1 in
    too_large _ (c.loop-digit.value * 10 + (get_or word i 0 - 48)) (drop (suc i) word) _ c.from_residual-in_err-value.ensures
    (omega (arith, c.in_err-value.ensures, c.in_ok-checked_mul.ensures, c.saturating_sub.ensures, c.from-digit.ensures)) read

pub returns : goal.returns
returns c =
    let a = c.loop-digit.invariant in
    let e : c.loop-digit.value ≡ decimal_value c.args.word.now = rw (drop_all _ _ c.loop-digit-test.false) at c.loop-digit.invariant.1 in (rw (← e) c.loop-digit.invariant.0, e)
