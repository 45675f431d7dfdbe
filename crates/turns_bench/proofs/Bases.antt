-- The pass from which those of the calls are split.
use Rattle.std.proofs.Common.{◌≡◌, ℕ, ◌+◌, ◌<◌, ◌≤◌, Bool, true, false, not, ◌||◌, ◌==◌, List, [], ◌∷◌, sym, ap, ◌∙◌, refl, arith}
use Rattle.std.proofs.lemmas.Bool.Decides.{nat_tests}
use Rattle.hand_cell.specs.declared.names.NameSet.{NameSet}
use Rattle.hand_cell.specs.declared.names.Names.TheVariants.{One}
use Rattle.hand_cell.specs.declared.names.Numbers.{Numbers}
use Rattle.hand_cell.specs.declared.names.Key.TheVariants.{Call}
use Rattle.hand_cell.specs.Names.{has, has_number, listed, without, left_names, given_names}
use Rattle.hand_cell.specs.Told.{Told, with_names}
use Rattle.turns_bench.specs.declared.echo.Asked.{Asked}
use Rattle.turns_bench.specs.Calling.{Place, IsBase}
use Rattle.turns_bench.specs.Echoes.{first_call}

same : (n : ℕ) → (n == n) ≡ true
same n = grind (arith, nat_tests)

apart : (n m : ℕ) → n < m → (n == m) ≡ false
apart n m less = grind (arith, nat_tests)

either_false : (a b : Bool) → a ≡ false → b ≡ false → (a || b) ≡ false
either_false a b p q = rw (p, q) refl

-- the base has the name of the next connection
pub may_give : (place : Place) (n : ℕ) (base : Told Asked) → IsBase place n base → has_number base.names.numbers n ≡ true
may_give place n base is = ap (λ (z : Numbers). has_number z n) is.numbers ∙ ap not (is.unlisted n (omega arith))

-- what is split off has that name
pub is_named : (n : ℕ) (names : NameSet) → has (given_names (One n) names) (Call (first_call n)) ≡ true
is_named n names = ap (λ (z : Bool). z || false) (same n)

-- and the base goes on with the next
pub next_base : (place : Place) (n : ℕ) (base after : Told Asked) → IsBase place n base → after ≡ with_names base (left_names (One n) base.names) → IsBase place (n + 1) after
next_base place n base after is e = rw e (record {
  cell = is.cell;
  given = n ∷ is.given;
  numbers = ap (without n) is.numbers;
  unlisted = λ m le. either_false (n == m) (listed m is.given) (apart n m (omega (arith, le))) (is.unlisted m (omega (arith, le)));
  unseen = is.unseen;
})
