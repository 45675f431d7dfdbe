-- What stands at a place of a list.
use Rattle.std.specs.Prelude.{◌≡◌, ℕ, List}
use mathlib.Core.Option.{some}
use lib.ListN.{get_elem?}

abbrev pub At : {A : Type 0} → List A → ℕ → A → Type 0
At l i a = get_elem? l i ≡ some a
