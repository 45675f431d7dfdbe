-- Answers of which the first ones are ready.
use Rattle.std.proofs.Common.{◌≡◌, ℕ, ◌<◌, Bool, true, false, not, ◌||◌, List, [], ◌∷◌, length, map, drop, nat_lt, refl, ap, sym, ◌∙◌, arith}
use Rattle.std.specs.List.{list_any}
use Rattle.std.proofs.Math.Seq.{drop-cons}
use Rattle.std.proofs.lemmas.List.{drop_all}
use Rattle.partition_table.specs.Rows.{is_empty}
use Rattle.partition_protocol.proofs.RowFacts.{less, not_less}

-- a test of the mapped list is the mapped test of the list
pub list_any-map : {X Y : Type 0} (p : Y → Bool) (f : X → Y) (xs : List X) → list_any p (map f xs) ≡ list_any (λ x. p (f x)) xs
list_any-map p f [] = refl
list_any-map p f (x ∷ xs) = ap (λ b. p (f x) || b) (list_any-map p f xs)

-- some are left behind the first i
pub waits : {X : Type 0} (xs : List X) (i : ℕ) (b : Bool) → nat_lt i (length xs) ≡ b → nat_lt i (length xs) ≡ not (is_empty (drop i xs))
waits [] i true e = absurd (let l : i < 0 = less i 0 e in omega arith)
waits (x ∷ xs) i true e = e ∙ ap (λ ys. not (is_empty ys)) (sym (drop-cons (x ∷ xs) i x (less i (length (x ∷ xs)) e)))
waits xs i false e = e ∙ ap (λ ys. not (is_empty ys)) (sym (drop_all i xs (not_less i (length xs) e)))
