-- Looking for what isn't there.
use Rattle.std.proofs.Common.{◌≡◌, Bool, true, false, List, [], ◌∷◌, None, refl, inl, inr}
use Rattle.std.specs.List.{find}
use Rattle.partition_protocol.proofs.Lists.{In}
use Rattle.partition_protocol.proofs.RowFacts.{false_or_not}

pub find_none : {X : Type 0} (t : X → Bool) (xs : List X) → ((x : X) → In x xs → t x ≡ true → ⊥) → find t xs ≡ None
find_none t [] f = refl
find_none t (x ∷ xs) f =
    let e : t x ≡ false = false_or_not (t x) (f x (inl refl)) in
    let rest = find_none t xs (λ y i. f y (inr i)) in
    rw (e, rest) refl
