-- Lists: what stands in one, what holds of each element, and an element changed.
use Rattle.std.proofs.Common.{length, ◌≡◌, ℕ, zero, suc, Bool, true, false, List, [], ◌∷◌, Option, Some, None, slice_set, refl, ap, subst, inl, inr}
use Rattle.std.specs.List.{list_any, list_all}
use Rattle.partition_protocol.proofs.Lists.{In}
use Rattle.partition_protocol.proofs.RowFacts.{or_false_left, or_false_right}
use Rattle.partition_protocol.specs.World.{map_or}

-- choices

pub on_some : {X Y : Type 0} (P : Y → Type 0) (o : Option X) (d : Y) (f : X → Y) → P d → ((x : X) → o ≡ Some x → P (f x)) → P (map_or o d f)
on_some P None d f h k = h
on_some P (Some x) d f h k = k x refl

-- tests of lists

pub all_from_in : {X : Type 0} (t : X → Bool) (xs : List X) → ((x : X) → In x xs → t x ≡ true) → list_all t xs ≡ true
all_from_in t [] f = refl
all_from_in t (y ∷ ys) f = rw (f y (inl refl)) (all_from_in t ys (λ x i. f x (inr i)))

-- none passes the test
pub none_in : {X : Type 0} (t : X → Bool) (xs : List X) (x : X) → list_any t xs ≡ false → In x xs → t x ≡ false
none_in t [] x e i = absurd i
none_in t (y ∷ ys) x e (inl s) = subst (λ z. t z ≡ false) s (or_false_left (t y) (list_any t ys) e)
none_in t (y ∷ ys) x e (inr i) = none_in t ys x (or_false_right (t y) (list_any t ys) e) i

-- an element changed

pub length_set : {X : Type 0} (xs : List X) (m : ℕ) (a : X) → length (slice_set xs m a) ≡ length xs
length_set [] m a = refl
length_set (y ∷ ys) zero a = refl
length_set (y ∷ ys) (suc m) a = ap (λ n. suc n) (length_set ys m a)
