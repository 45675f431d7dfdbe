-- What holds of each element holds of those that are left, and of each that is taken out.
use Rattle.std.proofs.Common.{◌≡◌, ℕ, suc, ◌<◌, List, length, All, get_or, take, drop}
use Rattle.std.specs.List.{remove}
use Rattle.std.proofs.lemmas.List.Elements.{All-append, All-take, All-drop}

pub all_removed : {X : Type 0} (P : X → Type 0) (xs : List X) (i : ℕ) → All P xs → All P (remove xs i)
all_removed P xs i all = All-append P (take i xs) (drop (suc i) xs) (All-take P i xs all) (All-drop P (suc i) xs all)

pub removed_one : {X : Type 0} (P : X → Type 0) (xs : List X) (i : ℕ) (x : X) → All P xs → i < length xs → x ≡ get_or xs i x → P x
removed_one P xs i x all less is = rw is (all i x less)
