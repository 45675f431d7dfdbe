-- How masters begin.
use Rattle.std.proofs.Common.{◌≡◌, ℕ, zero, suc, ◌+◌, ◌≤◌, false, List, [], ◌∷◌, ◌++◌, map, replicate, refl, ap, ◌∙◌, arith, add-one}
use Rattle.std.specs.Prelude.{vec_len}
use Rattle.partition_protocol.specs.Service.{numbers_below}
use Rattle.masters_protocol.specs.Machine.{opening_member}
use Rattle.link_net.specs.Links.{HasLists}
use Rattle.master_log.specs.declared.masters.Masters.{Masters}
use Rattle.master_log.specs.Standing.{has_crashed, StandsFor}

-- nobody has crashed
pub none_marked : (n m : ℕ) → has_crashed (replicate n false) m ≡ false
none_marked zero m = refl
none_marked (suc n) zero = refl
none_marked (suc n) (suc m) = none_marked n m

-- one number more
pub map_more : {X : Type 0} (f : ℕ → X) (n : ℕ) → map f (numbers_below (n + 1)) ≡ map f (numbers_below n) ++ f n ∷ []
map_more f n = ap (λ k. map f (numbers_below k)) (add-one n) ∙ go (numbers_below n)
  where
    go : (xs : List ℕ) → map f (xs ++ n ∷ []) ≡ map f xs ++ f n ∷ []
    go [] = refl
    go (x ∷ xs) = ap (λ zs. f x ∷ zs) (go xs)

pub begins : (masters : Masters) → 1 ≤ masters.size → masters.size ≤ 8 → vec_len masters.members ≡ masters.size → masters.members.items ≡ map opening_member (numbers_below masters.size) → vec_len masters.crashed ≡ masters.size → masters.crashed.items ≡ replicate masters.size false
    → masters.links.ends ≡ masters.size → HasLists masters.links (λ _ _. []) → masters.publisher ≡ 0 → masters.published ≡ 0 → StandsFor masters []
begins masters some most count members marks crashed ends links publisher published = record {
  some = some;
  most = most;
  shows = record {
    size = refl;
    count = count;
    members = members;
    marks = marks;
    crashed = λ m. ap (λ c. has_crashed c m) crashed ∙ none_marked masters.size m;
    ends = ends;
    links = λ f t. links f t;
    spelled = tt;
    publisher = omega (arith, some, publisher);
    length = published;
    published = rw published refl;
  };
}
