-- The members of an opening row, one after another.
use Rattle.std.proofs.Common.{◌≡◌, ℕ, zero, suc, ◌+◌, ◌%◌, [], ◌∷◌, ◌++◌, take, min, refl, ap, sym, arith, add-zero}
use Rattle.partition_table.specs.Rows.{members_from, with_backups}

-- one more member comes last
pub members_from-more : (n k from : ℕ) → members_from n (k + 1) from ≡ members_from n k from ++ ((from + k) % n) ∷ []
members_from-more n zero from = ap (λ m. (m % n) ∷ []) (sym (add-zero from))
members_from-more n (suc k) from =
    let count : suc k + 1 ≡ suc (k + 1) = omega arith in
    let last : (from + 1) + k ≡ from + suc k = omega arith in
    rw count (ap (λ ms. (from % n) ∷ ms) (rw last at (members_from-more n k (from + 1))))

-- the first of some members
pub take-members_from : (n b k from : ℕ) → take b (members_from n k from) ≡ members_from n (min b k) from
take-members_from n zero k from = let none : min 0 k ≡ 0 = omega arith in rw none refl
take-members_from n (suc b) zero from = let none : min (suc b) 0 ≡ 0 = omega arith in rw none refl
take-members_from n (suc b) (suc k) from =
    let some : min (suc b) (suc k) ≡ suc (min b k) = omega arith in
    rw some (ap (λ ms. (from % n) ∷ ms) (take-members_from n b k (from + 1)))

-- the primary and its backups
pub with_backups-members_from : (n b k from : ℕ) → with_backups b (members_from n k from) ≡ members_from n (min k (b + 1)) from
with_backups-members_from n b zero from = let none : min 0 (b + 1) ≡ 0 = omega arith in rw none refl
with_backups-members_from n b (suc k) from =
    let some : min (suc k) (b + 1) ≡ suc (min b k) = omega arith in
    rw some (ap (λ ms. (from % n) ∷ ms) (take-members_from n b k (from + 1)))
