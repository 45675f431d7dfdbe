-- The candidates of a reopening, found one after another.
use Rattle.std.proofs.Common.{◌≡◌, ℕ, suc, ◌+◌, ◌-◌, ◌%◌, ◌<◌, ◌≤◌, true, false, not, List, [], ◌∷◌, ◌++◌, refl, ap, sym, ◌∙◌, arith}
use Rattle.std.specs.Prelude.{filter, Result, Ok, Err, OnErr}
use Rattle.std.proofs.lemmas.List.{append-nil, append_assoc}
use Rattle.partition_table.specs.Rows.{is_among, is_empty, members_from}
use Rattle.partition_protocol.specs.Service.{candidates}

-- the candidates are those that were found, and those of the members that are left
abbrev pub AreFound : (partition n k : ℕ) → (detected found : List ℕ) → Type 0
AreFound partition n k detected found = candidates partition n detected ≡ found ++ filter (λ m. not (is_among detected m)) (members_from n (n - k) (partition + k))

one_less : (n k from : ℕ) → k < n → members_from n (n - k) (from + k) ≡ ((from + k) % n) ∷ members_from n (n - (k + 1)) (from + (k + 1))
one_less n k from some =
    let count : n - k ≡ suc (n - (k + 1)) = omega arith in
    let next : (from + k) + 1 ≡ from + (k + 1) = omega arith in
    rw (count, ← next) refl

pub none_yet : (partition n : ℕ) (detected : List ℕ) → AreFound partition n 0 detected []
none_yet partition n detected =
    let all : n - 0 ≡ n = omega arith in
    let from : partition + 0 ≡ partition = omega arith in
    rw (all, from) refl

pub is_one : (partition n k : ℕ) (detected found : List ℕ) → k < n → is_among detected ((partition + k) % n) ≡ false → AreFound partition n k detected found
    → candidates partition n detected ≡ found ++ ((partition + k) % n) ∷ filter (λ m. not (is_among detected m)) (members_from n (n - (k + 1)) (partition + (k + 1)))
is_one partition n k detected found some live so_far = so_far ∙ ap (λ ms. found ++ ms) (rw (one_less n k partition some, live) refl)

pub one_more : (partition n k : ℕ) (detected found : List ℕ) → k < n → is_among detected ((partition + k) % n) ≡ false → AreFound partition n k detected found
    → AreFound partition n (k + 1) detected (found ++ ((partition + k) % n) ∷ [])
one_more partition n k detected found some live so_far = is_one partition n k detected found some live so_far ∙ sym (append_assoc found (((partition + k) % n) ∷ []) _)

pub none_more : (partition n k : ℕ) (detected found : List ℕ) → k < n → is_among detected ((partition + k) % n) ≡ true → AreFound partition n k detected found
    → AreFound partition n (k + 1) detected found
none_more partition n k detected found some out so_far = so_far ∙ ap (λ ms. found ++ ms) (rw (one_less n k partition some, out) refl)

pub all_found : (partition n k : ℕ) (detected found : List ℕ) → n ≤ k → AreFound partition n k detected found → found ≡ candidates partition n detected
all_found partition n k detected found over so_far =
    let none : n - k ≡ 0 = omega arith in
    let whole : candidates partition n detected ≡ found ++ [] = rw none at so_far in
    sym (whole ∙ append-nil found)

is_empty-more : (xs : List ℕ) (y : ℕ) (ys : List ℕ) → is_empty (xs ++ y ∷ ys) ≡ false
is_empty-more [] y ys = refl
is_empty-more (x ∷ xs) y ys = refl

pub some_found : (partition n k : ℕ) (detected found : List ℕ) → k < n → is_among detected ((partition + k) % n) ≡ false → AreFound partition n k detected found
    → is_empty (candidates partition n detected) ≡ false
some_found partition n k detected found some live so_far = ap is_empty (is_one partition n k detected found some live so_far) ∙ is_empty-more found _ _

pub on_err : {T E P : Type 0} (r : Result T E) → P → OnErr r P
on_err (Ok x) p = tt
on_err (Err e) p = p
