-- Tests of numbers, of roles and of members.
use Rattle.std.proofs.Common.{◌≡◌, ◌≢◌, ℕ, zero, suc, ◌<◌, ◌≤◌, Bool, true, false, not, ◌&&◌, ◌==◌, nat_eq, nat_lt, nat_le, List, [], ◌∷◌, ◌++◌, refl, sym, ◌∙◌, ◌⊎◌, ⊎_elim, inl, inr, arith, true≢false}
use Rattle.std.proofs.lemmas.Bool.Decides.{nat_tests}
use Rattle.std.proofs.lemmas.List.Folds.{list_any-append}
use Rattle.partition_protocol.proofs.Histories.{in_filter}
use Rattle.partition_protocol.proofs.Lists.{In, in_left, in_right, on_cond, cases}
use Rattle.partition_protocol.proofs.RowFacts.{either, either_left, both, same_number, number_other, number_cases, less, not_less}
use Rattle.partition_protocol.specs.Service.{numbers_below}
use Rattle.partition_table.specs.Rows.{is_among}
use Rattle.masters_protocol.specs.Members.{Role, Following, Gathering, Serving, Member, is_gathering, is_serving, is_master, with_one, peers}

pub true_not : (a : Bool) → a ≡ false → not a ≡ true
true_not a e = rw e refl

pub clash : {X : Type 0} (b : Bool) → b ≡ true → b ≡ false → X
clash b e f = absurd (true≢false (sym e ∙ f))

pub not_at_most : (a b : ℕ) → nat_le a b ≡ false → b < a
not_at_most a b e = grind (arith, nat_tests)

pub at_most : (a b : ℕ) → nat_le a b ≡ true → a ≤ b
at_most a b e = grind (arith, nat_tests)

pub order : (a b : ℕ) → (a < b) ⊎ (b ≤ a)
order a b = ⊎_elim (λ e. inl (less a b e)) (λ e. inr (not_less a b e)) (cases (nat_lt a b))

-- roles

pub serving_master : {D : Type 0} (r : Role D) → is_serving r ≡ true → is_master r ≡ true
serving_master Following e = e
serving_master (Gathering tells) e = refl
serving_master (Serving counts) e = refl

pub gathering_master : {D : Type 0} (r : Role D) → is_gathering r ≡ true → is_master r ≡ true
gathering_master Following e = e
gathering_master (Gathering tells) e = refl
gathering_master (Serving counts) e = refl

pub gathering_serving : {D : Type 0} (r : Role D) → is_gathering r ≡ true → is_serving r ≡ false
gathering_serving Following e = refl
gathering_serving (Gathering tells) e = refl
gathering_serving (Serving counts) e = sym e

pub following_serving : {D : Type 0} (r : Role D) → is_master r ≡ false → is_serving r ≡ false
following_serving Following e = refl
following_serving (Gathering tells) e = refl
following_serving (Serving counts) e = e

-- numbers below a bound

pub in_below : (n k : ℕ) → k < n → In k (numbers_below n)
in_below zero k l = absurd (omega (arith, l))
in_below (suc n) k l = ⊎_elim (λ e. in_right k (numbers_below n) (n ∷ []) (inl (sym e))) (λ d. in_left k (numbers_below n) (n ∷ []) (in_below n k (omega (arith, l, d)))) (number_cases k n)

-- one more number

pub among_more : (ks : List ℕ) (x k : ℕ) → is_among ks k ≡ true → is_among (ks ++ x ∷ []) k ≡ true
among_more ks x k e = list_any-append (nat_eq k) ks (x ∷ []) ∙ either_left (is_among ks k) (is_among (x ∷ []) k) e

pub among_last : (ks : List ℕ) (x k : ℕ) → is_among (ks ++ x ∷ []) k ≡ true → (is_among ks k ≡ true) ⊎ (k ≡ x)
among_last ks x k h = ⊎_elim (λ a. inl a) (λ a. ⊎_elim (λ b. inr (same_number k x b)) (λ b. absurd (true≢false (sym b))) (either (k == x) false a)) (either (is_among ks k) (is_among (x ∷ []) k) (sym (list_any-append (nat_eq k) ks (x ∷ [])) ∙ h))

pub among_one : (x : ℕ) (ks : List ℕ) (k : ℕ) → is_among (with_one x ks) k ≡ true → (k ≡ x) ⊎ (is_among ks k ≡ true)
among_one x ks k = on_cond (λ zs. is_among zs k ≡ true → (k ≡ x) ⊎ (is_among ks k ≡ true)) (is_among ks x) ks (ks ++ x ∷ []) (λ e h. inr h)
    (λ e h. ⊎_elim (λ a. inr a) (λ a. ⊎_elim (λ b. inl (same_number k x b)) (λ b. absurd (true≢false (sym b))) (either (k == x) false a)) (either (is_among ks k) (is_among (x ∷ []) k) (sym (list_any-append (nat_eq k) ks (x ∷ [])) ∙ h)))

pub one_among : (x : ℕ) (ks : List ℕ) (k : ℕ) → is_among ks k ≡ true → is_among (with_one x ks) k ≡ true
one_among x ks k h = on_cond (λ zs. is_among zs k ≡ true) (is_among ks x) ks (ks ++ x ∷ []) (λ e. h) (λ e. among_more ks x k h)

-- a live member is a peer of another
pub in_peers : {D : Type 0} (size m k : ℕ) (n : Member D) → k < size → k ≢ m → is_among n.told k ≡ false → In k (peers size m n)
in_peers size m k n l d e = in_filter (λ p. not (p == m) && not (is_among n.told p)) (numbers_below size) k (in_below size k l) (both (not (k == m)) (not (is_among n.told k)) (true_not (k == m) (number_other k m d)) (true_not (is_among n.told k) e))
