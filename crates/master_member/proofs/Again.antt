-- What a master sends again.
use Rattle.std.proofs.Common.{◌≡◌, ℕ, Bool, true, false, cond, not, ◌&&◌, ◌==◌, List, [], ◌∷◌, filter, length, Result, Ok, Err, refl, ap, sym, subst}
use Rattle.std.specs.Prelude.{IfOk, OnOk}
use Rattle.partition_protocol.specs.Service.{numbers_below}
use Rattle.partition_table.specs.Rows.{is_among}
use Rattle.masters_protocol.specs.Members.{Member, Role, Gathering, Serving, Ask, Store, has_told, has_stored, peers, has_sent, sent_again, ToldLog, StoredLength}
use Rattle.master_wire.specs.declared.decision.Decision.{Decision}
use Rattle.master_wire.specs.Spelling.{spelling, IsSpelled}
use Rattle.master_member.specs.Steps.{AreWritten, IsSingle}
use Rattle.master_member.proofs.Sending.{each, each_written, single_each}

pub on_ok : {A E : Type 0} (r : Result A E) (P Q : A → Type 0) → IfOk r P → ((x : A) → P x → Q x) → IfOk r Q
on_ok (Ok x) P Q h f = f x h
on_ok (Err e) P Q h f = tt

pub on_both : {A E : Type 0} {Q : Type 0} (r : Result A E) (P R : A → Type 0) → IfOk r P → OnOk r Q → ((x : A) → P x → Q → R x) → IfOk r R
on_both (Ok x) P R h g f = f x h g
on_both (Err e) P R h g f = tt

pub filter_twice : (p q : ℕ → Bool) (xs : List ℕ) → filter p (filter q xs) ≡ filter (λ x. q x && p x) xs
filter_twice p q [] = refl
filter_twice p q (x ∷ xs) = by (q x) (filter_twice p q xs)
  where
    by : (b : Bool) → filter p (filter q xs) ≡ filter (λ y. q y && p y) xs
        → filter p (cond b (x ∷ filter q xs) (filter q xs)) ≡ cond (b && p x) (x ∷ filter (λ y. q y && p y) xs) (filter (λ y. q y && p y) xs)
    by true ih = ap (λ zs. cond (p x) (x ∷ zs) zs) ih
    by false ih = ih

module _ (size m : ℕ) (n : Member Decision) (bytes : List ℕ) (test : ℕ → Bool) where
  -- each of the peers that pass gets one message
  pub single_again : IsSingle size (each bytes (filter test (peers size m n)))
  single_again = subst (λ ms. IsSingle size (each bytes ms)) (sym (filter_twice test (λ p. not (p == m) && not (is_among n.told p)) (numbers_below size)))
      (single_each bytes (λ x. (not (x == m) && not (is_among n.told x)) && test x) size)

module _ (size m : ℕ) (n : Member Decision) where
  pub asked_again : (tells : List (ToldLog Decision)) → n.role ≡ Gathering tells → IsSpelled (Ask m)
      → AreWritten (each (spelling (Ask m)) (filter (λ p. not (has_told tells p)) (peers size m n))) (sent_again size m n)
  asked_again tells role good = subst (λ (r : Role Decision). AreWritten (each (spelling (Ask m)) (filter (λ p. not (has_told tells p)) (peers size m n))) (sent_again size m (record n { role = r }))) (sym role)
      (each_written (Ask m) good (filter (λ p. not (has_told tells p)) (peers size m n)))

  pub stored_again : (counts : List StoredLength) → n.role ≡ Serving counts → has_sent m n ≡ true → IsSpelled (Store m n.log)
      → AreWritten (each (spelling (Store m n.log)) (filter (λ p. not (has_stored (length n.log) counts p)) (peers size m n))) (sent_again size m n)
  stored_again counts role sent good = subst (λ (r : Role Decision). AreWritten (each (spelling (Store m n.log)) (filter (λ p. not (has_stored (length n.log) counts p)) (peers size m n))) (sent_again size m (record n { role = r }))) (sym role)
      (rw sent (each_written (Store m n.log) good (filter (λ p. not (has_stored (length n.log) counts p)) (peers size m n))))
