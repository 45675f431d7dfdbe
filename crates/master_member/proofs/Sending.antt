-- What is sent: the same message to several members, or one message to one.
use Rattle.std.proofs.Common.{◌≡◌, ℕ, zero, suc, ◌<◌, ◌≤◌, Bool, true, false, cond, ◌==◌, List, [], ◌∷◌, ◌++◌, map, filter, length, refl, ap, sym, ◌∙◌, subst, ⊎_elim, arith, append-nil}
use Rattle.std.specs.List.{AllByRecursion}
use Rattle.std.proofs.lemmas.List.Elements.{filter-append}
use Rattle.partition_protocol.proofs.Lists.{cases}
use Rattle.partition_protocol.proofs.RowFacts.{number_other, number_cases}
use Rattle.partition_protocol.specs.Service.{numbers_below}
use Rattle.masters_protocol.specs.Members.{Message, Sent, to_each}
use Rattle.link_net.specs.Links.{sent_to}
use Rattle.master_wire.specs.declared.decision.Decision.{Decision}
use Rattle.master_wire.specs.Spelling.{spelling, IsSpelled}
use Rattle.master_member.specs.Steps.{written, AreWritten, IsSingle}

pub sent_append : (to : ℕ) (xs ys : List (ℕ × List ℕ)) → sent_to to (xs ++ ys) ≡ sent_to to xs ++ sent_to to ys
sent_append to [] ys = refl
sent_append to (x ∷ xs) ys = ⊎_elim
    (λ e. rw e (ap (λ zs. x.1 ∷ zs) (sent_append to xs ys)))
    (λ e. rw e (sent_append to xs ys))
    (cases (x.0 == to))

module _ (bytes : List ℕ) where
  abbrev pub each : List ℕ → List (ℕ × List ℕ)
  each ms = map (λ m. (m, bytes)) ms

  pub each_append : (xs ys : List ℕ) → each (xs ++ ys) ≡ each xs ++ each ys
  each_append [] ys = refl
  each_append (x ∷ xs) ys = ap (λ zs. (x, bytes) ∷ zs) (each_append xs ys)

  module _ (p : ℕ → Bool) where
    -- with one number more
    pub to_more : (to n : ℕ) → sent_to to (each (filter p (numbers_below (suc n)))) ≡ sent_to to (each (filter p (numbers_below n))) ++ sent_to to (each (filter p (n ∷ [])))
    to_more to n =
        ap (λ ms. sent_to to (each ms)) (filter-append p (numbers_below n) (n ∷ []))
        ∙ ap (sent_to to) (each_append (filter p (numbers_below n)) (filter p (n ∷ [])))
        ∙ sent_append to (each (filter p (numbers_below n))) (each (filter p (n ∷ [])))

    to_other : (to n : ℕ) (b : Bool) → (n == to) ≡ false → sent_to to (each (cond b (n ∷ []) [])) ≡ []
    to_other to n true e = rw e refl
    to_other to n false e = refl

    to_last : (to n : ℕ) (b : Bool) → length (sent_to to (each (cond b (n ∷ []) []))) ≤ 1
    to_last to n true = ⊎_elim (λ e. rw e (omega arith)) (λ e. rw e (omega arith)) (cases (n == to))
    to_last to n false = omega arith

    pub none_past : (n to : ℕ) → n ≤ to → sent_to to (each (filter p (numbers_below n))) ≡ []
    none_past zero to l = refl
    none_past (suc n) to l =
        to_more to n
        ∙ ap (λ xs. xs ++ sent_to to (each (filter p (n ∷ [])))) (none_past n to (omega (arith, l)))
        ∙ to_other to n (p n) (number_other n to (λ e. absurd (omega (arith, l, e))))

    pub one_each : (n to : ℕ) → length (sent_to to (each (filter p (numbers_below n)))) ≤ 1
    one_each zero to = omega arith
    one_each (suc n) to = ⊎_elim
        (λ e. subst (λ xs. length xs ≤ 1) (sym (to_more to n ∙ ap (λ xs. xs ++ sent_to to (each (filter p (n ∷ [])))) (none_past n to (let s = sym e in omega (arith, s))))) (to_last to n (p n)))
        (λ d. subst (λ xs. length xs ≤ 1) (sym (to_more to n ∙ ap (λ xs. sent_to to (each (filter p (numbers_below n))) ++ xs) (to_other to n (p n) (number_other n to (λ e. d (sym e)))) ∙ append-nil (sent_to to (each (filter p (numbers_below n)))))) (one_each n to))
        (number_cases to n)

    pub single_each : (size : ℕ) → IsSingle size (each (filter p (numbers_below size)))
    single_each size = record { few = λ to. one_each size to; within = λ to l. none_past size to l }

pub single_none : (size : ℕ) → IsSingle size []
single_none size = record { few = λ to. omega arith; within = λ to l. refl }

pub single_one : (size to : ℕ) (bytes : List ℕ) → to < size → IsSingle size ((to, bytes) ∷ [])
single_one size to bytes l = record { few = few; within = within }
  where
    few : (t : ℕ) → length (sent_to t ((to, bytes) ∷ [])) ≤ 1
    few t = ⊎_elim (λ e. rw e (omega arith)) (λ e. rw e (omega arith)) (cases (to == t))

    within : (t : ℕ) → size ≤ t → sent_to t ((to, bytes) ∷ []) ≡ []
    within t k = rw (number_other to t (λ e. absurd (omega (arith, l, k, e)))) refl

-- they are written

module _ (x : Message Decision) (good : IsSpelled x) where
  pub each_bytes : (ms : List ℕ) → each (spelling x) ms ≡ map written (to_each x ms)
  each_bytes [] = refl
  each_bytes (m ∷ ms) = ap (λ zs. (m, spelling x) ∷ zs) (each_bytes ms)

  pub each_spelled : (ms : List ℕ) → AllByRecursion (λ (s : Sent Decision). IsSpelled s.message) (to_each x ms)
  each_spelled [] = tt
  each_spelled (m ∷ ms) = (good, each_spelled ms)

  pub each_written : (ms : List ℕ) → AreWritten (each (spelling x) ms) (to_each x ms)
  each_written ms = record { bytes = each_bytes ms; spelled = each_spelled ms }

pub none_written : AreWritten [] []
none_written = record { bytes = refl; spelled = tt }
