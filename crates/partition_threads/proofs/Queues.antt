-- The tokens of a list of queues that grows by one.
use Rattle.std.proofs.Common.{◌≡◌, ℕ, zero, suc, ◌+◌, ◌⊎◌, inl, inr, ⊎_elim, List, [], ◌∷◌, ◌++◌, Option, Some, None, slice_get, length, sym, refl, ap, ◌∙◌, subst}
use Rattle.std.proofs.lemmas.List.{map-append, length-append, length-map}
use Rattle.atomic_table.specs.Seated.{TableId}
use Rattle.job_queues.specs.declared.queue.JobQueue.{JobQueue}
use Rattle.job_queues.specs.Roster.{Roster}
use Rattle.job_queues.specs.Tokens.{Token, IsTokenOf}
use Rattle.partition_threads.specs.Workplaces.{queue_ids, AreTokensOf}

none_some : {A : Type 0} (a : A) → ◌≡◌ {A = Option A} None (Some a) → ⊥
none_some a e = cc

same_some : {A : Type 0} (a b : A) → ◌≡◌ {A = Option A} (Some a) (Some b) → a ≡ b
same_some a b e = cc

pushed : {A : Type 0} (xs : List A) (x : A) (p : ℕ) (y : A) → slice_get (xs ++ x ∷ []) p ≡ Some y → (slice_get xs p ≡ Some y) ⊎ ((p ≡ length xs) × (y ≡ x))
pushed [] x zero y e = inr (refl, sym (same_some x y e))
pushed [] x (suc p) y e = absurd (none_some y e)
pushed (z ∷ zs) x zero y e = inl e
pushed (z ∷ zs) x (suc p) y e = ⊎_elim (λ (h : slice_get zs p ≡ Some y). inl h) (λ (h : (p ≡ length zs) × (y ≡ x)). inr (ap suc h.0, h.1)) (pushed zs x p y e)

stays_at : {A : Type 0} (xs ys : List A) (k : ℕ) (y : A) → slice_get xs k ≡ Some y → slice_get (xs ++ ys) k ≡ Some y
stays_at [] ys k y e = absurd (none_some y e)
stays_at (x ∷ xs) ys zero y e = e
stays_at (x ∷ xs) ys (suc k) y e = stays_at xs ys k y e

last_at : {A : Type 0} (xs : List A) (y : A) → slice_get (xs ++ y ∷ []) (length xs) ≡ Some y
last_at [] y = refl
last_at (x ∷ xs) y = last_at xs y

module _ {T P E O : Type 0} (roster : Roster P) where
  pub tokens_none : AreTokensOf {T = T} {E = E} {O = O} roster [] []
  tokens_none = record { as_long = refl; queue = λ k token e. absurd (none_some token e); roster_is = λ k token e. absurd (none_some token e) }

  pub tokens_same : (qs qs' : List (JobQueue T P E O)) (ts ts' : List (Token P)) → qs' ≡ qs → ts' ≡ ts → AreTokensOf roster qs ts → AreTokensOf roster qs' ts'
  tokens_same qs qs' ts ts' q t are = subst (λ (z : List (JobQueue T P E O)). AreTokensOf roster z ts') (sym q) (subst (λ (z : List (Token P)). AreTokensOf roster qs z) (sym t) are)

  pub tokens_more : (qs : List (JobQueue T P E O)) (ts : List (Token P)) (q : JobQueue T P E O) (t : Token P) → AreTokensOf roster qs ts → IsTokenOf q t → t.roster ≡ roster
      → AreTokensOf roster (qs ++ q ∷ []) (ts ++ t ∷ [])
  tokens_more qs ts q t are of knows = record {
    as_long = length-append qs (q ∷ []) ∙ (ap (λ n. n + 1) are.as_long ∙ sym (length-append ts (t ∷ [])));
    queue = λ k token e. subst (λ (z : List TableId). slice_get z k ≡ Some token.queue) (sym (map-append id_of qs (q ∷ []))) (⊎_elim
        (λ (h : slice_get ts k ≡ Some token). stays_at (queue_ids qs) (id_of q ∷ []) k token.queue (are.queue k token h))
        (λ (h : (k ≡ length ts) × (token ≡ t)). ap (slice_get (queue_ids qs ++ id_of q ∷ [])) (h.0 ∙ (sym are.as_long ∙ sym (length-map qs id_of)))
        ∙ (last_at (queue_ids qs) (id_of q) ∙ ap Some (sym (ap (λ (z : Token P). z.queue) h.1 ∙ of))))
        (pushed ts t k token e));
    roster_is = λ k token e. ⊎_elim (λ (h : slice_get ts k ≡ Some token). are.roster_is k token h) (λ (h : (k ≡ length ts) × (token ≡ t)). ap (λ (z : Token P). z.roster) h.1 ∙ knows) (pushed ts t k token e);
  }
    where
      id_of : JobQueue T P E O → TableId
      id_of x = x.queue.table.shared.table_id
