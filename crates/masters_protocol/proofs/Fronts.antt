-- Prefixes, and the longest of several logs.
use Rattle.std.proofs.Common.{◌⊎◌, inl, inr, ◌≡◌, ℕ, suc, ◌≤◌, nat_lt, List, [], ◌∷◌, ◌++◌, length, Some, slice_get, refl, ap, sym, ◌∙◌, subst, inl, inr, arith, append-nil, length-append, le_refl, le_trans, le_of_suc-le-suc}
use Rattle.partition_protocol.proofs.Lists.{In, Every, on_cond}
use Rattle.partition_protocol.proofs.RowFacts.{less, not_less}
use Rattle.partition_protocol.proofs.Theorem.{get_front}
use Rattle.partition_protocol.specs.Sequences.{IsFrontOf}
use Rattle.masters_protocol.specs.Members.{ToldLog, longer, longest}

pub front_nil : {X : Type 0} (ys : List X) → IsFrontOf [] ys
front_nil ys = (ys, refl)

pub front_eq : {X : Type 0} (xs ys : List X) → xs ≡ ys → IsFrontOf xs ys
front_eq xs ys e = ([], append-nil xs ∙ e)

pub front_append : {X : Type 0} (xs ys : List X) → IsFrontOf xs (xs ++ ys)
front_append xs ys = (ys, refl)

pub front_length : {X : Type 0} (xs ys : List X) → IsFrontOf xs ys → length xs ≤ length ys
front_length xs ys h = let a = length-append xs h.0 in let b = ap (λ us. length us) h.1 in omega (arith, a, b)

-- of two prefixes of one list
pub front_both : {X : Type 0} (xs ys zs : List X) → IsFrontOf xs zs → IsFrontOf ys zs → length xs ≤ length ys → IsFrontOf xs ys
front_both [] ys zs h k l = (ys, refl)
front_both (x ∷ xs) [] zs h k l = absurd (omega (arith, l))
front_both (x ∷ xs) (y ∷ ys) [] h k l = absurd (let e = h.1 in cc)
front_both (x ∷ xs) (y ∷ ys) (z ∷ zs) h k l =
    let e : xs ++ h.0 ≡ zs = let f = h.1 in cc in
    let g : ys ++ k.0 ≡ zs = let f = k.1 in cc in
    let same : x ≡ y = let a = h.1 in let b = k.1 in cc in
    let r = front_both xs ys zs (h.0, e) (k.0, g) (le_of_suc-le-suc l) in
    (r.0, let f = r.1 in cc)

pub front_same : {X : Type 0} (xs ys : List X) → IsFrontOf xs ys → length ys ≤ length xs → xs ≡ ys
front_same xs ys ([], e) l = sym (append-nil xs) ∙ e
front_same xs ys (z ∷ zs, e) l = absurd (let a = length-append xs (z ∷ zs) in let b = ap (λ us. length us) e in omega (arith, a, b, l))

-- a list with at most one more element
pub front_next : {X : Type 0} (xs ys : List X) → IsFrontOf xs ys → length ys ≤ suc (length xs) → (ys ≡ xs) ⊎ ((x : X) × (ys ≡ xs ++ x ∷ []))
front_next xs ys ([], e) l = inl (sym e ∙ append-nil xs)
front_next xs ys (x ∷ [], e) l = inr (x, sym e)
front_next xs ys (x ∷ y ∷ zs, e) l = absurd (let a = length-append xs (x ∷ y ∷ zs) in let b = ap (λ us. length us) e in omega (arith, a, b, l))

pub front_get : {X : Type 0} (xs ys : List X) (i : ℕ) (x : X) → IsFrontOf xs ys → slice_get xs i ≡ Some x → slice_get ys i ≡ Some x
front_get xs ys i x h e = subst (λ us. slice_get us i ≡ Some x) h.1 (get_front xs h.0 i x e)

-- the longer of two

pub longer_first : {X : Type 0} (xs ys : List X) → length xs ≤ length (longer xs ys)
longer_first xs ys = on_cond (λ us. length xs ≤ length us) (nat_lt (length xs) (length ys)) ys xs (λ e. let l = less (length xs) (length ys) e in omega (arith, l)) (λ e. le_refl (length xs))

pub longer_second : {X : Type 0} (xs ys : List X) → length ys ≤ length (longer xs ys)
longer_second xs ys = on_cond (λ us. length ys ≤ length us) (nat_lt (length xs) (length ys)) ys xs (λ e. le_refl (length ys)) (λ e. not_less (length xs) (length ys) e)

pub longer_prefix : {X : Type 0} (xs ys zs : List X) → IsFrontOf xs zs → IsFrontOf ys zs → IsFrontOf (longer xs ys) zs
longer_prefix xs ys zs h k = on_cond (λ us. IsFrontOf us zs) (nat_lt (length xs) (length ys)) ys xs (λ e. k) (λ e. h)

-- the longest of those told and one's own

pub longest_first : {D : Type 0} (l : List D) (ks : List (ToldLog D)) → length l ≤ length (longest l ks)
longest_first l [] = le_refl (length l)
longest_first l (k ∷ ks) = le_trans (longer_first l k.log) (longest_first (longer l k.log) ks)

pub longest_in : {D : Type 0} (l : List D) (ks : List (ToldLog D)) (k : ToldLog D) → In k ks → length k.log ≤ length (longest l ks)
longest_in l [] k i = absurd i
longest_in l (j ∷ ks) k (inl e) = subst (λ (z : ToldLog _). length z.log ≤ length (longest (longer l j.log) ks)) e (le_trans (longer_second l j.log) (longest_first (longer l j.log) ks))
longest_in l (j ∷ ks) k (inr i) = longest_in (longer l j.log) ks k i

pub longest_prefix : {D : Type 0} (l : List D) (ks : List (ToldLog D)) (zs : List D) → IsFrontOf l zs → Every (λ (k : ToldLog D). IsFrontOf k.log zs) ks → IsFrontOf (longest l ks) zs
longest_prefix l [] zs h f = h
longest_prefix l (k ∷ ks) zs h f = longest_prefix (longer l k.log) ks zs (longer_prefix l k.log zs h f.0) f.1
