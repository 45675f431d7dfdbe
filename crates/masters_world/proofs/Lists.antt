-- Lists of decisions, and parts of lists.
use Rattle.std.proofs.Common.{◌≡◌, ℕ, suc, ◌+◌, ◌≤◌, Bool, true, false, cond, if◌then◌else◌, List, [], ◌∷◌, ◌++◌, filter, refl, ap, sym, subst, inl, inr, arith}
use Rattle.partition_protocol.proofs.Lists.{In}
use Rattle.partition_protocol.specs.Sequences.{picked, IsSubsequence}
use Rattle.masters_world.specs.Decisions.{Decision, Detect, BeginMove, BeginJoin, BeginHandover, Advance, Reopen, Take}
use Rattle.masters_world.specs.Machine.{past}
use Rattle.partition_protocol.specs.Messages.{Message}

pub past_append : {X : Type 0} (xs ys : List X) → past xs (xs ++ ys) ≡ ys
past_append [] ys = refl
past_append (x ∷ xs) ys = past_append xs ys

pub append_same : {X : Type 0} (xs ys zs : List X) → xs ++ ys ≡ xs ++ zs → ys ≡ zs
append_same [] ys zs e = e
append_same (x ∷ xs) ys zs e = append_same xs ys zs cc

-- how many take a message

abbrev pub is_take : Decision → Bool
is_take (Take f i x) = true
is_take _ = false

abbrev pub one_more : Bool → ℕ → ℕ
one_more b n = if b then suc n else n

abbrev pub takes : List Decision → ℕ
takes [] = 0
takes (d ∷ ds) = one_more (is_take d) (takes ds)

pub more_append : (b : Bool) (n m k : ℕ) → n ≡ m + k → one_more b n ≡ one_more b m + k
more_append true n m k e = omega (arith, e)
more_append false n m k e = e

pub takes_append : (xs ys : List Decision) → takes (xs ++ ys) ≡ takes xs + takes ys
takes_append [] ys = omega arith
takes_append (x ∷ xs) ys = more_append (is_take x) (takes (xs ++ ys)) (takes xs) (takes ys) (takes_append xs ys)

pub more_both : (b : Bool) (n m : ℕ) → n ≤ m → one_more b n ≤ one_more b m
more_both true n m l = omega (arith, l)
more_both false n m l = l

pub more_right : (b : Bool) (n m : ℕ) → n ≤ m → n ≤ one_more b m
more_right true n m l = omega (arith, l)
more_right false n m l = l

pub takes_picked : (ms : List Bool) (ys : List Decision) → takes (picked ms ys) ≤ takes ys
takes_picked [] ys = omega arith
takes_picked (m ∷ ms) [] = omega arith
takes_picked (true ∷ ms) (y ∷ ys) = more_both (is_take y) (takes (picked ms ys)) (takes ys) (takes_picked ms ys)
takes_picked (false ∷ ms) (y ∷ ys) = more_right (is_take y) (takes (picked ms ys)) (takes ys) (takes_picked ms ys)

pub in_picked : {X : Type 0} (x : X) (ms : List Bool) (ys : List X) → In x (picked ms ys) → In x ys
in_picked x [] ys i = absurd i
in_picked x (m ∷ ms) [] i = absurd i
in_picked x (true ∷ ms) (y ∷ ys) (inl e) = inl e
in_picked x (true ∷ ms) (y ∷ ys) (inr i) = inr (in_picked x ms ys i)
in_picked x (false ∷ ms) (y ∷ ys) i = inr (in_picked x ms ys i)

pub in_part : {X : Type 0} (x : X) (xs ys : List X) → IsSubsequence xs ys → In x xs → In x ys
in_part x xs ys s i = in_picked x s.0 ys (subst (λ zs. In x zs) (sym s.1) i)

pub takes_part : (xs ys : List Decision) → IsSubsequence xs ys → takes xs ≤ takes ys
takes_part xs ys s = subst (λ zs. takes zs ≤ takes ys) s.1 (takes_picked s.0 ys)

-- without one to take a message there are none
pub none_takes : (ds : List Decision) → ((f i : ℕ) (x : Message) → In (Take f i x) ds → ⊥) → takes ds ≡ 0
none_takes [] h = refl
none_takes (Detect m ∷ ds) h = none_takes ds (λ f i x k. h f i x (inr k))
none_takes (BeginMove from to ∷ ds) h = none_takes ds (λ f i x k. h f i x (inr k))
none_takes (BeginJoin to ∷ ds) h = none_takes ds (λ f i x k. h f i x (inr k))
none_takes (BeginHandover from to ∷ ds) h = none_takes ds (λ f i x k. h f i x (inr k))
none_takes (Advance ∷ ds) h = none_takes ds (λ f i x k. h f i x (inr k))
none_takes (Reopen ∷ ds) h = none_takes ds (λ f i x k. h f i x (inr k))
none_takes (Take f i x ∷ ds) h = absurd (h f i x (inl refl))

-- tests of all elements

pub filter_append : {X : Type 0} (t : X → Bool) (xs ys : List X) → filter t (xs ++ ys) ≡ filter t xs ++ filter t ys
filter_append t [] ys = refl
filter_append t (x ∷ xs) ys = go (t x) (filter_append t xs ys)
  where
    go : (b : Bool) → filter t (xs ++ ys) ≡ filter t xs ++ filter t ys → cond b (x ∷ filter t (xs ++ ys)) (filter t (xs ++ ys)) ≡ cond b (x ∷ filter t xs) (filter t xs) ++ filter t ys
    go true e = ap (λ zs. x ∷ zs) e
    go false e = e
