-- Rows and their members.
use Rattle.std.proofs.Common.{◌≡◌, ◌≢◌, ℕ, ◌<◌, ◌≤◌, Bool, true, false, not, ◌&&◌, ◌||◌, ◌==◌, nat_eq, nat_lt, List, [], ◌∷◌, map, refl, ap, sym, ◌∙◌, subst, ◌⊎◌, ⊎_elim, inl, inr, arith, true≢false}
use Rattle.std.specs.List.{list_any}
use Rattle.std.proofs.lemmas.Bool.Decides.{nat_tests}
use Rattle.partition_table.specs.Rows.{number_of, is_among, is_first, is_primary, is_in, is_eligible, numbers_of}
use Rattle.partition_table.specs.declared.Row.{Row}
use Rattle.partition_table.specs.declared.RowMember.{RowMember}
use Rattle.partition_protocol.proofs.Lists.{In, cases}
use Rattle.partition_protocol.proofs.Invariant.{Shape, shape, RowsOk}

-- tests

pub both_left : (a b : Bool) → (a && b) ≡ true → a ≡ true
both_left true b e = refl
both_left false b e = e

pub both_right : (a b : Bool) → (a && b) ≡ true → b ≡ true
both_right true b e = e
both_right false b e = absurd (true≢false (sym e))

pub both : (a b : Bool) → a ≡ true → b ≡ true → (a && b) ≡ true
both a b e f = rw (e, f) refl

pub either : (a b : Bool) → (a || b) ≡ true → (a ≡ true) ⊎ (b ≡ true)
either true b e = inl refl
either false b e = inr e

pub either_left : (a b : Bool) → a ≡ true → (a || b) ≡ true
either_left a b e = rw e refl

pub either_right : (a b : Bool) → b ≡ true → (a || b) ≡ true
either_right true b e = refl
either_right false b e = e

pub or_true : (a : Bool) → (a || true) ≡ true
or_true true = refl
or_true false = refl

pub or_false_right : (a b : Bool) → (a || b) ≡ false → b ≡ false
or_false_right true b e = absurd (true≢false e)
or_false_right false b e = e

pub or_false_left : (a b : Bool) → (a || b) ≡ false → a ≡ false
or_false_left true b e = e
or_false_left false b e = refl

pub not_false : (a : Bool) → not a ≡ false → a ≡ true
not_false true e = refl
not_false false e = sym e

pub not_true : (a : Bool) → not a ≡ true → a ≡ false
not_true true e = sym e
not_true false e = refl

pub not_both : (b : Bool) → b ≡ true → b ≡ false → ⊥
not_both b e f = true≢false (sym e ∙ f)

pub true_or_not : (b : Bool) → (b ≡ false → ⊥) → b ≡ true
true_or_not true f = refl
true_or_not false f = absurd (f refl)

pub false_or_not : (b : Bool) → (b ≡ true → ⊥) → b ≡ false
false_or_not true f = absurd (f refl)
false_or_not false f = refl

-- an element that passes a test

pub any_in : {X : Type 0} (t : X → Bool) (xs : List X) (x : X) → In x xs → t x ≡ true → list_any t xs ≡ true
any_in t [] x i e = absurd i
any_in t (y ∷ ys) x (inl s) e = either_left (t y) (list_any t ys) (ap t s ∙ e)
any_in t (y ∷ ys) x (inr i) e = either_right (t y) (list_any t ys) (any_in t ys x i e)

pub in_any_at : {X : Type 0} (t : X → Bool) (y : X) (ys : List X) → (list_any t ys ≡ true → (x : X) × In x ys × (t x ≡ true)) → (t y ≡ true) ⊎ (list_any t ys ≡ true) → (x : X) × In x (y ∷ ys) × (t x ≡ true)
in_any_at t y ys f (inl e) = (y, inl refl, e)
in_any_at t y ys f (inr e) = let r = f e in (r.0, inr r.1, r.2)

pub in_any : {X : Type 0} (t : X → Bool) (xs : List X) → list_any t xs ≡ true → (x : X) × In x xs × (t x ≡ true)
in_any t [] e = absurd (true≢false (sym e))
in_any t (y ∷ ys) e = in_any_at t y ys (in_any t ys) (either (t y) (list_any t ys) e)

pub same_number : (a b : ℕ) → (a == b) ≡ true → a ≡ b
same_number a b e = grind (arith, nat_tests)

pub number_same : (a b : ℕ) → a ≡ b → (a == b) ≡ true
number_same a b e = grind (arith, nat_tests)

pub other_number : (a b : ℕ) → (a == b) ≡ false → a ≢ b
other_number a b e = grind (arith, nat_tests)

pub number_other : (a b : ℕ) → a ≢ b → (a == b) ≡ false
number_other a b e = grind (arith, nat_tests)

pub number_cases : (a b : ℕ) → (a ≡ b) ⊎ (a ≢ b)
number_cases a b = ⊎_elim (λ e. inl (same_number a b e)) (λ e. inr (other_number a b e)) (cases (a == b))

pub less : (a b : ℕ) → nat_lt a b ≡ true → a < b
less a b e = grind (arith, nat_tests)

pub not_less : (a b : ℕ) → nat_lt a b ≡ false → b ≤ a
not_less a b e = grind (arith, nat_tests)

pub is_less : (a b : ℕ) → a < b → nat_lt a b ≡ true
is_less a b l = grind (arith, nat_tests)

pub is_not_less : (a b : ℕ) → b ≤ a → nat_lt a b ≡ false
is_not_less a b l = grind (arith, nat_tests)

pub among_in : (ms : List ℕ) (m : ℕ) → In m ms → is_among ms m ≡ true
among_in ms m i = any_in (nat_eq m) ms m i (number_same m m refl)

pub in_among : (ms : List ℕ) (m : ℕ) → is_among ms m ≡ true → In m ms
in_among ms m e = let r = in_any (nat_eq m) ms e in subst (λ k. In k ms) (sym (same_number m r.0 r.2)) r.1

pub first_among : (ms : List ℕ) (m : ℕ) → is_first ms m ≡ true → is_among ms m ≡ true
first_among [] m e = absurd (true≢false (sym e))
first_among (k ∷ ks) m e = among_in (k ∷ ks) m (inl (same_number k m e))

pub one_first : (ms : List ℕ) (m k : ℕ) → is_first ms m ≡ true → is_first ms k ≡ true → m ≡ k
one_first [] m k e f = absurd (true≢false (sym e))
one_first (j ∷ js) m k e f = sym (same_number j m e) ∙ same_number j k f

pub no_first : (ms : List ℕ) (m : ℕ) → ms ≡ [] → is_first ms m ≡ false
no_first ms m e = rw e refl

pub none_among : (ms : List ℕ) (m : ℕ) → ms ≡ [] → is_among ms m ≡ false
none_among ms m e = rw e refl

-- an eligible member is a member

pub in_map : {X Y : Type 0} (f : X → Y) (xs : List X) (x : X) → In x xs → In (f x) (map f xs)
in_map f [] x i = absurd i
in_map f (y ∷ ys) x (inl s) = inl (ap f s)
in_map f (y ∷ ys) x (inr i) = inr (in_map f ys x i)

abbrev pub is_eligible_at : ℕ → RowMember → Bool
is_eligible_at m p = (p.member == m) && p.eligible

pub eligible_in : (row : Row) (m : ℕ) → is_eligible row m ≡ true → is_in row m ≡ true
eligible_in row m e =
    let r = in_any (is_eligible_at m) row.members e in
    among_in (numbers_of row) m (subst (λ k. In k (numbers_of row)) (same_number r.0.member m (both_left (r.0.member == m) r.0.eligible r.2)) (in_map number_of row.members r.0 r.1))

pub member_eligible : (row : Row) (p : RowMember) → In p row.members → p.eligible ≡ true → is_eligible row p.member ≡ true
member_eligible row p i e = any_in (is_eligible_at p.member) row.members p i (both (p.member == p.member) p.eligible (number_same p.member p.member refl) e)

pub first_eligible_in : (row : Row) (m : ℕ) (ps : List RowMember) → row.members ≡ record { member = m; eligible = true } ∷ ps → is_eligible row m ≡ true
first_eligible_in row m ps e = let p : RowMember = record { member = m; eligible = true } in member_eligible row p (rw e (inl refl)) refl

pub first_primary : (row : Row) (m : ℕ) (ps : List RowMember) → row.members ≡ record { member = m; eligible = true } ∷ ps → is_primary row m ≡ true
first_primary row m ps e = rw e (number_same m m refl)

-- rows of one shape

pub shape_primary : (r s : Row) (m : ℕ) → shape r ≡ shape s → is_primary r m ≡ is_primary s m
shape_primary r s m e = ap (λ (t : Shape). is_first t.members m) e

pub shape_in : (r s : Row) (m : ℕ) → shape r ≡ shape s → is_in r m ≡ is_in s m
shape_in r s m e = ap (λ (t : Shape). is_among t.members m) e

-- two rows of one version have the same primary
pub one_primary : {n : ℕ} {made : List Shape} {newest : Shape} (ok : RowsOk n made newest) (s t : Shape) (m k : ℕ) → In s made → In t made → s.version ≡ t.version → is_first s.members m ≡ true → is_first t.members k ≡ true → m ≡ k
one_primary ok s t m k i j e a b = one_first t.members m k (subst (λ (r : Shape). is_first r.members m ≡ true) (ok.one s t i j e) a) b
