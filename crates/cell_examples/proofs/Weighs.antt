-- Two calls, by two passes, are all that the history has.
use Rattle.std.proofs.Common.{◌≡◌, ◌≢◌, ⊎_elim, ℕ, ◌+◌, eqb, Bool, true, false, not, ◌||◌, ◌&&◌, if◌then◌else◌, List, [], ◌∷◌, ◌++◌, length, sym, refl, ap, ◌∙◌, subst, arith, ne_eqb, eq-eqb}
use mathlib.Core.Logic.{dite}
use native.Mathlib.Decide.{ℕ_discrete}
use Rattle.std.proofs.lemmas.Bool.Decides.{nat_tests}
use Rattle.hand_cell.specs.declared.names.NameSet.{NameSet}
use Rattle.hand_cell.specs.declared.names.Names.TheVariants.{One}
use Rattle.hand_cell.specs.Names.{has_number, NoneOf, every_name, left_names, given_names, both_names}
use Rattle.hand_cell.specs.Rule.{Extends, longer_of}
use Rattle.hand_cell.proofs.Prefixes.{longer_left, longer_right}
use Rattle.cell_examples.specs.declared.counter.Count.{Count}
use Rattle.hand_cell.specs.Told.{Told, having_seen, with_names}
use Rattle.cell_examples.specs.Counting.{key_of, count_of, ran_after, one_if, call_of, Counts}

-- how many events are of a connection, and of any but 1 and 2
abbrev of : ℕ → List Count → ℕ
of n [] = 0
of n (e ∷ es) = (if eqb e.call.conn n then 1 else 0) + of n es

abbrev other : List Count → ℕ
other [] = 0
other (e ∷ es) = (if eqb e.call.conn 1 then 0 else (if eqb e.call.conn 2 then 0 else 1)) + other es

of-append : (n : ℕ) (xs ys : List Count) → of n (xs ++ ys) ≡ of n xs + of n ys
of-append n [] ys = let t : ℕ = of n ys in omega arith
of-append n (x ∷ xs) ys = let h = of-append n xs ys in let t : ℕ = if eqb x.call.conn n then 1 else 0 in omega arith

other-append : (xs ys : List Count) → other (xs ++ ys) ≡ other xs + other ys
other-append [] ys = let t : ℕ = other ys in omega arith
other-append (x ∷ xs) ys = let h = other-append xs ys in let t : ℕ = if eqb x.call.conn 1 then 0 else (if eqb x.call.conn 2 then 0 else 1) in omega arith

one_of : (n : ℕ) → ((if eqb n 1 then 1 else 0) + (if eqb n 2 then 1 else 0)) + (if eqb n 1 then 0 else (if eqb n 2 then 0 else 1)) ≡ 1
one_of n = grind (arith, nat_tests)

all_of : (xs : List Count) → (of 1 xs + of 2 xs) + other xs ≡ length xs
all_of [] = refl
all_of (x ∷ xs) = let h = all_of xs in let o = one_of x.call.conn in
    let a : ℕ = if eqb x.call.conn 1 then 1 else 0 in let b : ℕ = if eqb x.call.conn 2 then 1 else 0 in let c : ℕ = if eqb x.call.conn 1 then 0 else (if eqb x.call.conn 2 then 0 else 1) in
    let o' : (a + b) + c ≡ 1 = o in omega arith

differ : ◌≡◌ {A = Bool} false true → ⊥
differ e = cc

none_of : (s : NameSet) (n : ℕ) (xs : List Count) → has_number s.numbers n ≡ true → NoneOf key_of s xs → of n xs ≡ 0
none_of s n [] h p = refl
none_of s n (x ∷ xs) h p = let i = none_of s n xs h p.1 in
    let no : eqb x.call.conn n ≡ false = ne_eqb x.call.conn n (λ e. differ (sym p.0 ∙ (ap (has_number s.numbers) e ∙ h))) in
    ap (λ (z : Bool). (if z then 1 else 0) + of n xs) no ∙ (omega arith)

none_other : (s : NameSet) (xs : List Count) → ((n : ℕ) → n ≢ 1 → n ≢ 2 → has_number s.numbers n ≡ true) → NoneOf key_of s xs → other xs ≡ 0
none_other s [] h p = refl
none_other s (x ∷ xs) h p = let i = none_other s xs h p.1 in let n : ℕ = x.call.conn in
    dite (ℕ_discrete n 1)
    (λ one. ap (λ (z : Bool). (if z then 0 else (if eqb n 2 then 0 else 1)) + other xs) (eq-eqb n 1 one) ∙ (omega arith))
    (λ not_one. dite (ℕ_discrete n 2)
    (λ two. ap (λ (z : Bool). (if z then 0 else (if eqb n 2 then 0 else 1)) + other xs) (ne_eqb n 1 not_one) ∙ (ap (λ (z : Bool). (if z then 0 else 1) + other xs) (eq-eqb n 2 two) ∙ (omega arith)))
    (λ not_two. absurd (differ (sym p.0 ∙ h n not_one not_two))))

abbrev rest : NameSet
rest = left_names (One 2) (left_names (One 1) every_name)

abbrev first : NameSet
first = given_names (One 1) every_name

abbrev second : NameSet
second = given_names (One 2) (left_names (One 1) every_name)

rest_has : (n : ℕ) → n ≢ 1 → n ≢ 2 → has_number rest.numbers n ≡ true
rest_has n a b = let p : eqb 2 n ≡ false = ne_eqb 2 n (λ e. b (sym e)) in let q : eqb 1 n ≡ false = ne_eqb 1 n (λ e. a (sym e)) in
    λ i. not (p i || (q i || false))

more_has : (n : ℕ) → n ≢ 2 → has_number (both_names rest first).numbers n ≡ true
more_has n b = let p : eqb 2 n ≡ false = ne_eqb 2 n (λ e. b (sym e)) in λ i. not (p i || false)

made_of : (n m : ℕ) (made : Bool) (later : List Count) → of n (if made then (later ++ count_of (call_of m) ∷ []) else later) ≡ of n later + one_if (made && eqb m n)
made_of n m true later = of-append n later (count_of (call_of m) ∷ []) ∙ (omega arith)
made_of n m false later = omega arith

nil_append : (xs ys : List Count) → [] ≡ xs ++ ys → other xs ≡ 0
nil_append [] ys e = refl
nil_append (x ∷ xs) ys e = absurd (cc)

-- what each class of events in a list comes to
record Weighs (xs : List Count) (a b : ℕ) : Type 0 where
  ones : of 1 xs ≡ a
  twos : of 2 xs ≡ b
  others : other xs ≡ 0

longest : (la lb : List Count) (a b : Bool) (q1 q2 : List Count)
    → q1 ≡ ran_after a la (call_of 1) → NoneOf key_of first la
    → q2 ≡ ran_after b lb (call_of 2) → NoneOf key_of second lb
    → Extends key_of [] rest q1 first → Extends key_of q1 (both_names rest first) q2 second
    → Weighs (longer_of q1 q2) (one_if a) (one_if b)
longest la lb a b q1 q2 e1 n1 e2 n2 x1 x2 =
    let ones_q1 : of 1 q1 ≡ one_if (a && true) = ap (of 1) e1 ∙ (made_of 1 1 a la ∙ (ap (λ (z : ℕ). z + one_if (a && true)) (none_of first 1 la refl n1) ∙ (omega arith))) in
    let twos_q2 : of 2 q2 ≡ one_if (b && true) = ap (of 2) e2 ∙ (made_of 2 2 b lb ∙ (ap (λ (z : ℕ). z + one_if (b && true)) (none_of second 2 lb refl n2) ∙ (omega arith))) in
    let others_q1 : other q1 ≡ 0 = ⊎_elim (λ (t : (later : List Count) × (q1 ≡ [] ++ later) × NoneOf key_of rest later). ap other t.1 ∙ none_other rest t.0 rest_has t.2)
    (λ (t : (later : List Count) × ([] ≡ q1 ++ later) × NoneOf key_of first later). nil_append q1 t.0 t.1) x1 in
    let and_a : one_if (a && true) ≡ one_if a = ap one_if (and_true a) in let and_b : one_if (b && true) ≡ one_if b = ap one_if (and_true b) in
    ⊎_elim
    (λ (t : (m : List Count) × (q2 ≡ q1 ++ m) × NoneOf key_of (both_names rest first) m).
    let m1 = none_of (both_names rest first) 1 t.0 refl t.2 in let m0 = none_other (both_names rest first) t.0 (λ n _ z. more_has n z) t.2 in
    let all : longer_of q1 q2 ≡ q2 = ap (longer_of q1) t.1 ∙ (longer_right q1 t.0 ∙ sym t.1) in
    subst (λ (z : List Count). Weighs z (one_if a) (one_if b)) (sym all) record {
      ones = ap (of 1) t.1 ∙ (of-append 1 q1 t.0 ∙ (omega arith));
      twos = twos_q2 ∙ and_b;
      others = ap other t.1 ∙ (other-append q1 t.0 ∙ (omega arith));
    })
    (λ (t : (m : List Count) × (q1 ≡ q2 ++ m) × NoneOf key_of second m).
    let m2 = none_of second 2 t.0 refl t.2 in
    let all : longer_of q1 q2 ≡ q1 = ap (λ (z : List Count). longer_of z q2) t.1 ∙ (longer_left q2 t.0 ∙ sym t.1) in
    subst (λ (z : List Count). Weighs z (one_if a) (one_if b)) (sym all) record {
      ones = ones_q1 ∙ and_a;
      twos = ap (of 2) t.1 ∙ (of-append 2 q2 t.0 ∙ (omega arith));
      others = others_q1;
    })
    x2
  where
    and_true : (c : Bool) → (c && true) ≡ c
    and_true true = refl
    and_true false = refl

-- the history has the two calls, as far as they were made, and nothing else
pub both_counted : (la lb : List Count) (a b : Bool) (q1 q2 end later : List Count)
    → q1 ≡ ran_after a la (call_of 1) → NoneOf key_of first la
    → q2 ≡ ran_after b lb (call_of 2) → NoneOf key_of second lb
    → Extends key_of [] rest q1 first → Extends key_of q1 (both_names rest first) q2 second
    → end ≡ longer_of q1 q2 ++ later → NoneOf key_of (both_names (both_names rest first) second) later
    → length end ≡ one_if a + one_if b
both_counted la lb a b q1 q2 end later e1 n1 e2 n2 x1 x2 e n =
    let s : NameSet = both_names (both_names rest first) second in
    let w = longest la lb a b q1 q2 e1 n1 e2 n2 x1 x2 in let l : List Count = longer_of q1 q2 in
    let h1 = none_of s 1 later refl n in let h2 = none_of s 2 later refl n in let h0 = none_other s later (λ m _ _. refl) n in
    let w1 = w.ones in let w2 = w.twos in let w0 = w.others in
    let c1 = of-append 1 l later in let c2 = of-append 2 l later in let c0 = other-append l later in
    let t = all_of (l ++ later) in
    ap length e ∙ (omega arith)

pub two_counted : (p0 p1 one p2 two q1 q2 p3 p4 p5 : Told Count) (a b : Bool) → (p0.seen ≡ []) × (p0.names ≡ every_name)
    → p1 ≡ with_names p0 (left_names (One 1) p0.names) → one ≡ with_names p0 (given_names (One 1) p0.names)
    → p2 ≡ with_names p1 (left_names (One 2) p1.names) → two ≡ with_names p1 (given_names (One 2) p1.names)
    → Counts one (call_of 1) a q1 → Counts two (call_of 2) b q2
    → Extends key_of p2.seen p2.names q1.seen q1.names → p3 ≡ with_names (having_seen p2 (longer_of p2.seen q1.seen)) (both_names p2.names q1.names)
    → Extends key_of p3.seen p3.names q2.seen q2.names → p4 ≡ with_names (having_seen p3 (longer_of p3.seen q2.seen)) (both_names p3.names q2.names)
    → (later : List Count) × (p5 ≡ having_seen p4 (p4.seen ++ later)) × NoneOf key_of p4.names later
    → length p5.seen ≡ one_if a + one_if b
two_counted p0 p1 one p2 two q1 q2 p3 p4 p5 a b h0 h1 ho h2 ht k1 k2 x1 h3 x2 h4 h5 =
    let S : Told Count → List Count = λ t. t.seen in let N : Told Count → NameSet = λ t. t.names in
    let n1 : p1.names ≡ left_names (One 1) every_name = ap N h1 ∙ ap (left_names (One 1)) h0.1 in
    let s1 : p1.seen ≡ [] = ap S h1 ∙ h0.0 in
    let no : one.names ≡ first = ap N ho in
    let so : one.seen ≡ [] = ap S ho ∙ h0.0 in
    let n2 : p2.names ≡ rest = ap N h2 ∙ ap (left_names (One 2)) n1 in
    let s2 : p2.seen ≡ [] = ap S h2 ∙ s1 in
    let nt : two.names ≡ second = ap N ht in
    let st : two.seen ≡ [] = ap S ht ∙ s1 in
    let q1s : q1.seen ≡ ran_after a k1.0 (call_of 1) = ap S k1.1 ∙ ap (λ (z : List Count). ran_after a (z ++ k1.0) (call_of 1)) so in
    let q2s : q2.seen ≡ ran_after b k2.0 (call_of 2) = ap S k2.1 ∙ ap (λ (z : List Count). ran_after b (z ++ k2.0) (call_of 2)) st in
    let q1n : q1.names ≡ first = ap N k1.1 ∙ no in
    let q2n : q2.names ≡ second = ap N k2.1 ∙ nt in
    let X : List Count × NameSet × NameSet → List Count → Type 0 = λ z q. Extends key_of z.0 z.1 q z.2 in
    let x1' : Extends key_of [] rest q1.seen first = subst (λ (z : List Count × NameSet × NameSet). X z q1.seen) (λ i. (s2 i, n2 i, q1n i)) x1 in
    let n3 : p3.names ≡ both_names rest first = ap N h3 ∙ (λ i. both_names (n2 i) (q1n i)) in
    let s3 : p3.seen ≡ q1.seen = ap S h3 ∙ ap (λ (z : List Count). longer_of z q1.seen) s2 in
    let x2' : Extends key_of q1.seen (both_names rest first) q2.seen second = subst (λ (z : List Count × NameSet × NameSet). X z q2.seen) (λ i. (s3 i, n3 i, q2n i)) x2 in
    let n4 : p4.names ≡ both_names (both_names rest first) second = ap N h4 ∙ (λ i. both_names (n3 i) (q2n i)) in
    let s4 : p4.seen ≡ longer_of q1.seen q2.seen = ap S h4 ∙ ap (λ (z : List Count). longer_of z q2.seen) s3 in
    both_counted k1.0 k2.0 a b q1.seen q2.seen p5.seen h5.0 q1s (subst (λ (z : NameSet). NoneOf key_of z k1.0) no k1.2) q2s (subst (λ (z : NameSet). NoneOf key_of z k2.0) nt k2.2)
    x1' x2' (ap S h5.1 ∙ ap (λ (z : List Count). z ++ h5.0) s4) (subst (λ (z : NameSet). NoneOf key_of z h5.0) n4 h5.2)
