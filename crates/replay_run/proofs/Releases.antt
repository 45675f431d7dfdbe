-- Each answer is released once: how often calls of one name stand among those released.
use Rattle.std.proofs.Common.{◌≡◌, ◌≢◌, ℕ, ◌+◌, ◌≤◌, Bool, true, false, cond, ◌&&◌, ◌==◌, List, [], ◌∷◌, ◌++◌, map, refl, ap, sym, ◌∙◌, subst, ⊎_elim, inl, inr, arith}
use Rattle.std.proofs.lemmas.List.{map-append}
use Rattle.std.proofs.lemmas.Bool.Decides.{nat_tests}
use Rattle.grid_base.specs.Objects.{Object}
use Rattle.partition_protocol.specs.Node.{Held}
use Rattle.partition_protocol.specs.World.{start}
use Rattle.partition_protocol.specs.Events.{Event, run}
use Rattle.partition_protocol.specs.Arrivals.{CallName, NamedOnce, name, arrivals}
use Rattle.partition_protocol.specs.Answers.{answered_call}
use Rattle.partition_protocol.proofs.Answers.{every_answer_is_single}
use Rattle.partition_protocol.proofs.Lists.{In, contains_in, cases}
use Rattle.partition_protocol.proofs.RowFacts.{both, both_left, both_right, false_or_not}

abbrev pub is_named_so : CallName → CallName → Bool
is_named_so n m = (m.conn == n.conn) && (m.number == n.number)

-- how often a name stands in a list
abbrev pub one : CallName → CallName → ℕ
one n m = cond (is_named_so n m) 1 0

abbrev pub times : CallName → List CallName → ℕ
times n [] = 0
times n (m ∷ ms) = one n m + times n ms

-- how often an answer to a call stands in a list
abbrev pub answers : CallName → List Held → ℕ
answers n hs = times n (map answered_call hs)

pub named_so : (n m : CallName) → is_named_so n m ≡ true → m ≡ n
named_so n m e =
    let c : m.conn ≡ n.conn = grind (arith, nat_tests, both_left (m.conn == n.conn) (m.number == n.number) e) in
    let k : m.number ≡ n.number = grind (arith, nat_tests, both_right (m.conn == n.conn) (m.number == n.number) e) in
    ap (λ v. record { conn = v; number = m.number }) c ∙ ap (λ v. record { conn = n.conn; number = v }) k

pub times-append : (n : CallName) (xs ys : List CallName) → times n (xs ++ ys) ≡ times n xs + times n ys
times-append n [] ys = omega arith
times-append n (x ∷ xs) ys = let r = times-append n xs ys in omega (arith, r)

pub answers-append : (n : CallName) (hs ks : List Held) → answers n (hs ++ ks) ≡ answers n hs + answers n ks
answers-append n hs ks = ap (times n) (map-append answered_call hs ks) ∙ times-append n (map answered_call hs) (map answered_call ks)

pub times_none : (n : CallName) (ms : List CallName) → ((m : CallName) → In m ms → m ≢ n) → times n ms ≡ 0
times_none n [] f = refl
times_none n (m ∷ ms) f =
    let r = times_none n ms (λ k i. f k (inr i)) in
    let other : is_named_so n m ≡ false = false_or_not (is_named_so n m) (λ e. f m (inl refl) (named_so n m e)) in
    rw other (omega (arith, r))

pub named_itself : (n : CallName) → is_named_so n n ≡ true
named_itself n = both (n.conn == n.conn) (n.number == n.number) (grind (arith, nat_tests)) (grind (arith, nat_tests))

pub times_in : (n : CallName) (ms : List CallName) → In n ms → 1 ≤ times n ms
times_in n [] i = absurd i
times_in n (m ∷ ms) (inl e) = let same : is_named_so n m ≡ true = subst (λ k. is_named_so n k ≡ true) (sym e) (named_itself n) in rw same (omega arith)
times_in n (m ∷ ms) (inr i) = let r = times_in n ms i in omega (arith, r)

pub times_once : (n : CallName) (ms : List CallName) → NamedOnce ms → times n ms ≤ 1
times_once n [] h = omega arith
times_once n (m ∷ ms) h = ⊎_elim here (there (times_once n ms h.1)) (cases (is_named_so n m))
  where
    here : is_named_so n m ≡ true → one n m + times n ms ≤ 1
    here e =
        let none = times_none n ms (λ k i s. h.0 k (contains_in k ms i) (s ∙ sym (named_so n m e))) in
        rw e (omega (arith, none))

    there : times n ms ≤ 1 → is_named_so n m ≡ false → one n m + times n ms ≤ 1
    there r e = rw e (omega (arith, r))

-- where no two calls have one name, no answer is released twice
pub released_once : {C State : Type 0} (o : Object C State) (partition members backups : ℕ) (es : List (Event C)) (n : CallName)
    → NamedOnce (map name (arrivals es)) → answers n (run o (start partition members backups) es).released ≤ 1
released_once o partition members backups es n once =
    times_once n (map answered_call (run o (start partition members backups) es).released) (every_answer_is_single o partition members backups es once).released
