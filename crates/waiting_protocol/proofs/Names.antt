-- Names once: each name of a call that arrives is that of an event that happened, of a waiter, or of neither.
use Rattle.std.proofs.Common.{◌≡◌, ℕ, zero, suc, ◌+◌, ◌≤◌, Bool, true, false, cond, not, ◌&&◌, ◌==◌, List, [], ◌∷◌, ◌++◌, map, filter, length, Contains, refl, ap, sym, ◌∙◌, subst, ⊎_elim, inl, inr, arith, append_assoc, append-nil}
use Rattle.grid_base.specs.Objects.{Object}
use Rattle.partition_protocol.specs.Events.{Event}
use Rattle.partition_protocol.specs.Arrivals.{CallName, asked_by, arrivals, name, NamedOnce}
use Rattle.partition_protocol.proofs.Lists.{In, in_contains, contains_in, cases}
use Rattle.partition_protocol.proofs.RowFacts.{number_same, same_number, both_right}
use Rattle.waiting_protocol.specs.Machine.{Waiter, Waiting, Line, Asks, Waits, Clock, Closes, Terms, Fate, Stays, Runs, Starves, IsRefused, Leaves, plain, event_if, event_of, events_of, gone_as, turn, gone_in, turned, gone, opened, event_in, goes, gone_by, events_by, after, events}
use Rattle.waiting_protocol.specs.Claims.{IsQuiet, IsItsTurn, names_in, name_of}
use Rattle.waiting_protocol.specs.LineClaims.{is_name}
use Rattle.waiting_protocol.proofs.Turns.{turn_of, events_append}

-- how often a name stands in a list

abbrev pub weight : Bool → ℕ
weight true = 1
weight false = 0

abbrev pub count : CallName → List CallName → ℕ
count k [] = 0
count k (a ∷ ks) = weight (is_name k a) + count k ks

pub count_append : (k : CallName) (ks bs : List CallName) → count k (ks ++ bs) ≡ count k ks + count k bs
count_append k [] bs = omega arith
count_append k (a ∷ ks) bs = let e = count_append k ks bs in omega (arith, e)

pub is_itself : (a : CallName) → is_name a a ≡ true
is_itself a = rw (number_same a.conn a.conn refl, number_same a.number a.number refl) refl

pub weight_of : (b : Bool) → b ≡ true → weight b ≡ 1
weight_of b e = rw e refl

pub count_in : (k : CallName) (ks : List CallName) → In k ks → 1 ≤ count k ks
count_in k [] i = absurd i
count_in k (a ∷ ks) (inl e) = let w : weight (is_name k a) ≡ 1 = weight_of (is_name k a) (subst (λ (z : CallName). is_name k z ≡ true) (sym e) (is_itself k)) in omega (arith, w)
count_in k (a ∷ ks) (inr i) = let h = count_in k ks i in omega (arith, h)

pub name_same : (k a : CallName) → is_name k a ≡ true → a ≡ k
name_same k a e =
    let c : a.conn ≡ k.conn = same_number a.conn k.conn (both_left (a.conn == k.conn) (a.number == k.number) e) in
    let n : a.number ≡ k.number = same_number a.number k.number (both_right (a.conn == k.conn) (a.number == k.number) e) in
    ap (λ x. let z : CallName = record { conn = x; number = a.number } in z) c ∙ ap (λ x. let z : CallName = record { conn = k.conn; number = x } in z) n
  where
    both_left : (a b : Bool) → (a && b) ≡ true → a ≡ true
    both_left true b e = refl
    both_left false b e = e

pub once_count : (k : CallName) (ks : List CallName) → NamedOnce ks → count k ks ≤ 1
once_count k [] h = omega arith
once_count k (a ∷ ks) h = ⊎_elim yes (other (once_count k ks h.1)) (cases (is_name k a))
  where
    no_more : (n : ℕ) → count k ks ≡ n → is_name k a ≡ true → n ≡ 0
    no_more zero e s = refl
    no_more (suc n) e s = absurd (h.0 k (contains_in k ks (in_count ks (omega (arith, e)))) (sym (name_same k a s)))
      where
        in_count : (bs : List CallName) → 1 ≤ count k bs → In k bs
        in_count [] l = absurd (omega (arith, l))
        in_count (b ∷ bs) l = ⊎_elim (λ s. inl (name_same k b s)) (λ s. inr (in_count bs (let w : weight (is_name k b) ≡ 0 = rw s refl in omega (arith, w, l)))) (cases (is_name k b))

    yes : is_name k a ≡ true → count k (a ∷ ks) ≤ 1
    yes s = let z = no_more (count k ks) refl s in let w : weight (is_name k a) ≡ 1 = rw s refl in omega (arith, z, w)

    other : count k ks ≤ 1 → is_name k a ≡ false → count k (a ∷ ks) ≤ 1
    other r s = let w : weight (is_name k a) ≡ 0 = rw s refl in omega (arith, r, w)

pub count_once : (ks : List CallName) → ((k : CallName) → count k ks ≤ 1) → NamedOnce ks
count_once [] h = tt
count_once (a ∷ ks) h = (λ m c e. clash m c e, count_once ks (λ k. let l = h k in omega (arith, l)))
  where
    clash : (m : CallName) → Contains ks m → m ≡ a → ⊥
    clash m c e = let l = h m in let i = count_in m ks (in_contains m ks c) in let w : weight (is_name m a) ≡ 1 = weight_of (is_name m a) (subst (λ (z : CallName). is_name m z ≡ true) e (is_itself m)) in absurd (omega (arith, l, i, w))

-- of events and of waiters

abbrev pub happen : {C : Type 0} → CallName → List (Event C) → ℕ
happen k es = count k (map name (arrivals es))

abbrev pub wait : {C : Type 0} → CallName → List (Waiter C) → ℕ
wait k xs = count k (map name_of xs)

pub map_append : {X Y : Type 0} (f : X → Y) (xs ys : List X) → map f (xs ++ ys) ≡ map f xs ++ map f ys
map_append f [] ys = refl
map_append f (x ∷ xs) ys = ap (λ zs. f x ∷ zs) (map_append f xs ys)

pub arrivals_append : {C : Type 0} (xs ys : List (Event C)) → arrivals (xs ++ ys) ≡ arrivals xs ++ arrivals ys
arrivals_append [] ys = refl
arrivals_append (x ∷ xs) ys = ap (λ zs. asked_by x ++ zs) (arrivals_append xs ys) ∙ sym (append_assoc (asked_by x) (arrivals xs) (arrivals ys))

pub happen_append : {C : Type 0} (k : CallName) (xs ys : List (Event C)) → happen k (xs ++ ys) ≡ happen k xs + happen k ys
happen_append k xs ys = ap (λ zs. count k (map name zs)) (arrivals_append xs ys) ∙ ap (count k) (map_append name (arrivals xs) (arrivals ys)) ∙ count_append k (map name (arrivals xs)) (map name (arrivals ys))

pub wait_append : {C : Type 0} (k : CallName) (xs ys : List (Waiter C)) → wait k (xs ++ ys) ≡ wait k xs + wait k ys
wait_append k xs ys = ap (count k) (map_append name_of xs ys) ∙ count_append k (map name_of xs) (map name_of ys)

pub wait_filter : {C : Type 0} (k : CallName) (f : Waiter C → Bool) (xs : List (Waiter C)) → wait k (filter f xs) ≤ wait k xs
wait_filter k f [] = omega arith
wait_filter {C} k f (x ∷ xs) = go (f x) (wait_filter k f xs)
  where
    go : (b : Bool) → wait k (filter f xs) ≤ wait k xs → wait k (cond b (x ∷ filter f xs) (filter f xs)) ≤ wait k (x ∷ xs)
    go true l = omega (arith, l)
    go false l = omega (arith, l)

pub event_happens : {C : Type 0} (k : CallName) (x : Waiter C) (now : ℕ) (f : Fate) → happen k (event_if (plain x now) f) ≤ weight (is_name k (name_of x))
event_happens k x now Stays = omega arith
event_happens k x now Runs = omega arith
event_happens k x now Starves = omega arith
event_happens k x now (IsRefused r) = omega arith
event_happens k x now Leaves = omega arith

module _ {C State : Type 0} (o : Object C State) (t : Terms C) (k : CallName) where
  pub turn_counts : (j : Waiting C) → happen k (events_of (gone_in o t j)) + wait k (turn o t j).waiters ≤ wait k j.waiters
  turn_counts j = ⊎_elim quiet (λ s. busy s.0 s.1) (turn_of o t j)
    where
      quiet : IsQuiet o t j × (turn o t j ≡ j) × (gone_in o t j ≡ []) → happen k (events_of (gone_in o t j)) + wait k (turn o t j).waiters ≤ wait k j.waiters
      quiet s =
          let a : happen k (events_of (gone_in o t j)) ≡ 0 = ap (λ gs. happen k (events_of gs)) s.2 in
          let b : wait k (turn o t j).waiters ≡ wait k j.waiters = ap (λ (i : Waiting C). wait k i.waiters) s.1 in
          omega (arith, a, b)

      busy : (x : Waiter C) → IsItsTurn o t j x → happen k (events_of (gone_in o t j)) + wait k (turn o t j).waiters ≤ wait k j.waiters
      busy x i =
          let a : happen k (events_of (gone_in o t j)) ≡ happen k (event_of (gone_as o t j x)) = ap (λ gs. happen k (events_of gs)) i.gone ∙ ap (happen k) (append-nil (event_of (gone_as o t j x))) in
          let b : wait k (turn o t j).waiters ≡ wait k (i.front ++ i.back) = ap (λ (z : Waiting C). wait k z.waiters) i.left in
          let c : wait k j.waiters ≡ wait k (i.front ++ x ∷ i.back) = ap (wait k) i.place in
          let d = wait_append k i.front i.back in
          let e = wait_append k i.front (x ∷ i.back) in
          let f = event_happens k x (gone_as o t j x).now (gone_as o t j x).fate in
          omega (arith, a, b, c, d, e, f)

  pub turned_counts : (n : ℕ) (j : Waiting C) → happen k (events_of (gone o t n j)) + wait k (turned o t n j).waiters ≤ wait k j.waiters
  turned_counts zero j = omega arith
  turned_counts (suc n) j =
      let a = turn_counts j in
      let b = turned_counts n (turn o t j) in
      let c : happen k (events_of (gone o t (suc n) j)) ≡ happen k (events_of (gone_in o t j)) + happen k (events_of (gone o t n (turn o t j))) = ap (happen k) (events_append o t (gone_in o t j) (gone o t n (turn o t j))) ∙ happen_append k (events_of (gone_in o t j)) (events_of (gone o t n (turn o t j))) in
      omega (arith, a, b, c)

  pub opened_counts : (j : Waiting C) (l : Line C) → happen k (event_in l) + wait k (opened o j l).waiters ≤ wait k j.waiters + count k (names_in (l ∷ []))
  opened_counts j (Asks e) = let a = count_append k (map name (arrivals (e ∷ []))) [] in omega (arith, a)
  opened_counts j (Waits x) = let a = wait_append k j.waiters (x ∷ []) in omega (arith, a)
  opened_counts j (Clock m now) = omega arith
  opened_counts j (Closes c) = let a = wait_filter k (λ (x : Waiter C). not (x.conn == c)) j.waiters in omega (arith, a)

  pub names_cons : (l : Line C) (ls : List (Line C)) → count k (names_in (l ∷ ls)) ≡ count k (names_in (l ∷ [])) + count k (names_in ls)
  names_cons (Asks e) ls = let a = count_append k (map name (arrivals (e ∷ []))) (names_in ls) in let b = count_append k (map name (arrivals (e ∷ []))) [] in omega (arith, a, b)
  names_cons (Waits x) ls = omega arith
  names_cons (Clock m now) ls = omega arith
  names_cons (Closes c) ls = omega arith

  pub all_counts : (j : Waiting C) (ls : List (Line C)) → happen k (events o t j ls) + wait k (after o t j ls).waiters ≤ wait k j.waiters + count k (names_in ls)
  all_counts j [] = omega arith
  all_counts j (l ∷ ls) =
      let i = opened o j l in
      let a = opened_counts j l in
      let b : happen k (events_of (gone_by o t j l)) + wait k (goes o t j l).waiters ≤ wait k (opened o j l).waiters = turned_counts (length i.waiters) i in
      let c = all_counts (goes o t j l) ls in
      let d : happen k (events o t j (l ∷ ls)) ≡ happen k (events_by o t j l) + happen k (events o t (goes o t j l) ls) = happen_append k (events_by o t j l) (events o t (goes o t j l) ls) in
      let e : happen k (events_by o t j l) ≡ happen k (event_in l) + happen k (events_of (gone_by o t j l)) = happen_append k (event_in l) (events_of (gone_by o t j l)) in
      let f = names_cons l ls in
      omega (arith, a, b, c, d, e, f)
