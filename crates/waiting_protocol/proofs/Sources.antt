-- Where events come from, and how many there are.
use Rattle.std.proofs.Common.{◌≡◌, ℕ, zero, suc, ◌+◌, ◌≤◌, Bool, true, false, cond, not, ◌==◌, List, [], ◌∷◌, ◌++◌, filter, length, Contains, refl, ap, sym, ◌∙◌, subst, ◌⊎◌, ⊎_elim, inl, inr, arith, append-nil, length-append}
use Rattle.grid_base.specs.Objects.{Object}
use Rattle.partition_protocol.specs.Events.{Event}
use Rattle.partition_protocol.proofs.Lists.{In, in_left, in_right, in_cases, in_contains, contains_in}
use Rattle.partition_protocol.proofs.Histories.{filter_in}
use Rattle.waiting_protocol.specs.Machine.{Waiter, Waiting, Line, Asks, Waits, Clock, Closes, Terms, Fate, Stays, Runs, Starves, IsRefused, Leaves, plain, event_if, event_of, events_of, gone_as, turn, gone_in, turned, gone, opened, event_in, goes, gone_by, events_by, after, events, start}
use Rattle.waiting_protocol.specs.Claims.{IsQuiet, IsItsTurn, asked_in, waits_by, waits_in}
use Rattle.waiting_protocol.proofs.Fates.{as_plain}
use Rattle.waiting_protocol.proofs.Turns.{turn_of, events_append}

-- how many

pub event_few : {C : Type 0} (e : Event C) (f : Fate) → length (event_if e f) ≤ 1
event_few e Stays = omega arith
event_few e Runs = omega arith
event_few e Starves = omega arith
event_few e (IsRefused r) = omega arith
event_few e Leaves = omega arith

pub filter_few : {X : Type 0} (f : X → Bool) (xs : List X) → length (filter f xs) ≤ length xs
filter_few f [] = omega arith
filter_few {X} f (x ∷ xs) = go (f x) (filter_few f xs)
  where
    go : (b : Bool) → length (filter f xs) ≤ length xs → length (cond b (x ∷ filter f xs) (filter f xs)) ≤ suc (length xs)
    go true l = omega (arith, l)
    go false l = omega (arith, l)

module _ {C State : Type 0} (o : Object C State) (t : Terms C) where
  pub turn_few : (j : Waiting C) → length (events_of (gone_in o t j)) + length (turn o t j).waiters ≤ length j.waiters
  turn_few j = ⊎_elim quiet (λ s. busy s.0 s.1) (turn_of o t j)
    where
      quiet : IsQuiet o t j × (turn o t j ≡ j) × (gone_in o t j ≡ []) → length (events_of (gone_in o t j)) + length (turn o t j).waiters ≤ length j.waiters
      quiet s =
          let a : length (events_of (gone_in o t j)) ≡ 0 = ap (λ gs. length (events_of gs)) s.2 in
          let b : length (turn o t j).waiters ≡ length j.waiters = ap (λ (i : Waiting C). length i.waiters) s.1 in
          omega (arith, a, b)

      busy : (x : Waiter C) → IsItsTurn o t j x → length (events_of (gone_in o t j)) + length (turn o t j).waiters ≤ length j.waiters
      busy x i =
          let a : length (events_of (gone_in o t j)) ≡ length (event_of (gone_as o t j x)) = ap (λ gs. length (events_of gs)) i.gone ∙ ap length (append-nil (event_of (gone_as o t j x))) in
          let b : length (turn o t j).waiters ≡ length (i.front ++ i.back) = ap (λ (z : Waiting C). length z.waiters) i.left in
          let c : length j.waiters ≡ length (i.front ++ x ∷ i.back) = ap length i.place in
          let d = length-append i.front i.back in
          let e = length-append i.front (x ∷ i.back) in
          let f = event_few (plain x (gone_as o t j x).now) (gone_as o t j x).fate in
          omega (arith, a, b, c, d, e, f)

  pub turned_few : (n : ℕ) (j : Waiting C) → length (events_of (gone o t n j)) + length (turned o t n j).waiters ≤ length j.waiters
  turned_few zero j = omega arith
  turned_few (suc n) j =
      let a = turn_few j in
      let b = turned_few n (turn o t j) in
      let c : length (events_of (gone o t (suc n) j)) ≡ length (events_of (gone_in o t j)) + length (events_of (gone o t n (turn o t j))) = ap length (events_append o t (gone_in o t j) (gone o t n (turn o t j))) ∙ length-append (events_of (gone_in o t j)) (events_of (gone o t n (turn o t j))) in
      omega (arith, a, b, c)

  pub opened_few : (j : Waiting C) (l : Line C) → length (event_in l) + length (opened o j l).waiters ≤ length j.waiters + 1
  opened_few j (Asks e) = omega arith
  opened_few j (Waits x) = let a = length-append j.waiters (x ∷ []) in omega (arith, a)
  opened_few j (Clock m now) = omega arith
  opened_few j (Closes c) = let a = filter_few (λ (x : Waiter C). not (x.conn == c)) j.waiters in omega (arith, a)

  pub lines_few : (j : Waiting C) (ls : List (Line C)) → length (events o t j ls) + length (after o t j ls).waiters ≤ length j.waiters + length ls
  lines_few j [] = omega arith
  lines_few j (l ∷ ls) =
      let i = opened o j l in
      let a = opened_few j l in
      let b : length (events_of (gone_by o t j l)) + length (goes o t j l).waiters ≤ length (opened o j l).waiters = turned_few (length i.waiters) i in
      let c = lines_few (goes o t j l) ls in
      let d : length (events o t j (l ∷ ls)) ≡ length (events_by o t j l) + length (events o t (goes o t j l) ls) = length-append (events_by o t j l) (events o t (goes o t j l) ls) in
      let e : length (events_by o t j l) ≡ length (event_in l) + length (events_of (gone_by o t j l)) = length-append (event_in l) (events_of (gone_by o t j l)) in
      omega (arith, a, b, c, d, e)

  pub all_few : (j : Waiting C) (ls : List (Line C)) → length (events o t j ls) + length (after o t j ls).waiters ≤ length j.waiters + length ls
  all_few = lines_few

  -- where from

  module _ (P : Waiter C → Type 0) where
    abbrev pub AreP : List (Waiter C) → Type 0
    AreP xs = (x : Waiter C) → In x xs → P x

    abbrev pub IsOfP : Event C → Type 0
    IsOfP e = (x : Waiter C) × (now : ℕ) × P x × (t.starves x ≡ false) × (e ≡ plain x now)

    pub fated : (x : Waiter C) (now : ℕ) (f : Fate) → (f ≡ Runs → t.starves x ≡ false) → P x → (e : Event C) → In e (event_if (plain x now) f) → IsOfP e
    fated x now Stays d h e i = absurd i
    fated x now Runs d h e (inl s) = (x, now, h, d refl, sym s)
    fated x now Runs d h e (inr i) = absurd i
    fated x now Starves d h e i = absurd i
    fated x now (IsRefused r) d h e i = absurd i
    fated x now Leaves d h e i = absurd i

    abbrev pub TurnOf : Waiting C → Type 0
    TurnOf j = AreP (turn o t j).waiters × ((e : Event C) → In e (events_of (gone_in o t j)) → IsOfP e)

    pub turn_from : (j : Waiting C) → AreP j.waiters → TurnOf j
    turn_from j h = ⊎_elim quiet (λ s. busy s.0 s.1) (turn_of o t j)
      where
        quiet : IsQuiet o t j × (turn o t j ≡ j) × (gone_in o t j ≡ []) → TurnOf j
        quiet s = (subst (λ (k : Waiting C). AreP k.waiters) (sym s.1) h, λ e i. absurd (subst (λ gs. In e (events_of gs)) s.2 i))

        busy : (x : Waiter C) → IsItsTurn o t j x → TurnOf j
        busy x i =
            let all : AreP (i.front ++ x ∷ i.back) = subst AreP i.place h in (
              subst (λ (k : Waiting C). AreP k.waiters) (sym i.left) (λ y k. ⊎_elim (λ a. all y (in_left y i.front (x ∷ i.back) a)) (λ a. all y (in_right y i.front (x ∷ i.back) (inr a))) (in_cases y i.front i.back k)),
              λ e k. fated x (gone_as o t j x).now (gone_as o t j x).fate (as_plain o t j x).fed (all x (in_right x i.front (x ∷ i.back) (inl refl))) e
                  (subst (λ es. In e es) (append-nil (event_of (gone_as o t j x))) (subst (λ gs. In e (events_of gs)) i.gone k)),
            )

    pub turned_from : (n : ℕ) (j : Waiting C) → AreP j.waiters → AreP (turned o t n j).waiters × ((e : Event C) → In e (events_of (gone o t n j)) → IsOfP e)
    turned_from zero j h = (h, λ e i. absurd i)
    turned_from (suc n) j h =
        let a = turn_from j h in
        let b = turned_from n (turn o t j) a.0 in
        (b.0, λ e i. ⊎_elim (λ k. a.1 e k) (λ k. b.1 e k) (in_cases e (events_of (gone_in o t j)) (events_of (gone o t n (turn o t j))) (subst (In e) (events_append o t (gone_in o t j) (gone o t n (turn o t j))) i)))

    pub opened_from : (j : Waiting C) (l : Line C) → AreP j.waiters → AreP (waits_by l) → AreP (opened o j l).waiters
    opened_from j (Asks e) h k = h
    opened_from j (Waits x) h k = λ y i. ⊎_elim (λ a. h y a) (λ a. k y a) (in_cases y j.waiters (x ∷ []) i)
    opened_from j (Clock m now) h k = h
    opened_from j (Closes c) h k = λ y i. h y (filter_in (λ (x : Waiter C). not (x.conn == c)) j.waiters y i).0

    pub all_from : (j : Waiting C) (ls : List (Line C)) → AreP j.waiters → AreP (waits_in ls) → (e : Event C) → In e (events o t j ls) → In e (asked_in ls) ⊎ IsOfP e
    all_from j [] h k e i = absurd i
    all_from j (l ∷ ls) h k e i =
        let u = opened o j l in
        let a = turned_from (length u.waiters) u (opened_from j l h (λ y z. k y (in_left y (waits_by l) (waits_in ls) z))) in
        ⊎_elim (λ z. ⊎_elim (λ y. inl (in_left e (event_in l) (asked_in ls) y)) (λ y. inr (a.1 e y)) (in_cases e (event_in l) (events_of (gone_by o t j l)) z))
        (λ z. ⊎_elim (λ y. inl (in_right e (event_in l) (asked_in ls) y)) (λ y. inr y) (all_from (goes o t j l) ls a.0 (λ y q. k y (in_right y (waits_by l) (waits_in ls) q)) e z))
        (in_cases e (events_by o t j l) (events o t (goes o t j l) ls) i)

  pub sources : (p n b : ℕ) (lines : List (Line C)) (e : Event C) → Contains (events o t (start p n b) lines) e
      → Contains (asked_in lines) e ⊎ ((x : Waiter C) × (now : ℕ) × Contains (waits_in lines) x × (t.starves x ≡ false) × (e ≡ plain x now))
  sources p n b lines e c = ⊎_elim (λ i. inl (contains_in e (asked_in lines) i)) (λ r. inr (r.0, r.1, contains_in r.0 (waits_in lines) r.2, r.3, r.4))
      (all_from (λ x. In x (waits_in lines)) (start p n b) lines (λ x i. absurd i) (λ x i. i) e (in_contains e (events o t (start p n b) lines) c))
