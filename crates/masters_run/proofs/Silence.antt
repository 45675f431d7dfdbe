-- Of the machine, where no two calls have one name: whoever waits after some lines came by one of them, and by the others all is the same but that it waits.
use Rattle.std.proofs.Common.{◌≡◌, ℕ, zero, suc, ◌+◌, ◌≤◌, List, [], ◌∷◌, ◌++◌, map, length, refl, ap, sym, ◌∙◌, subst, ◌⊎◌, ⊎_elim, inl, inr, arith, append_assoc}
use Rattle.grid_base.specs.Objects.{Object}
use Rattle.partition_protocol.specs.Arrivals.{CallName, NamedOnce}
use Rattle.partition_protocol.proofs.Lists.{In, in_contains}
use Rattle.waiting_protocol.specs.Machine.{Waiter, Waiting, Line, Asks, Waits, Clock, Closes, Terms, start, turn, turned, opened, goes, gone_by, events_by, after, events, all_gone}
use Rattle.waiting_protocol.specs.Claims.{IsItsTurn, IsWithout, IsStillWaiting, ComesToItsTurn, HasLeft, names_in, name_of, waits_by, waits_in}
use Rattle.waiting_protocol.proofs.Names.{count, count_append, count_in, once_count, wait, wait_append, turn_counts, turned_counts, opened_counts, all_counts}
use Rattle.waiting_protocol.proofs.Orders.{names_append, lines_append}
use Rattle.waiting_protocol.proofs.Theorem.{every_waiter_is_silent}
use Rattle.waiting_protocol.proofs.Turns.{turn_of, shorter}

-- its arrival

-- one of the lines is its arrival
pub record ComesAt {C : Type 0} (x : Waiter C) (lines : List (Line C)) : Type 0 where
  pub before : List (Line C)
  pub more : List (Line C)
  pub whole : lines ≡ before ++ Waits x ∷ more

later : {C : Type 0} (x : Waiter C) (l : Line C) (ls : List (Line C)) → ComesAt x ls → ComesAt x (l ∷ ls)
later x l ls c = record { before = l ∷ c.before; more = c.more; whole = ap (λ ms. l ∷ ms) c.whole }

pub comes_at : {C : Type 0} (x : Waiter C) (lines : List (Line C)) → In x (waits_in lines) → ComesAt x lines
comes_at x [] i = absurd i
comes_at x (Asks e ∷ ls) i = later x (Asks e) ls (comes_at x ls i)
comes_at x (Waits y ∷ ls) (inl e) = record { before = []; more = ls; whole = ap (λ z. Waits z ∷ ls) e }
comes_at x (Waits y ∷ ls) (inr i) = later x (Waits y) ls (comes_at x ls i)
comes_at x (Clock m now ∷ ls) i = later x (Clock m now) ls (comes_at x ls i)
comes_at x (Closes c ∷ ls) i = later x (Closes c) ls (comes_at x ls i)

pub waits_append : {C : Type 0} (ls ms : List (Line C)) → waits_in (ls ++ ms) ≡ waits_in ls ++ waits_in ms
waits_append [] ms = refl
waits_append (l ∷ ls) ms = ap (λ xs. waits_by l ++ xs) (waits_append ls ms) ∙ sym (append_assoc (waits_by l) (waits_in ls) (waits_in ms))

in_names : {C : Type 0} (x : Waiter C) (xs : List (Waiter C)) → In x xs → In (name_of x) (map name_of xs)
in_names x [] i = i
in_names x (y ∷ ys) (inl e) = inl (ap name_of e)
in_names x (y ∷ ys) (inr i) = inr (in_names x ys i)

-- lines, and more of them

module _ {C State : Type 0} (o : Object C State) (t : Terms C) where
  pub after_append : (j : Waiting C) (ls ms : List (Line C)) → after o t j (ls ++ ms) ≡ after o t (after o t j ls) ms
  after_append j [] ms = refl
  after_append j (l ∷ ls) ms = after_append (goes o t j l) ls ms

  pub gone_append : (j : Waiting C) (ls ms : List (Line C)) → all_gone o t j (ls ++ ms) ≡ all_gone o t j ls ++ all_gone o t (after o t j ls) ms
  gone_append j [] ms = refl
  gone_append j (l ∷ ls) ms =
      ap (λ gs. gone_by o t j l ++ gs) (gone_append (goes o t j l) ls ms)
      ∙ sym (append_assoc (gone_by o t j l) (all_gone o t (goes o t j l) ls) (all_gone o t (after o t (goes o t j l) ls) ms))

  -- of this waiter
  module _ (x : Waiter C) where
    abbrev k : CallName
    k = name_of x

    -- how many of its name wait
    abbrev of_it : Waiting C → ℕ
    of_it j = wait k j.waiters

    its_weight : (xs ys : List (Waiter C)) → wait k (xs ++ x ∷ ys) ≡ suc (wait k (xs ++ ys))
    its_weight xs ys =
        let a = wait_append k xs (x ∷ ys) in
        let b = wait_append k xs ys in
        let c = count_append k (k ∷ []) (map name_of ys) in
        let d = count_in k (k ∷ []) (inl refl) in
        let e = once_count k (k ∷ []) ((λ m i. absurd (in_contains m [] i)), tt) in
        omega (arith, a, b, c, d, e)

    -- After its turn it waits no more.
    turn_takes : (u : Waiting C) → IsItsTurn o t u x → suc (of_it (turn o t u)) ≡ of_it u
    turn_takes u its =
        let a : of_it (turn o t u) ≡ wait k (its.front ++ its.back) = ap of_it its.left in
        let b : of_it u ≡ wait k (its.front ++ x ∷ its.back) = ap (wait k) its.place in
        let c = its_weight its.front its.back in
        omega (arith, a, b, c)

    turned_takes : (i n : ℕ) (u : Waiting C) → length u.waiters ≤ n → IsItsTurn o t (turned o t i u) x → suc (of_it (turned o t n u)) ≤ of_it u
    turned_takes zero zero u low its = absurd (let s = shorter o t u x its in omega (arith, s, low))
    turned_takes zero (suc n) u low its =
        let a = turn_takes u its in
        let b = turned_counts o t k n (turn o t u) in
        omega (arith, a, b)
    turned_takes (suc i) n u low its = ⊎_elim
        (λ s. turned_takes i n u low (subst (λ v. IsItsTurn o t (turned o t i v) x) s.1 its))
        (λ s. busy s.0 n low s.1 (λ m less. turned_takes i m (turn o t u) less its))
        (turn_of o t u)
      where
        busy : (y : Waiter C) (n : ℕ) → length u.waiters ≤ n → IsItsTurn o t u y → ((m : ℕ) → length (turn o t u).waiters ≤ m → suc (of_it (turned o t m (turn o t u))) ≤ of_it (turn o t u)) → suc (of_it (turned o t n u)) ≤ of_it u
        busy y zero low one rest = absurd (let s = shorter o t u y one in omega (arith, s, low))
        busy y (suc n) low one rest =
            let s = shorter o t u y one in
            let a = rest n (omega (arith, s, low)) in
            let b = turn_counts o t k u in
            omega (arith, a, b)

    goes_counts : (j : Waiting C) (l : Line C) → of_it (goes o t j l) ≤ of_it j + count k (names_in (l ∷ []))
    goes_counts j l =
        let u = opened o j l in
        let a = turned_counts o t k (length u.waiters) u in
        let b = opened_counts o t k j l in
        omega (arith, a, b)

    goes_takes : (j : Waiting C) (l : Line C) (i : ℕ) → IsItsTurn o t (turned o t i (opened o j l)) x → suc (of_it (goes o t j l)) ≤ of_it j + count k (names_in (l ∷ []))
    goes_takes j l i its =
        let u = opened o j l in
        let a = turned_takes i (length u.waiters) u (omega arith) its in
        let b = opened_counts o t k j l in
        omega (arith, a, b)

    after_counts : (j : Waiting C) (ls : List (Line C)) → of_it (after o t j ls) ≤ of_it j + count k (names_in ls)
    after_counts j ls = let a = all_counts o t k j ls in omega (arith, a)

    without_counts : (j m : Waiting C) → IsWithout x j m → of_it j ≡ suc (of_it m)
    without_counts j m w =
        let a : of_it j ≡ wait k (w.front ++ x ∷ w.back) = ap (wait k) w.with_it in
        let b : of_it m ≡ wait k (w.front ++ w.back) = ap (wait k) w.without in
        let c = its_weight w.front w.back in
        omega (arith, a, b, c)

    -- Once it has left, nobody of its name waits.
    left_counts : (j m : Waiting C) (ls : List (Line C)) → of_it j ≤ 1 → count k (names_in ls) ≡ 0 → HasLeft o t x j m ls → of_it (after o t j ls) ≡ 0
    left_counts j m ls one none h =
        let names : count k (names_in ls) ≡ count k (names_in (h.before ++ h.line ∷ h.later)) = ap (λ ms. count k (names_in ms)) h.whole in
        let parts : count k (names_in (h.before ++ h.line ∷ h.later)) ≡ count k (names_in h.before) + count k (names_in (h.line ∷ h.later)) = ap (count k) (names_append h.before (h.line ∷ h.later)) ∙ count_append k (names_in h.before) (names_in (h.line ∷ h.later)) in
        let rest : count k (names_in (h.line ∷ h.later)) ≡ count k (names_in (h.line ∷ [])) + count k (names_in h.later) = ap (count k) (names_append (h.line ∷ []) h.later) ∙ count_append k (names_in (h.line ∷ [])) (names_in h.later) in
        let there : of_it (after o t j ls) ≡ of_it (after o t (goes o t then h.line) h.later) = ap of_it (ap (after o t j) h.whole ∙ after_append j h.before (h.line ∷ h.later)) in
        let last = after_counts (goes o t then h.line) h.later in
        let came = after_counts j h.before in
        let gone : of_it (goes o t then h.line) ≡ 0 = by_how (omega (arith, one, came, none, names, parts)) (omega (arith, none, names, parts, rest)) h.how in
        omega (arith, there, last, gone, none, names, parts, rest)
      where
        then : Waiting C
        then = after o t j h.before

        then_without : Waiting C
        then_without = after o t m h.before

        by_how : of_it then ≤ 1 → count k (names_in (h.line ∷ [])) ≡ 0
            → ComesToItsTurn o t x then then_without h.line ⊎ ((h.line ≡ Closes x.conn) × (goes o t then h.line ≡ goes o t then_without h.line) × (events_by o t then h.line ≡ events_by o t then_without h.line)) → of_it (goes o t then h.line) ≡ 0
        by_how few none (inl its) = let a = goes_takes then h.line its.turn its.its in omega (arith, a, few, none)
        by_how few none (inr closes) =
            let a = without_counts then then_without h.until.states in
            let b : of_it (goes o t then h.line) ≡ of_it (goes o t then_without h.line) = ap of_it closes.1 in
            let c = goes_counts then_without h.line in
            omega (arith, a, b, c, few, none)

  -- Whoever waits changed nothing.
  pub record IsSilent (x : Waiter C) (first : Waiting C) (lines : List (Line C)) : Type 0 where
    pub before : List (Line C)
    pub more : List (Line C)
    pub arrives : lines ≡ before ++ Waits x ∷ more
    pub states : IsWithout x (after o t first lines) (after o t first (before ++ more))
    pub happened : events o t first lines ≡ events o t first (before ++ more)
    pub left : all_gone o t first lines ≡ all_gone o t first (before ++ more)

  module _ (p n b : ℕ) (x : Waiter C) (before more : List (Line C)) where
    abbrev first : Waiting C
    first = start p n b

    -- as it arrives
    abbrev j : Waiting C
    j = after o t first before

    abbrev with_it : Waiting C
    with_it = goes o t j (Waits x)

    abbrev Stays : Type 0
    Stays = IsWithout x with_it j × (events_by o t j (Waits x) ≡ []) × (gone_by o t j (Waits x) ≡ [])

    silent_so : Stays → IsStillWaiting o t x with_it j more → IsSilent x first (before ++ Waits x ∷ more)
    silent_so s h = record {
      before = before;
      more = more;
      arrives = refl;
      states = subst (λ (a : Waiting C). IsWithout x (after o t first (before ++ Waits x ∷ more)) a) (sym (after_append first before more))
          (subst (λ (a : Waiting C). IsWithout x a (after o t j more)) (sym (after_append first before (Waits x ∷ more))) h.states);
      happened =
          lines_append o t first before (Waits x ∷ more)
          ∙ ap (λ es. events o t first before ++ (es ++ events o t with_it more)) s.1
          ∙ ap (λ es. events o t first before ++ es) h.events_same
          ∙ sym (lines_append o t first before more);
      left =
          gone_append first before (Waits x ∷ more)
          ∙ ap (λ gs. all_gone o t first before ++ (gs ++ all_gone o t with_it more)) s.2
          ∙ ap (λ gs. all_gone o t first before ++ gs) h.gone_same
          ∙ sym (gone_append first before more);
    }

    module _ (once : count (name_of x) (names_in (before ++ Waits x ∷ more)) ≤ 1) (waits : 1 ≤ wait (name_of x) (after o t first (before ++ Waits x ∷ more)).waiters) where
      abbrev its : CallName
      its = name_of x

      names : (count its (names_in before) ≡ 0) × (count its (names_in more) ≡ 0) × (count its (names_in (Waits x ∷ [])) ≡ 1)
      names =
          let all : count its (names_in (before ++ Waits x ∷ more)) ≡ count its (names_in before) + count its (its ∷ names_in more) = ap (count its) (names_append before (Waits x ∷ more)) ∙ count_append its (names_in before) (its ∷ names_in more) in
          let rest = count_append its (its ∷ []) (names_in more) in
          let one = count_in its (its ∷ []) (inl refl) in
          (omega (arith, once, all, rest, one), omega (arith, once, all, rest, one), omega (arith, once, all, rest, one))

      last : of_it x (after o t first (before ++ Waits x ∷ more)) ≡ of_it x (after o t with_it more)
      last = ap (of_it x) (after_append first before (Waits x ∷ more))

      none_before : of_it x j ≡ 0
      none_before = let a = after_counts x first before in let b = names.0 in omega (arith, a, b)

      -- It has had no turn yet.
      not_now : IsItsTurn o t (opened o j (Waits x)) x → ⊥
      not_now turn =
          let a = goes_takes x j (Waits x) 0 turn in
          let b = after_counts x with_it more in
          let c = names in
          omega (arith, a, b, c.1, c.2, none_before, last, waits)

      not_left : HasLeft o t x with_it j more → ⊥
      not_left h =
          let a = goes_counts x j (Waits x) in
          let c = names in
          let gone = left_counts x with_it j more (omega (arith, a, c.2, none_before)) c.1 h in
          omega (arith, gone, last, waits)

      is_silent : IsSilent x first (before ++ Waits x ∷ more)
      is_silent = ⊎_elim (λ turn. absurd (not_now turn)) (λ s. ⊎_elim (silent_so (s.0, s.1, s.2)) (λ h. absurd (not_left h)) s.3) (every_waiter_is_silent o t p n b before more x)

  pub silent : (p n b : ℕ) (x : Waiter C) (lines : List (Line C)) → NamedOnce (names_in lines) → In x (waits_in lines) → In x (after o t (start p n b) lines).waiters → IsSilent x (start p n b) lines
  silent p n b x lines once came waits = go (comes_at x lines came)
    where
      go : ComesAt x lines → IsSilent x (start p n b) lines
      go c =
          let few : 1 ≤ wait (name_of x) (after o t (start p n b) lines).waiters = count_in (name_of x) (map name_of (after o t (start p n b) lines).waiters) (in_names x (after o t (start p n b) lines).waiters waits) in
          subst (IsSilent x (start p n b)) (sym c.whole)
          (is_silent p n b x c.before c.more (subst (λ ls. count (name_of x) (names_in ls) ≤ 1) c.whole (once_count (name_of x) (names_in lines) once))
          (subst (λ ls. 1 ≤ wait (name_of x) (after o t (start p n b) ls).waiters) c.whole few))
