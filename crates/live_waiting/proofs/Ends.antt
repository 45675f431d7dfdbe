-- Threads come to their own, and a cell comes to rest.
use Rattle.std.proofs.Common.{◌≡◌, ℕ, zero, suc, max, ◌+◌, ◌<◌, ◌≤◌, ◌==◌, true, false, List, [], ◌∷◌, ◌++◌, length, refl, ap, sym, ◌∙◌, subst, ◌⊎◌, ⊎_elim, inl, inr, arith, length-append}
use Rattle.std.proofs.Math.Nat.{le-max_right, max-eq_left}
use Rattle.grid_base.specs.Objects.{Object}
use Rattle.partition_protocol.proofs.Lists.{In, in_contains, cases}
use Rattle.waiting_protocol.specs.Machine.{Waiter, Waiting, Terms, is_over, fate_in, turn}
use Rattle.waiting_protocol.specs.Claims.{IsQuiet, IsItsTurn}
use Rattle.live_waiting.specs.Cell.{Looks, Visit, moment, timed, visited, cell_after}
use Rattle.live_waiting.specs.Claims.{Serves, DoesItsOwn, ComesToItsOwn, EveryThreadComesToItsOwn, looks, ComesToRest, EveryCellComesToRest}
use Rattle.live_waiting.proofs.Visits.{one_thing, not_busy, is_free}
use Rattle.live_waiting.proofs.Moments.{timed_at, set_at, kept_at}

pub max_again : (a b : ℕ) → max (max a b) b ≡ max a b
max_again a b = max-eq_left (le-max_right a b)

pub nobody : {X : Type 0} (xs : List X) → length xs ≤ 0 → (x : X) → In x xs → ⊥
nobody [] l x i = i
nobody (y ∷ ys) l x i = absurd (omega (arith, l))

module _ {C State : Type 0} (o : Object C State) (t : Terms C) where
  -- one who is let go makes the list shorter by one

  pub one_less : (j : Waiting C) (x : Waiter C) → IsItsTurn o t j x → length (turn o t j).waiters + 1 ≡ length j.waiters
  one_less j x i =
      let a : length (turn o t j).waiters ≡ length (i.front ++ i.back) = ap (λ (k : Waiting C). length k.waiters) i.left in
      let b : length j.waiters ≡ length (i.front ++ x ∷ i.back) = ap length i.place in
      let c = length-append i.front i.back in
      let d = length-append i.front (x ∷ i.back) in
      omega (arith, a, b, c, d)

  pub same_who : (j : Waiting C) (v : Visit C) (k : Waiting C) → (k ≡ j) ⊎ (IsQuiet o t j × (k ≡ timed o j v)) → k.waiters ≡ j.waiters
  same_who j v k (inl e) = ap (λ (i : Waiting C). i.waiters) e
  same_who j v k (inr e) = ap (λ (i : Waiting C). i.waiters) e.1

  pub serving_less : (j : Waiting C) (v : Visit C) (k : Waiting C) (x : Waiter C) → Serves o t j v k x → length (visited o t j v).waiters + 1 ≡ length j.waiters
  serving_less j v k x s =
      let a : length (visited o t j v).waiters ≡ length (turn o t k).waiters = ap (λ (i : Waiting C). length i.waiters) s.state in
      let b = one_less k x s.its in
      let c : length k.waiters ≡ length j.waiters = ap length (same_who j v k s.stands) in
      omega (arith, a, b, c)

  pub comes : (vs : List (Visit C)) (j : Waiting C) → length j.waiters < length vs → ComesToItsOwn o t j vs
  comes [] j l = absurd (omega (arith, l))
  comes (v ∷ vs) j l = ⊎_elim (λ s. serves (serving_less j v s.0 s.1 s.2) (comes vs (visited o t j v))) own_now (one_thing o t j v)
    where
      own_now : DoesItsOwn o t j v → ComesToItsOwn o t j (v ∷ vs)
      own_now d = record { before = []; visit = v; later = vs; whole = refl; does = d; shorter = omega arith }

      serves : length (visited o t j v).waiters + 1 ≡ length j.waiters → (length (visited o t j v).waiters < length vs → ComesToItsOwn o t (visited o t j v) vs) → ComesToItsOwn o t j (v ∷ vs)
      serves e more =
          let r = more (omega (arith, e, l)) in
          record { before = v ∷ r.before; visit = r.visit; later = r.later; whole = ap (λ ws. v ∷ ws) r.whole; does = r.does; shorter = let a = r.shorter in omega (arith, a, e) }

  -- at rest

  module _ (m now : ℕ) where
    abbrev pub look : Visit C
    look = record { member = m; read = now; purpose = Looks }

    -- to read the same moment again changes nobody's
    pub same_moment : (j : Waiting C) (n : ℕ) → (timed o (timed o j look) look).clock n ≡ (timed o j look).clock n
    same_moment j n = ⊎_elim here elsewhere (cases (n == m))
      where
        here : (n == m) ≡ true → (timed o (timed o j look) look).clock n ≡ (timed o j look).clock n
        here e =
            set_at o t (n == m) (moment (timed o j look) look) ((timed o j look).clock n) e
            ∙ ap (λ z. max z now) (timed_at o t j look)
            ∙ max_again (j.clock m) now
            ∙ sym (set_at o t (n == m) (moment j look) (j.clock n) e)

        elsewhere : (n == m) ≡ false → (timed o (timed o j look) look).clock n ≡ (timed o j look).clock n
        elsewhere e = kept_at o t (n == m) (moment (timed o j look) look) ((timed o j look).clock n) e

    pub quiet_again : (j : Waiting C) → IsQuiet o t (timed o j look) → IsQuiet o t (timed o (timed o j look) look)
    quiet_again j q x c = ap (λ z. is_over (fate_in o t j.world z x)) (same_moment j x.member) ∙ q x c

    pub rests_timed : (j : Waiting C) → IsQuiet o t (timed o j look) → ComesToRest o t m now (timed o j look)
    rests_timed j q = record { served = q; quiet = quiet_again j q }

    pub rests_on : (j : Waiting C) → ComesToRest o t m now j → ComesToRest o t m now (visited o t j look)
    rests_on j r = subst (λ k. ComesToRest o t m now k) (sym (is_free o t j look (not_busy o t j r.served) (not_busy o t (timed o j look) r.quiet)).0.state) (rests_timed j r.quiet)

    pub at_rest : (n : ℕ) (j : Waiting C) → ComesToRest o t m now j → ComesToRest o t m now (cell_after o t j (looks m now n))
    at_rest zero j r = r
    at_rest (suc n) j r = at_rest n (visited o t j look) (rests_on j r)

    pub comes_to_rest : (n : ℕ) (j : Waiting C) → length j.waiters ≤ n → ComesToRest o t m now (cell_after o t j (looks m now n))
    comes_to_rest zero j l = record { served = λ x c. absurd (nobody j.waiters l x (in_contains x j.waiters c)); quiet = λ x c. absurd (nobody j.waiters l x (in_contains x j.waiters c)) }
    comes_to_rest (suc n) j l = ⊎_elim
        (λ s. comes_to_rest n (visited o t j look) (let a = serving_less j look s.0 s.1 s.2 in omega (arith, a, l)))
        (λ d. at_rest n (visited o t j look) (rests_on j (record { served = d.served; quiet = d.quiet }))) (one_thing o t j look)

pub every_thread_comes_to_its_own : {C State : Type 0} (o : Object C State) → EveryThreadComesToItsOwn o
every_thread_comes_to_its_own o t j visits l = comes o t visits j l

pub every_cell_comes_to_rest : {C State : Type 0} (o : Object C State) → EveryCellComesToRest o
every_cell_comes_to_rest o t j m now n l = comes_to_rest o t m now n j l
