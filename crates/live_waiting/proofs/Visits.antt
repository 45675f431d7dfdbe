-- A visit: whether one who waits goes first, and what comes of it.
use Rattle.std.proofs.Common.{◌≡◌, Bool, true, false, cond, List, [], ◌∷◌, Some, None, refl, ap, sym, ◌∙◌, subst, ◌⊎◌, ⊎_elim, inl, inr}
use Rattle.std.specs.List.{list_any}
use Rattle.std.specs.Option.{option_to_list}
use Rattle.grid_base.specs.Objects.{Object}
use Rattle.partition_protocol.proofs.Lists.{In, in_right, in_contains, contains_in, cases}
use Rattle.partition_protocol.proofs.RowFacts.{any_in, in_any}
use Rattle.waiting_protocol.specs.Machine.{Waiter, Waiting, Terms, stirs, events_of, turn, gone_in}
use Rattle.waiting_protocol.specs.Claims.{IsQuiet, IsItsTurn}
use Rattle.waiting_protocol.proofs.Turns.{at_some, at_none, turn_of}
use Rattle.waiting_protocol.proofs.Fates.{as_plain}
use Rattle.live_waiting.specs.Cell.{Visit, timed, clock_line, own_line, own, own_events, is_busy, serving, visited, left_at, events_at, lines_at}
use Rattle.live_waiting.specs.Claims.{Serves, DoesItsOwn, EveryVisitDoesOneThing}

-- whether any passes

pub fails : {X : Type 0} (f : X → Bool) (xs : List X) → list_any f xs ≡ false → (x : X) → In x xs → f x ≡ false
fails f xs e x i = ⊎_elim (λ s. let a = any_in f xs x i s in let c : true ≡ false = sym a ∙ e in absurd cc) (λ s. s) (cases (f x))

-- three ways, over variables

module _ {W : Type 0} (j k : W) where
  pub first_way : (a b : Bool) → a ≡ true → cond a (Some j) (cond b (Some k) None) ≡ Some j
  first_way a b e = rw e refl

  pub second_way : (a b : Bool) → a ≡ false → b ≡ true → cond a (Some j) (cond b (Some k) None) ≡ Some k
  second_way a b e s = rw (e, s) refl

  pub third_way : (a b : Bool) → a ≡ false → b ≡ false → cond a (Some j) (cond b (Some k) None) ≡ None
  third_way a b e s = rw (e, s) refl

pub begins_none : {X : Type 0} (a b : Bool) (c : X) (l : List X) → a ≡ true → cond a [] (c ∷ cond b [] l) ≡ []
begins_none a b c l e = rw e refl

pub begins_one : {X : Type 0} (a b : Bool) (c : X) (l : List X) → a ≡ false → b ≡ true → cond a [] (c ∷ cond b [] l) ≡ c ∷ []
begins_one a b c l e s = rw (e, s) refl

pub begins_both : {X : Type 0} (a b : Bool) (c : X) (l : List X) → a ≡ false → b ≡ false → cond a [] (c ∷ cond b [] l) ≡ c ∷ l
begins_both a b c l e s = rw (e, s) refl

module _ {C State : Type 0} (o : Object C State) (t : Terms C) where
  pub quiet_of : (j : Waiting C) → is_busy o t j ≡ false → IsQuiet o t j
  quiet_of j e x c = fails (stirs o t j) j.waiters e x (in_contains x j.waiters c)

  pub not_busy : (j : Waiting C) → IsQuiet o t j → is_busy o t j ≡ false
  not_busy j q = ⊎_elim (λ e. absurd (let r = in_any (stirs o t j) j.waiters e in let h : true ≡ false = sym r.2 ∙ q r.0 (contains_in r.0 j.waiters r.1) in cc)) (λ e. e) (cases (is_busy o t j))

  -- with nothing to be done it is nobody's turn
  pub nobodys : (j : Waiting C) → IsQuiet o t j → (x : Waiter C) → IsItsTurn o t j x → ⊥
  nobodys j q x i = let e : true ≡ false = sym i.stirred ∙ q x (contains_in x j.waiters (subst (In x) (sym i.place) (in_right x i.front (x ∷ i.back) (inl refl)))) in absurd cc

  pub is_busy_with : (j : Waiting C) (x : Waiter C) → IsItsTurn o t j x → is_busy o t j ≡ true
  is_busy_with j x i = ⊎_elim (λ e. e) (λ e. absurd (nobodys j (quiet_of j e) x i)) (cases (is_busy o t j))

  pub one_of : (j : Waiting C) → is_busy o t j ≡ true → (x : Waiter C) × IsItsTurn o t j x
  one_of j e = ⊎_elim (λ s. absurd (let h : true ≡ false = sym e ∙ not_busy j s.0 in cc)) (λ s. s) (turn_of o t j)

  -- one who waits goes first, as things stand in k
  pub record GoesFirst (j : Waiting C) (v : Visit C) (k : Waiting C) : Type 0 where
    pub busy : is_busy o t k ≡ true
    pub is : serving o t j v ≡ Some k
    pub state : visited o t j v ≡ turn o t k
    pub leavers : left_at o t j v ≡ gone_in o t k
    pub making : events_at o t j v ≡ events_of (gone_in o t k)

  pub goes_first : (j : Waiting C) (v : Visit C) (k : Waiting C) → is_busy o t k ≡ true → serving o t j v ≡ Some k → GoesFirst j v k
  goes_first j v k b e = record {
    busy = b;
    is = e;
    state = at_some (serving o t j v) (own o j v) (turn o t) k e;
    leavers = at_some (serving o t j v) [] (gone_in o t) k e;
    making = at_some (serving o t j v) (own_events j v) (λ (i : Waiting C). events_of (gone_in o t i)) k e;
  }

  abbrev pub IsOwn : Waiting C → Visit C → Type 0
  IsOwn j v = DoesItsOwn o t j v × (lines_at o t j v ≡ clock_line j v ∷ option_to_list (own_line j v))

  abbrev pub Ways : Waiting C → Visit C → Type 0
  Ways j v = (GoesFirst j v j × (lines_at o t j v ≡ [])) ⊎ ((IsQuiet o t j × GoesFirst j v (timed o j v) × (lines_at o t j v ≡ clock_line j v ∷ [])) ⊎ IsOwn j v)

  -- the last line still lets somebody go
  pub still_lets : (j : Waiting C) (v : Visit C) → is_busy o t j ≡ true → GoesFirst j v j × (lines_at o t j v ≡ [])
  still_lets j v e =
      let k : Waiting C = timed o j v in
      (goes_first j v j e (first_way j k (is_busy o t j) (is_busy o t k) e), begins_none (is_busy o t j) (is_busy o t k) (clock_line j v) (option_to_list (own_line j v)) e)

  -- somebody's time has come
  pub time_comes : (j : Waiting C) (v : Visit C) → is_busy o t j ≡ false → is_busy o t (timed o j v) ≡ true → GoesFirst j v (timed o j v) × (lines_at o t j v ≡ clock_line j v ∷ [])
  time_comes j v e s =
      let k : Waiting C = timed o j v in
      (goes_first j v k s (second_way j k (is_busy o t j) (is_busy o t k) e s), begins_one (is_busy o t j) (is_busy o t k) (clock_line j v) (option_to_list (own_line j v)) e s)

  -- nothing is to be done with anybody
  pub is_free : (j : Waiting C) (v : Visit C) → is_busy o t j ≡ false → is_busy o t (timed o j v) ≡ false → IsOwn j v
  is_free j v e s =
      let k : Waiting C = timed o j v in
      let n = third_way j k (is_busy o t j) (is_busy o t k) e s in (
        record {
          is = n;
          served = quiet_of j e;
          quiet = quiet_of k s;
          state = at_none (serving o t j v) (own o j v) (turn o t) n;
          leavers = at_none (serving o t j v) [] (gone_in o t) n;
          making = at_none (serving o t j v) (own_events j v) (λ (i : Waiting C). events_of (gone_in o t i)) n;
        },
        begins_both (is_busy o t j) (is_busy o t k) (clock_line j v) (option_to_list (own_line j v)) e s,
      )

  pub ways : (j : Waiting C) (v : Visit C) → Ways j v
  ways j v = ⊎_elim (λ e. inl (still_lets j v e))
      (λ e. ⊎_elim (λ s. let r = time_comes j v e s in inr (inl (quiet_of j e, r.0, r.1))) (λ s. inr (inr (is_free j v e s))) (cases (is_busy o t (timed o j v)))) (cases (is_busy o t j))

  pub serves : (j : Waiting C) (v : Visit C) (k : Waiting C) → GoesFirst j v k → (k ≡ j) ⊎ (IsQuiet o t j × (k ≡ timed o j v)) → (x : Waiter C) → IsItsTurn o t k x → Serves o t j v k x
  serves j v k f s x i = record {
    is = f.is;
    stands = s;
    its = i;
    state = f.state;
    leavers = f.leavers ∙ i.gone;
    making = f.making ∙ ap events_of i.gone;
    plain_call = as_plain o t k x;
  }

  pub one_thing : (j : Waiting C) (v : Visit C) → ((k : Waiting C) × (x : Waiter C) × Serves o t j v k x) ⊎ DoesItsOwn o t j v
  one_thing j v = ⊎_elim (λ r. let x = one_of j r.0.busy in inl (j, x.0, serves j v j r.0 (inl refl) x.0 x.1))
      (λ r. ⊎_elim (λ s. let k = timed o j v in let x = one_of k s.1.busy in inl (k, x.0, serves j v k s.1 (inr (s.0, refl)) x.0 x.1)) (λ s. inr s.0) r) (ways j v)

pub every_visit_does_one_thing : {C State : Type 0} (o : Object C State) → EveryVisitDoesOneThing o
every_visit_does_one_thing o t j v = one_thing o t j v
