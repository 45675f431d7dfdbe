-- Leaving a waiter out: until its turn nothing else differs.
use Rattle.std.proofs.Common.{◌≡◌, ℕ, zero, suc, Bool, true, false, cond, not, ◌==◌, List, [], ◌∷◌, ◌++◌, filter, length, Option, Some, None, refl, ap, sym, ◌∙◌, subst, ◌⊎◌, ⊎_elim, inl, inr, arith, append_assoc, append-nil, length-append}
use Rattle.grid_base.specs.Objects.{Object}
use Rattle.partition_protocol.proofs.Lists.{Every, every_append, every_from_in, contains_in, cases}
use Rattle.partition_protocol.proofs.RowFacts.{same_number}
use Rattle.waiting_protocol.specs.Machine.{Waiter, Waiting, Line, Asks, Waits, Clock, Closes, Terms, stirs, Picked, skipping, pick, events_of, gone_as, leaving, turn, gone_in, turned, gone, opened, event_in, goes, gone_by, events_by, events, all_gone}
use Rattle.waiting_protocol.specs.Claims.{IsQuiet, IsItsTurn, IsWithout, ComesToItsTurn, IsStillWaiting, NothingDependsOn}
use Rattle.waiting_protocol.proofs.Turns.{at_some, at_none, IsPick, takes_at, skips_at, pick_of, its_turn, rests, steady}

-- picks

-- another is picked, the same one with the waiter and without it
pub record PicksOther {C : Type 0} (f : Waiter C → Bool) (x : Waiter C) (with_it without : List (Waiter C)) : Type 0 where
  pub one : Picked C
  pub same : Picked C
  pub picks : pick f with_it ≡ Some one
  pub picks_same : pick f without ≡ Some same
  pub alike : one.one ≡ same.one
  pub front : List (Waiter C)
  pub back : List (Waiter C)
  pub rest : one.front ++ one.back ≡ front ++ x ∷ back
  pub rest_same : same.front ++ same.back ≡ front ++ back

abbrev pub Picks : {C : Type 0} → (Waiter C → Bool) → Waiter C → List (Waiter C) → List (Waiter C) → Type 0
Picks {C} f x xs ys = ((pick f (xs ++ x ∷ ys) ≡ None) × (pick f (xs ++ ys) ≡ None))
    ⊎ (PicksOther f x (xs ++ x ∷ ys) (xs ++ ys)
    ⊎ (Every (λ y. f y ≡ false) xs × (f x ≡ true) × (pick f (xs ++ x ∷ ys) ≡ Some (record { front = xs; one = x; back = ys }))))

abbrev pub whole : {C : Type 0} → Waiter C → List (Waiter C) → Picked C
whole x xs = record { front = []; one = x; back = xs }

abbrev pub longer : {C : Type 0} → Waiter C → Picked C → Picked C
longer x p = record { front = x ∷ p.front; one = p.one; back = p.back }

pub picks_of : {C : Type 0} (f : Waiter C → Bool) (x : Waiter C) (xs ys : List (Waiter C)) → Picks f x xs ys
picks_of {C} f x [] ys = ⊎_elim first (λ e. ⊎_elim (none e) (λ r. later e r.0 (r.1, r.2)) (pick_of f ys)) (cases (f x))
  where
    first : f x ≡ true → Picks f x [] ys
    first e = inr (inr (tt, e, takes_at (f x) (whole x ys) (skipping x (pick f ys)) e))

    none : f x ≡ false → Every (λ y. f y ≡ false) ys × (pick f ys ≡ None) → Picks f x [] ys
    none e r = inl (skips_at x (whole x ys) (f x) (pick f ys) None e r.1, r.1)

    later : f x ≡ false → (p : Picked C) → (pick f ys ≡ Some p) × IsPick f ys p → Picks f x [] ys
    later e p r = inr (inl (record {
      one = longer x p;
      same = p;
      picks = skips_at x (whole x ys) (f x) (pick f ys) (Some p) e r.0;
      picks_same = r.0;
      alike = refl;
      front = [];
      back = p.front ++ p.back;
      rest = refl;
      rest_same = refl;
    }))
picks_of {C} f x (z ∷ zs) ys = ⊎_elim first (λ e. later e (picks_of f x zs ys)) (cases (f z))
  where
    first : f z ≡ true → Picks f x (z ∷ zs) ys
    first e = inr (inl (record {
      one = whole z (zs ++ x ∷ ys);
      same = whole z (zs ++ ys);
      picks = takes_at (f z) (whole z (zs ++ x ∷ ys)) (skipping z (pick f (zs ++ x ∷ ys))) e;
      picks_same = takes_at (f z) (whole z (zs ++ ys)) (skipping z (pick f (zs ++ ys))) e;
      alike = refl;
      front = zs;
      back = ys;
      rest = refl;
      rest_same = refl;
    }))

    over : f z ≡ false → (r : Option (Picked C)) → pick f (zs ++ x ∷ ys) ≡ r → pick f (z ∷ zs ++ x ∷ ys) ≡ skipping z r
    over e r s = skips_at z (whole z (zs ++ x ∷ ys)) (f z) (pick f (zs ++ x ∷ ys)) r e s

    over_same : f z ≡ false → (r : Option (Picked C)) → pick f (zs ++ ys) ≡ r → pick f (z ∷ zs ++ ys) ≡ skipping z r
    over_same e r s = skips_at z (whole z (zs ++ ys)) (f z) (pick f (zs ++ ys)) r e s

    later : f z ≡ false → Picks f x zs ys → Picks f x (z ∷ zs) ys
    later e (inl r) = inl (over e None r.0, over_same e None r.1)
    later e (inr (inl r)) = inr (inl (record {
      one = longer z r.one;
      same = longer z r.same;
      picks = over e (Some r.one) r.picks;
      picks_same = over_same e (Some r.same) r.picks_same;
      alike = r.alike;
      front = z ∷ r.front;
      back = r.back;
      rest = ap (λ ws. z ∷ ws) r.rest;
      rest_same = ap (λ ws. z ∷ ws) r.rest_same;
    }))
    later e (inr (inr r)) = inr (inr ((e, r.0), r.1, over e (Some (record { front = zs; one = x; back = ys })) r.2))

-- turns

module _ {C State : Type 0} (o : Object C State) (t : Terms C) (x : Waiter C) where
  -- a state with these waiters
  abbrev pub at : Waiting C → List (Waiter C) → Waiting C
  at u xs = record { world = u.world; clock = u.clock; waiters = xs }

  abbrev pub TurnsAlike : Waiting C → Waiting C → Type 0
  TurnsAlike j k = (IsWithout x (turn o t j) (turn o t k) × (gone_in o t j ≡ gone_in o t k)) ⊎ IsItsTurn o t j x

  pub here : (u : Waiting C) (xs ys : List (Waiter C)) → IsWithout x (at u (xs ++ x ∷ ys)) (at u (xs ++ ys))
  here u xs ys = record { front = xs; back = ys; world = refl; clock = refl; with_it = refl; without = refl }

  pub kept : (j k i m : Waiting C) → i ≡ j → m ≡ k → IsWithout x j k → IsWithout x i m
  kept j k i m e f h = subst (λ a. IsWithout x a m) (sym e) (subst (λ b. IsWithout x j b) (sym f) h)

  pub turn_alike : (u : Waiting C) (xs ys : List (Waiter C)) → TurnsAlike (at u (xs ++ x ∷ ys)) (at u (xs ++ ys))
  turn_alike u xs ys = go (picks_of (stirs o t u) x xs ys)
    where
      go : Picks (stirs o t u) x xs ys → TurnsAlike (at u (xs ++ x ∷ ys)) (at u (xs ++ ys))
      go (inl r) =
          let j = at u (xs ++ x ∷ ys) in
          let k = at u (xs ++ ys) in
          inl (
            kept j k (turn o t j) (turn o t k) (at_none (pick (stirs o t j) j.waiters) j (leaving o t j) r.0) (at_none (pick (stirs o t k) k.waiters) k (leaving o t k) r.1) (here u xs ys),
            at_none (pick (stirs o t j) j.waiters) [] (λ (q : Picked C). gone_as o t j q.one ∷ []) r.0 ∙ sym (at_none (pick (stirs o t k) k.waiters) [] (λ (q : Picked C). gone_as o t k q.one ∷ []) r.1),
          )
      go (inr (inl r)) =
          let j = at u (xs ++ x ∷ ys) in
          let k = at u (xs ++ ys) in
          inl (
            kept (leaving o t j r.one) (leaving o t k r.same) (turn o t j) (turn o t k) (at_some (pick (stirs o t j) j.waiters) j (leaving o t j) r.one r.picks) (at_some (pick (stirs o t k) k.waiters) k (leaving o t k) r.same r.picks_same)
                (record { front = r.front; back = r.back; world = ap (λ y. (leaving o t u (record { front = []; one = y; back = [] })).world) (sym r.alike); clock = refl; with_it = r.rest; without = r.rest_same }),
            at_some (pick (stirs o t j) j.waiters) [] (λ (q : Picked C). gone_as o t j q.one ∷ []) r.one r.picks ∙ ap (λ y. gone_as o t u y ∷ []) r.alike ∙ sym (at_some (pick (stirs o t k) k.waiters) [] (λ (q : Picked C). gone_as o t k q.one ∷ []) r.same r.picks_same),
          )
      go (inr (inr r)) = inr (its_turn o t (at u (xs ++ x ∷ ys)) (record { front = xs; one = x; back = ys }) r.2 (record { whole = refl; passes = r.1; earlier = r.0 }))

  -- any two such states are of this form
  pub split : (P : Waiting C → Waiting C → Type 0) → ((u : Waiting C) (xs ys : List (Waiter C)) → P (at u (xs ++ x ∷ ys)) (at u (xs ++ ys))) → (j k : Waiting C) → IsWithout x j k → P j k
  split P h j k s = subst (λ b. P j b) (sym right) (subst (λ a. P a (at j (s.front ++ s.back))) (sym left) (h j s.front s.back))
    where
      left : j ≡ at j (s.front ++ x ∷ s.back)
      left = ap (λ ws. at j ws) s.with_it

      right : k ≡ at j (s.front ++ s.back)
      right = ap (λ ws. at k ws) s.without ∙ ap (λ w. let z : Waiting C = record { world = w; clock = k.clock; waiters = s.front ++ s.back } in z) s.world ∙ ap (λ c. let z : Waiting C = record { world = j.world; clock = c; waiters = s.front ++ s.back } in z) s.clock

  pub turns_alike : (j k : Waiting C) → IsWithout x j k → TurnsAlike j k
  turns_alike = split TurnsAlike turn_alike

  -- it comes to its turn among so many, or not
  pub record ComesIn (j k : Waiting C) : Type 0 where
    pub turns : ℕ
    pub before : IsWithout x (turned o t turns j) (turned o t turns k)
    pub others : gone o t turns j ≡ gone o t turns k
    pub its : IsItsTurn o t (turned o t turns j) x

  pub all_turns : (n : ℕ) (j k : Waiting C) → IsWithout x j k → (IsWithout x (turned o t n j) (turned o t n k) × (gone o t n j ≡ gone o t n k)) ⊎ ComesIn j k
  all_turns zero j k h = inl (h, refl)
  all_turns (suc n) j k h = ⊎_elim
      (λ s. more s.1 (all_turns n (turn o t j) (turn o t k) s.0))
      (λ s. inr (record { turns = 0; before = h; others = refl; its = s })) (turns_alike j k h)
    where
      more : gone_in o t j ≡ gone_in o t k → (IsWithout x (turned o t n (turn o t j)) (turned o t n (turn o t k)) × (gone o t n (turn o t j) ≡ gone o t n (turn o t k))) ⊎ ComesIn (turn o t j) (turn o t k)
          → (IsWithout x (turned o t (suc n) j) (turned o t (suc n) k) × (gone o t (suc n) j ≡ gone o t (suc n) k)) ⊎ ComesIn j k
      more e (inl r) = inl (r.0, ap (λ gs. gs ++ gone o t n (turn o t j)) e ∙ ap (λ gs. gone_in o t k ++ gs) r.1)
      more e (inr r) = inr (record { turns = suc r.turns; before = r.before; others = ap (λ gs. gs ++ gone o t r.turns (turn o t j)) e ∙ ap (λ gs. gone_in o t k ++ gs) r.others; its = r.its })

  -- lines

  pub filter_append : {X : Type 0} (f : X → Bool) (xs ys : List X) → filter f (xs ++ ys) ≡ filter f xs ++ filter f ys
  filter_append f [] ys = refl
  filter_append {X} f (z ∷ zs) ys = go (f z) (filter_append f zs ys)
    where
      go : (b : Bool) → filter f (zs ++ ys) ≡ filter f zs ++ filter f ys → cond b (z ∷ filter f (zs ++ ys)) (filter f (zs ++ ys)) ≡ cond b (z ∷ filter f zs) (filter f zs) ++ filter f ys
      go true e = ap (λ ws. z ∷ ws) e
      go false e = e

  pub filtered : (c : ℕ) (b : Bool) (zs : List (Waiter C)) → (x.conn == c) ≡ b → filter (λ (y : Waiter C). not (y.conn == c)) (x ∷ zs) ≡ cond (not b) (x ∷ filter (λ (y : Waiter C). not (y.conn == c)) zs) (filter (λ (y : Waiter C). not (y.conn == c)) zs)
  filtered c b zs e = ap (λ z. cond (not z) (x ∷ filter (λ (y : Waiter C). not (y.conn == c)) zs) (filter (λ (y : Waiter C). not (y.conn == c)) zs)) e

  abbrev pub OpensAlike : Line C → Waiting C → Waiting C → Type 0
  OpensAlike l j k = IsWithout x (opened o j l) (opened o k l) ⊎ ((l ≡ Closes x.conn) × (opened o j l ≡ opened o k l))

  pub open_alike : (l : Line C) (u : Waiting C) (xs ys : List (Waiter C)) → OpensAlike l (at u (xs ++ x ∷ ys)) (at u (xs ++ ys))
  open_alike (Asks e) u xs ys = inl (record { front = xs; back = ys; world = refl; clock = refl; with_it = refl; without = refl })
  open_alike (Waits y) u xs ys = inl (record { front = xs; back = ys ++ y ∷ []; world = refl; clock = refl; with_it = append_assoc xs (x ∷ ys) (y ∷ []); without = append_assoc xs ys (y ∷ []) })
  open_alike (Clock m now) u xs ys = inl (record { front = xs; back = ys; world = refl; clock = refl; with_it = refl; without = refl })
  open_alike (Closes c) u xs ys = ⊎_elim closes stays (cases (x.conn == c))
    where
      closes : (x.conn == c) ≡ true → OpensAlike (Closes c) (at u (xs ++ x ∷ ys)) (at u (xs ++ ys))
      closes e = inr (
        ap Closes (sym (same_number x.conn c e)),
        ap (at u) (filter_append (λ (y : Waiter C). not (y.conn == c)) xs (x ∷ ys) ∙ ap (λ ws. filter (λ (y : Waiter C). not (y.conn == c)) xs ++ ws) (filtered c true ys e) ∙ sym (filter_append (λ (y : Waiter C). not (y.conn == c)) xs ys)),
      )

      stays : (x.conn == c) ≡ false → OpensAlike (Closes c) (at u (xs ++ x ∷ ys)) (at u (xs ++ ys))
      stays e = inl (record {
        front = filter (λ (y : Waiter C). not (y.conn == c)) xs;
        back = filter (λ (y : Waiter C). not (y.conn == c)) ys;
        world = refl;
        clock = refl;
        with_it = filter_append (λ (y : Waiter C). not (y.conn == c)) xs (x ∷ ys) ∙ ap (λ ws. filter (λ (y : Waiter C). not (y.conn == c)) xs ++ ws) (filtered c false ys e);
        without = filter_append (λ (y : Waiter C). not (y.conn == c)) xs ys;
      })

  pub opens_alike : (l : Line C) (j k : Waiting C) → IsWithout x j k → OpensAlike l j k
  opens_alike l = split (OpensAlike l) (open_alike l)

  pub one_longer : (j k : Waiting C) → IsWithout x j k → length j.waiters ≡ suc (length k.waiters)
  one_longer j k s =
      let a : length j.waiters ≡ length (s.front ++ x ∷ s.back) = ap length s.with_it in
      let b : length k.waiters ≡ length (s.front ++ s.back) = ap length s.without in
      let c = length-append s.front (x ∷ s.back) in
      let d = length-append s.front s.back in
      omega (arith, a, b, c, d)

  abbrev pub StaysAlike : Waiting C → Waiting C → Type 0
  StaysAlike j k = IsWithout x (turned o t (length j.waiters) j) (turned o t (length k.waiters) k) × (gone o t (length j.waiters) j ≡ gone o t (length k.waiters) k)

  -- one turn more without it changes nothing
  pub line_turns : (j k : Waiting C) → IsWithout x j k → StaysAlike j k ⊎ ComesIn j k
  line_turns j k h = ⊎_elim (λ r. inl (stays r)) (λ r. inr r) (all_turns (length j.waiters) j k h)
    where
      stays : IsWithout x (turned o t (length j.waiters) j) (turned o t (length j.waiters) k) × (gone o t (length j.waiters) j ≡ gone o t (length j.waiters) k) → StaysAlike j k
      stays r =
          let e = one_longer j k h in
          let s = steady o t (length k.waiters) k (omega arith) in
          (subst (λ a. IsWithout x (turned o t (length j.waiters) j) a) (ap (λ n. turned o t n k) e ∙ s.0) r.0, r.1 ∙ ap (λ n. gone o t n k) e ∙ s.1)

  abbrev pub Departs : Waiting C → Waiting C → Line C → Type 0
  Departs j k l = ComesToItsTurn o t x j k l ⊎ ((l ≡ Closes x.conn) × (goes o t j l ≡ goes o t k l) × (events_by o t j l ≡ events_by o t k l))

  pub line_alike : (l : Line C) (j k : Waiting C) → IsWithout x j k
      → (IsWithout x (goes o t j l) (goes o t k l) × (gone_by o t j l ≡ gone_by o t k l)) ⊎ Departs j k l
  line_alike l j k h = ⊎_elim
      (λ s. ⊎_elim (λ r. inl r) (λ (r : ComesIn (opened o j l) (opened o k l)). inr (inl (record { turn = r.turns; before = r.before; others = r.others; its = r.its }))) (line_turns (opened o j l) (opened o k l) s))
      (λ s. inr (inr (s.0, ap (λ (z : Waiting C). turned o t (length z.waiters) z) s.1, ap (λ (z : Waiting C). event_in l ++ events_of (gone o t (length z.waiters) z)) s.1)))
      (opens_alike l j k h)

  pub nothing_depends : (ls : List (Line C)) (j k : Waiting C) → IsWithout x j k → NothingDependsOn o t x j k ls
  nothing_depends [] j k h = inl (record { states = h; events_same = refl; gone_same = refl })
  nothing_depends (l ∷ ls) j k h = ⊎_elim (λ s. more s.1 (nothing_depends ls (goes o t j l) (goes o t k l) s.0))
      (λ s. inr (record { before = []; line = l; later = ls; whole = refl; until = record { states = h; events_same = refl; gone_same = refl }; how = s })) (line_alike l j k h)
    where
      further : gone_by o t j l ≡ gone_by o t k l → (ms : List (Line C)) → IsStillWaiting o t x (goes o t j l) (goes o t k l) ms → IsStillWaiting o t x j k (l ∷ ms)
      further e ms r = record {
        states = r.states;
        events_same = ap (λ gs. (event_in l ++ events_of gs) ++ events o t (goes o t j l) ms) e ∙ ap (λ es. events_by o t k l ++ es) r.events_same;
        gone_same = ap (λ gs. gs ++ all_gone o t (goes o t j l) ms) e ∙ ap (λ gs. gone_by o t k l ++ gs) r.gone_same;
      }

      more : gone_by o t j l ≡ gone_by o t k l → NothingDependsOn o t x (goes o t j l) (goes o t k l) ls → NothingDependsOn o t x j k (l ∷ ls)
      more e (inl r) = inl (further e ls r)
      more e (inr r) = inr (record { before = l ∷ r.before; line = r.line; later = r.later; whole = ap (λ ms. l ∷ ms) r.whole; until = further e r.before r.until; how = r.how })

  -- it arrives where nothing was left to be done
  pub arrives : (j : Waiting C) → IsQuiet o t j → IsItsTurn o t (opened o j (Waits x)) x ⊎ (IsWithout x (goes o t j (Waits x)) j × (gone_by o t j (Waits x) ≡ []))
  arrives j q = ⊎_elim now waits (cases (stirs o t j x))
    where
      before : Every (λ y. stirs o t j y ≡ false) j.waiters
      before = every_from_in (λ y. stirs o t j y ≡ false) j.waiters (λ y i. q y (contains_in y j.waiters i))

      stays : (xs : List (Waiter C)) → Every (λ y. stirs o t j y ≡ false) xs → pick (stirs o t j) xs ≡ None
      stays [] h = refl
      stays (z ∷ zs) h = skips_at z (whole z zs) (stirs o t j z) (pick (stirs o t j) zs) None h.0 (stays zs h.1)

      takes : (xs : List (Waiter C)) → Every (λ y. stirs o t j y ≡ false) xs → stirs o t j x ≡ true → pick (stirs o t j) (xs ++ x ∷ []) ≡ Some (record { front = xs; one = x; back = [] })
      takes [] h e = takes_at (stirs o t j x) (whole x []) None e
      takes (z ∷ zs) h e = skips_at z (whole z (zs ++ x ∷ [])) (stirs o t j z) (pick (stirs o t j) (zs ++ x ∷ [])) (Some (record { front = zs; one = x; back = [] })) h.0 (takes zs h.1 e)

      now : stirs o t j x ≡ true → IsItsTurn o t (opened o j (Waits x)) x ⊎ (IsWithout x (goes o t j (Waits x)) j × (gone_by o t j (Waits x) ≡ []))
      now e = inl (its_turn o t (opened o j (Waits x)) (record { front = j.waiters; one = x; back = [] }) (takes j.waiters before e) (record { whole = refl; passes = e; earlier = before }))

      waits : stirs o t j x ≡ false → IsItsTurn o t (opened o j (Waits x)) x ⊎ (IsWithout x (goes o t j (Waits x)) j × (gone_by o t j (Waits x) ≡ []))
      waits e =
          let k = opened o j (Waits x) in
          let p : pick (stirs o t k) k.waiters ≡ None = stays (j.waiters ++ x ∷ []) (every_append (λ y. stirs o t j y ≡ false) j.waiters (x ∷ []) before (e, tt)) in
          let r = rests o t (length k.waiters) k (at_none (pick (stirs o t k) k.waiters) k (leaving o t k) p) (at_none (pick (stirs o t k) k.waiters) [] (λ (y : Picked C). gone_as o t k y.one ∷ []) p) in
          inr (subst (λ a. IsWithout x a j) (sym r.0) (record { front = j.waiters; back = []; world = refl; clock = refl; with_it = refl; without = sym (append-nil j.waiters) }), r.1)
