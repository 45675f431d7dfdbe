-- Turns: who leaves, and that they end.
use Rattle.std.proofs.Common.{◌≡◌, ℕ, zero, suc, ◌<◌, ◌≤◌, Bool, true, false, cond, List, [], ◌∷◌, ◌++◌, length, Option, Some, None, refl, ap, sym, ◌∙◌, subst, ◌⊎◌, ⊎_elim, inl, inr, arith, append_assoc, append-nil, length-append}
use Rattle.grid_base.specs.Objects.{Object}
use Rattle.partition_protocol.specs.World.{map_or}
use Rattle.partition_protocol.specs.Events.{run}
use Rattle.partition_protocol.proofs.Lists.{Every, every_in, in_contains, cases}
use Rattle.partition_protocol.proofs.Extends.{run_append}
use Rattle.waiting_protocol.specs.Machine.{Waiter, Waiting, Line, Asks, Waits, Clock, Closes, Terms, stirs, Picked, skipping, pick, Gone, event_of, events_of, gone_as, leaving, turn, gone_in, turned, gone, opened, event_in, goes, gone_by, events_by, after, events}
use Rattle.waiting_protocol.specs.Claims.{IsQuiet, IsItsTurn, Turns}

-- the first that passes

pub at_some : {X Y : Type 0} (r : Option X) (d : Y) (f : X → Y) (x : X) → r ≡ Some x → map_or r d f ≡ f x
at_some r d f x e = rw e refl

pub at_none : {X Y : Type 0} (r : Option X) (d : Y) (f : X → Y) → r ≡ None → map_or r d f ≡ d
at_none r d f e = rw e refl

pub record IsPick {C : Type 0} (f : Waiter C → Bool) (xs : List (Waiter C)) (p : Picked C) : Type 0 where
  pub whole : xs ≡ p.front ++ p.one ∷ p.back
  pub passes : f p.one ≡ true
  pub earlier : Every (λ x. f x ≡ false) p.front

pub takes_at : {C : Type 0} (b : Bool) (p : Picked C) (r : Option (Picked C)) → b ≡ true → cond b (Some p) r ≡ Some p
takes_at b p r e = rw e refl

pub skips_at : {C : Type 0} (x : Waiter C) (p : Picked C) (b : Bool) (r q : Option (Picked C)) → b ≡ false → r ≡ q → cond b (Some p) (skipping x r) ≡ skipping x q
skips_at x p b r q e s = rw (e, s) refl

pub pick_of : {C : Type 0} (f : Waiter C → Bool) (xs : List (Waiter C)) → (Every (λ x. f x ≡ false) xs × (pick f xs ≡ None)) ⊎ ((p : Picked C) × (pick f xs ≡ Some p) × IsPick f xs p)
pick_of f [] = inl (tt, refl)
pick_of {C} f (x ∷ xs) = ⊎_elim first (λ e. later e (pick_of f xs)) (cases (f x))
  where
    first : f x ≡ true → (Every (λ y. f y ≡ false) (x ∷ xs) × (pick f (x ∷ xs) ≡ None)) ⊎ ((p : Picked C) × (pick f (x ∷ xs) ≡ Some p) × IsPick f (x ∷ xs) p)
    first e = inr (record { front = []; one = x; back = xs }, takes_at (f x) (record { front = []; one = x; back = xs }) (skipping x (pick f xs)) e, record { whole = refl; passes = e; earlier = tt })

    later : f x ≡ false → (Every (λ y. f y ≡ false) xs × (pick f xs ≡ None)) ⊎ ((p : Picked C) × (pick f xs ≡ Some p) × IsPick f xs p)
        → (Every (λ y. f y ≡ false) (x ∷ xs) × (pick f (x ∷ xs) ≡ None)) ⊎ ((p : Picked C) × (pick f (x ∷ xs) ≡ Some p) × IsPick f (x ∷ xs) p)
    later e (inl r) = inl ((e, r.0), skips_at x (record { front = []; one = x; back = xs }) (f x) (pick f xs) None e r.1)
    later e (inr (p, s, i)) = inr (
      record { front = x ∷ p.front; one = p.one; back = p.back },
      skips_at x (record { front = []; one = x; back = xs }) (f x) (pick f xs) (Some p) e s,
      record { whole = ap (λ ys. x ∷ ys) i.whole; passes = i.passes; earlier = (e, i.earlier) },
    )

-- turns

module _ {C State : Type 0} (o : Object C State) (t : Terms C) where
  pub its_turn : (j : Waiting C) (p : Picked C) → pick (stirs o t j) j.waiters ≡ Some p → IsPick (stirs o t j) j.waiters p → IsItsTurn o t j p.one
  its_turn j p s i = record {
    front = p.front;
    back = p.back;
    place = i.whole;
    earlier = λ x c. every_in (λ y. stirs o t j y ≡ false) p.front x i.earlier (in_contains x p.front c);
    stirred = i.passes;
    left = at_some (pick (stirs o t j) j.waiters) j (leaving o t j) p s;
    gone = at_some (pick (stirs o t j) j.waiters) [] (λ (q : Picked C). gone_as o t j q.one ∷ []) p s;
  }

  pub turn_of : (j : Waiting C) → Turns o t j
  turn_of j = ⊎_elim
      (λ r. inl ((λ x c. every_in (λ y. stirs o t j y ≡ false) j.waiters x r.0 (in_contains x j.waiters c)), at_none (pick (stirs o t j) j.waiters) j (leaving o t j) r.1, at_none (pick (stirs o t j) j.waiters) [] (λ (q : Picked C). gone_as o t j q.one ∷ []) r.1))
      (λ r. inr (r.0.one, its_turn j r.0 r.1 r.2)) (pick_of (stirs o t j) j.waiters)

  pub shorter : (j : Waiting C) (x : Waiter C) → IsItsTurn o t j x → length (turn o t j).waiters < length j.waiters
  shorter j x i =
      let a : length (turn o t j).waiters ≡ length (i.front ++ i.back) = ap (λ (k : Waiting C). length k.waiters) i.left in
      let b : length j.waiters ≡ length (i.front ++ x ∷ i.back) = ap length i.place in
      let c = length-append i.front i.back in
      let d = length-append i.front (x ∷ i.back) in
      omega (arith, a, b, c, d)

  pub rests : (n : ℕ) (j : Waiting C) → turn o t j ≡ j → gone_in o t j ≡ [] → (turned o t n j ≡ j) × (gone o t n j ≡ [])
  rests zero j e g = (refl, refl)
  rests (suc n) j e g =
      let r = rests n j e g in
      (ap (turned o t n) e ∙ r.0, ap (λ gs. gs ++ gone o t n (turn o t j)) g ∙ ap (gone o t n) e ∙ r.1)

  pub ends : (n : ℕ) (j : Waiting C) → length j.waiters ≤ n → IsQuiet o t (turned o t n j)
  ends zero j l = ⊎_elim (λ s. s.0) (λ s. absurd (let k = shorter j s.0 s.1 in omega (arith, k, l))) (turn_of j)
  ends (suc n) j l = ⊎_elim (λ s. subst (λ k. IsQuiet o t k) (sym (rests (suc n) j s.1 s.2).0) s.0) (λ s. ends n (turn o t j) (let k = shorter j s.0 s.1 in omega (arith, k, l))) (turn_of j)

  pub settled_at : (n : ℕ) (j : Waiting C) → IsQuiet o t j × (turn o t j ≡ j) × (gone_in o t j ≡ []) → (turned o t (suc n) j ≡ turned o t n j) × (gone o t (suc n) j ≡ gone o t n j)
  settled_at n j s = let a = rests (suc n) j s.1 s.2 in let b = rests n j s.1 s.2 in (a.0 ∙ sym b.0, a.1 ∙ sym b.1)

  -- one turn more than there are waiters changes nothing
  pub steady : (n : ℕ) (j : Waiting C) → length j.waiters ≤ n → (turned o t (suc n) j ≡ turned o t n j) × (gone o t (suc n) j ≡ gone o t n j)
  steady zero j l = ⊎_elim (settled_at zero j) (λ s. absurd (let k = shorter j s.0 s.1 in omega (arith, k, l))) (turn_of j)
  steady (suc n) j l = ⊎_elim (settled_at (suc n) j) (λ s. let r = steady n (turn o t j) (let k = shorter j s.0 s.1 in omega (arith, k, l)) in (r.0, ap (λ gs. gone_in o t j ++ gs) r.1)) (turn_of j)

  -- worlds

  pub events_append : (xs ys : List (Gone C)) → events_of (xs ++ ys) ≡ events_of xs ++ events_of ys
  events_append [] ys = refl
  events_append (x ∷ xs) ys = ap (λ es. event_of x ++ es) (events_append xs ys) ∙ sym (append_assoc (event_of x) (events_of xs) (events_of ys))

  pub turn_run : (j : Waiting C) → run o j.world (events_of (gone_in o t j)) ≡ (turn o t j).world
  turn_run j = ⊎_elim (λ s. ap (λ gs. run o j.world (events_of gs)) s.2 ∙ ap (λ (k : Waiting C). k.world) (sym s.1))
      (λ s. ap (λ gs. run o j.world (events_of gs)) s.1.gone ∙ ap (run o j.world) (append-nil (event_of (gone_as o t j s.0))) ∙ ap (λ (k : Waiting C). k.world) (sym s.1.left)) (turn_of j)

  pub turned_run : (n : ℕ) (j : Waiting C) → run o j.world (events_of (gone o t n j)) ≡ (turned o t n j).world
  turned_run zero j = refl
  turned_run (suc n) j =
      ap (run o j.world) (events_append (gone_in o t j) (gone o t n (turn o t j)))
      ∙ run_append o j.world (events_of (gone_in o t j)) (events_of (gone o t n (turn o t j)))
      ∙ ap (λ w. run o w (events_of (gone o t n (turn o t j)))) (turn_run j)
      ∙ turned_run n (turn o t j)

  pub opened_run : (j : Waiting C) (l : Line C) → run o j.world (event_in l) ≡ (opened o j l).world
  opened_run j (Asks e) = refl
  opened_run j (Waits x) = refl
  opened_run j (Clock m now) = refl
  opened_run j (Closes c) = refl

  pub goes_run : (j : Waiting C) (l : Line C) → run o j.world (events_by o t j l) ≡ (goes o t j l).world
  goes_run j l =
      run_append o j.world (event_in l) (events_of (gone_by o t j l))
      ∙ ap (λ w. run o w (events_of (gone_by o t j l))) (opened_run j l)
      ∙ turned_run (length (opened o j l).waiters) (opened o j l)

  pub all_run : (j : Waiting C) (ls : List (Line C)) → run o j.world (events o t j ls) ≡ (after o t j ls).world
  all_run j [] = refl
  all_run j (l ∷ ls) =
      run_append o j.world (events_by o t j l) (events o t (goes o t j l) ls)
      ∙ ap (λ w. run o w (events o t (goes o t j l) ls)) (goes_run j l)
      ∙ all_run (goes o t j l) ls

  pub goes_quiet : (j : Waiting C) (l : Line C) → IsQuiet o t (goes o t j l)
  goes_quiet j l = let k = opened o j l in ends (length k.waiters) k (omega arith)

  pub after_quiet : (j : Waiting C) (ls : List (Line C)) → IsQuiet o t j → IsQuiet o t (after o t j ls)
  after_quiet j [] q = q
  after_quiet j (l ∷ ls) q = after_quiet (goes o t j l) ls (goes_quiet j l)
