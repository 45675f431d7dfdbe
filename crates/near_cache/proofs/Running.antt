-- What each call keeps of a cache.
use Rattle.std.proofs.Common.{◌≡◌, ℕ, zero, suc, Bool, true, false, not, cond, ◌||◌, ◌==◌, bytes_eq, List, [], ◌∷◌, ◌++◌, filter, take, option_map, Option, Some, None, refl, sym, ap, ◌∙◌, subst, append-nil, append_assoc, arith, ne_eqb}
use Rattle.std.specs.List.{find, list_any, AllByRecursion, IsDistinct}
use Rattle.std.specs.Option.{option_map_or}
use Rattle.std.specs.Ordering.{nat_cmp}
use Rattle.std.specs.Cmp.{nat_cmp_total}
use Rattle.std.specs.FinMap.{get, insert, remove, get-empty, get-insert, get-remove}
use Rattle.std.proofs.lemmas.Slice.Eq.{bytes_eq-Decides}
use Rattle.std.proofs.lemmas.Bool.{not-true, eqb-true, eqb-false}
use Rattle.lru.specs.LruCache.{IsValid, lru_cache}
use Rattle.near_cache.specs.declared.look_up.LookUp.{LookUp}
use Rattle.near_cache.specs.declared.look_up.Overtaking.{Overtaking}
use Rattle.near_cache.specs.LookUps.{overtaking}
use Rattle.near_cache.specs.Scopes.{is_in_partition}
use Rattle.near_cache.specs.Caches.{Cache, Kept, new_cache, is_for, hit, others, used, opened, closed, kept, filled, answered, dropping}
use Rattle.near_cache.specs.Runs.{Step, Used, Opened, Answered, Closed, Invalidated, Cleared, after, all_after, drops, is_of, WasFilled, EveryHitWasFilled, EveryFillIsHit, EveryCacheIsWithin}
use Rattle.near_cache.proofs.Waiting.{tie, get_overtaken}
use Rattle.near_cache.proofs.Keeping.{take_first, valid_used, valid_kept, valid_filter}
use Rattle.near_cache.proofs.Answering.{answered_in_time}

-- lists

each : {X : Type 0} {P Q : X → Type 0} (xs : List X) → ((x : X) → P x → Q x) → AllByRecursion P xs → AllByRecursion Q xs
each [] f h = tt
each (x ∷ xs) f h = (f x h.0, each xs f h.1)

each_filtered : {X : Type 0} (P : X → Type 0) (test : X → Bool) (xs : List X) → AllByRecursion P xs → AllByRecursion (λ x. P x × (test x ≡ true)) (filter test xs)
each_filtered P test [] h = tt
each_filtered {X} P test (x ∷ xs) h = go (test x) refl (each_filtered P test xs h.1)
  where
    go : (b : Bool) → test x ≡ b → AllByRecursion (λ y. P y × (test y ≡ true)) (filter test xs) → AllByRecursion (λ y. P y × (test y ≡ true)) (cond b (x ∷ filter test xs) (filter test xs))
    go true e on = ((h.0, e), on)
    go false e on = on

each_taken : {X : Type 0} (P : X → Type 0) (n : ℕ) (xs : List X) → AllByRecursion P xs → AllByRecursion P (take n xs)
each_taken P zero xs h = tt
each_taken P (suc n) [] h = tt
each_taken P (suc n) (x ∷ xs) h = (h.0, each_taken P n xs h.1)

found : {X : Type 0} (P : X → Type 0) (test : X → Bool) (xs : List X) (x : X) → AllByRecursion P xs → find test xs ≡ Some x → P x × (test x ≡ true)
found P test [] x h e = absurd cc
found {X} P test (y ∷ ys) x h e = go (test y) refl e (λ k. found P test ys x h.1 k)
  where
    go : (b : Bool) → test y ≡ b → cond b (Some y) (find test ys) ≡ Some x → (find test ys ≡ Some x → P x × (test x ≡ true)) → P x × (test x ≡ true)
    go true t s on = let same : y ≡ x = cc in subst (λ z. P z × (test z ≡ true)) same (h.0, t)
    go false t s on = on s

none_more : {X : Type 0} (test : X → Bool) (xs : List X) (x : X) → list_any test xs ≡ false → test x ≡ false → list_any test (xs ++ x ∷ []) ≡ false
none_more test [] x h e = rw e refl
none_more {X} test (y ∷ ys) x h e = go (test y) h (λ k. none_more test ys x k e)
  where
    go : (b : Bool) → (b || list_any test ys) ≡ false → (list_any test ys ≡ false → list_any test (ys ++ x ∷ []) ≡ false) → (b || list_any test (ys ++ x ∷ [])) ≡ false
    go true s on = absurd cc
    go false s on = on s

-- what is known of a cache after some steps

-- a look-up of the key was opened, and since then no step was of it, and none took the key out
pub record WasOpened (steps : List Step) (n : ℕ) (key : List ℕ) : Type 0 where
  pub before : List Step
  pub since : List Step
  pub are : steps ≡ before ++ Opened n key ∷ since
  pub same : list_any (is_of n) since ≡ false
  pub waiting : list_any (drops key) since ≡ false

pub record IsFilled (steps : List Step) (c : Cache) : Type 0 where
  pub entries : AllByRecursion (λ (e : Kept). WasFilled steps e.0 e.1) c.entries
  pub waiting : (n : ℕ) (r : LookUp) → get c.waiting n ≡ Some r → r.overtaken ≡ None → WasOpened steps n r.key

opened_on : (steps : List Step) (s : Step) (n : ℕ) (key : List ℕ) → is_of n s ≡ false → drops key s ≡ false → WasOpened steps n key → WasOpened (steps ++ s ∷ []) n key
opened_on steps s n key other keeps h = record {
  before = h.before;
  since = h.since ++ s ∷ [];
  are = ap (λ l. l ++ s ∷ []) h.are ∙ append_assoc h.before (Opened n key ∷ h.since) (s ∷ []);
  same = none_more (is_of n) h.since s h.same other;
  waiting = none_more (drops key) h.since s h.waiting keeps;
}

filled_on : (steps : List Step) (s : Step) (key : List ℕ) (value : Option (List ℕ)) → drops key s ≡ false → WasFilled steps key value → WasFilled (steps ++ s ∷ []) key value
filled_on steps s key value keeps h = record {
  number = h.number;
  before = h.before;
  between = h.between;
  since = h.since ++ s ∷ [];
  are = ap (λ l. l ++ s ∷ []) h.are ∙ append_assoc h.before (Opened h.number key ∷ (h.between ++ Answered h.number value ∷ h.since)) (s ∷ [])
      ∙ ap (λ l. h.before ++ Opened h.number key ∷ l) (append_assoc h.between (Answered h.number value ∷ h.since) (s ∷ []));
  same = h.same;
  waiting = h.waiting;
  standing = none_more (drops key) h.since s h.standing keeps;
}

filled_now : (steps : List Step) (n : ℕ) (key : List ℕ) (value : Option (List ℕ)) → WasOpened steps n key → WasFilled (steps ++ Answered n value ∷ []) key value
filled_now steps n key value h = record {
  number = n;
  before = h.before;
  between = h.since;
  since = [];
  are = ap (λ l. l ++ Answered n value ∷ []) h.are ∙ append_assoc h.before (Opened n key ∷ h.since) (Answered n value ∷ []);
  same = h.same;
  waiting = h.waiting;
  standing = refl;
}

-- a step that drops nothing and opens, answers or closes no look-up of these keeps what is known
module _ (steps : List Step) (c : Cache) (h : IsFilled steps c) where
  entries_on : (s : Step) → ((key : List ℕ) → drops key s ≡ false) → AllByRecursion (λ (e : Kept). WasFilled (steps ++ s ∷ []) e.0 e.1) c.entries
  entries_on s keeps = each c.entries (λ e was. filled_on steps s e.0 e.1 (keeps e.0) was) h.entries

  waiting_on : (s : Step) → ((key : List ℕ) → drops key s ≡ false) → (n : ℕ) (r : LookUp) → is_of n s ≡ false → get c.waiting n ≡ Some r → r.overtaken ≡ None → WasOpened (steps ++ s ∷ []) n r.key
  waiting_on s keeps n r other is none = opened_on steps s n r.key other (keeps r.key) (h.waiting n r is none)

  after_use : (key : List ℕ) → IsFilled (steps ++ Used key ∷ []) (used key c)
  after_use key = record {
    entries = go (find (is_for key) c.entries) refl;
    waiting = λ n r is none. waiting_on (Used key) (λ k. refl) n r refl is none;
  }
    where
      go : (o : Option Kept) → find (is_for key) c.entries ≡ o
          → AllByRecursion (λ (e : Kept). WasFilled (steps ++ Used key ∷ []) e.0 e.1) (option_map_or (λ e. e ∷ others key c.entries) o c.entries)
      go None e = entries_on (Used key) (λ k. refl)
      go (Some x) e =
          let all = entries_on (Used key) (λ k. refl) in
          ((found (λ (e : Kept). WasFilled (steps ++ Used key ∷ []) e.0 e.1) (is_for key) c.entries x all e).0, each (others key c.entries) (λ y w. w.0) (each_filtered (λ (e : Kept). WasFilled (steps ++ Used key ∷ []) e.0 e.1) (λ y. not (is_for key y)) c.entries all))

  after_opening : (n : ℕ) (key : List ℕ) → IsFilled (steps ++ Opened n key ∷ []) (opened n key c)
  after_opening n key = record { entries = entries_on (Opened n key) (λ k. refl); waiting = waiting }
    where
      here : (new r : LookUp) (m : ℕ) → new.key ≡ key → m ≡ n → Some new ≡ Some r → WasOpened (steps ++ Opened n key ∷ []) m r.key
      here new r m its same is = record {
        before = steps;
        since = [];
        are = (let it : new ≡ r = cc in ap (λ k. steps ++ Opened n k ∷ []) (sym its ∙ ap (λ (x : LookUp). x.key) it) ∙ ap (λ k. steps ++ Opened k r.key ∷ []) (sym same));
        same = refl;
        waiting = refl;
      }

      at : (m : ℕ) (r : LookUp) (b : Bool) → (m == n) ≡ b → cond b (Some (record { key = key; overtaken = None })) (get c.waiting m) ≡ Some r → r.overtaken ≡ None → WasOpened (steps ++ Opened n key ∷ []) m r.key
      at m r true t is none = here (record { key = key; overtaken = None }) r m refl (eqb-true m n t) is
      at m r false t is none = waiting_on (Opened n key) (λ k. refl) m r (ne_eqb n m (λ e. eqb-false m n t (sym e))) is none

      waiting : (m : ℕ) (r : LookUp) → get (insert c.waiting n (record { key = key; overtaken = None })) m ≡ Some r → r.overtaken ≡ None → WasOpened (steps ++ Opened n key ∷ []) m r.key
      waiting m r is none =
          at m r (m == n) refl (ap (λ b. cond b (Some (record { key = key; overtaken = None })) (get c.waiting m)) (sym (tie m n)) ∙ sym (get-insert nat_cmp_total c.waiting n (record { key = key; overtaken = None }) m) ∙ is) none

  -- the other look-ups wait on as one is closed
  closed_waiting : (s : Step) (n : ℕ) → ((key : List ℕ) → drops key s ≡ false) → ((m : ℕ) → is_of m s ≡ (n == m))
      → (m : ℕ) (r : LookUp) → get (remove c.waiting n) m ≡ Some r → r.overtaken ≡ None → WasOpened (steps ++ s ∷ []) m r.key
  closed_waiting s n keeps of_n m r is none = at (m == n) refl (ap (λ b. cond b None (get c.waiting m)) (sym (tie m n)) ∙ sym (get-remove nat_cmp_total c.waiting n m) ∙ is)
    where
      at : (b : Bool) → (m == n) ≡ b → cond b None (get c.waiting m) ≡ Some r → WasOpened (steps ++ s ∷ []) m r.key
      at true t e = absurd cc
      at false t e = waiting_on s keeps m r (of_n m ∙ ne_eqb n m (λ e. eqb-false m n t (sym e))) e none

  after_closing : (n : ℕ) → IsFilled (steps ++ Closed n ∷ []) (closed n c)
  after_closing n = record { entries = entries_on (Closed n) (λ k. refl); waiting = closed_waiting (Closed n) n (λ k. refl) (λ m. refl) }

  after_answer : (n : ℕ) (value : Option (List ℕ)) → IsFilled (steps ++ Answered n value ∷ []) (answered n value c)
  after_answer n value = at (get c.waiting n) refl
    where
      s : Step
      s = Answered n value

      fills : (r : LookUp) → get c.waiting n ≡ Some r → (o : Option Overtaking) → r.overtaken ≡ o
          → AllByRecursion (λ (e : Kept). WasFilled (steps ++ Answered n value ∷ []) e.0 e.1) (option_map_or (λ (by : Overtaking). c) o (kept r.key value c)).entries
      fills r is (Some by) none = entries_on (Answered n value) (λ k. refl)
      fills r is None none =
          let all = entries_on (Answered n value) (λ k. refl) in
          let rest = each {P = λ (e : Kept). WasFilled (steps ++ Answered n value ∷ []) e.0 e.1 × (not (is_for r.key e) ≡ true)} {Q = λ (e : Kept). WasFilled (steps ++ Answered n value ∷ []) e.0 e.1} (others r.key c.entries) (λ y w. w.0) (each_filtered (λ (e : Kept). WasFilled (steps ++ Answered n value ∷ []) e.0 e.1) (λ y. not (is_for r.key y)) c.entries all) in
          each_taken (λ (e : Kept). WasFilled (steps ++ Answered n value ∷ []) e.0 e.1) c.capacity ((r.key, value) ∷ others r.key c.entries) (filled_now steps n r.key value (h.waiting n r is none), rest)

      look_ups : (r : LookUp) (o : Option Overtaking) → (option_map_or (λ (by : Overtaking). c) o (kept r.key value c)).waiting ≡ c.waiting
      look_ups r None = refl
      look_ups r (Some by) = refl

      at : (o : Option LookUp) → get c.waiting n ≡ o → IsFilled (steps ++ Answered n value ∷ []) (option_map_or (λ (r : LookUp). closed n (filled r value c)) o c)
      at None e = record {
        entries = entries_on (Answered n value) (λ k. refl);
        waiting = λ m r is none. waiting_on (Answered n value) (λ k. refl) m r (ne_eqb n m (λ same. absurd (let it = sym e ∙ ap (get c.waiting) same ∙ is in cc))) is none;
      }
      at (Some r) e = record {
        entries = fills r e r.overtaken refl;
        waiting = λ m q is none. closed_waiting (Answered n value) n (λ k. refl) (λ m. refl) m q (subst (λ w. get (remove w n) m ≡ Some q) (look_ups r r.overtaken) is) none;
      }

  -- of some keys, those that the step drops
  after_dropping : (s : Step) (test : List ℕ → Bool) (by : Overtaking) → ((key : List ℕ) → drops key s ≡ test key) → ((m : ℕ) → is_of m s ≡ false) → IsFilled (steps ++ s ∷ []) (dropping test by c)
  after_dropping s test by drops_by of_none = record {
    entries = each (filter (λ (e : Kept). not (test e.0)) c.entries) (λ e w. filled_on steps s e.0 e.1 (drops_by e.0 ∙ not-true (test e.0) w.1) w.0) (each_filtered (λ (e : Kept). WasFilled steps e.0 e.1) (λ (e : Kept). not (test e.0)) c.entries h.entries);
    waiting = λ m r is none. at m r (get c.waiting m) refl (sym (get_overtaken test by c.waiting m) ∙ is) none;
  }
    where
      keeps : (m : ℕ) (q r : LookUp) (b : Bool) → test q.key ≡ b → get c.waiting m ≡ Some q → cond b (record q { overtaken = Some by }) q ≡ r → r.overtaken ≡ None → WasOpened (steps ++ s ∷ []) m r.key
      keeps m q r true t e is none = absurd (let it = ap (λ (x : LookUp). x.overtaken) is ∙ none in cc)
      keeps m q r false t e is none =
          subst (λ (x : LookUp). WasOpened (steps ++ s ∷ []) m x.key) is
          (opened_on steps s m q.key (of_none m) (drops_by q.key ∙ t) (h.waiting m q e (ap (λ (x : LookUp). x.overtaken) is ∙ none)))

      at : (m : ℕ) (r : LookUp) (o : Option LookUp) → get c.waiting m ≡ o → option_map (overtaking test by) o ≡ Some r → r.overtaken ≡ None → WasOpened (steps ++ s ∷ []) m r.key
      at m r None e is none = absurd cc
      at m r (Some q) e is none = let it : overtaking test by q ≡ r = cc in keeps m q r (test q.key) refl e it none

  after_step : (s : Step) → IsFilled (steps ++ s ∷ []) (after c s)
  after_step (Used key) = after_use key
  after_step (Opened n key) = after_opening n key
  after_step (Answered n value) = after_answer n value
  after_step (Closed n) = after_closing n
  after_step (Invalidated key by) = after_dropping (Invalidated key by) (bytes_eq key) by (λ k. refl) (λ m. refl)
  after_step (Cleared p version) = after_dropping (Cleared p version) (is_in_partition p) (record { version = version; number = 0 }) (λ k. refl) (λ m. refl)

after_steps : (done rest : List Step) (c : Cache) → IsFilled done c → IsFilled (done ++ rest) (all_after c rest)
after_steps done [] c h = subst (λ l. IsFilled l c) (sym (append-nil done)) h
after_steps done (s ∷ rest) c h = subst (λ l. IsFilled l (all_after (after c s) rest)) (append_assoc done (s ∷ []) rest) (after_steps (done ++ s ∷ []) rest (after c s) (after_step done c h s))

at_first : (capacity : ℕ) → IsFilled [] (new_cache capacity)
at_first capacity = record { entries = tt; waiting = λ n r is none. absurd (let it = sym (get-empty nat_cmp n) ∙ is in cc) }

pub every_hit_was_filled : EveryHitWasFilled
every_hit_was_filled capacity steps key value is = go (find (is_for key) c.entries) refl is
  where
    c : Cache
    c = all_after (new_cache capacity) steps

    all : AllByRecursion (λ (e : Kept). WasFilled steps e.0 e.1) (all_after (new_cache capacity) steps).entries
    all = (after_steps [] steps (new_cache capacity) (at_first capacity)).entries

    go : (o : Option Kept) → find (is_for key) (all_after (new_cache capacity) steps).entries ≡ o → option_map (λ e. e.1) o ≡ Some value → WasFilled steps key value
    go None e h = absurd cc
    go (Some x) e h =
        let f = found (λ (e : Kept). WasFilled steps e.0 e.1) (is_for key) (all_after (new_cache capacity) steps).entries x all e in
        let same : key ≡ x.0 = (bytes_eq-Decides key x.0).0 f.1 in
        let it : x.1 ≡ value = cc in
        subst (λ k. WasFilled steps k value) (sym same) (subst (λ v. WasFilled steps x.0 v) it f.0)

pub every_fill_is_hit : EveryFillIsHit
every_fill_is_hit c n r value one is none =
    ap (hit r.key) (answered_in_time c n r value is none) ∙ ap (λ es. option_map (λ (e : Kept). e.1) (find (is_for r.key) es)) (take_first c.capacity (r.key, value) (others r.key c.entries) (omega arith))
    ∙ rw ((bytes_eq-Decides r.key r.key).1 refl) refl

-- within the capacity

abbrev Within : Cache → Type 0
Within c = IsValid bytes_eq (lru_cache c.entries c.capacity)

within_step : (c : Cache) (s : Step) → Within c → Within (after c s)
within_step c (Used key) h = valid_used (lru_cache c.entries c.capacity) key h
within_step c (Opened n key) h = h
within_step c (Answered n value) h = at (get c.waiting n)
  where
    fills : (r : LookUp) (o : Option Overtaking) → Within (option_map_or (λ (by : Overtaking). c) o (kept r.key value c))
    fills r None = valid_kept (lru_cache c.entries c.capacity) r.key value h
    fills r (Some by) = h

    at : (o : Option LookUp) → Within (option_map_or (λ (r : LookUp). closed n (filled r value c)) o c)
    at None = h
    at (Some r) = fills r r.overtaken
within_step c (Closed n) h = h
within_step c (Invalidated key by) h = valid_filter (lru_cache c.entries c.capacity) (λ (e : Kept). not (bytes_eq key e.0)) h
within_step c (Cleared p version) h = valid_filter (lru_cache c.entries c.capacity) (λ (e : Kept). not (is_in_partition p e.0)) h

within_steps : (steps : List Step) (c : Cache) → Within c → Within (all_after c steps)
within_steps [] c h = h
within_steps (s ∷ steps) c h = within_steps steps (after c s) (within_step c s h)

pub every_cache_is_within : EveryCacheIsWithin
unfolding IsDistinct
every_cache_is_within capacity steps one = let h = within_steps steps (new_cache capacity) (tt, omega arith, one) in (h.1, h.0)
