-- A line that is counted, and a call that is asked, keep what holds of arrivals.
use Rattle.std.proofs.Common.{◌≡◌, ◌≢◌, ℕ, ◌+◌, ◌≤◌, ◌<◌, Bool, true, false, cond, not, ◌==◌, List, [], ◌∷◌, ◌++◌, length, map, filter, None, Some, refl, ap, sym, ◌∙◌, subst, ◌⊎◌, ⊎_elim, inl, inr, arith, append-nil, append_assoc, true≢false}
use Rattle.std.proofs.lemmas.List.{map-append}
use Rattle.std.proofs.lemmas.List.Elements.{filter-append}
use Rattle.std.proofs.lemmas.Bool.Decides.{nat_tests}
use Rattle.std.specs.List.{find}
use Rattle.std.specs.Option.{option_map}
use Rattle.grid_base.specs.Objects.{Object}
use Rattle.grid_base.specs.Names.{is_same_call}
use Rattle.grid_base.specs.declared.names.CallId.{CallId}
use Rattle.grid_base.specs.declared.calls.Request.{Request}
use Rattle.partition_protocol.specs.Events.{Event}
use Rattle.partition_protocol.specs.Arrivals.{CallName, NamedOnce, asked_by, arrivals}
use Rattle.partition_protocol.proofs.RowFacts.{false_or_not}
use Rattle.partition_protocol.proofs.Lists.{In, in_cases, contains_in, IsPart, part_longer, part_both, cases}
use Rattle.partition_protocol.proofs.Faithful.{part_map, part_once}
use Rattle.replay_run.specs.Runs.{Run, Arrival, Waiter, Appended, Reopened, Connection, At, is_at, events_at, world_at, reopened_at, is_connection, connection_of, messages_on, updated, arrival_at, call_of, arrived, is_waiter, waits, without, ending}
use Rattle.replay_run.specs.ScriptRuns.{IsPlaced, IsNext}
use Rattle.replay_run.proofs.Parts.{in_map, in_mapped, in_filtered, part_filter, before_last, named_more}
use Rattle.replay_run.proofs.Places.{same_number, same_call, same_call_refl}
use Rattle.replay_run.proofs.Trails.{find_some}
use Rattle.replay_run.proofs.Stamps.{stamped_later}
use Rattle.replay_run.proofs.EventRuns.{events_at-append, is_other}
pub use Rattle.replay_run.proofs.Turns.{IsMade, its_event}
use Rattle.replay_run.proofs.RunFacts.{asked_of, arrival_name, waiter_name, id_name, is_of, ArrivalsOk, WaitersOk, AreApart, RunOk}

-- connections

pub find_front : {X : Type 0} (t : X → Bool) (xs ys : List X) (x : X) → find t xs ≡ Some x → find t (xs ++ ys) ≡ Some x
find_front t [] ys x e = absurd cc
find_front t (z ∷ zs) ys x e = go (t z) (λ s. find_front t zs ys x s) e
  where
    go : (b : Bool) → (find t zs ≡ Some x → find t (zs ++ ys) ≡ Some x) → cond b (Some z) (find t zs) ≡ Some x → cond b (Some z) (find t (zs ++ ys)) ≡ Some x
    go true f s = s
    go false f s = f s

-- what f leaves to the test as it was is found as before
pub find_map : {X : Type 0} (t : X → Bool) (f : X → X) (xs : List X) → ((x : X) → t (f x) ≡ t x) → find t (map f xs) ≡ option_map f (find t xs)
find_map t f [] same = refl
find_map t f (x ∷ xs) same = rw (same x) (go (t x) (find_map t f xs same))
  where
    go : (b : Bool) → find t (map f xs) ≡ option_map f (find t xs) → cond b (Some (f x)) (find t (map f xs)) ≡ option_map f (cond b (Some x) (find t xs))
    go true e = refl
    go false e = e

pub same_test : (a b : ℕ) → a ≡ b → (a == b) ≡ true
same_test a b e = grind (arith, nat_tests, e)

-- one connection in place of those of its number
abbrev pub in_place : Connection → Connection → Connection
in_place new old = cond (old.conn == new.conn) new old

pub in_place_number : (new old : Connection) → (in_place new old).conn ≡ old.conn
in_place_number new old = ⊎_elim (λ e. rw e (sym (same_number old.conn new.conn e))) (λ e. rw e refl) (cases (old.conn == new.conn))

pub updated_found : (new : Connection) (ks : List Connection) (c : ℕ) (k : Connection) → find (is_connection c) ks ≡ Some k → find (is_connection c) (updated new ks) ≡ Some (in_place new k)
updated_found new ks c k e = find_map (is_connection c) (in_place new) ks (λ x. ap (λ n. n == c) (in_place_number new x)) ∙ ap (option_map (in_place new)) e

-- the connections that arrivals came on are still there, and have no fewer messages
abbrev pub Grows : Run → List Connection → Type 0
Grows r ks = (c : ℕ) (k : Connection) → connection_of r c ≡ Some k → (j : Connection) × (find (is_connection c) ks ≡ Some j) × (length (messages_on k) ≤ length (messages_on j))

pub opened_grows : (r : Run) (new : Connection) → Grows r (r.connections ++ new ∷ [])
opened_grows r new c k e = (k, find_front (is_connection c) r.connections (new ∷ []) k e, omega arith)

pub updated_grows : (r : Run) (old new : Connection) → connection_of r old.conn ≡ Some old → new.conn ≡ old.conn → length (messages_on old) ≤ length (messages_on new) → Grows r (updated new r.connections)
updated_grows r old new there same more c k e = (in_place new k, updated_found new r.connections c k e, ⊎_elim replaced (λ f. rw f (omega arith)) (cases (k.conn == new.conn)))
  where
    replaced : (k.conn == new.conn) ≡ true → length (messages_on k) ≤ length (messages_on (in_place new k))
    replaced f =
        let number : k.conn ≡ c = same_number k.conn c (find_some (is_connection c) r.connections k e).1 in
        let at_old : connection_of r c ≡ Some old = ap (connection_of r) (sym number ∙ same_number k.conn new.conn f ∙ same) ∙ there in
        let found : Some k ≡ Some old = sym e ∙ at_old in
        let one : k ≡ old = cc in
        let messages = ap (λ (j : Connection). length (messages_on j)) one in
        rw f (omega (arith, messages, more))

-- numbers stay apart

pub apart_opened : (ks : List Connection) (new : Connection) → AreApart ks → find (is_connection new.conn) ks ≡ None → AreApart (ks ++ new ∷ [])
apart_opened [] new apart none = (λ j i. absurd i, tt)
apart_opened (k ∷ ks) new apart none = ⊎_elim (λ e. absurd (let found : Some k ≡ None = rw e at none in cc)) (λ e. other e (apart_opened ks new apart.1 (rw e at none))) (cases (k.conn == new.conn))
  where
    other : (k.conn == new.conn) ≡ false → AreApart (ks ++ new ∷ []) → AreApart (k ∷ ks ++ new ∷ [])
    other e rest = (λ j i. ⊎_elim (λ l. apart.0 j l) last (in_cases j ks (new ∷ []) i), rest)
      where
        last : {j : Connection} → In j (new ∷ []) → j.conn ≢ k.conn
        last (inl s) n = absurd (true≢false (sym (same_test k.conn new.conn (sym n ∙ ap (λ (c : Connection). c.conn) (sym s))) ∙ e))
        last (inr l) n = absurd l

pub apart_updated : (ks : List Connection) (new : Connection) → AreApart ks → AreApart (updated new ks)
apart_updated [] new apart = tt
apart_updated (k ∷ ks) new apart = (λ j i. away j (in_mapped (in_place new) ks j i), apart_updated ks new apart.1)
  where
    away : (j : Connection) → (x : Connection) × In x ks × (in_place new x ≡ j) → j.conn ≢ (in_place new k).conn
    away j (x, i, e) s = apart.0 x i (sym (in_place_number new x) ∙ ap (λ (c : Connection). c.conn) e ∙ s ∙ in_place_number new k)

-- a line is counted, which may set a clock
pub quiet : {State : Type 0} (o : Object Request State) (r : Run) (moments : List ℕ) (ks : List Connection) → RunOk o r → AreApart ks → Grows r ks
    → RunOk o (record r { lines = r.lines + 1; moments = moments; connections = ks })
quiet o r moments ks ok apart grows = record {
  members = ok.members;
  connections = apart;
  of_arrivals = record {
    placed = ok.of_arrivals.placed;
    once = ok.of_arrivals.once;
    counted = λ a i. let k = ok.of_arrivals.counted a i in let j = grows a.request.id.conn k.0 k.1 in (j.0, j.1, omega (arith, k.2, j.2));
    rising = ok.of_arrivals.rising;
    of_line = ok.of_arrivals.of_line;
    later = ok.of_arrivals.later;
    by_now = λ a i. let l = ok.of_arrivals.by_now a i in omega (arith, l);
    calls = ok.of_arrivals.calls;
  };
  of_waiters = record {
    placed = ok.of_waiters.placed;
    once = ok.of_waiters.once;
    apart = ok.of_waiters.apart;
    counted = λ w i. let k = ok.of_waiters.counted w i in let j = grows w.request.id.conn k.0 k.1 in (j.0, j.1, omega (arith, k.2, j.2));
    of_line = ok.of_waiters.of_line;
    of_one_line = ok.of_waiters.of_one_line;
    by_now = λ w i. let l = ok.of_waiters.by_now w i in omega (arith, l);
  };
  of_answers = record { given = ok.of_answers.given; once = ok.of_answers.once };
  of_refusals = record { arrived = ok.of_refusals.arrived; unexecuted = ok.of_refusals.unexecuted };
  of_reopenings = record {
    stamped = λ p. stamped_later r.arrivals r.arrivals 0 r.lines (r.lines + 1) (reopened_at p r.reopened) (world_at o r p).recorded.log (λ a i. i) (omega arith) (ok.of_reopenings.stamped p);
  };
}

-- What is appended, reopened or given up leaves what holds of arrivals, and so do events that bring no other calls.
pub arrivals_stay : (r : Run) (events : List At) (appended : List Appended) (reopened : List Reopened) (full : Bool) → ArrivalsOk r → ((p : ℕ) → IsPart (arrivals (events_at p events)) (map asked_of (filter (is_of p) r.arrivals)))
    → ArrivalsOk (record r { events = events; appended = appended; reopened = reopened; full = full })
arrivals_stay r events appended reopened full ok calls = record {
  placed = ok.placed;
  once = ok.once;
  counted = ok.counted;
  rising = ok.rising;
  of_line = ok.of_line;
  later = ok.later;
  by_now = ok.by_now;
  calls = calls;
}

pub waiters_stay : (r : Run) (events : List At) (appended : List Appended) (reopened : List Reopened) (full : Bool) → WaitersOk r → WaitersOk (record r { events = events; appended = appended; reopened = reopened; full = full })
waiters_stay r events appended reopened full ok = record {
  placed = ok.placed;
  once = ok.once;
  apart = ok.apart;
  counted = ok.counted;
  of_line = ok.of_line;
  of_one_line = ok.of_one_line;
  by_now = ok.by_now;
}

-- events

pub arrivals-append : {C : Type 0} (es fs : List (Event C)) → arrivals (es ++ fs) ≡ arrivals es ++ arrivals fs
arrivals-append [] fs = refl
arrivals-append (e ∷ es) fs = ap (λ ks. asked_by e ++ ks) (arrivals-append es fs) ∙ sym (append_assoc (asked_by e) (arrivals es) (arrivals fs))

-- an element that may be there
abbrev pub maybe_one : {X : Type 0} → Bool → X → List X
maybe_one b x = cond b (x ∷ []) []

pub map-maybe_one : {X Y : Type 0} (f : X → Y) (b : Bool) (x : X) → map f (maybe_one b x) ≡ maybe_one b (f x)
map-maybe_one f true x = refl
map-maybe_one f false x = refl

pub part_maybe : {X : Type 0} (xs ys : List X) (b : Bool) (y : X) → IsPart xs ys → IsPart xs (ys ++ maybe_one b y)
part_maybe xs ys true y h = part_longer xs ys y h
part_maybe xs ys false y h = rw (append-nil ys) h

pub part_maybe_both : {X : Type 0} (xs ys : List X) (b : Bool) (y : X) → IsPart xs ys → IsPart (xs ++ maybe_one b y) (ys ++ maybe_one b y)
part_maybe_both xs ys true y h = part_both xs ys y h
part_maybe_both xs ys false y h = rw (append-nil xs, append-nil ys) h

-- a call

-- the partition's arrivals with one more
pub arrivals_of_more : (p : ℕ) (come : List Arrival) (a : Arrival)
    → map asked_of (filter (is_of p) (come ++ a ∷ [])) ≡ map asked_of (filter (is_of p) come) ++ maybe_one (is_of p a) (asked_of a)
arrivals_of_more p come a =
    ap (map asked_of) (filter-append (is_of p) come (a ∷ [])) ∙ map-append asked_of (filter (is_of p) come) (maybe_one (is_of p a) a)
    ∙ ap (λ ks. map asked_of (filter (is_of p) come) ++ ks) (map-maybe_one asked_of (is_of p a) a)

-- the partition's events with one more
pub events_with_one : (p : ℕ) (es : List At) (e : At) → events_at p (es ++ e ∷ []) ≡ events_at p es ++ maybe_one (is_at p e) e.event
events_with_one p es e = events_at-append p es (e ∷ []) ∙ ap (λ fs. events_at p es ++ fs) (map-maybe_one (λ (f : At). f.event) (is_at p e) e)

-- and with that of a call
pub events_of_more : (p : ℕ) (es : List At) (a : Arrival) → events_at p (es ++ its_event a ∷ []) ≡ events_at p es ++ maybe_one (is_of p a) (call_of a)
events_of_more p es a = events_with_one p es (its_event a)

pub asked_of_maybe : (b : Bool) (a : Arrival) → arrivals (maybe_one b (call_of a)) ≡ maybe_one b (asked_of a)
asked_of_maybe true a = refl
asked_of_maybe false a = refl

pub calls_of_more : (p : ℕ) (es : List At) (a : Arrival) → arrivals (events_at p (es ++ its_event a ∷ [])) ≡ arrivals (events_at p es) ++ maybe_one (is_of p a) (asked_of a)
calls_of_more p es a =
    ap arrivals (events_of_more p es a) ∙ arrivals-append (events_at p es) (maybe_one (is_of p a) (call_of a))
    ∙ ap (λ ks. arrivals (events_at p es) ++ ks) (asked_of_maybe (is_of p a) a)

-- A call may come next among the arrivals: its name is new, and it is of its line and connection.
pub record MayCome (r : Run) (a : Arrival) : Type 0 where
  pub placed : IsPlaced a.request
  pub counted : (k : Connection) × (connection_of r a.request.id.conn ≡ Some k) × (a.request.id.number < length (messages_on k))
  pub fresh : (b : Arrival) → In b r.arrivals → arrival_name b ≢ arrival_name a
  pub apart : (w : Waiter) → In w r.waiters → arrival_name a ≢ waiter_name w
  pub rising : (b : Arrival) → In b r.arrivals → a.waits ≡ false → b.request.id.conn ≡ a.request.id.conn → b.request.id.number < a.request.id.number
  pub of_line : (b : Arrival) → In b r.arrivals → b.line ≡ a.line → b.request.id.conn ≡ a.request.id.conn
  pub waiters_of_line : (w : Waiter) → In w r.waiters → a.line ≡ w.line → a.request.id.conn ≡ w.request.id.conn
  pub later : a.line ≤ a.made
  pub now : a.made ≡ r.lines

-- So may one that arrives now.
pub arrives_now : (r : Run) (member : ℕ) (request : Request) → IsNext r request → MayCome r (arrival_at r member request)
arrives_now r member request next = record {
  placed = next.placed;
  counted = (next.connection, ap (connection_of r) next.on ∙ next.may.there, next.complete);
  fresh = λ b i e. after b i (ap (λ (n : CallName). n.conn) e) (ap (λ (n : CallName). n.number) e);
  apart = λ w i e. after_waiter w i (ap (λ (n : CallName). n.conn) (sym e)) (ap (λ (n : CallName). n.number) (sym e));
  rising = λ b i quiet e. next.may.after b (contains_in b r.arrivals i) (e ∙ next.on);
  of_line = λ b i e. next.may.of_line b (contains_in b r.arrivals i) e ∙ sym next.on;
  waiters_of_line = λ w i e. next.on ∙ sym (next.may.waiters_of_line w (contains_in w r.waiters i) (sym e));
  later = omega arith;
  now = refl;
}
  where
    after : (b : Arrival) → In b r.arrivals → b.request.id.conn ≡ request.id.conn → b.request.id.number ≢ request.id.number
    after b i conn number = let before = next.may.after b (contains_in b r.arrivals i) (conn ∙ next.on) in omega (arith, number, before)

    after_waiter : (w : Waiter) → In w r.waiters → w.request.id.conn ≡ request.id.conn → w.request.id.number ≢ request.id.number
    after_waiter w i conn number = let before = next.may.after_waiters w (contains_in w r.waiters i) (conn ∙ next.on) in omega (arith, number, before)

module _ (r : Run) (ok : ArrivalsOk r) (a : Arrival) (may : MayCome r a) where
  pub calls_with : (p : ℕ) (events : List At) → IsMade a events → IsPart (arrivals (events_at p (r.events ++ events))) (map asked_of (filter (is_of p) (r.arrivals ++ a ∷ [])))
  calls_with p events (inl e) =
      subst (λ ks. IsPart (arrivals (events_at p (r.events ++ events))) ks) (sym (arrivals_of_more p r.arrivals a))
      (subst (λ es. IsPart (arrivals (events_at p es)) (map asked_of (filter (is_of p) r.arrivals) ++ maybe_one (is_of p a) (asked_of a))) (sym (ap (λ fs. r.events ++ fs) e ∙ append-nil r.events))
      (part_maybe (arrivals (events_at p r.events)) (map asked_of (filter (is_of p) r.arrivals)) (is_of p a) (asked_of a) (ok.calls p)))
  calls_with p events (inr e) =
      subst (λ ks. IsPart (arrivals (events_at p (r.events ++ events))) ks) (sym (arrivals_of_more p r.arrivals a))
      (subst (λ es. IsPart es (map asked_of (filter (is_of p) r.arrivals) ++ maybe_one (is_of p a) (asked_of a))) (sym (ap (λ fs. arrivals (events_at p (r.events ++ fs))) e ∙ calls_of_more p r.events a))
      (part_maybe_both (arrivals (events_at p r.events)) (map asked_of (filter (is_of p) r.arrivals)) (is_of p a) (asked_of a) (ok.calls p)))

  pub arrivals_with : (events : List At) (appended : List Appended) → IsMade a events → ArrivalsOk (arrived r a events appended)
  arrivals_with events appended h = record {
    placed = λ b i. ⊎_elim (ok.placed b) last_placed (in_cases b r.arrivals (a ∷ []) i);
    once = named_more arrival_name r.arrivals a ok.once may.fresh;
    counted = λ b i. ⊎_elim (ok.counted b) last_counted (in_cases b r.arrivals (a ∷ []) i);
    rising = λ b c i. ⊎_elim (ok.rising b c) (last_number b c) (before_last r.arrivals a b c i);
    of_line = λ b c i j. with_last b c (in_cases b r.arrivals (a ∷ []) i) (in_cases c r.arrivals (a ∷ []) j);
    later = λ b i. ⊎_elim (ok.later b) (last_later b) (in_cases b r.arrivals (a ∷ []) i);
    by_now = λ b i. ⊎_elim (ok.by_now b) (last_now b) (in_cases b r.arrivals (a ∷ []) i);
    calls = λ p. calls_with p events h;
  }
    where
      last_placed : {b : Arrival} → In b (a ∷ []) → IsPlaced b.request
      last_placed (inl e) = subst (λ (c : Arrival). IsPlaced c.request) e may.placed
      last_placed (inr i) = absurd i

      last_counted : {b : Arrival} → In b (a ∷ []) → (k : Connection) × (connection_of r b.request.id.conn ≡ Some k) × (b.request.id.number < length (messages_on k))
      last_counted (inl e) = subst (λ (c : Arrival). (k : Connection) × (connection_of r c.request.id.conn ≡ Some k) × (c.request.id.number < length (messages_on k))) e may.counted
      last_counted (inr i) = absurd i

      last_number : (b c : Arrival) → In b r.arrivals × (a ≡ c) → b.waits ≡ false → c.waits ≡ false → b.request.id.conn ≡ c.request.id.conn → b.request.id.number < c.request.id.number
      last_number b c (i, e) quiet quiet_too s =
          let before = may.rising b i (ap (λ (d : Arrival). d.waits) e ∙ quiet_too) (s ∙ ap (λ (d : Arrival). d.request.id.conn) (sym e)) in
          let number = ap (λ (d : Arrival). d.request.id.number) e in
          omega (arith, before, number)

      -- an earlier call of its line
      earlier : (b : Arrival) → In b r.arrivals → b.line ≡ a.line → b.request.id.conn ≡ a.request.id.conn
      earlier b i s = may.of_line b i s

      with_last : (b c : Arrival) → In b r.arrivals ⊎ In b (a ∷ []) → In c r.arrivals ⊎ In c (a ∷ []) → b.line ≡ c.line → b.request.id.conn ≡ c.request.id.conn
      with_last b c (inl i) (inl j) s = ok.of_line b c i j s
      with_last b c (inl i) (inr (inl e)) s = earlier b i (s ∙ ap (λ (d : Arrival). d.line) (sym e)) ∙ ap (λ (d : Arrival). d.request.id.conn) e
      with_last b c (inl i) (inr (inr j)) s = absurd j
      with_last b c (inr (inl e)) (inl j) s = ap (λ (d : Arrival). d.request.id.conn) (sym e) ∙ sym (earlier c j (sym s ∙ ap (λ (d : Arrival). d.line) (sym e)))
      with_last b c (inr (inr i)) (inl j) s = absurd i
      with_last b c (inr (inl e)) (inr (inl f)) s = ap (λ (d : Arrival). d.request.id.conn) (sym e ∙ f)
      with_last b c (inr (inl e)) (inr (inr j)) s = absurd j
      with_last b c (inr (inr i)) (inr j) s = absurd i

      last_later : (b : Arrival) → In b (a ∷ []) → b.line ≤ b.made
      last_later b (inl e) = subst (λ (d : Arrival). d.line ≤ d.made) e may.later
      last_later b (inr i) = absurd i

      last_now : (b : Arrival) → In b (a ∷ []) → b.made ≤ r.lines
      last_now b (inl e) = let made = ap (λ (d : Arrival). d.made) e in let now = may.now in omega (arith, made, now)
      last_now b (inr i) = absurd i

-- Those who wait are apart from it.
pub waiters_with : (r : Run) → WaitersOk r → (a : Arrival) → MayCome r a → (events : List At) (appended : List Appended) → WaitersOk (arrived r a events appended)
waiters_with r ok a may events appended = record {
  placed = ok.placed;
  once = ok.once;
  apart = λ b w i j. ⊎_elim (λ k. ok.apart b w k j) (λ k. last_apart b w k j) (in_cases b r.arrivals (a ∷ []) i);
  counted = ok.counted;
  of_line = λ b w i j. ⊎_elim (λ k. ok.of_line b w k j) (λ k. last_line b w k j) (in_cases b r.arrivals (a ∷ []) i);
  of_one_line = ok.of_one_line;
  by_now = ok.by_now;
}
  where
    last_apart : (b : Arrival) (w : Waiter) → In b (a ∷ []) → In w r.waiters → arrival_name b ≢ waiter_name w
    last_apart b w (inl e) j s = may.apart w j (ap arrival_name e ∙ s)
    last_apart b w (inr i) j s = absurd i

    last_line : (b : Arrival) (w : Waiter) → In b (a ∷ []) → In w r.waiters → b.line ≡ w.line → b.request.id.conn ≡ w.request.id.conn
    last_line b w (inl e) j s = ap (λ (c : Arrival). c.request.id.conn) (sym e) ∙ may.waiters_of_line w j (ap (λ (c : Arrival). c.line) e ∙ s)
    last_line b w (inr i) j s = absurd i

-- who waits

-- one more
pub waiter_more : (r : Run) → WaitersOk r → (w : Waiter) → IsNext r w.request → w.line ≡ r.lines → WaitersOk (waits r w)
waiter_more r ok w next at = record {
  placed = λ v i. ⊎_elim (ok.placed v) last_placed (in_cases v r.waiters (w ∷ []) i);
  once = named_more waiter_name r.waiters w ok.once fresh;
  apart = λ a v i j. ⊎_elim (ok.apart a v i) (last_apart a v i) (in_cases v r.waiters (w ∷ []) j);
  counted = λ v i. ⊎_elim (ok.counted v) last_counted (in_cases v r.waiters (w ∷ []) i);
  of_line = λ a v i j. ⊎_elim (ok.of_line a v i) (last_line a v i) (in_cases v r.waiters (w ∷ []) j);
  of_one_line = λ u v i j. both u v (in_cases u r.waiters (w ∷ []) i) (in_cases v r.waiters (w ∷ []) j);
  by_now = λ v i. ⊎_elim (ok.by_now v) (last_now v) (in_cases v r.waiters (w ∷ []) i);
}
  where
    may : MayCome r (arrival_at r w.member w.request)
    may = arrives_now r w.member w.request next

    fresh : (v : Waiter) → In v r.waiters → waiter_name v ≢ waiter_name w
    fresh v i e = may.apart v i (sym e)

    last_placed : {v : Waiter} → In v (w ∷ []) → IsPlaced v.request
    last_placed (inl e) = subst (λ (v : Waiter). IsPlaced v.request) e next.placed
    last_placed (inr i) = absurd i

    last_counted : {v : Waiter} → In v (w ∷ []) → (k : Connection) × (connection_of r v.request.id.conn ≡ Some k) × (v.request.id.number < length (messages_on k))
    last_counted (inl e) = subst (λ (v : Waiter). (k : Connection) × (connection_of r v.request.id.conn ≡ Some k) × (v.request.id.number < length (messages_on k))) e may.counted
    last_counted (inr i) = absurd i

    last_apart : (a : Arrival) (v : Waiter) → In a r.arrivals → In v (w ∷ []) → arrival_name a ≢ waiter_name v
    last_apart a v i (inl e) s = may.fresh a i (s ∙ ap waiter_name (sym e))
    last_apart a v i (inr j) s = absurd j

    last_line : (a : Arrival) (v : Waiter) → In a r.arrivals → In v (w ∷ []) → a.line ≡ v.line → a.request.id.conn ≡ v.request.id.conn
    last_line a v i (inl e) s = may.of_line a i (s ∙ ap (λ (u : Waiter). u.line) (sym e) ∙ at) ∙ ap (λ (u : Waiter). u.request.id.conn) e
    last_line a v i (inr j) s = absurd j

    -- one of its line
    its_line : (v : Waiter) → In v r.waiters → w.line ≡ v.line → w.request.id.conn ≡ v.request.id.conn
    its_line v i s = may.waiters_of_line v i (sym at ∙ s)

    both : (u v : Waiter) → In u r.waiters ⊎ In u (w ∷ []) → In v r.waiters ⊎ In v (w ∷ []) → u.line ≡ v.line → u.request.id.conn ≡ v.request.id.conn
    both u v (inl i) (inl j) s = ok.of_one_line u v i j s
    both u v (inl i) (inr (inl e)) s = sym (its_line u i (ap (λ (x : Waiter). x.line) e ∙ sym s)) ∙ ap (λ (x : Waiter). x.request.id.conn) e
    both u v (inl i) (inr (inr j)) s = absurd j
    both u v (inr (inl e)) (inl j) s = ap (λ (x : Waiter). x.request.id.conn) (sym e) ∙ its_line v j (ap (λ (x : Waiter). x.line) e ∙ s)
    both u v (inr (inr i)) (inl j) s = absurd i
    both u v (inr (inl e)) (inr (inl f)) s = ap (λ (x : Waiter). x.request.id.conn) (sym e ∙ f)
    both u v (inr (inl e)) (inr (inr j)) s = absurd j
    both u v (inr (inr i)) (inr j) s = absurd i

    last_now : (v : Waiter) → In v (w ∷ []) → v.line ≤ r.lines
    last_now v (inl e) = let line = ap (λ (x : Waiter). x.line) e in omega (arith, line, at)
    last_now v (inr i) = absurd i

-- one less

-- whoever is left waited, and isn't that one
pub in_without : (r : Run) (w v : Waiter) → In v (without r w).waiters → In v r.waiters × (is_waiter w.request.id v ≡ false)
in_without r w v i = let k = in_filtered (is_other w) r.waiters v i in (k.0, other (is_waiter w.request.id v) k.1)
  where
    other : (b : Bool) → not b ≡ true → b ≡ false
    other true e = absurd cc
    other false e = refl

-- The list is shorter by just that one, since no other has its name.
pub one_less : (r : Run) (w : Waiter) → WaitersOk r → In w r.waiters → length (without r w).waiters + 1 ≡ length r.waiters
one_less r w ok i = go r.waiters ok.once i
  where
    itself : is_waiter w.request.id w ≡ true
    itself = same_call_refl w.request.id

    others : (vs : List Waiter) → ((v : Waiter) → In v vs → is_waiter w.request.id v ≡ false) → filter (is_other w) vs ≡ vs
    others [] h = refl
    others (v ∷ vs) h = let here = ap not (h v (inl refl)) in let rest = others vs (λ u j. h u (inr j)) in rw (here, rest) refl

    go : (ws : List Waiter) → NamedOnce (map waiter_name ws) → In w ws → length (filter (is_other w) ws) + 1 ≡ length ws
    go [] once j = absurd j
    go (v ∷ vs) once (inl e) =
        let gone : is_other w v ≡ false = ap not (subst (λ (x : Waiter). is_waiter w.request.id x ≡ true) (sym e) itself) in
        let stay = others vs (λ u j. false_or_not (is_waiter w.request.id u) (λ s.
        (let id = same_call u.request.id w.request.id s in
        once.0 (waiter_name u) (contains_in (waiter_name u) (map waiter_name vs) (in_map waiter_name vs u j)) (ap id_name id ∙ ap waiter_name (sym e))))) in
        rw (gone, stay) (omega arith)
    go (v ∷ vs) once (inr j) =
        let rest = go vs once.1 j in
        let stays : is_other w v ≡ true = ap not (false_or_not (is_waiter w.request.id v) (λ s.
        (let id = same_call v.request.id w.request.id s in
        once.0 (waiter_name w) (contains_in (waiter_name w) (map waiter_name vs) (in_map waiter_name vs w j)) (ap id_name (sym id))))) in
        rw stays (omega (arith, rest))

pub waiters_without : (r : Run) (w : Waiter) → WaitersOk r → WaitersOk (without r w)
waiters_without r w ok = record {
  placed = λ v i. ok.placed v (in_without r w v i).0;
  once = part_once (map waiter_name (filter (is_other w) r.waiters)) (map waiter_name r.waiters) (part_map waiter_name (filter (is_other w) r.waiters) r.waiters (part_filter (is_other w) r.waiters)) ok.once;
  apart = λ a v i j. ok.apart a v i (in_without r w v j).0;
  counted = λ v i. ok.counted v (in_without r w v i).0;
  of_line = λ a v i j. ok.of_line a v i (in_without r w v j).0;
  of_one_line = λ u v i j. ok.of_one_line u v (in_without r w u i).0 (in_without r w v j).0;
  by_now = λ v i. ok.by_now v (in_without r w v i).0;
}

pub without_ok : {State : Type 0} (o : Object Request State) (r : Run) (w : Waiter) → RunOk o r → RunOk o (without r w)
without_ok o r w ok = record {
  members = ok.members;
  connections = ok.connections;
  of_arrivals = record {
    placed = ok.of_arrivals.placed;
    once = ok.of_arrivals.once;
    counted = ok.of_arrivals.counted;
    rising = ok.of_arrivals.rising;
    of_line = ok.of_arrivals.of_line;
    later = ok.of_arrivals.later;
    by_now = ok.of_arrivals.by_now;
    calls = ok.of_arrivals.calls;
  };
  of_waiters = waiters_without r w ok.of_waiters;
  of_answers = record { given = ok.of_answers.given; once = ok.of_answers.once };
  of_refusals = record { arrived = ok.of_refusals.arrived; unexecuted = ok.of_refusals.unexecuted };
  of_reopenings = record { stamped = ok.of_reopenings.stamped };
}

-- And the one that leaves may come among the arrivals.
pub comes_later : {State : Type 0} (o : Object Request State) (r : Run) (w : Waiter) → RunOk o r → In w r.waiters → MayCome (without r w) (ending r w)
comes_later o r w ok i = record {
  placed = ok.of_waiters.placed w i;
  counted = ok.of_waiters.counted w i;
  fresh = λ b j. ok.of_waiters.apart b w j i;
  apart = λ v j e. let k = in_without r w v j in true≢false (sym (same_name v e) ∙ k.1);
  rising = λ b j quiet e. absurd (true≢false quiet);
  of_line = λ b j e. ok.of_waiters.of_line b w j i e;
  waiters_of_line = λ v j e. ok.of_waiters.of_one_line w v i (in_without r w v j).0 e;
  later = ok.of_waiters.by_now w i;
  now = refl;
}
  where
    same_name : (v : Waiter) → waiter_name w ≡ waiter_name v → is_waiter w.request.id v ≡ true
    same_name v e =
        let id : v.request.id ≡ w.request.id = ap (λ (n : CallName). record { conn = n.conn; number = n.number }) (sym e) in
        subst (λ (c : CallId). is_same_call v.request.id c ≡ true) id (same_call_refl v.request.id)
