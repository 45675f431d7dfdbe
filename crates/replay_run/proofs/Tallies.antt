-- What messages more, and a call more, do to the tally of a run.
use Rattle.std.proofs.Common.{◌≡◌, ◌≢◌, ℕ, ◌+◌, ◌≤◌, Bool, true, false, cond, List, [], ◌∷◌, ◌++◌, length, Option, Some, None, pos, refl, ap, sym, ◌∙◌, subst, ◌⊎◌, ⊎_elim, inl, inr, arith, length-append}
use Rattle.std.specs.Prelude.{count_by}
use Rattle.std.specs.Option.{option_or}
use Rattle.std.proofs.lemmas.List.Folds.{find-append}
use Rattle.std.proofs.lemmas.List.Sums.{sum_by-cons, sum_by_push, count_by-le-length}
use Rattle.grid_base.specs.Errors.{partition_lost, wrong_target, migrating, want_of_memory}
use Rattle.grid_base.specs.declared.names.CallId.{CallId}
use Rattle.grid_base.specs.declared.calls.Request.{Request}
use Rattle.object_store.specs.Partitions.{Partition}
use Rattle.grid_base.specs.Objects.{Object}
use Rattle.partition_protocol.specs.Execution.{Executes, PartitionLost, WrongTarget, Migrating}
use Rattle.partition_protocol.specs.Events.{Outcome, NothingDone, Done, HeldAt, ReleasedAt, Refused, TookMessage, RowMadeAt, MoveIsRefused, ReopenIsRefused}
use Rattle.partition_protocol.proofs.Lists.{In, in_cases}
use Rattle.replay_run.specs.declared.tally.Reception.{Reception}
use Rattle.replay_run.specs.declared.tally.Reception.TheVariants.{Taken, Refused as WasRefused, OutOfMemory}
use Rattle.replay_run.specs.declared.tally.Tally.{Tally}
use Rattle.replay_run.specs.Tallies.{tallied, tallied_later, received}
use Rattle.replay_run.specs.Runs.{Run, Arrival, Waiter, Appended, At, waits, without, ending, arrived, refusal, refused_by}
use Rattle.replay_run.specs.Printing.{is_named}
use Rattle.replay_run.specs.Counts.{is_refusal_of, refusal_among, has_number, is_refused_with, is_of_row, is_of_memory, is_refused, is_out_of_memory}
use Rattle.replay_run.specs.Grids.{IsTally}
use Rattle.replay_run.proofs.Places.{same_call, same_call_refl}
use Rattle.replay_run.proofs.Trails.{find_some}
use Rattle.replay_run.proofs.Lookups.{find_none}
use Rattle.replay_run.proofs.TableChanges.{or_none}
use Rattle.replay_run.proofs.RunFacts.{RunOk, WaitersOk, id_name}
use Rattle.replay_run.proofs.Arriving.{MayCome, one_less}
use Rattle.replay_run.proofs.Refusals.{refusals_name_the_call}

-- lists

pub count_same : {X : Type 0} (p q : X → Bool) (xs : List X) → ((x : X) → In x xs → p x ≡ q x) → count_by p xs ≡ count_by q xs
count_same p q [] h = refl
count_same p q (x ∷ xs) h =
    let rest = count_same p q xs (λ y i. h y (inr i)) in
    let here = ap {B = ℕ} (λ b. cond b 1 0) (h x (inl refl)) in
    let left = sum_by-cons (λ y. cond (p y) 1 0) x xs in
    let right = sum_by-cons (λ y. cond (q y) 1 0) x xs in
    omega (arith, rest, here, left, right)

-- refusals

pub named_refusal : (id : CallId) (m : Appended) → is_refusal_of id m ≡ true → m.refuses ≡ Some id
named_refusal id m e = go m.refuses e
  where
    go : (o : Option CallId) → is_named id o ≡ true → o ≡ Some id
    go None s = absurd cc
    go (Some other) s = ap (λ c. Some c) (same_call other id s)

pub refusal_named : (id : CallId) (m : Appended) → m.refuses ≡ Some id → is_refusal_of id m ≡ true
refusal_named id m e = subst (λ o. is_named id o ≡ true) (sym e) (same_call_refl id)

-- messages more that don't refuse the call
pub refused_as_before : (ms more : List Appended) (id : CallId) → ((m : Appended) → In m more → m.refuses ≢ Some id) → refusal_among (ms ++ more) id ≡ refusal_among ms id
refused_as_before ms more id other =
    find-append (is_refusal_of id) ms more ∙ ap (λ o. option_or (refusal_among ms id) o) (find_none (is_refusal_of id) more (λ m i e. other m i (named_refusal id m e)))
    ∙ or_none (refusal_among ms id)

none_is_no_call : (m : Appended) (id : CallId) → m.refuses ≡ None → m.refuses ≢ Some id
none_is_no_call m id none e = let clash : None ≡ Some id = sym none ∙ e in cc

-- the calls among these that were refused with such numbers
abbrev pub refused_among : (ℕ → Bool) → List Appended → List Arrival → ℕ
refused_among test messages come = count_by (is_refused_with test messages) come

pub quiet_among : (test : ℕ → Bool) (ms more : List Appended) (come : List Arrival) → ((m : Appended) → In m more → m.refuses ≡ None) → refused_among test (ms ++ more) come ≡ refused_among test ms come
quiet_among test ms more come none =
    count_same (is_refused_with test (ms ++ more)) (is_refused_with test ms) come
    (λ a i. ap (has_number test) (refused_as_before ms more a.request.id (λ m j. none_is_no_call m a.request.id (none m j))))

-- one call more, of which the messages more are
pub called_among : (test : ℕ → Bool) (ms more : List Appended) (come : List Arrival) (a : Arrival) → ((b : Arrival) → In b come → b.request.id ≢ a.request.id) → refusal_among ms a.request.id ≡ None
    → ((m : Appended) → In m more → (m.refuses ≡ None) ⊎ (m.refuses ≡ Some a.request.id))
    → refused_among test (ms ++ more) (come ++ a ∷ []) ≡ refused_among test ms come + cond (is_refused_with test more a) 1 0
called_among test ms more come a apart unrefused only =
    let whole = sum_by_push (λ (b : Arrival). cond (is_refused_with test (ms ++ more) b) 1 0) come a in
    let before = count_same (is_refused_with test (ms ++ more)) (is_refused_with test ms) come (λ b i. ap (has_number test) (refused_as_before ms more b.request.id (other b i))) in
    let its = ap {B = ℕ} (λ o. cond (has_number test o) 1 0) (find-append (is_refusal_of a.request.id) ms more ∙ ap (λ o. option_or o (refusal_among more a.request.id)) unrefused) in
    omega (arith, whole, before, its)
  where
    other : (b : Arrival) → In b come → (m : Appended) → In m more → m.refuses ≢ Some b.request.id
    other b i m j e = ⊎_elim (λ none. none_is_no_call m b.request.id none e) (λ its. (let both : Some b.request.id ≡ Some a.request.id = sym e ∙ its in let same : b.request.id ≡ a.request.id = cc in apart b i same)) (only m j)

-- a call's own refusal

abbrev pub is_refusal : Reception → Bool
is_refusal WasRefused = true
is_refusal other = false

abbrev pub is_shortage : Reception → Bool
is_shortage OutOfMemory = true
is_shortage other = false

pub none_short : (ms : List Appended) → is_shortage (received ms) ≡ false
none_short [] = refl
none_short (m ∷ ms) = refl

module _ (id : CallId) (given : List Appended) (none : (m : Appended) → In m given → m.refuses ≡ None) where
  found_none : refusal_among given id ≡ None
  found_none = find_none (is_refusal_of id) given (λ m i e. none_is_no_call m id (none m i) (named_refusal id m e))

  -- none refuses it
  pub number_none : (test : ℕ → Bool) → has_number test (refusal_among given id) ≡ false
  number_none test = ap (has_number test) found_none

  -- the first refuses it
  pub number_first : (test : ℕ → Bool) (m : Appended) → m.refuses ≡ Some id → has_number test (refusal_among (m ∷ given) id) ≡ has_number test (Some m)
  number_first test m its = ap (λ b. has_number test (cond b (Some m) (refusal_among given id))) (refusal_named id m its)

module _ (line : ℕ) (request : Request) (given : List Appended) (none : (m : Appended) → In m given → m.refuses ≡ None) where
  pub row_number : (outcome : Outcome) → has_number is_of_row (refusal_among (refused_by line request outcome ++ given) request.id) ≡ is_refusal (received (refused_by line request outcome))
  row_number (Refused Executes) = number_none request.id given none is_of_row
  row_number (Refused (PartitionLost version)) = number_first request.id given none is_of_row (refusal line request (pos partition_lost) version) refl
  row_number (Refused (WrongTarget version)) = number_first request.id given none is_of_row (refusal line request (pos wrong_target) version) refl
  row_number (Refused (Migrating version)) = number_first request.id given none is_of_row (refusal line request (pos migrating) version) refl
  row_number NothingDone = number_none request.id given none is_of_row
  row_number Done = number_none request.id given none is_of_row
  row_number (HeldAt seen) = number_none request.id given none is_of_row
  row_number (ReleasedAt seen) = number_none request.id given none is_of_row
  row_number (TookMessage took) = number_none request.id given none is_of_row
  row_number (RowMadeAt version) = number_none request.id given none is_of_row
  row_number (MoveIsRefused why) = number_none request.id given none is_of_row
  row_number (ReopenIsRefused why) = number_none request.id given none is_of_row

  pub memory_number : (outcome : Outcome) → has_number is_of_memory (refusal_among (refused_by line request outcome ++ given) request.id) ≡ false
  memory_number (Refused Executes) = number_none request.id given none is_of_memory
  memory_number (Refused (PartitionLost version)) = number_first request.id given none is_of_memory (refusal line request (pos partition_lost) version) refl
  memory_number (Refused (WrongTarget version)) = number_first request.id given none is_of_memory (refusal line request (pos wrong_target) version) refl
  memory_number (Refused (Migrating version)) = number_first request.id given none is_of_memory (refusal line request (pos migrating) version) refl
  memory_number NothingDone = number_none request.id given none is_of_memory
  memory_number Done = number_none request.id given none is_of_memory
  memory_number (HeldAt seen) = number_none request.id given none is_of_memory
  memory_number (ReleasedAt seen) = number_none request.id given none is_of_memory
  memory_number (TookMessage took) = number_none request.id given none is_of_memory
  memory_number (RowMadeAt version) = number_none request.id given none is_of_memory
  memory_number (MoveIsRefused why) = number_none request.id given none is_of_memory
  memory_number (ReopenIsRefused why) = number_none request.id given none is_of_memory

module _ (line : ℕ) (request : Request) where
  abbrev excuse : Appended
  excuse = refusal line request (pos want_of_memory) 0

  pub excused_row : has_number is_of_row (refusal_among (refusal line request (pos want_of_memory) 0 ∷ []) request.id) ≡ false
  excused_row = number_first request.id [] (λ m i. absurd i) is_of_row excuse refl

  pub excused_memory : has_number is_of_memory (refusal_among (refusal line request (pos want_of_memory) 0 ∷ []) request.id) ≡ true
  excused_memory = number_first request.id [] (λ m i. absurd i) is_of_memory excuse refl

-- tallies

tallied_arrived : (reception : Reception) (t : Tally) → (tallied reception t).arrived ≡ t.arrived + 1
tallied_arrived Taken t = refl
tallied_arrived WasRefused t = refl
tallied_arrived OutOfMemory t = refl

tallied_refused : (reception : Reception) (t : Tally) → (tallied reception t).refused ≡ t.refused + cond (is_refusal reception) 1 0
tallied_refused Taken t = omega arith
tallied_refused WasRefused t = refl
tallied_refused OutOfMemory t = omega arith

tallied_memory : (reception : Reception) (t : Tally) → (tallied reception t).memory ≡ t.memory + cond (is_shortage reception) 1 0
tallied_memory Taken t = omega arith
tallied_memory WasRefused t = omega arith
tallied_memory OutOfMemory t = refl

later_refused : (reception : Reception) (t : Tally) → (tallied_later reception t).refused ≡ t.refused + cond (is_refusal reception) 1 0
later_refused Taken t = omega arith
later_refused WasRefused t = refl
later_refused OutOfMemory t = omega arith

later_memory : (reception : Reception) (t : Tally) → (tallied_later reception t).memory ≡ t.memory + cond (is_shortage reception) 1 0
later_memory Taken t = omega arith
later_memory WasRefused t = omega arith
later_memory OutOfMemory t = refl

later_arrived : (reception : Reception) (t : Tally) → (tallied_later reception t).arrived ≡ t.arrived
later_arrived Taken t = refl
later_arrived WasRefused t = refl
later_arrived OutOfMemory t = refl

-- Nothing arrives, and no message refuses a call.
pub quiet_tally : (t : Tally) (r next : Run) (more : List Appended) → next.arrivals ≡ r.arrivals → next.waiters ≡ r.waiters → next.appended ≡ r.appended ++ more → ((m : Appended) → In m more → m.refuses ≡ None) → IsTally t r → IsTally t next
quiet_tally t r next more come waiting said none h =
    record {
      arrived = h.arrived ∙ (λ i. length (sym come i) + length (sym waiting i));
      refused = h.refused ∙ sym (quiet_among is_of_row r.appended more r.arrivals none) ∙ (λ i. count_by (is_refused_with is_of_row (sym said i)) (sym come i));
      memory = h.memory ∙ sym (quiet_among is_of_memory r.appended more r.arrivals none) ∙ (λ i. count_by (is_refused_with is_of_memory (sym said i)) (sym come i));
    }

-- A call arrives and waits.
pub waiting_tally : (t : Tally) (r : Run) (w : Waiter) → IsTally t r → IsTally (tallied Taken t) (waits r w)
waiting_tally t r w h = record { arrived = let one = length-append r.waiters (w ∷ []) in let all = h.arrived in omega (arith, one, all); refused = h.refused; memory = h.memory }

-- no more calls are refused than arrived
pub tally_room : (t : Tally) (r : Run) → IsTally t r → (t.refused ≤ t.arrived) × (t.memory ≤ t.arrived)
tally_room t r h =
    let refused = count_by-le-length (is_refused r) r.arrivals in
    let memory = count_by-le-length (is_out_of_memory r) r.arrivals in
    let all = h.arrived in
    let its_refused = h.refused in
    let its_memory = h.memory in
    (omega (arith, refused, all, its_refused), omega (arith, memory, all, its_memory))

-- The tally but for how many arrived: that of a run with one call more, of which the messages more are.
pub record HasTallied (reception : Reception) (t : Tally) (next : Run) : Type 0 where
  pub refused : count_by (is_refused next) next.arrivals ≡ t.refused + cond (is_refusal reception) 1 0
  pub memory : count_by (is_out_of_memory next) next.arrivals ≡ t.memory + cond (is_shortage reception) 1 0

module _ {o : Object Request Partition} (r : Run) (ok : RunOk o r) (a : Arrival) (may : MayCome r a) (t : Tally) (rows : t.refused ≡ count_by (is_refused r) r.arrivals) (shortages : t.memory ≡ count_by (is_out_of_memory r) r.arrivals) where
  apart : (b : Arrival) → In b r.arrivals → b.request.id ≢ a.request.id
  apart b i same = may.fresh b i (ap id_name same)

  unrefused : refusal_among r.appended a.request.id ≡ None
  unrefused = go (refusal_among r.appended a.request.id) (λ m e. find_some (is_refusal_of a.request.id) r.appended m e)
    where
      go : (o : Option Appended) → ((m : Appended) → o ≡ Some m → In m r.appended × (is_refusal_of a.request.id m ≡ true)) → o ≡ None
      go None f = refl
      go (Some m) f =
          let there = f m refl in
          let from = ok.of_refusals.arrived m a.request.id there.0 (named_refusal a.request.id m there.1) in
          absurd (apart from.0 from.1 from.2)

  -- it is received so, where these messages more are of it
  received_so : (reception : Reception) (events : List At) (more : List Appended) → ((m : Appended) → In m more → (m.refuses ≡ None) ⊎ (m.refuses ≡ Some a.request.id))
      → has_number is_of_row (refusal_among more a.request.id) ≡ is_refusal reception → has_number is_of_memory (refusal_among more a.request.id) ≡ is_shortage reception
      → HasTallied reception t (arrived r a events more)
  received_so reception events more only row memory =
      let refused = called_among is_of_row r.appended more r.arrivals a apart unrefused only in
      let short = called_among is_of_memory r.appended more r.arrivals a apart unrefused only in
      let its_row = ap {B = ℕ} (λ b. cond b 1 0) row in
      let its_memory = ap {B = ℕ} (λ b. cond b 1 0) memory in
      record { refused = omega (arith, refused, its_row, rows); memory = omega (arith, short, its_memory, shortages) }

  pub called_so : (reception : Reception) (events : List At) (outcome : Outcome) (given : List Appended) → ((m : Appended) → In m given → m.refuses ≡ None)
      → reception ≡ received (refused_by a.made a.request outcome) → HasTallied reception t (arrived r a events (refused_by a.made a.request outcome ++ given))
  called_so reception events outcome given none so =
      received_so reception events (refused_by a.made a.request outcome ++ given)
      (λ m i. ⊎_elim (λ j. inr (refusals_name_the_call a.made a.request outcome m j)) (λ j. inl (none m j)) (in_cases m (refused_by a.made a.request outcome) given i))
      (row_number a.made a.request given none outcome ∙ ap is_refusal (sym so))
      (memory_number a.made a.request given none outcome ∙ sym (ap is_shortage so ∙ none_short (refused_by a.made a.request outcome)))

  pub skipped_so : (reception : Reception) → reception ≡ OutOfMemory → HasTallied reception t (arrived r a [] (refusal a.made a.request (pos want_of_memory) 0 ∷ []))
  skipped_so reception so =
      received_so reception [] (refusal a.made a.request (pos want_of_memory) 0 ∷ []) its
      (excused_row a.made a.request ∙ ap is_refusal (sym so)) (excused_memory a.made a.request ∙ ap is_shortage (sym so))
    where
      its : (m : Appended) → In m (refusal a.made a.request (pos want_of_memory) 0 ∷ []) → (m.refuses ≡ None) ⊎ (m.refuses ≡ Some a.request.id)
      its m (inl e) = inr (ap (λ (n : Appended). n.refuses) (sym e))
      its m (inr i) = absurd i

  pub left_so : HasTallied Taken t (arrived r a [] [])
  left_so = received_so Taken [] [] (λ m i. absurd i) refl refl

-- of a call that arrives
pub arrived_tally : (t : Tally) (r next : Run) (a : Arrival) (reception : Reception) → IsTally t r → next.arrivals ≡ r.arrivals ++ a ∷ [] → next.waiters ≡ r.waiters → HasTallied reception t next → IsTally (tallied reception t) next
arrived_tally t r next a reception h come waiting has =
    let all = h.arrived in
    let one = ap length come ∙ length-append r.arrivals (a ∷ []) in
    let same = ap length waiting in
    let its_refused = has.refused in
    let its_memory = has.memory in
    let first = tallied_arrived reception t in
    let second = tallied_refused reception t in
    let third = tallied_memory reception t in
    record { arrived = omega (arith, all, one, same, first); refused = omega (arith, its_refused, second); memory = omega (arith, its_memory, third) }

-- and of one that waited
pub ended_tally : (t : Tally) (r next : Run) (w : Waiter) (reception : Reception) → WaitersOk r → In w r.waiters → IsTally t r → next.arrivals ≡ r.arrivals ++ ending r w ∷ [] → next.waiters ≡ (without r w).waiters
    → HasTallied reception t next → IsTally (tallied_later reception t) next
ended_tally t r next w reception ok i h come waiting has =
    let all = h.arrived in
    let one = ap length come ∙ length-append r.arrivals (ending r w ∷ []) in
    let less = ap length waiting in
    let exactly = one_less r w ok i in
    let its_refused = has.refused in
    let its_memory = has.memory in
    let first = later_arrived reception t in
    let second = later_refused reception t in
    let third = later_memory reception t in
    record { arrived = omega (arith, all, one, less, exactly, first); refused = omega (arith, its_refused, second); memory = omega (arith, its_memory, third) }
