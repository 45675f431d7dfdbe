-- No call is refused twice, so that a run in which no call is counted for want of memory tells of no skip.
use Rattle.std.proofs.Common.{◌≡◌, ◌≢◌, ℕ, Bool, true, false, cond, List, [], ◌∷◌, ◌++◌, Option, Some, None, pos, refl, ap, sym, ◌∙◌, ◌⊎◌, ⊎_elim, inl, inr, arith}
use Rattle.std.specs.Prelude.{count_by, Contains}
use Rattle.std.specs.List.{find}
use Rattle.std.proofs.lemmas.List.Sums.{sum_by-cons}
use Rattle.grid_base.specs.Errors.{partition_lost, wrong_target, migrating, want_of_memory}
use Rattle.fixed_fields.specs.Responses.{error_bytes}
use Rattle.grid_base.specs.declared.names.CallId.{CallId}
use Rattle.grid_base.specs.declared.calls.Request.{Request}
use Rattle.grid_base.specs.Objects.{Object}
use Rattle.object_store.specs.Partitions.{Partition}
use Rattle.partition_protocol.specs.World.{World}
use Rattle.partition_protocol.specs.Execution.{Reached, Executes, PartitionLost, WrongTarget, Migrating}
use Rattle.partition_protocol.specs.Events.{Happened, Outcome, Refused, NothingDone, Done, HeldAt, ReleasedAt, TookMessage, RowMadeAt, MoveIsRefused, ReopenIsRefused, happens}
use Rattle.partition_protocol.proofs.Lists.{In, in_cases, in_contains, on_if}
use Rattle.replay_run.specs.Runs.{Run, Arrival, Waiter, Appended, arrival_at, own_answer, refusal, refused_at, refused_by, is_skipped, call_of, messages_by, happening, world_at, without, ending, arrived, asked, taker_of, given_out}
use Rattle.replay_run.specs.ScriptRuns.{IsRun, grid_begun, line_counted, clock_was_set, connection_opened, bytes_taken, listener_was_registered, answer_told, event_occurred, call_arrived, run_given_up, call_asked, waiter_came, waiter_asked, waiter_refused, waiter_left}
use Rattle.replay_run.specs.SkippedCalls.{IsTold, TellsOfNoSkip}
use Rattle.replay_run.specs.Counts.{is_refusal_of, has_number, is_of_memory, error_number, is_out_of_memory}
use Rattle.replay_run.proofs.Releasing.{messages_refuse_none, given_refuse_none}
use Rattle.replay_run.proofs.RunFacts.{RunOk, id_name}
use Rattle.replay_run.proofs.Arriving.{MayCome, arrives_now, without_ok, comes_later, its_event}
use Rattle.replay_run.proofs.Refusals.{refusals_name_the_call}
use Rattle.replay_run.proofs.RunsOfLines.{run_ok}
use Rattle.replay_run.proofs.Tallies.{named_refusal, refusal_named}
use Rattle.replay_run.proofs.Trails.{find_some}

-- of messages that refuse the same call there is one
abbrev RefusedOnce : List Appended → Type 0
RefusedOnce ms = (m n : Appended) (id : CallId) → In m ms → In n ms → m.refuses ≡ Some id → n.refuses ≡ Some id → m ≡ n

refuses_none : (m : Appended) (id : CallId) → m.refuses ≡ None → m.refuses ≢ Some id
refuses_none m id none e = let clash : None ≡ Some id = sym none ∙ e in cc

-- messages more

with_more : (ms more : List Appended) → RefusedOnce ms → RefusedOnce more → ((m n : Appended) (id : CallId) → In m ms → In n more → m.refuses ≡ Some id → n.refuses ≢ Some id) → RefusedOnce (ms ++ more)
with_more ms more old new apart m n id i j e f = go (in_cases m ms more i) (in_cases n ms more j)
  where
    go : In m ms ⊎ In m more → In n ms ⊎ In n more → m ≡ n
    go (inl a) (inl b) = old m n id a b e f
    go (inl a) (inr b) = absurd (apart m n id a b e f)
    go (inr a) (inl b) = absurd (apart n m id b a f e)
    go (inr a) (inr b) = new m n id a b e f

-- that refuse nothing
with_quiet : (ms more : List Appended) → RefusedOnce ms → ((m : Appended) → In m more → m.refuses ≡ None) → RefusedOnce (ms ++ more)
with_quiet ms more old none =
    with_more ms more old (λ m n id i j e f. absurd (refuses_none m id (none m i) e)) (λ m n id i j e. refuses_none n id (none n j))

same_one : (x m n : Appended) → In m (x ∷ []) → In n (x ∷ []) → m ≡ n
same_one x m n (inl e) (inl f) = sym e ∙ f
same_one x m n (inl e) (inr j) = absurd j
same_one x m n (inr i) j = absurd i

-- a call's refusal is one message
one_refusal : (line : ℕ) (request : Request) (outcome : Outcome) (m n : Appended) → In m (refused_by line request outcome) → In n (refused_by line request outcome) → m ≡ n
one_refusal line request (Refused Executes) m n i j = absurd i
one_refusal line request (Refused (PartitionLost version)) m n i j = same_one (refusal line request (pos partition_lost) version) m n i j
one_refusal line request (Refused (WrongTarget version)) m n i j = same_one (refusal line request (pos wrong_target) version) m n i j
one_refusal line request (Refused (Migrating version)) m n i j = same_one (refusal line request (pos migrating) version) m n i j
one_refusal line request NothingDone m n i j = absurd i
one_refusal line request Done m n i j = absurd i
one_refusal line request (HeldAt seen) m n i j = absurd i
one_refusal line request (ReleasedAt seen) m n i j = absurd i
one_refusal line request (TookMessage took) m n i j = absurd i
one_refusal line request (RowMadeAt version) m n i j = absurd i
one_refusal line request (MoveIsRefused why) m n i j = absurd i
one_refusal line request (ReopenIsRefused why) m n i j = absurd i

-- a call that comes to its end now, and wasn't refused before
module _ {o : Object Request Partition} (r : Run) (ok : RunOk o r) (old : RefusedOnce r.appended) (a : Arrival) (may : MayCome r a) where
  unrefused : (m : Appended) → In m r.appended → m.refuses ≢ Some a.request.id
  unrefused m i e = let from = ok.of_refusals.arrived m a.request.id i e in may.fresh from.0 from.1 (ap id_name from.2)

  with_its : (more : List Appended) → RefusedOnce more → ((n : Appended) (id : CallId) → In n more → n.refuses ≡ Some id → id ≡ a.request.id) → RefusedOnce (r.appended ++ more)
  with_its more new its = with_more r.appended more old new (λ m n id i j e f. unrefused m i (e ∙ ap (λ x. Some x) (its n id j f)))

  -- whom a refusal names
  names_its : (outcome : Outcome) (n : Appended) (id : CallId) → In n (refused_by a.made a.request outcome) → n.refuses ≡ Some id → id ≡ a.request.id
  names_its outcome n id k f = let whose : Some a.request.id ≡ Some id = sym (refusals_name_the_call a.made a.request outcome n k) ∙ f in cc

  -- It is refused as a call would be, and with that these messages come, which refuse nothing.
  refused_with : (outcome : Outcome) (given : List Appended) → ((n : Appended) → In n given → n.refuses ≡ None) → RefusedOnce (r.appended ++ (refused_by a.made a.request outcome ++ given))
  refused_with outcome given none =
      with_its (refused_by a.made a.request outcome ++ given)
      (with_quiet (refused_by a.made a.request outcome) given (λ m n id i j e f. one_refusal a.made a.request outcome m n i j) none)
      (λ n id j f. ⊎_elim (λ k. names_its outcome n id k f) (λ k. absurd (refuses_none n id (none n k) f)) (in_cases n (refused_by a.made a.request outcome) given j))

  excused : RefusedOnce (r.appended ++ refusal a.made a.request (pos want_of_memory) 0 ∷ [])
  excused = with_its (refusal a.made a.request (pos want_of_memory) 0 ∷ []) (λ m n id i j e f. same_one (refusal a.made a.request (pos want_of_memory) 0) m n i j) its
    where
      its : (n : Appended) (id : CallId) → In n (refusal a.made a.request (pos want_of_memory) 0 ∷ []) → n.refuses ≡ Some id → id ≡ a.request.id
      its n id (inl s) f = let whose : Some a.request.id ≡ Some id = ap (λ (x : Appended). x.refuses) s ∙ f in cc
      its n id (inr j) f = absurd j

  abbrev before : World Request
  before = world_at o r a.request.partition

  abbrev happened : Happened Request
  happened = happens o before (call_of a)

  called : (own : Option ℕ) → RefusedOnce (r.appended ++ happening o r own a)
  called own =
      refused_with happened.outcome (messages_by o r own a.request.partition a.member before happened.world)
      (messages_refuse_none o r a.request.partition own a.member before happened.world)

  pub asked_once : (skips : List CallId) (own : Option ℕ) → RefusedOnce (asked o skips r own a).appended
  asked_once skips own =
      on_if (λ (x : Run). RefusedOnce x.appended) (is_skipped skips a.request.id) (arrived r a [] (refusal a.made a.request (pos want_of_memory) 0 ∷ [])) (arrived r a (its_event a ∷ []) (happening o r own a)) excused (called own)

  -- it waited, and is refused as its plain call would be
  pub turned_away_once : (why : Reached) → RefusedOnce (r.appended ++ refused_at a.made a.request why)
  turned_away_once why =
      with_its (refused_at a.made a.request why) (λ m n id i j e f. one_refusal a.made a.request (Refused why) m n i j) (λ n id j f. names_its (Refused why) n id j f)

-- what a session tells by itself refuses nothing
told_refuses_none : (line c : ℕ) (bytes : List ℕ) (m : Appended) → In m (own_answer line c bytes ∷ []) → m.refuses ≡ None
told_refuses_none line c bytes m (inl s) = ap (λ (n : Appended). n.refuses) (sym s)
told_refuses_none line c bytes m (inr i) = absurd i

-- one that waited, as it comes to its end
module _ {o : Object Request Partition} (r : Run) (is : IsRun o r) (w : Waiter) (there : Contains r.waiters w) where
  without_it : RunOk o (without r w)
  without_it = without_ok o r w (run_ok is)

  it_ends : MayCome (without r w) (ending r w)
  it_ends = comes_later o r w (run_ok is) (in_contains w r.waiters there)

pub refused_once : {o : Object Request Partition} {r : Run} → IsRun o r → RefusedOnce r.appended
refused_once {o} (grid_begun members backups grid) = λ m n id i j e f. absurd i
refused_once {o} (line_counted r is) = refused_once is
refused_once {o} (clock_was_set r member moment is) = refused_once is
refused_once {o} (connection_opened r c member is free) = refused_once is
refused_once {o} (bytes_taken r connection bytes is there) = refused_once is
refused_once {o} (listener_was_registered r listener connection is there) = refused_once is
refused_once {o} (answer_told r c bytes is) = with_quiet r.appended (own_answer r.lines c bytes ∷ []) (refused_once is) (told_refuses_none r.lines c bytes)
refused_once {o} (event_occurred r p event is quiet) =
    with_quiet r.appended (given_out o r p event) (refused_once is) (given_refuse_none o r p event (taker_of event))
refused_once {o} (call_arrived r member request is next) = with_quiet r.appended [] (refused_once is) (λ m i. absurd i)
refused_once {o} (run_given_up r is) = refused_once is
refused_once {o} (call_asked skips r own member request is next) = asked_once r (run_ok is) (refused_once is) (arrival_at r member request) (arrives_now r member request next) skips own
refused_once {o} (waiter_came r member request deadline is next) = refused_once is
refused_once {o} (waiter_asked skips r own w is there) = asked_once (without r w) (without_it r is w there) (refused_once is) (ending r w) (it_ends r is w there) skips own
refused_once {o} (waiter_refused r w why is there) = turned_away_once (without r w) (without_it r is w there) (refused_once is) (ending r w) (it_ends r is w there) why
refused_once {o} (waiter_left r w is there) = with_quiet r.appended [] (refused_once is) (λ m i. absurd i)

-- what is told of is counted

found : {X : Type 0} (t : X → Bool) (xs : List X) (x : X) → In x xs → t x ≡ true → (y : X) × (find t xs ≡ Some y)
found {X} t [] x i e = absurd i
found {X} t (y ∷ ys) x i e = at (t y) refl (λ j. found t ys x j e)
  where
    at : (b : Bool) → t y ≡ b → (In x ys → (z : X) × (find t ys ≡ Some z)) → (z : X) × (cond b (Some y) (find t ys) ≡ Some z)
    at true s later = (y, refl)
    at false s later = later (behind i)
      where
        behind : In x (y ∷ ys) → In x ys
        behind (inl f) = absurd (let clash : true ≡ false = sym e ∙ ap t (sym f) ∙ s in cc)
        behind (inr j) = j

excuse_number : (a : Arrival) (m : Appended) → m.bytes ≡ error_bytes a.request.correlation (pos want_of_memory) (pos 0) (pos 0) → has_number is_of_memory (Some m) ≡ true
excuse_number a m e = ap (λ bytes. is_of_memory (error_number bytes)) e

counted : {o : Object Request Partition} (r : Run) → IsRun o r → (a : Arrival) → IsTold r a → is_out_of_memory r a ≡ true
counted r run a (m, there, tells) =
    let i = in_contains m r.appended there in
    let n = found (is_refusal_of a.request.id) r.appended m i (refusal_named a.request.id m tells.refuses) in
    let its = find_some (is_refusal_of a.request.id) r.appended n.0 n.1 in
    let same : n.0 ≡ m = refused_once run n.0 m a.request.id its.0 i (named_refusal a.request.id n.0 its.1) tells.refuses in
    ap (has_number is_of_memory) (n.1 ∙ ap (λ x. Some x) same) ∙ excuse_number a m tells.bytes

none_counted : {X : Type 0} (t : X → Bool) (xs : List X) (x : X) → count_by t xs ≡ 0 → In x xs → t x ≡ true → ⊥
none_counted t [] x none i e = i
none_counted t (y ∷ ys) x none (inl s) e =
    let all = sum_by-cons (λ z. cond (t z) 1 0) y ys in
    let one = ap {B = ℕ} (λ b. cond b 1 0) (ap t s ∙ e) in
    omega (arith, all, one, none)
none_counted t (y ∷ ys) x none (inr i) e =
    let all = sum_by-cons (λ z. cond (t z) 1 0) y ys in
    let rest : count_by t ys ≡ 0 = omega (arith, all, none) in
    none_counted t ys x rest i e

pub tells_of_none : {o : Object Request Partition} (r : Run) → IsRun o r → count_by (is_out_of_memory r) r.arrivals ≡ 0 → TellsOfNoSkip r
tells_of_none r run none a there told = none_counted (is_out_of_memory r) r.arrivals a none (in_contains a r.arrivals there) (counted r run a told)
