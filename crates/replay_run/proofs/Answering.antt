-- An event keeps what holds of answers: what it releases is answered once, and nothing that was answered before.
use Rattle.std.proofs.Common.{ℤ, pos, ◌≡◌, ℕ, ◌+◌, ◌≤◌, true, false, cond, List, [], ◌∷◌, ◌++◌, map, length, drop, Option, Some, None, refl, ap, sym, ◌∙◌, subst, ◌⊎◌, ⊎_elim, inl, inr, arith, append-nil}
use Rattle.std.proofs.Math.Seq.{drop-append_seam}
use Rattle.std.specs.List.{filter_map, cons_option}
use Rattle.grid_base.specs.Objects.{Object}
use Rattle.grid_base.specs.Names.{is_same_call}
use Rattle.grid_base.specs.declared.names.CallId.{CallId}
use Rattle.grid_base.specs.declared.calls.Request.{Request}
use Rattle.partition_protocol.specs.Node.{Held}
use Rattle.partition_protocol.specs.History.{Entry, Executed}
use Rattle.partition_protocol.specs.Execution.{Executes, PartitionLost, WrongTarget, Migrating}
use Rattle.partition_protocol.specs.World.{World, start}
use Rattle.partition_protocol.specs.Events.{Event, Happened, Outcome, NothingDone, Done, HeldAt, ReleasedAt, Refused, TookMessage, RowMadeAt, MoveIsRefused, ReopenIsRefused, happens, run}
use Rattle.partition_protocol.specs.Answers.{answered_call}
use Rattle.partition_protocol.specs.Arrivals.{name}
use Rattle.partition_protocol.specs.Sequences.{IsFrontOf}
use Rattle.partition_protocol.proofs.Lists.{In, in_left, in_cases, IsPart}
use Rattle.partition_protocol.proofs.Faithful.{part_in, part_map}
use Rattle.partition_protocol.proofs.RowFacts.{number_same}
use Rattle.partition_protocol.proofs.Extends.{run_append, front_trans, same}
use Rattle.partition_protocol.proofs.Theorem.{every_run_extends}
use Rattle.partition_world.specs.Answers.{id_of}
use Rattle.replay_run.specs.Runs.{Run, Arrival, Appended, Reopened, At, is_at, world_at, events_at, refusal, refused_by}
use Rattle.grid_base.specs.Errors.{partition_lost, wrong_target, migrating}
use Rattle.replay_run.specs.Printing.{is_answer_to}
use Rattle.replay_run.proofs.Parts.{in_map, in_mapped, in_drop}
use Rattle.replay_run.proofs.Counting.{count, count-append, count_none, count_in, count_part, count_cases}
use Rattle.replay_run.proofs.Releases.{one, times_in, answers, answers-append, released_once}
use Rattle.replay_run.proofs.Trails.{executed, executed_name, newest_executed}
use Rattle.replay_run.proofs.RunFacts.{id_name, arrival_name, ArrivalsOk, AnswersOk, IsGiven, IsGivenIn, given_executed, RunOk, named, origin, one_partition}
use Rattle.replay_run.proofs.EventRuns.{events_at-append}
use Rattle.replay_run.proofs.Arriving.{events_with_one, maybe_one}
use Rattle.replay_run.proofs.Answers.{named_answer}
use Rattle.replay_run.proofs.Bare.{executed_for, executed_by, answer_to}

-- what an event releases

pub in_filter_map : {X Y : Type 0} (f : X → Option Y) (xs : List X) (y : Y) → In y (filter_map f xs) → (x : X) × In x xs × (f x ≡ Some y)
in_filter_map f [] y i = absurd i
in_filter_map {X} {Y} f (x ∷ xs) y i = go (f x) refl (λ j. in_filter_map f xs y j) i
  where
    go : (found : Option Y) → f x ≡ found → (In y (filter_map f xs) → (z : X) × In z xs × (f z ≡ Some y)) → In y (cons_option found (filter_map f xs))
        → (z : X) × In z (x ∷ xs) × (f z ≡ Some y)
    go None e g j = let k = g j in (k.0, inr k.1, k.2)
    go (Some v) e g (inl s) = (x, inl refl, e ∙ ap (λ u. Some u) s)
    go (Some v) e g (inr j) = let k = g j in (k.0, inr k.1, k.2)

pub answers_count : (w : World Request) (line : ℕ) (id : CallId) (hs : List Held)
    → count (is_answer_to id) (map (answer_to line) (filter_map (executed_for w) hs)) ≤ answers (id_name id) hs
answers_count w line id [] = omega arith
answers_count w line id (h ∷ hs) = go (executed_for w h) (λ x s. (newest_executed (record { conn = h.conn; number = h.number }) w.recorded.log x s).1) (answers_count w line id hs)
  where
    go : (found : Option (Executed Request)) → ((x : Executed Request) → found ≡ Some x → id_of x ≡ record { conn = h.conn; number = h.number })
        → count (is_answer_to id) (map (answer_to line) (filter_map (executed_for w) hs)) ≤ answers (id_name id) hs
        → count (is_answer_to id) (map (answer_to line) (cons_option found (filter_map (executed_for w) hs))) ≤ one (id_name id) (answered_call h) + answers (id_name id) hs
    go None f l = omega (arith, l)
    go (Some x) f l = let e = ap {B = ℕ} (λ c. cond (is_same_call c id) 1 0) (f x refl) in omega (arith, e, l)

-- the number and the version with which a message refuses a call
pub refused_with : (line : ℕ) (request : Request) (outcome : Outcome) (m : Appended) → In m (refused_by line request outcome) → (code : ℤ) × (version : ℕ) × (refusal line request code version ≡ m)
refused_with line request (Refused Executes) m i = absurd i
refused_with line request (Refused (PartitionLost version)) m (inl e) = (pos partition_lost, version, e)
refused_with line request (Refused (PartitionLost version)) m (inr i) = absurd i
refused_with line request (Refused (WrongTarget version)) m (inl e) = (pos wrong_target, version, e)
refused_with line request (Refused (WrongTarget version)) m (inr i) = absurd i
refused_with line request (Refused (Migrating version)) m (inl e) = (pos migrating, version, e)
refused_with line request (Refused (Migrating version)) m (inr i) = absurd i
refused_with line request NothingDone m i = absurd i
refused_with line request Done m i = absurd i
refused_with line request (HeldAt seen) m i = absurd i
refused_with line request (ReleasedAt seen) m i = absurd i
refused_with line request (TookMessage took) m i = absurd i
refused_with line request (RowMadeAt version) m i = absurd i
refused_with line request (MoveIsRefused why) m i = absurd i
refused_with line request (ReopenIsRefused why) m i = absurd i

-- a refusal answers no call
pub refusals_answer_none : (line : ℕ) (request : Request) (outcome : Outcome) (m : Appended) → In m (refused_by line request outcome) → m.answers ≡ None
refusals_answer_none line request outcome m i = ap (λ (n : Appended). n.answers) (sym (refused_with line request outcome m i).2)

-- an answer stays given
pub given_longer : (log more : List (Entry Request)) (released since : List Held) (come arrivals : List Arrival) (m : Appended) (id : CallId)
    → IsFrontOf log more → IsFrontOf released since → ((b : Arrival) → In b come → In b arrivals) → IsGiven log released come m id → IsGiven more since arrivals m id
given_longer log more released since come arrivals m id f g h given = record {
  call = given.call;
  call_is = given.call_is;
  reply = given.reply;
  held = given.held;
  held_is = given.held_is;
  is_released = subst (λ hs. In given.held hs) g.1 (in_left given.held released g.0 given.is_released);
  log_then = given.log_then;
  front = front_trans given.log_then log more given.front f;
  has = given.has;
  arrived = λ x i. let k = given.arrived x i in (k.0, h k.0 k.1, k.2, k.3);
}

-- the run goes on: events and messages more, and these arrivals and reopenings
abbrev pub gone_on : Run → List At → List Arrival → List Appended → List Reopened → Run
gone_on r events arrivals appended reopened = record r { events = r.events ++ events; arrivals = arrivals; appended = r.appended ++ appended; reopened = reopened }

-- the world of a partition with one event more
module _ {State : Type 0} (o : Object Request State) (r : Run) (p : ℕ) (event : Event Request) where
  abbrev pub its : At
  its = record { partition = p; event = event }

  abbrev pub before : World Request
  before = world_at o r p

  abbrev pub happened : Happened Request
  happened = happens o before event

  abbrev pub world_with : ℕ → World Request
  world_with q = run o (start q r.members r.backups) (events_at q (r.events ++ its ∷ []))

  pub world_here : world_with p ≡ happened.world
  world_here =
      ap (run o (start p r.members r.backups)) (events_with_one p r.events its ∙ ap (λ b. events_at p r.events ++ maybe_one b event) (number_same p p refl))
      ∙ run_append o (start p r.members r.backups) (events_at p r.events) (event ∷ [])

  pub world_elsewhere : (q : ℕ) → is_at q its ≡ false → world_with q ≡ world_at o r q
  world_elsewhere q e =
      ap (run o (start q r.members r.backups)) (events_with_one q r.events its ∙ ap (λ b. events_at q r.events ++ maybe_one b event) e ∙ append-nil (events_at q r.events))

module _ {State : Type 0} (o : Object Request State) (r : Run) (ok : RunOk o r) (arrivals : List Arrival) (reopened : List Reopened) (still : (b : Arrival) → In b r.arrivals → In b arrivals) where
  -- with more events the log and the answers go on
  pub run_extends : (events : List At) (p : ℕ)
      → IsFrontOf (world_at o r p).recorded.log (run o (start p r.members r.backups) (events_at p (r.events ++ events))).recorded.log
      × IsFrontOf (world_at o r p).released (run o (start p r.members r.backups) (events_at p (r.events ++ events))).released
  run_extends events p =
      subst (λ es. IsFrontOf (world_at o r p).recorded.log (run o (start p r.members r.backups) es).recorded.log × IsFrontOf (world_at o r p).released (run o (start p r.members r.backups) es).released)
      (sym (events_at-append p r.events events)) (every_run_extends o p r.members r.backups (events_at p r.events) (events_at p events))

  pub given_still : (events : List At) (appended : List Appended) (m : Appended) (id : CallId) → In m r.appended → m.answers ≡ Some id
      → (p : ℕ) × IsGivenIn o r p m id × IsGivenIn o (gone_on r events arrivals appended reopened) p m id
  given_still events appended m id i e =
      let q = ok.of_answers.given m id i e in
      let next = gone_on r events arrivals appended reopened in
      let more = run_extends events q.0 in (
        q.0,
        q.1,
        given_longer (world_at o r q.0).recorded.log (world_at o next q.0).recorded.log (world_at o r q.0).released (world_at o next q.0).released r.arrivals arrivals m id
            more.0 more.1 still q.1,
      )

  -- messages that answer nothing
  pub answers_still : (events : List At) (appended : List Appended) → ((m : Appended) → In m appended → m.answers ≡ None) → AnswersOk o (gone_on r events arrivals appended reopened)
  answers_still events appended silent = record {
    given = λ m id i e. ⊎_elim (λ j. let g = given_still events appended m id j e in (g.0, g.2)) (λ j. absurd (answers_none id m j e)) (in_cases m r.appended appended i);
    once = λ id.
        let old = ok.of_answers.once id in
        let more = count-append (is_answer_to id) r.appended appended in
        let none = count_none (is_answer_to id) appended (λ m i t. answers_none id m i (named_answer id m t)) in
        omega (arith, old, more, none);
  }
    where
      answers_none : (id : CallId) (m : Appended) → In m appended → m.answers ≡ Some id → ⊥
      answers_none id m i e = let clash : None ≡ Some id = sym (silent m i) ∙ e in cc

  -- an event, of whose answers these are given
  module _ (p : ℕ) (event : Event Request) (others : List Appended) (silent : (m : Appended) → In m others → m.answers ≡ None)
      (given : List (Executed Request)) (part : IsPart given (executed_by (before o r p event) (happened o r p event).world)) where
    abbrev pub after : World Request
    after = (happened o r p event).world

    abbrev pub given_new : List Appended
    given_new = map (answer_to r.lines) given

    abbrev pub next : Run
    next = gone_on r (its o r p event ∷ []) arrivals (others ++ given_new) reopened

    abbrev pub released_now : List Held
    released_now = drop (length (before o r p event).released) after.released

    module _ (come : ArrivalsOk next) where
      -- an answer that the event released
      pub given_now : (m : Appended) (id : CallId) → In m given_new → m.answers ≡ Some id → IsGivenIn o next p m id
      given_now m id i e =
          let made = in_mapped (answer_to r.lines) given m i in
          let from = in_filter_map (executed_for after) released_now made.0 (part_in given (executed_by (before o r p event) after) made.0 part made.1) in
          let named = newest_executed (record { conn = from.0.conn; number = from.0.number }) after.recorded.log made.0 from.2 in
          let named_by : Some (id_of made.0) ≡ Some id = ap (λ (n : Appended). n.answers) made.2 ∙ e in
          let call_is : id_of made.0 ≡ id = cc in
          let answer : IsGiven after.recorded.log after.released arrivals m id = record {
            call = made.0;
            call_is = call_is;
            reply = ap (λ (n : Appended). n.bytes) (sym made.2);
            held = from.0;
            held_is = ap id_name (sym named.1);
            is_released = in_drop (length (before o r p event).released) after.released from.0 from.1;
            log_then = after.recorded.log;
            front = same after.recorded.log;
            has = named.0;
            arrived = λ x j. arrived_by_now (ap (λ (n : Appended). n.line) made.2) x j;
          } in
          subst (λ (w : World Request). IsGiven w.recorded.log w.released arrivals m id) (sym (world_here o r p event)) answer
        where
          arrived_by_now : r.lines ≡ m.line → (x : Executed Request) → In x (executed after.recorded.log)
              → (b : Arrival) × In b arrivals × (arrival_name b ≡ executed_name x) × (b.made ≤ m.line)
          arrived_by_now line x j =
              let origin_of = origin o next ok.members come p x (subst (λ (w : World Request). In x (executed w.recorded.log)) (sym (world_here o r p event)) j) in
              let now = come.by_now origin_of.0 origin_of.1 in
              (origin_of.0, origin_of.1, ap name origin_of.3, omega (arith, now, line))

      pub given_after : (m : Appended) (id : CallId) → In m next.appended → m.answers ≡ Some id → (q : ℕ) × IsGivenIn o next q m id
      given_after m id i e = ⊎_elim (λ j. let g = given_still (its o r p event ∷ []) (others ++ given_new) m id j e in (g.0, g.2)) new (in_cases m r.appended (others ++ given_new) i)
        where
          other : In m others → (q : ℕ) × IsGivenIn o next q m id
          other j = let clash : None ≡ Some id = sym (silent m j) ∙ e in absurd cc

          new : In m (others ++ given_new) → (q : ℕ) × IsGivenIn o next q m id
          new j = ⊎_elim other (λ k. (p, given_now m id k e)) (in_cases m others given_new j)

      pub once_after : (id : CallId) → count (is_answer_to id) next.appended ≤ 1
      once_after id =
          let parts = count-append (is_answer_to id) r.appended (others ++ given_new) in
          let new_parts = count-append (is_answer_to id) others given_new in
          let none = count_none (is_answer_to id) others (λ m i t. other m i t) in
          let most = once_of (count_cases (is_answer_to id) r.appended) (count_cases (is_answer_to id) given_new) in
          omega (arith, parts, new_parts, none, most)
        where
          other : (m : Appended) → In m others → is_answer_to id m ≡ true → ⊥
          other m i t = let clash : None ≡ Some id = sym (silent m i) ∙ named_answer id m t in cc

          old_released : List Held
          old_released = (before o r p event).released

          -- what the event released was not released before
          released_apart : answers (id_name id) old_released + answers (id_name id) released_now ≤ 1
          released_apart =
              let more = (run_extends (its o r p event ∷ []) p).1 in
              let whole : old_released ++ more.0 ≡ after.released = more.1 ∙ ap (λ (w : World Request). w.released) (world_here o r p event) in
              let rest : released_now ≡ more.0 = ap (drop (length old_released)) (sym whole) ∙ drop-append_seam old_released more.0 in
              let limit = released_once o p r.members r.backups (events_at p next.events) (id_name id) (named o next ok.members come p) in
              let split = ap (answers (id_name id)) (sym more.1) ∙ answers-append (id_name id) old_released more.0 in
              let last = ap (answers (id_name id)) rest in
              omega (arith, limit, split, last)

          fewer : count (is_answer_to id) given_new ≤ answers (id_name id) released_now
          fewer =
              let all = answers_count after r.lines id released_now in
              let some = count_part (is_answer_to id) given_new (map (answer_to r.lines) (executed_by (before o r p event) after))
              (part_map (answer_to r.lines) given (executed_by (before o r p event) after) part) in
              omega (arith, all, some)

          -- what was answered before was released before
          before_now : (m n : Appended) → In m r.appended → m.answers ≡ Some id → In n given_new → n.answers ≡ Some id → 1 ≤ answers (id_name id) old_released
          before_now m n i e j f =
              let old = given_still (its o r p event ∷ []) (others ++ given_new) m id i e in
              let new = given_now n id j f in
              let q = one_partition o next ok.members come old.0 p old.2.call new.call (given_executed m id old.2) (given_executed n id new)
              (ap id_name old.2.call_is ∙ ap id_name (sym new.call_is)) in
              let g = subst (λ v. IsGivenIn o r v m id) q old.1 in
              times_in (id_name id) (map answered_call old_released)
              (subst (λ v. In v (map answered_call old_released)) (g.held_is ∙ ap id_name g.call_is) (in_map answered_call old_released g.held g.is_released))

          once_of : (count (is_answer_to id) r.appended ≡ 0) ⊎ ((m : Appended) × In m r.appended × (is_answer_to id m ≡ true))
              → (count (is_answer_to id) given_new ≡ 0) ⊎ ((m : Appended) × In m given_new × (is_answer_to id m ≡ true))
              → count (is_answer_to id) r.appended + count (is_answer_to id) given_new ≤ 1
          once_of (inl none) found = omega (arith, none, fewer, released_apart)
          once_of (inr old) (inl none) = let most = ok.of_answers.once id in omega (arith, none, most)
          once_of (inr (m, i, t)) (inr (n, j, u)) =
              let some = count_in (is_answer_to id) given_new n j u in
              let b = before_now m n i (named_answer id m t) j (named_answer id n u) in
              absurd (omega (arith, some, b, fewer, released_apart))

      pub answers_after : AnswersOk o next
      answers_after = record { given = given_after; once = once_after }
