-- What holds of every run that lines can make.
use Rattle.std.proofs.Common.{pos, ◌≡◌, ℕ, ◌≤◌, Bool, true, false, cond, List, [], ◌∷◌, ◌++◌, length, map, filter, drop, slice_set, Option, Some, None, refl, ap, sym, ◌∙◌, ⊎_elim, inl, inr, arith}
use Rattle.std.specs.List.{filter_map}
use Rattle.std.proofs.Math.Seq.{drop-length}
use Rattle.grid_base.specs.Objects.{Object}
use Rattle.grid_base.specs.declared.names.CallId.{CallId}
use Rattle.grid_base.specs.declared.calls.Request.{Request}
use Rattle.object_store.specs.Partitions.{Partition}
use Rattle.partition_protocol.specs.Arrivals.{asked_by}
use Rattle.partition_protocol.specs.Execution.{Reached}
use Rattle.partition_protocol.specs.Events.{Event, Refused, happens}
use Rattle.partition_protocol.specs.Node.{Held}
use Rattle.partition_protocol.specs.World.{World}
use Rattle.partition_world.specs.Answers.{released_by}
use Rattle.listeners.specs.declared.listener.Listener.{Listener}
use Rattle.replay_run.specs.Changes.{change_by}
use Rattle.partition_protocol.proofs.Lists.{In, in_left, in_cases, in_contains}
use Rattle.grid_base.specs.Errors.{want_of_memory}
use Rattle.replay_run.specs.Runs.{Run, Connection, Arrival, Waiter, Appended, waits, without, ending, refused_at, begun, updated, with_bytes, listener_registered, own_answer, told, refusal, refused_by, call_of, arrival_at, happening, arrived, is_skipped, given_up, listening, version_known, adopted_since, messages_by, taker_of, given_to, given_out, occurred, asked, world_at}
use Rattle.replay_run.specs.Printing.{arrival_of, answer_of, is_answer_to}
use Rattle.replay_run.specs.ScriptRuns.{IsNext, IsRun, grid_begun, line_counted, clock_was_set, connection_opened, bytes_taken, listener_was_registered, answer_told, event_occurred, call_arrived, run_given_up, call_asked, waiter_came, waiter_asked, waiter_refused, waiter_left}
use Rattle.replay_run.proofs.Hearing.{no_fewer}
use Rattle.replay_run.proofs.Parts.{part_filter}
use Rattle.replay_run.proofs.Counting.{count-append}
use Rattle.replay_run.proofs.Trails.{find_some}
use Rattle.replay_run.proofs.RunFacts.{RefusalsOk, RunOk, arrival_found}
use Rattle.replay_run.proofs.Arriving.{MayCome, apart_opened, apart_updated, opened_grows, updated_grows, quiet, arrivals_stay, waiters_stay, arrives_now, arrivals_with, waiters_with, waiter_more, without_ok, comes_later, its_event}
use Rattle.replay_run.proofs.Answering.{before, happened, refusals_answer_none, answers_still, answers_after}
use Rattle.replay_run.proofs.Refusals.{unasked_refusals, skipped_refusals, turned_away, refusals_after}
use Rattle.replay_run.proofs.Reopenings.{skipped_reopenings, called_reopenings}
use Rattle.replay_run.proofs.Occurring.{keeps_released, occurred_arrivals, occurred_refusals, occurred_reopenings}
use Rattle.replay_run.proofs.Answers.{id_of_name, named_answer}
use Rattle.replay_run.proofs.Bare.{answer_to, is_heard, is_heard_by, executed_for, executed_by, bare_happening, bare_given_out, bare_occurred}
use Rattle.replay_run.proofs.Speaking.{spoken, spoken_more, alike_ok}
use Rattle.replay_run.proofs.Releasing.{spoken_at, goes_to, answers_given}

-- the first line has made nothing
pub begun_ok : {State : Type 0} (o : Object Request State) (members backups : ℕ) → 1 ≤ members → RunOk o (begun members backups)
begun_ok o members backups grid = record {
  members = grid;
  connections = tt;
  of_arrivals = record {
    placed = λ a i. absurd i;
    once = tt;
    counted = λ a i. absurd i;
    rising = λ a b h. absurd h;
    of_line = λ a b i. absurd i;
    later = λ a i. absurd i;
    by_now = λ a i. absurd i;
    calls = λ p. refl;
  };
  of_waiters = record { placed = λ w i. absurd i; once = tt; apart = λ a w i. absurd i; counted = λ w i. absurd i; of_line = λ a w i. absurd i; of_one_line = λ v w i. absurd i; by_now = λ w i. absurd i };
  of_answers = record { given = λ m id i e. absurd i; once = λ id. omega arith };
  of_refusals = record { arrived = λ m id i e. absurd i; unexecuted = λ m id i e. absurd i };
  of_reopenings = record { stamped = λ p. (refl, omega arith) };
}

-- what a session answers itself answers no call and refuses none
pub told_ok : {State : Type 0} (o : Object Request State) (r : Run) (c : ℕ) (bytes : List ℕ) → RunOk o r → RunOk o (told r c bytes)
told_ok o r c bytes ok = record {
  members = ok.members;
  connections = ok.connections;
  of_arrivals = arrivals_stay r r.events (told r c bytes).appended r.reopened r.full ok.of_arrivals ok.of_arrivals.calls;
  of_waiters = waiters_stay r r.events (told r c bytes).appended r.reopened r.full ok.of_waiters;
  of_answers = record {
    given = λ m id i e. ⊎_elim (λ j. ok.of_answers.given m id j e) (λ j. absurd (answers_none m id j e)) (in_cases m r.appended (own_answer r.lines c bytes ∷ []) i);
    once = λ id. let old = ok.of_answers.once id in let more = count-append (is_answer_to id) r.appended (own_answer r.lines c bytes ∷ []) in omega (arith, old, more);
  };
  of_refusals = record {
    arrived = λ m id i e. ⊎_elim (λ j. ok.of_refusals.arrived m id j e) (λ j. absurd (refuses_none m id j e)) (in_cases m r.appended (own_answer r.lines c bytes ∷ []) i);
    unexecuted = λ m id i e. ⊎_elim (λ j. ok.of_refusals.unexecuted m id j e) (λ j. absurd (refuses_none m id j e)) (in_cases m r.appended (own_answer r.lines c bytes ∷ []) i);
  };
  of_reopenings = record { stamped = ok.of_reopenings.stamped };
}
  where
    answers_none : (m : Appended) (id : CallId) → In m (own_answer r.lines c bytes ∷ []) → m.answers ≡ Some id → ⊥
    answers_none m id (inl s) e = let clash : None ≡ Some id = ap (λ (n : Appended). n.answers) s ∙ e in cc
    answers_none m id (inr i) e = i

    refuses_none : (m : Appended) (id : CallId) → In m (own_answer r.lines c bytes ∷ []) → m.refuses ≡ Some id → ⊥
    refuses_none m id (inl s) e = let clash : None ≡ Some id = ap (λ (n : Appended). n.refuses) s ∙ e in cc
    refuses_none m id (inr i) e = i

-- a run that is given up
pub given_up_ok : {State : Type 0} (o : Object Request State) (r : Run) → RunOk o r → RunOk o (given_up r)
given_up_ok o r ok = record {
  members = ok.members;
  connections = ok.connections;
  of_arrivals = arrivals_stay r r.events r.appended r.reopened true ok.of_arrivals ok.of_arrivals.calls;
  of_waiters = waiters_stay r r.events r.appended r.reopened true ok.of_waiters;
  of_answers = record { given = ok.of_answers.given; once = ok.of_answers.once };
  of_refusals = record { arrived = ok.of_refusals.arrived; unexecuted = ok.of_refusals.unexecuted };
  of_reopenings = record { stamped = ok.of_reopenings.stamped };
}

-- a call that makes no event, and these messages, which answer nothing
eventless_ok : {State : Type 0} (o : Object Request State) (r : Run) (a : Arrival) (appended : List Appended) → RunOk o r → MayCome r a
    → ((m : Appended) → In m appended → m.answers ≡ None) → RefusalsOk o (arrived r a [] appended) → RunOk o (arrived r a [] appended)
eventless_ok o r a appended ok may silent refusals = record {
  members = ok.members;
  connections = ok.connections;
  of_arrivals = arrivals_with r ok.of_arrivals a may [] appended (inl refl);
  of_waiters = waiters_with r ok.of_waiters a may [] appended;
  of_answers = answers_still o r ok (r.arrivals ++ a ∷ []) r.reopened (λ b i. in_left b r.arrivals (a ∷ []) i) [] appended silent;
  of_refusals = refusals;
  of_reopenings = skipped_reopenings o r ok a appended;
}

-- a call of a run that is given up, and one that leaves without an answer
pub unasked_ok : {State : Type 0} (o : Object Request State) (r : Run) (a : Arrival) → RunOk o r → MayCome r a → RunOk o (arrived r a [] [])
unasked_ok o r a ok may = eventless_ok o r a [] ok may (λ m i. absurd i) (unasked_refusals o r ok a may)

-- one that is refused as it waited
pub turned_away_ok : {State : Type 0} (o : Object Request State) (r : Run) (a : Arrival) (why : Reached) → RunOk o r → MayCome r a → RunOk o (arrived r a [] (refused_at a.made a.request why))
turned_away_ok o r a why ok may = eventless_ok o r a (refused_at a.made a.request why) ok may (refusals_answer_none a.made a.request (Refused why)) (turned_away o r ok a may why)

-- what those who listen are told answers nothing and refuses nothing

module _ (o : Object Request Partition) (r : Run) where
  -- of a member that an event has reached
  spoken_by : (own : Option ℕ) (p member : ℕ) (before after : World Request)
      → spoken (messages_by o r own p member before after) ≡ spoken (map (answer_to r.lines) (filter (goes_to r own) (executed_by before after)))
  spoken_by own p member before after =
      spoken_at r own p (listening r own member) (adopted_since (version_known before member) after member) (released_by o (change_by o) before after)
      ∙ ap spoken (answers_given o (change_by o) r own r.lines after (drop (length before.released) after.released))

  pub happening_speaks : (own : Option ℕ) (a : Arrival) → spoken (happening o r own a) ≡ spoken (bare_happening o r own a)
  happening_speaks own a =
      let p = a.request.partition in
      let before = world_at o r p in
      let after = (happens o before (call_of a)).world in
      spoken_more (refused_by a.made a.request (happens o before (call_of a)).outcome) (messages_by o r own p a.member before after)
      (map (answer_to r.lines) (filter (is_heard_by r own) (executed_by before after))) (spoken_by own p a.member before after)

  pub given_speaks : (p : ℕ) (event : Event Request) → asked_by event ≡ [] → spoken (given_out o r p event) ≡ spoken (bare_given_out o r p event)
  given_speaks p event quiet = go (taker_of event) refl
    where
      go : (taker : Option ℕ) → taker_of event ≡ taker
          → spoken (given_to o r p event taker) ≡ spoken (map (answer_to r.lines) (filter (is_heard r) (executed_by (world_at o r p) (happens o (world_at o r p) event).world)))
      go None e =
          let before = world_at o r p in
          let after = (happens o before event).world in
          let same = keeps_released o before event quiet e in
          let none : drop (length before.released) after.released ≡ [] = ap (drop (length before.released)) same ∙ drop-length before.released in
          sym (ap (λ (hs : List Held). spoken (map (answer_to r.lines) (filter (is_heard r) (filter_map (executed_for after) hs)))) none)
      go (Some member) e = spoken_by None p member (world_at o r p) (happens o (world_at o r p) event).world

-- a call, with an event or none
pub asked_ok : (o : Object Request Partition) (skips : List CallId) (r : Run) (own : Option ℕ) (a : Arrival) → RunOk o r → MayCome r a → RunOk o (asked o skips r own a)
asked_ok o skips r own a ok may = go (is_skipped skips a.request.id)
  where
    still : (b : Arrival) → In b r.arrivals → In b (r.arrivals ++ a ∷ [])
    still b i = in_left b r.arrivals (a ∷ []) i

    refusal_silent : (m : Appended) → In m (refusal a.made a.request (pos want_of_memory) 0 ∷ []) → m.answers ≡ None
    refusal_silent m (inl e) = ap (λ (n : Appended). n.answers) (sym e)
    refusal_silent m (inr i) = absurd i

    bare_ok : RunOk o (arrived r a (its_event a ∷ []) (bare_happening o r own a))
    bare_ok =
        let come = arrivals_with r ok.of_arrivals a may (its_event a ∷ []) (bare_happening o r own a) (inr refl) in
        let p = a.request.partition in
        let released = executed_by (before o r p (call_of a)) (happened o r p (call_of a)).world in
        record {
          members = ok.members;
          connections = ok.connections;
          of_arrivals = come;
          of_waiters = waiters_with r ok.of_waiters a may (its_event a ∷ []) (bare_happening o r own a);
          of_answers =
              answers_after o r ok (r.arrivals ++ a ∷ []) r.reopened still p (call_of a) (refused_by a.made a.request (happened o r p (call_of a)).outcome)
              (refusals_answer_none a.made a.request (happened o r p (call_of a)).outcome) (filter (is_heard_by r own) released) (part_filter (is_heard_by r own) released) come;
          of_refusals = refusals_after o r ok a may own;
          of_reopenings = called_reopenings o r ok a may.now own;
        }

    go : (b : Bool) → RunOk o (cond b (arrived r a [] (refusal a.made a.request (pos want_of_memory) 0 ∷ [])) (arrived r a (its_event a ∷ []) (happening o r own a)))
    go true = eventless_ok o r a (refusal a.made a.request (pos want_of_memory) 0 ∷ []) ok may refusal_silent (skipped_refusals o r ok a may)
    go false =
        alike_ok o (arrived r a (its_event a ∷ []) (bare_happening o r own a)) (r.appended ++ happening o r own a)
        (spoken_more r.appended (happening o r own a) (bare_happening o r own a) (happening_speaks o r own a)) bare_ok

-- a call that waits
waits_ok : {State : Type 0} (o : Object Request State) (r : Run) (w : Waiter) → RunOk o r → IsNext r w.request → w.line ≡ r.lines → RunOk o (waits r w)
waits_ok o r w ok next at = record {
  members = ok.members;
  connections = ok.connections;
  of_arrivals = record {
    placed = ok.of_arrivals.placed;
    once = ok.of_arrivals.once;
    counted = ok.of_arrivals.counted;
    rising = ok.of_arrivals.rising;
    of_line = ok.of_arrivals.of_line;
    later = ok.of_arrivals.later;
    by_now = ok.of_arrivals.by_now;
    calls = ok.of_arrivals.calls;
  };
  of_waiters = waiter_more r ok.of_waiters w next at;
  of_answers = record { given = ok.of_answers.given; once = ok.of_answers.once };
  of_refusals = record { arrived = ok.of_refusals.arrived; unexecuted = ok.of_refusals.unexecuted };
  of_reopenings = record { stamped = ok.of_reopenings.stamped };
}

-- something else than a call
pub occurred_ok : (o : Object Request Partition) (r : Run) (p : ℕ) (event : Event Request) → RunOk o r → asked_by event ≡ [] → RunOk o (occurred o r p event)
occurred_ok o r p event ok quiet =
    let come = occurred_arrivals o r ok p event quiet in
    let released = executed_by (before o r p event) (happened o r p event).world in
    let bare : RunOk o (bare_occurred o r p event) = record {
      members = ok.members;
      connections = ok.connections;
      of_arrivals = come;
      of_waiters = let next = bare_occurred o r p event in waiters_stay r next.events next.appended next.reopened next.full ok.of_waiters;
      of_answers =
          answers_after o r ok r.arrivals (bare_occurred o r p event).reopened (λ b i. i) p event [] (λ m i. absurd i) (filter (is_heard r) released) (part_filter (is_heard r) released) come;
      of_refusals = occurred_refusals o r ok p event quiet;
      of_reopenings = occurred_reopenings o r ok p event quiet;
    } in
    alike_ok o (bare_occurred o r p event) (r.appended ++ given_out o r p event) (spoken_more r.appended (given_out o r p event) (bare_given_out o r p event) (given_speaks o r p event quiet)) bare

-- who listens has no part in what holds
pub registered_ok : {State : Type 0} (o : Object Request State) (r : Run) (listener : Listener) → RunOk o r → RunOk o (listener_registered r listener)
registered_ok o r listener ok = record {
  members = ok.members;
  connections = ok.connections;
  of_arrivals = record {
    placed = ok.of_arrivals.placed;
    once = ok.of_arrivals.once;
    counted = ok.of_arrivals.counted;
    rising = ok.of_arrivals.rising;
    of_line = ok.of_arrivals.of_line;
    later = ok.of_arrivals.later;
    by_now = ok.of_arrivals.by_now;
    calls = ok.of_arrivals.calls;
  };
  of_waiters = record {
    placed = ok.of_waiters.placed;
    once = ok.of_waiters.once;
    apart = ok.of_waiters.apart;
    counted = ok.of_waiters.counted;
    of_line = ok.of_waiters.of_line;
    of_one_line = ok.of_waiters.of_one_line;
    by_now = ok.of_waiters.by_now;
  };
  of_answers = record { given = ok.of_answers.given; once = ok.of_answers.once };
  of_refusals = record { arrived = ok.of_refusals.arrived; unexecuted = ok.of_refusals.unexecuted };
  of_reopenings = record { stamped = ok.of_reopenings.stamped };
}

pub run_ok : {o : Object Request Partition} {r : Run} → IsRun o r → RunOk o r
run_ok {o} (grid_begun members backups grid) = begun_ok o members backups grid
run_ok {o} (line_counted r is) = let ok = run_ok is in quiet o r r.moments r.connections ok ok.connections (λ c k s. (k, s, omega arith))
run_ok {o} (clock_was_set r member moment is) = let ok = run_ok is in quiet o r (slice_set r.moments member moment) r.connections ok ok.connections (λ c k s. (k, s, omega arith))
run_ok {o} (connection_opened r c member is free) =
    let ok = run_ok is in
    let new : Connection = record { conn = c; member = member; bytes = [] } in
    quiet o r r.moments (r.connections ++ new ∷ []) ok (apart_opened r.connections new ok.connections free) (opened_grows r new)
run_ok {o} (bytes_taken r connection bytes is there) =
    let ok = run_ok is in
    let new : Connection = with_bytes connection bytes in
    quiet o r r.moments (updated new r.connections) ok (apart_updated r.connections new ok.connections) (updated_grows r connection new there refl (no_fewer connection.bytes bytes))
run_ok {o} (listener_was_registered r listener connection is there) = registered_ok o r listener (run_ok is)
run_ok {o} (answer_told r c bytes is) = told_ok o r c bytes (run_ok is)
run_ok {o} (event_occurred r p event is quiet) = occurred_ok o r p event (run_ok is) quiet
run_ok {o} (call_arrived r member request is next) = unasked_ok o r (arrival_at r member request) (run_ok is) (arrives_now r member request next)
run_ok {o} (run_given_up r is) = given_up_ok o r (run_ok is)
run_ok {o} (call_asked skips r own member request is next) = asked_ok o skips r own (arrival_at r member request) (run_ok is) (arrives_now r member request next)
run_ok {o} (waiter_came r member request deadline is next) = waits_ok o r (record { line = r.lines; member = member; request = request; deadline = deadline }) (run_ok is) next refl
run_ok {o} (waiter_asked skips r own w is there) = let ok = run_ok is in asked_ok o skips (without r w) own (ending r w) (without_ok o r w ok) (comes_later o r w ok (in_contains w r.waiters there))
run_ok {o} (waiter_refused r w why is there) = let ok = run_ok is in turned_away_ok o (without r w) (ending r w) why (without_ok o r w ok) (comes_later o r w ok (in_contains w r.waiters there))
run_ok {o} (waiter_left r w is there) = let ok = run_ok is in unasked_ok o (without r w) (ending r w) (without_ok o r w ok) (comes_later o r w ok (in_contains w r.waiters there))

-- A call that did not arrive was not answered.
pub unheard_unanswered : {o : Object Request Partition} (r : Run) → IsRun o r → (id : CallId) → arrival_of r id ≡ None → answer_of r id ≡ None
unheard_unanswered {o} r is id unheard = go (answer_of r id) refl
  where
    ok : RunOk o r
    ok = run_ok is

    go : (answer : Option Appended) → answer_of r id ≡ answer → answer_of r id ≡ None
    go None e = e
    go (Some m) e =
        let there = find_some (is_answer_to id) r.appended m e in
        let given = ok.of_answers.given m id there.0 (named_answer id m there.1) in
        let from = given.1.arrived given.1.call given.1.has in
        let named : from.0.request.id ≡ id = ap id_of_name from.2 ∙ given.1.call_is in
        let found : arrival_of r id ≡ Some from.0 = ap (arrival_of r) (sym named) ∙ arrival_found r ok.of_arrivals from.0 from.1 in
        absurd (let clash : None ≡ Some from.0 = sym unheard ∙ found in cc)
