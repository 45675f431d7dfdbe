-- What each step between lines, and each line of a script, does to one partition is a line of its machine, or several, or none; and these bring the calls that came.
use Rattle.std.proofs.Common.{◌≡◌, ◌≢◌, ℤ, ℕ, zero, suc, ◌≤◌, ◌<◌, ◌+◌, Bool, true, false, not, ◌==◌, cond, List, [], ◌∷◌, ◌++◌, length, map, filter, slice_get, pos, Option, Some, None, refl, ap, sym, ◌∙◌, subst, ◌⊎◌, ⊎_elim, inl, inr, arith, append-nil, append_assoc}
use Rattle.std.specs.Option.{unwrap_or}
use Rattle.grid_base.specs.Errors.{want_of_memory}
use Rattle.grid_base.specs.Objects.{Object}
use Rattle.grid_base.specs.declared.names.CallId.{CallId}
use Rattle.grid_base.specs.declared.calls.Request.{Request}
use Rattle.object_store.specs.Partitions.{Partition}
use Rattle.partition_protocol.specs.Arrivals.{CallName, asked_by, name}
use Rattle.partition_protocol.specs.Claims.{IsLawful}
use Rattle.partition_protocol.specs.Events.{Event, run}
use Rattle.partition_protocol.specs.Sequences.{IsFrontOf}
use Rattle.partition_protocol.specs.Service.{numbers_below}
use Rattle.partition_protocol.specs.World as world
use Rattle.partition_protocol.specs.World.{World}
use Rattle.partition_protocol.proofs.Extends.{run_append}
use Rattle.partition_protocol.proofs.Lists.{In, in_right, contains_in, on_if, set_get_other}
use Rattle.partition_protocol.proofs.RowFacts.{not_false, number_cases, number_same, number_other}
use Rattle.session_core.specs.declared.item.Item.{Item}
use Rattle.session_core.specs.declared.item.Item.TheVariants.{Call as Asks, Wait, Register, Reply}
use Rattle.waiting_protocol.specs.Claims.{names_in, waits_in}
use Rattle.waiting_protocol.specs.Machine.{Waiting, opened, event_in, goes, gone_by, events_by, after, events, start, events_of, turned, gone}
use Rattle.waiting_protocol.specs.Machine as machine
use Rattle.waiting_protocol.proofs.Orders.{lines_append, names_append}
use Rattle.replay_run.specs.ByMachine.{terms_by, HasGoneBy}
use Rattle.replay_run.specs.Runs.{Run, At, Connection, Arrival, Waiter, Appended, partitions, events_at, world_at, moment_of, connection_of, is_open, clock_set, with_bytes, messages_on, call_of, arrival_at, is_full, is_skipped, refusal, refused_at, happening, arrived, told, registers, asked, given_up, waiter_at, waits, without, ending, leaves, as_machine, is_its_turn, served, served_in, forsaken, calls, begins_to_wait, handled, handled_all, occurred, stirred_by, served_at, meets_full, takes}
use Rattle.replay_run.specs.ScriptRuns.{MayAsk, IsNext, IsRun, clock_was_set, event_occurred, run_given_up, call_asked, waiter_came, waiter_asked, waiter_refused, waiter_left, answer_told}
use Rattle.replay_run.specs.Staying.{waiting_in}
use Rattle.replay_run.proofs.ByMachine.{is_in, listed, listed-append, listed_here, served_follows}
use Rattle.replay_run.proofs.EventRuns.{Kept, IsFull, is_other, events_at-append, served_kept, served_in_kept, served_full, served_in_full, served_in_keeps, served_in_run, served_run, forsaken_kept, forsaken_run, takes_run, takes_full, forsaken_full, handled_full}
use Rattle.replay_run.proofs.Items.{AreNumbered}
use Rattle.replay_run.proofs.Leaving.{stays, two_tests, forsaken_waiters, forsaken_open}
use Rattle.replay_run.proofs.Lines.{is_next, calls_run, begins_run, registers_run, may_calls, may_begin, may_ask_after, may_ask_registered}
use Rattle.replay_run.proofs.Lookups.{find_none}
use Rattle.replay_run.proofs.Parts.{named_same}
use Rattle.replay_run.proofs.Places.{same_call}
use Rattle.replay_run.proofs.RunFacts.{arrival_name, waiter_name, id_name}
use Rattle.replay_run.proofs.RunsOfLines.{run_ok}
use Rattle.replay_run.proofs.Serving.{often_none, served_in_more, second_holds}
use Rattle.replay_run.proofs.Staying.{Only, And, From, Nobody, Leaving, still_only, event_only, occurred_only, unstirred, stirred_there, takes_quiet, set_only, lists_only, handled_nobody, forsaken_nobody, waits_only}
use Rattle.replay_run.proofs.Turns.{its_event, KeepsTurns, served_keeps, forsaken_keeps}
use Rattle.masters_run.proofs.Called.{CalledBy, Called, ended_called, call_called, name_called, waiter_elsewhere, waiter_here, new_name}
use Rattle.masters_run.proofs.Silence.{after_append, waits_append}

-- who waits elsewhere

listed_other : (q : ℕ) (w : Waiter) (ws : List Waiter) → w.request.partition ≢ q → listed q (w ∷ ws) ≡ listed q ws
listed_other q w ws away = ap (λ b. map as_machine (cond b (w ∷ filter (is_in q) ws) (filter (is_in q) ws))) (number_other w.request.partition q away)

-- of those who pass the first test all pass the second
one_test : (f g : Waiter → Bool) (xs : List Waiter) → ((x : Waiter) → In x xs → g x ≡ false → f x ≡ false) → filter f (filter g xs) ≡ filter f xs
one_test f g [] h = refl
one_test f g (x ∷ xs) h = go (g x) refl (one_test f g xs (λ y i. h y (inr i)))
  where
    go : (b : Bool) → g x ≡ b → filter f (filter g xs) ≡ filter f xs → filter f (cond b (x ∷ filter g xs) (filter g xs)) ≡ filter f (x ∷ xs)
    go true e rest = ap (λ ys. cond (f x) (x ∷ ys) ys) rest
    go false e rest = rest ∙ sym (ap (λ b. cond b (x ∷ filter f xs) (filter f xs)) (h x (inl refl) e))

-- those of a connection that closes, as the machine has it

filter_listed : (c : ℕ) (ws : List Waiter) → filter (λ (x : machine.Waiter Request). not (x.conn == c)) (map as_machine ws) ≡ map as_machine (filter (stays c) ws)
filter_listed c [] = refl
filter_listed c (w ∷ ws) = go (stays c w) (filter_listed c ws)
  where
    rest : List (machine.Waiter Request)
    rest = filter (λ (x : machine.Waiter Request). not (x.conn == c)) (map as_machine ws)

    go : (b : Bool) → rest ≡ map as_machine (filter (stays c) ws) → cond b (as_machine w ∷ rest) rest ≡ map as_machine (cond b (w ∷ filter (stays c) ws) (filter (stays c) ws))
    go true e = ap (λ xs. as_machine w ∷ xs) e
    go false e = e

closed_listed : (q c : ℕ) (ws : List Waiter) → listed q (filter (stays c) ws) ≡ filter (λ (x : machine.Waiter Request). not (x.conn == c)) (listed q ws)
closed_listed q c ws = ap (map as_machine) (two_tests (is_in q) (stays c) ws) ∙ sym (filter_listed c (filter (is_in q) ws))

-- of one partition that had gone by some lines
module _ (o : Object Request Partition) (skips : List CallId) (q : ℕ) (front : List (machine.Line Request)) where
  -- it has come to what it is by these lines and more, and they brought its calls
  pub record HasCome (r : Run) : Type 0 where
    pub by : HasGoneBy o skips r q
    pub called : CalledBy q r by.lines
    pub goes_on : IsFrontOf front by.lines

  -- the same has happened in it, and the same wait
  abbrev IsSame : Run → Run → Type 0
  IsSame r next = (waiting_in o next q ≡ waiting_in o r q) × (events_at q next.events ≡ events_at q r.events)

  same_then : (r mid next : Run) → IsSame r mid → IsSame mid next → IsSame r next
  same_then r mid next a b = (b.0 ∙ a.0, b.1 ∙ a.1)

  -- with these lines more the calls are those of the lines
  abbrev KeepsCalled : Run → Run → List (machine.Line Request) → Type 0
  KeepsCalled r next more = (lines : List (machine.Line Request)) → CalledBy q r lines → CalledBy q next (lines ++ more)

  no_line : (r next : Run) → next.members ≡ r.members → next.backups ≡ r.backups → IsSame r next → ((lines : List (machine.Line Request)) → CalledBy q r lines → CalledBy q next lines) → HasCome r → HasCome next
  no_line r next members backups same keeps h = record {
    by = record {
      lines = h.by.lines;
      states = same.0 ∙ h.by.states ∙ (λ i. after o (terms_by skips) (start q (sym members i) (sym backups i)) h.by.lines);
      happened = same.1 ∙ h.by.happened ∙ (λ i. events o (terms_by skips) (start q (sym members i) (sym backups i)) h.by.lines);
    };
    called = keeps h.by.lines h.called;
    goes_on = h.goes_on;
  }

  one_line : (r next : Run) (l : machine.Line Request) → next.members ≡ r.members → next.backups ≡ r.backups → waiting_in o next q ≡ goes o (terms_by skips) (waiting_in o r q) l
      → events_at q next.events ≡ events_at q r.events ++ events_by o (terms_by skips) (waiting_in o r q) l → KeepsCalled r next (l ∷ []) → HasCome r → HasCome next
  one_line r next l members backups states happened keeps h =
      let t = terms_by skips in
      let began : Waiting Request = start q r.members r.backups in
      let lines = h.by.lines in
      let more : events o t began (lines ++ l ∷ []) ≡ events o t began lines ++ events_by o t (after o t began lines) l = lines_append o t began lines (l ∷ []) ∙ ap (λ es. events o t began lines ++ es) (append-nil (events_by o t (after o t began lines) l)) in
      record {
        by = record {
          lines = lines ++ l ∷ [];
          states = states ∙ ap (λ j. goes o t j l) h.by.states ∙ sym (after_append o t began lines (l ∷ [])) ∙ (λ i. after o t (start q (sym members i) (sym backups i)) (lines ++ l ∷ []));
          happened = happened ∙ (λ i. h.by.happened i ++ events_by o t (h.by.states i) l) ∙ sym more ∙ (λ i. events o t (start q (sym members i) (sym backups i)) (lines ++ l ∷ []));
        };
        called = keeps lines h.called;
        goes_on = (h.goes_on.0 ++ l ∷ [], sym (append_assoc front h.goes_on.0 (l ∷ [])) ∙ ap (λ ls. ls ++ l ∷ []) h.goes_on.1);
      }

  -- calls

  line_called : (come : List Arrival) (ws : List Waiter) (lines : List (machine.Line Request)) (l : machine.Line Request) → Called q come ws (waits_in lines ++ waits_in (l ∷ [])) (names_in lines ++ names_in (l ∷ []))
      → Called q come ws (waits_in (lines ++ l ∷ [])) (names_in (lines ++ l ∷ []))
  line_called come ws lines l h =
      subst (λ xs. Called q come ws xs (names_in (lines ++ l ∷ []))) (sym (waits_append lines (l ∷ [])))
      (subst (Called q come ws (waits_in lines ++ waits_in (l ∷ []))) (sym (names_append lines (l ∷ []))) h)

  -- a line that brings no call
  bare_line : (r : Run) (l : machine.Line Request) → names_in (l ∷ []) ≡ [] → waits_in (l ∷ []) ≡ [] → KeepsCalled r r (l ∷ [])
  bare_line r l names waits lines h =
      line_called r.arrivals r.waiters lines l
      (subst (λ xs. Called q r.arrivals r.waiters xs (names_in lines ++ names_in (l ∷ []))) (sym (ap (λ xs. waits_in lines ++ xs) waits ∙ append-nil (waits_in lines)))
      (subst (Called q r.arrivals r.waiters (waits_in lines)) (sym (ap (λ ns. names_in lines ++ ns) names ∙ append-nil (names_in lines))) h))

  -- the line of a call
  call_line : (r : Run) (a : Arrival) (lines : List (machine.Line Request)) → a.waits ≡ false → ((m : CallName) → In m (names_in lines) → m ≢ arrival_name a) → CalledBy q r lines
      → Called q (r.arrivals ++ a ∷ []) r.waiters (waits_in (lines ++ machine.Asks (call_of a) ∷ [])) (names_in (lines ++ machine.Asks (call_of a) ∷ []))
  call_line r a lines plain fresh h =
      let all = r.arrivals ++ a ∷ [] in
      let named = name_called q all r.waiters (waits_in lines) (names_in lines) (arrival_name a) fresh (inl (a, in_right a r.arrivals (a ∷ []) (inl refl), refl)) (call_called q r.arrivals r.waiters (waits_in lines) (names_in lines) a plain h) in
      line_called all r.waiters lines (machine.Asks (call_of a)) (subst (λ xs. Called q all r.waiters xs (names_in lines ++ arrival_name a ∷ [])) (sym (append-nil (waits_in lines))) named)

  -- and of one that comes to wait here
  wait_line : (r : Run) (w : Waiter) (lines : List (machine.Line Request)) → w.request.partition ≡ q → ((m : CallName) → In m (names_in lines) → m ≢ waiter_name w) → CalledBy q r lines
      → Called q r.arrivals (r.waiters ++ w ∷ []) (waits_in (lines ++ machine.Waits (as_machine w) ∷ [])) (names_in (lines ++ machine.Waits (as_machine w) ∷ []))
  wait_line r w lines here fresh h =
      let all = r.waiters ++ w ∷ [] in
      let xs = waits_in lines ++ as_machine w ∷ [] in
      line_called r.arrivals all lines (machine.Waits (as_machine w))
      (name_called q r.arrivals all xs (names_in lines) (waiter_name w) fresh (inr (w, in_right w r.waiters (w ∷ []) (inl refl), refl)) (waiter_here q r.arrivals r.waiters (waits_in lines) (names_in lines) w here h))

  -- whoever leaves was one of them
  ended_keeps : (r : Run) (w : Waiter) → IsRun o r → In w r.waiters → (lines : List (machine.Line Request)) → CalledBy q r lines → Called q (r.arrivals ++ ending r w ∷ []) (filter (is_other w) r.waiters) (waits_in lines) (names_in lines)
  ended_keeps r w is there lines h = ended_called q r.arrivals r.waiters (waits_in lines) (names_in lines) (run_ok is).of_waiters.once w there (ending r w) refl refl h

  turns_keep : (p : ℕ) (lines : List (machine.Line Request)) → KeepsTurns o skips p (λ x. IsRun o x × CalledBy q x lines)
  turns_keep p lines = record {
    up = λ x h. (run_given_up x h.0, h.1);
    asked = λ x own w i at h. (
      waiter_asked skips x own w h.0 (contains_in w x.waiters i),
      on_if (λ y. CalledBy q y lines) (is_skipped skips w.request.id) (arrived (without x w) (ending x w) [] (refusal x.lines w.request (pos want_of_memory) 0 ∷ [])) (arrived (without x w) (ending x w) (its_event (ending x w) ∷ []) (happening o (without x w) own (ending x w)))
          (ended_keeps x w h.0 i lines h.1) (ended_keeps x w h.0 i lines h.1),
    );
    refused = λ x w why i at h. (waiter_refused x w why h.0 (contains_in w x.waiters i), ended_keeps x w h.0 i lines h.1);
    left = λ x w i at h. (waiter_left x w h.0 (contains_in w x.waiters i), ended_keeps x w h.0 i lines h.1);
  }

  served_calls : (r : Run) (own : Option ℕ) (p member : ℕ) → IsRun o r → (lines : List (machine.Line Request)) → CalledBy q r lines → CalledBy q (served o skips r own p member) lines
  served_calls r own p member is lines h = (served_keeps o skips p (λ x. IsRun o x × CalledBy q x lines) (turns_keep p lines) r own member (is, h)).1

  served_in_calls : (r : Run) (member : ℕ) (ps : List ℕ) → IsRun o r → (lines : List (machine.Line Request)) → CalledBy q r lines → CalledBy q (served_in o skips r member ps) lines
  served_in_calls r member ps is lines h =
      (served_in_keeps o skips (λ x. IsRun o x × CalledBy q x lines) member (λ x p k. (served_run skips x None p member k.0, served_calls x None p member k.0 lines k.1)) r ps (is, h)).1

  forsaken_calls : (r : Run) (c : ℕ) → IsRun o r → (lines : List (machine.Line Request)) → CalledBy q r lines → CalledBy q (forsaken r c) lines
  forsaken_calls r c is lines h = (forsaken_keeps (λ x. IsRun o x × CalledBy q x lines) (λ x w i k. (waiter_left x w k.0 (contains_in w x.waiters i), ended_keeps x w k.0 i lines k.1)) c r (is, h)).1

  -- events

  none_more : (r : Run) (made : List At) → events_at q made ≡ [] → events_at q (r.events ++ made) ≡ events_at q r.events
  none_more r made none = events_at-append q r.events made ∙ ap (λ xs. events_at q r.events ++ xs) none ∙ append-nil (events_at q r.events)

  not_one : (one : At) → one.partition ≢ q → events_at q (one ∷ []) ≡ []
  not_one one away = ap (λ b. map (λ (e : At). e.event) (cond b (one ∷ []) [])) (number_other one.partition q away)

  -- as the partition is where these have happened
  abbrev with_events : Run → List At → Waiting Request
  with_events r made = record { world = run o (world.start q r.members r.backups) (events_at q made); clock = moment_of r; waiters = listed q r.waiters }

  event_here : (r : Run) (one : At) → one.partition ≡ q
      → (with_events r (r.events ++ one ∷ []) ≡ opened o (waiting_in o r q) (machine.Asks one.event)) × (events_at q (r.events ++ one ∷ []) ≡ events_at q r.events ++ one.event ∷ [])
  event_here r one here =
      let just : events_at q (one ∷ []) ≡ one.event ∷ [] = ap (λ b. map (λ (e : At). e.event) (cond b (one ∷ []) [])) (number_same one.partition q here) in
      let all = events_at-append q r.events (one ∷ []) ∙ ap (λ xs. events_at q r.events ++ xs) just in
      let began : World Request = world.start q r.members r.backups in
      let there = ap (run o began) all ∙ run_append o began (events_at q r.events) (one.event ∷ []) in
      (λ i. record { world = there i; clock = moment_of r; waiters = listed q r.waiters }, all)

  none_here : (r : Run) (made : List At) → events_at q made ≡ [] → (with_events r (r.events ++ made) ≡ waiting_in o r q) × (events_at q (r.events ++ made) ≡ events_at q r.events)
  none_here r made none =
      let same = none_more r made none in
      (λ i. record { world = run o (world.start q r.members r.backups) (same i); clock = moment_of r; waiters = listed q r.waiters }, same)

  -- turns in another partition
  module _ (p : ℕ) (apart : p ≢ q) where
    ended_beside : (r : Run) (w : Waiter) (made : List At) (appended : List Appended) → IsRun o r → In w r.waiters → w.request.partition ≡ p → events_at q made ≡ [] → IsSame r (arrived (without r w) (ending r w) made appended)
    ended_beside r w made appended is there at none =
        (λ i. record { world = run o (world.start q r.members r.backups) (same i); clock = moment_of r; waiters = waiters i }, same)
      where
        same : events_at q (r.events ++ made) ≡ events_at q r.events
        same = none_more r made none

        off : is_in q w ≡ false
        off = number_other w.request.partition q (λ e. apart (sym at ∙ e))

        it : (v : Waiter) → In v r.waiters → is_other w v ≡ false → is_in q v ≡ false
        it v i e =
            let id = same_call v.request.id w.request.id (not_false _ e) in
            let one = named_same waiter_name r.waiters v w (run_ok is).of_waiters.once i there (ap id_name id) in
            ap (is_in q) one ∙ off

        waiters : listed q (filter (is_other w) r.waiters) ≡ listed q r.waiters
        waiters = ap (map as_machine) (one_test (is_in q) (is_other w) r.waiters it)

    beside_turns : (r : Run) → KeepsTurns o skips p (λ x. IsRun o x × IsSame r x)
    beside_turns r = record {
      up = λ x h. (run_given_up x h.0, h.1);
      asked = λ x own w i at h. (waiter_asked skips x own w h.0 (contains_in w x.waiters i), same_then r x (asked o skips (without x w) own (ending x w)) h.1 (made_beside x own w h.0 i at));
      refused = λ x w why i at h. (
        waiter_refused x w why h.0 (contains_in w x.waiters i),
        same_then r x (arrived (without x w) (ending x w) [] (refused_at x.lines w.request why)) h.1 (ended_beside x w [] (refused_at x.lines w.request why) h.0 i at refl),
      );
      left = λ x w i at h. (waiter_left x w h.0 (contains_in w x.waiters i), same_then r x (leaves x w) h.1 (ended_beside x w [] [] h.0 i at refl));
    }
      where
        made_beside : (r : Run) (own : Option ℕ) (w : Waiter) → IsRun o r → In w r.waiters → w.request.partition ≡ p → IsSame r (asked o skips (without r w) own (ending r w))
        made_beside r own w is there at =
            let a = ending r w in
            on_if (IsSame r) (is_skipped skips w.request.id) (arrived (without r w) a [] (refusal a.made a.request (pos want_of_memory) 0 ∷ [])) (arrived (without r w) a (its_event a ∷ []) (happening o (without r w) own a))
            (ended_beside r w [] (refusal a.made a.request (pos want_of_memory) 0 ∷ []) is there at refl)
            (ended_beside r w (its_event a ∷ []) (happening o (without r w) own a) is there at (not_one (its_event a) (λ e. apart (sym at ∙ e))))

    served_beside : (r : Run) (own : Option ℕ) (member : ℕ) → IsRun o r → IsSame r (served o skips r own p member)
    served_beside r own member is = (served_keeps o skips p (λ x. IsRun o x × IsSame r x) (beside_turns r) r own member (is, (refl, refl))).1

    -- so it is with all that a line brings to another one
    beside : (own : Option ℕ) (member : ℕ) (r then : Run) → then.members ≡ r.members → then.backups ≡ r.backups → IsSame r then → ((lines : List (machine.Line Request)) → CalledBy q r lines → CalledBy q then lines)
        → IsRun o then → HasCome r → HasCome (served o skips then own p member)
    beside own member r then members backups same keeps is h =
        let last = served o skips then own p member in
        let kept = served_kept o skips then own p member in
        no_line r last (kept.members ∙ members) (kept.backups ∙ backups) (same_then r then last same (served_beside then own member is)) (λ lines c. served_calls then own p member is lines (keeps lines c)) h

  -- where nobody has a turn
  quietly : (r : Run) (own : Option ℕ) (p member : ℕ) → Only o Nobody r → served o skips r own p member ≡ r
  quietly r own p member only =
      often_none o skips own p member r (length r.waiters)
      (find_none (is_its_turn o r p member) r.waiters (λ w i turn. only w i (second_holds _ _ turn)))

  -- unless the run is given up
  abbrev Goes : Run → Type 0
  Goes r = IsFull r ⊎ HasCome r

  module _ (law : IsLawful o) where
    -- what a line opens with, and the turns of a list
    by_turns : (A : ℕ → ℕ → Type 0) (member : ℕ) → ((k : ℕ) → A q k → ⊥) → (own : Option ℕ) (r then : Run) (l : machine.Line Request) → then.members ≡ r.members → then.backups ≡ r.backups
        → waiting_in o then q ≡ opened o (waiting_in o r q) l → events_at q then.events ≡ events_at q r.events ++ event_in l → KeepsCalled r then (l ∷ []) → IsRun o then → Only o (And A q member) then → HasCome r
        → Goes (served o skips then own q member)
    by_turns A member away own r then l members backups opens happened keeps is only h =
        let t = terms_by skips in
        let next = served o skips then own q member in
        let kept = served_kept o skips then own q member in
        ⊎_elim (λ full. inl full)
        (λ on. inr (one_line r next l (kept.members ∙ members) (kept.backups ∙ backups)
        (on.0 ∙ ap (λ (k : Waiting Request). turned o t (length k.waiters) k) opens)
        (on.1 ∙ (λ i. happened i ++ events_of (gone o t (length (opens i).waiters) (opens i))) ∙ append_assoc (events_at q r.events) (event_in l) (events_of (gone_by o t (waiting_in o r q) l)))
        (λ lines c. served_calls then own q member is (lines ++ l ∷ []) (keeps lines c)) h))
        (served_follows o skips q A member away law own then is only)

    -- what a line opens with in some partition, and the turns of a list there
    module _ (own : Option ℕ) (p member : ℕ) (r then : Run) (l : machine.Line Request) where
      record Opens : Type 0 where
        pub members : then.members ≡ r.members
        pub backups : then.backups ≡ r.backups
        pub here : p ≡ q → (waiting_in o then q ≡ opened o (waiting_in o r q) l) × (events_at q then.events ≡ events_at q r.events ++ event_in l)
        pub brings : p ≡ q → KeepsCalled r then (l ∷ [])
        pub elsewhere : p ≢ q → IsSame r then
        pub keeps : p ≢ q → (lines : List (machine.Line Request)) → CalledBy q r lines → CalledBy q then lines

      opens_goes : Opens → IsRun o then → Only o (And Nobody p member) then → HasCome r → Goes (served o skips then own p member)
      opens_goes opens is only h = ⊎_elim
          (λ same. let here = opens.here same in subst (λ n. Goes (served o skips then own n member)) (sym same)
          (by_turns Nobody member (λ k z. z) own r then l opens.members opens.backups here.0 here.1 (opens.brings same) is (subst (λ n. Only o (And Nobody n member) then) same only) h))
          (λ apart. inr (beside p apart own member r then opens.members opens.backups (opens.elsewhere apart) (opens.keeps apart) is h))
          (number_cases p q)

    -- an event that is no call

    bare_event : (e : Event Request) → asked_by e ≡ [] → names_in (machine.Asks e ∷ []) ≡ []
    bare_event e quiet = ap (λ calls. map name (calls ++ []) ++ []) quiet

    takes_opens : (own : Option ℕ) (p member : ℕ) (r : Run) (e : Event Request) → asked_by e ≡ [] → Opens own p member r (occurred o r p e) (machine.Asks e)
    takes_opens own p member r e quiet = record {
      members = refl;
      backups = refl;
      here = λ same. event_here r (record { partition = p; event = e }) same;
      brings = λ same. bare_line r (machine.Asks e) (bare_event e quiet) refl;
      elsewhere = λ apart. none_here r (record { partition = p; event = e } ∷ []) (not_one (record { partition = p; event = e }) apart);
      keeps = λ apart lines c. c;
    }

    takes_goes_on : (r : Run) (p : ℕ) (e : Event Request) → asked_by e ≡ [] → IsRun o r → Only o Nobody r → HasCome r → Goes (takes o skips r p e)
    takes_goes_on r p e quiet is only h = on_if Goes (meets_full (world_at o r p) e) (given_up r) (served_at o skips then p (stirred_by e)) (inl refl) (go (stirred_by e) refl)
      where
        then : Run
        then = occurred o r p e

        next : IsRun o then
        next = event_occurred r p e is quiet

        go : (stirred : Option ℕ) → stirred_by e ≡ stirred → Goes (served_at o skips then p stirred)
        go None s =
            let nobody : Only o Nobody then = occurred_only o law skips Nobody r p e (run_ok is).members (unstirred o law skips e p quiet s) only in
            subst Goes (quietly then None p 0 nobody) (opens_goes None p 0 r then (machine.Asks e) (takes_opens None p 0 r e quiet) next (λ w i over. absurd (nobody w i over)) h)
        go (Some m) s =
            opens_goes None p m r then (machine.Asks e) (takes_opens None p m r e quiet) next
            (occurred_only o law skips (And Nobody p m) r p e (run_ok is).members (stirred_there o law skips e p m quiet s) only) h

    -- between two steps of a line
    abbrev pub IsBy : Run → Type 0
    IsBy r = IsRun o r × (IsFull r ⊎ (Only o Nobody r × HasCome r))

    both : (r : Run) → Leaving o Nobody r → Goes r → IsFull r ⊎ (Only o Nobody r × HasCome r)
    both r only goes_on = ⊎_elim (λ full. inl full) (λ it. ⊎_elim (λ full. inl full) (λ h. inr (it, h)) goes_on) only

    pub takes_by : (r : Run) (p : ℕ) (e : Event Request) → asked_by e ≡ [] → IsBy r → IsBy (takes o skips r p e)
    takes_by r p e quiet by = (
      takes_run skips r p e by.0 quiet,
      ⊎_elim (λ full. inl (takes_full o skips r p e full))
          (λ h. both (takes o skips r p e) (takes_quiet o law skips r p e quiet ((run_ok by.0).members, inr h.0)).1 (takes_goes_on r p e quiet by.0 h.0 h.1)) by.1,
    )

    -- items

    calls_goes_on : (r : Run) (member : ℕ) (request : Request) → IsRun o r → IsNext r request → Only o Nobody r → HasCome r → Goes (calls o skips r member request)
    calls_goes_on r member request is next only h = by_room (is_full (world_at o r request.partition))
      where
        own : Option ℕ
        own = Some request.id.conn

        p : ℕ
        p = request.partition

        a : Arrival
        a = arrival_at r member request

        missed : Run
        missed = arrived r a [] (refusal a.made a.request (pos want_of_memory) 0 ∷ [])

        made : Run
        made = arrived r a (its_event a ∷ []) (happening o r own a)

        keeps : (lines : List (machine.Line Request)) → CalledBy q r lines → Called q (r.arrivals ++ a ∷ []) r.waiters (waits_in lines) (names_in lines)
        keeps lines c = call_called q r.arrivals r.waiters (waits_in lines) (names_in lines) a refl c

        by_miss : Goes (served o skips missed own p member)
        by_miss =
            subst Goes (sym (quietly missed own p member (still_only o Nobody r missed refl refl refl (append-nil r.events) (λ w i. i) only)))
            (inr (no_line r missed refl refl (none_here r [] refl) keeps h))

        opens : Opens own p member r made (machine.Asks (call_of a))
        opens = record {
          members = refl;
          backups = refl;
          here = λ same. event_here r (its_event a) same;
          brings = λ same lines c. call_line r a lines refl (new_name r member request is next q lines c) c;
          elsewhere = λ apart. none_here r (its_event a ∷ []) (not_one (its_event a) apart);
          keeps = λ apart. keeps;
        }

        by_memory : (b : Bool) → IsRun o (cond b missed made) → Goes (served o skips (cond b missed made) own p member)
        by_memory true ran = by_miss
        by_memory false ran =
            opens_goes own p member r made (machine.Asks (call_of a)) opens ran
            (event_only o law (And Nobody p member) p r made (its_event a) (run_ok is).members refl refl refl refl refl (λ w i. i) (λ k at. inr (refl, sym at)) (λ w i over. absurd (only w i over))) h

        by_room : (full : Bool) → Goes (served o skips (cond full (given_up (arrived r a [] [])) (asked o skips r own a)) own p member)
        by_room true = inl (served_full o skips (given_up (arrived r a [] [])) own p member refl)
        by_room false = by_memory (is_skipped skips request.id) (call_asked skips r own member request is next)

    begins_goes_on : (r : Run) (member : ℕ) (request : Request) (timeout : ℤ) → IsRun o r → IsNext r request → Only o Nobody r → HasCome r → Goes (begins_to_wait o skips r member request timeout)
    begins_goes_on r member request timeout is next only h = opens_goes own p member r then (machine.Waits (as_machine w)) opens (waiter_came r member request w.deadline is next) (waits_only o r w only) h
      where
        own : Option ℕ
        own = Some request.id.conn

        p : ℕ
        p = request.partition

        w : Waiter
        w = waiter_at r member request timeout

        then : Run
        then = waits r w

        here : p ≡ q → (waiting_in o then q ≡ opened o (waiting_in o r q) (machine.Waits (as_machine w))) × (events_at q then.events ≡ events_at q r.events ++ [])
        here same =
            let joined : listed q (r.waiters ++ w ∷ []) ≡ listed q r.waiters ++ as_machine w ∷ [] = listed-append q r.waiters (w ∷ []) ∙ ap (λ xs. listed q r.waiters ++ xs) (listed_here q w [] same) in
            (λ i. record { world = world_at o r q; clock = moment_of r; waiters = joined i }, sym (append-nil (events_at q r.events)))

        elsewhere : p ≢ q → IsSame r then
        elsewhere apart =
            let joined : listed q (r.waiters ++ w ∷ []) ≡ listed q r.waiters = listed-append q r.waiters (w ∷ []) ∙ ap (λ xs. listed q r.waiters ++ xs) (listed_other q w [] apart) ∙ append-nil (listed q r.waiters) in
            (λ i. record { world = world_at o r q; clock = moment_of r; waiters = joined i }, refl)

        opens : Opens own p member r then (machine.Waits (as_machine w))
        opens = record {
          members = refl;
          backups = refl;
          here = here;
          brings = λ same lines c. wait_line r w lines same (new_name r member request is next q lines c) c;
          elsewhere = elsewhere;
          keeps = λ apart lines c. waiter_elsewhere q r.arrivals r.waiters (waits_in lines) (names_in lines) w apart c;
        }

    item_by : (r : Run) (k : Connection) (item : Item) → IsRun o (handled o skips r k item) → (Only o Nobody r → HasCome r → Goes (handled o skips r k item)) → IsBy r → IsBy (handled o skips r k item)
    item_by r k item is on by = (
      is,
      ⊎_elim (λ full. inl (handled_full o skips r k item full)) (λ h. both (handled o skips r k item) (handled_nobody o law skips r k item (run_ok by.0).members h.0) (on h.0 h.1)) by.1,
    )

    pub items_by_line : (r : Run) (k : Connection) (bytes : List ℕ) (number : ℕ) (items : List Item) → IsBy r → MayAsk r (with_bytes k bytes) number → AreNumbered k.conn number items
        → number + length items ≤ length (messages_on (with_bytes k bytes)) → IsBy (handled_all o skips r k items)
    items_by_line r k bytes number [] by may numbered room = by
    items_by_line r k bytes number (Reply answer ∷ items) by may numbered room =
        let next = told r k.conn answer in
        items_by_line next k bytes (number + 1) items
        (item_by r k (Reply answer) (answer_told r k.conn answer by.0) (λ only h. inr (no_line r next refl refl (refl, refl) (λ lines c. c) h)) by)
        (may_ask_after r (with_bytes k bytes) number k.conn answer may) numbered.1 (omega (arith, room))
    items_by_line r k bytes number (Register registration ∷ items) by may numbered room =
        let next = registers o r k.conn k.member registration in
        items_by_line next k bytes (number + 1) items
        (item_by r k (Register registration) (registers_run r (with_bytes k bytes) k.member registration by.0 may.there) (λ only h. inr (no_line r next refl refl (refl, refl) (λ lines c. c) h)) by)
        (may_ask_registered o r (with_bytes k bytes) number k.conn k.member registration may) numbered.1 (omega (arith, room))
    items_by_line r k bytes number (Wait request timeout ∷ items) by may numbered room =
        let next = is_next r (with_bytes k bytes) number request may (omega (arith, room)) numbered.0.0 numbered.0.1 in
        let last = begins_to_wait o skips r k.member request timeout in
        items_by_line last k bytes (number + 1) items
        (item_by r k (Wait request timeout) (begins_run skips r k.member request timeout by.0 next) (begins_goes_on r k.member request timeout by.0 next) by)
        (may_begin r (with_bytes k bytes) number request may numbered.0.0 o skips k.member timeout) numbered.1 (omega (arith, room))
    items_by_line r k bytes number (Asks request ∷ items) by may numbered room =
        let next = is_next r (with_bytes k bytes) number request may (omega (arith, room)) numbered.0.0 numbered.0.1 in
        let last = calls o skips r k.member request in
        items_by_line last k bytes (number + 1) items
        (item_by r k (Asks request) (calls_run skips r k.member request by.0 next) (calls_goes_on r k.member request by.0 next) by)
        (may_calls r (with_bytes k bytes) number request may numbered.0.0 o skips k.member) numbered.1 (omega (arith, room))

    -- a close

    forsaken_goes_on : (r : Run) (c : ℕ) → IsRun o r → Only o Nobody r → HasCome r → Goes (forsaken r c)
    forsaken_goes_on r c is only h = go (is_open (connection_of r c)) refl
      where
        then : Run
        then = forsaken r c

        same : then.events ≡ r.events
        same = forsaken_keeps (λ x. x.events ≡ r.events) (λ x w i e. append-nil x.events ∙ e) c r refl

        by_none : Only o Nobody then → is_open (connection_of r c) ≡ false → Goes then
        by_none nobody closed =
            let kept = forsaken_kept r c in
            let left = ap (listed q) (forsaken_waiters r c closed) ∙ closed_listed q c r.waiters in
            subst Goes (quietly then None q 0 nobody)
            (by_turns Nobody 0 (λ k z. z) None r then (machine.Closes c) kept.members kept.backups
            (λ i. record { world = run o (world.start q (kept.members i) (kept.backups i)) (events_at q (same i)); clock = λ m. unwrap_or (slice_get (kept.moments i) m) 0; waiters = left i })
            (ap (events_at q) same ∙ sym (append-nil (events_at q r.events)))
            (λ lines k. forsaken_calls r c is (lines ++ machine.Closes c ∷ []) (bare_line r (machine.Closes c) refl refl lines k))
            (forsaken_run skips r c is) (λ w i over. absurd (nobody w i over)) h)

        go : (b : Bool) → is_open (connection_of r c) ≡ b → Goes then
        go true lasts = subst Goes (sym (forsaken_open r c lasts)) (inr h)
        go false closed = ⊎_elim (λ full. inl full) (λ nobody. by_none nobody closed) (forsaken_nobody o law skips r c (inr only))

    pub forsaken_by : (r : Run) (c : ℕ) → IsBy r → IsBy (forsaken r c)
    forsaken_by r c by = (
      forsaken_run skips r c by.0,
      ⊎_elim (λ full. inl (forsaken_full r c full)) (λ h. both (forsaken r c) (forsaken_nobody o law skips r c (inr h.0)) (forsaken_goes_on r c by.0 h.0 h.1)) by.1,
    )

    -- the moment of a member
    module _ (r : Run) (member moment : ℕ) (is : IsRun o r) (only : Only o Nobody r) (h : HasCome r) where
      abbrev set : Run
      set = clock_set r member moment

      abbrev now_served : ℕ → Run
      now_served n = served_in o skips set member (numbers_below n)

      set_run : IsRun o set
      set_run = clock_was_set r member moment is

      ran : (n : ℕ) → IsRun o (now_served n)
      ran n = served_in_run skips set member (numbers_below n) set_run

      -- also where the number is no member's
      its_clock : (k : ℕ) → moment_of set k ≡ cond (k == member) (moment_of set member) (moment_of r k)
      its_clock k = ⊎_elim
          (λ same. ap (moment_of set) same ∙ sym (ap (λ b. cond b (moment_of set member) (moment_of r k)) (number_same k member same)))
          (λ other. ap (λ (x : Option ℕ). unwrap_or x 0) (set_get_other r.moments member k moment other) ∙ sym (ap (λ b. cond b (moment_of set member) (moment_of r k)) (number_other k member other)))
          (number_cases k member)

      abbrev its_line : machine.Line Request
      its_line = machine.Clock member (moment_of set member)

      opens : waiting_in o set q ≡ opened o (waiting_in o r q) its_line
      opens = λ i. record { world = world_at o r q; clock = λ k. its_clock k i; waiters = listed q r.waiters }

      -- the partition is still to come, or had its turns
      abbrev IsAt : ℕ → Run → Type 0
      IsAt n x = IsFull x ⊎ (((n ≤ q) × IsSame set x) ⊎ ((n ≤ q → ⊥) × HasCome x))

      lists : (n : ℕ) → IsAt n (now_served n)
      lists zero = inr (inl (omega arith, (refl, refl)))
      lists (suc n) = subst (IsAt (suc n)) (sym (served_in_more o skips set member n)) (⊎_elim (λ full. inl (served_full o skips mid None n member full)) further (lists n))
        where
          mid : Run
          mid = now_served n

          next : Run
          next = served o skips mid None n member

          kept_mid : Kept set mid
          kept_mid = served_in_kept o skips set member (numbers_below n)

          kept : Kept mid next
          kept = served_kept o skips mid None n member

          split : (p k : ℕ) → From n member p k → And (From (suc n) member) n member p k
          split p k at = ⊎_elim (λ same. inr (same, at.0)) (λ other. let low = at.1 in inl (at.0, omega (arith, other, low))) (number_cases p n)

          by_list : n ≡ q → IsSame set mid → Only o (From n member) mid → IsAt (suc n) next
          by_list here same busy =
              let turns = by_turns (From (suc n) member) member (λ k at. (let low = at.1 in omega (arith, low, here))) None r mid its_line kept_mid.members kept_mid.backups
              (same.0 ∙ opens) (same.1 ∙ sym (append-nil (events_at q r.events)))
              (λ lines c. served_in_calls set member (numbers_below n) set_run (lines ++ its_line ∷ []) (bare_line r its_line refl refl lines c)) (ran n)
              (subst (λ p. Only o (And (From (suc n) member) p member) mid) here (λ w i over. split w.request.partition w.member (busy w i over))) h in
              ⊎_elim (λ full. inl full) (λ on. inr (inr ((λ low. omega (arith, low, here)), on))) (subst (λ p. Goes (served o skips mid None p member)) (sym here) turns)

          its_list : n ≡ q → IsSame set mid → IsAt (suc n) next
          its_list here same = ⊎_elim (λ full. inl (served_full o skips mid None n member full)) (by_list here same) (lists_only o law skips set member n (run_ok is).members (inr (set_only o law skips r member moment only)))

          further : ((n ≤ q) × IsSame set mid) ⊎ ((n ≤ q → ⊥) × HasCome mid) → IsAt (suc n) next
          further (inl (low, same)) = ⊎_elim
              (λ here. its_list here same)
              (λ other. inr (inl (omega (arith, low, other), same_then set mid next same (served_beside n other mid None member (ran n)))))
              (number_cases n q)
          further (inr (past, on)) =
              inr (inr ((λ low. past (omega (arith, low))), beside n (λ e. past (omega (arith, e))) None member mid mid refl refl (refl, refl) (λ lines c. c) (ran n) on))

      pub clock_goes_on : q < partitions → IsFull (now_served partitions) ⊎ HasCome (now_served partitions)
      clock_goes_on low = ⊎_elim (λ full. inl full) (λ on. ⊎_elim (λ same. absurd (let reached = same.0 in omega (arith, reached, low))) (λ past. inr past.1) on) (lists partitions)

    -- nothing that matters has changed
    pub still_by : (r next : Run) → IsRun o next → next.members ≡ r.members → next.backups ≡ r.backups → next.moments ≡ r.moments → next.events ≡ r.events → next.arrivals ≡ r.arrivals → next.waiters ≡ r.waiters → next.full ≡ r.full → IsBy r → IsBy next
    still_by r next is members backups moments happened come waiters full by = (
      is,
      ⊎_elim
          (λ up. inl (full ∙ up))
          (λ h. inr (
            still_only o Nobody r next members backups moments happened (λ w i. subst (In w) waiters i) h.0,
            no_line r next members backups
                (λ i. record { world = run o (world.start q (members i) (backups i)) (events_at q (happened i)); clock = λ m. unwrap_or (slice_get (moments i) m) 0; waiters = listed q (waiters i) }, ap (events_at q) happened)
                (λ lines c. subst (λ came. Called q came next.waiters (waits_in lines) (names_in lines)) (sym come) (subst (λ ws. Called q r.arrivals ws (waits_in lines) (names_in lines)) (sym waiters) c)) h.1,
          )) by.1,
    )

    pub clock_by : q < partitions → (r : Run) (member moment : ℕ) → Leaving o Nobody (served_in o skips (clock_set r member moment) member (numbers_below partitions)) → IsBy r → IsBy (served_in o skips (clock_set r member moment) member (numbers_below partitions))
    clock_by low r member moment nobody by = (
      served_in_run skips (clock_set r member moment) member (numbers_below partitions) (clock_was_set r member moment by.0),
      ⊎_elim (λ full. inl (served_in_full o skips (clock_set r member moment) member (numbers_below partitions) full))
          (λ h. both (served_in o skips (clock_set r member moment) member (numbers_below partitions)) nobody (clock_goes_on r member moment by.0 h.0 h.1 low)) by.1,
    )
