-- What each line of a script does to one partition is a line of its machine, or several, or none.
use Rattle.std.proofs.Common.{◌≡◌, ◌≢◌, ℤ, ℕ, zero, suc, ◌≤◌, ◌<◌, ◌+◌, Bool, true, false, not, ◌==◌, cond, List, [], ◌∷◌, ◌++◌, length, map, filter, slice_get, pos, Option, Some, None, refl, ap, sym, ◌∙◌, subst, ◌⊎◌, ⊎_elim, inl, inr, arith, append-nil, append_assoc, true≢false}
use Rattle.std.specs.Option.{unwrap_or}
use Rattle.grid_base.specs.Errors.{want_of_memory}
use Rattle.grid_base.specs.Objects.{Object}
use Rattle.grid_base.specs.declared.names.CallId.{CallId}
use Rattle.grid_base.specs.declared.calls.Request.{Request}
use Rattle.object_store.specs.Partitions.{Partition}
use Rattle.partition_protocol.specs.Arrivals.{asked_by}
use Rattle.partition_protocol.specs.Claims.{IsLawful}
use Rattle.partition_protocol.specs.Events.{Event, run}
use Rattle.partition_protocol.specs.Events as event
use Rattle.partition_protocol.specs.Service.{numbers_below}
use Rattle.partition_protocol.specs.World as world
use Rattle.partition_protocol.specs.World.{World}
use Rattle.partition_protocol.proofs.Extends.{run_append}
use Rattle.partition_protocol.proofs.Lists.{In, contains_in, on_if, set_get_other}
use Rattle.partition_protocol.proofs.RowFacts.{number_cases, number_same, number_other}
use Rattle.call_engine.specs.Objects.{partition_object}
use Rattle.script_lang.specs.declared.line.Line.{Line}
use Rattle.script_lang.specs.declared.line.Line.TheVariants.{OpenConn, Arrive, Clock, Flow, FlowAll, Rebalance}
use Rattle.script_lang.specs.declared.line.Line.TheVariants as line
use Rattle.session_core.specs.declared.item.Item.{Item}
use Rattle.session_core.specs.declared.item.Item.TheVariants.{Call as Asks, Wait, Register, Reply}
use Rattle.waiting_protocol.specs.Machine.{Waiting, opened, event_in, goes, gone_by, events_by, after, events, start, events_of, turned, gone}
use Rattle.waiting_protocol.specs.Machine as machine
use Rattle.waiting_protocol.proofs.Orders.{lines_append}
use Rattle.replay_run.specs.AfterLines.{after_event, after_line, after_lines}
use Rattle.replay_run.specs.ByMachine.{terms_by, HasGoneBy, EveryPartitionGoesByItsMachine}
use Rattle.replay_run.specs.Runs.{Run, At, Connection, Arrival, Waiter, Appended, partitions, begun, events_at, world_at, moment_of, connection_of, is_open, can_open, next_line, clock_set, took_bytes, takes_bytes, items_by, bytes_arrived, with_bytes, messages_on, call_of, arrival_at, is_full, is_skipped, refusal, refused_at, happening, arrived, told, registers, delivery_on, asked, asks, given_up, waiter_at, waits, without, ending, leaves, as_machine, is_its_turn, served, served_in, forsaken, calls, begins_to_wait, handled, handled_all, occurred, stirred_by, served_at, meets_full, takes, event_by}
use Rattle.replay_run.specs.Runs as runs
use Rattle.replay_run.specs.ScriptRuns.{MayAsk, IsNext, IsRun, grid_begun, line_counted, clock_was_set, event_occurred, run_given_up, call_asked, waiter_came, waiter_asked, waiter_refused, waiter_left, answer_told}
use Rattle.replay_run.specs.Staying.{waiting_in}
use Rattle.replay_run.proofs.ByMachine.{is_in, listed, listed-append, listed_here, served_follows}
use Rattle.replay_run.proofs.EventRuns.{Kept, IsFull, is_other, events_at-append, served_kept, served_in_kept, served_full, served_in_full, served_in_run, forsaken_kept, forsaken_run, takes_run, takes_full, forsaken_full, handled_full, takes_in_keeps, flowed_keeps, flowed_in_keeps}
use Rattle.replay_run.proofs.Items.{AreNumbered, items_room}
use Rattle.replay_run.proofs.Leaving.{stays, two_tests, forsaken_waiters, forsaken_open}
use Rattle.replay_run.proofs.Lines.{IsNoCall, events_are_no_calls, line_run, connection_there, has_taken, is_next, calls_run, begins_run, registers_run, may_calls, may_begin, may_ask_after, may_ask_registered}
use Rattle.replay_run.proofs.Lookups.{find_none}
use Rattle.replay_run.proofs.Parts.{named_same}
use Rattle.replay_run.proofs.Places.{same_call}
use Rattle.replay_run.proofs.Rebalanced.{rebalance_keeps}
use Rattle.replay_run.proofs.RunFacts.{waiter_name, id_name}
use Rattle.replay_run.proofs.RunsOfLines.{run_ok}
use Rattle.replay_run.proofs.Serving.{often_none, served_in_more, second_holds}
use Rattle.replay_run.proofs.Staying.{Only, And, From, Nobody, Leaving, lawful, still_only, event_only, occurred_only, unstirred, stirred_there, takes_quiet, set_only, lists_only, handled_nobody, forsaken_nobody, waits_only, line_nobody}
use Rattle.replay_run.proofs.Turns.{its_event, KeepsTurns, served_keeps, forsaken_keeps}

-- one line more

after_more : {C State : Type 0} (o : Object C State) (t : machine.Terms C) (j : Waiting C) (ls : List (machine.Line C)) (l : machine.Line C) → after o t j (ls ++ l ∷ []) ≡ goes o t (after o t j ls) l
after_more o t j [] l = refl
after_more o t j (k ∷ ls) l = after_more o t (goes o t j k) ls l

events_more : {C State : Type 0} (o : Object C State) (t : machine.Terms C) (j : Waiting C) (ls : List (machine.Line C)) (l : machine.Line C) → events o t j (ls ++ l ∷ []) ≡ events o t j ls ++ events_by o t (after o t j ls) l
events_more o t j ls l = lines_append o t j ls (l ∷ []) ∙ ap (λ es. events o t j ls ++ es) (append-nil (events_by o t (after o t j ls) l))

-- who waits elsewhere

listed_other : (q : ℕ) (w : Waiter) (ws : List Waiter) → w.request.partition ≢ q → listed q (w ∷ ws) ≡ listed q ws
listed_other q w ws away = ap (λ b. map as_machine (cond b (w ∷ filter (is_in q) ws) (filter (is_in q) ws))) (number_other w.request.partition q away)

-- of those who pass the first test all pass the second
one_test : (f g : Waiter → Bool) (xs : List Waiter) → ((x : Waiter) → In x xs → g x ≡ false → f x ≡ false) → filter f (filter g xs) ≡ filter f xs
one_test f g [] h = refl
one_test f g (x ∷ xs) h = go (g x) refl (one_test f g xs (λ y i. h y (inr i)))
  where
    go : (b : Bool) → g x ≡ b → filter f (filter g xs) ≡ filter f xs → filter f (cond b (x ∷ filter g xs) (filter g xs)) ≡ filter f (x ∷ xs)
    go true e rest = ap (λ ys. cond (f x) (x ∷ ys) ys) rest
    go false e rest = rest ∙ sym (ap (λ b. cond b (x ∷ filter f xs) (filter f xs)) (h x (inl refl) e))

not_false : (b : Bool) → not b ≡ false → b ≡ true
not_false true e = refl
not_false false e = absurd cc

-- those of a connection that closes, as the machine has it

filter_listed : (c : ℕ) (ws : List Waiter) → filter (λ (x : machine.Waiter Request). not (x.conn == c)) (map as_machine ws) ≡ map as_machine (filter (stays c) ws)
filter_listed c [] = refl
filter_listed c (w ∷ ws) = go (stays c w) (filter_listed c ws)
  where
    rest : List (machine.Waiter Request)
    rest = filter (λ (x : machine.Waiter Request). not (x.conn == c)) (map as_machine ws)

    go : (b : Bool) → rest ≡ map as_machine (filter (stays c) ws) → cond b (as_machine w ∷ rest) rest ≡ map as_machine (cond b (w ∷ filter (stays c) ws) (filter (stays c) ws))
    go true e = ap (λ xs. as_machine w ∷ xs) e
    go false e = e

closed_listed : (q c : ℕ) (ws : List Waiter) → listed q (filter (stays c) ws) ≡ filter (λ (x : machine.Waiter Request). not (x.conn == c)) (listed q ws)
closed_listed q c ws = ap (map as_machine) (two_tests (is_in q) (stays c) ws) ∙ sym (filter_listed c (filter (is_in q) ws))

-- of one partition
module _ (o : Object Request Partition) (skips : List CallId) (q : ℕ) where
  -- the same has happened in it, and the same wait
  abbrev IsSame : Run → Run → Type 0
  IsSame r next = (waiting_in o next q ≡ waiting_in o r q) × (events_at q next.events ≡ events_at q r.events)

  abbrev same_then : (r mid next : Run) → IsSame r mid → IsSame mid next → IsSame r next
  same_then r mid next a b = (b.0 ∙ a.0, b.1 ∙ a.1)

  no_line : (r next : Run) → next.members ≡ r.members → next.backups ≡ r.backups → IsSame r next → HasGoneBy o skips r q → HasGoneBy o skips next q
  no_line r next members backups same h = record {
    lines = h.lines;
    states = same.0 ∙ h.states ∙ (λ i. after o (terms_by skips) (start q (sym members i) (sym backups i)) h.lines);
    happened = same.1 ∙ h.happened ∙ (λ i. events o (terms_by skips) (start q (sym members i) (sym backups i)) h.lines);
  }

  one_line : (r next : Run) (l : machine.Line Request) → next.members ≡ r.members → next.backups ≡ r.backups → waiting_in o next q ≡ goes o (terms_by skips) (waiting_in o r q) l
      → events_at q next.events ≡ events_at q r.events ++ events_by o (terms_by skips) (waiting_in o r q) l → HasGoneBy o skips r q → HasGoneBy o skips next q
  one_line r next l members backups states happened h =
      let t = terms_by skips in
      let began : Waiting Request = start q r.members r.backups in
      record {
        lines = h.lines ++ l ∷ [];
        states = states ∙ ap (λ j. goes o t j l) h.states ∙ sym (after_more o t began h.lines l) ∙ (λ i. after o t (start q (sym members i) (sym backups i)) (h.lines ++ l ∷ []));
        happened = happened ∙ (λ i. h.happened i ++ events_by o t (h.states i) l) ∙ sym (events_more o t began h.lines l) ∙ (λ i. events o t (start q (sym members i) (sym backups i)) (h.lines ++ l ∷ []));
      }

  -- where these events come
  more_world : (r : Run) (made : List At) (es : List (Event Request)) → events_at q made ≡ es
      → (run o (world.start q r.members r.backups) (events_at q (r.events ++ made)) ≡ run o (world_at o r q) es) × (events_at q (r.events ++ made) ≡ events_at q r.events ++ es)
  more_world r made es e =
      let all = events_at-append q r.events made ∙ ap (λ xs. events_at q r.events ++ xs) e in
      let began : World Request = world.start q r.members r.backups in
      (ap (run o began) all ∙ run_append o began (events_at q r.events) es, all)

  none_more : (r : Run) (made : List At) → events_at q made ≡ [] → events_at q (r.events ++ made) ≡ events_at q r.events
  none_more r made none = events_at-append q r.events made ∙ ap (λ xs. events_at q r.events ++ xs) none ∙ append-nil (events_at q r.events)

  just_one : (one : At) → one.partition ≡ q → events_at q (one ∷ []) ≡ one.event ∷ []
  just_one one here = ap (λ b. map (λ (e : At). e.event) (cond b (one ∷ []) [])) (number_same one.partition q here)

  not_one : (one : At) → one.partition ≢ q → events_at q (one ∷ []) ≡ []
  not_one one away = ap (λ b. map (λ (e : At). e.event) (cond b (one ∷ []) [])) (number_other one.partition q away)

  -- turns in another partition
  module _ (p : ℕ) (apart : p ≢ q) where
    ended_beside : (r : Run) (w : Waiter) (made : List At) (appended : List Appended) → IsRun o r → In w r.waiters → w.request.partition ≡ p → events_at q made ≡ [] → IsSame r (arrived (without r w) (ending r w) made appended)
    ended_beside r w made appended is there at none =
        (λ i. record { world = run o (world.start q r.members r.backups) (same i); clock = moment_of r; waiters = waiters i }, same)
      where
        same : events_at q (r.events ++ made) ≡ events_at q r.events
        same = none_more r made none

        off : is_in q w ≡ false
        off = number_other w.request.partition q (λ e. apart (sym at ∙ e))

        it : (v : Waiter) → In v r.waiters → is_other w v ≡ false → is_in q v ≡ false
        it v i e =
            let id = same_call v.request.id w.request.id (not_false _ e) in
            let one = named_same waiter_name r.waiters v w (run_ok is).of_waiters.once i there (ap id_name id) in
            ap (is_in q) one ∙ off

        waiters : listed q (filter (is_other w) r.waiters) ≡ listed q r.waiters
        waiters = ap (map as_machine) (one_test (is_in q) (is_other w) r.waiters it)

    made_beside : (r : Run) (own : Option ℕ) (w : Waiter) → IsRun o r → In w r.waiters → w.request.partition ≡ p → IsSame r (asked o skips (without r w) own (ending r w))
    made_beside r own w is there at =
        let a = ending r w in
        on_if (IsSame r) (is_skipped skips w.request.id) (arrived (without r w) a [] (refusal a.made a.request (pos want_of_memory) 0 ∷ [])) (arrived (without r w) a (its_event a ∷ []) (happening o (without r w) own a))
        (ended_beside r w [] (refusal a.made a.request (pos want_of_memory) 0 ∷ []) is there at refl)
        (ended_beside r w (its_event a ∷ []) (happening o (without r w) own a) is there at (not_one (its_event a) (λ e. apart (sym at ∙ e))))

    beside_turns : (r : Run) → KeepsTurns o skips p (λ x. IsRun o x × IsSame r x)
    beside_turns r = record {
      up = λ x h. (run_given_up x h.0, h.1);
      asked = λ x own w i at h. (waiter_asked skips x own w h.0 (contains_in w x.waiters i), same_then r x (asked o skips (without x w) own (ending x w)) h.1 (made_beside x own w h.0 i at));
      refused = λ x w why i at h. (
        waiter_refused x w why h.0 (contains_in w x.waiters i),
        same_then r x (arrived (without x w) (ending x w) [] (refused_at x.lines w.request why)) h.1 (ended_beside x w [] (refused_at x.lines w.request why) h.0 i at refl),
      );
      left = λ x w i at h. (waiter_left x w h.0 (contains_in w x.waiters i), same_then r x (leaves x w) h.1 (ended_beside x w [] [] h.0 i at refl));
    }

    served_beside : (r : Run) (own : Option ℕ) (member : ℕ) → IsRun o r → IsSame r (served o skips r own p member)
    served_beside r own member is = (served_keeps o skips p (λ x. IsRun o x × IsSame r x) (beside_turns r) r own member (is, (refl, refl))).1

  -- where nobody has a turn
  quietly : (r : Run) (own : Option ℕ) (p member : ℕ) → Only o Nobody r → served o skips r own p member ≡ r
  quietly r own p member only =
      often_none o skips own p member r (length r.waiters)
      (find_none (is_its_turn o r p member) r.waiters (λ w i turn. only w i (second_holds _ _ turn)))

  -- unless the run is given up
  abbrev Goes : Run → Type 0
  Goes r = IsFull r ⊎ HasGoneBy o skips r q

  module _ (law : IsLawful o) where
    -- what a line opens with, and the turns of a list
    by_turns : (A : ℕ → ℕ → Type 0) (member : ℕ) → ((k : ℕ) → A q k → ⊥) → (own : Option ℕ) (r then : Run) (l : machine.Line Request) → then.members ≡ r.members → then.backups ≡ r.backups
        → waiting_in o then q ≡ opened o (waiting_in o r q) l → events_at q then.events ≡ events_at q r.events ++ event_in l → IsRun o then → Only o (And A q member) then → HasGoneBy o skips r q → Goes (served o skips then own q member)
    by_turns A member away own r then l members backups opens happened is only h =
        let t = terms_by skips in
        let next = served o skips then own q member in
        let kept = served_kept o skips then own q member in
        ⊎_elim (λ full. inl full)
        (λ on. inr (one_line r next l (kept.members ∙ members) (kept.backups ∙ backups)
        (on.0 ∙ ap (λ (k : Waiting Request). turned o t (length k.waiters) k) opens)
        (on.1 ∙ (λ i. happened i ++ events_of (gone o t (length (opens i).waiters) (opens i))) ∙ append_assoc (events_at q r.events) (event_in l) (events_of (gone_by o t (waiting_in o r q) l)))
        h))
        (served_follows o skips q A member away law own then is only)

    -- what a line opens with, where nobody has a turn
    by_none : (r then : Run) (l : machine.Line Request) → then.members ≡ r.members → then.backups ≡ r.backups → waiting_in o then q ≡ opened o (waiting_in o r q) l → events_at q then.events ≡ events_at q r.events ++ event_in l
        → IsRun o then → Only o Nobody then → HasGoneBy o skips r q → Goes then
    by_none r then l members backups opens happened is only h =
        subst Goes (quietly then None q 0 only) (by_turns Nobody 0 (λ k z. z) None r then l members backups opens happened is (λ w i over. absurd (only w i over)) h)

    -- an event that is no call

    occurs : (r : Run) (event : Event Request) → (waiting_in o (occurred o r q event) q ≡ opened o (waiting_in o r q) (machine.Asks event)) × (events_at q (occurred o r q event).events ≡ events_at q r.events ++ event ∷ [])
    occurs r event =
        let one : At = record { partition = q; event = event } in
        let more = more_world r (one ∷ []) (event ∷ []) (just_one one refl) in
        (λ i. record { world = more.0 i; clock = moment_of r; waiters = listed q r.waiters }, more.1)

    takes_here : (r : Run) (event : Event Request) → asked_by event ≡ [] → IsRun o r → Only o Nobody r → HasGoneBy o skips r q → Goes (served_at o skips (occurred o r q event) q (stirred_by event))
    takes_here r event quiet is only h = go (stirred_by event) refl
      where
        then : Run
        then = occurred o r q event

        next : IsRun o then
        next = event_occurred r q event is quiet

        go : (stirred : Option ℕ) → stirred_by event ≡ stirred → Goes (served_at o skips then q stirred)
        go None e = by_none r then (machine.Asks event) refl refl (occurs r event).0 (occurs r event).1 next (occurred_only o law skips Nobody r q event (run_ok is).members (unstirred o law skips event q quiet e) only) h
        go (Some m) e =
            by_turns Nobody m (λ k z. z) None r then (machine.Asks event) refl refl (occurs r event).0 (occurs r event).1 next
            (occurred_only o law skips (And Nobody q m) r q event (run_ok is).members (stirred_there o law skips event q m quiet e) only) h

    takes_beside : (r : Run) (p : ℕ) (event : Event Request) → p ≢ q → asked_by event ≡ [] → IsRun o r → HasGoneBy o skips r q → Goes (served_at o skips (occurred o r p event) p (stirred_by event))
    takes_beside r p event apart quiet is h = go (stirred_by event)
      where
        one : At
        one = record { partition = p; event = event }

        then : Run
        then = occurred o r p event

        same : IsSame r then
        same = let none = none_more r (one ∷ []) (not_one one apart) in (λ i. record { world = run o (world.start q r.members r.backups) (none i); clock = moment_of r; waiters = listed q r.waiters }, none)

        go : (stirred : Option ℕ) → Goes (served_at o skips then p stirred)
        go None = inr (no_line r then refl refl same h)
        go (Some m) =
            let kept = served_kept o skips then None p m in
            let next = served o skips then None p m in
            inr (no_line r next kept.members kept.backups (same_then r then next same (served_beside p apart then None m (event_occurred r p event is quiet))) h)

    takes_at : (r : Run) (p : ℕ) (event : Event Request) → asked_by event ≡ [] → IsRun o r → Only o Nobody r → HasGoneBy o skips r q → (p ≡ q) ⊎ (p ≢ q) → Goes (served_at o skips (occurred o r p event) p (stirred_by event))
    takes_at r p event quiet is only h (inl same) = subst (λ n. Goes (served_at o skips (occurred o r n event) n (stirred_by event))) (sym same) (takes_here r event quiet is only h)
    takes_at r p event quiet is only h (inr apart) = takes_beside r p event apart quiet is h

    takes_goes_on : (r : Run) (p : ℕ) (event : Event Request) → asked_by event ≡ [] → IsRun o r → Only o Nobody r → HasGoneBy o skips r q → Goes (takes o skips r p event)
    takes_goes_on r p event quiet is only h =
        on_if Goes (meets_full (world_at o r p) event) (given_up r) (served_at o skips (occurred o r p event) p (stirred_by event)) (inl refl) (takes_at r p event quiet is only h (number_cases p q))

    -- between two steps of a line
    abbrev IsBy : Run → Type 0
    IsBy r = IsRun o r × (IsFull r ⊎ (Only o Nobody r × HasGoneBy o skips r q))

    both : (r : Run) → Leaving o Nobody r → Goes r → IsFull r ⊎ (Only o Nobody r × HasGoneBy o skips r q)
    both r only goes_on = ⊎_elim (λ full. inl full) (λ it. ⊎_elim (λ full. inl full) (λ h. inr (it, h)) goes_on) only

    takes_by : (r : Run) (p : ℕ) (event : Event Request) → asked_by event ≡ [] → IsBy r → IsBy (takes o skips r p event)
    takes_by r p event quiet by = (
      takes_run skips r p event by.0 quiet,
      ⊎_elim (λ full. inl (takes_full o skips r p event full))
          (λ h. both (takes o skips r p event) (takes_quiet o law skips r p event quiet ((run_ok by.0).members, inr h.0)).1 (takes_goes_on r p event quiet by.0 h.0 h.1)) by.1,
    )

    -- items

    calls_goes_on : (r : Run) (member : ℕ) (request : Request) → IsRun o r → IsNext r request → Only o Nobody r → HasGoneBy o skips r q → Goes (calls o skips r member request)
    calls_goes_on r member request is next only h = by_room (is_full (world_at o r request.partition))
      where
        own : Option ℕ
        own = Some request.id.conn

        p : ℕ
        p = request.partition

        a : Arrival
        a = arrival_at r member request

        missed : Run
        missed = arrived r a [] (refusal a.made a.request (pos want_of_memory) 0 ∷ [])

        made : Run
        made = arrived r a (its_event a ∷ []) (happening o r own a)

        by_miss : Goes (served o skips missed own p member)
        by_miss =
            let none = none_more r [] refl in
            subst Goes (sym (quietly missed own p member (still_only o Nobody r missed refl refl refl (append-nil r.events) (λ w i. i) only)))
            (inr (no_line r missed refl refl (λ i. record { world = run o (world.start q r.members r.backups) (none i); clock = moment_of r; waiters = listed q r.waiters }, none) h))

        by_call : IsRun o made → Goes (served o skips made own p member)
        by_call ran = ⊎_elim here elsewhere (number_cases p q)
          where
            here : p ≡ q → Goes (served o skips made own p member)
            here same =
                let more = more_world r (its_event a ∷ []) (call_of a ∷ []) (just_one (its_event a) same) in
                subst (λ n. Goes (served o skips made own n member)) (sym same)
                (by_turns Nobody member (λ k z. z) own r made (machine.Asks (call_of a)) refl refl (λ i. record { world = more.0 i; clock = moment_of r; waiters = listed q r.waiters }) more.1 ran
                (event_only o law (And Nobody q member) q r made (its_event a) (run_ok is).members refl refl refl refl same (λ w i. i) (λ k at. inr (refl, sym at)) (λ w i over. absurd (only w i over))) h)

            elsewhere : p ≢ q → Goes (served o skips made own p member)
            elsewhere apart =
                let none = none_more r (its_event a ∷ []) (not_one (its_event a) apart) in
                let last = served o skips made own p member in
                let kept = served_kept o skips made own p member in
                inr (no_line r last kept.members kept.backups
                (same_then r made last (λ i. record { world = run o (world.start q r.members r.backups) (none i); clock = moment_of r; waiters = listed q r.waiters }, none) (served_beside p apart made own member ran)) h)

        by_memory : (b : Bool) → IsRun o (cond b missed made) → Goes (served o skips (cond b missed made) own p member)
        by_memory true ran = by_miss
        by_memory false ran = by_call ran

        by_room : (full : Bool) → Goes (served o skips (cond full (given_up (arrived r a [] [])) (asked o skips r own a)) own p member)
        by_room true = inl (served_full o skips (given_up (arrived r a [] [])) own p member refl)
        by_room false = by_memory (is_skipped skips request.id) (call_asked skips r own member request is next)

    begins_goes_on : (r : Run) (member : ℕ) (request : Request) (timeout : ℤ) → IsRun o r → IsNext r request → Only o Nobody r → HasGoneBy o skips r q → Goes (begins_to_wait o skips r member request timeout)
    begins_goes_on r member request timeout is next only h = ⊎_elim here elsewhere (number_cases p q)
      where
        own : Option ℕ
        own = Some request.id.conn

        p : ℕ
        p = request.partition

        w : Waiter
        w = waiter_at r member request timeout

        then : Run
        then = waits r w

        ran : IsRun o then
        ran = waiter_came r member request w.deadline is next

        here : p ≡ q → Goes (served o skips then own p member)
        here same =
            let joined : listed q (r.waiters ++ w ∷ []) ≡ listed q r.waiters ++ as_machine w ∷ [] = listed-append q r.waiters (w ∷ []) ∙ ap (λ xs. listed q r.waiters ++ xs) (listed_here q w [] same) in
            subst (λ n. Goes (served o skips then own n member)) (sym same)
            (by_turns Nobody member (λ k z. z) own r then (machine.Waits (as_machine w)) refl refl (λ i. record { world = world_at o r q; clock = moment_of r; waiters = joined i }) (sym (append-nil (events_at q r.events))) ran
            (subst (λ n. Only o (And Nobody n member) then) same (waits_only o r w only)) h)

        elsewhere : p ≢ q → Goes (served o skips then own p member)
        elsewhere apart =
            let joined : listed q (r.waiters ++ w ∷ []) ≡ listed q r.waiters = listed-append q r.waiters (w ∷ []) ∙ ap (λ xs. listed q r.waiters ++ xs) (listed_other q w [] apart) ∙ append-nil (listed q r.waiters) in
            let last = served o skips then own p member in
            let kept = served_kept o skips then own p member in
            inr (no_line r last kept.members kept.backups (same_then r then last (λ i. record { world = world_at o r q; clock = moment_of r; waiters = joined i }, refl) (served_beside p apart then own member ran)) h)

    item_by : (r : Run) (k : Connection) (item : Item) → IsRun o (handled o skips r k item) → Goes (handled o skips r k item) → (by : IsFull r ⊎ (Only o Nobody r × HasGoneBy o skips r q)) → (1 ≤ r.members) → IsBy (handled o skips r k item)
    item_by r k item is goes_on by some = (is, ⊎_elim (λ full. inl (handled_full o skips r k item full)) (λ h. both (handled o skips r k item) (handled_nobody o law skips r k item some h.0) goes_on) by)

    -- a run that is given up stays so, and else it goes on so
    goes_if : (r next : Run) → (IsFull r → IsFull next) → (Only o Nobody r → HasGoneBy o skips r q → Goes next) → IsFull r ⊎ (Only o Nobody r × HasGoneBy o skips r q) → Goes next
    goes_if r next up on by = ⊎_elim (λ full. inl (up full)) (λ h. on h.0 h.1) by

    items_by_line : (r : Run) (k : Connection) (bytes : List ℕ) (number : ℕ) (items : List Item) → IsBy r → MayAsk r (with_bytes k bytes) number → AreNumbered k.conn number items
        → number + length items ≤ length (messages_on (with_bytes k bytes)) → IsBy (handled_all o skips r k items)
    items_by_line r k bytes number [] by may numbered room = by
    items_by_line r k bytes number (Reply answer ∷ items) by may numbered room =
        let next = told r k.conn answer in
        items_by_line next k bytes (number + 1) items
        (item_by r k (Reply answer) (answer_told r k.conn answer by.0) (goes_if r next (λ full. full) (λ only h. inr (no_line r next refl refl (refl, refl) h)) by.1) by.1 (run_ok by.0).members)
        (may_ask_after r (with_bytes k bytes) number k.conn answer may) numbered.1 (omega (arith, room))
    items_by_line r k bytes number (Register registration ∷ items) by may numbered room =
        let next = registers o r k.conn k.member registration in
        items_by_line next k bytes (number + 1) items
        (item_by r k (Register registration) (registers_run r (with_bytes k bytes) k.member registration by.0 may.there) (goes_if r next (λ full. full) (λ only h. inr (no_line r next refl refl (refl, refl) h)) by.1) by.1 (run_ok by.0).members)
        (may_ask_registered o r (with_bytes k bytes) number k.conn k.member registration may) numbered.1 (omega (arith, room))
    items_by_line r k bytes number (Wait request timeout ∷ items) by may numbered room =
        let next = is_next r (with_bytes k bytes) number request may (omega (arith, room)) numbered.0.0 numbered.0.1 in
        let last = begins_to_wait o skips r k.member request timeout in
        items_by_line last k bytes (number + 1) items
        (item_by r k (Wait request timeout) (begins_run skips r k.member request timeout by.0 next)
        (goes_if r last (λ full. handled_full o skips r k (Wait request timeout) full) (λ only h. begins_goes_on r k.member request timeout by.0 next only h) by.1) by.1 (run_ok by.0).members)
        (may_begin r (with_bytes k bytes) number request may numbered.0.0 o skips k.member timeout) numbered.1 (omega (arith, room))
    items_by_line r k bytes number (Asks request ∷ items) by may numbered room =
        let next = is_next r (with_bytes k bytes) number request may (omega (arith, room)) numbered.0.0 numbered.0.1 in
        let last = calls o skips r k.member request in
        items_by_line last k bytes (number + 1) items
        (item_by r k (Asks request) (calls_run skips r k.member request by.0 next)
        (goes_if r last (λ full. handled_full o skips r k (Asks request) full) (λ only h. calls_goes_on r k.member request by.0 next only h) by.1) by.1 (run_ok by.0).members)
        (may_calls r (with_bytes k bytes) number request may numbered.0.0 o skips k.member) numbered.1 (omega (arith, room))

    -- a close

    forsaken_goes_on : (r : Run) (c : ℕ) → IsRun o r → Only o Nobody r → HasGoneBy o skips r q → Goes (forsaken r c)
    forsaken_goes_on r c is only h = go (is_open (connection_of r c)) refl
      where
        then : Run
        then = forsaken r c

        same : then.events ≡ r.events
        same = forsaken_keeps (λ x. x.events ≡ r.events) (λ x w i e. append-nil x.events ∙ e) c r refl

        go : (b : Bool) → is_open (connection_of r c) ≡ b → Goes then
        go true lasts = subst Goes (sym (forsaken_open r c lasts)) (inr h)
        go false closed =
            let kept = forsaken_kept r c in
            let left = ap (listed q) (forsaken_waiters r c closed) ∙ closed_listed q c r.waiters in
            ⊎_elim (λ full. inl full)
            (λ nobody. by_none r then (machine.Closes c) kept.members kept.backups
            (λ i. record { world = run o (world.start q (kept.members i) (kept.backups i)) (events_at q (same i)); clock = λ m. unwrap_or (slice_get (kept.moments i) m) 0; waiters = left i })
            (ap (events_at q) same ∙ sym (append-nil (events_at q r.events))) (forsaken_run skips r c is) nobody h)
            (forsaken_nobody o law skips r c (inr only))

    forsaken_by : (r : Run) (c : ℕ) → IsBy r → IsBy (forsaken r c)
    forsaken_by r c by = (
      forsaken_run skips r c by.0,
      ⊎_elim (λ full. inl (forsaken_full r c full)) (λ h. both (forsaken r c) (forsaken_nobody o law skips r c (inr h.0)) (forsaken_goes_on r c by.0 h.0 h.1)) by.1,
    )

    -- the moment of a member
    module _ (r : Run) (member moment : ℕ) (is : IsRun o r) (only : Only o Nobody r) (h : HasGoneBy o skips r q) where
      abbrev set : Run
      set = clock_set r member moment

      abbrev now_served : ℕ → Run
      now_served n = served_in o skips set member (numbers_below n)

      ran : (n : ℕ) → IsRun o (now_served n)
      ran n = served_in_run skips set member (numbers_below n) (clock_was_set r member moment is)

      -- also where the number is no member's
      its_clock : (k : ℕ) → moment_of set k ≡ cond (k == member) (moment_of set member) (moment_of r k)
      its_clock k = ⊎_elim
          (λ same. ap (moment_of set) same ∙ sym (ap (λ b. cond b (moment_of set member) (moment_of r k)) (number_same k member same)))
          (λ other. ap (λ (x : Option ℕ). unwrap_or x 0) (set_get_other r.moments member k moment other) ∙ sym (ap (λ b. cond b (moment_of set member) (moment_of r k)) (number_other k member other)))
          (number_cases k member)

      opens : waiting_in o set q ≡ opened o (waiting_in o r q) (machine.Clock member (moment_of set member))
      opens = λ i. record { world = world_at o r q; clock = λ k. its_clock k i; waiters = listed q r.waiters }

      lists : (n : ℕ) → IsFull (now_served n) ⊎ (((n ≤ q) × IsSame set (now_served n)) ⊎ ((n ≤ q → ⊥) × HasGoneBy o skips (now_served n) q))
      lists zero = inr (inl (omega arith, (refl, refl)))
      lists (suc n) = subst (λ (x : Run). IsFull x ⊎ (((suc n ≤ q) × IsSame set x) ⊎ ((suc n ≤ q → ⊥) × HasGoneBy o skips x q))) (sym (served_in_more o skips set member n)) (⊎_elim (λ full. inl (served_full o skips mid None n member full)) further (lists n))
        where
          mid : Run
          mid = now_served n

          next : Run
          next = served o skips mid None n member

          kept_mid : Kept set mid
          kept_mid = served_in_kept o skips set member (numbers_below n)

          kept : Kept mid next
          kept = served_kept o skips mid None n member

          split : (p k : ℕ) → From n member p k → And (From (suc n) member) n member p k
          split p k at = ⊎_elim (λ same. inr (same, at.0)) (λ other. let low = at.1 in inl (at.0, omega (arith, other, low))) (number_cases p n)

          its_list : n ≡ q → IsSame set mid → IsFull next ⊎ (((suc n ≤ q) × IsSame set next) ⊎ ((suc n ≤ q → ⊥) × HasGoneBy o skips next q))
          its_list here same = ⊎_elim (λ full. inl (served_full o skips mid None n member full)) by_list (lists_only o law skips set member n (run_ok is).members (inr (set_only o law skips r member moment only)))
            where
              by_list : Only o (From n member) mid → IsFull next ⊎ (((suc n ≤ q) × IsSame set next) ⊎ ((suc n ≤ q → ⊥) × HasGoneBy o skips next q))
              by_list busy =
                  let turns = by_turns (From (suc n) member) member (λ k at. (let low = at.1 in omega (arith, low, here))) None r mid (machine.Clock member (moment_of set member)) kept_mid.members kept_mid.backups
                  (same.0 ∙ opens) (same.1 ∙ sym (append-nil (events_at q r.events))) (ran n)
                  (subst (λ p. Only o (And (From (suc n) member) p member) mid) here (λ w i over. split w.request.partition w.member (busy w i over))) h in
                  ⊎_elim (λ full. inl full) (λ on. inr (inr ((λ low. omega (arith, low, here)), on))) (subst (λ p. Goes (served o skips mid None p member)) (sym here) turns)

          further : ((n ≤ q) × IsSame set mid) ⊎ ((n ≤ q → ⊥) × HasGoneBy o skips mid q) → IsFull next ⊎ (((suc n ≤ q) × IsSame set next) ⊎ ((suc n ≤ q → ⊥) × HasGoneBy o skips next q))
          further (inl (low, same)) = ⊎_elim
              (λ here. its_list here same)
              (λ other. inr (inl (omega (arith, low, other), same_then set mid next same (served_beside n other mid None member (ran n)))))
              (number_cases n q)
          further (inr (past, on)) =
              inr (inr ((λ low. past (omega (arith, low))), no_line mid next kept.members kept.backups (served_beside n (λ e. past (omega (arith, e))) mid None member (ran n)) on))

      clock_goes_on : q < partitions → Goes (now_served partitions)
      clock_goes_on low = ⊎_elim (λ full. inl full) (λ on. ⊎_elim (λ same. absurd (let reached = same.0 in omega (arith, reached, low))) (λ past. inr past.1) on) (lists partitions)

    -- lines

    abbrev Rest : Run → Type 0
    Rest r = IsFull r ⊎ (Only o Nobody r × HasGoneBy o skips r q)

    -- nothing that matters has changed
    still_rest : (r next : Run) → next.members ≡ r.members → next.backups ≡ r.backups → next.moments ≡ r.moments → next.events ≡ r.events → next.waiters ≡ r.waiters → next.full ≡ r.full → Rest r → Rest next
    still_rest r next members backups moments happened waiters full rest =
        ⊎_elim (λ up. inl (full ∙ up))
        (λ h. inr (
          still_only o Nobody r next members backups moments happened (λ w i. subst (In w) waiters i) h.0,
          no_line r next members backups
              (λ i. record { world = run o (world.start q (members i) (backups i)) (events_at q (happened i)); clock = λ m. unwrap_or (slice_get (moments i) m) 0; waiters = listed q (waiters i) }, ap (events_at q) happened) h.1,
        )) rest

    module _ (low : q < partitions) (r : Run) (by : IsBy r) where
      counted : IsBy (next_line r)
      counted = (line_counted r by.0, still_rest r (next_line r) refl refl refl refl refl refl by.1)

      bytes_rest : (c : ℕ) (bytes : List ℕ) (found : Option Connection) → connection_of r c ≡ found → Rest (elim found [ None ↦ next_line r | Some k ↦ bytes_arrived o skips r k bytes ])
      bytes_rest c bytes None there = counted.1
      bytes_rest c bytes (Some k) there =
          let items = items_by k bytes in
          let taken = took_bytes r k bytes in
          let all = handled_all o skips taken k items in
          let may = has_taken r k bytes by.0 (connection_there r c k there) in
          let room = items_room k bytes in
          let began : IsBy taken = (may.run, still_rest r taken refl refl refl refl refl refl by.1) in
          on_if Rest (takes_bytes o r k) (forsaken all k.conn) (next_line r)
          (forsaken_by all k.conn (items_by_line taken k bytes (length (messages_on k)) items began may.may room.0 (omega (arith, room.1)))).1 counted.1

      clock_rest : (member moment : ℕ) → Rest (after_line o skips r (Clock member moment))
      clock_rest member moment =
          ⊎_elim (λ full. inl (served_in_full o skips (clock_set r member moment) member (numbers_below partitions) full))
          (λ h. both (after_line o skips r (Clock member moment)) (line_nobody o law skips r by.0 (inr h.0) (Clock member moment)) (clock_goes_on r member moment by.0 h.0 h.1 low)) by.1

      event_rest : (e : Option At) → IsNoCall e → Rest (after_event o skips (next_line r) e)
      event_rest None quiet = counted.1
      event_rest (Some e) quiet = (takes_by (next_line r) e.partition e.event quiet counted).1

      line_rest : (one : Line) → Rest (after_line o skips r one)
      line_rest (OpenConn c member) = on_if Rest (can_open o r c member) (runs.opened r c member) (next_line r) (still_rest r (runs.opened r c member) refl refl refl refl refl refl by.1) counted.1
      line_rest (Arrive c bytes) = bytes_rest c bytes (connection_of r c) refl
      line_rest (Clock member moment) = clock_rest member moment
      line_rest (Flow partition most) = (flowed_keeps o skips IsBy partition (λ x l k. takes_by x partition (delivery_on l) refl k) (next_line r) most counted).1
      line_rest (FlowAll most) = (flowed_in_keeps o skips IsBy (λ x p l k. takes_by x p (delivery_on l) refl k) (next_line r) most (numbers_below partitions) counted).1
      line_rest (line.Crash member) = (takes_in_keeps o skips IsBy (event.Crash member) (λ x p k. takes_by x p (event.Crash member) refl k) (next_line r) (numbers_below partitions) counted).1
      line_rest (line.Detect member) = (takes_in_keeps o skips IsBy (event.Detect member) (λ x p k. takes_by x p (event.Detect member) refl k) (next_line r) (numbers_below partitions) counted).1
      line_rest (Rebalance most) = (rebalance_keeps o skips IsBy (λ x p event of_step k. takes_by x p event of_step.asks k) (next_line r) most counted).1
      line_rest one = event_rest (event_by one) (events_are_no_calls one)

    lines_rest : q < partitions → (r : Run) (lines : List Line) → IsBy r → Rest (after_lines o skips r lines)
    lines_rest low r [] by = by.1
    lines_rest low r (one ∷ lines) by = lines_rest low (after_line o skips r one) lines (line_run skips r by.0 one, line_rest low r by one)

-- at first

first_clock : (members backups k : ℕ) → moment_of (begun members backups) k ≡ 0
first_clock zero backups k = refl
first_clock (suc n) backups zero = refl
first_clock (suc n) backups (suc k) = first_clock n backups k

begun_by : (o : Object Request Partition) (skips : List CallId) (q members backups : ℕ) → HasGoneBy o skips (begun members backups) q
begun_by o skips q members backups = record { lines = []; states = λ i. record { world = world.start q members backups; clock = λ k. first_clock members backups k i; waiters = [] }; happened = refl }

unless_full : (o : Object Request Partition) (skips : List CallId) (q : ℕ) (r : Run) → IsFull r ⊎ (Only o Nobody r × HasGoneBy o skips r q) → r.full ≡ false → HasGoneBy o skips r q
unless_full o skips q r rest goes_on = ⊎_elim (λ full. absurd (true≢false (sym full ∙ goes_on))) (λ h. h.1) rest

pub every_partition_goes_by_its_machine : EveryPartitionGoesByItsMachine
every_partition_goes_by_its_machine settings members backups skips lines p some low goes_on =
    let o = partition_object settings in
    let first = begun members backups in
    let last = after_lines o skips first lines in
    let rest : IsFull last ⊎ (Only o Nobody last × HasGoneBy o skips last p) = lines_rest o skips p (lawful settings) low first lines (grid_begun members backups some, inr ((λ w i over. absurd i), begun_by o skips p members backups)) in
    unless_full o skips p last rest goes_on
