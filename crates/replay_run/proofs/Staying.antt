-- After each line nobody who waits has a turn: an event gives turns at its own member, in its own partition, and there they are made until none is left.
use Rattle.std.proofs.Common.{◌≡◌, ◌≢◌, true≢false, ℕ, zero, suc, ◌≤◌, Bool, true, false, ◌==◌, ◌&&◌, cond, List, [], ◌∷◌, ◌++◌, length, slice_get, pos, Option, Some, None, refl, ap, sym, ◌∙◌, subst, ◌⊎◌, ⊎_elim, inl, inr, arith, append-nil, is_some}
use Rattle.std.specs.Option.{unwrap_or}
use Rattle.std.specs.List.{find}
use Rattle.grid_base.specs.Errors.{want_of_memory}
use Rattle.grid_base.specs.Objects.{Object}
use Rattle.grid_base.specs.declared.names.CallId.{CallId}
use Rattle.grid_base.specs.declared.calls.Request.{Request}
use Rattle.object_store.specs.Partitions.{Partition}
use Rattle.partition_protocol.specs.Arrivals.{asked_by}
use Rattle.partition_protocol.specs.Claims.{IsLawful}
use Rattle.partition_protocol.specs.Events.{Event, Call, Deliver, Crash, run}
use Rattle.partition_protocol.specs.Events as event
use Rattle.partition_protocol.specs.Service.{numbers_below}
use Rattle.partition_protocol.specs.World.{World, start}
use Rattle.partition_protocol.proofs.Extends.{run_append}
use Rattle.partition_protocol.proofs.Lists.{In, in_cases, in_contains, on_if, set_get_other}
use Rattle.partition_protocol.proofs.RowFacts.{false_or_not, number_cases, number_same, number_other}
use Rattle.call_engine.specs.Calls.{Settings}
use Rattle.call_engine.specs.Effects.{effect_of}
use Rattle.call_engine.specs.Objects.{partition_object}
use Rattle.call_engine.specs.ShelfLaws.{changes_by_effect, same_without_effect}
use Rattle.script_lang.specs.declared.line.Line.{Line}
use Rattle.script_lang.specs.declared.line.Line.TheVariants.{OpenConn, Arrive, Clock, Flow, FlowAll, Rebalance}
use Rattle.script_lang.specs.declared.line.Line.TheVariants as line
use Rattle.session_core.specs.declared.item.Item.{Item}
use Rattle.session_core.specs.declared.item.Item.TheVariants.{Call as Asks, Wait, Register, Reply}
use Rattle.wait_sets.specs.Laws.{grid_terms}
use Rattle.waiting_protocol.specs.Claims.{IsAt}
use Rattle.waiting_protocol.specs.Machine.{Fate, Stays, Runs, Starves, IsRefused, Leaves, fate_in, is_over}
use Rattle.waiting_protocol.proofs.Fates.{not_over, waits_on, every_other_event_is_idle}
use Rattle.waiting_protocol.proofs.Places.{at_or}
use Rattle.replay_run.specs.AfterLines.{after_event, after_line, after_lines}
use Rattle.replay_run.specs.Runs.{Run, At, Connection, Arrival, Waiter, partitions, begun, is_at, events_at, world_at, moment_of, connection_of, can_open, opened, next_line, clock_set, took_bytes, takes_bytes, items_by, bytes_arrived, arrival_at, is_full, is_skipped, refusal, refused_at, happening, arrived, told, registers, delivery_on, asked, asks, given_up, waiter_at, waits, without, ending, leaves, leaves_so, fate_now, as_machine, is_its_turn, next_in_turn, turn_of, served_so_often, served, served_in, forsaken, handled, handled_all, occurred, stirred_by, served_at, meets_full, takes, event_by}
use Rattle.replay_run.specs.ScriptRuns.{IsRun, grid_begun}
use Rattle.replay_run.specs.Staying.{waiting_in, HasNoTurn, EveryWaiterStays}
use Rattle.replay_run.proofs.Arriving.{in_without}
use Rattle.replay_run.proofs.EventRuns.{IsFull, events_at-append, fewer, served_in_kept, takes_kept, served_full, takes_full, handled_all_full, takes_in_keeps, flowed_keeps, flowed_in_keeps}
use Rattle.replay_run.proofs.Growing.{so_often_goes}
use Rattle.replay_run.proofs.Lines.{asks_come, handled_come, IsNoCall, events_are_no_calls, line_run}
use Rattle.replay_run.proofs.Rebalanced.{rebalance_keeps}
use Rattle.replay_run.proofs.RunFacts.{WaitersOk}
use Rattle.replay_run.proofs.RunsOfLines.{run_ok}
use Rattle.replay_run.proofs.Serving.{often_none, turn_less, served_in_more, first_holds, second_holds}
use Rattle.replay_run.proofs.Places.{same_number}
use Rattle.replay_run.proofs.Trails.{find_some}
use Rattle.replay_run.proofs.Turns.{its_event, by_endings, turn_keeps, forsaken_keeps}

-- a call without an effect leaves its partition

none_there : {X : Type 0} (found : Option X) → is_some found ≡ false → found ≡ None
none_there None e = refl
none_there (Some x) e = absurd (true≢false e)

pub lawful : (settings : Settings) → IsLawful (partition_object settings)
lawful settings = record {
  unchanged = λ s r now same. same_without_effect settings s r now (none_there (effect_of settings s r now) (sym (changes_by_effect settings s r now) ∙ same));
}

-- one that passes a test is found
pub none_passes : {X : Type 0} (t : X → Bool) (xs : List X) (x : X) → find t xs ≡ None → In x xs → t x ≡ true → ⊥
none_passes t [] x none i passes = i
none_passes {X} t (y ∷ ys) x none i passes = go (t y) refl none (λ found j. none_passes t ys x found j passes)
  where
    go : (b : Bool) → t y ≡ b → cond b (Some y) (find t ys) ≡ None → (find t ys ≡ None → In x ys → ⊥) → ⊥
    go true e found rest = cc
    go false e found rest = ⊎_elim (λ s. true≢false (sym passes ∙ ap t (sym s) ∙ e)) (λ j. rest found j) i

-- Waiters of these partitions and members alone have turns.
abbrev pub Only : Object Request Partition → (ℕ → ℕ → Type 0) → Run → Type 0
Only o A r = (w : Waiter) → In w r.waiters → is_over (fate_now o r w) ≡ true → A w.request.partition w.member

-- unless the run is given up
abbrev pub Leaving : Object Request Partition → (ℕ → ℕ → Type 0) → Run → Type 0
Leaving o A r = IsFull r ⊎ Only o A r

-- nobody has
abbrev pub Nobody : ℕ → ℕ → Type 0
Nobody q k = ⊥

-- those, and who waits in this list
abbrev pub And : (ℕ → ℕ → Type 0) → ℕ → ℕ → ℕ → ℕ → Type 0
And A p member q k = A q k ⊎ ((q ≡ p) × (k ≡ member))

-- of a member, those in its partitions from this one on
abbrev pub From : ℕ → ℕ → ℕ → ℕ → Type 0
From n member q k = (k ≡ member) × (n ≤ q)

-- events

-- where an event gives turns

stirs_at : {C : Type 0} (event : Event C) (k : ℕ) → asked_by event ≡ [] → IsAt event k → stirred_by event ≡ Some k
stirs_at (Call m conn number call now) k quiet at = absurd cc
stirs_at (Deliver from to place) k quiet at = ap Some at
stirs_at (Crash m) k quiet at = ap Some at
stirs_at event k quiet at = absurd at

module _ (o : Object Request Partition) where
  -- what is to be done with a waiter goes by its partition's events and its member's moment
  pub fate_as : (r next : Run) (w : Waiter) → next.members ≡ r.members → next.backups ≡ r.backups → events_at w.request.partition next.events ≡ events_at w.request.partition r.events → moment_of next w.member ≡ moment_of r w.member
      → fate_now o next w ≡ fate_now o r w
  fate_as r next w members backups events moment =
      λ i. fate_in o (grid_terms (λ x. false)) (run o (start w.request.partition (members i) (backups i)) (events i)) (moment i) (as_machine w)

  -- so who has no turn has none, where those are the same
  pub still_only : (A : ℕ → ℕ → Type 0) (r next : Run) → next.members ≡ r.members → next.backups ≡ r.backups → next.moments ≡ r.moments → next.events ≡ r.events → ((w : Waiter) → In w next.waiters → In w r.waiters)
      → Only o A r → Only o A next
  still_only A r next members backups moments events fewer only w i over =
      only w (fewer w i) (ap is_over (sym (fate_as r next w members backups (ap (events_at w.request.partition) events) (ap (λ ms. unwrap_or (slice_get ms w.member) 0) moments))) ∙ over)

  -- whoever comes to wait may have a turn
  pub waits_only : (r : Run) (w : Waiter) → Only o Nobody r → Only o (And Nobody w.request.partition w.member) (waits r w)
  waits_only r w only v i over = ⊎_elim
      (λ j. absurd (only v j (ap is_over (sym (fate_as r (waits r w) v refl refl refl refl)) ∙ over)))
      (λ j. ⊎_elim (λ same. inr (ap (λ (x : Waiter). x.request.partition) (sym same), ap (λ (x : Waiter). x.member) (sym same))) (λ z. absurd z) j)
      (in_cases v r.waiters (w ∷ []) i)

  module _ (law : IsLawful o) where
    fate_beside : (r next : Run) (w : Waiter) (event : Event Request) → 1 ≤ r.members → next.members ≡ r.members → next.backups ≡ r.backups → next.moments ≡ r.moments
        → events_at w.request.partition next.events ≡ events_at w.request.partition r.events ++ event ∷ [] → (IsAt event w.member → ⊥) → fate_now o next w ≡ fate_now o r w
    fate_beside r next w event some members backups moments events away =
        let p = w.request.partition in
        let before = events_at p r.events in
        let began : World Request = start p r.members r.backups in
        (λ i. fate_in o (grid_terms (λ x. false)) (run o (start p (members i) (backups i)) (events i)) (unwrap_or (slice_get (moments i) w.member) 0) (as_machine w))
        ∙ ap (λ world. fate_in o (grid_terms (λ x. false)) world (moment_of r w.member) (as_machine w)) (run_append o began before (event ∷ []))
        ∙ every_other_event_is_idle o (grid_terms (λ x. false)) p r.members r.backups before event (moment_of r w.member) (as_machine w) some law away

    -- an event of a partition gives turns to those there whose member it is at
    pub event_only : (A : ℕ → ℕ → Type 0) (p : ℕ) (r next : Run) (one : At) → 1 ≤ r.members → next.members ≡ r.members → next.backups ≡ r.backups → next.moments ≡ r.moments → next.events ≡ r.events ++ one ∷ []
        → one.partition ≡ p → ((w : Waiter) → In w next.waiters → In w r.waiters) → ((k : ℕ) → IsAt one.event k → A p k) → Only o A r → Only o A next
    event_only A p r next one some members backups moments events here fewer at only w i over = ⊎_elim there elsewhere (number_cases w.request.partition p)
      where
        q : ℕ
        q = w.request.partition

        all : events_at q next.events ≡ events_at q r.events ++ events_at q (one ∷ [])
        all = ap (events_at q) events ∙ events_at-append q r.events (one ∷ [])

        elsewhere : q ≢ p → A q w.member
        elsewhere other =
            let away : is_at q one ≡ false = number_other one.partition q (λ s. other (sym s ∙ here)) in
            let none : events_at q (one ∷ []) ≡ [] = rw away refl in
            only w (fewer w i) (ap is_over (sym (fate_as r next w members backups (all ∙ ap (λ es. events_at q r.events ++ es) none ∙ append-nil (events_at q r.events)) (ap (λ ms. unwrap_or (slice_get ms w.member) 0) moments))) ∙ over)

        there : q ≡ p → A q w.member
        there same =
            let its : is_at q one ≡ true = number_same one.partition q (here ∙ sym same) in
            let just : events_at q (one ∷ []) ≡ one.event ∷ [] = rw its refl in
            ⊎_elim (λ k. subst (λ n. A n w.member) (sym same) (at w.member k))
            (λ away. only w (fewer w i) (ap is_over (sym (fate_beside r next w one.event some members backups moments (all ∙ ap (λ es. events_at q r.events ++ es) just) away)) ∙ over))
            (at_or one.event w.member)

    module _ (skips : List CallId) where
      -- turns

      module _ (A : ℕ → ℕ → Type 0) (own : Option ℕ) (p member : ℕ) where
        abbrev Listed : Run → Type 0
        Listed r = Only o (And A p member) r

        pub made_only : (r : Run) (a : Arrival) → 1 ≤ r.members → a.request.partition ≡ p → a.member ≡ member → Listed r → Leaving o (And A p member) (asks o skips r own a)
        made_only r a some here there only =
            on_if (Leaving o (And A p member)) (is_full (world_at o r a.request.partition)) (given_up (arrived r a [] [])) (asked o skips r own a) (inl refl)
            (on_if (Leaving o (And A p member)) (is_skipped skips a.request.id) (arrived r a [] (refusal a.made a.request (pos want_of_memory) 0 ∷ [])) (arrived r a (its_event a ∷ []) (happening o r own a))
            (inr (still_only (And A p member) r (arrived r a [] (refusal a.made a.request (pos want_of_memory) 0 ∷ [])) refl refl refl (append-nil r.events) (λ w i. i) only))
            (inr (event_only (And A p member) p r (arrived r a (its_event a ∷ []) (happening o r own a)) (its_event a) some refl refl refl refl here (λ w i. i) (λ k at. inr (refl, sym at ∙ there)) only)))

        without_only : (r : Run) (w : Waiter) → Listed r → Listed (without r w)
        without_only r w only = still_only (And A p member) r (without r w) refl refl refl refl (λ v i. (in_without r w v i).0) only

        leaving_only : (r : Run) (w : Waiter) (fate : Fate) → 1 ≤ r.members → w.request.partition ≡ p → w.member ≡ member → Listed r → Leaving o (And A p member) (leaves_so o skips r own w fate)
        leaving_only r w Stays some here there only = inr only
        leaving_only r w Runs some here there only = made_only (without r w) (ending r w) some here there (without_only r w only)
        leaving_only r w Starves some here there only = made_only (without r w) (ending r w) some here there (without_only r w only)
        leaving_only r w (IsRefused why) some here there only = inr (still_only (And A p member) r (arrived (without r w) (ending r w) [] (refused_at r.lines w.request why)) refl refl refl (append-nil r.events) (λ v i. (in_without r w v i).0) only)
        leaving_only r w Leaves some here there only = inr (still_only (And A p member) r (leaves r w) refl refl refl (append-nil r.events) (λ v i. (in_without r w v i).0) only)

        -- where nobody in the list has one
        none_here : (r : Run) → next_in_turn o r p member ≡ None → Listed r → Only o A r
        none_here r none only w i over = ⊎_elim (λ a. a) (λ at. absurd (none_passes (is_its_turn o r p member) r.waiters w none i (its w at over))) (only w i over)
          where
            its : (v : Waiter) → (v.request.partition ≡ p) × (v.member ≡ member) → is_over (fate_now o r v) ≡ true → is_its_turn o r p member v ≡ true
            its v at busy = λ j. (number_same v.request.partition p at.0 j && number_same v.member member at.1 j) && busy j

        pub turn_only : (r : Run) → 1 ≤ r.members → Listed r → Leaving o (And A p member) (turn_of o skips r own (next_in_turn o r p member))
        turn_only r some only = go (next_in_turn o r p member) (λ w e. (find_some (is_its_turn o r p member) r.waiters w e).1)
          where
            go : (next : Option Waiter) → ((w : Waiter) → next ≡ Some w → is_its_turn o r p member w ≡ true) → Leaving o (And A p member) (turn_of o skips r own next)
            go None f = inr only
            go (Some w) f =
                let at = first_holds ((w.request.partition == p) && (w.member == member)) (is_over (fate_now o r w)) (f w refl) in
                leaving_only r w (fate_now o r w) some (same_number w.request.partition p (first_holds (w.request.partition == p) (w.member == member) at))
                (same_number w.member member (second_holds (w.request.partition == p) (w.member == member) at)) only

        so_often_only : (turns : ℕ) (r : Run) → length r.waiters ≤ turns → 1 ≤ r.members → Listed r → Leaving o A (served_so_often o skips own p member turns r)
        so_often_only zero r few some only = inr (λ w i over. let one = fewer w r.waiters i in absurd (omega (arith, one, few)))
        so_often_only (suc turns) r few some only = go (next_in_turn o r p member) refl (λ x less more busy. so_often_only turns x less more busy)
          where
            then : Run
            then = turn_of o skips r own (next_in_turn o r p member)

            still : 1 ≤ then.members
            still = turn_keeps o skips p (λ (x : Run). 1 ≤ x.members) (by_endings o skips p (λ (x : Run). 1 ≤ x.members) (λ x h. h) (λ x w events appended i made here h. h)) r own member some

            go : (next : Option Waiter) → next_in_turn o r p member ≡ next → ((x : Run) → length x.waiters ≤ turns → 1 ≤ x.members → Listed x → Leaving o A (served_so_often o skips own p member turns x))
                → Leaving o A (served_so_often o skips own p member (suc turns) r)
            go None e rest = subst (Leaving o A) (sym (often_none o skips own p member r (suc turns) e)) (inr (none_here r e only))
            go (Some w) e rest =
                let less = turn_less o skips r own p member w e in
                ⊎_elim (λ full. inl (((so_often_goes o own p member turns then).grows skips).full full)) (λ busy. rest then (omega (arith, less, few)) still busy) (turn_only r some only)

        pub served_only : (r : Run) → 1 ≤ r.members → Listed r → Leaving o A (served o skips r own p member)
        served_only r some only = so_often_only (length r.waiters) r (omega arith) some only

      -- what else happens to a partition

      -- an event gives turns to nobody but those whose member it is at
      pub occurred_only : (A : ℕ → ℕ → Type 0) (r : Run) (p : ℕ) (event : Event Request) → 1 ≤ r.members → ((k : ℕ) → IsAt event k → A p k) → Only o Nobody r → Only o A (occurred o r p event)
      occurred_only A r p event some at only =
          event_only A p r (occurred o r p event) (record { partition = p; event = event }) some refl refl refl refl refl (λ w i. i) at (λ w i over. absurd (only w i over))

      -- at no member
      pub unstirred : (event : Event Request) (p : ℕ) → asked_by event ≡ [] → stirred_by event ≡ None → (k : ℕ) → IsAt event k → Nobody p k
      unstirred event p quiet e k at = let clash : None ≡ Some k = sym e ∙ stirs_at event k quiet at in cc

      -- at this one
      pub stirred_there : (event : Event Request) (p m : ℕ) → asked_by event ≡ [] → stirred_by event ≡ Some m → (k : ℕ) → IsAt event k → And Nobody p m p k
      stirred_there event p m quiet e k at = let same : Some m ≡ Some k = sym e ∙ stirs_at event k quiet at in let its : k ≡ m = cc in inr (refl, its)

      takes_nobody : (r : Run) (p : ℕ) (event : Event Request) → asked_by event ≡ [] → 1 ≤ r.members → Only o Nobody r → Leaving o Nobody (takes o skips r p event)
      takes_nobody r p event quiet some only =
          on_if (Leaving o Nobody) (meets_full (world_at o r p) event) (given_up r) (served_at o skips (occurred o r p event) p (stirred_by event)) (inl refl) (go (stirred_by event) refl)
        where
          go : (stirred : Option ℕ) → stirred_by event ≡ stirred → Leaving o Nobody (served_at o skips (occurred o r p event) p stirred)
          go None e = inr (occurred_only Nobody r p event some (unstirred event p quiet e) only)
          go (Some m) e = served_only Nobody None p m (occurred o r p event) some (occurred_only (And Nobody p m) r p event some (stirred_there event p m quiet e) only)

      -- there are members, and nobody has a turn
      abbrev IsQuiet : Run → Type 0
      IsQuiet r = (1 ≤ r.members) × Leaving o Nobody r

      pub takes_quiet : (r : Run) (p : ℕ) (event : Event Request) → asked_by event ≡ [] → IsQuiet r → IsQuiet (takes o skips r p event)
      takes_quiet r p event quiet h = (
        subst (λ n. 1 ≤ n) (sym (takes_kept o skips r p event).members) h.0,
        ⊎_elim (λ full. inl (takes_full o skips r p event full)) (λ only. takes_nobody r p event quiet h.0 only) h.1,
      )

      -- items

      -- nothing that matters has changed
      quiet_still : (r next : Run) → next.members ≡ r.members → next.backups ≡ r.backups → next.moments ≡ r.moments → next.events ≡ r.events → next.waiters ≡ r.waiters → next.full ≡ r.full → Leaving o Nobody r → Leaving o Nobody next
      quiet_still r next members backups moments events waiters full h =
          ⊎_elim (λ up. inl (full ∙ up)) (λ only. inr (still_only Nobody r next members backups moments events (λ w i. subst (In w) waiters i) only)) h

      pub handled_nobody : (r : Run) (k : Connection) (item : Item) → 1 ≤ r.members → Only o Nobody r → Leaving o Nobody (handled o skips r k item)
      handled_nobody r k (Reply bytes) some only = inr (still_only Nobody r (told r k.conn bytes) refl refl refl refl (λ w i. i) only)
      handled_nobody r k (Register registration) some only = inr (still_only Nobody r (registers o r k.conn k.member registration) refl refl refl refl (λ w i. i) only)
      handled_nobody r k (Asks request) some only =
          let own = Some request.id.conn in
          let a = arrival_at r k.member request in
          let then = asks o skips r own a in
          ⊎_elim (λ full. inl (served_full o skips then own request.partition k.member full))
          (λ busy. served_only Nobody own request.partition k.member then (subst (λ n. 1 ≤ n) (sym (asks_come o skips r own a).members) some) busy)
          (made_only Nobody own request.partition k.member r a some refl refl (λ w i over. absurd (only w i over)))
      handled_nobody r k (Wait request timeout) some only =
          let w = waiter_at r k.member request timeout in
          served_only Nobody (Some request.id.conn) request.partition k.member (waits r w) some (waits_only r w only)

      handled_all_nobody : (r : Run) (k : Connection) (items : List Item) → IsQuiet r → Leaving o Nobody (handled_all o skips r k items)
      handled_all_nobody r k [] h = h.1
      handled_all_nobody r k (item ∷ items) h =
          let then = handled o skips r k item in
          ⊎_elim (λ full. inl (handled_all_full o skips r k (item ∷ items) full))
          (λ only. handled_all_nobody then k items (subst (λ n. 1 ≤ n) (sym (handled_come o skips r k item).members) h.0, handled_nobody r k item h.0 only))
          h.1

      pub forsaken_nobody : (r : Run) (c : ℕ) → Leaving o Nobody r → Leaving o Nobody (forsaken r c)
      forsaken_nobody r c h =
          forsaken_keeps (Leaving o Nobody)
          (λ x w i k. ⊎_elim (λ full. inl full) (λ only. inr (still_only Nobody x (leaves x w) refl refl refl (append-nil x.events) (λ v j. (in_without x w v j).0) only)) k)
          c r h

      -- the moment of a member

      pub set_only : (r : Run) (member moment : ℕ) → Only o Nobody r → Only o (From 0 member) (clock_set r member moment)
      set_only r member moment only w i over = ⊎_elim (λ same. (same, omega arith)) (λ other. absurd (only w i (ap is_over (sym (its other)) ∙ over))) (number_cases w.member member)
        where
          its : w.member ≢ member → fate_now o (clock_set r member moment) w ≡ fate_now o r w
          its other = fate_as r (clock_set r member moment) w refl refl refl (ap (λ (x : Option ℕ). unwrap_or x 0) (set_get_other r.moments member w.member moment other))

      pub lists_only : (r : Run) (member n : ℕ) → 1 ≤ r.members → Leaving o (From 0 member) r → Leaving o (From n member) (served_in o skips r member (numbers_below n))
      lists_only r member zero some h = h
      lists_only r member (suc n) some h =
          let mid = served_in o skips r member (numbers_below n) in
          let still = subst (λ k. 1 ≤ k) (sym (served_in_kept o skips r member (numbers_below n)).members) some in
          subst (Leaving o (From (suc n) member)) (sym (served_in_more o skips r member n))
          (⊎_elim (λ full. inl (served_full o skips mid None n member full)) (λ only. served_only (From (suc n) member) None n member mid still (λ w i over. next w.request.partition w.member (only w i over)))
          (lists_only r member n some h))
        where
          next : (q k : ℕ) → From n member q k → And (From (suc n) member) n member q k
          next q k at = ⊎_elim (λ same. inr (same, at.0)) (λ other. let low = at.1 in inl (at.0, omega (arith, other, low))) (number_cases q n)

    -- lines

    module _ (skips : List CallId) (r : Run) (is : IsRun o r) (h : Leaving o Nobody r) where
      some : 1 ≤ r.members
      some = (run_ok is).members

      counted : Leaving o Nobody (next_line r)
      counted = quiet_still skips r (next_line r) refl refl refl refl refl refl h

      opened_nobody : (c member : ℕ) → Leaving o Nobody (cond (can_open o r c member) (opened r c member) (next_line r))
      opened_nobody c member = on_if (Leaving o Nobody) (can_open o r c member) (opened r c member) (next_line r) (quiet_still skips r (opened r c member) refl refl refl refl refl refl h) counted

      bytes_nobody : (bytes : List ℕ) (found : Option Connection) → Leaving o Nobody (elim found [ None ↦ next_line r | Some k ↦ bytes_arrived o skips r k bytes ])
      bytes_nobody bytes None = counted
      bytes_nobody bytes (Some k) =
          let items = items_by k bytes in
          let taken = took_bytes r k bytes in
          on_if (Leaving o Nobody) (takes_bytes o r k) (forsaken (handled_all o skips taken k items) k.conn) (next_line r)
          (forsaken_nobody skips (handled_all o skips taken k items) k.conn (handled_all_nobody skips taken k items (some, quiet_still skips r taken refl refl refl refl refl refl h)))
          counted

      clock_nobody : (member moment : ℕ) → Leaving o Nobody (after_line o skips r (Clock member moment))
      clock_nobody member moment =
          let set = clock_set r member moment in
          let last = after_line o skips r (Clock member moment) in
          let placed : WaitersOk last = (run_ok (line_run skips r is (Clock member moment))).of_waiters in
          ⊎_elim (λ full. inl full)
          (λ only. inr (λ w i over. let high = (only w i over).1 in let low = (placed.placed w i).within in absurd (omega (arith, high, low))))
          (lists_only skips set member partitions some (⊎_elim (λ full. inl full) (λ only. inr (set_only skips r member moment only)) h))

      event_nobody : (e : Option At) → IsNoCall e → Leaving o Nobody (after_event o skips (next_line r) e)
      event_nobody None quiet = counted
      event_nobody (Some e) quiet = (takes_quiet skips (next_line r) e.partition e.event quiet (some, counted)).1

      pub line_nobody : (one : Line) → Leaving o Nobody (after_line o skips r one)
      line_nobody (OpenConn c member) = opened_nobody c member
      line_nobody (Arrive c bytes) = bytes_nobody bytes (connection_of r c)
      line_nobody (Clock member moment) = clock_nobody member moment
      line_nobody (Flow partition most) = (flowed_keeps o skips (IsQuiet skips) partition (λ x l k. takes_quiet skips x partition (delivery_on l) refl k) (next_line r) most (some, counted)).1
      line_nobody (FlowAll most) = (flowed_in_keeps o skips (IsQuiet skips) (λ x p l k. takes_quiet skips x p (delivery_on l) refl k) (next_line r) most (numbers_below partitions) (some, counted)).1
      line_nobody (line.Crash member) = (takes_in_keeps o skips (IsQuiet skips) (event.Crash member) (λ x p k. takes_quiet skips x p (event.Crash member) refl k) (next_line r) (numbers_below partitions) (some, counted)).1
      line_nobody (line.Detect member) = (takes_in_keeps o skips (IsQuiet skips) (event.Detect member) (λ x p k. takes_quiet skips x p (event.Detect member) refl k) (next_line r) (numbers_below partitions) (some, counted)).1
      line_nobody (Rebalance most) = (rebalance_keeps o skips (IsQuiet skips) (λ x p event of_step k. takes_quiet skips x p event of_step.asks k) (next_line r) most (some, counted)).1
      line_nobody one = event_nobody (event_by one) (events_are_no_calls one)

    lines_nobody : (skips : List CallId) (r : Run) (lines : List Line) → IsRun o r → Leaving o Nobody r → Leaving o Nobody (after_lines o skips r lines)
    lines_nobody skips r [] is h = h
    lines_nobody skips r (one ∷ lines) is h = lines_nobody skips (after_line o skips r one) lines (line_run skips r is one) (line_nobody skips r is h one)

has_no_turn : (o : Object Request Partition) (r : Run) (w : Waiter) → Leaving o Nobody r → r.full ≡ false → In w r.waiters → HasNoTurn o r w
has_no_turn o r w done goes_on i = record { stays = not_over (fate_now o r w) quiet; waits = waits_on o (grid_terms (λ x. false)) (waiting_in o r w.request.partition) (as_machine w) quiet }
  where
    quiet : is_over (fate_now o r w) ≡ false
    quiet = ⊎_elim (λ full. absurd (true≢false (sym full ∙ goes_on))) (λ only. false_or_not (is_over (fate_now o r w)) (λ over. only w i over)) done

pub every_waiter_stays : EveryWaiterStays
every_waiter_stays settings members backups skips lines some goes_on w c =
    let o = partition_object settings in
    let first = begun members backups in
    let last = after_lines o skips first lines in
    let done : Leaving o Nobody last = lines_nobody o (lawful settings) skips first lines (grid_begun members backups some) (inr (λ x i over. absurd i)) in
    has_no_turn o last w done goes_on (in_contains w last.waiters c)
