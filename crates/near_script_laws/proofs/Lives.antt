-- A member crashes in all partitions of a run together, and stays crashed.
use Rattle.std.proofs.Common.{◌≡◌, ℕ, zero, suc, ◌<◌, Bool, true, false, cond, not, ◌&&◌, ◌||◌, ◌==◌, nat_lt, List, [], ◌∷◌, ◌++◌, map, Option, Some, None, refl, ap, sym, ◌∙◌, subst, arith, ◌⊎◌, inl, inr, ⊎_elim, append-nil}
use Rattle.std.specs.Prelude.{ℤ, pos}
use Rattle.grid_base.specs.Errors.{want_of_memory}
use Rattle.grid_base.specs.Objects.{Object}
use Rattle.grid_base.specs.declared.names.CallId.{CallId}
use Rattle.grid_base.specs.declared.calls.Request.{Request}
use Rattle.object_store.specs.Partitions.{Partition}
use Rattle.partition_table.specs.Rows.{is_among, first_of}
use Rattle.partition_protocol.specs.World.{World, start, is_live}
use Rattle.partition_protocol.specs.Service.{numbers_below}
use Rattle.partition_protocol.specs.Events.{Event, Resend, Crash, Detect, BeginMove, BeginJoin, BeginHandover, Advance, happens, run, done, nothing}
use Rattle.partition_protocol.proofs.EventCases.{EventCases, every_event}
use Rattle.partition_protocol.proofs.Extends.{run_append}
use Rattle.partition_protocol.proofs.Lists.{In, on_if, in_left, in_right}
use Rattle.partition_protocol.proofs.RowFacts.{number_same, less, not_less}
use Rattle.partition_protocol.proofs.WellFormed.{every_run_is_well_formed}
use Rattle.rebalance.specs.declared.Step.{Step}
use Rattle.rebalance.specs.declared.StepKind.{StepKind}
use Rattle.rebalance.specs.declared.StepKind.TheVariants as kind
use Rattle.session_core.specs.declared.item.Item.{Item}
use Rattle.session_core.specs.declared.item.Item.TheVariants.{Call as Asks, Wait, Register, Reply}
use Rattle.script_lang.specs.declared.line.Line.{Line}
use Rattle.script_lang.specs.declared.line.Line.TheVariants as line
use Rattle.replay_run.specs.Runs.{Run, At, Connection, Arrival, Waiter, Appended, events_at, world_at, is_full, is_skipped, refusal, arrived, asked, asks, given_up, happening, arrival_at, call_of, waiter_at, waits, without, ending, served, forsaken, occurred, meets_full, takes, takes_in, delivery_on, flowed, calls, begins_to_wait, handled_all, takes_bytes, took_bytes, items_by, connection_of, can_open, opened, next_line, clock_set, bytes_arrived, event_by, lives, partitions}
use Rattle.replay_run.specs.Rebalancing.{service_at, is_moving_at, most_deliveries, most_turns, event_begun, first_resends, turned, turned_on, joined, rejoined, stepped, stepped_all, steps_in}
use Rattle.replay_run.specs.AfterLines.{after_event, after_line}
use Rattle.replay_run.proofs.Turns.{KeepsTurns, IsMade, by_endings, served_keeps, takes_keeps, forsaken_keeps}
use Rattle.replay_run.proofs.EventRuns.{served_in_keeps, takes_in_full, flowed_keeps, flowed_in_keeps, served_kept, events_at-append}

-- ---- of one event

abbrev pub is_crash : Event Request → Bool
is_crash (Crash m) = true
is_crash e = false

-- who has crashed, once that member was to crash
abbrev pub fallen : ℕ → ℕ → List ℕ → List ℕ
fallen members m crashed = cond (nat_lt m members && not (is_among crashed m)) (m ∷ crashed) crashed

fallen_twice : (members m : ℕ) (crashed : List ℕ) → fallen members m (fallen members m crashed) ≡ fallen members m crashed
fallen_twice members m crashed = by (nat_lt m members) (is_among crashed m) refl
  where
    by : (a b : Bool) → is_among crashed m ≡ b → cond (a && not (is_among (cond (a && not b) (m ∷ crashed) crashed) m)) (m ∷ cond (a && not b) (m ∷ crashed) crashed) (cond (a && not b) (m ∷ crashed) crashed) ≡ cond (a && not b) (m ∷ crashed) crashed
    by false b e = refl
    by true true e = ap (λ x. cond (not x) (m ∷ crashed) crashed) e
    by true false e = ap (λ x. cond (not (x || is_among crashed m)) (m ∷ m ∷ crashed) (m ∷ crashed)) (number_same m m refl)

module _ (o : Object Request Partition) where
  calm : (w : World Request) (e : Event Request) → is_crash e ≡ false → (happens o w e).world.crashed ≡ w.crashed
  calm w e quiet = every_event o w After cases e quiet
    where
      After : Event Request → World Request → Type 0
      After e next = is_crash e ≡ false → next.crashed ≡ w.crashed

      cases : EventCases o w After
      cases = record {
        stays = λ e z q. refl;
        loses = λ f t i q at z. refl;
        drops = λ f t i q at z y. refl;
        repeats = λ f t i q at z. refl;
        tells_again = λ z. refl;
        sends_again = λ m n at lives leads z. refl;
        crashes = λ m lives z. absurd cc;
        detects = λ m l c d i z. refl;
        notes = λ m l c d i z. refl;
        begins = λ e source to r there y z. refl;
        hands_over = λ from to r z. refl;
        freezes = λ from to v p z. refl;
        leaves = λ from to v p z. refl;
        hands = λ from to v z. refl;
        reopens = λ r z. refl;
        joins = λ f t i q v m at to e z. refl;
        drains = λ f t i q v at to e z. refl;
        delivers = λ f t i q n at there lives z. refl;
        calls = λ m conn number call now n at lives still leads thawed z. refl;
      }

  falls : (w : World Request) (m : ℕ) → (happens o w (Crash m)).world.crashed ≡ fallen w.members m w.crashed
  falls w m = by (nat_lt m w.members && not (is_among w.crashed m))
    where
      by : (b : Bool) → (cond b (done (record w { crashed = m ∷ w.crashed })) (nothing w)).world.crashed ≡ cond b (m ∷ w.crashed) w.crashed
      by true = refl
      by false = refl

  -- ---- of a run

  abbrev pub crashed_at : Run → ℕ → List ℕ
  crashed_at r q = (world_at o r q).crashed

  its_members : (r : Run) (q : ℕ) → (world_at o r q).members ≡ r.members
  its_members r q = (every_run_is_well_formed o q r.members r.backups (events_at q r.events)).same_members

  one_more : (r : Run) (p : ℕ) (e : Event Request) (q : ℕ) → (run o (start q r.members r.backups) (events_at q (r.events ++ record { partition = p; event = e } ∷ []))).crashed ≡ cond (p == q) (happens o (world_at o r q) e).world.crashed (crashed_at r q)
  one_more r p e q = ap (λ es. (run o (start q r.members r.backups) es).crashed) (events_at-append q r.events (record { partition = p; event = e } ∷ [])) ∙ by (p == q)
    where
      here : At
      here = record { partition = p; event = e }

      by : (b : Bool) → (run o (start q r.members r.backups) (events_at q r.events ++ map (λ (x : At). x.event) (cond b (here ∷ []) []))).crashed ≡ cond b (happens o (world_at o r q) e).world.crashed (crashed_at r q)
      by true = ap (λ (w : World Request). w.crashed) (run_append o (start q r.members r.backups) (events_at q r.events) (e ∷ []))
      by false = ap (λ es. (run o (start q r.members r.backups) es).crashed) (append-nil (events_at q r.events))

  -- nobody crashes
  abbrev pub Calm : Run → Run → Type 0
  Calm r next = (q : ℕ) → crashed_at next q ≡ crashed_at r q

  calm_event : (r : Run) (p : ℕ) (e : Event Request) → is_crash e ≡ false → (q : ℕ) → (run o (start q r.members r.backups) (events_at q (r.events ++ record { partition = p; event = e } ∷ []))).crashed ≡ crashed_at r q
  calm_event r p e quiet q = one_more r p e q ∙ by (p == q)
    where
      by : (b : Bool) → cond b (happens o (world_at o r q) e).world.crashed (crashed_at r q) ≡ crashed_at r q
      by true = calm (world_at o r q) e quiet
      by false = refl

  none_more : (r : Run) (q : ℕ) → (run o (start q r.members r.backups) (events_at q (r.events ++ []))).crashed ≡ crashed_at r q
  none_more r q = ap (λ (es : List At). (run o (start q r.members r.backups) (events_at q es)).crashed) (append-nil r.events)

  -- whoever waited leaves, with its call's event or none
  ended_calm : (r x : Run) (w : Waiter) (events : List At) (appended : List Appended) → IsMade (ending x w) events → Calm r x → Calm r (arrived (without x w) (ending x w) events appended)
  ended_calm r x w events appended made h q = by made ∙ h q
    where
      crashed_with : List At → List ℕ
      crashed_with es = (run o (start q x.members x.backups) (events_at q (x.events ++ es))).crashed

      by : IsMade (ending x w) events → crashed_with events ≡ crashed_at x q
      by (inl none) = ap crashed_with none ∙ none_more x q
      by (inr one) = ap crashed_with one ∙ calm_event x w.request.partition (call_of (ending x w)) refl q

module _ (o : Object Request Partition) (skips : List CallId) where
  calm_turns : (r : Run) (p : ℕ) → KeepsTurns o skips p (Calm o r)
  calm_turns r p = by_endings o skips p (Calm o r) (λ x h. h) (λ x w events appended i made here h. ended_calm o r x w events appended made h)

  served_calm : (r x : Run) (own : Option ℕ) (p member : ℕ) → Calm o r x → Calm o r (served o skips x own p member)
  served_calm r x own p member h = served_keeps o skips p (Calm o r) (calm_turns r p) x own member h

  pub takes_calm : (r x : Run) (p : ℕ) (e : Event Request) → is_crash e ≡ false → Calm o r x → Calm o r (takes o skips x p e)
  takes_calm r x p e quiet h = takes_keeps o skips p (Calm o r) (calm_turns r p) x e h (λ q. calm_event o x p e quiet q ∙ h q)

  -- ---- calls

  asked_calm : (r : Run) (own : Option ℕ) (a : Arrival) → Calm o r (asked o skips r own a)
  asked_calm r own a = by (is_skipped skips a.request.id)
    where
      by : (b : Bool) → Calm o r (cond b (arrived r a [] (refusal a.made a.request (pos want_of_memory) 0 ∷ [])) (arrived r a (record { partition = a.request.partition; event = call_of a } ∷ []) (happening o r own a)))
      by true = none_more o r
      by false = calm_event o r a.request.partition (call_of a) refl

  asks_calm : (r : Run) (own : Option ℕ) (a : Arrival) → Calm o r (asks o skips r own a)
  asks_calm r own a = on_if (Calm o r) (is_full (world_at o r a.request.partition)) (given_up (arrived r a [] [])) (asked o skips r own a) (none_more o r) (asked_calm r own a)

  calls_calm : (r : Run) (member : ℕ) (request : Request) → Calm o r (calls o skips r member request)
  calls_calm r member request =
      let own = Some request.id.conn in
      let a = arrival_at r member request in
      served_calm r (asks o skips r own a) own request.partition member (asks_calm r own a)

  begins_calm : (r : Run) (member : ℕ) (request : Request) (timeout : ℤ) → Calm o r (begins_to_wait o skips r member request timeout)
  begins_calm r member request timeout = served_calm r (waits r (waiter_at r member request timeout)) (Some request.id.conn) request.partition member (λ q. refl)

  handled_calm : (items : List Item) (r : Run) (k : Connection) → Calm o r (handled_all o skips r k items)
  handled_calm [] r k q = refl
  handled_calm (Reply bytes ∷ items) r k q = handled_calm items _ k q
  handled_calm (Wait request timeout ∷ items) r k q = handled_calm items (begins_to_wait o skips r k.member request timeout) k q ∙ begins_calm r k.member request timeout q
  handled_calm (Register registration ∷ items) r k q = handled_calm items _ k q
  handled_calm (Asks request ∷ items) r k q = handled_calm items (calls o skips r k.member request) k q ∙ calls_calm r k.member request q

  -- ---- the steps of a plan

  module _ (r : Run) (p : ℕ) where
    flow_calm : (x : Run) (most : ℕ) → Calm o r x → Calm o r (flowed o skips x p most)
    flow_calm x most h = flowed_keeps o skips (Calm o r) p (λ y l k. takes_calm r y p (delivery_on l) refl k) x most h

    first_calm : (x : Run) → Calm o r x → Calm o r (first_resends o skips x p)
    first_calm x h = go (first_of (service_at o x p).row.members)
      where
        go : (first : Option ℕ) → Calm o r (elim first [ None ↦ x | Some first ↦ takes o skips x p (Resend first) ])
        go None = h
        go (Some first) = takes_calm r x p (Resend first) refl h

    turn_calm : (x : Run) → Calm o r x → Calm o r (turned o skips x p)
    turn_calm x h =
        let told = takes o skips x p (Resend x.members) in
        let again = first_resends o skips told p in
        takes_calm r (flowed o skips again p most_deliveries) p Advance refl (flow_calm again most_deliveries (first_calm told (takes_calm r x p (Resend x.members) refl h)))

    turns_calm : (x : Run) (turns : ℕ) → Calm o r x → Calm o r (turned_on o skips x p turns)
    turns_calm x zero h = h
    turns_calm x (suc turns) h = on_if (Calm o r) (is_moving_at o x p) (turned_on o skips (turned o skips x p) p turns) x (turns_calm (turned o skips x p) turns (turn_calm x h)) h

    join_calm : (x : Run) (member : ℕ) → Calm o r x → Calm o r (joined o skips x p member)
    join_calm x member h = flow_calm (takes o skips x p (BeginJoin member)) most_deliveries (takes_calm r x p (BeginJoin member) refl h)

    rejoin_calm : (x : Run) (from : ℕ) (k : StepKind) → Calm o r x → Calm o r (rejoined o skips x p from k)
    rejoin_calm x from kind.Move h = h
    rejoin_calm x from kind.Handover h = on_if (Calm o r) (is_moving_at o x p) x (joined o skips x p from) h (join_calm x from h)

    begun_calm : (x : Run) (k : StepKind) (from to : ℕ) → Calm o r x → Calm o r (takes o skips x p (event_begun k from to))
    begun_calm x kind.Move from to h = takes_calm r x p (BeginMove from to) refl h
    begun_calm x kind.Handover from to h = takes_calm r x p (BeginHandover from to) refl h

  step_calm : (r x : Run) (step : Step) → Calm o r x → Calm o r (stepped o skips x step)
  step_calm r x step h =
      let p = step.partition in
      let begun = takes o skips x p (event_begun step.kind step.from step.to) in
      rejoin_calm r p (turned_on o skips begun p most_turns) step.from step.kind (turns_calm r p begun most_turns (begun_calm r p x step.kind step.from step.to h))

  steps_calm : (r x : Run) (steps : List Step) → Calm o r x → Calm o r (stepped_all o skips x steps)
  steps_calm r x [] h = h
  steps_calm r x (step ∷ steps) h = steps_calm r (stepped o skips x step) steps (step_calm r x step h)

  -- ---- a crash

  -- after the event in these partitions a member has crashed in them, and in no others
  abbrev Falls : ℕ → Run → Run → List ℕ → ℕ → Type 0
  Falls m r next ps q = (crashed_at o next q ≡ fallen r.members m (crashed_at o r q)) ⊎ ((In q ps → ⊥) × (crashed_at o next q ≡ crashed_at o r q))

  -- it crashes in one partition, and those who wait there have their turns
  abbrev crashed : Run → ℕ → ℕ → Run
  crashed r p m = served o skips (occurred o r p (Crash m)) None p m

  crash_in : (m : ℕ) (ps : List ℕ) (r : Run) → (takes_in o skips r (Crash m) ps).full ≡ false → (q : ℕ) → Falls m r (takes_in o skips r (Crash m) ps) ps q
  crash_in m [] r going q = inr ((λ i. i), refl)
  crash_in m (p ∷ ps) r going q = by (meets_full (world_at o r p) (Crash m)) refl (λ goes. crash_in m ps (crashed r p m) goes q)
    where
      occurs : (b : Bool) → (p == q) ≡ b → crashed_at o (occurred o r p (Crash m)) q ≡ cond b (fallen r.members m (crashed_at o r q)) (crashed_at o r q)
      occurs true same = one_more o r p (Crash m) q ∙ ap (λ b. cond b (happens o (world_at o r q) (Crash m)).world.crashed (crashed_at o r q)) same ∙ falls o (world_at o r q) m ∙ ap (λ n. fallen n m (crashed_at o r q)) (its_members o r q)
      occurs false other = one_more o r p (Crash m) q ∙ ap (λ b. cond b (happens o (world_at o r q) (Crash m)).world.crashed (crashed_at o r q)) other

      first : (b : Bool) → (p == q) ≡ b → crashed_at o (crashed r p m) q ≡ cond b (fallen r.members m (crashed_at o r q)) (crashed_at o r q)
      first b e = served_calm (occurred o r p (Crash m)) (occurred o r p (Crash m)) None p m (λ k. refl) q ∙ occurs b e

      on : (next : Run) → next.members ≡ r.members → (b : Bool) → (p == q) ≡ b → crashed_at o next q ≡ cond b (fallen r.members m (crashed_at o r q)) (crashed_at o r q)
          → Falls m next (takes_in o skips next (Crash m) ps) ps q → Falls m r (takes_in o skips next (Crash m) ps) (p ∷ ps) q
      on next members true same is (inl e) = inl (e ∙ ap (λ n. fallen n m (crashed_at o next q)) members ∙ ap (fallen r.members m) is ∙ fallen_twice r.members m (crashed_at o r q))
      on next members true same is (inr (apart, e)) = inl (e ∙ is)
      on next members false other is (inl e) = inl (e ∙ ap (λ n. fallen n m (crashed_at o next q)) members ∙ ap (fallen r.members m) is)
      on next members false other is (inr (apart, e)) = inr ((λ i. not_there i), e ∙ is)
        where
          not_there : In q (p ∷ ps) → ⊥
          not_there (inl s) = absurd (let clash : true ≡ false = sym (number_same p q s) ∙ other in cc)
          not_there (inr i) = apart i

      by : (b : Bool) → meets_full (world_at o r p) (Crash m) ≡ b → ((takes_in o skips (crashed r p m) (Crash m) ps).full ≡ false → Falls m (crashed r p m) (takes_in o skips (crashed r p m) (Crash m) ps) ps q)
          → Falls m r (takes_in o skips r (Crash m) (p ∷ ps)) (p ∷ ps) q
      by true full rest = absurd (let clash : true ≡ false = sym (takes_in_full o skips (takes o skips r p (Crash m)) (Crash m) ps (ap (λ b. (cond b (given_up r) (crashed r p m)).full) full)) ∙ going in cc)
      by false meets rest =
          let is : takes o skips r p (Crash m) ≡ crashed r p m = ap (λ b. cond b (given_up r) (crashed r p m)) meets in
          subst (λ (x : Run). Falls m r (takes_in o skips x (Crash m) ps) (p ∷ ps) q) (sym is)
          (on (crashed r p m) (served_kept o skips (occurred o r p (Crash m)) None p m).members (p == q) refl (first (p == q) refl) (rest (ap (λ (x : Run). (takes_in o skips x (Crash m) ps).full) (sym is) ∙ going)))

in_below : (n k : ℕ) → k < n → In k (numbers_below n)
in_below zero k l = absurd (omega (arith, l))
in_below (suc n) k l = by (nat_lt k n) refl (λ less. in_below n k less)
  where
    by : (b : Bool) → nat_lt k n ≡ b → (k < n → In k (numbers_below n)) → In k (numbers_below n ++ n ∷ [])
    by true t rest = in_left k (numbers_below n) (n ∷ []) (rest (less k n t))
    by false t rest = let same : n ≡ k = (let more = not_less k n t in omega (arith, l, more)) in in_right k (numbers_below n) (n ∷ []) (inl same)

-- ---- lines

module _ (o : Object Request Partition) (skips : List CallId) (r : Run) where
  -- Nobody crashed, or one member did in all partitions.
  abbrev pub Shift : Run → Type 0
  Shift next = Calm o r next ⊎ ((m : ℕ) × ((q : ℕ) → q < partitions → crashed_at o next q ≡ fallen r.members m (crashed_at o r q)))

  arrives : (c : ℕ) (bytes : List ℕ) (found : Option Connection) → Calm o r (elim found [ None ↦ next_line r | Some k ↦ bytes_arrived o skips r k bytes ])
  arrives c bytes None = λ q. refl
  arrives c bytes (Some k) =
      let all = handled_all o skips (took_bytes r k bytes) k (items_by k bytes) in
      on_if (Calm o r) (takes_bytes o r k) (forsaken all k.conn) (next_line r)
      (forsaken_keeps (Calm o r) (λ x w i h. ended_calm o r x w [] [] (inl refl) h) k.conn all (handled_calm o skips (items_by k bytes) (took_bytes r k bytes) k)) (λ q. refl)

  abbrev pub quiet_at : Option At → Type 0
  quiet_at None = Unit {0}
  quiet_at (Some e) = is_crash e.event ≡ false

  pub quiet_line : (l : Line) → quiet_at (event_by l)
  quiet_line (line.Deliver partition from to place) = refl
  quiet_line (line.Lose partition from to place) = refl
  quiet_line (line.Repeat partition from to place) = refl
  quiet_line (line.Resend partition end) = refl
  quiet_line (line.Move partition from to) = refl
  quiet_line (line.Join partition to) = refl
  quiet_line (line.Handover partition from to) = refl
  quiet_line (line.Advance partition) = refl
  quiet_line (line.Reopen partition) = refl
  quiet_line l = tt

  by_event : (e : Option At) → quiet_at e → Calm o r (after_event o skips (next_line r) e)
  by_event None quiet = λ q. refl
  by_event (Some e) quiet = takes_calm o skips r (next_line r) e.partition e.event quiet (λ q. refl)

  abbrev pub IsNoCrash : Line → Type 0
  IsNoCrash (line.Crash member) = ⊥
  IsNoCrash l = Unit {0}

  pub calm_line : (l : Line) → IsNoCrash l → Calm o r (after_line o skips r l)
  calm_line (line.OpenConn c member) calm = on_if (Calm o r) (can_open o r c member) (opened r c member) (next_line r) (λ q. refl) (λ q. refl)
  calm_line (line.Arrive c bytes) calm = arrives c bytes (connection_of r c)
  calm_line (line.Clock member moment) calm = served_in_keeps o skips (Calm o r) member (λ x p h. served_calm o skips r x None p member h) (clock_set r member moment) (numbers_below partitions) (λ q. refl)
  calm_line (line.Flow partition most) calm = flow_calm o skips r partition (next_line r) most (λ q. refl)
  calm_line (line.FlowAll most) calm = flowed_in_keeps o skips (Calm o r) (λ y p l k. takes_calm o skips r y p (delivery_on l) refl k) (next_line r) most (numbers_below partitions) (λ q. refl)
  calm_line (line.Crash member) calm = absurd calm
  calm_line (line.Detect member) calm = detects (numbers_below partitions) (next_line r) (λ q. refl)
    where
      detects : (ps : List ℕ) (x : Run) → Calm o r x → Calm o r (takes_in o skips x (Detect member) ps)
      detects [] x h = h
      detects (p ∷ ps) x h = detects ps (takes o skips x p (Detect member)) (takes_calm o skips r x p (Detect member) refl h)
  calm_line (line.Rebalance most) calm = steps_calm o skips r (next_line r) (steps_in o (next_line r) most) (λ q. refl)
  calm_line l calm = by_event (event_by l) (quiet_line l)

  pub crash_line : (member : ℕ) → (after_line o skips r (line.Crash member)).full ≡ false → Shift (after_line o skips r (line.Crash member))
  crash_line member going = inr (member, all)
    where
      all : (q : ℕ) → q < partitions → crashed_at o (takes_in o skips (next_line r) (Crash member) (numbers_below partitions)) q ≡ fallen r.members member (crashed_at o r q)
      all q few = ⊎_elim (λ e. e) (λ z. absurd (z.0 (in_below partitions q few))) (crash_in o skips member (numbers_below partitions) (next_line r) going q)

-- ---- members crash together

abbrev pub CrashTogether : Object Request Partition → Run → Type 0
CrashTogether o r = (p : ℕ) → p < partitions → crashed_at o r p ≡ crashed_at o r 0

first_one : 0 < partitions
first_one = omega arith

pub still_together : (o : Object Request Partition) (skips : List CallId) (r next : Run) → Shift o skips r next → CrashTogether o r → CrashTogether o next
still_together o skips r next shift together p few = by shift
  where
    by : Shift o skips r next → crashed_at o next p ≡ crashed_at o next 0
    by (inl calm) = calm p ∙ together p few ∙ sym (calm 0)
    by (inr (m, all)) = all p few ∙ ap (fallen r.members m) (together p few) ∙ sym (all 0 first_one)

pub lives_alike : (o : Object Request Partition) (r : Run) → CrashTogether o r → (p : ℕ) → p < partitions → (m : ℕ) → is_live (world_at o r p) m ≡ lives o r m
lives_alike o r together p few m =
    ap (λ n. nat_lt m n && not (is_among (crashed_at o r p) m)) (its_members o r p ∙ sym (its_members o r 0)) ∙ ap (λ cs. nat_lt m (world_at o r 0).members && not (is_among cs m)) (together p few)

-- A member that has crashed stays so.
pub still_dead : (o : Object Request Partition) (skips : List CallId) (r next : Run) (m : ℕ) → next.members ≡ r.members → Shift o skips r next → lives o r m ≡ false → lives o next m ≡ false
still_dead o skips r next m members shift dead = is_so members (by shift)
  where
    alive : List ℕ → Bool
    alive cs = nat_lt m r.members && not (is_among cs m)

    was : alive (crashed_at o r 0) ≡ false
    was = ap (λ n. nat_lt m n && not (is_among (crashed_at o r 0) m)) (sym (its_members o r 0)) ∙ dead

    is_so : next.members ≡ r.members → alive (crashed_at o next 0) ≡ false → lives o next m ≡ false
    is_so same is = ap (λ n. nat_lt m n && not (is_among (crashed_at o next 0) m)) (its_members o next 0 ∙ same) ∙ is

    more : (k : ℕ) (cs : List ℕ) → alive cs ≡ false → alive (fallen r.members k cs) ≡ false
    more k cs gone = on (nat_lt k r.members && not (is_among cs k))
      where
        with_one : (x y z : Bool) → (x && not z) ≡ false → (x && not (y || z)) ≡ false
        with_one false y z e = refl
        with_one true true z e = refl
        with_one true false z e = e

        on : (b : Bool) → alive (cond b (k ∷ cs) cs) ≡ false
        on true = with_one (nat_lt m r.members) (m == k) (is_among cs m) gone
        on false = gone

    by : Shift o skips r next → alive (crashed_at o next 0) ≡ false
    by (inl calm) = ap alive (calm 0) ∙ was
    by (inr (k, all)) = ap alive (all 0 first_one) ∙ more k (crashed_at o r 0) was
