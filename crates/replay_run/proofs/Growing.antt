-- What arrived and what was appended stays, at each step of a run, and a run that is given up stays so. And a step asks of the skips only which of the calls are among them that it makes.
use Rattle.std.specs.List.{find, flat_map}
use Rattle.std.proofs.Common.{◌≡◌, ◌≢◌, true≢false, ℤ, ℕ, zero, suc, Bool, true, false, cond, List, [], ◌∷◌, ◌++◌, length, Option, Some, None, pos, refl, ap, sym, ◌∙◌, subst, ⊎_elim, inl, inr, append-nil, append_assoc}
use Rattle.grid_base.specs.Errors.{want_of_memory}
use Rattle.grid_base.specs.Objects.{Object}
use Rattle.grid_base.specs.declared.names.CallId.{CallId}
use Rattle.grid_base.specs.declared.calls.Request.{Request}
use Rattle.object_store.specs.Partitions.{Partition}
use Rattle.waiting_protocol.specs.Machine.{Fate, Stays, Runs, Starves, IsRefused, Leaves}
use Rattle.partition_table.specs.Rows.{first_of}
use Rattle.partition_protocol.specs.Events.{Event, Resend, BeginJoin, Advance}
use Rattle.partition_protocol.specs.Events as event
use Rattle.partition_protocol.specs.Arrivals.{asked_by}
use Rattle.partition_protocol.specs.Sequences.{IsFrontOf}
use Rattle.partition_protocol.specs.Service.{numbers_below}
use Rattle.partition_protocol.proofs.Lists.{In, in_left, in_right, in_cases, in_contains, contains_in}
use Rattle.partition_protocol.proofs.RowFacts.{false_or_not}
use Rattle.partition_world.specs.declared.Link.{Link}
use Rattle.partition_world.specs.LinkOrder.{next_link}
use Rattle.session_core.specs.declared.item.Item.{Item}
use Rattle.session_core.specs.declared.item.Item.TheVariants.{Call as Asks, Wait, Register, Reply}
use Rattle.script_lang.specs.declared.line.Line.{Line}
use Rattle.script_lang.specs.declared.line.Line.TheVariants.{OpenConn, Arrive, Clock, Flow, FlowAll, Crash, Detect, Rebalance}
use Rattle.rebalance.specs.declared.Step.{Step}
use Rattle.rebalance.specs.declared.StepKind.{StepKind}
use Rattle.rebalance.specs.declared.StepKind.TheVariants.{Move, Handover}
use Rattle.replay_run.specs.Runs.{Run, At, Connection, Arrival, Waiter, Appended, partitions, connection_of, is_open, call_of, world_at, is_full, takes_bytes, items_by, took_bytes, next_line, clock_set, can_open, opened, bytes_arrived, own_answer, told, registers, given_out, refusal, happening, arrived, is_skipped, given_up, asked, asks, waiter_at, waits, without, ending, refused_at, leaves, leaves_so, fate_now, next_in_turn, turn_of, served_so_often, served, served_in, is_waiting_on, left_by, left_so_often, forsaken, calls, begins_to_wait, arrival_at, handled, handled_all, occurred, meets_full, stirred_by, served_at, takes, takes_in, delivery_on, flowed, flowed_in, event_by}
use Rattle.replay_run.specs.AfterLines.{after_event, after_line, after_lines}
use Rattle.replay_run.specs.Rebalancing.{service_at, is_moving_at, most_deliveries, most_turns, event_begun, first_resends, turned, turned_on, joined, rejoined, stepped, stepped_all, steps_in, rebalanced}
use Rattle.replay_run.specs.Appending.{appended_text, new_messages}
use Rattle.replay_run.specs.RebalancingTexts.{end_text, ran_text, ran_texts}
use Rattle.replay_run.specs.SkippedCalls.{IsTold}
use Rattle.replay_run.proofs.Turns.{its_event}
use Rattle.replay_run.proofs.EventRuns.{flowed_on}
use Rattle.replay_run.proofs.Rebalanced.{begun_unasked}
use Rattle.replay_run.proofs.Lines.{registers_come, IsNoCall, events_are_no_calls}
use Rattle.replay_run.specs.LineTold.{all_told, end_told, ran_told, ran_all_told}

pub record Grows (r next : Run) : Type 0 where
  pub events : IsFrontOf r.events next.events
  pub arrivals : IsFrontOf r.arrivals next.arrivals
  pub appended : IsFrontOf r.appended next.appended
  pub full : r.full ≡ true → next.full ≡ true

-- a list as it was, and what it grew by twice
abbrev no_more : {X : Type 0} (xs : List X) → IsFrontOf xs xs
no_more xs = ([], append-nil xs)

abbrev more_twice : {X : Type 0} (xs ys zs : List X) → IsFrontOf xs ys → IsFrontOf ys zs → IsFrontOf xs zs
more_twice xs ys zs a b = (a.0 ++ b.0, sym (append_assoc xs a.0 b.0) ∙ ap (λ t. t ++ b.0) a.1 ∙ b.1)

abbrev pub grows_trans : (r mid next : Run) → Grows r mid → Grows mid next → Grows r next
grows_trans r mid next a b = record {
  events = more_twice r.events mid.events next.events a.events b.events;
  arrivals = more_twice r.arrivals mid.arrivals next.arrivals a.arrivals b.arrivals;
  appended = more_twice r.appended mid.appended next.appended a.appended b.appended;
  full = λ e. b.full (a.full e);
}

-- what was told stays
pub told_still : (r next : Run) (a : Arrival) → Grows r next → IsTold r a → IsTold next a
told_still r next a grows (m, there, tells) = (m, contains_in m next.appended (subst (In m) grows.appended.1 (in_left m r.appended grows.appended.0 (in_contains m r.appended there))), tells)

-- The two lists skip the same of these calls.
abbrev pub Agree : List Arrival → List CallId → List CallId → Type 0
Agree come s t = (a : Arrival) → In a come → is_skipped s a.request.id ≡ is_skipped t a.request.id

-- no call that is skipped makes such an event
abbrev pub IsFed : List CallId → At → Type 0
IsFed s e = (a : Arrival) → e.event ≡ call_of a → is_skipped s a.request.id ≡ false

-- A run goes on by the skips: it grows, and asks them only of calls that it tries to make, which are then arrivals, and which it tells of where they are skipped.
pub record GoesBy (r : Run) (onward : List CallId → Run) : Type 0 where
  pub tries : List CallId → List Arrival
  pub grows : (s : List CallId) → Grows r (onward s)
  pub come : (s : List CallId) (a : Arrival) → In a (tries s) → In a (grows s).arrivals.0
  pub tells : (s : List CallId) (a : Arrival) → In a (tries s) → is_skipped s a.request.id ≡ true → IsTold (onward s) a
  pub alike : (s t : List CallId) → Agree (tries s) s t → onward s ≡ onward t
  -- unless it is given up, it makes all calls that arrive and don't wait
  pub plain : (s : List CallId) (a : Arrival) → In a (grows s).arrivals.0 → a.waits ≡ false → (onward s).full ≡ false → In a (tries s)
  pub fed : (s : List CallId) (e : At) → In e (grows s).events.0 → IsFed s e

-- It makes no call, and no event that is one.
pub record GoesQuietly (r next : Run) : Type 0 where
  pub grows : Grows r next
  pub waited : (a : Arrival) → In a grows.arrivals.0 → a.waits ≡ false → next.full ≡ false → ⊥
  pub uncalled : (e : At) → In e grows.events.0 → asked_by e.event ≡ []

no_call : (e : At) (a : Arrival) → asked_by e.event ≡ [] → e.event ≢ call_of a
no_call e a quiet is = let clash : asked_by (call_of a) ≡ [] = subst (λ (x : Event Request). asked_by x ≡ []) is quiet in cc

pub goes_on : (r next : Run) → GoesQuietly r next → GoesBy r (λ s. next)
goes_on r next quiet = record {
  tries = λ s. [];
  grows = λ s. quiet.grows;
  come = λ s a i. absurd i;
  tells = λ s a i. absurd i;
  alike = λ s t same. refl;
  plain = λ s a i plain lasts. absurd (quiet.waited a i plain lasts);
  fed = λ s e i a is. absurd (no_call e a (quiet.uncalled e i) is);
}

-- neither arrivals nor events are more
pub goes_quietly : (r next : Run) → next.events ≡ r.events → next.arrivals ≡ r.arrivals → IsFrontOf r.appended next.appended → (r.full ≡ true → next.full ≡ true) → GoesQuietly r next
goes_quietly r next events arrivals appended full = record {
  grows = record { events = ([], append-nil r.events ∙ sym events); arrivals = ([], append-nil r.arrivals ∙ sym arrivals); appended = appended; full = full };
  waited = λ a i. absurd i;
  uncalled = λ e i. absurd i;
}

pub goes_nowhere : (r : Run) → GoesBy r (λ s. r)
goes_nowhere r = goes_on r r (goes_quietly r r refl refl (no_more r.appended) (λ e. e))

-- one step, and then another from where that leads
pub goes_then : (r : Run) (first : List CallId → Run) (then : Run → List CallId → Run) → GoesBy r first → ((x : Run) → GoesBy x (then x)) → GoesBy r (λ s. then (first s) s)
goes_then r first then g h = record {
  tries = λ s. g.tries s ++ (h (first s)).tries s;
  grows = λ s. grows_trans r (first s) (then (first s) s) (g.grows s) ((h (first s)).grows s);
  come = λ s a i. ⊎_elim
      (λ j. in_left a (g.grows s).arrivals.0 ((h (first s)).grows s).arrivals.0 (g.come s a j))
      (λ j. in_right a (g.grows s).arrivals.0 ((h (first s)).grows s).arrivals.0 ((h (first s)).come s a j))
      (in_cases a (g.tries s) ((h (first s)).tries s) i);
  tells = λ s a i skipped. ⊎_elim
      (λ j. told_still (first s) (then (first s) s) a ((h (first s)).grows s) (g.tells s a j skipped))
      (λ j. (h (first s)).tells s a j skipped)
      (in_cases a (g.tries s) ((h (first s)).tries s) i);
  alike = λ s t agree.
      (h (first s)).alike s t (λ a i. agree a (in_right a (g.tries s) ((h (first s)).tries s) i))
      ∙ ap (λ x. then x t) (g.alike s t (λ a i. agree a (in_left a (g.tries s) ((h (first s)).tries s) i)));
  plain = λ s a i plain lasts. ⊎_elim
      (λ j. in_left a (g.tries s) ((h (first s)).tries s) (g.plain s a j plain (lasted s lasts)))
      (λ j. in_right a (g.tries s) ((h (first s)).tries s) ((h (first s)).plain s a j plain lasts))
      (in_cases a (g.grows s).arrivals.0 ((h (first s)).grows s).arrivals.0 i);
  fed = λ s e i. ⊎_elim (λ j. g.fed s e j) (λ j. (h (first s)).fed s e j) (in_cases e (g.grows s).events.0 ((h (first s)).grows s).events.0 i);
}
  where
    lasted : (s : List CallId) → (then (first s) s).full ≡ false → (first s).full ≡ false
    lasted s lasts = false_or_not (first s).full (λ full. true≢false (sym (((h (first s)).grows s).full full) ∙ lasts))

-- a step that makes no call first
pub goes_from : (r mid : Run) (onward : List CallId → Run) → GoesQuietly r mid → GoesBy mid onward → GoesBy r onward
goes_from r mid onward quiet g = record {
  tries = g.tries;
  grows = λ s. grows_trans r mid (onward s) quiet.grows (g.grows s);
  come = λ s a i. in_right a quiet.grows.arrivals.0 (g.grows s).arrivals.0 (g.come s a i);
  tells = g.tells;
  alike = g.alike;
  plain = λ s a i plain lasts. ⊎_elim (λ j. absurd (quiet.waited a j plain (lasted s lasts))) (λ j. g.plain s a j plain lasts) (in_cases a quiet.grows.arrivals.0 (g.grows s).arrivals.0 i);
  fed = λ s e i. ⊎_elim (λ j a is. absurd (no_call e a (quiet.uncalled e j) is)) (λ j. g.fed s e j) (in_cases e quiet.grows.events.0 (g.grows s).events.0 i);
}
  where
    lasted : (s : List CallId) → (onward s).full ≡ false → mid.full ≡ false
    lasted s lasts = false_or_not mid.full (λ full. true≢false (sym ((g.grows s).full full) ∙ lasts))

-- a choice that the skips have no part in
pub goes_if : (r : Run) (b : Bool) (first other : List CallId → Run) → GoesBy r first → GoesBy r other → GoesBy r (λ s. cond b (first s) (other s))
goes_if r true first other g h = g
goes_if r false first other g h = h

-- calls

module _ (o : Object Request Partition) where
  asked_goes : (r : Run) (own : Option ℕ) (a : Arrival) → GoesBy r (λ s. asked o s r own a)
  asked_goes r own a = record {
    tries = λ s. a ∷ [];
    grows = λ s. record {
      events = more_events (is_skipped s a.request.id);
      arrivals = (a ∷ [], come (is_skipped s a.request.id));
      appended = more (is_skipped s a.request.id);
      full = λ e. full (is_skipped s a.request.id) e;
    };
    come = λ s b i. i;
    tells = λ s b i skipped. tells s b i skipped;
    alike = λ s t agree. ap (λ b. cond b skipped_run called_run) (agree a (inl refl));
    plain = λ s b i plain lasts. i;
    fed = λ s e i. fed s e (is_skipped s a.request.id) refl i;
  }
    where
      excuse : Appended
      excuse = refusal a.made a.request (pos want_of_memory) 0

      skipped_run : Run
      skipped_run = arrived r a [] (excuse ∷ [])

      called_run : Run
      called_run = arrived r a (its_event a ∷ []) (happening o r own a)

      more_events : (b : Bool) → IsFrontOf r.events (cond b skipped_run called_run).events
      more_events true = ([], refl)
      more_events false = (its_event a ∷ [], refl)

      come : (b : Bool) → r.arrivals ++ a ∷ [] ≡ (cond b skipped_run called_run).arrivals
      come true = refl
      come false = refl

      more : (b : Bool) → IsFrontOf r.appended (cond b skipped_run called_run).appended
      more true = (excuse ∷ [], refl)
      more false = (happening o r own a, refl)

      full : (b : Bool) → r.full ≡ true → (cond b skipped_run called_run).full ≡ true
      full true e = e
      full false e = e

      told_of : IsTold skipped_run a
      told_of = (excuse, contains_in excuse (r.appended ++ excuse ∷ []) (in_right excuse r.appended (excuse ∷ []) (inl refl)), record { refuses = refl; bytes = refl; conn = refl; line = refl })

      told_if : (b : Bool) → b ≡ true → IsTold (cond b skipped_run called_run) a
      told_if true e = told_of
      told_if false e = absurd cc

      tells : (s : List CallId) (b : Arrival) → In b (a ∷ []) → is_skipped s b.request.id ≡ true → IsTold (asked o s r own a) b
      tells s b (inl e) skipped = subst (λ (c : Arrival). is_skipped s c.request.id ≡ true → IsTold (asked o s r own a) c) e (λ k. told_if (is_skipped s a.request.id) k) skipped
      tells s b (inr i) skipped = absurd i

      its_own : (s : List CallId) (e : At) → is_skipped s a.request.id ≡ false → its_event a ≡ e → IsFed s e
      its_own s e unskipped same b is =
          let event : call_of a ≡ call_of b = ap (λ (x : At). x.event) same ∙ is in
          let request : a.request ≡ b.request = cc in
          subst (λ (q : Request). is_skipped s q.id ≡ false) request unskipped

      fed : (s : List CallId) (e : At) (b : Bool) → is_skipped s a.request.id ≡ b → In e (more_events b).0 → IsFed s e
      fed s e true skipped i = absurd i
      fed s e false unskipped (inl same) = its_own s e unskipped same
      fed s e false unskipped (inr i) = absurd i

  pub asks_goes : (r : Run) (own : Option ℕ) (a : Arrival) → GoesBy r (λ s. asks o s r own a)
  asks_goes r own a =
      goes_if r (is_full (world_at o r a.request.partition)) (λ s. given_up (arrived r a [] [])) (λ s. asked o s r own a)
      (goes_on r (given_up (arrived r a [] [])) (record {
        grows = record { events = ([], refl); arrivals = (a ∷ [], refl); appended = ([], refl); full = λ e. refl };
        waited = λ b i plain lasts. true≢false lasts;
        uncalled = λ e i. absurd i;
      }))
      (asked_goes r own a)

  -- those who wait

  ended_quietly : (r : Run) (w : Waiter) (appended : List Appended) → GoesQuietly r (arrived (without r w) (ending r w) [] appended)
  ended_quietly r w appended = record {
    grows = record { events = ([], refl); arrivals = (ending r w ∷ [], refl); appended = (appended, refl); full = λ e. e };
    waited = λ a i plain lasts. its a i plain;
    uncalled = λ e i. absurd i;
  }
    where
      its : (a : Arrival) → In a (ending r w ∷ []) → a.waits ≡ false → ⊥
      its a (inl e) plain = true≢false (ap (λ (x : Arrival). x.waits) e ∙ plain)
      its a (inr i) plain = i

  made_goes : (r : Run) (own : Option ℕ) (w : Waiter) → GoesBy r (λ s. asks o s (without r w) own (ending r w))
  made_goes r own w = goes_from r (without r w) (λ s. asks o s (without r w) own (ending r w)) (goes_quietly r (without r w) refl refl (no_more r.appended) (λ e. e)) (asks_goes (without r w) own (ending r w))

  leaving_goes : (r : Run) (own : Option ℕ) (w : Waiter) (fate : Fate) → GoesBy r (λ s. leaves_so o s r own w fate)
  leaving_goes r own w Stays = goes_nowhere r
  leaving_goes r own w Runs = made_goes r own w
  leaving_goes r own w Starves = made_goes r own w
  leaving_goes r own w (IsRefused why) = goes_on r (arrived (without r w) (ending r w) [] (refused_at r.lines w.request why)) (ended_quietly r w (refused_at r.lines w.request why))
  leaving_goes r own w Leaves = goes_on r (leaves r w) (ended_quietly r w [])

  pub turn_goes : (r : Run) (own : Option ℕ) (next : Option Waiter) → GoesBy r (λ s. turn_of o s r own next)
  turn_goes r own None = goes_nowhere r
  turn_goes r own (Some w) = leaving_goes r own w (fate_now o r w)

  pub so_often_goes : (own : Option ℕ) (p member turns : ℕ) (r : Run) → GoesBy r (λ s. served_so_often o s own p member turns r)
  so_often_goes own p member zero r = goes_nowhere r
  so_often_goes own p member (suc turns) r =
      goes_then r (λ s. turn_of o s r own (next_in_turn o r p member)) (λ x s. served_so_often o s own p member turns x) (turn_goes r own (next_in_turn o r p member)) (λ x. so_often_goes own p member turns x)

  pub served_goes : (r : Run) (own : Option ℕ) (p member : ℕ) → GoesBy r (λ s. served o s r own p member)
  served_goes r own p member = so_often_goes own p member (length r.waiters) r

  pub served_in_goes : (r : Run) (member : ℕ) (ps : List ℕ) → GoesBy r (λ s. served_in o s r member ps)
  served_in_goes r member [] = goes_nowhere r
  served_in_goes r member (p ∷ ps) = goes_then r (λ s. served o s r None p member) (λ x s. served_in o s x member ps) (served_goes r None p member) (λ x. served_in_goes x member ps)

  -- items

  pub calls_goes : (r : Run) (member : ℕ) (request : Request) → GoesBy r (λ s. calls o s r member request)
  calls_goes r member request =
      let own = Some request.id.conn in
      goes_then r (λ s. asks o s r own (arrival_at r member request)) (λ x s. served o s x own request.partition member) (asks_goes r own (arrival_at r member request)) (λ x. served_goes x own request.partition member)

  pub begins_goes : (r : Run) (member : ℕ) (request : Request) (timeout : ℤ) → GoesBy r (λ s. begins_to_wait o s r member request timeout)
  begins_goes r member request timeout =
      let mid = waits r (waiter_at r member request timeout) in
      goes_from r mid (λ s. begins_to_wait o s r member request timeout) (goes_quietly r mid refl refl (no_more r.appended) (λ e. e)) (served_goes mid (Some request.id.conn) request.partition member)

  pub handled_goes : (r : Run) (k : Connection) (item : Item) → GoesBy r (λ s. handled o s r k item)
  handled_goes r k (Reply bytes) = goes_on r (told r k.conn bytes) (goes_quietly r (told r k.conn bytes) refl refl (own_answer r.lines k.conn bytes ∷ [], refl) (λ e. e))
  handled_goes r k (Wait request timeout) = begins_goes r k.member request timeout
  handled_goes r k (Register registration) =
      let next = registers o r k.conn k.member registration in
      goes_on r next (goes_quietly r next refl refl (registers_come o r k.conn k.member registration).appended (λ e. e))
  handled_goes r k (Asks request) = calls_goes r k.member request

  pub handled_all_goes : (r : Run) (k : Connection) (items : List Item) → GoesBy r (λ s. handled_all o s r k items)
  handled_all_goes r k [] = goes_nowhere r
  handled_all_goes r k (item ∷ items) = goes_then r (λ s. handled o s r k item) (λ x s. handled_all o s x k items) (handled_goes r k item) (λ x. handled_all_goes x k items)

  -- events

  pub served_at_goes : (r : Run) (p : ℕ) (stirred : Option ℕ) → GoesBy r (λ s. served_at o s r p stirred)
  served_at_goes r p None = goes_nowhere r
  served_at_goes r p (Some member) = served_goes r None p member

  occurs_quietly : (r : Run) (p : ℕ) (event : Event Request) → asked_by event ≡ [] → GoesQuietly r (occurred o r p event)
  occurs_quietly r p event quiet = record {
    grows = record { events = (one ∷ [], refl); arrivals = no_more r.arrivals; appended = (given_out o r p event, refl); full = λ e. e };
    waited = λ a i. absurd i;
    uncalled = λ e i. its e i;
  }
    where
      one : At
      one = record { partition = p; event = event }

      its : (e : At) → In e (one ∷ []) → asked_by e.event ≡ []
      its e (inl is) = subst (λ (x : At). asked_by x.event ≡ []) is quiet
      its e (inr i) = absurd i

  pub takes_goes : (r : Run) (p : ℕ) (event : Event Request) → asked_by event ≡ [] → GoesBy r (λ s. takes o s r p event)
  takes_goes r p event quiet =
      let next = occurred o r p event in
      goes_if r (meets_full (world_at o r p) event) (λ s. given_up r) (λ s. served_at o s next p (stirred_by event))
      (goes_on r (given_up r) (goes_quietly r (given_up r) refl refl (no_more r.appended) (λ e. refl)))
      (goes_from r next (λ s. served_at o s next p (stirred_by event)) (occurs_quietly r p event quiet) (served_at_goes next p (stirred_by event)))

  pub takes_in_goes : (r : Run) (event : Event Request) (ps : List ℕ) → asked_by event ≡ [] → GoesBy r (λ s. takes_in o s r event ps)
  takes_in_goes r event [] quiet = goes_nowhere r
  takes_in_goes r event (p ∷ ps) quiet = goes_then r (λ s. takes o s r p event) (λ x s. takes_in o s x event ps) (takes_goes r p event quiet) (λ x. takes_in_goes x event ps quiet)

  pub flowed_goes : (r : Run) (p most : ℕ) → GoesBy r (λ s. flowed o s r p most)
  flowed_goes r p zero = goes_nowhere r
  flowed_goes r p (suc most) = go (next_link (world_at o r p)) (λ x. flowed_goes x p most)
    where
      go : (next : Option Link) → ((x : Run) → GoesBy x (λ s. flowed o s x p most)) → GoesBy r (λ s. flowed_on o s r p most next)
      go None on = goes_nowhere r
      go (Some l) on = goes_then r (λ s. takes o s r p (delivery_on l)) (λ x s. flowed o s x p most) (takes_goes r p (delivery_on l) refl) on

  pub flowed_in_goes : (r : Run) (most : ℕ) (ps : List ℕ) → GoesBy r (λ s. flowed_in o s r most ps)
  flowed_in_goes r most [] = goes_nowhere r
  flowed_in_goes r most (p ∷ ps) = goes_then r (λ s. flowed o s r p most) (λ x s. flowed_in o s x most ps) (flowed_goes r p most) (λ x. flowed_in_goes x most ps)

  -- steps of a plan

  pub first_goes : (r : Run) (p : ℕ) → GoesBy r (λ s. first_resends o s r p)
  first_goes r p = go (first_of (service_at o r p).row.members)
    where
      go : (first : Option ℕ) → GoesBy r (λ s. elim first [ None ↦ r | Some member ↦ takes o s r p (Resend member) ])
      go None = goes_nowhere r
      go (Some member) = takes_goes r p (Resend member) refl

  pub turned_goes : (r : Run) (p : ℕ) → GoesBy r (λ s. turned o s r p)
  turned_goes r p =
      goes_then r (λ s. flowed o s (first_resends o s (takes o s r p (Resend r.members)) p) p most_deliveries) (λ x s. takes o s x p Advance)
      (goes_then r (λ s. first_resends o s (takes o s r p (Resend r.members)) p) (λ x s. flowed o s x p most_deliveries)
      (goes_then r (λ s. takes o s r p (Resend r.members)) (λ x s. first_resends o s x p) (takes_goes r p (Resend r.members) refl) (λ x. first_goes x p))
      (λ x. flowed_goes x p most_deliveries))
      (λ x. takes_goes x p Advance refl)

  pub turned_on_goes : (r : Run) (p turns : ℕ) → GoesBy r (λ s. turned_on o s r p turns)
  turned_on_goes r p zero = goes_nowhere r
  turned_on_goes r p (suc turns) =
      goes_if r (is_moving_at o r p) (λ s. turned_on o s (turned o s r p) p turns) (λ s. r)
      (goes_then r (λ s. turned o s r p) (λ x s. turned_on o s x p turns) (turned_goes r p) (λ x. turned_on_goes x p turns)) (goes_nowhere r)

  pub joined_goes : (r : Run) (p member : ℕ) → GoesBy r (λ s. joined o s r p member)
  joined_goes r p member = goes_then r (λ s. takes o s r p (BeginJoin member)) (λ x s. flowed o s x p most_deliveries) (takes_goes r p (BeginJoin member) refl) (λ x. flowed_goes x p most_deliveries)

  pub rejoined_goes : (r : Run) (p from : ℕ) (kind : StepKind) → GoesBy r (λ s. rejoined o s r p from kind)
  rejoined_goes r p from Move = goes_nowhere r
  rejoined_goes r p from Handover = goes_if r (is_moving_at o r p) (λ s. r) (λ s. joined o s r p from) (goes_nowhere r) (joined_goes r p from)

  pub stepped_goes : (r : Run) (step : Step) → GoesBy r (λ s. stepped o s r step)
  stepped_goes r step =
      let p = step.partition in
      let begins = event_begun step.kind step.from step.to in
      goes_then r (λ s. turned_on o s (takes o s r p begins) p most_turns) (λ x s. rejoined o s x p step.from step.kind)
      (goes_then r (λ s. takes o s r p begins) (λ x s. turned_on o s x p most_turns) (takes_goes r p begins (begun_unasked step.kind step.from step.to)) (λ x. turned_on_goes x p most_turns))
      (λ x. rejoined_goes x p step.from step.kind)

  pub stepped_all_goes : (r : Run) (steps : List Step) → GoesBy r (λ s. stepped_all o s r steps)
  stepped_all_goes r [] = goes_nowhere r
  stepped_all_goes r (step ∷ steps) = goes_then r (λ s. stepped o s r step) (λ x s. stepped_all o s x steps) (stepped_goes r step) (λ x. stepped_all_goes x steps)

  -- and what they print is the same where they skip the same
  pub ran_told_alike : (r : Run) (steps : List Step) (s t : List CallId) → Agree ((stepped_all_goes r steps).tries s) s t → ran_all_told o s r steps ≡ ran_all_told o t r steps
  unfolding stepped_all_goes goes_then
  ran_told_alike r [] s t agree = refl
  ran_told_alike r (step ∷ steps) s t agree =
      let next = stepped o s r step in
      let here = (stepped_goes r step).tries s in
      let later = (stepped_all_goes next steps).tries s in
      let same : next ≡ stepped o t r step = (stepped_goes r step).alike s t (λ a i. agree a (in_left a here later i)) in
      (λ i. (all_told (new_messages r (same i)) ++ end_told step.partition (is_moving_at o (same i) step.partition)) ++ ran_all_told o s next steps)
      ∙ ap (λ xs. ran_told o t r step ++ xs) (ran_told_alike next steps s t (λ a i. agree a (in_right a here later i)) ∙ ap (λ (x : Run). ran_all_told o t x steps) same)

  pub ran_alike : (r : Run) (steps : List Step) (s t : List CallId) → Agree ((stepped_all_goes r steps).tries s) s t → ran_texts o s r steps ≡ ran_texts o t r steps
  unfolding stepped_all_goes goes_then
  ran_alike r [] s t agree = refl
  ran_alike r (step ∷ steps) s t agree =
      let next = stepped o s r step in
      let here = (stepped_goes r step).tries s in
      let later = (stepped_all_goes next steps).tries s in
      let same : next ≡ stepped o t r step = (stepped_goes r step).alike s t (λ a i. agree a (in_left a here later i)) in
      (λ i. (flat_map appended_text (new_messages r (same i)) ++ end_text r.lines step.partition (is_moving_at o (same i) step.partition)) ++ ran_texts o s next steps)
      ∙ ap (λ xs. ran_text o t r step ++ xs) (ran_alike next steps s t (λ a i. agree a (in_right a here later i)) ∙ ap (λ (x : Run). ran_texts o t x steps) same)

  -- lines

  -- a line is counted first
  counted : (r next : Run) → next.events ≡ r.events → next.arrivals ≡ r.arrivals → next.appended ≡ r.appended → next.full ≡ r.full → GoesQuietly r next
  counted r next events arrivals appended full = goes_quietly r next events arrivals ([], append-nil r.appended ∙ sym appended) (λ e. full ∙ e)

  next_goes : (r : Run) (onward : List CallId → Run) → GoesBy (next_line r) onward → GoesBy r onward
  next_goes r onward g = goes_from r (next_line r) onward (counted r (next_line r) refl refl refl refl) g

  just_counted : (r : Run) → GoesBy r (λ s. next_line r)
  just_counted r = goes_on r (next_line r) (counted r (next_line r) refl refl refl refl)

  -- a connection closes

  left_goes : (c : ℕ) (r : Run) (next : Option Waiter) → GoesBy r (λ s. left_by r next)
  left_goes c r None = goes_nowhere r
  left_goes c r (Some w) = goes_on r (leaves r w) (ended_quietly r w [])

  all_left_go : (c more : ℕ) (r : Run) → GoesBy r (λ s. left_so_often c more r)
  all_left_go c zero r = goes_nowhere r
  all_left_go c (suc more) r = goes_then r (λ s. left_by r (find (is_waiting_on c) r.waiters)) (λ x s. left_so_often c more x) (left_goes c r (find (is_waiting_on c) r.waiters)) (λ x. all_left_go c more x)

  pub forsaken_goes : (r : Run) (c : ℕ) → GoesBy r (λ s. forsaken r c)
  forsaken_goes r c = goes_if r (is_open (connection_of r c)) (λ s. r) (λ s. left_so_often c (length r.waiters) r) (goes_nowhere r) (all_left_go c (length r.waiters) r)

  arrived_goes : (r : Run) (k : Connection) (bytes : List ℕ) → GoesBy r (λ s. bytes_arrived o s r k bytes)
  arrived_goes r k bytes =
      let taken = took_bytes r k bytes in
      goes_if r (takes_bytes o r k) (λ s. forsaken (handled_all o s taken k (items_by k bytes)) k.conn) (λ s. next_line r)
      (goes_from r taken (λ s. forsaken (handled_all o s taken k (items_by k bytes)) k.conn) (counted r taken refl refl refl refl)
      (goes_then taken (λ s. handled_all o s taken k (items_by k bytes)) (λ x s. forsaken x k.conn) (handled_all_goes taken k (items_by k bytes)) (λ x. forsaken_goes x k.conn)))
      (just_counted r)

  -- bytes on a connection, which may not have been opened
  pub on_bytes_goes : (r : Run) (bytes : List ℕ) (found : Option Connection) → GoesBy r (λ s. elim found [ None ↦ next_line r | Some k ↦ bytes_arrived o s r k bytes ])
  on_bytes_goes r bytes None = just_counted r
  on_bytes_goes r bytes (Some k) = arrived_goes r k bytes

  event_goes : (r : Run) (e : Option At) → IsNoCall e → GoesBy r (λ s. after_event o s r e)
  event_goes r None quiet = goes_nowhere r
  event_goes r (Some e) quiet = takes_goes r e.partition e.event quiet

  pub line_goes : (r : Run) (line : Line) → GoesBy r (λ s. after_line o s r line)
  line_goes r (OpenConn c member) =
      goes_if r (can_open o r c member) (λ s. opened r c member) (λ s. next_line r)
      (goes_on r (opened r c member) (counted r (opened r c member) refl refl refl refl)) (just_counted r)
  line_goes r (Arrive c bytes) = on_bytes_goes r bytes (connection_of r c)
  line_goes r (Clock member moment) =
      let set = clock_set r member moment in
      goes_from r set (λ s. served_in o s set member (numbers_below partitions)) (counted r set refl refl refl refl) (served_in_goes set member (numbers_below partitions))
  line_goes r (Flow partition most) = next_goes r (λ s. flowed o s (next_line r) partition most) (flowed_goes (next_line r) partition most)
  line_goes r (FlowAll most) = next_goes r (λ s. flowed_in o s (next_line r) most (numbers_below partitions)) (flowed_in_goes (next_line r) most (numbers_below partitions))
  line_goes r (Crash member) = next_goes r (λ s. takes_in o s (next_line r) (event.Crash member) (numbers_below partitions)) (takes_in_goes (next_line r) (event.Crash member) (numbers_below partitions) refl)
  line_goes r (Detect member) = next_goes r (λ s. takes_in o s (next_line r) (event.Detect member) (numbers_below partitions)) (takes_in_goes (next_line r) (event.Detect member) (numbers_below partitions) refl)
  line_goes r (Rebalance most) = next_goes r (λ s. rebalanced o s (next_line r) most) (stepped_all_goes (next_line r) (steps_in o (next_line r) most))
  line_goes r line = next_goes r (λ s. after_event o s (next_line r) (event_by line)) (event_goes (next_line r) (event_by line) (events_are_no_calls line))

  pub lines_go : (r : Run) (lines : List Line) → GoesBy r (λ s. after_lines o s r lines)
  lines_go r [] = goes_nowhere r
  lines_go r (line ∷ lines) = goes_then r (λ s. after_line o s r line) (λ x s. after_lines o s x lines) (line_goes r line) (λ x. lines_go x lines)

  pub line_grows : (skips : List CallId) (r : Run) (line : Line) → Grows r (after_line o skips r line)
  line_grows skips r line = (line_goes r line).grows skips

  pub lines_grow : (skips : List CallId) (r : Run) (lines : List Line) → Grows r (after_lines o skips r lines)
  lines_grow skips r lines = (lines_go r lines).grows skips
