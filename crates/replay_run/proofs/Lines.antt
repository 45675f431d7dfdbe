-- Each line of a script makes a run of a run, and so does a list of lines.
use Rattle.std.proofs.Common.{◌≡◌, ℤ, ℕ, ◌+◌, ◌≤◌, ◌<◌, not, ◌&&◌, cond, List, [], ◌∷◌, ◌++◌, length, Option, Some, None, Contains, pos, refl, ap, sym, ◌∙◌, subst, ⊎_elim, inl, inr, arith, length-append, append_assoc, append-nil}
use Rattle.std.specs.Option.{is_some}
use Rattle.grid_base.specs.Errors.{want_of_memory}
use Rattle.grid_base.specs.Objects.{Object}
use Rattle.grid_base.specs.declared.names.CallId.{CallId}
use Rattle.grid_base.specs.declared.calls.Request.{Request}
use Rattle.partition_protocol.specs.Sequences.{IsFrontOf}
use Rattle.partition_protocol.specs.Arrivals.{asked_by}
use Rattle.partition_protocol.specs.Events as event
use Rattle.partition_protocol.specs.Service.{numbers_below}
use Rattle.partition_protocol.proofs.Lists.{In, in_cases, in_contains, contains_in, on_if}
use Rattle.partition_protocol.proofs.Extends.{front_trans, same}
use Rattle.event_codecs.specs.declared.registration.Registration.{Registration}
use Rattle.listeners.specs.Telling.{Sent, rows_of}
use Rattle.listeners.specs.declared.listener.Listener.{Listener}
use Rattle.session_core.specs.declared.item.Item.{Item}
use Rattle.session_core.specs.declared.item.Item.TheVariants.{Call as Asks, Wait, Register, Reply}
use Rattle.script_lang.specs.declared.line.Line.{Line}
use Rattle.script_lang.specs.declared.line.Line.TheVariants.{OpenConn, Arrive, Clock, Deliver, Lose, Repeat, Flow, FlowAll, Resend, Crash, Detect, Move, Join, Handover, Advance, Reopen, Rebalance}
use Rattle.object_store.specs.Partitions.{Partition}
use Rattle.replay_run.specs.Runs.{Run, Connection, Arrival, Waiter, At, Appended, partitions, is_connection, connection_of, messages_on, world_at, lives, takes_bytes, is_full, with_bytes, took_bytes, items_by, own_answer, told, refusal, arrival_at, happening, arrived, is_skipped, given_up, asked, asks, waiter_at, waits, without, ending, leaves, served, forsaken, calls, begins_to_wait, handled, handled_all, opened, next_line, clock_set, bytes_arrived, event_by, listener_registered, event_to, events_to, rows_known, registered_reply, sends, registers}
use Rattle.replay_run.specs.AfterLines.{after_event, after_line, after_lines}
use Rattle.replay_run.specs.ScriptRuns.{IsPlaced, MayAsk, IsNext, IsRun, line_counted, clock_was_set, connection_opened, bytes_taken, listener_was_registered, answer_told, call_arrived, run_given_up, call_asked, waiter_came, calls_in}
use Rattle.replay_run.proofs.Items.{AreNumbered, numbered_front, items_room}
use Rattle.replay_run.proofs.Places.{same_number}
use Rattle.replay_run.proofs.Trails.{find_some}
use Rattle.replay_run.proofs.RunFacts.{RunOk}
use Rattle.replay_run.proofs.Turns.{KeepsTurns, by_endings, served_keeps, forsaken_keeps}
use Rattle.replay_run.proofs.Arriving.{same_test, in_place, updated_found, its_event, in_without}
use Rattle.replay_run.proofs.RunsOfLines.{run_ok}
use Rattle.replay_run.proofs.Rebalanced.{rebalanced_run}
use Rattle.replay_run.proofs.EventRuns.{ended_kept, takes_run, takes_in_run, flowed_run, flowed_in_run, served_run, served_in_run, forsaken_run}

-- a connection that is found has the number that was looked for
pub connection_there : (r : Run) (c : ℕ) (k : Connection) → connection_of r c ≡ Some k → connection_of r k.conn ≡ Some k
connection_there r c k there = ap (connection_of r) (same_number k.conn c (find_some (is_connection c) r.connections k there).1) ∙ there

-- items

-- What items leave of a run, and how many calls they bring at most: each is an arrival more, or waits.
pub record HasCome (r : Run) (brought : ℕ) (next : Run) : Type 0 where
  pub members : next.members ≡ r.members
  pub backups : next.backups ≡ r.backups
  pub lines : next.lines ≡ r.lines
  pub moments : next.moments ≡ r.moments
  pub connections : next.connections ≡ r.connections
  pub arrivals : IsFrontOf r.arrivals next.arrivals
  pub come : length next.arrivals + length next.waiters ≤ length r.arrivals + length r.waiters + brought
  pub appended : IsFrontOf r.appended next.appended

pub come_both : (r mid next : Run) (first then all : ℕ) → first + then ≤ all → HasCome r first mid → HasCome mid then next → HasCome r all next
come_both r mid next first then all sum a b = record {
  members = b.members ∙ a.members;
  backups = b.backups ∙ a.backups;
  lines = b.lines ∙ a.lines;
  moments = b.moments ∙ a.moments;
  connections = b.connections ∙ a.connections;
  arrivals = front_trans r.arrivals mid.arrivals next.arrivals a.arrivals b.arrivals;
  come = let more = b.come in let before = a.come in omega (arith, more, before, sum);
  appended = front_trans r.appended mid.appended next.appended a.appended b.appended;
}

pub none_come : (r : Run) → HasCome r 0 r
none_come r = record { members = refl; backups = refl; lines = refl; moments = refl; connections = refl; arrivals = same r.arrivals; come = omega arith; appended = same r.appended }

pub arrived_come : (r : Run) (a : Arrival) (events : List At) (appended : List Appended) → HasCome r 1 (arrived r a events appended)
arrived_come r a events appended = record {
  members = refl;
  backups = refl;
  lines = refl;
  moments = refl;
  connections = refl;
  arrivals = (a ∷ [], refl);
  come = let one = length-append r.arrivals (a ∷ []) in omega (arith, one);
  appended = (appended, refl);
}

pub given_up_come : (r next : Run) (brought : ℕ) → HasCome r brought next → HasCome r brought (given_up next)
given_up_come r next brought h = record { members = h.members; backups = h.backups; lines = h.lines; moments = h.moments; connections = h.connections; arrivals = h.arrivals; come = h.come; appended = h.appended }

pub waits_come : (r : Run) (w : Waiter) → HasCome r 1 (waits r w)
waits_come r w = record {
  members = refl;
  backups = refl;
  lines = refl;
  moments = refl;
  connections = refl;
  arrivals = same r.arrivals;
  come = let one = length-append r.waiters (w ∷ []) in omega (arith, one);
  appended = same r.appended;
}

-- one that waited is an arrival more
pub ended_come : (r : Run) (w : Waiter) (events : List At) (appended : List Appended) → In w r.waiters → HasCome r 0 (arrived (without r w) (ending r w) events appended)
ended_come r w events appended i = record {
  members = refl;
  backups = refl;
  lines = refl;
  moments = refl;
  connections = refl;
  arrivals = (ending r w ∷ [], refl);
  come = let kept = (ended_kept r w events appended i).calls in omega (arith, kept);
  appended = (appended, refl);
}

pub forsaken_come : (r : Run) (c : ℕ) → HasCome r 0 (forsaken r c)
forsaken_come r c = forsaken_keeps (HasCome r 0) (λ x w i h. come_both r x (leaves x w) 0 0 0 (omega arith) h (ended_come x w [] [] i)) c r (none_come r)

module _ (o : Object Request Partition) (skips : List CallId) where
  pub asked_come : (r : Run) (own : Option ℕ) (a : Arrival) → HasCome r 1 (asked o skips r own a)
  asked_come r own a =
      on_if (HasCome r 1) (is_skipped skips a.request.id) (arrived r a [] (refusal a.made a.request (pos want_of_memory) 0 ∷ [])) (arrived r a (its_event a ∷ []) (happening o r own a))
      (arrived_come r a [] (refusal a.made a.request (pos want_of_memory) 0 ∷ [])) (arrived_come r a (its_event a ∷ []) (happening o r own a))

  -- also where the run is given up
  pub asks_come : (r : Run) (own : Option ℕ) (a : Arrival) → HasCome r 1 (asks o skips r own a)
  asks_come r own a =
      on_if (HasCome r 1) (is_full (world_at o r a.request.partition)) (given_up (arrived r a [] [])) (asked o skips r own a)
      (given_up_come r (arrived r a [] []) 1 (arrived_come r a [] [])) (asked_come r own a)

  come_turns : (r : Run) (p : ℕ) → KeepsTurns o skips p (HasCome r 0)
  come_turns r p = by_endings o skips p (HasCome r 0) (λ x h. given_up_come r x 0 h)
      (λ x w events appended i made here h. come_both r x (arrived (without x w) (ending x w) events appended) 0 0 0 (omega arith) h (ended_come x w events appended i))

  pub served_come : (r : Run) (own : Option ℕ) (p member : ℕ) → HasCome r 0 (served o skips r own p member)
  served_come r own p member = served_keeps o skips p (HasCome r 0) (come_turns r p) r own member (none_come r)

  pub calls_come : (r : Run) (member : ℕ) (request : Request) → HasCome r 1 (calls o skips r member request)
  calls_come r member request =
      let mid = asks o skips r (Some request.id.conn) (arrival_at r member request) in
      come_both r mid (calls o skips r member request) 1 0 1 (omega arith) (asks_come r (Some request.id.conn) (arrival_at r member request)) (served_come mid (Some request.id.conn) request.partition member)

  pub begins_come : (r : Run) (member : ℕ) (request : Request) (timeout : ℤ) → HasCome r 1 (begins_to_wait o skips r member request timeout)
  begins_come r member request timeout =
      let mid = waits r (waiter_at r member request timeout) in
      come_both r mid (begins_to_wait o skips r member request timeout) 1 0 1 (omega arith) (waits_come r (waiter_at r member request timeout)) (served_come mid (Some request.id.conn) request.partition member)

pub told_come : (r : Run) (c : ℕ) (bytes : List ℕ) → HasCome r 0 (told r c bytes)
told_come r c bytes = record { members = refl; backups = refl; lines = refl; moments = refl; connections = refl; arrivals = same r.arrivals; come = omega arith; appended = (own_answer r.lines c bytes ∷ [], refl) }

pub registers_come : {State : Type 0} (o : Object Request State) (r : Run) (c member : ℕ) (registration : Registration) → HasCome r 0 (registers o r c member registration)
registers_come o r c member registration =
    let listener : Listener = record { conn = c; registration = registration } in
    let reply = own_answer r.lines c (registered_reply registration) in
    let events = events_to r.lines (rows_of (rows_known o r member) (listener ∷ [])) in
    record {
      members = refl;
      backups = refl;
      lines = refl;
      moments = refl;
      connections = refl;
      arrivals = same r.arrivals;
      come = omega arith;
      appended = (reply ∷ events, sym (append_assoc r.appended (reply ∷ []) events));
    }

pub handled_come : (o : Object Request Partition) (skips : List CallId) (r : Run) (k : Connection) (item : Item) → HasCome r (length (calls_in (item ∷ []))) (handled o skips r k item)
handled_come o skips r k (Reply bytes) = told_come r k.conn bytes
handled_come o skips r k (Wait request timeout) = begins_come o skips r k.member request timeout
handled_come o skips r k (Register registration) = registers_come o r k.conn k.member registration
handled_come o skips r k (Asks request) = calls_come o skips r k.member request

-- an item brings one call at most
one_call : (item : Item) (items : List Item) → length (calls_in (item ∷ [])) + length (calls_in items) ≤ length (calls_in (item ∷ items))
one_call (Reply bytes) items = omega arith
one_call (Wait request timeout) items = omega arith
one_call (Register registration) items = omega arith
one_call (Asks request) items = omega arith

pub handled_all_come : (o : Object Request Partition) (skips : List CallId) (r : Run) (k : Connection) (items : List Item) → HasCome r (length (calls_in items)) (handled_all o skips r k items)
handled_all_come o skips r k [] = none_come r
handled_all_come o skips r k (item ∷ items) =
    let mid = handled o skips r k item in
    come_both r mid (handled_all o skips mid k items) (length (calls_in (item ∷ []))) (length (calls_in items)) (length (calls_in (item ∷ items))) (one_call item items)
    (handled_come o skips r k item) (handled_all_come o skips mid k items)

-- Which calls may arrive next.

-- A call that waited may leave meanwhile.
module _ (k : Connection) (number : ℕ) where
  abbrev pub May : Run → Type 0
  May r = MayAsk r k number

  may_still : (r : Run) → MayAsk r k number → MayAsk (given_up r) k number
  may_still r may = record { there = may.there; after = may.after; of_line = may.of_line; after_waiters = may.after_waiters; waiters_of_line = may.waiters_of_line }

  may_end : (r : Run) (w : Waiter) (events : List At) (appended : List Appended) → In w r.waiters → MayAsk r k number → MayAsk (arrived (without r w) (ending r w) events appended) k number
  may_end r w events appended i may = record {
    there = may.there;
    after = λ b c s. ⊎_elim (λ j. may.after b (contains_in b r.arrivals j) s) (λ j. its_number b j s) (in_cases b r.arrivals (ending r w ∷ []) (in_contains b (r.arrivals ++ ending r w ∷ []) c));
    of_line = λ b c s. ⊎_elim (λ j. may.of_line b (contains_in b r.arrivals j) s) (λ j. its_conn b j s) (in_cases b r.arrivals (ending r w ∷ []) (in_contains b (r.arrivals ++ ending r w ∷ []) c));
    after_waiters = λ v c s. may.after_waiters v (still v c) s;
    waiters_of_line = λ v c s. may.waiters_of_line v (still v c) s;
  }
    where
      still : (v : Waiter) → Contains (without r w).waiters v → Contains r.waiters v
      still v c = contains_in v r.waiters (in_without r w v (in_contains v (without r w).waiters c)).0

      its_number : (b : Arrival) → In b (ending r w ∷ []) → b.request.id.conn ≡ k.conn → b.request.id.number < number
      its_number b (inl e) s = subst (λ (c : Arrival). c.request.id.conn ≡ k.conn → c.request.id.number < number) e (may.after_waiters w (contains_in w r.waiters i)) s
      its_number b (inr j) s = absurd j

      its_conn : (b : Arrival) → In b (ending r w ∷ []) → b.line ≡ r.lines → b.request.id.conn ≡ k.conn
      its_conn b (inl e) s = subst (λ (c : Arrival). c.line ≡ r.lines → c.request.id.conn ≡ k.conn) e (may.waiters_of_line w (contains_in w r.waiters i)) s
      its_conn b (inr j) s = absurd j

  pub may_served : (o : Object Request Partition) (skips : List CallId) (r : Run) (own : Option ℕ) (p member : ℕ) → MayAsk r k number → MayAsk (served o skips r own p member) k number
  may_served o skips r own p member may =
      served_keeps o skips p May (by_endings o skips p May may_still (λ x w events appended i made here h. may_end x w events appended i h)) r own member may

-- after a call the next message's may arrive
module _ (r : Run) (k : Connection) (number : ℕ) (request : Request) (may : MayAsk r k number) (named : request.id ≡ record { conn = k.conn; number = number }) where
  its_number_next : request.id.number < number + 1
  its_number_next = let n = ap (λ (c : CallId). c.number) named in omega (arith, n)

  its_conn_next : request.id.conn ≡ k.conn
  its_conn_next = ap (λ (c : CallId). c.conn) named

  earlier_numbers : (a : Arrival) → Contains r.arrivals a → a.request.id.conn ≡ k.conn → a.request.id.number < number + 1
  earlier_numbers a c s = let l = may.after a c s in omega (arith, l)

  waiting_numbers : (w : Waiter) → Contains r.waiters w → w.request.id.conn ≡ k.conn → w.request.id.number < number + 1
  waiting_numbers w c s = let l = may.after_waiters w c s in omega (arith, l)

  may_arrived : (member : ℕ) (events : List At) (appended : List Appended) → MayAsk (arrived r (arrival_at r member request) events appended) k (number + 1)
  may_arrived member events appended = record {
    there = may.there;
    after = λ b c s. ⊎_elim (λ i. earlier_numbers b (contains_in b r.arrivals i) s) (λ i. last_number b i) (in_cases b r.arrivals (a ∷ []) (in_contains b (r.arrivals ++ a ∷ []) c));
    of_line = λ b c s. ⊎_elim (λ i. may.of_line b (contains_in b r.arrivals i) s) (λ i. last_conn b i) (in_cases b r.arrivals (a ∷ []) (in_contains b (r.arrivals ++ a ∷ []) c));
    after_waiters = waiting_numbers;
    waiters_of_line = may.waiters_of_line;
  }
    where
      a : Arrival
      a = arrival_at r member request

      last_number : (b : Arrival) → In b (a ∷ []) → b.request.id.number < number + 1
      last_number b (inl e) = subst (λ (c : Arrival). c.request.id.number < number + 1) e its_number_next
      last_number b (inr i) = absurd i

      last_conn : (b : Arrival) → In b (a ∷ []) → b.request.id.conn ≡ k.conn
      last_conn b (inl e) = subst (λ (c : Arrival). c.request.id.conn ≡ k.conn) e its_conn_next
      last_conn b (inr i) = absurd i

  pub may_ask_more : (o : Object Request Partition) (skips : List CallId) (own : Option ℕ) (member : ℕ) → MayAsk (asked o skips r own (arrival_at r member request)) k (number + 1)
  may_ask_more o skips own member =
      let a = arrival_at r member request in
      on_if (λ x. MayAsk x k (number + 1)) (is_skipped skips request.id) (arrived r a [] (refusal a.made request (pos want_of_memory) 0 ∷ [])) (arrived r a (its_event a ∷ []) (happening o r own a))
      (may_arrived member [] (refusal a.made request (pos want_of_memory) 0 ∷ [])) (may_arrived member (its_event a ∷ []) (happening o r own a))

  may_asks : (o : Object Request Partition) (skips : List CallId) (own : Option ℕ) (member : ℕ) → MayAsk (asks o skips r own (arrival_at r member request)) k (number + 1)
  may_asks o skips own member =
      let a = arrival_at r member request in
      on_if (λ x. MayAsk x k (number + 1)) (is_full (world_at o r request.partition)) (given_up (arrived r a [] [])) (asked o skips r own a)
      (may_still k (number + 1) (arrived r a [] []) (may_arrived member [] [])) (may_ask_more o skips own member)

  pub may_calls : (o : Object Request Partition) (skips : List CallId) (member : ℕ) → MayAsk (calls o skips r member request) k (number + 1)
  may_calls o skips member =
      let own = Some request.id.conn in
      may_served k (number + 1) o skips (asks o skips r own (arrival_at r member request)) own request.partition member (may_asks o skips own member)

  pub may_wait : (w : Waiter) → w.request ≡ request → MayAsk (waits r w) k (number + 1)
  may_wait w is = record {
    there = may.there;
    after = earlier_numbers;
    of_line = may.of_line;
    after_waiters = λ v c s. ⊎_elim (λ i. waiting_numbers v (contains_in v r.waiters i) s) (λ i. last_number v i) (in_cases v r.waiters (w ∷ []) (in_contains v (r.waiters ++ w ∷ []) c));
    waiters_of_line = λ v c s. ⊎_elim (λ i. may.waiters_of_line v (contains_in v r.waiters i) s) (λ i. last_conn v i) (in_cases v r.waiters (w ∷ []) (in_contains v (r.waiters ++ w ∷ []) c));
  }
    where
      last_number : (v : Waiter) → In v (w ∷ []) → v.request.id.number < number + 1
      last_number v (inl e) = subst (λ (q : Request). q.id.number < number + 1) (sym is ∙ ap (λ (x : Waiter). x.request) e) its_number_next
      last_number v (inr i) = absurd i

      last_conn : (v : Waiter) → In v (w ∷ []) → v.request.id.conn ≡ k.conn
      last_conn v (inl e) = subst (λ (q : Request). q.id.conn ≡ k.conn) (sym is ∙ ap (λ (x : Waiter). x.request) e) its_conn_next
      last_conn v (inr i) = absurd i

  pub may_begin : (o : Object Request Partition) (skips : List CallId) (member : ℕ) (timeout : ℤ) → MayAsk (begins_to_wait o skips r member request timeout) k (number + 1)
  may_begin o skips member timeout =
      may_served k (number + 1) o skips (waits r (waiter_at r member request timeout)) (Some request.id.conn) request.partition member (may_wait (waiter_at r member request timeout) refl)

-- and so after a message that its session answered itself
pub may_ask_after : (r : Run) (k : Connection) (number c : ℕ) (bytes : List ℕ) → MayAsk r k number → MayAsk (told r c bytes) k (number + 1)
may_ask_after r k number c bytes may = record {
  there = may.there;
  after = λ a i s. let l = may.after a i s in omega (arith, l);
  of_line = may.of_line;
  after_waiters = λ w i s. let l = may.after_waiters w i s in omega (arith, l);
  waiters_of_line = may.waiters_of_line;
}

-- and after a registration
pub may_ask_registered : {State : Type 0} (o : Object Request State) (r : Run) (k : Connection) (number c member : ℕ) (registration : Registration) → MayAsk r k number → MayAsk (registers o r c member registration) k (number + 1)
may_ask_registered o r k number c member registration may = record {
  there = may.there;
  after = λ a i s. let l = may.after a i s in omega (arith, l);
  of_line = may.of_line;
  after_waiters = λ w i s. let l = may.after_waiters w i s in omega (arith, l);
  waiters_of_line = may.waiters_of_line;
}

-- What is sent answers nothing.
sends_run : {o : Object Request Partition} (r : Run) (sent : List Sent) → IsRun o r → IsRun o (sends r sent)
sends_run {o} r [] is = subst (λ ms. IsRun o (record r { appended = ms })) (sym (append-nil r.appended)) is
sends_run {o} r (one ∷ sent) is =
    subst (λ ms. IsRun o (record r { appended = ms })) (append_assoc r.appended (event_to r.lines one ∷ []) (events_to r.lines sent))
    (sends_run (told r one.0 one.1) sent (answer_told r one.0 one.1 is))

pub registers_run : {o : Object Request Partition} (r : Run) (k : Connection) (member : ℕ) (registration : Registration) → IsRun o r → connection_of r k.conn ≡ Some k → IsRun o (registers o r k.conn member registration)
registers_run {o} r k member registration is there =
    let listener : Listener = record { conn = k.conn; registration = registration } in
    let answered = told r k.conn (registered_reply registration) in
    sends_run (listener_registered answered listener) (rows_of (rows_known o r member) (listener ∷ []))
    (listener_was_registered answered listener k (answer_told r k.conn (registered_reply registration) is) there)

pub is_next : (r : Run) (k : Connection) (number : ℕ) (request : Request) → MayAsk r k number → number < length (messages_on k)
    → request.id ≡ record { conn = k.conn; number = number } → IsPlaced request → IsNext r request
is_next r k number request may complete named placed = record {
  connection = k;
  on = ap (λ (c : CallId). c.conn) named;
  complete = subst (λ n. n < length (messages_on k)) (ap (λ (c : CallId). c.number) (sym named)) complete;
  may = subst (λ n. MayAsk r k n) (ap (λ (c : CallId). c.number) (sym named)) may;
  placed = placed;
}

pub asks_run : {o : Object Request Partition} (skips : List CallId) (r : Run) (own : Option ℕ) (member : ℕ) (request : Request) → IsRun o r → IsNext r request → IsRun o (asks o skips r own (arrival_at r member request))
asks_run {o} skips r own member request is next =
    let a = arrival_at r member request in
    on_if (IsRun o) (is_full (world_at o r request.partition)) (given_up (arrived r a [] [])) (asked o skips r own a)
    (run_given_up (arrived r a [] []) (call_arrived r member request is next)) (call_asked skips r own member request is next)

-- and those who wait there have their turns
pub calls_run : {o : Object Request Partition} (skips : List CallId) (r : Run) (member : ℕ) (request : Request) → IsRun o r → IsNext r request → IsRun o (calls o skips r member request)
calls_run {o} skips r member request is next =
    let own = Some request.id.conn in
    served_run skips (asks o skips r own (arrival_at r member request)) own request.partition member (asks_run skips r own member request is next)

pub begins_run : {o : Object Request Partition} (skips : List CallId) (r : Run) (member : ℕ) (request : Request) (timeout : ℤ) → IsRun o r → IsNext r request → IsRun o (begins_to_wait o skips r member request timeout)
begins_run skips r member request timeout is next =
    let w = waiter_at r member request timeout in
    served_run skips (waits r w) (Some request.id.conn) request.partition member (waiter_came r member request w.deadline is next)

-- All items of the messages that are complete may be handled one after the other.
pub handled_all_run : {o : Object Request Partition} (skips : List CallId) (r : Run) (k : Connection) (bytes : List ℕ) (number : ℕ) (items : List Item) → IsRun o r → MayAsk r (with_bytes k bytes) number → AreNumbered k.conn number items
    → number + length items ≤ length (messages_on (with_bytes k bytes)) → IsRun o (handled_all o skips r k items)
handled_all_run skips r k bytes number [] is may numbered room = is
handled_all_run skips r k bytes number (Reply answer ∷ items) is may numbered room =
    handled_all_run skips (told r k.conn answer) k bytes (number + 1) items
    (answer_told r k.conn answer is)
    (may_ask_after r (with_bytes k bytes) number k.conn answer may)
    numbered.1 (omega (arith, room))
handled_all_run {o} skips r k bytes number (Wait request timeout ∷ items) is may numbered room =
    let next = is_next r (with_bytes k bytes) number request may (omega (arith, room)) numbered.0.0 numbered.0.1 in
    handled_all_run skips (begins_to_wait o skips r k.member request timeout) k bytes (number + 1) items
    (begins_run skips r k.member request timeout is next)
    (may_begin r (with_bytes k bytes) number request may numbered.0.0 o skips k.member timeout)
    numbered.1 (omega (arith, room))
handled_all_run {o} skips r k bytes number (Register registration ∷ items) is may numbered room =
    handled_all_run skips (registers o r k.conn k.member registration) k bytes (number + 1) items
    (registers_run r (with_bytes k bytes) k.member registration is may.there)
    (may_ask_registered o r (with_bytes k bytes) number k.conn k.member registration may)
    numbered.1 (omega (arith, room))
handled_all_run {o} skips r k bytes number (Asks request ∷ items) is may numbered room =
    let next = is_next r (with_bytes k bytes) number request may (omega (arith, room)) numbered.0.0 numbered.0.1 in
    handled_all_run skips (calls o skips r k.member request) k bytes (number + 1) items
    (calls_run skips r k.member request is next)
    (may_calls r (with_bytes k bytes) number request may numbered.0.0 o skips k.member)
    numbered.1 (omega (arith, room))

-- bytes

-- what the bytes of a line lead to: its connection has them, and its calls may be asked
pub record HasTaken (o : Object Request Partition) (r : Run) (k : Connection) (bytes : List ℕ) : Type 0 where
  pub run : IsRun o (took_bytes r k bytes)
  pub may : MayAsk (took_bytes r k bytes) (with_bytes k bytes) (length (messages_on k))

pub has_taken : {o : Object Request Partition} (r : Run) (k : Connection) (bytes : List ℕ) → IsRun o r → connection_of r k.conn ≡ Some k → HasTaken o r k bytes
has_taken {o} r k bytes is there = record {
  run = bytes_taken r k bytes is there;
  may = record {
    there = updated_found (with_bytes k bytes) r.connections k.conn k there ∙ ap Some itself;
    after = λ a c s. counted a.request (ok.of_arrivals.counted a (in_contains a r.arrivals c)) s;
    of_line = λ a c s. let i = in_contains a r.arrivals c in let l = ok.of_arrivals.by_now a i in let later = ok.of_arrivals.later a i in absurd (omega (arith, l, later, s));
    after_waiters = λ w c s. counted w.request (ok.of_waiters.counted w (in_contains w r.waiters c)) s;
    waiters_of_line = λ w c s. let l = ok.of_waiters.by_now w (in_contains w r.waiters c) in absurd (omega (arith, l, s));
  };
}
  where
    ok : RunOk o r
    ok = run_ok is

    itself : in_place (with_bytes k bytes) k ≡ with_bytes k bytes
    itself = rw (same_test k.conn k.conn refl) refl

    counted : (q : Request) → (j : Connection) × (connection_of r q.id.conn ≡ Some j) × (q.id.number < length (messages_on j)) → q.id.conn ≡ k.conn → q.id.number < length (messages_on k)
    counted q (j, found, below) s =
        let both : Some j ≡ Some k = sym found ∙ ap (connection_of r) s ∙ there in
        let one : j ≡ k = cc in
        subst (λ (x : Connection). q.id.number < length (messages_on x)) one below

-- a front of the line's items
pub part_run : {o : Object Request Partition} (skips : List CallId) (r : Run) (k : Connection) (bytes : List ℕ) (items more : List Item) → IsRun o r → connection_of r k.conn ≡ Some k → items_by k bytes ≡ items ++ more
    → IsRun o (handled_all o skips (took_bytes r k bytes) k items)
part_run skips r k bytes items more is there e =
    let taken = has_taken r k bytes is there in
    let room = items_room k bytes in
    let all = ap length e ∙ length-append items more in
    handled_all_run skips (took_bytes r k bytes) k bytes (length (messages_on k)) items taken.run taken.may
    (numbered_front k.conn (length (messages_on k)) items more (subst (AreNumbered k.conn (length (messages_on k))) e room.0)) (omega (arith, room.1, all))

-- lines

-- An event that is a line is no call.
abbrev pub IsNoCall : Option At → Type 0
IsNoCall None = Unit {0}
IsNoCall (Some e) = asked_by e.event ≡ []

pub events_are_no_calls : (line : Line) → IsNoCall (event_by line)
events_are_no_calls (Deliver partition from to place) = refl
events_are_no_calls (Lose partition from to place) = refl
events_are_no_calls (Repeat partition from to place) = refl
events_are_no_calls (Resend partition end) = refl
events_are_no_calls (Move partition from to) = refl
events_are_no_calls (Join partition to) = refl
events_are_no_calls (Handover partition from to) = refl
events_are_no_calls (Advance partition) = refl
events_are_no_calls (Reopen partition) = refl
events_are_no_calls line = tt

module _ {o : Object Request Partition} (skips : List CallId) (r : Run) (is : IsRun o r) where
  arrived_run : (k : Connection) (bytes : List ℕ) → connection_of r k.conn ≡ Some k → IsRun o (bytes_arrived o skips r k bytes)
  arrived_run k bytes there =
      let all = handled_all o skips (took_bytes r k bytes) k (items_by k bytes) in
      on_if (IsRun o) (takes_bytes o r k) (forsaken all k.conn) (next_line r)
      (forsaken_run skips all k.conn (part_run skips r k bytes (items_by k bytes) [] is there (sym (append-nil (items_by k bytes))))) (line_counted r is)

  bytes_run : (c : ℕ) (bytes : List ℕ) (found : Option Connection) → connection_of r c ≡ found → IsRun o (elim found [ None ↦ next_line r | Some k ↦ bytes_arrived o skips r k bytes ])
  bytes_run c bytes None there = line_counted r is
  bytes_run c bytes (Some k) there = arrived_run k bytes (connection_there r c k there)

  opened_run : (c member : ℕ) (found : Option Connection) → connection_of r c ≡ found → IsRun o (cond (not (is_some found) && lives o r member) (opened r c member) (next_line r))
  opened_run c member (Some k) there = line_counted r is
  opened_run c member None there = on_if (IsRun o) (lives o r member) (opened r c member) (next_line r) (connection_opened r c member is there) (line_counted r is)

  event_run : (e : Option At) → IsNoCall e → IsRun o (after_event o skips (next_line r) e)
  event_run None quiet = line_counted r is
  event_run (Some e) quiet = takes_run skips (next_line r) e.partition e.event (line_counted r is) quiet

  pub line_run : (line : Line) → IsRun o (after_line o skips r line)
  line_run (OpenConn c member) = opened_run c member (connection_of r c) refl
  line_run (Arrive c bytes) = bytes_run c bytes (connection_of r c) refl
  line_run (Clock member moment) = served_in_run skips (clock_set r member moment) member (numbers_below partitions) (clock_was_set r member moment is)
  line_run (Flow partition most) = flowed_run skips (next_line r) partition most (line_counted r is)
  line_run (FlowAll most) = flowed_in_run skips (next_line r) most (numbers_below partitions) (line_counted r is)
  line_run (Crash member) = takes_in_run skips (next_line r) (event.Crash member) (numbers_below partitions) (line_counted r is) refl
  line_run (Detect member) = takes_in_run skips (next_line r) (event.Detect member) (numbers_below partitions) (line_counted r is) refl
  line_run (Rebalance most) = rebalanced_run skips (next_line r) most (line_counted r is)
  line_run line = event_run (event_by line) (events_are_no_calls line)

pub lines_run : {o : Object Request Partition} (skips : List CallId) (r : Run) (lines : List Line) → IsRun o r → IsRun o (after_lines o skips r lines)
lines_run skips r [] is = is
lines_run {o} skips r (line ∷ lines) is = lines_run skips (after_line o skips r line) lines (line_run skips r is line)
