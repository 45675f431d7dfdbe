-- A run has no more calls than messages, and far fewer messages than bytes; a partition has few events; and what a line adds to those.
use Rattle.std.proofs.Common.{◌≡◌, ◌≢◌, ℕ, ◌+◌, ◌*◌, ◌≤◌, ◌<◌, ◌^◌, ◌-◌, ◌==◌, Bool, true, false, cond, List, [], ◌∷◌, ◌++◌, map, length, Option, Some, None, pos, refl, ap, sym, ◌∙◌, subst, ⊎_elim, inl, inr, arith, length-append}
use Rattle.std.proofs.lemmas.List.{length-map}
use Rattle.std.proofs.lemmas.List.Sums.{sum_by-cons, sum_by-append}
use Rattle.std.specs.List.{find, sum_by}
use Rattle.grid_base.specs.Errors.{want_of_memory}
use Rattle.grid_base.specs.Objects.{Object}
use Rattle.grid_base.specs.declared.calls.Request.{Request}
use Rattle.grid_base.specs.declared.names.CallId.{CallId}
use Rattle.object_store.specs.Partitions.{Partition}
use Rattle.partition_protocol.specs.Events.{Event}
use Rattle.partition_protocol.specs.Events as event
use Rattle.partition_protocol.specs.Service.{numbers_below}
use Rattle.partition_protocol.specs.Arrivals.{CallName, NamedOnce}
use Rattle.partition_protocol.proofs.Lists.{In, in_cases, on_if}
use Rattle.partition_protocol.proofs.RowFacts.{false_or_not}
use Rattle.session_core.specs.declared.item.Item.{Item}
use Rattle.session_core.specs.declared.item.Item.TheVariants.{Call as Asks, Wait, Register, Reply}
use Rattle.script_lang.specs.Limits.{most_lines}
use Rattle.script_lang.specs.Lines.{IsWithin}
use Rattle.script_lang.specs.declared.line.Line.{Line}
use Rattle.script_lang.specs.declared.line.Line.TheVariants.{OpenConn, Arrive, Clock, Flow, FlowAll, Crash, Detect, Rebalance}
use Rattle.replay_run.specs.Runs.{Run, At, Connection, Arrival, partitions, world_at, clock_set, is_connection, connection_of, messages_on, bytes_of, updated, takes_bytes, can_open, is_full, with_bytes, took_bytes, opened, next_line, items_by, refusal, arrival_at, happening, arrived, is_skipped, given_up, asked, asks, waiter_at, waits, forsaken, clock_turned, takes, takes_in, flowed, flowed_in, bytes_arrived, event_by, handled, handled_all}
use Rattle.replay_run.specs.AfterLines.{after_event, after_line}
use Rattle.replay_run.specs.ScriptRuns.{IsRun, calls_in}
use Rattle.replay_run.specs.Rebalancing.{most_line_events, rebalanced}
use Rattle.replay_run.specs.Grids.{IsSmall, AreFew, most_arriving}
use Rattle.replay_run.specs.WorldCalls.{HasRoom}
use Rattle.replay_run.proofs.Counting.{count}
use Rattle.replay_run.proofs.Hearing.{header, messages_sized}
use Rattle.replay_run.proofs.Items.{items_room}
use Rattle.replay_run.proofs.Places.{same_number}
use Rattle.replay_run.proofs.Trails.{find_some}
use Rattle.replay_run.proofs.RunFacts.{AreApart, RunOk, arrival_name, waiter_name}
use Rattle.replay_run.proofs.EventRuns.{Kept, Adds, kept_refl, takes_kept, takes_in_kept, flowed_kept, flowed_in_kept, served_in_kept, forsaken_kept, events_more, takes_few, takes_in_few, flowed_few, flowed_in_few, served_few, served_in_few, forsaken_few}
use Rattle.replay_run.proofs.Rebalanced.{rebalanced_kept}
use Rattle.replay_run.proofs.Planning.{rebalanced_few}
use Rattle.replay_run.proofs.Arriving.{same_test, its_event}
use Rattle.replay_run.proofs.Parts.{in_mapped}
use Rattle.replay_run.proofs.RunsOfLines.{run_ok}
use Rattle.replay_run.proofs.Lines.{connection_there, asked_come, handled_come, handled_all_come}
use Rattle.replay_run.proofs.NamedFew.{numbers_fewer, once_both}

-- sums

pub sum_more : {X : Type 0} (f g : X → ℕ) (xs : List X) → ((x : X) → In x xs → f x ≤ g x) → sum_by f xs ≤ sum_by g xs
sum_more f g [] h = omega arith
sum_more f g (x ∷ xs) h =
    let rest = sum_more f g xs (λ y i. h y (inr i)) in
    let here = h x (inl refl) in
    let left = sum_by-cons f x xs in
    let right = sum_by-cons g x xs in
    omega (arith, rest, here, left, right)

pub sum_both : {X : Type 0} (f g : X → ℕ) (xs : List X) → sum_by (λ x. f x + g x) xs ≡ sum_by f xs + sum_by g xs
sum_both f g [] = refl
sum_both f g (x ∷ xs) =
    let rest = sum_both f g xs in
    let whole = sum_by-cons (λ x. f x + g x) x xs in
    let left = sum_by-cons f x xs in
    let right = sum_by-cons g x xs in
    omega (arith, rest, whole, left, right)

pub sum_has : {X : Type 0} (f : X → ℕ) (xs : List X) (x : X) → In x xs → f x ≤ sum_by f xs
sum_has f [] x i = absurd i
sum_has f (y ∷ ys) x (inl e) = let whole = sum_by-cons f y ys in let here = ap f e in omega (arith, whole, here)
sum_has f (y ∷ ys) x (inr i) = let whole = sum_by-cons f y ys in let rest = sum_has f ys x i in omega (arith, whole, rest)

-- messages and bytes

abbrev pub messages_at : Connection → ℕ
messages_at k = length (messages_on k)

abbrev pub bytes_at : Connection → ℕ
bytes_at k = length k.bytes

-- how many messages are complete on all connections
abbrev pub messages_in : Run → ℕ
messages_in r = sum_by messages_at r.connections

all_sized : (ks : List Connection) → header * sum_by messages_at ks ≤ sum_by bytes_at ks
all_sized [] = omega arith
all_sized (k ∷ ks) =
    let rest = all_sized ks in
    let here = messages_sized k.bytes in
    let left = sum_by-cons messages_at k ks in
    let right = sum_by-cons bytes_at k ks in
    omega (arith, rest, here, left, right)

pub messages_fewer : (r : Run) → header * messages_in r ≤ bytes_of r
messages_fewer r = all_sized r.connections

-- the calls of a connection

abbrev pub is_on_conn : ℕ → CallName → Bool
is_on_conn c name = name.conn == c

-- each call is of a connection, so all calls are no more than those of each connection together
all_counted : (names : List CallName) (ks : List Connection) → ((name : CallName) → In name names → (k : Connection) × In k ks × (name.conn ≡ k.conn))
    → length names ≤ sum_by (λ (k : Connection). count (is_on_conn k.conn) names) ks
all_counted [] ks h = omega arith
all_counted (x ∷ xs) ks h =
    let rest = all_counted xs ks (λ a i. h a (inr i)) in
    let at = h x (inl refl) in
    let its = sum_has (λ (k : Connection). cond (is_on_conn k.conn x) 1 0) ks at.0 at.1 in
    let test : is_on_conn at.0.conn x ≡ true = same_test x.conn at.0.conn at.2 in
    let one = ap {B = ℕ} (λ b. cond b 1 0) test in
    let both = sum_both (λ (k : Connection). cond (is_on_conn k.conn x) 1 0) (λ (k : Connection). count (is_on_conn k.conn) xs) ks in
    omega (arith, rest, its, one, both)

-- a connection is found by its number
apart_found : (ks : List Connection) (k : Connection) → AreApart ks → In k ks → find (is_connection k.conn) ks ≡ Some k
apart_found [] k apart i = absurd i
apart_found (j ∷ js) k apart (inl e) = let test : (j.conn == k.conn) ≡ true = same_test j.conn k.conn (ap (λ (c : Connection). c.conn) e) in rw test (ap Some e)
apart_found (j ∷ js) k apart (inr i) =
    let test : (j.conn == k.conn) ≡ false = false_or_not (j.conn == k.conn) (λ e. apart.0 k i (sym (same_number j.conn k.conn e))) in
    rw test (apart_found js k apart.1 i)

-- calls

-- the names of all that arrived, waiting or not
abbrev pub names_of : Run → List CallName
names_of r = map arrival_name r.arrivals ++ map waiter_name r.waiters

pub arrivals_fewer : {o : Object Request Partition} (r : Run) → IsRun o r → length r.arrivals + length r.waiters ≤ messages_in r
arrivals_fewer {o} r is =
    let all = all_counted (names_of r) r.connections there in
    let each = sum_more (λ (k : Connection). count (is_on_conn k.conn) (names_of r)) messages_at r.connections fewer in
    let both = length-append (map arrival_name r.arrivals) (map waiter_name r.waiters) in
    let ended = length-map r.arrivals arrival_name in
    let waiting = length-map r.waiters waiter_name in
    omega (arith, all, each, both, ended, waiting)
  where
    ok : RunOk o r
    ok = run_ok is

    apart : (a b : CallName) → In a (map arrival_name r.arrivals) → In b (map waiter_name r.waiters) → a ≢ b
    apart a b i j e =
        let from = in_mapped arrival_name r.arrivals a i in
        let to = in_mapped waiter_name r.waiters b j in
        ok.of_waiters.apart from.0 to.0 from.1 to.1 (from.2 ∙ e ∙ sym to.2)

    once : NamedOnce (names_of r)
    once = once_both (map arrival_name r.arrivals) (map waiter_name r.waiters) ok.of_arrivals.once ok.of_waiters.once apart

    -- it is one of the messages of its connection
    IsCounted : CallName → Type 0
    IsCounted name = (k : Connection) × (connection_of r name.conn ≡ Some k) × (name.number < length (messages_on k))

    counted : (name : CallName) → In name (names_of r) → IsCounted name
    counted name i = ⊎_elim
        (λ j. let from = in_mapped arrival_name r.arrivals name j in subst IsCounted from.2 (ok.of_arrivals.counted from.0 from.1))
        (λ j. let from = in_mapped waiter_name r.waiters name j in subst IsCounted from.2 (ok.of_waiters.counted from.0 from.1))
        (in_cases name (map arrival_name r.arrivals) (map waiter_name r.waiters) i)

    there : (name : CallName) → In name (names_of r) → (k : Connection) × In k r.connections × (name.conn ≡ k.conn)
    there name i =
        let k = counted name i in
        let found = find_some (is_connection name.conn) r.connections k.0 k.1 in
        (k.0, found.0, sym (same_number k.0.conn name.conn found.1))

    below : (k : Connection) → In k r.connections → (name : CallName) → In name (names_of r) → name.conn ≡ k.conn → name.number < length (messages_on k)
    below k j name i e =
        let c = counted name i in
        let found : Some c.0 ≡ Some k = sym c.1 ∙ ap (connection_of r) e ∙ apart_found r.connections k ok.connections j in
        let one : c.0 ≡ k = cc in
        subst (λ (x : Connection). name.number < length (messages_on x)) one c.2

    fewer : (k : Connection) → In k r.connections → count (is_on_conn k.conn) (names_of r) ≤ messages_at k
    fewer k j = numbers_fewer k.conn (length (messages_on k)) (names_of r) once (below k j)

-- what bytes add

updated_none : (new : Connection) (ks : List Connection) → ((j : Connection) → In j ks → j.conn ≢ new.conn) → updated new ks ≡ ks
updated_none new [] h = refl
updated_none new (k ∷ ks) h =
    let test : (k.conn == new.conn) ≡ false = false_or_not (k.conn == new.conn) (λ e. h k (inl refl) (same_number k.conn new.conn e)) in
    let rest = updated_none new ks (λ j i. h j (inr i)) in
    rw test (ap (λ js. k ∷ js) rest)

sum_updated : (weight : Connection → ℕ) (new : Connection) (ks : List Connection) (k : Connection) → AreApart ks → In k ks → new.conn ≡ k.conn
    → sum_by weight (updated new ks) + weight k ≡ sum_by weight ks + weight new
sum_updated weight new [] k apart i e = absurd i
sum_updated weight new (j ∷ js) k apart (inl s) e =
    let test : (j.conn == new.conn) ≡ true = same_test j.conn new.conn (ap (λ (c : Connection). c.conn) s ∙ sym e) in
    let rest = updated_none new js (λ x i t. apart.0 x i (t ∙ e ∙ ap (λ (c : Connection). c.conn) (sym s))) in
    let whole : updated new (j ∷ js) ≡ new ∷ js = rw (test, rest) refl in
    let after = ap (sum_by weight) whole ∙ sum_by-cons weight new js in
    let before = sum_by-cons weight j js in
    let its = ap weight s in
    omega (arith, after, before, its)
sum_updated weight new (j ∷ js) k apart (inr i) e =
    let test : (j.conn == new.conn) ≡ false = false_or_not (j.conn == new.conn) (λ t. apart.0 k i (sym (same_number j.conn new.conn t ∙ e))) in
    let whole : updated new (j ∷ js) ≡ j ∷ updated new js = rw test refl in
    let after = ap (sum_by weight) whole ∙ sum_by-cons weight j (updated new js) in
    let before = sum_by-cons weight j js in
    let rest = sum_updated weight new js k apart.1 i e in
    omega (arith, after, before, rest)

module _ {o : Object Request Partition} (r : Run) (k : Connection) (bytes : List ℕ) (is : IsRun o r) (there : connection_of r k.conn ≡ Some k) where
  taken : (weight : Connection → ℕ) → sum_by weight (took_bytes r k bytes).connections + weight k ≡ sum_by weight r.connections + weight (with_bytes k bytes)
  taken weight = sum_updated weight (with_bytes k bytes) r.connections k (run_ok is).connections (find_some (is_connection k.conn) r.connections k there).0 refl

  pub bytes_taken_more : bytes_of (took_bytes r k bytes) ≡ bytes_of r + length bytes
  bytes_taken_more = let sums = taken bytes_at in let longer = length-append k.bytes bytes in omega (arith, sums, longer)

  -- one message for each item
  pub messages_taken_more : messages_in (took_bytes r k bytes) ≡ messages_in r + length (items_by k bytes)
  messages_taken_more = let sums = taken messages_at in let room = (items_room k bytes).1 in omega (arith, sums, room)

  -- There is room for one line more, whatever its bytes.
  pub room : IsSmall r → r.lines + 1 ≤ most_lines → 2 * length bytes ≤ most_arriving → HasRoom r k bytes
  room small lines size =
      let come = arrivals_fewer r is in
      let fewer = messages_fewer (took_bytes r k bytes) in
      omega (arith, small, lines, size, come, fewer, bytes_taken_more, messages_taken_more)

  -- and its messages have numbers of four bytes
  pub numbers_room : IsSmall r → r.lines + 1 ≤ most_lines → 2 * length bytes ≤ most_arriving → length (messages_on (with_bytes k bytes)) < 2 ^ 32 - 1
  numbers_room small lines size =
      let its = sum_has messages_at r.connections k (find_some (is_connection k.conn) r.connections k there).0 in
      let fewer = messages_fewer (took_bytes r k bytes) in
      let all = (items_room k bytes).1 in
      omega (arith, small, lines, size, its, fewer, all, bytes_taken_more, messages_taken_more)

pub opened_no_more : (r : Run) (c member : ℕ) → bytes_of (opened r c member) ≡ bytes_of r
opened_no_more r c member =
    let new : Connection = record { conn = c; member = member; bytes = [] } in
    let more = sum_by-append bytes_at r.connections (new ∷ []) in
    omega (arith, more)

pub handled_no_more : (o : Object Request Partition) (skips : List CallId) (r : Run) (k : Connection) (items : List Item) → bytes_of (handled_all o skips r k items) ≡ bytes_of r
handled_no_more o skips r k items = ap (sum_by bytes_at) (handled_all_come o skips r k items).connections

-- What items add: no more events than calls that come to their end.

-- what adds no event but those of arrivals leaves few
pub adds_few : (r next : Run) → next.lines ≡ r.lines → ((q : ℕ) → Adds q 0 r next) → AreFew r → AreFew next
adds_few r next lines adds few p = let f = few p in let more = adds p in omega (arith, f, more, lines)

module _ (o : Object Request Partition) (skips : List CallId) where
  asked_adds : (r : Run) (own : Option ℕ) (a : Arrival) (q : ℕ) → Adds q 0 r (asked o skips r own a)
  asked_adds r own a q = go (is_skipped skips a.request.id)
    where
      go : (b : Bool) → Adds q 0 r (cond b (arrived r a [] (refusal a.made a.request (pos want_of_memory) 0 ∷ [])) (arrived r a (its_event a ∷ []) (happening o r own a)))
      go true = let more = events_more q r.events [] in let come = length-append r.arrivals (a ∷ []) in omega (arith, more, come)
      go false = let more = events_more q r.events (its_event a ∷ []) in let come = length-append r.arrivals (a ∷ []) in omega (arith, more, come)

  pub asked_few : (r : Run) (own : Option ℕ) (a : Arrival) → AreFew r → AreFew (asked o skips r own a)
  asked_few r own a few = adds_few r (asked o skips r own a) (asked_come o skips r own a).lines (asked_adds r own a) few

  asks_adds : (r : Run) (own : Option ℕ) (a : Arrival) (q : ℕ) → Adds q 0 r (asks o skips r own a)
  asks_adds r own a q = on_if (Adds q 0 r) (is_full (world_at o r a.request.partition)) (given_up (arrived r a [] [])) (asked o skips r own a)
      (let more = events_more q r.events [] in let come = length-append r.arrivals (a ∷ []) in omega (arith, more, come)) (asked_adds r own a q)

  handled_adds : (r : Run) (k : Connection) (item : Item) (q : ℕ) → Adds q 0 r (handled o skips r k item)
  handled_adds r k (Reply bytes) q = omega arith
  handled_adds r k (Wait request timeout) q = let more = served_few o skips (waits r (waiter_at r k.member request timeout)) (Some request.id.conn) request.partition k.member q in omega (arith, more)
  handled_adds r k (Register registration) q = omega arith
  handled_adds r k (Asks request) q =
      let own = Some request.id.conn in
      let one = asks_adds r own (arrival_at r k.member request) q in
      let more = served_few o skips (asks o skips r own (arrival_at r k.member request)) own request.partition k.member q in
      omega (arith, one, more)

  pub handled_few : (r : Run) (k : Connection) (items : List Item) → AreFew r → AreFew (handled_all o skips r k items)
  handled_few r k [] few = few
  handled_few r k (item ∷ items) few = handled_few (handled o skips r k item) k items (adds_few r (handled o skips r k item) (handled_come o skips r k item).lines (handled_adds r k item) few)

  -- each item brings one call at most
  calls_fewer : (items : List Item) → length (calls_in items) ≤ length items
  calls_fewer [] = omega arith
  calls_fewer (Reply bytes ∷ items) = let rest = calls_fewer items in omega (arith, rest)
  calls_fewer (Wait request timeout ∷ items) = let rest = calls_fewer items in omega (arith, rest)
  calls_fewer (Register registration ∷ items) = let rest = calls_fewer items in omega (arith, rest)
  calls_fewer (Asks request ∷ items) = let rest = calls_fewer items in omega (arith, rest)

  pub handled_calls : (r : Run) (k : Connection) (items : List Item) → let next = handled_all o skips r k items in length next.arrivals + length next.waiters ≤ length r.arrivals + length r.waiters + length items
  handled_calls r k items = let come = (handled_all_come o skips r k items).come in let fewer = calls_fewer items in omega (arith, come, fewer)

  -- lines

  pub next_few : (r : Run) → AreFew r → AreFew (next_line r)
  next_few r few p = let f = few p in omega (arith, f)

  pub took_few : (r : Run) (k : Connection) (bytes : List ℕ) → AreFew r → AreFew (took_bytes r k bytes)
  took_few r k bytes few p = let f = few p in omega (arith, f)

  pub opened_few : (r : Run) (c member : ℕ) → AreFew r → AreFew (opened r c member)
  opened_few r c member few p = let f = few p in omega (arith, f)

  pub clock_few : (r : Run) (member moment : ℕ) → AreFew r → AreFew (clock_turned o skips r member moment)
  clock_few r member moment few p =
      let f = few p in
      let set = clock_set r member moment in
      let more = served_in_few o skips set member (numbers_below partitions) p in
      let lines = (served_in_kept o skips set member (numbers_below partitions)).lines in
      omega (arith, f, more, lines)

  bytes_few : (r : Run) (k : Connection) (bytes : List ℕ) → AreFew r → AreFew (bytes_arrived o skips r k bytes)
  bytes_few r k bytes few =
      let all = handled_all o skips (took_bytes r k bytes) k (items_by k bytes) in
      on_if AreFew (takes_bytes o r k) (forsaken all k.conn) (next_line r)
      (adds_few all (forsaken all k.conn) (forsaken_kept all k.conn).lines (forsaken_few all k.conn) (handled_few (took_bytes r k bytes) k (items_by k bytes) (took_few r k bytes few))) (next_few r few)

  found_few : (r : Run) (bytes : List ℕ) (found : Option Connection) → AreFew r → AreFew (elim found [ None ↦ next_line r | Some k ↦ bytes_arrived o skips r k bytes ])
  found_few r bytes None few = next_few r few
  found_few r bytes (Some k) few = bytes_few r k bytes few

-- what lines of events add: 5,014 events of a partition at most

module _ (o : Object Request Partition) (skips : List CallId) (r : Run) (few : AreFew r) where
  kept_few : (next : Run) (most : ℕ) → most ≤ most_line_events → Kept (next_line r) next → ((p : ℕ) → Adds p most (next_line r) next) → AreFew next
  kept_few next most size kept more p =
      let f = few p in
      let m = more p in
      let lines = kept.lines in
      omega (arith, size, f, m, lines)

  pub event_line_few : (e : Option At) → AreFew (after_event o skips (next_line r) e)
  event_line_few None = kept_few (next_line r) 0 (omega arith) (kept_refl (next_line r)) (λ p. omega arith)
  event_line_few (Some e) = kept_few (takes o skips (next_line r) e.partition e.event) 1 (omega arith) (takes_kept o skips (next_line r) e.partition e.event) (takes_few o skips (next_line r) e.partition e.event)

  pub flow_few : (p most : ℕ) → most ≤ 1000 → AreFew (flowed o skips (next_line r) p most)
  flow_few p most size = kept_few (flowed o skips (next_line r) p most) most (omega (arith, size)) (flowed_kept o skips (next_line r) p most) (flowed_few o skips (next_line r) p most)

  pub flow_all_few : (most : ℕ) → most ≤ 1000 → AreFew (flowed_in o skips (next_line r) most (numbers_below partitions))
  flow_all_few most size =
      kept_few (flowed_in o skips (next_line r) most (numbers_below partitions)) most (omega (arith, size)) (flowed_in_kept o skips (next_line r) most (numbers_below partitions))
      (flowed_in_few o skips (next_line r) most partitions)

  pub rebalance_few : (most : ℕ) → AreFew (rebalanced o skips (next_line r) most)
  rebalance_few most = kept_few (rebalanced o skips (next_line r) most) most_line_events (omega arith) (rebalanced_kept o skips (next_line r) most) (rebalanced_few o (next_line r) skips most)

  pub in_all_few : (event : Event Request) → AreFew (takes_in o skips (next_line r) event (numbers_below partitions))
  in_all_few event =
      kept_few (takes_in o skips (next_line r) event (numbers_below partitions)) 1 (omega arith) (takes_in_kept o skips (next_line r) event (numbers_below partitions)) (takes_in_few o skips (next_line r) event partitions)

-- A line within its limits adds 5,014 events of a partition at most beside those of its calls.
pub stays_few : (o : Object Request Partition) (skips : List CallId) (r : Run) (members size : ℕ) (line : Line) → IsWithin members size line → AreFew r → AreFew (after_line o skips r line)
stays_few o skips r members size (OpenConn c member) within few = on_if AreFew (can_open o r c member) (opened r c member) (next_line r) (opened_few o skips r c member few) (next_few o skips r few)
stays_few o skips r members size (Arrive c bytes) within few = found_few o skips r bytes (connection_of r c) few
stays_few o skips r members size (Clock member moment) within few = clock_few o skips r member moment few
stays_few o skips r members size (Flow partition most) within few = flow_few o skips r few partition most within.2
stays_few o skips r members size (FlowAll most) within few = flow_all_few o skips r few most within.1
stays_few o skips r members size (Crash member) within few = in_all_few o skips r few (event.Crash member)
stays_few o skips r members size (Detect member) within few = in_all_few o skips r few (event.Detect member)
stays_few o skips r members size (Rebalance most) within few = rebalance_few o skips r few most
stays_few o skips r members size line within few = event_line_few o skips r few (event_by line)

-- an event, if the line is one
pub event_kept : (o : Object Request Partition) (skips : List CallId) (r : Run) (e : Option At) → Kept r (after_event o skips r e)
event_kept o skips r None = kept_refl r
event_kept o skips r (Some e) = takes_kept o skips r e.partition e.event

-- Each line is counted.
module _ (o : Object Request Partition) (skips : List CallId) (r : Run) where
  abbrev IsCountedIn : Run → Type 0
  IsCountedIn next = next.lines ≡ r.lines + 1

  bytes_counted : (bytes : List ℕ) (found : Option Connection) → IsCountedIn (elim found [ None ↦ next_line r | Some k ↦ bytes_arrived o skips r k bytes ])
  bytes_counted bytes None = refl
  bytes_counted bytes (Some k) =
      let all = handled_all o skips (took_bytes r k bytes) k (items_by k bytes) in
      on_if IsCountedIn (takes_bytes o r k) (forsaken all k.conn) (next_line r)
      ((forsaken_kept all k.conn).lines ∙ (handled_all_come o skips (took_bytes r k bytes) k (items_by k bytes)).lines) refl

  pub line_lines : (line : Line) → IsCountedIn (after_line o skips r line)
  line_lines (OpenConn c member) = on_if IsCountedIn (can_open o r c member) (opened r c member) (next_line r) refl refl
  line_lines (Arrive c bytes) = bytes_counted bytes (connection_of r c)
  line_lines (Clock member moment) = (served_in_kept o skips (clock_set r member moment) member (numbers_below partitions)).lines
  line_lines (Flow partition most) = (flowed_kept o skips (next_line r) partition most).lines
  line_lines (FlowAll most) = (flowed_in_kept o skips (next_line r) most (numbers_below partitions)).lines
  line_lines (Crash member) = (takes_in_kept o skips (next_line r) (event.Crash member) (numbers_below partitions)).lines
  line_lines (Detect member) = (takes_in_kept o skips (next_line r) (event.Detect member) (numbers_below partitions)).lines
  line_lines (Rebalance most) = (rebalanced_kept o skips (next_line r) most).lines
  line_lines line = (event_kept o skips (next_line r) (event_by line)).lines

-- the bytes of a line
abbrev pub length_of : Line → ℕ
length_of (Arrive c bytes) = length bytes
length_of line = 0

module _ {o : Object Request Partition} (skips : List CallId) (r : Run) (is : IsRun o r) where
  bytes_more : (c : ℕ) (bytes : List ℕ) (found : Option Connection) → connection_of r c ≡ found
      → bytes_of (elim found [ None ↦ next_line r | Some k ↦ bytes_arrived o skips r k bytes ]) ≤ bytes_of r + length bytes
  bytes_more c bytes None there = omega arith
  bytes_more c bytes (Some k) there = go (takes_bytes o r k)
    where
      all : Run
      all = handled_all o skips (took_bytes r k bytes) k (items_by k bytes)

      go : (takes : Bool) → bytes_of (cond takes (forsaken all k.conn) (next_line r)) ≤ bytes_of r + length bytes
      go true =
          let same = handled_no_more o skips (took_bytes r k bytes) k (items_by k bytes) in
          let closed = ap (sum_by bytes_at) (forsaken_kept all k.conn).connections in
          let more = bytes_taken_more r k bytes is (connection_there r c k there) in
          omega (arith, same, closed, more)
      go false = omega arith

  open_more : (c member : ℕ) (opens : Bool) → bytes_of (cond opens (opened r c member) (next_line r)) ≤ bytes_of r + 0
  open_more c member true = let same = opened_no_more r c member in omega (arith, same)
  open_more c member false = omega arith

  kept_no_more : (next : Run) → Kept (next_line r) next → bytes_of next ≤ bytes_of r + 0
  kept_no_more next kept = let same = ap (sum_by bytes_at) kept.connections in omega (arith, same)

  -- A line adds no more than its bytes.
  pub line_adds : (line : Line) → bytes_of (after_line o skips r line) ≤ bytes_of r + length_of line
  line_adds (OpenConn c member) = open_more c member (can_open o r c member)
  line_adds (Arrive c bytes) = bytes_more c bytes (connection_of r c) refl
  line_adds (Clock member moment) = let same = ap (sum_by bytes_at) (served_in_kept o skips (clock_set r member moment) member (numbers_below partitions)).connections in omega (arith, same)
  line_adds (Flow partition most) = kept_no_more (flowed o skips (next_line r) partition most) (flowed_kept o skips (next_line r) partition most)
  line_adds (FlowAll most) = kept_no_more (flowed_in o skips (next_line r) most (numbers_below partitions)) (flowed_in_kept o skips (next_line r) most (numbers_below partitions))
  line_adds (Crash member) = kept_no_more (takes_in o skips (next_line r) (event.Crash member) (numbers_below partitions)) (takes_in_kept o skips (next_line r) (event.Crash member) (numbers_below partitions))
  line_adds (Detect member) = kept_no_more (takes_in o skips (next_line r) (event.Detect member) (numbers_below partitions)) (takes_in_kept o skips (next_line r) (event.Detect member) (numbers_below partitions))
  line_adds (Rebalance most) = kept_no_more (rebalanced o skips (next_line r) most) (rebalanced_kept o skips (next_line r) most)
  line_adds line = kept_no_more (after_event o skips (next_line r) (event_by line)) (event_kept o skips (next_line r) (event_by line))

  -- and so many lines have no more bytes than their texts have room for
  pub stays_small : (line : Line) → IsSmall r → 2 * length_of line ≤ most_arriving → IsSmall (after_line o skips r line)
  stays_small line small size =
      let adds = line_adds line in
      let lines = line_lines o skips r line in
      omega (arith, small, size, adds, lines)

-- lines that leave the connections as they are
pub kept_small : (r next : Run) → Kept (next_line r) next → IsSmall r → IsSmall next
kept_small r next kept small =
    let same = ap (sum_by bytes_at) kept.connections in
    let lines = kept.lines in
    omega (arith, small, same, lines)

-- a line within the limit of bytes
pub line_within : (members size : ℕ) (line : Line) → IsWithin members size line → 2 * length_of line ≤ size
line_within members size (Arrive conn bytes) h = h.2
line_within members size line h = omega arith
