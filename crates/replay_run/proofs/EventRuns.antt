-- What events do to a run: one in a partition, one in each of several, and the deliveries of a flow.
use Rattle.std.proofs.Common.{◌≡◌, ◌≢◌, ℕ, zero, suc, ◌+◌, ◌≤◌, Bool, true, false, not, cond, List, [], ◌∷◌, ◌++◌, map, filter, length, Option, Some, None, refl, ap, sym, ◌∙◌, subst, ⊎_elim, inl, inr, arith, append-nil, length-append}
use Rattle.grid_base.specs.Names.{is_same_call}
use Rattle.std.proofs.lemmas.List.{map-append}
use Rattle.std.proofs.lemmas.List.Elements.{filter-append}
use Rattle.grid_base.specs.Objects.{Object}
use Rattle.grid_base.specs.declared.names.CallId.{CallId}
use Rattle.grid_base.specs.declared.calls.Request.{Request}
use Rattle.object_store.specs.Partitions.{Partition}
use Rattle.partition_protocol.specs.Arrivals.{asked_by}
use Rattle.partition_protocol.specs.Events.{Event}
use Rattle.partition_protocol.specs.Service.{numbers_below}
use Rattle.partition_protocol.proofs.Lists.{In, contains_in, on_if}
use Rattle.partition_protocol.proofs.RowFacts.{number_other, number_cases}
use Rattle.session_core.specs.declared.item.Item.{Item}
use Rattle.session_core.specs.declared.item.Item.TheVariants.{Call as Asks, Wait, Register, Reply}
use Rattle.partition_world.specs.declared.Link.{Link}
use Rattle.partition_world.specs.LinkOrder.{next_link}
use Rattle.replay_run.specs.Runs.{Run, At, Connection, Arrival, Waiter, Appended, is_at, events_at, world_at, is_full, is_skipped, arrived, asked, given_up, asks, arrival_at, waits, waiter_at, is_waiter, without, ending, served, served_in, forsaken, occurred, meets_full, stirred_by, served_at, takes, takes_in, delivery_on, flowed, flowed_in, handled, handled_all}
use Rattle.replay_run.specs.ScriptRuns.{IsRun, event_occurred, run_given_up, waiter_asked, waiter_refused, waiter_left}
use Rattle.waiting_protocol.proofs.Sources.{filter_few}
use Rattle.replay_run.proofs.Places.{same_call_refl}
use Rattle.replay_run.proofs.Turns.{KeepsTurns, by_endings, served_keeps, takes_keeps, forsaken_keeps, IsMade, its_event}

-- a flow of one delivery more, where this is the link that comes first
abbrev pub flowed_on : Object Request Partition → List CallId → Run → ℕ → ℕ → Option Link → Run
flowed_on o skips r p most next = elim next [ None ↦ r | Some l ↦ flowed o skips (takes o skips r p (delivery_on l)) p most ]

-- And what holds after each event of a run, or after the turns of each list, holds after several.
module _ (o : Object Request Partition) (skips : List CallId) (P : Run → Type 0) where
  pub served_in_keeps : (member : ℕ) → ((r : Run) (p : ℕ) → P r → P (served o skips r None p member)) → (r : Run) (ps : List ℕ) → P r → P (served_in o skips r member ps)
  served_in_keeps member step r [] h = h
  served_in_keeps member step r (p ∷ ps) h = served_in_keeps member step (served o skips r None p member) ps (step r p h)

  pub takes_in_keeps : (event : Event Request) → ((r : Run) (p : ℕ) → P r → P (takes o skips r p event)) → (r : Run) (ps : List ℕ) → P r → P (takes_in o skips r event ps)
  takes_in_keeps event step r [] h = h
  takes_in_keeps event step r (p ∷ ps) h = takes_in_keeps event step (takes o skips r p event) ps (step r p h)

  pub flowed_keeps : (p : ℕ) → ((r : Run) (l : Link) → P r → P (takes o skips r p (delivery_on l))) → (r : Run) (most : ℕ) → P r → P (flowed o skips r p most)
  flowed_keeps p step r zero h = h
  flowed_keeps p step r (suc most) h = go (next_link (world_at o r p)) (λ l. flowed_keeps p step (takes o skips r p (delivery_on l)) most (step r l h))
    where
      go : (next : Option Link) → ((l : Link) → P (flowed o skips (takes o skips r p (delivery_on l)) p most)) → P (flowed_on o skips r p most next)
      go None f = h
      go (Some l) f = f l

  pub flowed_in_keeps : ((r : Run) (p : ℕ) (l : Link) → P r → P (takes o skips r p (delivery_on l))) → (r : Run) (most : ℕ) (ps : List ℕ) → P r → P (flowed_in o skips r most ps)
  flowed_in_keeps step r most [] h = h
  flowed_in_keeps step r most (p ∷ ps) h = flowed_in_keeps step (flowed o skips r p most) most ps (flowed_keeps p (λ x l. step x p l) r most h)

-- what events leave as it was

-- No call arrives: whoever is an arrival more, waited.
pub record Kept (r next : Run) : Type 0 where
  pub members : next.members ≡ r.members
  pub backups : next.backups ≡ r.backups
  pub lines : next.lines ≡ r.lines
  pub moments : next.moments ≡ r.moments
  pub connections : next.connections ≡ r.connections
  pub calls : length next.arrivals + length next.waiters ≤ length r.arrivals + length r.waiters

pub kept_refl : (r : Run) → Kept r r
kept_refl r = record { members = refl; backups = refl; lines = refl; moments = refl; connections = refl; calls = omega arith }

pub kept_trans : {r mid next : Run} → Kept r mid → Kept mid next → Kept r next
kept_trans a b = record {
  members = b.members ∙ a.members;
  backups = b.backups ∙ a.backups;
  lines = b.lines ∙ a.lines;
  moments = b.moments ∙ a.moments;
  connections = b.connections ∙ a.connections;
  calls = let more = b.calls in let first = a.calls in omega (arith, more, first);
}

-- one waits less

abbrev pub is_other : Waiter → Waiter → Bool
is_other w x = not (is_waiter w.request.id x)

pub fewer : (w : Waiter) (ws : List Waiter) → In w ws → length (filter (is_other w) ws) + 1 ≤ length ws
fewer w [] i = absurd i
fewer w (v ∷ vs) (inl e) =
    let gone : is_other w v ≡ false = ap not (subst (λ (c : CallId). is_same_call v.request.id c ≡ true) (ap (λ (x : Waiter). x.request.id) e) (same_call_refl v.request.id)) in
    let most = filter_few (is_other w) vs in
    rw gone (omega (arith, most))
fewer w (v ∷ vs) (inr i) = go (is_other w v) (fewer w vs i)
  where
    go : (b : Bool) → length (filter (is_other w) vs) + 1 ≤ length vs → length (cond b (v ∷ filter (is_other w) vs) (filter (is_other w) vs)) + 1 ≤ length (v ∷ vs)
    go true h = omega (arith, h)
    go false h = omega (arith, h)

pub ended_kept : (r : Run) (w : Waiter) (events : List At) (appended : List Appended) → In w r.waiters → Kept r (arrived (without r w) (ending r w) events appended)
ended_kept r w events appended i = record {
  members = refl;
  backups = refl;
  lines = refl;
  moments = refl;
  connections = refl;
  calls = let one = length-append r.arrivals (ending r w ∷ []) in let less = fewer w r.waiters i in omega (arith, one, less);
}

pub forsaken_kept : (r : Run) (c : ℕ) → Kept r (forsaken r c)
forsaken_kept r c = forsaken_keeps (Kept r) (λ x w i h. kept_trans h (ended_kept x w [] [] i)) c r (kept_refl r)

module _ (o : Object Request Partition) (skips : List CallId) where
  pub kept_turns : (r : Run) (p : ℕ) → KeepsTurns o skips p (Kept r)
  kept_turns r p = by_endings o skips p (Kept r)
      (λ x h. record { members = h.members; backups = h.backups; lines = h.lines; moments = h.moments; connections = h.connections; calls = h.calls })
      (λ x w events appended i made here h. kept_trans h (ended_kept x w events appended i))

  pub served_kept : (r : Run) (own : Option ℕ) (p member : ℕ) → Kept r (served o skips r own p member)
  served_kept r own p member = served_keeps o skips p (Kept r) (kept_turns r p) r own member (kept_refl r)

  pub served_in_kept : (r : Run) (member : ℕ) (ps : List ℕ) → Kept r (served_in o skips r member ps)
  served_in_kept r member ps = served_in_keeps o skips (Kept r) member (λ x p h. kept_trans h (served_kept x None p member)) r ps (kept_refl r)

  pub occurred_kept : (r : Run) (p : ℕ) (event : Event Request) → Kept r (occurred o r p event)
  occurred_kept r p event = record { members = refl; backups = refl; lines = refl; moments = refl; connections = refl; calls = omega arith }

  pub takes_kept : (r : Run) (p : ℕ) (event : Event Request) → Kept r (takes o skips r p event)
  takes_kept r p event = takes_keeps o skips p (Kept r) (kept_turns r p) r event (kept_refl r) (occurred_kept r p event)

  pub takes_in_kept : (r : Run) (event : Event Request) (ps : List ℕ) → Kept r (takes_in o skips r event ps)
  takes_in_kept r event ps = takes_in_keeps o skips (Kept r) event (λ x p h. kept_trans h (takes_kept x p event)) r ps (kept_refl r)

  pub flowed_kept : (r : Run) (p most : ℕ) → Kept r (flowed o skips r p most)
  flowed_kept r p most = flowed_keeps o skips (Kept r) p (λ x l h. kept_trans h (takes_kept x p (delivery_on l))) r most (kept_refl r)

  pub flowed_in_kept : (r : Run) (most : ℕ) (ps : List ℕ) → Kept r (flowed_in o skips r most ps)
  flowed_in_kept r most ps = flowed_in_keeps o skips (Kept r) (λ x p l h. kept_trans h (takes_kept x p (delivery_on l))) r most ps (kept_refl r)

-- They make runs of runs.

module _ {o : Object Request Partition} (skips : List CallId) where
  pub run_turns : (p : ℕ) → KeepsTurns o skips p (IsRun o)
  run_turns p = record {
    up = λ r is. run_given_up r is;
    asked = λ r own w i here is. waiter_asked skips r own w is (contains_in w r.waiters i);
    refused = λ r w why i here is. waiter_refused r w why is (contains_in w r.waiters i);
    left = λ r w i here is. waiter_left r w is (contains_in w r.waiters i);
  }

  pub served_run : (r : Run) (own : Option ℕ) (p member : ℕ) → IsRun o r → IsRun o (served o skips r own p member)
  served_run r own p member is = served_keeps o skips p (IsRun o) (run_turns p) r own member is

  pub forsaken_run : (r : Run) (c : ℕ) → IsRun o r → IsRun o (forsaken r c)
  forsaken_run r c is = forsaken_keeps (IsRun o) (λ x w i h. waiter_left x w h (contains_in w x.waiters i)) c r is

  pub served_in_run : (r : Run) (member : ℕ) (ps : List ℕ) → IsRun o r → IsRun o (served_in o skips r member ps)
  served_in_run r member ps is = served_in_keeps o skips (IsRun o) member (λ x p h. served_run x None p member h) r ps is

  pub takes_run : (r : Run) (p : ℕ) (event : Event Request) → IsRun o r → asked_by event ≡ [] → IsRun o (takes o skips r p event)
  takes_run r p event is quiet = takes_keeps o skips p (IsRun o) (run_turns p) r event is (event_occurred r p event is quiet)

  pub takes_in_run : (r : Run) (event : Event Request) (ps : List ℕ) → IsRun o r → asked_by event ≡ [] → IsRun o (takes_in o skips r event ps)
  takes_in_run r event ps is quiet = takes_in_keeps o skips (IsRun o) event (λ x p h. takes_run x p event h quiet) r ps is

  pub flowed_run : (r : Run) (p most : ℕ) → IsRun o r → IsRun o (flowed o skips r p most)
  flowed_run r p most is = flowed_keeps o skips (IsRun o) p (λ x l h. takes_run x p (delivery_on l) h refl) r most is

  pub flowed_in_run : (r : Run) (most : ℕ) (ps : List ℕ) → IsRun o r → IsRun o (flowed_in o skips r most ps)
  flowed_in_run r most ps is = flowed_in_keeps o skips (IsRun o) (λ x p l h. takes_run x p (delivery_on l) h refl) r most ps is

-- A run that is given up stays so.

abbrev pub IsFull : Run → Type 0
IsFull r = r.full ≡ true

module _ (o : Object Request Partition) (skips : List CallId) where
  full_turns : (p : ℕ) → KeepsTurns o skips p IsFull
  full_turns p = by_endings o skips p IsFull (λ r full. refl) (λ r w events appended i made here full. full)

  pub served_full : (r : Run) (own : Option ℕ) (p member : ℕ) → r.full ≡ true → (served o skips r own p member).full ≡ true
  served_full r own p member full = served_keeps o skips p IsFull (full_turns p) r own member full

  pub served_in_full : (r : Run) (member : ℕ) (ps : List ℕ) → r.full ≡ true → (served_in o skips r member ps).full ≡ true
  served_in_full r member ps full = served_in_keeps o skips IsFull member (λ x p h. served_full x None p member h) r ps full

  pub takes_full : (r : Run) (p : ℕ) (event : Event Request) → r.full ≡ true → (takes o skips r p event).full ≡ true
  takes_full r p event full = takes_keeps o skips p IsFull (full_turns p) r event full full

  pub takes_in_full : (r : Run) (event : Event Request) (ps : List ℕ) → r.full ≡ true → (takes_in o skips r event ps).full ≡ true
  takes_in_full r event ps full = takes_in_keeps o skips IsFull event (λ x p h. takes_full x p event h) r ps full

  pub flowed_full : (r : Run) (p most : ℕ) → r.full ≡ true → (flowed o skips r p most).full ≡ true
  flowed_full r p most full = flowed_keeps o skips IsFull p (λ x l h. takes_full x p (delivery_on l) h) r most full

  pub flowed_in_full : (r : Run) (most : ℕ) (ps : List ℕ) → r.full ≡ true → (flowed_in o skips r most ps).full ≡ true
  flowed_in_full r most ps full = flowed_in_keeps o skips IsFull (λ x p l h. takes_full x p (delivery_on l) h) r most ps full

  pub asked_full : (r : Run) (own : Option ℕ) (a : Arrival) → r.full ≡ true → (asked o skips r own a).full ≡ true
  asked_full r own a full = on_if IsFull (is_skipped skips a.request.id) _ _ full full

  pub asks_full : (r : Run) (own : Option ℕ) (a : Arrival) → r.full ≡ true → (asks o skips r own a).full ≡ true
  asks_full r own a full = on_if IsFull (is_full (world_at o r a.request.partition)) (given_up (arrived r a [] [])) (asked o skips r own a) refl (asked_full r own a full)

  pub handled_full : (r : Run) (k : Connection) (item : Item) → r.full ≡ true → (handled o skips r k item).full ≡ true
  handled_full r k (Reply bytes) full = full
  handled_full r k (Wait request timeout) full = served_full (waits r (waiter_at r k.member request timeout)) (Some request.id.conn) request.partition k.member full
  handled_full r k (Register registration) full = full
  handled_full r k (Asks request) full =
      served_full (asks o skips r (Some request.id.conn) (arrival_at r k.member request)) (Some request.id.conn) request.partition k.member (asks_full r (Some request.id.conn) (arrival_at r k.member request) full)

  pub handled_all_full : (r : Run) (k : Connection) (items : List Item) → r.full ≡ true → (handled_all o skips r k items).full ≡ true
  handled_all_full r k [] full = full
  handled_all_full r k (item ∷ items) full = handled_all_full (handled o skips r k item) k items (handled_full r k item full)

-- also as its connection closes
pub forsaken_full : (r : Run) (c : ℕ) → r.full ≡ true → (forsaken r c).full ≡ true
forsaken_full r c full = forsaken_keeps IsFull (λ x w i full. full) c r full

-- the events of a partition

pub events_at-append : (p : ℕ) (es fs : List At) → events_at p (es ++ fs) ≡ events_at p es ++ events_at p fs
events_at-append p es fs = ap (map (λ (e : At). e.event)) (filter-append (is_at p) es fs) ∙ map-append (λ (e : At). e.event) (filter (is_at p) es) (filter (is_at p) fs)

-- A partition has no more events than there are.
pub few_events : (p : ℕ) (es : List At) → length (events_at p es) ≤ length es
few_events p [] = omega arith
few_events p (e ∷ es) = go (is_at p e) (few_events p es)
  where
    go : (b : Bool) → length (events_at p es) ≤ length es → length (map (λ (x : At). x.event) (cond b (e ∷ filter (is_at p) es) (filter (is_at p) es))) ≤ length (e ∷ es)
    go true h = omega (arith, h)
    go false h = omega (arith, h)

pub events_more : (p : ℕ) (es fs : List At) → length (events_at p (es ++ fs)) ≤ length (events_at p es) + length fs
events_more p es fs =
    let whole = ap length (events_at-append p es fs) ∙ length-append (events_at p es) (events_at p fs) in
    let few = few_events p fs in
    omega (arith, whole, few)

-- An event is one of its partition, and none of another. A call that waited makes one as it becomes an arrival, in its own partition.

-- the partition has at most so many events more than there are arrivals more
abbrev pub Adds : ℕ → ℕ → Run → Run → Type 0
Adds q most r next = length (events_at q next.events) + length r.arrivals ≤ length (events_at q r.events) + length next.arrivals + most

abbrev pub HasEvents : ℕ → List (Event Request) → Run → Type 0
HasEvents q events r = events_at q r.events ≡ events

-- the event of an arrival, or none
made_few : (a : Arrival) (q : ℕ) (events : List At) → IsMade a events → length (events_at q events) ≤ 1
made_few a q events (inl e) = let none = ap (λ es. length (events_at q es)) e in omega (arith, none)
made_few a q events (inr e) = let one = ap (λ es. length (events_at q es)) e in let few = few_events q (its_event a ∷ []) in omega (arith, one, few)

made_elsewhere : (a : Arrival) (p q : ℕ) (events : List At) → IsMade a events → a.request.partition ≡ p → q ≢ p → events_at q events ≡ []
made_elsewhere a p q events (inl e) here other = ap (events_at q) e
made_elsewhere a p q events (inr e) here other =
    let away : is_at q (its_event a) ≡ false = number_other a.request.partition q (λ s. other (sym s ∙ here)) in
    let none : events_at q (its_event a ∷ []) ≡ [] = rw away refl in
    ap (events_at q) e ∙ none

none_more : (q : ℕ) (es fs : List At) → events_at q fs ≡ [] → events_at q (es ++ fs) ≡ events_at q es
none_more q es fs none = events_at-append q es fs ∙ ap (λ xs. events_at q es ++ xs) none ∙ append-nil (events_at q es)

pub ended_few : (r : Run) (w : Waiter) (events : List At) (appended : List Appended) (q : ℕ) → IsMade (ending r w) events → Adds q 0 r (arrived (without r w) (ending r w) events appended)
ended_few r w events appended q made =
    let more = ap length (events_at-append q r.events events) ∙ length-append (events_at q r.events) (events_at q events) in
    let few = made_few (ending r w) q events made in
    let come = length-append r.arrivals (ending r w ∷ []) in
    omega (arith, more, few, come)

pub forsaken_few : (r : Run) (c q : ℕ) → Adds q 0 r (forsaken r c)
forsaken_few r c q = forsaken_keeps (Adds q 0 r) (λ x w i h. (let one = ended_few x w [] [] q (inl refl) in omega (arith, one, h))) c r (omega arith)

module _ (o : Object Request Partition) (skips : List CallId) where
  few_turns : (r : Run) (p q most : ℕ) → KeepsTurns o skips p (Adds q most r)
  few_turns r p q most = by_endings o skips p (Adds q most r) (λ x h. h) (λ x w events appended i made here h. (let one = ended_few x w events appended q made in omega (arith, one, h)))

  elsewhere_turns : (r : Run) (p q : ℕ) → q ≢ p → KeepsTurns o skips p (HasEvents q (events_at q r.events))
  elsewhere_turns r p q other = by_endings o skips p (HasEvents q (events_at q r.events)) (λ x h. h)
      (λ x w events appended i made here h. none_more q x.events events (made_elsewhere (ending x w) p q events made here other) ∙ h)

  pub served_few : (r : Run) (own : Option ℕ) (p member q : ℕ) → Adds q 0 r (served o skips r own p member)
  served_few r own p member q = served_keeps o skips p (Adds q 0 r) (few_turns r p q 0) r own member (omega arith)

  pub served_in_few : (r : Run) (member : ℕ) (ps : List ℕ) (q : ℕ) → Adds q 0 r (served_in o skips r member ps)
  served_in_few r member ps q = served_in_keeps o skips (Adds q 0 r) member (λ x p h. (let more = served_few x None p member q in omega (arith, more, h))) r ps (omega arith)

  pub takes_few : (r : Run) (p : ℕ) (event : Event Request) (q : ℕ) → Adds q 1 r (takes o skips r p event)
  takes_few r p event q =
      let one : At = record { partition = p; event = event } in
      takes_keeps o skips p (Adds q 1 r) (few_turns r p q 1) r event (omega arith) (let more = events_more q r.events (one ∷ []) in omega (arith, more))

  pub takes_elsewhere : (r : Run) (p : ℕ) (event : Event Request) (q : ℕ) → q ≢ p → events_at q (takes o skips r p event).events ≡ events_at q r.events
  takes_elsewhere r p event q other =
      let one : At = record { partition = p; event = event } in
      let away : is_at q one ≡ false = number_other p q (λ e. other (sym e)) in
      let none : events_at q (one ∷ []) ≡ [] = rw away refl in
      takes_keeps o skips p (HasEvents q (events_at q r.events)) (elsewhere_turns r p q other) r event refl (none_more q r.events (one ∷ []) none)

  pub flowed_few : (r : Run) (p most q : ℕ) → Adds q most r (flowed o skips r p most)
  flowed_few r p zero q = omega arith
  flowed_few r p (suc most) q = go (next_link (world_at o r p)) (λ l. flowed_few (takes o skips r p (delivery_on l)) p most q)
    where
      go : (next : Option Link) → ((l : Link) → Adds q most (takes o skips r p (delivery_on l)) (flowed o skips (takes o skips r p (delivery_on l)) p most)) → Adds q (suc most) r (flowed_on o skips r p most next)
      go None f = omega arith
      go (Some l) f = let rest = f l in let one = takes_few r p (delivery_on l) q in omega (arith, rest, one)

  pub flowed_elsewhere : (r : Run) (p most q : ℕ) → q ≢ p → events_at q (flowed o skips r p most).events ≡ events_at q r.events
  flowed_elsewhere r p most q other = flowed_keeps o skips (HasEvents q (events_at q r.events)) p (λ x l h. takes_elsewhere x p (delivery_on l) q other ∙ h) r most refl

-- partitions in order

-- no arrival is one less
abbrev pub NoFewer : Run → Run → Type 0
NoFewer r next = length r.arrivals ≤ length next.arrivals

-- After so many partitions' turns, none of which makes an event in another: those still to come have the events that they had, and each has those of its own turn more at most.
module _ (now : ℕ → Run) (q : ℕ) (elsewhere : (n : ℕ) → q ≢ n → events_at q (now (suc n)).events ≡ events_at q (now n).events) (come : (n : ℕ) → NoFewer (now n) (now (suc n))) where
  to_come : (n : ℕ) → n ≤ q → events_at q (now n).events ≡ events_at q (now 0).events
  to_come zero l = refl
  to_come (suc n) l = elsewhere n (omega (arith, l)) ∙ to_come n (omega (arith, l))

  all_come : (n : ℕ) → NoFewer (now 0) (now n)
  all_come zero = omega arith
  all_come (suc n) = let before = all_come n in let one = come n in omega (arith, before, one)

  pub one_turn : (most : ℕ) → ((n : ℕ) → Adds q most (now n) (now (suc n))) → (n : ℕ) → Adds q most (now 0) (now n)
  one_turn most turn zero = omega arith
  one_turn most turn (suc n) = ⊎_elim
      (λ e. let before = ap length (to_come n (omega (arith, e))) in let its = turn n in let all = all_come n in omega (arith, before, its, all))
      (λ other. let before = one_turn most turn n in let same = ap length (elsewhere n other) in let more = come n in omega (arith, before, same, more))
      (number_cases q n)

module _ (o : Object Request Partition) (skips : List CallId) where
  come_turns : (r : Run) (p : ℕ) → KeepsTurns o skips p (NoFewer r)
  come_turns r p = by_endings o skips p (NoFewer r) (λ x h. h) (λ x w events appended i made here h. (let one = length-append x.arrivals (ending x w ∷ []) in omega (arith, one, h)))

  pub takes_come : (r x : Run) (p : ℕ) (event : Event Request) → NoFewer r x → NoFewer r (takes o skips x p event)
  takes_come r x p event h = takes_keeps o skips p (NoFewer r) (come_turns r p) x event h h

  flowed_come : (r : Run) (p most : ℕ) → NoFewer r (flowed o skips r p most)
  flowed_come r p most = flowed_keeps o skips (NoFewer r) p (λ x l h. takes_come r x p (delivery_on l) h) r most (omega arith)

  pub takes_in-append : (r : Run) (event : Event Request) (ps qs : List ℕ) → takes_in o skips r event (ps ++ qs) ≡ takes_in o skips (takes_in o skips r event ps) event qs
  takes_in-append r event [] qs = refl
  takes_in-append r event (p ∷ ps) qs = takes_in-append (takes o skips r p event) event ps qs

  pub flowed_in-append : (r : Run) (most : ℕ) (ps qs : List ℕ) → flowed_in o skips r most (ps ++ qs) ≡ flowed_in o skips (flowed_in o skips r most ps) most qs
  flowed_in-append r most [] qs = refl
  flowed_in-append r most (p ∷ ps) qs = flowed_in-append (flowed o skips r p most) most ps qs

  -- one partition more
  pub takes_in_more : (r : Run) (event : Event Request) (n : ℕ) → takes_in o skips r event (numbers_below (suc n)) ≡ takes o skips (takes_in o skips r event (numbers_below n)) n event
  takes_in_more r event n = takes_in-append r event (numbers_below n) (n ∷ [])

  pub flowed_in_more : (r : Run) (most n : ℕ) → flowed_in o skips r most (numbers_below (suc n)) ≡ flowed o skips (flowed_in o skips r most (numbers_below n)) n most
  flowed_in_more r most n = flowed_in-append r most (numbers_below n) (n ∷ [])

  -- which makes no event in another

  takes_in_elsewhere : (r : Run) (event : Event Request) (q n : ℕ) → q ≢ n → events_at q (takes_in o skips r event (numbers_below (suc n))).events ≡ events_at q (takes_in o skips r event (numbers_below n)).events
  takes_in_elsewhere r event q n other = ap (λ (x : Run). events_at q x.events) (takes_in_more r event n) ∙ takes_elsewhere o skips (takes_in o skips r event (numbers_below n)) n event q other

  flowed_in_elsewhere : (r : Run) (most q n : ℕ) → q ≢ n → events_at q (flowed_in o skips r most (numbers_below (suc n))).events ≡ events_at q (flowed_in o skips r most (numbers_below n)).events
  flowed_in_elsewhere r most q n other = ap (λ (x : Run). events_at q x.events) (flowed_in_more r most n) ∙ flowed_elsewhere o skips (flowed_in o skips r most (numbers_below n)) n most q other

  takes_in_come : (r : Run) (event : Event Request) (n : ℕ) → NoFewer (takes_in o skips r event (numbers_below n)) (takes_in o skips r event (numbers_below (suc n)))
  takes_in_come r event n = let before = takes_in o skips r event (numbers_below n) in subst (NoFewer before) (sym (takes_in_more r event n)) (takes_come before before n event (omega arith))

  flowed_in_come : (r : Run) (most n : ℕ) → NoFewer (flowed_in o skips r most (numbers_below n)) (flowed_in o skips r most (numbers_below (suc n)))
  flowed_in_come r most n = let before = flowed_in o skips r most (numbers_below n) in subst (NoFewer before) (sym (flowed_in_more r most n)) (flowed_come before n most)

  pub takes_in_no_fewer : (r : Run) (event : Event Request) (n : ℕ) → NoFewer r (takes_in o skips r event (numbers_below n))
  takes_in_no_fewer r event n = all_come (λ k. takes_in o skips r event (numbers_below k)) 0 (takes_in_elsewhere r event 0) (takes_in_come r event) n

  pub flowed_in_no_fewer : (r : Run) (most n : ℕ) → NoFewer r (flowed_in o skips r most (numbers_below n))
  flowed_in_no_fewer r most n = all_come (λ k. flowed_in o skips r most (numbers_below k)) 0 (flowed_in_elsewhere r most 0) (flowed_in_come r most) n

  pub takes_in_later : (r : Run) (event : Event Request) (n q : ℕ) → n ≤ q → events_at q (takes_in o skips r event (numbers_below n)).events ≡ events_at q r.events
  takes_in_later r event n q = to_come (λ k. takes_in o skips r event (numbers_below k)) q (takes_in_elsewhere r event q) (takes_in_come r event) n

  pub flowed_in_later : (r : Run) (most n q : ℕ) → n ≤ q → events_at q (flowed_in o skips r most (numbers_below n)).events ≡ events_at q r.events
  flowed_in_later r most n q = to_come (λ k. flowed_in o skips r most (numbers_below k)) q (flowed_in_elsewhere r most q) (flowed_in_come r most) n

  pub takes_in_few : (r : Run) (event : Event Request) (n q : ℕ) → Adds q 1 r (takes_in o skips r event (numbers_below n))
  takes_in_few r event n q = one_turn (λ k. takes_in o skips r event (numbers_below k)) q (takes_in_elsewhere r event q) (takes_in_come r event) 1
      (λ k. let before = takes_in o skips r event (numbers_below k) in subst (Adds q 1 before) (sym (takes_in_more r event k)) (takes_few o skips before k event q))
      n

  pub flowed_in_few : (r : Run) (most n q : ℕ) → Adds q most r (flowed_in o skips r most (numbers_below n))
  flowed_in_few r most n q = one_turn (λ k. flowed_in o skips r most (numbers_below k)) q (flowed_in_elsewhere r most q) (flowed_in_come r most) most
      (λ k. let before = flowed_in o skips r most (numbers_below k) in subst (Adds q most before) (sym (flowed_in_more r most k)) (flowed_few o skips before k most q))
      n

-- one step

module _ (o : Object Request Partition) (skips : List CallId) (r : Run) (p : ℕ) where
  pub takes_here : (event : Event Request) → meets_full (world_at o r p) event ≡ false → takes o skips r p event ≡ served_at o skips (occurred o r p event) p (stirred_by event)
  takes_here event free = ap (λ b. cond b (given_up r) (served_at o skips (occurred o r p event) p (stirred_by event))) free

  pub takes_nothing : (event : Event Request) → meets_full (world_at o r p) event ≡ true → (takes o skips r p event).full ≡ true
  takes_nothing event full = ap (λ b. (cond b (given_up r) (served_at o skips (occurred o r p event) p (stirred_by event))).full) full

  pub flowed_none : (most : ℕ) → next_link (world_at o r p) ≡ None → flowed o skips r p most ≡ r
  flowed_none zero none = refl
  flowed_none (suc most) none = ap (flowed_on o skips r p most) none

  pub flowed_some : (most : ℕ) (l : Link) → next_link (world_at o r p) ≡ Some l → flowed o skips r p (suc most) ≡ flowed o skips (takes o skips r p (delivery_on l)) p most
  flowed_some most l some = ap (flowed_on o skips r p most) some

module _ (o : Object Request Partition) (skips : List CallId) (r : Run) (own : Option ℕ) (a : Arrival) where
  pub asks_here : is_full (world_at o r a.request.partition) ≡ false → asks o skips r own a ≡ asked o skips r own a
  asks_here free = ap (λ b. cond b (given_up (arrived r a [] [])) (asked o skips r own a)) free

  pub asks_nothing : is_full (world_at o r a.request.partition) ≡ true → (asks o skips r own a).full ≡ true
  asks_nothing full = ap (λ b. (cond b (given_up (arrived r a [] [])) (asked o skips r own a)).full) full
