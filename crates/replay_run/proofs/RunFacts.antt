-- What holds of a run after every line: what its arrivals, its events and its answers have to do with one another.
use Rattle.std.proofs.Common.{◌≡◌, ◌≢◌, ℕ, ◌≤◌, ◌<◌, Bool, true, false, ◌==◌, List, [], ◌∷◌, ◌++◌, length, map, filter, Some, refl, ap, sym, ◌∙◌, subst, inl, inr}
use Rattle.std.specs.Option.{option_map, option_or}
use Rattle.std.specs.List.{find}
use Rattle.grid_base.specs.Objects.{Object}
use Rattle.grid_base.specs.Names.{is_same_call}
use Rattle.grid_base.specs.declared.names.CallId.{CallId}
use Rattle.grid_base.specs.declared.calls.Request.{Request}
use Rattle.partition_protocol.specs.Node.{Held}
use Rattle.partition_protocol.specs.History.{Entry, Executed}
use Rattle.partition_protocol.specs.Answers.{answered_call}
use Rattle.partition_protocol.specs.Arrivals.{Asked, CallName, NamedOnce, name, arrivals, calls_in}
use Rattle.partition_protocol.specs.Sequences.{IsFrontOf}
use Rattle.partition_protocol.specs.Claims.{IsSafe, IsFaithful}
use Rattle.partition_protocol.proofs.Lists.{In, in_left, contains_in, IsPart}
use Rattle.partition_protocol.proofs.RowFacts.{false_or_not}
use Rattle.partition_protocol.proofs.Faithful.{part_in, part_map, part_once}
use Rattle.partition_protocol.proofs.Theorem.{every_run_is_safe}
use Rattle.partition_world.specs.Answers.{id_of}
use Rattle.replay_run.specs.Runs.{Run, Arrival, Waiter, Appended, Connection, is_waiter, reopened_at, world_at, events_at, connection_of, messages_on}
use Rattle.replay_run.specs.ScriptRuns.{IsPlaced}
use Rattle.replay_run.specs.Printing.{arrival_of, came_at, is_answer_to}
use Rattle.replay_run.specs.Linearizability.{Before}
use Rattle.replay_run.proofs.Parts.{in_map, before_map, subsequence_part, part_filter, part_trans, before_part, before_mapped, in_mapped, in_filtered, named_same}
use Rattle.replay_run.proofs.Counting.{count}
use Rattle.replay_run.proofs.Places.{same_call, same_call_refl, same_number}
use Rattle.replay_run.proofs.Trails.{executed, executed-append, asked, executed_name, calls_executed, names_executed}
use Rattle.replay_run.proofs.Stamps.{AreStamped}

-- arrivals

abbrev pub asked_of : Arrival → Asked Request
asked_of a = record { conn = a.request.id.conn; number = a.request.id.number; now = a.now; call = a.request }

abbrev pub id_name : CallId → CallName
id_name id = record { conn = id.conn; number = id.number }

abbrev pub arrival_name : Arrival → CallName
arrival_name a = name (asked_of a)

abbrev pub is_of : ℕ → Arrival → Bool
is_of p a = a.request.partition == p

pub record ArrivalsOk (r : Run) : Type 0 where
  -- each is of the partition of its object
  pub placed : (a : Arrival) → In a r.arrivals → IsPlaced a.request
  -- no two have one name
  pub once : NamedOnce (map arrival_name r.arrivals)
  -- it is one of the messages of its connection
  pub counted : (a : Arrival) → In a r.arrivals → (k : Connection) × (connection_of r a.request.id.conn ≡ Some k) × (a.request.id.number < length (messages_on k))
  -- those of one connection that don't wait stand by number
  pub rising : (a b : Arrival) → Before r.arrivals a b → a.waits ≡ false → b.waits ≡ false → a.request.id.conn ≡ b.request.id.conn → a.request.id.number < b.request.id.number
  -- those of one line are of one connection
  pub of_line : (a b : Arrival) → In a r.arrivals → In b r.arrivals → a.line ≡ b.line → a.request.id.conn ≡ b.request.id.conn
  -- it was made no sooner than it arrived
  pub later : (a : Arrival) → In a r.arrivals → a.line ≤ a.made
  pub by_now : (a : Arrival) → In a r.arrivals → a.made ≤ r.lines
  -- the calls that reach a partition's members are arrivals of that partition, in order
  pub calls : (p : ℕ) → IsPart (arrivals (events_at p r.events)) (map asked_of (filter (is_of p) r.arrivals))

-- calls that wait

abbrev pub waiter_name : Waiter → CallName
waiter_name w = record { conn = w.request.id.conn; number = w.request.id.number }

pub record WaitersOk (r : Run) : Type 0 where
  pub placed : (w : Waiter) → In w r.waiters → IsPlaced w.request
  -- no two have one name, nor has one that of an arrival
  pub once : NamedOnce (map waiter_name r.waiters)
  pub apart : (a : Arrival) (w : Waiter) → In a r.arrivals → In w r.waiters → arrival_name a ≢ waiter_name w
  pub counted : (w : Waiter) → In w r.waiters → (k : Connection) × (connection_of r w.request.id.conn ≡ Some k) × (w.request.id.number < length (messages_on k))
  pub of_line : (a : Arrival) (w : Waiter) → In a r.arrivals → In w r.waiters → a.line ≡ w.line → a.request.id.conn ≡ w.request.id.conn
  pub of_one_line : (v w : Waiter) → In v r.waiters → In w r.waiters → v.line ≡ w.line → v.request.id.conn ≡ w.request.id.conn
  pub by_now : (w : Waiter) → In w r.waiters → w.line ≤ r.lines

-- answers

-- a message answers the call of that name: the call was executed, and its answer was released, by which time all that was executed had been made
pub record IsGiven (log : List (Entry Request)) (released : List Held) (come : List Arrival) (m : Appended) (id : CallId) : Type 0 where
  pub call : Executed Request
  pub call_is : id_of call ≡ id
  pub reply : m.bytes ≡ call.reply
  pub held : Held
  pub held_is : answered_call held ≡ executed_name call
  pub is_released : In held released
  -- the log as the answer was given
  pub log_then : List (Entry Request)
  pub front : IsFrontOf log_then log
  pub has : In call (executed log_then)
  pub arrived : (x : Executed Request) → In x (executed log_then) → (a : Arrival) × In a come × (arrival_name a ≡ executed_name x) × (a.made ≤ m.line)

abbrev pub IsGivenIn : {State : Type 0} → Object Request State → Run → ℕ → Appended → CallId → Type 0
IsGivenIn o r p m id = IsGiven (world_at o r p).recorded.log (world_at o r p).released r.arrivals m id

pub record AnswersOk {State : Type 0} (o : Object Request State) (r : Run) : Type 0 where
  pub given : (m : Appended) (id : CallId) → In m r.appended → m.answers ≡ Some id → (p : ℕ) × IsGivenIn o r p m id
  -- no call is answered twice
  pub once : (id : CallId) → count (is_answer_to id) r.appended ≤ 1

-- refusals

pub record RefusalsOk {State : Type 0} (o : Object Request State) (r : Run) : Type 0 where
  -- a call that was refused arrived
  pub arrived : (m : Appended) (id : CallId) → In m r.appended → m.refuses ≡ Some id → (a : Arrival) × In a r.arrivals × (a.request.id ≡ id)
  -- and is executed nowhere
  pub unexecuted : (m : Appended) (id : CallId) → In m r.appended → m.refuses ≡ Some id → (p : ℕ) (x : Executed Request) → In x (executed (world_at o r p).recorded.log) → executed_name x ≢ id_name id

-- reopenings

pub record ReopeningsOk {State : Type 0} (o : Object Request State) (r : Run) : Type 0 where
  -- the log's calls were logged as they arrived, and its resets at the reopenings
  pub stamped : (p : ℕ) → AreStamped r.arrivals 0 r.lines (reopened_at p r.reopened) (world_at o r p).recorded.log

-- no two connections have one number
abbrev pub AreApart : List Connection → Type 0
AreApart [] = Unit {0}
AreApart (k ∷ ks) = ((j : Connection) → In j ks → j.conn ≢ k.conn) × AreApart ks

pub record RunOk {State : Type 0} (o : Object Request State) (r : Run) : Type 0 where
  pub members : 1 ≤ r.members
  pub connections : AreApart r.connections
  pub of_arrivals : ArrivalsOk r
  pub of_waiters : WaitersOk r
  pub of_answers : AnswersOk o r
  pub of_refusals : RefusalsOk o r
  pub of_reopenings : ReopeningsOk o r

-- the log is as it was then, and more
pub log_since : {log : List (Entry Request)} {released : List Held} {come : List Arrival} (m : Appended) (id : CallId) (g : IsGiven log released come m id)
    → executed log ≡ executed g.log_then ++ executed g.front.0
log_since m id g = ap executed (sym g.front.1) ∙ executed-append g.log_then g.front.0

pub given_executed : {log : List (Entry Request)} {released : List Held} {come : List Arrival} (m : Appended) (id : CallId) (g : IsGiven log released come m id) → In g.call (executed log)
given_executed m id g = subst (λ xs. In g.call xs) (sym (log_since m id g)) (in_left g.call (executed g.log_then) (executed g.front.0) g.has)

-- what follows of a partition

pub names_asked : (xs : List Arrival) → map name (map asked_of xs) ≡ map arrival_name xs
names_asked [] = refl
names_asked (x ∷ xs) = ap (λ ns. arrival_name x ∷ ns) (names_asked xs)

module _ {State : Type 0} (o : Object Request State) (r : Run) (members : 1 ≤ r.members) (ok : ArrivalsOk r) (p : ℕ) where
  pub named : NamedOnce (map name (arrivals (events_at p r.events)))
  named =
      part_once (map name (arrivals (events_at p r.events))) (map arrival_name r.arrivals)
      (part_trans (map name (arrivals (events_at p r.events))) (map arrival_name (filter (is_of p) r.arrivals)) (map arrival_name r.arrivals)
      (subst (λ ns. IsPart (map name (arrivals (events_at p r.events))) ns) (names_asked (filter (is_of p) r.arrivals)) (part_map name (arrivals (events_at p r.events)) (map asked_of (filter (is_of p) r.arrivals)) (ok.calls p)))
      (part_map arrival_name (filter (is_of p) r.arrivals) r.arrivals (part_filter (is_of p) r.arrivals)))
      ok.once

  pub safe : IsSafe o (world_at o r p) × IsFaithful (events_at p r.events) (world_at o r p)
  safe = every_run_is_safe o p r.members r.backups (events_at p r.events) members named

  pub log_once : NamedOnce (map executed_name (executed (world_at o r p).recorded.log))
  log_once = subst NamedOnce (names_executed (world_at o r p).recorded.log) safe.1.once

  pub log_part : IsPart (map asked (executed (world_at o r p).recorded.log)) (map asked_of (filter (is_of p) r.arrivals))
  log_part =
      subst (λ ks. IsPart ks (map asked_of (filter (is_of p) r.arrivals))) (calls_executed (world_at o r p).recorded.log)
      (part_trans (calls_in (world_at o r p).recorded.log) (arrivals (events_at p r.events)) (map asked_of (filter (is_of p) r.arrivals))
      (subsequence_part (calls_in (world_at o r p).recorded.log) (arrivals (events_at p r.events)) safe.1.arrived) (ok.calls p))

  -- a call that was executed arrived
  pub origin : (x : Executed Request) → In x (executed (world_at o r p).recorded.log) → (a : Arrival) × In a r.arrivals × (is_of p a ≡ true) × (asked_of a ≡ asked x)
  origin x i =
      let log = executed (world_at o r p).recorded.log in
      let m = in_mapped asked_of (filter (is_of p) r.arrivals) (asked x) (part_in (map asked log) (map asked_of (filter (is_of p) r.arrivals)) (asked x) log_part (in_map asked log x i)) in
      let f = in_filtered (is_of p) r.arrivals m.0 m.1 in
      (m.0, f.0, f.1, m.2)

  -- and of two, the one that was executed first arrived first
  pub origins : (x y : Executed Request) → Before (executed (world_at o r p).recorded.log) x y → (a : Arrival) × ((b : Arrival) × Before r.arrivals a b × (asked_of a ≡ asked x) × (asked_of b ≡ asked y))
  origins x y h =
      let log = executed (world_at o r p).recorded.log in
      let m = before_mapped asked_of (filter (is_of p) r.arrivals) (asked x) (asked y) (before_part (map asked log) (map asked_of (filter (is_of p) r.arrivals)) (asked x) (asked y) log_part (before_map asked log x y h)) in
      (m.0, (m.1.0, before_part (filter (is_of p) r.arrivals) r.arrivals m.0 m.1.0 (part_filter (is_of p) r.arrivals) m.1.1, m.1.2, m.1.3))

-- two arrivals of one name are one
pub find_named : (xs : List Arrival) (a : Arrival) → NamedOnce (map arrival_name xs) → In a xs → find (λ (b : Arrival). is_same_call b.request.id a.request.id) xs ≡ Some a
find_named [] a n i = absurd i
find_named (b ∷ bs) a n (inl s) = let p : is_same_call b.request.id a.request.id ≡ true = subst (λ (c : Arrival). is_same_call b.request.id c.request.id ≡ true) s (same_call_refl b.request.id) in rw p (ap (λ z. Some z) s)
find_named (b ∷ bs) a n (inr i) =
    let p : is_same_call b.request.id a.request.id ≡ false = false_or_not (is_same_call b.request.id a.request.id)
    (λ e. n.0 (arrival_name a) (contains_in (arrival_name a) (map arrival_name bs) (in_map arrival_name bs a i)) (ap id_name (sym (same_call b.request.id a.request.id e)))) in
    rw p (find_named bs a n.1 i)

pub one_arrival : (r : Run) → ArrivalsOk r → (a b : Arrival) → In a r.arrivals → In b r.arrivals → arrival_name a ≡ arrival_name b → a ≡ b
one_arrival r ok a b i j e = named_same arrival_name r.arrivals a b ok.once i j e

pub arrival_found : (r : Run) → ArrivalsOk r → (a : Arrival) → In a r.arrivals → arrival_of r a.request.id ≡ Some a
arrival_found r ok a i = find_named r.arrivals a ok.once i

pub came_of : (r : Run) → ArrivalsOk r → (a : Arrival) → In a r.arrivals → came_at r a.request.id ≡ Some a.line
came_of r ok a i = ap (λ x. option_or (option_map (λ (b : Arrival). b.line) x) (option_map (λ (w : Waiter). w.line) (find (is_waiter a.request.id) r.waiters))) (arrival_found r ok a i)

-- a call was executed as it arrived, in the partition in which it arrived
module _ {State : Type 0} (o : Object Request State) (r : Run) (members : 1 ≤ r.members) (ok : ArrivalsOk r) (a : Arrival) (p : ℕ) (x : Executed Request) (i : In a r.arrivals)
    (j : In x (executed (world_at o r p).recorded.log)) (e : executed_name x ≡ arrival_name a) where
  pub from : (b : Arrival) × In b r.arrivals × (is_of p b ≡ true) × (asked_of b ≡ asked x)
  from = origin o r members ok p x j

  pub from_arrival : from.0 ≡ a
  from_arrival = one_arrival r ok from.0 a from.1 i (ap name from.3 ∙ e)

  pub partition_of_call : a.request.partition ≡ p
  partition_of_call = ap (λ (b : Arrival). b.request.partition) (sym from_arrival) ∙ same_number from.0.request.partition p from.2

  pub asked_as : asked_of a ≡ asked x
  asked_as = ap asked_of (sym from_arrival) ∙ from.3

-- and in no other
pub one_partition : {State : Type 0} (o : Object Request State) (r : Run) → 1 ≤ r.members → ArrivalsOk r → (p q : ℕ) (x y : Executed Request)
    → In x (executed (world_at o r p).recorded.log) → In y (executed (world_at o r q).recorded.log)
    → executed_name x ≡ executed_name y → p ≡ q
one_partition o r members ok p q x y i j e =
    let here = origin o r members ok p x i in
    sym (same_number here.0.request.partition p here.2) ∙ partition_of_call o r members ok here.0 q y here.1 j (sym e ∙ sym (ap name here.3))
