-- The answer of a printed entry: it is the one that was given, and a call that was answered stands in its partition's history.
use Rattle.std.proofs.Common.{◌≡◌, ℕ, ◌≤◌, true, map, Option, Some, None, refl, ap, sym, ◌∙◌, subst, ⊎_elim}
use Rattle.std.specs.Option.{option_map}
use Rattle.grid_base.specs.Objects.{Object}
use Rattle.grid_base.specs.declared.names.CallId.{CallId}
use Rattle.grid_base.specs.declared.calls.Request.{Request}
use Rattle.partition_protocol.specs.History.{Executed, Called}
use Rattle.partition_protocol.specs.World.{trail}
use Rattle.partition_protocol.specs.Arrivals.{CallName, NamedOnce, name}
use Rattle.partition_protocol.proofs.Lists.{In, in_contains, contains_in, IsPart}
use Rattle.partition_protocol.proofs.Faithful.{part_in}
use Rattle.partition_world.specs.Answers.{id_of}
use Rattle.replay_run.specs.Runs.{Run, Arrival, Appended, world_at}
use Rattle.replay_run.specs.Printing.{is_named, is_answer_to, answer_of}
use Rattle.replay_run.specs.Linearizability.{Before}
use Rattle.replay_run.proofs.Parts.{subsequence_part, named_same, named_append, before_append}
use Rattle.replay_run.proofs.Counting.{find_only}
use Rattle.replay_run.proofs.Places.{same_call, same_call_refl, same_number}
use Rattle.replay_run.proofs.Trails.{executed, executed_name, in_executed, part_executed, find_some}
use Rattle.replay_run.proofs.RunFacts.{id_name, RunOk, IsGivenIn, log_since, given_executed, arrival_name, safe, log_once, origin, partition_of_call}

abbrev pub id_of_name : CallName → CallId
id_of_name n = record { conn = n.conn; number = n.number }

pub named_answer : (id : CallId) (m : Appended) → is_answer_to id m ≡ true → m.answers ≡ Some id
named_answer id m e = go m.answers e
  where
    go : (o : Option CallId) → is_named id o ≡ true → o ≡ Some id
    go None s = absurd cc
    go (Some other) s = ap (λ c. Some c) (same_call other id s)

pub answer_named : (id : CallId) (m : Appended) → m.answers ≡ Some id → is_answer_to id m ≡ true
answer_named id m e = subst (λ o. is_named id o ≡ true) (sym e) (same_call_refl id)

module _ {State : Type 0} (o : Object Request State) (r : Run) (ok : RunOk o r) where
  pub trail_part : (p : ℕ) → IsPart (executed (trail (world_at o r p))) (executed (world_at o r p).recorded.log)
  trail_part p =
      part_executed (trail (world_at o r p)) (world_at o r p).recorded.log
      (subsequence_part (trail (world_at o r p)) (world_at o r p).recorded.log (safe o r ok.members ok.of_arrivals p).0.in_order)

  -- two executed calls of one name are one
  pub one_call : (p : ℕ) (x y : Executed Request) → In x (executed (world_at o r p).recorded.log) → In y (executed (world_at o r p).recorded.log) → executed_name x ≡ executed_name y → x ≡ y
  one_call p x y i j e = named_same executed_name (executed (world_at o r p).recorded.log) x y (log_once o r ok.members ok.of_arrivals p) i j e

  -- an answer is given in the partition in which its call arrived
  pub given_at : (a : Arrival) (m : Appended) → In a r.arrivals → In m r.appended → m.answers ≡ Some a.request.id → IsGivenIn o r a.request.partition m a.request.id
  given_at a m i j e =
      let q = ok.of_answers.given m a.request.id j e in
      let there = partition_of_call o r ok.members ok.of_arrivals a q.0 q.1.call i (given_executed m a.request.id q.1) (ap id_name q.1.call_is) in
      subst (λ k. IsGivenIn o r k m a.request.id) (sym there) q.1

  -- the answer that is printed with a call
  pub record PrintedAnswer (p : ℕ) (x : Executed Request) (line : ℕ) : Type 0 where
    pub message : Appended
    pub there : In message r.appended
    pub answers : message.answers ≡ Some (id_of x)
    pub at_line : message.line ≡ line
    pub given : IsGivenIn o r p message (id_of x)
    pub is : given.call ≡ x

  pub printed_answer : (p : ℕ) (x : Executed Request) (line : ℕ) → In x (executed (world_at o r p).recorded.log)
      → option_map (λ (m : Appended). m.line) (answer_of r (id_of x)) ≡ Some line → PrintedAnswer p x line
  printed_answer p x line i e = go (answer_of r (id_of x)) (λ m s. find_some (is_answer_to (id_of x)) r.appended m s) e
    where
      message : (m : Appended) → In m r.appended → m.answers ≡ Some (id_of x) → m.line ≡ line → PrintedAnswer p x line
      message m j s l =
          let from = origin o r ok.members ok.of_arrivals p x i in
          let named : from.0.request.id ≡ id_of x = ap id_of_name (ap name from.3) in
          let there : from.0.request.partition ≡ p = same_number from.0.request.partition p from.2 in
          let at_arrival = given_at from.0 m from.1 j (s ∙ ap (λ c. Some c) (sym named)) in
          let g : IsGivenIn o r p m (id_of x) = subst (λ c. IsGivenIn o r p m c) named (subst (λ k. IsGivenIn o r k m from.0.request.id) there at_arrival) in
          record { message = m; there = j; answers = s; at_line = l; given = g; is = one_call p g.call x (given_executed m (id_of x) g) i (ap id_name g.call_is) }

      go : (found : Option Appended) → ((m : Appended) → found ≡ Some m → In m r.appended × (is_answer_to (id_of x) m ≡ true))
          → option_map (λ (m : Appended). m.line) found ≡ Some line → PrintedAnswer p x line
      go None f s = absurd cc
      go (Some m) f s = let k = f m refl in let l : m.line ≡ line = cc in message m k.0 (named_answer (id_of x) m k.1) l

  -- a call that was answered stands in the trail
  pub answer_stands : (p : ℕ) (m : Appended) (id : CallId) (g : IsGivenIn o r p m id) → In g.call (executed (trail (world_at o r p)))
  answer_stands p m id g =
      let s = (safe o r ok.members ok.of_arrivals p).0.answered g.held (contains_in g.held (world_at o r p).released g.is_released) in
      let i = in_executed (trail (world_at o r p)) s.0 (in_contains (Called s.0) (trail (world_at o r p)) s.1) in
      let named : executed_name s.0 ≡ executed_name g.call = ap (λ n. record { conn = n; number = s.0.number }) s.2 ∙ ap (λ n. record { conn = g.held.conn; number = n }) s.3 ∙ g.held_is in
      let same = one_call p s.0 g.call (part_in (executed (trail (world_at o r p))) (executed (world_at o r p).recorded.log) s.0 (trail_part p) i) (given_executed m id g) named in
      subst (λ x. In x (executed (trail (world_at o r p)))) same i

  pub answer_found : (m : Appended) (id : CallId) → In m r.appended → m.answers ≡ Some id → answer_of r id ≡ Some m
  answer_found m id i e = find_only (is_answer_to id) r.appended m (ok.of_answers.once id) i (answer_named id m e)

  -- what was executed before a call that was answered had been made by then
  pub arrived_before : (p : ℕ) (x y : Executed Request) (m : Appended) (id : CallId) (g : IsGivenIn o r p m id) → g.call ≡ y
      → Before (executed (world_at o r p).recorded.log) x y → (a : Arrival) × In a r.arrivals × (arrival_name a ≡ executed_name x) × (a.made ≤ m.line)
  arrived_before p x y m id g same h =
      let log = log_since m id g in
      ⊎_elim (λ i. g.arrived x i)
      (λ j. absurd (named_append executed_name (executed g.log_then) (executed g.front.0) g.call y
      (subst (λ xs. NamedOnce (map executed_name xs)) log (log_once o r ok.members ok.of_arrivals p)) g.has j (ap executed_name same)))
      (before_append (executed g.log_then) (executed g.front.0) x y (subst (λ xs. Before xs x y) log h))
