-- What the steps of a plan do to a run: they are lists of events, few for each partition.
use Rattle.std.proofs.Common.{◌≡◌, ◌≢◌, ℕ, zero, suc, ◌+◌, ◌*◌, ◌≤◌, ◌<◌, true, List, [], ◌∷◌, length, Option, Some, None, refl, ap, ◌∙◌, ⊎_elim, arith}
use Rattle.grid_base.specs.Objects.{Object}
use Rattle.grid_base.specs.declared.calls.Request.{Request}
use Rattle.grid_base.specs.declared.names.CallId.{CallId}
use Rattle.object_store.specs.Partitions.{Partition}
use Rattle.partition_table.specs.Rows.{first_of}
use Rattle.partition_protocol.specs.Arrivals.{asked_by}
use Rattle.partition_protocol.specs.Events.{Event, Outcome, Resend, BeginJoin, Advance}
use Rattle.partition_world.specs.declared.Link.{Link}
use Rattle.partition_protocol.proofs.Lists.{on_if}
use Rattle.partition_protocol.proofs.RowFacts.{number_cases}
use Rattle.rebalance.specs.declared.Step.{Step}
use Rattle.rebalance.specs.declared.StepKind.{StepKind}
use Rattle.rebalance.specs.declared.StepKind.TheVariants.{Move, Handover}
use Rattle.replay_run.specs.Runs.{Run, events_at, takes, flowed, delivery_on, reopening_by}
use Rattle.replay_run.specs.Rebalancing.{service_at, is_moving_at, most_deliveries, most_turns, most_line_events, event_begun, first_resends, turned, turned_on, joined, rejoined, stepped, stepped_all, steps_in, rebalanced}
use Rattle.replay_run.specs.ScriptRuns.{IsRun}
use Rattle.replay_run.proofs.EventRuns.{HasEvents, Adds, NoFewer, Kept, kept_refl, kept_trans, flowed_keeps, takes_kept, takes_run, takes_full, takes_few, takes_come, takes_elsewhere, flowed_few}

-- an event of a step, which is neither a call nor a reopening
pub record IsOfStep (event : Event Request) : Type 0 where
  pub asks : asked_by event ≡ []
  pub reopens : (p line : ℕ) (outcome : Outcome) → reopening_by p line event outcome ≡ []

pub begun_unasked : (kind : StepKind) (from to : ℕ) → asked_by (event_begun kind from to) ≡ []
begun_unasked Move from to = refl
begun_unasked Handover from to = refl

begun_of_step : (kind : StepKind) (from to : ℕ) → IsOfStep (event_begun kind from to)
begun_of_step Move from to = record { asks = refl; reopens = λ p line outcome. refl }
begun_of_step Handover from to = record { asks = refl; reopens = λ p line outcome. refl }

delivered : (l : Link) → IsOfStep (delivery_on l)
delivered l = record { asks = refl; reopens = λ p line outcome. refl }

sent_again : (end : ℕ) → IsOfStep (Resend end)
sent_again end = record { asks = refl; reopens = λ p line outcome. refl }

gone_on : IsOfStep Advance
gone_on = record { asks = refl; reopens = λ p line outcome. refl }

join_begun : (member : ℕ) → IsOfStep (BeginJoin member)
join_begun member = record { asks = refl; reopens = λ p line outcome. refl }

-- What holds after each such event of a partition holds after a step of it.
module _ (o : Object Request Partition) (skips : List CallId) (P : Run → Type 0) (p : ℕ) (each : (r : Run) (event : Event Request) → IsOfStep event → P r → P (takes o skips r p event)) where
  flow_keeps : (r : Run) (most : ℕ) → P r → P (flowed o skips r p most)
  flow_keeps r most h = flowed_keeps o skips P p (λ x l k. each x (delivery_on l) (delivered l) k) r most h

  pub first_keeps : (r : Run) → P r → P (first_resends o skips r p)
  first_keeps r h = go (first_of (service_at o r p).row.members)
    where
      go : (first : Option ℕ) → P (elim first [ None ↦ r | Some first ↦ takes o skips r p (Resend first) ])
      go None = h
      go (Some first) = each r (Resend first) (sent_again first) h

  pub turn_keeps : (r : Run) → P r → P (turned o skips r p)
  turn_keeps r h =
      let told = takes o skips r p (Resend r.members) in
      let again = first_resends o skips told p in
      each (flowed o skips again p most_deliveries) Advance gone_on (flow_keeps again most_deliveries (first_keeps told (each r (Resend r.members) (sent_again r.members) h)))

  pub turns_keep : (r : Run) (turns : ℕ) → P r → P (turned_on o skips r p turns)
  turns_keep r zero h = h
  turns_keep r (suc turns) h = on_if P (is_moving_at o r p) (turned_on o skips (turned o skips r p) p turns) r (turns_keep (turned o skips r p) turns (turn_keeps r h)) h

  pub join_keeps : (r : Run) (member : ℕ) → P r → P (joined o skips r p member)
  join_keeps r member h = flow_keeps (takes o skips r p (BeginJoin member)) most_deliveries (each r (BeginJoin member) (join_begun member) h)

  pub rejoin_keeps : (r : Run) (from : ℕ) (kind : StepKind) → P r → P (rejoined o skips r p from kind)
  rejoin_keeps r from Move h = h
  rejoin_keeps r from Handover h = on_if P (is_moving_at o r p) r (joined o skips r p from) h (join_keeps r from h)

module _ (o : Object Request Partition) (skips : List CallId) (P : Run → Type 0) where
  pub step_keeps : (step : Step) → ((r : Run) (event : Event Request) → IsOfStep event → P r → P (takes o skips r step.partition event)) → (r : Run) → P r → P (stepped o skips r step)
  step_keeps step each r h =
      let p = step.partition in
      let begun = takes o skips r p (event_begun step.kind step.from step.to) in
      rejoin_keeps o skips P p each (turned_on o skips begun p most_turns) step.from step.kind
      (turns_keep o skips P p each begun most_turns (each r (event_begun step.kind step.from step.to) (begun_of_step step.kind step.from step.to) h))

  module _ (each : (r : Run) (p : ℕ) (event : Event Request) → IsOfStep event → P r → P (takes o skips r p event)) where
    pub steps_keep : (steps : List Step) (r : Run) → P r → P (stepped_all o skips r steps)
    steps_keep [] r h = h
    steps_keep (step ∷ steps) r h = steps_keep steps (stepped o skips r step) (step_keeps step (λ x event of_step k. each x step.partition event of_step k) r h)

    pub rebalance_keeps : (r : Run) (most : ℕ) → P r → P (rebalanced o skips r most)
    rebalance_keeps r most h = steps_keep (steps_in o r most) r h

module _ (o : Object Request Partition) (skips : List CallId) where
  pub turned_kept : (r : Run) (p : ℕ) → Kept r (turned o skips r p)
  turned_kept r p = turn_keeps o skips (Kept r) p (λ x event of_step h. kept_trans h (takes_kept o skips x p event)) r (kept_refl r)

  pub first_kept : (r : Run) (p : ℕ) → Kept r (first_resends o skips r p)
  first_kept r p = first_keeps o skips (Kept r) p (λ x event of_step h. kept_trans h (takes_kept o skips x p event)) r (kept_refl r)

  pub turned_on_kept : (r : Run) (p turns : ℕ) → Kept r (turned_on o skips r p turns)
  turned_on_kept r p turns = turns_keep o skips (Kept r) p (λ x event of_step h. kept_trans h (takes_kept o skips x p event)) r turns (kept_refl r)

  pub stepped_kept : (r : Run) (step : Step) → Kept r (stepped o skips r step)
  stepped_kept r step = step_keeps o skips (Kept r) step (λ x event of_step h. kept_trans h (takes_kept o skips x step.partition event)) r (kept_refl r)

  pub rebalanced_kept : (r : Run) (most : ℕ) → Kept r (rebalanced o skips r most)
  rebalanced_kept r most = rebalance_keeps o skips (Kept r) (λ x p event of_step h. kept_trans h (takes_kept o skips x p event)) r most (kept_refl r)

  abbrev IsGivenUp : Run → Type 0
  IsGivenUp r = r.full ≡ true

  pub first_full : (r : Run) (p : ℕ) → r.full ≡ true → (first_resends o skips r p).full ≡ true
  first_full r p full = first_keeps o skips IsGivenUp p (λ x event of_step h. takes_full o skips x p event h) r full

  pub turned_full : (r : Run) (p : ℕ) → r.full ≡ true → (turned o skips r p).full ≡ true
  turned_full r p full = turn_keeps o skips IsGivenUp p (λ x event of_step h. takes_full o skips x p event h) r full

  pub turned_on_full : (r : Run) (p turns : ℕ) → r.full ≡ true → (turned_on o skips r p turns).full ≡ true
  turned_on_full r p turns full = turns_keep o skips IsGivenUp p (λ x event of_step h. takes_full o skips x p event h) r turns full

  pub rejoined_full : (r : Run) (p from : ℕ) (kind : StepKind) → r.full ≡ true → (rejoined o skips r p from kind).full ≡ true
  rejoined_full r p from kind full = rejoin_keeps o skips IsGivenUp p (λ x event of_step h. takes_full o skips x p event h) r from kind full

  pub stepped_all_full : (r : Run) (steps : List Step) → r.full ≡ true → (stepped_all o skips r steps).full ≡ true
  stepped_all_full r steps full = steps_keep o skips IsGivenUp (λ x p event of_step h. takes_full o skips x p event h) steps r full

module _ {o : Object Request Partition} (skips : List CallId) where
  pub first_run : (r : Run) (p : ℕ) → IsRun o r → IsRun o (first_resends o skips r p)
  first_run r p is = first_keeps o skips (IsRun o) p (λ x event of_step h. takes_run skips x p event h of_step.asks) r is

  pub turned_run : (r : Run) (p : ℕ) → IsRun o r → IsRun o (turned o skips r p)
  turned_run r p is = turn_keeps o skips (IsRun o) p (λ x event of_step h. takes_run skips x p event h of_step.asks) r is

  pub turned_on_run : (r : Run) (p turns : ℕ) → IsRun o r → IsRun o (turned_on o skips r p turns)
  turned_on_run r p turns is = turns_keep o skips (IsRun o) p (λ x event of_step h. takes_run skips x p event h of_step.asks) r turns is

  pub rejoined_run : (r : Run) (p from : ℕ) (kind : StepKind) → IsRun o r → IsRun o (rejoined o skips r p from kind)
  rejoined_run r p from kind is = rejoin_keeps o skips (IsRun o) p (λ x event of_step h. takes_run skips x p event h of_step.asks) r from kind is

  pub stepped_run : (r : Run) (step : Step) → IsRun o r → IsRun o (stepped o skips r step)
  stepped_run r step is = step_keeps o skips (IsRun o) step (λ x event of_step h. takes_run skips x step.partition event h of_step.asks) r is

  pub steps_run : (r : Run) (steps : List Step) → IsRun o r → IsRun o (stepped_all o skips r steps)
  steps_run r steps is = steps_keep o skips (IsRun o) (λ x p event of_step h. takes_run skips x p event h of_step.asks) steps r is

pub rebalanced_run : {o : Object Request Partition} (skips : List CallId) (r : Run) (most : ℕ) → IsRun o r → IsRun o (rebalanced o skips r most)
rebalanced_run {o} skips r most is = rebalance_keeps o skips (IsRun o) (λ x p event of_step h. takes_run skips x p event h of_step.asks) r most is

-- the events of a partition

-- one part's, and another's
adds_then : (q a b c : ℕ) (r mid next : Run) → a + b ≡ c → Adds q a r mid → Adds q b mid next → Adds q c r next
adds_then q a b c r mid next sum first then = omega (arith, sum, first, then)

module _ (o : Object Request Partition) (skips : List CallId) where
  pub stepped_elsewhere : (r : Run) (step : Step) (q : ℕ) → q ≢ step.partition → events_at q (stepped o skips r step).events ≡ events_at q r.events
  stepped_elsewhere r step q other = step_keeps o skips (HasEvents q (events_at q r.events)) step (λ x event of_step h. takes_elsewhere o skips x step.partition event q other ∙ h) r refl

  module _ (p q : ℕ) where
    pub first_few : (r : Run) → Adds q 1 r (first_resends o skips r p)
    first_few r = go (first_of (service_at o r p).row.members)
      where
        go : (first : Option ℕ) → Adds q 1 r (elim first [ None ↦ r | Some first ↦ takes o skips r p (Resend first) ])
        go None = omega arith
        go (Some first) = takes_few o skips r p (Resend first) q

    pub turned_few : (r : Run) → Adds q 1003 r (turned o skips r p)
    turned_few r =
        let told = takes o skips r p (Resend r.members) in
        let again = first_resends o skips told p in
        let one = takes_few o skips r p (Resend r.members) q in
        let two = first_few told in
        let more = flowed_few o skips again p most_deliveries q in
        let last = takes_few o skips (flowed o skips again p most_deliveries) p Advance q in
        omega (arith, one, two, more, last)

    pub turned_on_few : (r : Run) (turns : ℕ) → Adds q (1003 * turns) r (turned_on o skips r p turns)
    turned_on_few r zero = omega arith
    turned_on_few r (suc turns) = on_if (Adds q (1003 * suc turns) r) (is_moving_at o r p) (turned_on o skips (turned o skips r p) p turns) r
        (let one = turned_few r in let rest = turned_on_few (turned o skips r p) turns in omega (arith, one, rest)) (omega arith)

    pub joined_few : (r : Run) (member : ℕ) → Adds q 1001 r (joined o skips r p member)
    joined_few r member =
        let one = takes_few o skips r p (BeginJoin member) q in
        let more = flowed_few o skips (takes o skips r p (BeginJoin member)) p most_deliveries q in
        adds_then q 1 most_deliveries 1001 r (takes o skips r p (BeginJoin member)) (joined o skips r p member) (omega arith) one more

    pub rejoined_few : (r : Run) (from : ℕ) (kind : StepKind) → Adds q 1001 r (rejoined o skips r p from kind)
    rejoined_few r from Move = omega arith
    rejoined_few r from Handover = on_if (Adds q 1001 r) (is_moving_at o r p) r (joined o skips r p from) (omega arith) (joined_few r from)

  pub stepped_few : (r : Run) (step : Step) (q : ℕ) → Adds q most_line_events r (stepped o skips r step)
  stepped_few r step q =
      let p = step.partition in
      let event = event_begun step.kind step.from step.to in
      let begun = takes o skips r p event in
      let one = takes_few o skips r p event q in
      let turns = turned_on_few p q begun most_turns in
      let last = rejoined_few p q (turned_on o skips begun p most_turns) step.from step.kind in
      adds_then q 1 5013 most_line_events r begun (stepped o skips r step) (omega arith) one
      (adds_then q 4012 1001 5013 begun (turned_on o skips begun p most_turns) (stepped o skips r step) (omega arith) turns last)

  -- no arrival is one less
  pub stepped_come : (r : Run) (step : Step) → NoFewer r (stepped o skips r step)
  stepped_come r step = step_keeps o skips (NoFewer r) step (λ x event of_step h. takes_come o skips r x step.partition event h) r (omega arith)

-- Steps of rising partitions, from one on and below another.
abbrev pub AreRising : ℕ → ℕ → List Step → Type 0
AreRising end next [] = Unit {0}
AreRising end next (step ∷ steps) = (next ≤ step.partition) × (step.partition < end) × AreRising end (step.partition + 1) steps

module _ (o : Object Request Partition) (skips : List CallId) (end : ℕ) where
  pub steps_elsewhere : (r : Run) (next : ℕ) (steps : List Step) (q : ℕ) → AreRising end next steps → q < next → events_at q (stepped_all o skips r steps).events ≡ events_at q r.events
  steps_elsewhere r next [] q rising low = refl
  steps_elsewhere r next (step ∷ steps) q rising low =
      let first = rising.0 in
      steps_elsewhere (stepped o skips r step) (step.partition + 1) steps q rising.2 (omega (arith, first, low))
      ∙ stepped_elsewhere o skips r step q (λ e. (omega (arith, e, first, low)))

  pub steps_come : (r : Run) (steps : List Step) → NoFewer r (stepped_all o skips r steps)
  steps_come r steps = steps_keep o skips (NoFewer r) (λ x p event of_step h. takes_come o skips r x p event h) steps r (omega arith)

  pub steps_few : (r : Run) (next : ℕ) (steps : List Step) (q : ℕ) → AreRising end next steps → Adds q most_line_events r (stepped_all o skips r steps)
  steps_few r next [] q rising = omega arith
  steps_few r next (step ∷ steps) q rising =
      let then = stepped o skips r step in
      let more = steps_few then (step.partition + 1) steps q rising.2 in
      let come = steps_come then steps in
      let first_come = stepped_come o skips r step in
      ⊎_elim
      (λ e. let past = ap length (steps_elsewhere then (step.partition + 1) steps q rising.2 (omega (arith, e))) in let one = stepped_few o skips r step q in omega (arith, past, one, come))
      (λ other. let same = ap length (stepped_elsewhere o skips r step q other) in omega (arith, same, more, first_come))
      (number_cases q step.partition)
