-- Something else than a call keeps what holds of arrivals, refusals and reopenings: it logs nothing, or the reset of a reopening.
use Rattle.std.proofs.Common.{◌≡◌, ℕ, ◌+◌, Bool, true, false, ◌==◌, List, [], ◌∷◌, ◌++◌, map, filter, Option, Some, None, refl, ap, sym, ◌∙◌, subst, ◌⊎◌, ⊎_elim, inl, inr, arith, append-nil}
use Rattle.std.proofs.lemmas.List.{map-append}
use Rattle.std.proofs.lemmas.List.Elements.{filter-append}
use Rattle.grid_base.specs.Objects.{Object}
use Rattle.grid_base.specs.declared.names.CallId.{CallId}
use Rattle.grid_base.specs.declared.calls.Request.{Request}
use Rattle.partition_protocol.specs.History.{Entry, Executed, Reset}
use Rattle.partition_protocol.specs.Service.{ReopenRefused, reopen_refused, reopening}
use Rattle.partition_protocol.specs.World.{World}
use Rattle.partition_protocol.specs.Events.{Event, Call, Deliver, Lose, Repeat, Resend, Crash, Detect, BeginMove, BeginJoin, BeginHandover, Advance, Reopen, Happened, row_made, with_reset, unless_reopen_refused, happens}
use Rattle.partition_protocol.specs.Arrivals.{asked_by, arrivals}
use Rattle.partition_protocol.proofs.EventCases.{EventCases, every_event}
use Rattle.partition_protocol.proofs.Lists.{In, in_cases, IsPart, cases}
use Rattle.partition_protocol.proofs.RowFacts.{number_same}
use Rattle.replay_run.specs.Runs.{Run, Appended, Reopened, is_at, events_at, world_at, reopening_by, reopened_at, taker_of}
use Rattle.replay_run.proofs.Parts.{in_mapped}
use Rattle.replay_run.proofs.Places.{same_number}
use Rattle.replay_run.proofs.Trails.{executed, executed-append}
use Rattle.replay_run.proofs.Stamps.{AreStamped, stamped_reset}
use Rattle.replay_run.proofs.RunFacts.{asked_of, is_of, ArrivalsOk, RefusalsOk, ReopeningsOk, RunOk}
use Rattle.replay_run.proofs.Arriving.{arrivals_stay, arrivals-append, events_with_one, maybe_one}
use Rattle.replay_run.proofs.Bare.{answer_to, executed_by, is_heard, bare_occurred}
use Rattle.replay_run.proofs.Answering.{its, before, happened, world_with, world_here, world_elsewhere}

-- what an event leaves as it was

abbrev pub is_reopening : Event Request → Bool
is_reopening Reopen = true
is_reopening event = false

-- If it is no call: the log, unless it is a reopening, and the released answers, unless it takes a message.
abbrev Keeps : World Request → Event Request → World Request → Type 0
Keeps w event after = asked_by event ≡ [] → (is_reopening event ≡ false → after.recorded.log ≡ w.recorded.log) × (taker_of event ≡ None → after.released ≡ w.released)

keeps_cases : {State : Type 0} (o : Object Request State) (w : World Request) → EventCases o w (Keeps w)
keeps_cases o w = record {
  stays = λ e q a. (λ b. refl, λ b. refl);
  loses = λ f t i q at a. (λ b. refl, λ b. refl);
  drops = λ f t i q at d a. (λ b. refl, λ b. refl);
  repeats = λ f t i q at a. (λ b. refl, λ b. refl);
  tells_again = λ a. (λ b. refl, λ b. refl);
  sends_again = λ m n at l k a. (λ b. refl, λ b. refl);
  crashes = λ m l a. (λ b. refl, λ b. refl);
  detects = λ m l c d i a. (λ b. refl, λ b. refl);
  notes = λ m l c d i a. (λ b. refl, λ b. refl);
  begins = λ e s t j i q a. (λ b. refl, λ b. refl);
  hands_over = λ f t h a. (λ b. refl, λ b. refl);
  freezes = λ f t m k a. (λ b. refl, λ b. refl);
  leaves = λ f t m k a. (λ b. refl, λ b. refl);
  hands = λ f t m a. (λ b. refl, λ b. refl);
  reopens = λ k a. (λ b. absurd cc, λ b. refl);
  joins = λ f t i q v m at k e a. (λ b. refl, λ b. absurd cc);
  drains = λ f t i q v at k e a. (λ b. refl, λ b. absurd cc);
  delivers = λ f t i q n at there l a. (λ b. refl, λ b. absurd cc);
  calls = λ m c n k now node at l lost p f a. absurd cc;
}

keeps : {State : Type 0} (o : Object Request State) (w : World Request) (event : Event Request) → Keeps w event (happens o w event).world
keeps o w event = every_event o w (Keeps w) (keeps_cases o w) event

keeps_log : {State : Type 0} (o : Object Request State) (w : World Request) (event : Event Request) → asked_by event ≡ [] → is_reopening event ≡ false → (happens o w event).world.recorded.log ≡ w.recorded.log
keeps_log o w event quiet = (keeps o w event quiet).0

pub keeps_released : {State : Type 0} (o : Object Request State) (w : World Request) (event : Event Request) → asked_by event ≡ [] → taker_of event ≡ None → (happens o w event).world.released ≡ w.released
keeps_released o w event quiet = (keeps o w event quiet).1

-- the log

-- the reset of a reopening at a line
pub record IsReset (p line : ℕ) (event : Event Request) (log : List (Entry Request)) (h : Happened Request) : Type 0 where
  pub version : ℕ
  pub is_last : h.world.recorded.log ≡ log ++ Reset version ∷ []
  pub reopens : reopening_by p line event h.outcome ≡ record { partition = p; line = line } ∷ []

-- The log stays, or has one reset more.
abbrev pub Logs : ℕ → ℕ → Event Request → List (Entry Request) → Happened Request → Type 0
Logs p line event log h = ((h.world.recorded.log ≡ log) × (reopening_by p line event h.outcome ≡ [])) ⊎ IsReset p line event log h

pub event_log : {State : Type 0} (o : Object Request State) (w : World Request) (p line : ℕ) (event : Event Request) → asked_by event ≡ [] → Logs p line event w.recorded.log (happens o w event)
event_log o w p line (Call m conn number call now) quiet = absurd cc
event_log o w p line (Deliver f t i) quiet = inl (keeps_log o w (Deliver f t i) refl refl, refl)
event_log o w p line (Lose f t i) quiet = inl (keeps_log o w (Lose f t i) refl refl, refl)
event_log o w p line (Repeat f t i) quiet = inl (keeps_log o w (Repeat f t i) refl refl, refl)
event_log o w p line (Resend end) quiet = inl (keeps_log o w (Resend end) refl refl, refl)
event_log o w p line (Crash m) quiet = inl (keeps_log o w (Crash m) refl refl, refl)
event_log o w p line (Detect m) quiet = inl (keeps_log o w (Detect m) refl refl, refl)
event_log o w p line (BeginMove from to) quiet = inl (keeps_log o w (BeginMove from to) refl refl, refl)
event_log o w p line (BeginJoin to) quiet = inl (keeps_log o w (BeginJoin to) refl refl, refl)
event_log o w p line (BeginHandover from to) quiet = inl (keeps_log o w (BeginHandover from to) refl refl, refl)
event_log o w p line Advance quiet = inl (keeps_log o w Advance refl refl, refl)
event_log o w p line Reopen quiet = go (reopen_refused w.partition w.members w.service)
  where
    made : Happened Request
    made = row_made (with_reset w (w.service.row.version + 1)) (reopening w.partition w.members w.backups w.service)

    go : (refused : Option ReopenRefused) → Logs p line Reopen w.recorded.log (unless_reopen_refused w refused made)
    go None = inr (record { version = w.service.row.version + 1; is_last = refl; reopens = refl })
    go (Some why) = inl (refl, refl)

-- reopenings of a partition

pub reopened_at-append : (p : ℕ) (xs ys : List Reopened) → reopened_at p (xs ++ ys) ≡ reopened_at p xs ++ reopened_at p ys
reopened_at-append p xs ys =
    let on : Reopened → Bool = λ (x : Reopened). x.partition == p in
    ap (map (λ (x : Reopened). x.line)) (filter-append on xs ys) ∙ map-append (λ (x : Reopened). x.line) (filter on xs) (filter on ys)

asked_by_maybe : (b : Bool) (event : Event Request) → asked_by event ≡ [] → arrivals (maybe_one b event) ≡ []
asked_by_maybe true event quiet = ap (λ ks. ks ++ []) quiet
asked_by_maybe false event quiet = refl

module _ {State : Type 0} (o : Object Request State) (r : Run) (ok : RunOk o r) (p : ℕ) (event : Event Request) where
  abbrev h : Happened Request
  h = happened o r p event

  abbrev new : List Reopened
  new = reopening_by p r.lines event h.outcome

  module _ (quiet : asked_by event ≡ []) where
    logs : Logs p r.lines event (world_at o r p).recorded.log h
    logs = event_log o (before o r p event) p r.lines event quiet

    -- arrivals

    same_calls : (q : ℕ) → arrivals (events_at q (r.events ++ its o r p event ∷ [])) ≡ arrivals (events_at q r.events)
    same_calls q =
        ap arrivals (events_with_one q r.events (its o r p event)) ∙ arrivals-append (events_at q r.events) (maybe_one (is_at q (its o r p event)) event)
        ∙ ap (λ ks. arrivals (events_at q r.events) ++ ks) (asked_by_maybe (is_at q (its o r p event)) event quiet) ∙ append-nil (arrivals (events_at q r.events))

    pub occurred_arrivals : ArrivalsOk (bare_occurred o r p event)
    occurred_arrivals =
        let next = bare_occurred o r p event in
        arrivals_stay r next.events next.appended next.reopened next.full ok.of_arrivals (λ q. subst (λ ks. IsPart ks (map asked_of (filter (is_of q) r.arrivals))) (sym (same_calls q)) (ok.of_arrivals.calls q))

    -- refusals

    executed_here : executed h.world.recorded.log ≡ executed (world_at o r p).recorded.log
    executed_here = ⊎_elim (λ k. ap executed k.0) reset logs
      where
        reset : IsReset p r.lines event (world_at o r p).recorded.log h → executed h.world.recorded.log ≡ executed (world_at o r p).recorded.log
        reset k = ap executed k.is_last ∙ executed-append (world_at o r p).recorded.log (Reset k.version ∷ []) ∙ append-nil (executed (world_at o r p).recorded.log)

    same_executed : (q : ℕ) → executed (world_with o r p event q).recorded.log ≡ executed (world_at o r q).recorded.log
    same_executed q = ⊎_elim here (λ e. ap (λ (w : World Request). executed w.recorded.log) (world_elsewhere o r p event q e)) (cases (is_at q (its o r p event)))
      where
        here : is_at q (its o r p event) ≡ true → executed (world_with o r p event q).recorded.log ≡ executed (world_at o r q).recorded.log
        here e =
            subst (λ v. executed (world_with o r p event v).recorded.log ≡ executed (world_at o r v).recorded.log) (same_number p q e)
            (ap (λ (w : World Request). executed w.recorded.log) (world_here o r p event) ∙ executed_here)

    pub occurred_refusals : RefusalsOk o (bare_occurred o r p event)
    occurred_refusals = record {
      arrived = λ m id i e. ⊎_elim (λ j. ok.of_refusals.arrived m id j e) (λ j. absurd (refuses_none m id j e)) (in_cases m r.appended given i);
      unexecuted = λ m id i e q x j. ⊎_elim (λ k. ok.of_refusals.unexecuted m id k e q x (subst (λ xs. In x xs) (same_executed q) j)) (λ k. absurd (refuses_none m id k e)) (in_cases m r.appended given i);
    }
      where
        heard : List (Executed Request)
        heard = filter (is_heard r) (executed_by (before o r p event) h.world)

        given : List Appended
        given = map (answer_to r.lines) heard

        refuses_none : (m : Appended) (id : CallId) → In m given → m.refuses ≡ Some id → ⊥
        refuses_none m id i e = let made = in_mapped (answer_to r.lines) heard m i in let clash : None ≡ Some id = ap (λ (n : Appended). n.refuses) made.2 ∙ e in cc

    -- reopenings

    abbrev IsStampedIn : ℕ → List Reopened → List (Entry Request) → Type 0
    IsStampedIn q xs es = AreStamped r.arrivals 0 r.lines (reopened_at q xs) es

    stamped_here : IsStampedIn p (r.reopened ++ new) h.world.recorded.log
    stamped_here = ⊎_elim stays reset logs
      where
        stays : (h.world.recorded.log ≡ (world_at o r p).recorded.log) × (new ≡ []) → IsStampedIn p (r.reopened ++ new) h.world.recorded.log
        stays k =
            subst (λ es. IsStampedIn p (r.reopened ++ new) es) (sym k.0)
            (subst (λ xs. IsStampedIn p xs (world_at o r p).recorded.log) (sym (ap (λ xs. r.reopened ++ xs) k.1 ∙ append-nil r.reopened)) (ok.of_reopenings.stamped p))

        one : Reopened
        one = record { partition = p; line = r.lines }

        reset : IsReset p r.lines event (world_at o r p).recorded.log h → IsStampedIn p (r.reopened ++ new) h.world.recorded.log
        reset k =
            let own : reopened_at p (one ∷ []) ≡ r.lines ∷ [] = rw (number_same p p refl) refl in
            let lines : reopened_at p (r.reopened ++ new) ≡ reopened_at p r.reopened ++ r.lines ∷ [] =
            ap (λ xs. reopened_at p (r.reopened ++ xs)) k.reopens ∙ reopened_at-append p r.reopened (one ∷ []) ∙ ap (λ ls. reopened_at p r.reopened ++ ls) own in
            subst (λ es. IsStampedIn p (r.reopened ++ new) es) (sym k.is_last)
            (subst (λ ls. AreStamped r.arrivals 0 r.lines ls ((world_at o r p).recorded.log ++ Reset k.version ∷ [])) (sym lines)
            (stamped_reset r.arrivals 0 r.lines r.lines (reopened_at p r.reopened) (world_at o r p).recorded.log k.version (omega arith) (ok.of_reopenings.stamped p)))

    -- no other partition was reopened
    reopened_elsewhere : (q : ℕ) → is_at q (its o r p event) ≡ false → reopened_at q (r.reopened ++ new) ≡ reopened_at q r.reopened
    reopened_elsewhere q e = reopened_at-append q r.reopened new ∙ ap (λ ls. reopened_at q r.reopened ++ ls) (⊎_elim (λ k. ap (reopened_at q) k.1) away logs) ∙ append-nil (reopened_at q r.reopened)
      where
        one : Reopened
        one = record { partition = p; line = r.lines }

        away : IsReset p r.lines event (world_at o r p).recorded.log h → reopened_at q new ≡ []
        away k = let none : reopened_at q (one ∷ []) ≡ [] = rw e refl in ap (reopened_at q) k.reopens ∙ none

    stamped_after : (q : ℕ) → IsStampedIn q (r.reopened ++ new) (world_with o r p event q).recorded.log
    stamped_after q = ⊎_elim here there (cases (is_at q (its o r p event)))
      where
        here : is_at q (its o r p event) ≡ true → IsStampedIn q (r.reopened ++ new) (world_with o r p event q).recorded.log
        here e =
            subst (λ v. IsStampedIn v (r.reopened ++ new) (world_with o r p event v).recorded.log) (same_number p q e)
            (subst (λ (w : World Request). IsStampedIn p (r.reopened ++ new) w.recorded.log) (sym (world_here o r p event)) stamped_here)

        there : is_at q (its o r p event) ≡ false → IsStampedIn q (r.reopened ++ new) (world_with o r p event q).recorded.log
        there e =
            subst (λ (w : World Request). IsStampedIn q (r.reopened ++ new) w.recorded.log) (sym (world_elsewhere o r p event q e))
            (subst (λ ls. AreStamped r.arrivals 0 r.lines ls (world_at o r q).recorded.log) (sym (reopened_elsewhere q e)) (ok.of_reopenings.stamped q))

    pub occurred_reopenings : ReopeningsOk o (bare_occurred o r p event)
    occurred_reopenings = record { stamped = stamped_after }
