-- A call is logged at the line at which it is made, and reopens nothing.
use Rattle.std.proofs.Common.{◌≡◌, ℕ, true, List, [], ◌∷◌, ◌++◌, Option, refl, ap, sym, subst, ⊎_elim, inl, arith, append-nil}
use Rattle.grid_base.specs.Objects.{Object}
use Rattle.grid_base.specs.declared.calls.Request.{Request}
use Rattle.partition_protocol.specs.History.{Entry, Called}
use Rattle.partition_protocol.specs.World.{World, start}
use Rattle.partition_protocol.specs.Events.{run}
use Rattle.partition_protocol.proofs.Lists.{in_left, in_right, cases}
use Rattle.replay_run.specs.Runs.{Run, Arrival, Appended, reopened_at, world_at, events_at, call_of, arrived}
use Rattle.replay_run.proofs.Places.{same_number}
use Rattle.replay_run.proofs.Stamps.{AreStamped, stamped_later, stamped_call}
use Rattle.replay_run.proofs.RunFacts.{is_of, ReopeningsOk, RunOk}
use Rattle.replay_run.proofs.Arriving.{its_event}
use Rattle.replay_run.proofs.Answers.{id_of_name}
use Rattle.replay_run.proofs.Bare.{bare_happening}
use Rattle.replay_run.proofs.Answering.{before, happened, world_with, world_here, world_elsewhere}
use Rattle.replay_run.proofs.Refusals.{IsLogged, call_log}

module _ {State : Type 0} (o : Object Request State) (r : Run) (ok : RunOk o r) (a : Arrival) where
  -- with one arrival more
  pub stamped_still : (p : ℕ) → AreStamped (r.arrivals ++ a ∷ []) 0 r.lines (reopened_at p r.reopened) (world_at o r p).recorded.log
  stamped_still p =
      stamped_later r.arrivals (r.arrivals ++ a ∷ []) 0 r.lines r.lines (reopened_at p r.reopened) (world_at o r p).recorded.log (λ b i. in_left b r.arrivals (a ∷ []) i) (omega arith) (ok.of_reopenings.stamped p)

  -- a call that makes no event
  pub skipped_reopenings : (appended : List Appended) → ReopeningsOk o (arrived r a [] appended)
  skipped_reopenings appended = record {
    stamped = λ p.
        subst (λ es. AreStamped (r.arrivals ++ a ∷ []) 0 r.lines (reopened_at p r.reopened) (run o (start p r.members r.backups) (events_at p es)).recorded.log)
        (sym (append-nil r.events)) (stamped_still p);
  }

-- a call with its event
module _ {State : Type 0} (o : Object Request State) (r : Run) (ok : RunOk o r) (a : Arrival) (now : a.made ≡ r.lines) (own : Option ℕ) where
  abbrev p : ℕ
  p = a.request.partition

  abbrev IsStampedIn : ℕ → List (Entry Request) → Type 0
  IsStampedIn q es = AreStamped (r.arrivals ++ a ∷ []) 0 r.lines (reopened_at q r.reopened) es

  stamped_here : IsStampedIn p (happened o r p (call_of a)).world.recorded.log
  stamped_here = ⊎_elim (λ e. subst (IsStampedIn p) (sym e) (stamped_still o r ok a p)) logged (call_log o (before o r p (call_of a)) a)
    where
      logged : IsLogged a (world_at o r p).recorded.log (happened o r p (call_of a)) → IsStampedIn p (happened o r p (call_of a)).world.recorded.log
      logged l =
          subst (IsStampedIn p) (sym l.is_last)
          (subst (λ n. AreStamped (r.arrivals ++ a ∷ []) 0 n (reopened_at p r.reopened) ((world_at o r p).recorded.log ++ Called l.call ∷ [])) now
          (stamped_call (r.arrivals ++ a ∷ []) 0 r.lines (reopened_at p r.reopened) (world_at o r p).recorded.log l.call a (in_right a r.arrivals (a ∷ []) (inl refl)) (ap id_of_name (sym l.named)) (omega (arith, now))
          (stamped_still o r ok a p)))

  stamped_after : (q : ℕ) → IsStampedIn q (world_with o r p (call_of a) q).recorded.log
  stamped_after q =
      ⊎_elim here (λ e. subst (λ (w : World Request). IsStampedIn q w.recorded.log) (sym (world_elsewhere o r p (call_of a) q e)) (stamped_still o r ok a q))
      (cases (is_of q a))
    where
      here : is_of q a ≡ true → IsStampedIn q (world_with o r p (call_of a) q).recorded.log
      here e =
          subst (λ v. IsStampedIn v (world_with o r p (call_of a) v).recorded.log) (same_number p q e)
          (subst (λ (w : World Request). IsStampedIn p w.recorded.log) (sym (world_here o r p (call_of a))) stamped_here)

  pub called_reopenings : ReopeningsOk o (arrived r a (its_event a ∷ []) (bare_happening o r own a))
  called_reopenings = record { stamped = stamped_after }
