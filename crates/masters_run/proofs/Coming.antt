-- Whatever is asked of masters, they are those of events, from their start; and so they are sound.
use Rattle.std.proofs.Common.{◌≡◌, ℕ, zero, suc, ◌≤◌, Bool, true, false, nat_lt, List, [], ◌∷◌, ◌++◌, length, replicate, Option, Some, None, slice_get, slice_set, unwrap_or, ◌⊎◌, inl, inr, ⊎_elim, refl, ap, sym, ◌∙◌, subst, arith}
use Rattle.grid_base.specs.Objects.{Object}
use Rattle.grid_base.specs.declared.names.CallId.{CallId}
use Rattle.grid_base.specs.declared.calls.Request.{Request}
use Rattle.object_store.specs.Partitions.{Partition}
use Rattle.partition_protocol.proofs.Lists.{on_if}
use Rattle.partition_protocol.proofs.RowFacts.{less, not_less}
use Rattle.masters_protocol.specs.Claims.{IsSound}
use Rattle.masters_protocol.specs.Machine.{Masters}
use Rattle.masters_protocol.specs.Machine as masters
use Rattle.masters_protocol.proofs.Events.{run_goes}
use Rattle.masters_protocol.proofs.Prompt.{run_prompt}
use Rattle.masters_protocol.proofs.Ranges.{range_run}
use Rattle.masters_protocol.proofs.Theorem.{start_good, start_prompt, start_ranged, sound, run_append}
use Rattle.masters_world.specs.Decisions.{Decision}
use Rattle.masters_world.specs.Machine.{Line, start, asked_by, masters_after, events_by, asked}
use Rattle.masters_world.proofs.Theorem.{masters_go}
use Rattle.script_lang.specs.declared.line.Line.{Line as ScriptLine}
use Rattle.script_lang.specs.declared.line.Line.TheVariants as line
use Rattle.replay_run.specs.Runs.{Run, At, partitions, event_by}
use Rattle.replay_run.proofs.LineCounts as counts
use Rattle.masters_run.specs.Runs.{RuledRun, begun, opening_masters, masters_at, ruled_at, given_up, goes, counted}
use Rattle.masters_run.specs.AfterLines.{by_grid, after_line}
use Rattle.masters_run.specs.Standing.{IsRuled}
use Rattle.masters_run.proofs.Going.{is_held_up, asked_run, each_kept}
use Rattle.masters_run.proofs.KeptEvents.{IsEventFor, IsFor, ruled_keeps}

-- of so many members
pub record HaveCome (n : ℕ) (w : Masters Decision) : Type 0 where
  pub events : List (masters.Event Decision)
  pub is : masters.run (masters.start n) events ≡ w

at_start : (n : ℕ) → HaveCome n (masters.start n)
at_start n = record { events = []; is = refl }

pub come_sound : (n : ℕ) (w : Masters Decision) → HaveCome n w → IsSound w
come_sound n w h =
    let now = run_goes (masters.start n) (start_good n) h.events in
    subst (λ v. IsSound v) h.is (sound (masters.run (masters.start n) h.events) now.0 (run_prompt (masters.start n) h.events (start_prompt n)) (range_run (masters.start n) h.events (start_ranged n)))

more_come : (n : ℕ) (w : Masters Decision) (es : List (masters.Event Decision)) → HaveCome n w → HaveCome n (masters.run w es)
more_come n w es h = record { events = h.events ++ es; is = sym (run_append (masters.start n) h.events es) ∙ ap (λ v. masters.run v es) h.is }

-- places of a list

set_either : {X : Type 0} (xs : List X) (p : ℕ) (x : X) (q : ℕ) → (slice_get (slice_set xs p x) q ≡ slice_get xs q) ⊎ (slice_get (slice_set xs p x) q ≡ Some x)
set_either [] p x q = inl refl
set_either (y ∷ ys) zero x zero = inr refl
set_either (y ∷ ys) zero x (suc q) = inl refl
set_either (y ∷ ys) (suc p) x zero = inl refl
set_either (y ∷ ys) (suc p) x (suc q) = set_either ys p x q

pub beyond : {X : Type 0} (xs : List X) (q : ℕ) → length xs ≤ q → slice_get xs q ≡ None
beyond [] q high = refl
beyond (x ∷ xs) zero high = absurd (omega (arith, high))
beyond (x ∷ xs) (suc q) high = beyond xs q (omega (arith, high))

all_one : {X : Type 0} (k q : ℕ) (x : X) → unwrap_or (slice_get (replicate k x) q) x ≡ x
all_one zero q x = refl
all_one (suc k) zero x = refl
all_one (suc k) (suc q) x = all_one k q x

-- those of each partition

pub record AllHaveCome (n : ℕ) (s : RuledRun) : Type 0 where
  pub members : s.run.members ≡ n
  pub each : (p : ℕ) → HaveCome n (masters_at s p)

-- where the masters are as they were, and as many members
kept_come : (n : ℕ) (s : RuledRun) (r : Run) → r.members ≡ s.run.members → AllHaveCome n s → AllHaveCome n (record { run = r; masters = s.masters })
kept_come n s r same h = record { members = same ∙ h.members; each = λ p. subst (λ k. HaveCome n (unwrap_or (slice_get s.masters p) (masters.start k))) (sym same) (h.each p) }

module _ (o : Object Request Partition) (skips : List CallId) (n : ℕ) where
  asked_come : (s : RuledRun) (p : ℕ) (l : Line Request) → AllHaveCome n s → AllHaveCome n (asked_run o skips s p l)
  asked_come s p l h = record { members = same ∙ h.members; each = each }
    where
      same : (asked_run o skips s p l).run.members ≡ s.run.members
      same = (each_kept o skips s.run p (events_by (ruled_at o s p) l)).members

      new : Masters Decision
      new = masters_after (ruled_at o s p) l

      each : (q : ℕ) → HaveCome n (masters_at (asked_run o skips s p l) q)
      each q = ⊎_elim
          (λ e. subst (HaveCome n) (sym (ap (λ found. unwrap_or found (masters.start (asked_run o skips s p l).run.members)) e ∙ ap (λ k. unwrap_or (slice_get s.masters q) (masters.start k)) same)) (h.each q))
          (λ e. subst (HaveCome n) (sym (ap (λ found. unwrap_or found (masters.start (asked_run o skips s p l).run.members)) e)) (more_come n (masters_at s p) (asked_by (ruled_at o s p) l) (h.each p)))
          (set_either s.masters p new q)

  pub goes_come : (s : RuledRun) (p : ℕ) (l : Line Request) → AllHaveCome n s → AllHaveCome n (goes o skips s p l)
  goes_come s p l h = on_if (AllHaveCome n) (is_held_up o skips s p l) (given_up s) (asked_run o skips s p l) (record { members = h.members; each = h.each }) (asked_come s p l h)

  pub counted_come : (s : RuledRun) → AllHaveCome n s → AllHaveCome n (counted s)
  counted_come s h = record { members = h.members; each = h.each }

  opening_come : (s : RuledRun) → AllHaveCome n s → AllHaveCome n (record (counted s) { masters = opening_masters s.run.members })
  opening_come s h = record {
    members = h.members;
    each = λ p. subst (HaveCome n) (sym (all_one partitions p (masters.start s.run.members))) (subst (λ k. HaveCome n (masters.start k)) (sym h.members) (at_start n));
  }

  own_come : (s : RuledRun) (l : ScriptLine) → AllHaveCome n s → AllHaveCome n (by_grid o skips s l)
  own_come s l h = kept_come n s (by_grid o skips s l).run (counts.line_counted o skips s.run l).members h

  -- any event of any partition
  is_for_any : (l : ScriptLine) → IsFor (λ p. Unit {0}) (λ e. Unit {0}) l
  is_for_any (line.Crash m) = tt
  is_for_any (line.Flow p most) = tt
  is_for_any (line.MasterFlow p most) = tt
  is_for_any (line.MasterDeliver p from to place) = tt
  is_for_any (line.MasterLose p from to place) = tt
  is_for_any (line.MasterResend p member) = tt
  is_for_any l = any_event (event_by l)
    where
      any_event : (e : Option At) → IsEventFor (λ p. Unit {0}) (λ e. Unit {0}) e
      any_event None = tt
      any_event (Some e) = (tt, tt)

  pub line_come : (s : RuledRun) (l : ScriptLine) → AllHaveCome n s → AllHaveCome n (after_line o skips s l)
  line_come s l h =
      ruled_keeps o skips (λ p. Unit {0}) (λ p i. tt) (λ e. Unit {0}) (λ k d. tt) (AllHaveCome n) (λ x p k here q g. goes_come x p k g) s l (is_for_any l) (counted_come s h) (opening_come s h) (own_come s l h)

pub begun_come : (members backups : ℕ) → AllHaveCome members (begun members backups)
begun_come members backups = record { members = refl; each = λ p. at_start members }

-- of a ruled run too
pub ruled_come : {State : Type 0} (o : Object Request State) (s : RuledRun) → IsRuled o s → AllHaveCome s.run.members s
ruled_come o s is = record { members = refl; each = λ p. by p (nat_lt p partitions) refl }
  where
    by : (p : ℕ) (b : Bool) → nat_lt p partitions ≡ b → HaveCome s.run.members (masters_at s p)
    by p true low =
        let of = is.stands p (less p partitions low) in
        record { events = asked o (start p s.run.members s.run.backups) (is.lines p (less p partitions low)); is = masters_go o (start p s.run.members s.run.backups) (is.lines p (less p partitions low)) ∙ of.masters }
    by p false high =
        let many = not_less p partitions high in
        let whole = is.count in
        let none : slice_get s.masters p ≡ None = beyond s.masters p (omega (arith, many, whole)) in
        subst (HaveCome s.run.members) (sym (ap (λ found. unwrap_or found (masters.start s.run.members)) none)) (at_start s.run.members)
