-- What each line keeps, with masters or without: of connections, of who listens, of who has crashed, and within which limits.
use Rattle.std.proofs.Common.{◌≡◌, ℕ, ◌*◌, ◌<◌, ◌≤◌, false, List, [], Option, Some, None, refl, ap, sym, ◌∙◌, subst, inl, arith}
use Rattle.std.specs.List.{find, sum_by}
use Rattle.grid_base.specs.Objects.{Object}
use Rattle.grid_base.specs.declared.names.CallId.{CallId}
use Rattle.grid_base.specs.declared.calls.Request.{Request}
use Rattle.object_store.specs.Partitions.{Partition}
use Rattle.partition_protocol.specs.Events.{Event}
use Rattle.partition_protocol.specs.Arrivals.{asked_by}
use Rattle.partition_protocol.specs.Service.{numbers_below}
use Rattle.partition_protocol.proofs.Lists.{on_if}
use Rattle.masters_world.specs.Decisions.{Decision, event_of}
use Rattle.masters_world.specs.Decisions as decision
use Rattle.script_lang.specs.Lines.{IsWithin}
use Rattle.script_lang.specs.declared.line.Line.{Line}
use Rattle.script_lang.specs.declared.line.Line.TheVariants as line
use Rattle.replay_run.specs.AfterLines as alone
use Rattle.replay_run.specs.Grids.{IsSmall, most_arriving}
use Rattle.replay_run.specs.Runs.{Run, Connection, At, partitions, is_connection, connection_of, lives, takes, next_line, event_by}
use Rattle.replay_run.specs.ScriptRuns.{IsRun}
use Rattle.replay_run.proofs.Bounds.{length_of, kept_small, stays_small, bytes_at}
use Rattle.replay_run.proofs.EventRuns.{Kept, kept_refl, takes_kept}
use Rattle.masters_run.specs.Runs.{RuledRun, has_masters}
use Rattle.masters_run.specs.AfterLines.{unruled, ruled_line, after_line}
use Rattle.masters_run.proofs.KeptEvents.{IsEventFor, IsFor, event_line_keeps}
use Rattle.masters_run.proofs.KeptLines.{line_members}
use Rattle.masters_run.proofs.QuietGoing.{crash_run}
use Rattle.masters_run.proofs.RuledRuns.{decision_quiet, line_keeps}
use Rattle.near_run_laws.specs.Modest.{StaysProper}
use Rattle.near_run_laws.proofs.Proper.{counted_proper, stays, takes_proper, every_line_stays_proper}
use Rattle.near_run_laws.proofs.Spoken.{below}
use Rattle.near_script_laws.proofs.Connections.{IsApart, NoneListens, BringsSome, takes_still, listens_still, keeps_connection, keeps_listeners, keeps_members}
use Rattle.near_script_laws.proofs.Lives.{is_crash, Calm, takes_calm, Shift, quiet_at, quiet_line, IsNoCrash, calm_line, crash_line, CrashTogether, still_together, still_dead}

module _ (o : Object Request Partition) (skips : List CallId) (s : RuledRun) (l : Line) where
  abbrev next : Run
  next = (after_line o skips s l).run

  -- a connection that is there
  pub still_connected : (c : ℕ) (k : Connection) → IsApart c l → connection_of s.run c ≡ Some k → connection_of (after_line o skips s l).run c ≡ Some k
  still_connected c k apart there =
      line_keeps o skips (λ (r : Run). connection_of r c ≡ Some k) (λ r h. h) (λ r p e quiet h. ap (λ ks. find (is_connection c) ks) (takes_kept o skips r p e).connections ∙ h) s l there
      (keeps_connection o skips s.run l c k apart there)

  -- nobody listens where no byte has come
  pub still_unheard : BringsSome l → NoneListens s.run → NoneListens (after_line o skips s l).run
  still_unheard some none =
      line_keeps o skips NoneListens (λ r h. h) (λ r p e quiet h. listens_still o skips r (takes o skips r p e) (takes_still o skips r r p e (record { connections = refl; registered = refl; members = refl })) h) s l none
      (keeps_listeners o skips s.run l some none)

  pub still_as_many : (after_line o skips s l).run.members ≡ s.run.members
  still_as_many = line_members o skips s l (keeps_members o skips s.run l)

  -- the bytes of all lines
  pub still_small : IsRun o s.run → 2 * length_of l ≤ most_arriving → IsSmall s.run → IsSmall (after_line o skips s l).run
  still_small run size small =
      line_keeps o skips IsSmall (λ r h. h) (λ r p e quiet h. same_small r (takes o skips r p e) (takes_kept o skips r p e) h) s l (kept_small s.run (next_line s.run) (kept_refl (next_line s.run)) small) (stays_small skips s.run run l small size)
    where
      same_small : (r x : Run) → Kept r x → IsSmall r → IsSmall x
      same_small r x kept h = subst (λ (ks : List Connection). 2 * sum_by bytes_at ks ≤ most_arriving * x.lines) (sym kept.connections) (subst (λ (n : ℕ). 2 * sum_by bytes_at r.connections ≤ most_arriving * n) (sym kept.lines) h)

-- who has crashed

decided_calm : (n : ℕ) (d : Decision) → is_crash (event_of {C = Request} n d) ≡ false
decided_calm n (decision.Detect m) = refl
decided_calm n (decision.BeginMove from to) = refl
decided_calm n (decision.BeginJoin to) = refl
decided_calm n (decision.BeginHandover from to) = refl
decided_calm n decision.Advance = refl
decided_calm n decision.Reopen = refl
decided_calm n (decision.Take from place message) = refl

abbrev Anywhere : ℕ → Type 0
Anywhere p = Unit {0}

abbrev IsCalm : Event Request → Type 0
IsCalm e = is_crash e ≡ false

module _ (o : Object Request Partition) (skips : List CallId) (s : RuledRun) where
  event_calm : (e : Option At) → quiet_at o skips s.run e → IsEventFor Anywhere IsCalm e
  event_calm None quiet = tt
  event_calm (Some e) quiet = (tt, quiet)

  asks_calm : (l : Line) → IsNoCrash o skips s.run l → IsFor Anywhere IsCalm l
  asks_calm (line.Crash m) calm = absurd calm
  asks_calm (line.Flow p most) calm = tt
  asks_calm (line.MasterFlow p most) calm = tt
  asks_calm (line.MasterDeliver p from to place) calm = tt
  asks_calm (line.MasterLose p from to place) calm = tt
  asks_calm (line.MasterResend p member) calm = tt
  asks_calm l calm = event_calm (event_by l) (quiet_line o skips s.run l)

  still_calm : (l : Line) → IsNoCrash o skips s.run l → Shift o skips s.run (after_line o skips s l).run
  still_calm l calm =
      inl (event_line_keeps o skips Anywhere (λ p i. tt) IsCalm decided_calm (Calm o s.run) (λ r h. h) (λ r p e here quiet h. takes_calm o skips s.run r p e quiet h) s l (asks_calm l calm) (λ q. refl) (calm_line o skips s.run l calm))

  -- A crash is the grid's own.
  crash_alone : (m : ℕ) → (after_line o skips s (line.Crash m)).run ≡ alone.after_line o skips s.run (line.Crash m)
  crash_alone m =
      on_if (λ (x : RuledRun). x.run ≡ alone.after_line o skips s.run (line.Crash m)) (has_masters s) (ruled_line o skips s (line.Crash m)) (unruled o skips s (line.Crash m))
      (crash_run o skips (record s { run = next_line s.run }) m (numbers_below partitions)) refl

  crashed_so : (m : ℕ) → (after_line o skips s (line.Crash m)).run.full ≡ false → Shift o skips s.run (after_line o skips s (line.Crash m)).run
  crashed_so m going =
      let same = crash_alone m in
      subst (Shift o skips s.run) (sym same) (crash_line o skips s.run m (ap (λ (x : Run). x.full) (sym same) ∙ going))

  shifts : (l : Line) → (after_line o skips s l).run.full ≡ false → Shift o skips s.run (after_line o skips s l).run
  shifts (line.Crash m) going = crashed_so m going
  shifts l going = still_calm l tt

  pub crashes_together : (l : Line) → (after_line o skips s l).run.full ≡ false → CrashTogether o s.run → CrashTogether o (after_line o skips s l).run
  crashes_together l going together = still_together o skips s.run (after_line o skips s l).run (shifts l going) together

  pub stays_dead : (l : Line) (m : ℕ) → (after_line o skips s l).run.full ≡ false → lives o s.run m ≡ false → lives o (after_line o skips s l).run m ≡ false
  stays_dead l m going dead = still_dead o skips s.run (after_line o skips s l).run m (still_as_many o skips s l) (shifts l going) dead

-- events are proper

abbrev InGrid : ℕ → Type 0
InGrid p = p < partitions

abbrev IsNoCall : Event Request → Type 0
IsNoCall e = asked_by e ≡ []

placed : (p : ℕ) → p ≤ 270 → p < partitions
placed p within = omega (arith, within)

asks_within : (members size : ℕ) (l : Line) → IsWithin members size l → IsFor InGrid IsNoCall l
asks_within members size (line.Crash m) within = refl
asks_within members size (line.Flow p most) within = placed p within.0
asks_within members size (line.MasterFlow p most) within = placed p within.0
asks_within members size (line.MasterDeliver p from to place) within = placed p within.0
asks_within members size (line.MasterLose p from to place) within = placed p within.0
asks_within members size (line.MasterResend p member) within = placed p within.0
asks_within members size (line.Deliver p from to place) within = (placed p within.0, refl)
asks_within members size (line.Lose p from to place) within = (placed p within.0, refl)
asks_within members size (line.Repeat p from to place) within = (placed p within.0, refl)
asks_within members size (line.Resend p end) within = (placed p within.0, refl)
asks_within members size (line.Move p from to) within = (placed p within.0, refl)
asks_within members size (line.Join p to) within = (placed p within.0, refl)
asks_within members size (line.Handover p from to) within = (placed p within.0, refl)
asks_within members size (line.Advance p) within = (placed p within, refl)
asks_within members size (line.Reopen p) within = (placed p within, refl)
asks_within members size l within = tt

pub still_proper : (o : Object Request Partition) (skips : List CallId) (s : RuledRun) (members size : ℕ) (l : Line) → IsWithin members size l → StaysProper s.run → StaysProper (after_line o skips s l).run
still_proper o skips s members size l within proper =
    event_line_keeps o skips InGrid (below partitions) IsNoCall decision_quiet StaysProper (stays o) (λ r p e here quiet h. takes_proper o skips p here r e quiet h) s l (asks_within members size l within) (counted_proper o s.run proper)
    (every_line_stays_proper o skips s.run members size l within proper)
