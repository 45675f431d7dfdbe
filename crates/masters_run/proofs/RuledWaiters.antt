-- After each line nobody who waits has a turn, unless the run is given up.
use Rattle.std.proofs.Common.{◌≡◌, ◌≤◌, false, List, [], ◌∷◌, refl, sym, ◌∙◌, subst, true≢false, ⊎_elim, inl, inr}
use Rattle.grid_base.specs.Objects.{Object}
use Rattle.grid_base.specs.declared.names.CallId.{CallId}
use Rattle.grid_base.specs.declared.calls.Request.{Request}
use Rattle.object_store.specs.Partitions.{Partition}
use Rattle.call_engine.specs.Objects.{partition_object}
use Rattle.partition_protocol.specs.Claims.{IsLawful}
use Rattle.partition_protocol.proofs.Lists.{In, in_contains}
use Rattle.partition_protocol.proofs.RowFacts.{false_or_not}
use Rattle.script_lang.specs.declared.line.Line.{Line}
use Rattle.wait_sets.specs.Laws.{grid_terms}
use Rattle.waiting_protocol.specs.Machine.{is_over}
use Rattle.waiting_protocol.proofs.Fates.{not_over, waits_on}
use Rattle.replay_run.specs.Runs.{Run, Waiter, as_machine, fate_now, next_line}
use Rattle.replay_run.specs.ScriptRuns.{IsRun, grid_begun}
use Rattle.replay_run.specs.Staying.{waiting_in, HasNoTurn}
use Rattle.replay_run.proofs.LineCounts as counts
use Rattle.replay_run.proofs.Staying.{lawful, Leaving, Nobody, still_only, takes_quiet, line_nobody}
use Rattle.masters_run.specs.Runs.{RuledRun, begun}
use Rattle.masters_run.specs.AfterLines.{after_line, after_lines}
use Rattle.masters_run.specs.Laws.{EveryWaiterStays}
use Rattle.masters_run.proofs.RuledRuns.{line_keeps, masters_run}

-- there are members, and nobody has a turn, unless the run is given up
abbrev IsQuiet : Object Request Partition → Run → Type 0
IsQuiet o r = (1 ≤ r.members) × Leaving o Nobody r

module _ (o : Object Request Partition) (law : IsLawful o) (skips : List CallId) where
  counted_quiet : (r : Run) → IsQuiet o r → IsQuiet o (next_line r)
  counted_quiet r h = (h.0, ⊎_elim (λ full. inl full) (λ only. inr (still_only o Nobody r (next_line r) refl refl refl refl (λ w i. i) only)) h.1)

  ruled_line_quiet : (s : RuledRun) (l : Line) → IsRun o s.run → IsQuiet o s.run → IsQuiet o (after_line o skips s l).run
  ruled_line_quiet s l is h =
      line_keeps o skips (IsQuiet o) (λ r k. (k.0, inl refl)) (λ r p e quiet k. takes_quiet o law skips r p e quiet k) s l (counted_quiet s.run h)
      (subst (λ n. 1 ≤ n) (sym (counts.line_counted o skips s.run l).members) h.0, line_nobody o law skips s.run is h.1 l)

  ruled_lines_quiet : (s : RuledRun) (ls : List Line) → IsRun o s.run → IsQuiet o s.run → IsQuiet o (after_lines o skips s ls).run
  ruled_lines_quiet s [] is h = h
  ruled_lines_quiet s (l ∷ ls) is h = ruled_lines_quiet (after_line o skips s l) ls (masters_run skips s is l) (ruled_line_quiet s l is h)

has_no_turn : (o : Object Request Partition) (r : Run) (w : Waiter) → Leaving o Nobody r → r.full ≡ false → In w r.waiters → HasNoTurn o r w
has_no_turn o r w done goes_on i = record { stays = not_over (fate_now o r w) quiet; waits = waits_on o (grid_terms (λ x. false)) (waiting_in o r w.request.partition) (as_machine w) quiet }
  where
    quiet : is_over (fate_now o r w) ≡ false
    quiet = ⊎_elim (λ full. absurd (true≢false (sym full ∙ goes_on))) (λ only. false_or_not (is_over (fate_now o r w)) (λ over. only w i over)) done

pub every_waiter_stays : EveryWaiterStays
every_waiter_stays settings members backups skips ls some goes_on w c =
    let o = partition_object settings in
    let first = begun members backups in
    let s = after_lines o skips first ls in
    let done = ruled_lines_quiet o (lawful settings) skips first ls (grid_begun members backups some) (some, inr (λ x i over. absurd i)) in
    has_no_turn o s.run w done.1 goes_on (in_contains w s.run.waiters c)
