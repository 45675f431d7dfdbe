-- The plan of a run's rows: it can be made, and its steps are of rising partitions.
use Rattle.std.proofs.Common.{◌≡◌, ℕ, zero, suc, ◌+◌, ◌≤◌, ◌<◌, ◌==◌, Bool, true, false, not, cond, List, [], ◌∷◌, take, length, Option, Some, None, slice_get, slice_index, refl, ap, sym, ◌∙◌, subst, inl, inr, arith}
use Rattle.std.specs.List.{list_all}
use Rattle.std.proofs.lemmas.List.{length-map}
use Rattle.grid_base.specs.Objects.{Object}
use Rattle.grid_base.specs.declared.calls.Request.{Request}
use Rattle.grid_base.specs.declared.names.CallId.{CallId}
use Rattle.object_store.specs.Partitions.{Partition}
use Rattle.partition_table.specs.declared.Row.{Row}
use Rattle.partition_table.specs.declared.RowMember.{RowMember}
use Rattle.partition_table.specs.Rows.{first_of, is_among}
use Rattle.partition_protocol.specs.Service.{numbers_below}
use Rattle.partition_protocol.specs.World.{World}
use Rattle.partition_protocol.proofs.Lists.{In}
use Rattle.partition_protocol.proofs.Histories.{filter_in}
use Rattle.partition_protocol.proofs.RowFacts.{both_left, both_right, false_or_not, not_both, in_among}
use Rattle.partition_protocol.proofs.NextRows.{in_below, member_is_in}
use Rattle.partition_protocol.proofs.Events.{Good, get_in}
use Rattle.partition_protocol.proofs.Theorem.{grid_good, length-numbers_below, get_map}
use Rattle.partition_protocol.proofs.WellFormed.{every_run_is_well_formed}
use Rattle.rebalance.specs.declared.Step.{Step}
use Rattle.rebalance.specs.Rows.{primaries, primary_of}
use Rattle.rebalance.specs.Members.{undetected_count, load_of, AreUndetected}
use Rattle.rebalance.specs.Steps.{moved}
use Rattle.rebalance.specs.Plans.{NoMember, Unsettled, Balanced, balanced, first_unsettled, targets_of, step_at, steps_from, plan_of}
use Rattle.rebalance.proofs.Pure.{step_some}
use Rattle.replay_run.specs.Runs.{Run, partitions, events_at, world_at}
use Rattle.replay_run.specs.Rebalancing.{service_at, is_moving_at, rows_in, marks_in, is_detected_in, detected_in, first_steps, steps_in, rebalanced, most_line_events}
use Rattle.replay_run.specs.ScriptRuns.{IsRun}
use Rattle.replay_run.specs.WorldCalls.{HasRoomAt, MayStep}
use Rattle.replay_run.proofs.EventRuns.{Adds}
use Rattle.replay_run.proofs.Rebalanced.{AreRising, steps_few}
use Rattle.replay_run.proofs.RunsOfLines.{run_ok}
use Rattle.replay_run.proofs.UndetectedRows.{rows_untold}

-- rising partitions

rising_from : (end low high : ℕ) (steps : List Step) → low ≤ high → AreRising end high steps → AreRising end low steps
rising_from end low high [] l rising = tt
rising_from end low high (step ∷ steps) l rising = (let first = rising.0 in omega (arith, l, first), rising.1, rising.2)

take_rises : (end next k : ℕ) (steps : List Step) → AreRising end next steps → AreRising end next (take k steps)
take_rises end next zero steps rising = tt
take_rises end next (suc k) [] rising = tt
take_rises end next (suc k) (step ∷ steps) rising = (rising.0, rising.1, take_rises end (step.partition + 1) k steps rising.2)

steps_rise : (target : ℕ → ℕ) (n : ℕ) (rows : List Row) (now : List (Option ℕ)) (at end : ℕ) → at + length rows ≤ end → AreRising end at (steps_from target n now at rows)
steps_rise target n [] now at end within = tt
steps_rise target n (row ∷ rows) now at end within =
    go (step_at (load_of now) target n at row) refl (steps_rise target n rows now (at + 1) end (omega (arith, within))) (λ step. steps_rise target n rows (moved now step) (at + 1) end (omega (arith, within)))
  where
    go : (s : Option Step) → step_at (load_of now) target n at row ≡ s → AreRising end (at + 1) (steps_from target n now (at + 1) rows) → ((step : Step) → AreRising end (at + 1) (steps_from target n (moved now step) (at + 1) rows))
        → AreRising end at (elim s [ None ↦ steps_from target n now (at + 1) rows | Some step ↦ step ∷ steps_from target n (moved now step) (at + 1) rows ])
    go None is stays goes = rising_from end at (at + 1) (steps_from target n now (at + 1) rows) (omega arith) stays
    go (Some step) is stays goes =
        let here = (step_some (load_of now) target n at row step is).1 in (
          omega (arith, here),
          omega (arith, here, within),
          rising_from end (step.partition + 1) (at + 1) (steps_from target n (moved now step) (at + 1) rows) (omega (arith, here)) (goes step),
        )

planned_rise : (rows : List Row) (moving : List Bool) (detected : List ℕ) (n most : ℕ) → AreRising (length rows) 0 (first_steps most (plan_of rows moving detected n))
planned_rise rows moving detected n most = go (undetected_count detected n == 0)
  where
    targets : List ℕ
    targets = targets_of detected n (primaries rows)

    settled : (found : Option ℕ) → AreRising (length rows) 0 (first_steps most (elim found [ None ↦ Balanced (balanced rows (targets_of detected n (primaries rows)) n) | Some partition ↦ Unsettled partition ]))
    settled None = take_rises (length rows) 0 most (steps_from (slice_index targets) n (primaries rows) 0 rows) (steps_rise (slice_index targets) n rows (primaries rows) 0 (length rows) (omega arith))
    settled (Some partition) = tt

    go : (b : Bool) → AreRising (length rows) 0 (first_steps most (cond b NoMember (elim (first_unsettled rows moving) [ None ↦ Balanced (balanced rows (targets_of detected n (primaries rows)) n) | Some partition ↦ Unsettled partition ])))
    go true = tt
    go false = settled (first_unsettled rows moving)

module _ (o : Object Request Partition) (r : Run) where
  pub all_rows : length (rows_in o r) ≡ partitions
  all_rows = length-map (numbers_below partitions) (λ p. (service_at o r p).row) ∙ length-numbers_below partitions

  pub all_marks : length (marks_in o r) ≡ partitions
  all_marks = length-map (numbers_below partitions) (is_moving_at o r) ∙ length-numbers_below partitions

  pub steps_are_rising : (most : ℕ) → AreRising partitions 0 (steps_in o r most)
  steps_are_rising most = subst (λ n. AreRising n 0 (steps_in o r most)) all_rows (planned_rise (rows_in o r) (marks_in o r) (detected_in o r) r.members most)

  pub rebalanced_few : (skips : List CallId) (most q : ℕ) → Adds q most_line_events r (rebalanced o skips r most)
  rebalanced_few skips most q = steps_few o skips partitions r 0 (steps_in o r most) q (steps_are_rising most)

-- Where each partition has room for the events of a step, rising steps may be run.
pub may_step : (r : Run) (next : ℕ) (steps : List Step) → ((p : ℕ) → HasRoomAt r p most_line_events) → AreRising partitions next steps → MayStep r next steps
may_step r next [] room rising = tt
may_step r next (step ∷ steps) room rising = (rising.0, rising.1, room step.partition, may_step r (step.partition + 1) steps room rising.2)

-- The primaries are undetected members.

pub all_in : {X : Type 0} (t : X → Bool) (xs : List X) (x : X) → list_all t xs ≡ true → In x xs → t x ≡ true
all_in t [] x e i = absurd i
all_in t (y ∷ xs) x e (inl s) = ap t (sym s) ∙ both_left (t y) (list_all t xs) e
all_in t (y ∷ xs) x e (inr i) = all_in t xs x (both_right (t y) (list_all t xs) e) i

first_in : (members : List RowMember) (m : ℕ) → first_of members ≡ Some m → (p : RowMember) × In p members × (p.member ≡ m)
first_in [] m e = absurd (let clash : None ≡ Some m = e in cc)
first_in (p ∷ members) m e = (p, inl refl, let same : p.member ≡ m = cc in same)

primary_in : (row : Row) (m : ℕ) → primary_of row ≡ Some m → (p : RowMember) × In p row.members × (p.member ≡ m)
primary_in row m = go row.lost
  where
    go : (lost : Bool) → cond lost None (first_of row.members) ≡ Some m → (p : RowMember) × In p row.members × (p.member ≡ m)
    go true e = absurd (let clash : None ≡ Some m = e in cc)
    go false e = first_in row.members m e

pub primaries_undetected : {o : Object Request Partition} (r : Run) → IsRun o r → AreUndetected (detected_in o r) r.members (primaries (rows_in o r))
primaries_undetected {o} r is p m at = record { in_range = below; not_detected = ap not out }
  where
    row : (row : Row) × (slice_get (rows_in o r) p ≡ Some row) × (primary_of row ≡ Some m)
    row = get_map primary_of (rows_in o r) p (Some m) at

    of : (q : ℕ) × (slice_get (numbers_below partitions) p ≡ Some q) × ((service_at o r q).row ≡ row.0)
    of = get_map (λ q. (service_at o r q).row) (numbers_below partitions) p row.0 row.1

    some : 1 ≤ r.members
    some = (run_ok is).members

    w : World Request
    w = world_at o r of.0

    member : (k : RowMember) × In k w.service.row.members × (k.member ≡ m)
    member = primary_in w.service.row m (ap primary_of of.2 ∙ row.2)

    good : Good o w
    good = grid_good o of.0 r.members r.backups (events_at of.0 r.events) some

    below : m < r.members
    below = subst (λ n. m < n) (every_run_is_well_formed o of.0 r.members r.backups (events_at of.0 r.events)).same_members (in_below w good.0 good.1.frame m (member_is_in w.service.row m member.0 member.1 member.2))

    free : is_among w.service.detected m ≡ false
    free = ap (is_among w.service.detected) (sym member.2) ∙ rows_untold o of.0 r.members r.backups (events_at of.0 r.events) some member.0 member.1

    out : is_among (detected_in o r) m ≡ false
    out = false_or_not (is_among (detected_in o r) m) (λ e.
        not_both (is_among w.service.detected m)
        (all_in (λ q. is_among (service_at o r q).detected m) (numbers_below partitions) of.0 (filter_in (is_detected_in o r) (numbers_below r.members) m (in_among (detected_in o r) m e)).1 (get_in (numbers_below partitions) p of.0 of.1))
        free)
