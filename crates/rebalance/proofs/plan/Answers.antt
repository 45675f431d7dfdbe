use Rattle.std.proofs.Common.{◌≡◌, ℕ, ◌<◌, length, List, slice_index, ap, sym, subst, ◌∙◌, arith}
use Rattle.rebalance.specs.Rows.{primaries}
use Rattle.rebalance.specs.Members.{is_undetected, undetected_count, load_of}
use Rattle.rebalance.specs.Targets.{target_of, excess_of}
use Rattle.rebalance.proofs.Planned.{loads_fit, sums_same, targets_by_rows, targets_read, excess_by_rows, read_excess, fewest, choice_by_rule}
use Rattle.rebalance.specs.Steps.{FollowsRule}
use Rattle.rebalance.proofs.Exact.{right_kinds}
use Rattle.rebalance.specs.declared.steps.Plan.{Plan}
use Rattle.rebalance.specs.Plans.{targets_of, steps_from}
use Rattle.rebalance.proofs.Planned.{same_loads}
use Rattle.rebalance.proofs.Pure.{listed, plan_made}
use Rattle.rebalance.proofs.plan.Goals as goal

pub loads_of-requires-clause-sound : goal.loads_of-requires-clause-sound
loads_of-requires-clause-sound c = λ p m e. (c.requires.sound p m e).in_range

pub steps_of-requires-clause-sound : goal.steps_of-requires-clause-sound
steps_of-requires-clause-sound c = λ p m e. (c.requires.sound p m e).in_range

pub targets_of-requires-clause-fits : goal.targets_of-requires-clause-fits
targets_of-requires-clause-fits c = rw c.deref.ensures.value (omega (arith, loads_fit c.in_ok-loads.loads.items c.args.rows.now c.args.members c.in_ok-loads.ensures.loads))

pub excess_between-excess-requires-clause-fits : goal.excess_between-excess-requires-clause-fits
excess_between-excess-requires-clause-fits c = rw c.deref-2.ensures.value (omega (arith, loads_fit c.in_ok-loads.loads.items c.args.rows.now (length c.in_ok-loads.loads.items) c.in_ok-loads.ensures.loads))

pub steps_of-requires-clause-same : goal.steps_of-requires-clause-same
steps_of-requires-clause-same c =
    let some : 0 < undetected_count c.args.detected.now c.args.members = omega arith in
    rw c.deref-4.ensures.value (sums_same (is_undetected c.args.detected.now) c.args.members c.in_ok-loads.loads.items c.in_ok-targets.targets.items some (targets_read (is_undetected c.args.detected.now) c.args.members c.in_ok-loads.loads.items c.deref.result.now c.in_ok-targets.targets.items c.deref.ensures.value c.in_ok-targets.ensures.targets))

pub returns-clause-targets : goal.returns-clause-targets
returns-clause-targets c = rw c.from_vec-2.ensures (targets_by_rows (is_undetected c.args.detected.now) c.args.members c.in_ok-loads.loads.items c.in_ok-targets.targets.items (primaries c.args.rows.now) c.in_ok-loads.ensures.loads (targets_read (is_undetected c.args.detected.now) c.args.members c.in_ok-loads.loads.items c.deref.result.now c.in_ok-targets.targets.items c.deref.ensures.value c.in_ok-targets.ensures.targets))

pub returns-clause-choice : goal.returns-clause-choice
returns-clause-choice c =
    let some : 0 < undetected_count c.args.detected.now c.args.members = omega arith in
    let rule : FollowsRule c.args.rows.now (slice_index c.in_ok-targets.targets.items) c.args.members c.in_ok-steps.steps.items = subst (λ (xs : List ℕ). FollowsRule c.args.rows.now (slice_index xs) c.args.members c.in_ok-steps.steps.items) c.deref-4.ensures.value c.in_ok-steps.ensures.rule in
    rw c.from_vec.ensures (choice_by_rule c.args.detected.now c.args.members c.args.rows.now (slice_index c.in_ok-targets.targets.items) c.in_ok-steps.steps.items c.requires.sound some (targets_by_rows (is_undetected c.args.detected.now) c.args.members c.in_ok-loads.loads.items c.in_ok-targets.targets.items (primaries c.args.rows.now) c.in_ok-loads.ensures.loads (targets_read (is_undetected c.args.detected.now) c.args.members c.in_ok-loads.loads.items c.deref.result.now c.in_ok-targets.targets.items c.deref.ensures.value c.in_ok-targets.ensures.targets)) rule)

pub returns-clause-kinds : goal.returns-clause-kinds
returns-clause-kinds c = rw c.from_vec.ensures (right_kinds c.args.rows.now (slice_index c.deref-4.result.now) c.args.members c.in_ok-steps.steps.items c.in_ok-steps.ensures.rule)

pub returns-clause-fewest : goal.returns-clause-fewest
returns-clause-fewest c = λ choice is_choice balanced.
    let some : 0 < undetected_count c.args.detected.now c.args.members = omega arith in
    let by_rows : excess_of (slice_index c.in_ok-loads.loads.items) (slice_index c.in_ok-targets.targets.items) c.args.members ≡ excess_of (load_of (primaries c.args.rows.now)) (target_of (is_undetected c.args.detected.now) (load_of (primaries c.args.rows.now)) c.args.members) c.args.members =
    excess_by_rows (is_undetected c.args.detected.now) c.args.members c.in_ok-loads.loads.items c.in_ok-targets.targets.items (primaries c.args.rows.now) c.in_ok-loads.ensures.loads (targets_read (is_undetected c.args.detected.now) c.args.members c.in_ok-loads.loads.items c.deref.result.now c.in_ok-targets.targets.items c.deref.ensures.value c.in_ok-targets.ensures.targets) in
    let is : c.excess_between-excess.result ≡ excess_of (slice_index c.in_ok-loads.loads.items) (slice_index c.in_ok-targets.targets.items) c.args.members = c.excess_between-excess.ensures ∙ read_excess c.deref-2.result.now c.in_ok-loads.loads.items c.deref-3.result.now c.in_ok-targets.targets.items c.args.members c.deref-2.ensures.value c.deref-3.ensures.value c.in_ok-loads.ensures.count in
    rw (is, by_rows) (fewest c.args.detected.now c.args.members (primaries c.args.rows.now) c.requires.sound some choice is_choice balanced)

pub returns-clause-plan : goal.returns-clause-plan
returns-clause-plan c =
    let rows = c.args.rows.now in
    let detected = c.args.detected.now in
    let n = c.args.members in
    let ps = primaries rows in
    let loads = c.in_ok-loads.loads.items in
    let found = c.in_ok-targets.targets.items in
    let plan : Plan = record { steps = c.from_vec.result; targets = c.from_vec-2.result; excess = c.excess_between-excess.result } in
    let some : 0 < undetected_count detected n = omega arith in
    let are : found ≡ targets_of detected n ps =
    listed found (target_of (is_undetected detected) (load_of ps) n) n c.in_ok-targets.ensures.count
    (targets_by_rows (is_undetected detected) n loads found ps c.in_ok-loads.ensures.loads (targets_read (is_undetected detected) n loads c.deref.result.now found c.deref.ensures.value c.in_ok-targets.ensures.targets)) in
    let steps : c.from_vec.result ≡ steps_from (slice_index (targets_of detected n ps)) n ps 0 rows =
    c.from_vec.ensures ∙ c.in_ok-steps.ensures.steps ∙ ap (λ (xs : List ℕ). steps_from (slice_index xs) n ps 0 rows) (c.deref-4.ensures.value ∙ are) in
    let excess : c.excess_between-excess.result ≡ excess_of (load_of ps) (slice_index (targets_of detected n ps)) n =
    c.excess_between-excess.ensures ∙ read_excess c.deref-2.result.now loads c.deref-3.result.now found n c.deref-2.ensures.value c.deref-3.ensures.value c.in_ok-loads.ensures.count
    ∙ ap (λ (f : ℕ → ℕ). excess_of f (slice_index found) n) (same_loads loads ps c.in_ok-loads.ensures.loads)
    ∙ ap (λ (xs : List ℕ). excess_of (load_of ps) (slice_index xs) n) are in
    plan_made rows c.args.moving.now detected n plan some (sym c.first_unsettled.ensures.first ∙ c.in_default.is)
    (λ i. record { steps = steps i; targets = (c.from_vec-2.ensures ∙ are) i; excess = excess i })
