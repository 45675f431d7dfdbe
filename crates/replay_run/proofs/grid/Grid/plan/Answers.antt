use Rattle.std.proofs.Common.{◌∙◌, length, ap, sym, subst, arith}
use Rattle.rebalance.specs.Rows.{primaries}
use Rattle.rebalance.specs.Members.{AreUndetected}
use Rattle.rebalance.specs.Plans.{Gives, plan_of}
use Rattle.call_engine.specs.Objects.{partition_object}
use Rattle.replay_run.specs.Rebalancing.{rows_in, detected_in}
use Rattle.replay_run.proofs.Planning.{all_rows, all_marks, primaries_undetected}
use Rattle.replay_run.proofs.grid.Grid.plan.Goals as goal

pub rows-requires : goal.rows-requires
rows-requires g c = c.requires

pub marks-requires : goal.marks-requires
marks-requires g c = c.requires

pub detected-requires : goal.detected-requires
detected-requires g c = c.requires

pub plan-requires-clause-marks : goal.plan-requires-clause-marks
plan-requires-clause-marks g c =
    let settings = c.requires.0 in
    let r = c.requires.1 in
    let o = partition_object settings in
    ap length (c.deref-2.ensures.value ∙ c.in_ok-marks.ensures settings r c.requires.2) ∙ all_marks o r ∙ sym (ap length (c.deref.ensures.value ∙ c.in_ok-rows.ensures settings r c.requires.2) ∙ all_rows o r)

pub plan-requires-clause-size : goal.plan-requires-clause-size
plan-requires-clause-size g c =
    let settings = c.requires.0 in
    let r = c.requires.1 in
    let all = ap length (c.deref.ensures.value ∙ c.in_ok-rows.ensures settings r c.requires.2) ∙ all_rows (partition_object settings) r in
    omega (arith, all)

pub plan-requires-clause-sound : goal.plan-requires-clause-sound
plan-requires-clause-sound g c =
    let settings = c.requires.0 in
    let r = c.requires.1 in
    let amid = c.requires.2 in
    let rows = c.deref.ensures.value ∙ c.in_ok-rows.ensures settings r amid in
    let detected = c.deref-3.ensures.value ∙ c.in_ok-detected.ensures settings r amid in
    subst (λ ds. AreUndetected ds c.args.self.now.members (primaries c.deref.result.now)) (sym detected)
    (subst (λ rs. AreUndetected (detected_in (partition_object settings) r) c.args.self.now.members (primaries rs)) (sym rows)
    (subst (λ n. AreUndetected (detected_in (partition_object settings) r) n (primaries (rows_in (partition_object settings) r))) (sym amid.holds.members) (primaries_undetected r amid.run)))

pub returns : goal.returns
returns g c = λ settings r amid.
    let rows = c.deref.ensures.value ∙ c.in_ok-rows.ensures settings r amid in
    let marks = c.deref-2.ensures.value ∙ c.in_ok-marks.ensures settings r amid in
    let detected = c.deref-3.ensures.value ∙ c.in_ok-detected.ensures settings r amid in
    subst (Gives c.plan.result) (λ i. plan_of (rows i) (marks i) (detected i) (amid.holds.members i)) c.plan.ensures.plan
