use Rattle.std.proofs.Common.{◌≡◌, ◌<◌, ◌≤◌, length, rules, subst, sym, ◌∙◌, ap}
use Rattle.call_engine.specs.Env.{settings_of}
use Rattle.wait_sets.specs.Boxes.{boxed}
use Rattle.wait_sets.specs.WaitSets.{wish}
use Rattle.wait_sets.specs.Runs.{AreRuns}
use Rattle.wait_sets.proofs.Places.{ready_together}
use Rattle.wait_sets.proofs.Searches.{search_begins, search_ends, search_goes_on, search_fails}
use Rattle.wait_sets.proofs.set.WaitSet.first_ready.Goals as goal

pub loop-run-init : goal.loop-run-init
loop-run-init g c =
    let same : c.args.self.now ≡ c.self.inside.waiting.items = search rules in
    let runs : AreRuns wish c.deref-run-items.result.now c.self.inside.waiting.items = subst (λ ns. AreRuns wish ns c.self.inside.waiting.items) (sym c.deref-run-items.ensures.value) c.self.invariant.2 in
    search_begins wish _ c.deref-run-items.result.now c.args.self.now (subst (AreRuns wish c.deref-run-items.result.now) (sym same) runs)

pub returns-then-is_ready_at : goal.returns-then-is_ready_at
returns-then-is_ready_at g c = sym (search_ends wish _ _ _ _ _ (sym c.is_ready_at.ensures ∙ c.if-is_ready_at.true) c.loop-run.invariant)

pub overflow_add-start : goal.overflow_add-start
overflow_add-start g c =
    let there : c.loop-run.run-index < length c.deref-run-items.result.now = search rules in
    let step = search_goes_on wish _ _ _ _ _ (ready_together (settings_of (boxed (λ z. (goal.Processor-dyn g z).form z.1)) c.args.env.now) c.args.shelf.now c.args.now) there (sym c.is_ready_at.ensures ∙ c.if-is_ready_at.false) c.loop-run.invariant in
    let further = step.0 in
    let same : c.args.self.now ≡ c.self.inside.waiting.items = search rules in
    let long : length c.args.self.now ≡ length c.self.inside.waiting.items = ap length same in
    search rules

pub loop-run-preserved : goal.loop-run-preserved
loop-run-preserved g c =
    let there : c.loop-run.run-index < length c.deref-run-items.result.now = search rules in
    (search_goes_on wish _ _ _ _ _ (ready_together (settings_of (boxed (λ z. (goal.Processor-dyn g z).form z.1)) c.args.env.now) c.args.shelf.now c.args.now) there (sym c.is_ready_at.ensures ∙ c.if-is_ready_at.false) c.loop-run.invariant).1

pub returns : goal.returns
returns g c =
    let past : length c.deref-run-items.result.now ≤ c.loop-run.run-index = search rules in
    sym (search_fails wish _ _ _ _ _ past c.loop-run.invariant)
