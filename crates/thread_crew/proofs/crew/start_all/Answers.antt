use Rattle.std.proofs.Common.{◌∙◌, ap, sym, subst}
use Rattle.thread_crew.specs.Crews.{HaveThreads}
use Rattle.thread_crew.proofs.Crews.{none_made, one_made, have_threads}
use Rattle.thread_crew.proofs.crew.start_all.Goals as goal
use Rattle.thread_crew.proofs.crew.start_all.Goals.{in-None, in-Some+in_default-spawn_with, in-Some+in-Ok-spawn_with+in_default-push}

pub loop-worker-init : goal.loop-worker-init
loop-worker-init g c = none_made g.L.Labor.can_labor c.args.work.now _ _ _ c.in-Ok.ensures.items c.into_iter-worker-iterator.ensures.into_iter_gives.0 c.requires

pub loop-worker-preserved : goal.loop-worker-preserved
loop-worker-preserved g c = one_made g.L.Labor.can_labor c.args.work.now c.args.workers.items _ _ _ _ _ _ c.loop-worker.invariant c.in-Some.ensures.steps.0 c.in-Ok-push.ensures.items
    (ap (λ p. p.worker.value) c.in-Ok-spawn_with.ensures.ok ∙ c.of.ensures) (ap (λ p. p.work.value) c.in-Ok-spawn_with.ensures.ok ∙ c.of-in-loop-worker.ensures)

pub returns : goal.returns
returns g c = elim c.match-next.branch [
  | in-None w ↦ subst (λ made. HaveThreads c.args.work.now c.args.workers.items made.items) (sym w.made-is) (have_threads g.L.Labor.can_labor c.args.work.now c.args.workers.items _ _ c.loop-worker.invariant)
  | in-Some+in_default-spawn_with w ↦ subst (λ made. HaveThreads c.args.work.now c.args.workers.items made.items) (sym w.made-is) (have_threads g.L.Labor.can_labor c.args.work.now c.args.workers.items _ _ c.loop-worker.invariant)
  | in-Some+in-Ok-spawn_with+in_default-push w ↦ subst (λ threads. HaveThreads c.args.work.now c.args.workers.items threads) (sym (ap (λ made. made.items) w.made-is ∙ w.in_default-push.ensures.items))
      (have_threads g.L.Labor.can_labor c.args.work.now c.args.workers.items _ _ c.loop-worker.invariant)
]
