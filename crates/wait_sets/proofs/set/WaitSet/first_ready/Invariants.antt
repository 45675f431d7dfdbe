use Rattle.call_engine.specs.Env.{settings_of}
use Rattle.wait_sets.specs.Boxes.{boxed}
use Rattle.wait_sets.specs.WaitSets.{is_ready_now, wish}
use Rattle.wait_sets.proofs.Searches.{SearchedSoFar}
use Rattle.wait_sets.proofs.set.WaitSet.first_ready.Given as goal

abbrev pub invariant-loop-run : goal.invariant-loop-run
invariant-loop-run g l = SearchedSoFar wish (is_ready_now (settings_of (boxed (λ z. (goal.Processor-dyn g z).form z.1)) l.env) l.shelf l.now) l.run-items l.self l.run-index l.start
