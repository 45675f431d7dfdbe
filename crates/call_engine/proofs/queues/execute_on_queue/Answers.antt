use Rattle.std.proofs.Common.{All, sym, subst, ◌∙◌}
use Rattle.grid_base.specs.Limits.{FitsFrame}
use Rattle.call_engine.specs.Within.{record_fits, items_in_fit}
use Rattle.call_engine.proofs.Found.{found_items}
use Rattle.call_engine.proofs.queues.execute_on_queue.Goals as goal

pub run_on-requires-clause-items : goal.run_on-requires-clause-items
run_on-requires-clause-items g c =
    let small = c.requires.small in
    subst (All FitsFrame) (sym (c.as_slice.ensures ∙ found_items _ _ c.in-Some.ensures)) (items_in_fit small.calls _ (record_fits small.calls _ _ small.made)).1
