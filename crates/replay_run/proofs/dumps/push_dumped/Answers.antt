use Rattle.std.proofs.Common.{◌∙◌, ◌++◌, map, ap, arith}
use Rattle.grid_base.specs.declared.names.ObjectKey.{ObjectKey}
use Rattle.object_store.specs.Records.{Record}
use Rattle.object_store.specs.Partitions.{stored_in, record_at}
use Rattle.replay_run.specs.Dumps.{stored_text}
use Rattle.replay_run.proofs.DumpTexts.{dumped_on, dumped_whole}
use Rattle.replay_run.proofs.dumps.push_dumped.Goals as goal

pub loop-name-preserved : goal.loop-name-preserved
loop-name-preserved c =
    let s = c.args.shelf.now in
    let name = c.name-item.result in
    let are = c.as_slice-name-items.ensures.value ∙ c.in_ok-objects.ensures ∙ ap (λ x. map (λ (one : ObjectKey × Record). one.0) (stored_in x)) c.store-store.ensures in
    dumped_on s _ c.loop-name.name-index name are c.loop-name-test.true c.name-item.is c.args.line c.args.out.now.items c.loop-name.out.items c.push_stored.new.out.items c.loop-name.invariant
    (c.in_ok-push_stored.ensures ∙ ap (λ x. c.loop-name.out.items ++ stored_text c.args.line (name, record_at x name)) c.store-store.ensures)

pub returns : goal.returns
returns c =
    let are = c.as_slice-name-items.ensures.value ∙ c.in_ok-objects.ensures ∙ ap (λ x. map (λ (one : ObjectKey × Record). one.0) (stored_in x)) c.store-store.ensures in
    dumped_whole c.args.shelf.now _ c.loop-name.name-index c.args.line c.args.out.now.items c.loop-name.out.items are (omega (arith, c.loop-name-test.false)) c.loop-name.invariant
