use Rattle.object_store.proofs.WriteLoop.{keeps_here, spelled_here, written_on}
use Rattle.object_store.proofs.snapshot.put_objects.Goals as goal

pub put_object-requires-clause-name : goal.put_object-requires-clause-name
put_object-requires-clause-name c = (spelled_here c.args.store.now c.args.names.now c.loop-name.name-index c.name-item.result c.requires.names c.loop-name-test.true c.name-item.is c.requires.spelled).0

pub put_object-requires-clause-kept : goal.put_object-requires-clause-kept
put_object-requires-clause-kept c = keeps_here c.args.store.now c.args.names.now c.loop-name.name-index c.name-item.result c.requires.names c.loop-name-test.true c.name-item.is

pub put_object-requires-clause-spelled : goal.put_object-requires-clause-spelled
put_object-requires-clause-spelled c = (spelled_here c.args.store.now c.args.names.now c.loop-name.name-index c.name-item.result c.requires.names c.loop-name-test.true c.name-item.is c.requires.spelled).1

pub loop-name-preserved : goal.loop-name-preserved
loop-name-preserved c =
    written_on c.args.store.now c.args.names.now c.loop-name.name-index c.name-item.result c.requires.names c.loop-name-test.true c.name-item.is c.args.out.now.items c.loop-name.out.items c.put_object.new.out.items c.loop-name.invariant c.in_ok-put_object.ensures
