use Rattle.std.proofs.Common.{◌≡◌, ◌-◌, ◌+◌, true, [], Some, sym, ap, subst, ◌∙◌}
use Rattle.std.proofs.lemmas.Result.{err_from_is_err_and}
use Rattle.grid_base.specs.declared.names.ObjectKey.{ObjectKey}
use Rattle.object_store.specs.Partitions.{Partition, is_kept, with_record}
use Rattle.object_store.specs.Stored.{record_of as kept_of}
use Rattle.object_store.specs.Reading.{stored_at}
use Rattle.object_store.proofs.ReadRecords.{kept_of_read}
use Rattle.object_store.proofs.ReadLoops.{ReadSoFar, name_ends, record_ends, stored_goes_on, stored_done, objects_fail, objects_done, suits_kept}
use Rattle.object_store.proofs.snapshot.read_objects.Goals as goal

pub returns-in_err-name : goal.returns-in_err-name
returns-in_err-name c =
    let p = err_from_is_err_and c.from_residual.result c.from_residual.ensures.1 in
    rw (p.1, p.2)
    (objects_fail c.in_err-name.field-0.0 c.args.count c.args.from.now
    (name_ends c.loop.last c.loop.store c.args.count c.loop.counter c.loop.from (stored_at [] c.args.count c.args.from.now) c.loop.invariant c.in_err-name.field-0.0 c.loop-test.true c.in_err-name.ensures))

pub returns-in_err-stored : goal.returns-in_err-stored
returns-in_err-stored c =
    let p = err_from_is_err_and c.from_residual-in_err-stored.result c.from_residual-in_err-stored.ensures.1 in
    rw (p.1, p.2)
    (objects_fail c.in_err-stored.field-0.0 c.args.count c.args.from.now
    (record_ends c.loop.last c.loop.store c.args.count c.loop.counter c.loop.from (stored_at [] c.args.count c.args.from.now) c.loop.invariant c.in_ok-name.name c.read_next_object.new.from c.loop-test.true c.in_ok-name.ensures c.in_err-stored.field-0.0 c.in_err-stored.ensures.read))

pub put_record-requires : goal.put_record-requires
put_record-requires c =
    subst (λ (name : ObjectKey). is_kept (name, kept_of c.in_ok-stored.stored) ≡ true) (sym c.in_ok-stored.ensures.name)
    (kept_of_read c.in_ok-name.name c.read_next_object.new.from c.read_stored.new.from (kept_of c.in_ok-stored.stored) c.in_ok-stored.ensures.read)

pub loop-preserved : goal.loop-preserved
loop-preserved c =
    let kept = kept_of c.in_ok-stored.stored in
    let keeps = kept_of_read c.in_ok-name.name c.read_next_object.new.from c.read_stored.new.from kept c.in_ok-stored.ensures.read in
    let after : c.put_record.new.self ≡ with_record c.loop.store c.in_ok-name.name kept = c.in_ok-put_record.ensures.ok ∙ ap (λ (name : ObjectKey). with_record c.loop.store name kept) c.in_ok-stored.ensures.name in
    subst (λ (s : Partition). ReadSoFar (Some c.in_ok-name.name) s (c.args.count - (c.loop.counter + 1)) c.read_stored.new.from (stored_at [] c.args.count c.args.from.now)) (sym after)
    (stored_goes_on c.loop.last c.loop.store c.args.count c.loop.counter c.loop.from (stored_at [] c.args.count c.args.from.now) c.loop.invariant c.in_ok-name.name c.read_next_object.new.from c.loop-test.true c.in_ok-name.ensures kept c.read_stored.new.from c.in_ok-stored.ensures.read (suits_kept c.in_ok-name.name kept keeps))

pub returns : goal.returns
returns c =
    objects_done c.args.count c.args.from.now c.loop.from c.loop.invariant.before c.loop.store c.loop.invariant.is
    (stored_done c.loop.last c.loop.store c.args.count c.loop.counter c.loop.from (stored_at [] c.args.count c.args.from.now) c.loop.invariant c.loop-test.false)
