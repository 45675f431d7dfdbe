use Rattle.std.proofs.lemmas.Result.{err_from_is_err_and}
use Rattle.object_store.proofs.ReadWhole.{partition_read, partition_fails}
use Rattle.object_store.proofs.snapshot.read_partition.Goals as goal

pub returns-in_err-end : goal.returns-in_err-end
returns-in_err-end c =
    let p = err_from_is_err_and c.from_residual-in_err-end.result c.from_residual-in_err-end.ensures.1 in
    rw (p.1, p.2)
    (partition_fails c.args.bytes.now c.new-from.result c.number.new.self c.read_objects.new.from c.in_ok-count.count c.in_ok-store.store c.new-from.ensures c.in_ok-count.ensures.read c.in_ok-store.ensures c.in_err-end.field-0.0 c.in_err-end.ensures.end)

pub returns : goal.returns
returns c =
    partition_read c.args.bytes.now c.new-from.result c.number.new.self c.read_objects.new.from c.in_ok-count.count c.in_ok-store.store c.new-from.ensures c.in_ok-count.ensures.read c.in_ok-store.ensures c.read_objects.new.from c.in_ok-end.ensures.end
