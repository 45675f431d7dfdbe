use Rattle.std.proofs.Common.{◌≡◌, OnOk, subst, sym}
use Rattle.object_store.specs.Partitions.{with_record}
use Rattle.object_store.specs.Stored.{name_of, record_of}
use Rattle.object_store.proofs.store.ObjectStore.put_record.Goals as goal

pub returns-in-Entry-clause-ok : goal.returns-in-Entry-clause-ok
returns-in-Entry-clause-ok c = subst (λ stored. OnOk c.set_entry.result (c.set_entry.new.self ≡ with_record c.args.self.now (name_of stored) (record_of stored))) (sym c.in-Entry.is) c.set_entry.ensures.ok

pub returns-in-Queue-clause-ok : goal.returns-in-Queue-clause-ok
returns-in-Queue-clause-ok c = subst (λ stored. OnOk c.set_queue.result (c.set_queue.new.self ≡ with_record c.args.self.now (name_of stored) (record_of stored))) (sym c.in-Queue.is) c.set_queue.ensures.ok
