use Rattle.std.proofs.Common.{◌≡◌, IfOk, sym, subst}
use Rattle.std.specs.Option.{option_copied, option_map}
use Rattle.object_store.specs.Partitions.{record_at}
use Rattle.live_grid.specs.Stored.{record_of, something_of}
use Rattle.live_grid.proofs.Copied.{entry_told, queue_told}
use Rattle.live_grid.proofs.copies.record_kept.Goals as goal

pub returns-in-Entry : goal.returns-in-Entry
returns-in-Entry c =
    let store = c.args.store.now in
    let found = c.entry_kept.result in
    subst (λ name. IfOk found (λ copy. option_map record_of copy ≡ something_of (record_at store name))) (sym c.in-Entry.is) (entry_told store found c.in-Entry.map c.in-Entry.key (option_copied c.entry.result) c.entry.ensures c.entry_kept.ensures)

pub returns-in-Queue : goal.returns-in-Queue
returns-in-Queue c =
    let store = c.args.store.now in
    let found = c.queue_kept.result in
    subst (λ name. IfOk found (λ copy. option_map record_of copy ≡ something_of (record_at store name))) (sym c.in-Queue.is) (queue_told store found c.in-Queue.name (option_copied c.queue.result) c.queue.ensures c.queue_kept.ensures)
