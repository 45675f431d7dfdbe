-- An entry is counted exactly where it is in the pair.
use Rattle.std.proofs.Common.{◌+◌, ◌<◌, ◌∙◌, length, take, get_or, sym, ap, arith}
use Rattle.std.proofs.lemmas.List.Sums.{length-filter, count_by_more_yes, count_by_more_no}
use Rattle.std.proofs.lemmas.Option.{get_or_from_slice_get, slice_get_within}
use Rattle.partition_protocol.specs.History.{is_in_pair}
use Rattle.partition_world.specs.RecordedEntries.{entry_of}
use Rattle.partition_world.specs.Recorders.{log_of}
use Rattle.partition_world.proofs.AtPlaces.{read_map}
use Rattle.partition_world.proofs.recorder.Recorder.entries_in.Goals as goal
use Rattle.partition_world.proofs.recorder.Recorder.entries_in.Goals.{then-is_in, else-is_in}

pub loop-entry-preserved : goal.loop-entry-preserved
loop-entry-preserved g c =
    let entries = c.args.self.now.log.items in
    let log = log_of c.args.self.now in
    let test = is_in_pair c.args.pair in
    let i = c.loop-entry.entry-index in
    let entry = c.entry-item.result in
    let kept = c.loop-entry.invariant in
    let inside : i < length entries = omega (arith, ap length c.deref-entry-items.ensures.value) in
    let there = read_map entry_of entries i entry inside (c.entry-item.is ∙ ap (λ es. get_or es i entry) c.deref-entry-items.ensures.value) in
    let below : i < length log = slice_get_within log i (entry_of entry) there in
    let is = get_or_from_slice_get log i (entry_of entry) (entry_of entry) there in
    let before = length-filter test (take i log) in
    let after = length-filter test (take (i + 1) log) in
    elim c.if-is_in.branch [
      | then-is_in w ↦
          let one = count_by_more_yes test log i (entry_of entry) below (ap test is ∙ sym c.is_in.ensures ∙ w.if-is_in.true) in
          record { counted = omega (arith, before, after, one, kept.counted, w.entries-is); few = omega (arith, kept.few, w.entries-is) }
      | else-is_in w ↦
          let none = count_by_more_no test log i (entry_of entry) below (ap test is ∙ sym c.is_in.ensures ∙ w.if-is_in.false) in
          record { counted = omega (arith, before, after, none, kept.counted, w.entries-is); few = omega (arith, kept.few, w.entries-is) }
    ]
