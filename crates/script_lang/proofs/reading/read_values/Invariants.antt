use Rattle.std.proofs.Common.{◌≡◌, ◌+◌, length}
use Rattle.std.specs.Slice.Iter.{iter_rest}
use Rattle.std.specs.Iterator.Adapters.{zip_first}
use Rattle.script_lang.specs.Lines.{values_of}
use Rattle.script_lang.proofs.ValueLists.{Leaves}
use Rattle.script_lang.proofs.reading.read_values.Given as goal

abbrev pub invariant-loop-field : goal.invariant-loop-field
invariant-loop-field l =
    (goal.iterator-loop-field).can_next l.field-iterator × (goal.iterator-loop-field).is_finite l.field-iterator
    × (length l.values.items + length (iter_rest (zip_first l.field-iterator)) ≡ length l.fields)
    × Leaves l.members l.values.items l.field-iterator (values_of l.members l.fields l.fn.words)
