use Rattle.std.proofs.Common.{◌≡◌, ◌++◌, take}
use Rattle.std.specs.List.{flat_map}
use Rattle.wire_parts.specs.Parts.{sized}
use Rattle.object_store.proofs.parts.put_items.Given as goal

-- the values before this one are spelled
abbrev pub invariant-loop-item : goal.invariant-loop-item
invariant-loop-item l = l.out.items ≡ l.initial.out.items ++ flat_map sized (take l.item-index l.items)
