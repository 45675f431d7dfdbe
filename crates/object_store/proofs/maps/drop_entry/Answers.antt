use Rattle.std.proofs.Common.{◌≡◌, [], ap, sym, is_some}
use Rattle.std.proofs.lemmas.List.{nil_from_length}
use Rattle.object_store.proofs.TableLaws.{dropped_with_map}
use Rattle.object_store.proofs.maps.drop_entry.Goals as goal

pub returns-then-is_empty-clause-entries : goal.returns-then-is_empty-clause-entries
returns-then-is_empty-clause-entries c =
    let after = c.remove.new.self in
    let was = sym c.in-Some.ensures.value in
    let empty : after.entries ≡ [] = nil_from_length after.entries (c.is_empty.ensures.0 c.if-is_empty.true) in
    dropped_with_map c.args.maps.now (c.get_mut.follows.lender after) c.remove-then-is_empty.new.self c.in-Some.entries.now after c.args.map.now c.args.key.now
    was c.remove.ensures.updates.0 empty ((c.get_mut.follows.holds after).3 (ap is_some was)).0 c.remove-then-is_empty.ensures.updates.0
