use Rattle.std.proofs.Common.{◌≡◌, ◌++◌, [], map as each, ap, sym, ◌∙◌, append-nil}
use Rattle.std.proofs.lemmas.Map.Iter.{rest_all}
use Rattle.grid_base.specs.declared.names.ObjectKey.TheVariants.{Entry}
use Rattle.object_store.proofs.NameLaws.{names_of_entries}
use Rattle.object_store.proofs.maps.push_keys.Goals as goal

pub returns : goal.returns
returns c =
    let end : c.loop-key.key-iterator ≡ [] = rest_all _ _ _ _ c.in-None.is c.next.ensures.steps in
    sym (append-nil c.loop-key.names.items)
    ∙ ap (λ rest. c.loop-key.names.items ++ each (Entry c.args.map.now) rest) (sym end)
    ∙ c.loop-key.invariant
    ∙ ap (λ names. c.args.names.now.items ++ names) (sym (names_of_entries c.args.map.now c.args.entries.now.entries))
