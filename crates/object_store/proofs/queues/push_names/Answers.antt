use Rattle.std.proofs.Common.{◌≡◌, ◌++◌, [], map as each, ap, sym, ◌∙◌, append-nil}
use Rattle.std.proofs.lemmas.Map.Iter.{rest_all}
use Rattle.grid_base.specs.declared.names.ObjectKey.TheVariants.{Queue}
use Rattle.object_store.proofs.NameLaws.{names_of_queues}
use Rattle.object_store.proofs.queues.push_names.Goals as goal

pub returns : goal.returns
returns c =
    let end : c.loop-name.name-iterator ≡ [] = rest_all _ _ _ _ c.in-None.is c.next.ensures.steps in
    sym (append-nil c.loop-name.names.items)
    ∙ ap (λ rest. c.loop-name.names.items ++ each Queue rest) (sym end)
    ∙ c.loop-name.invariant
    ∙ ap (λ names. c.args.names.now.items ++ names) (sym (names_of_queues c.args.queues.now.entries))
