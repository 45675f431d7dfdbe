use Rattle.std.proofs.Common.{◌<◌, [], ◌∷◌, ◌++◌, length, slice_set, length-set, rules}
use Rattle.wait_sets.proofs.Slots.{one_more, some_at_most}
use Rattle.wait_sets.proofs.lists.WaitLists.add.Goals as goal

pub overflow_add-self : goal.overflow_add-self
overflow_add-self c =
    let lists = c.self.inside.lists.items in
    let old = c.index_mut-list.result.now in
    let there : c.place.result < length lists = search rules in
    let more = one_more lists c.place.result old c.args.waiter c.self.inside.busy there c.index_mut-list.ensures.value c.self.invariant in
    let most = some_at_most (slice_set lists c.place.result (old ++ c.args.waiter ∷ [])) in
    let long = length-set lists c.place.result (old ++ c.args.waiter ∷ []) in
    search rules
