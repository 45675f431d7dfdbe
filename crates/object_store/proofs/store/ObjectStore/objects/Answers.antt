use Rattle.std.proofs.Common.{◌≡◌, ◌++◌, map as each, refl, ap, sym, subst, ◌∙◌, IsPermutation, IsSorted}
use Rattle.std.specs.List.{flat_map}
use Rattle.grid_base.specs.declared.names.ObjectKey.{ObjectKey}
use Rattle.grid_base.specs.declared.names.ObjectKey.TheVariants.{Entry, Queue}
use Rattle.grid_base.specs.contracts.names.ObjectKeyOrd.TheImpl.{ghosts}
use Rattle.object_store.specs.Partitions.{object_cmp}
use Rattle.object_store.specs.Tables.{entries_stored, queue_stored, names_of}
use Rattle.object_store.proofs.NameLaws.{names_sorted, names_of-append}
use Rattle.object_store.proofs.store.ObjectStore.objects.Goals as goal

-- The derived order is the partitions'.
cmp_is : (a b : ObjectKey) → ghosts.cmp a b ≡ object_cmp a b
cmp_is (Entry map key) (Entry map' key') = refl
cmp_is (Entry map key) (Queue name) = refl
cmp_is (Queue name) (Entry map key) = refl
cmp_is (Queue name) (Queue name') = refl

pub returns : goal.returns
returns c =
    let maps = c.self.inside.maps in
    let queues = c.self.inside.queues in
    let names = c.sort.new.self.items in
    let in_maps = flat_map entries_stored maps.entries in
    let in_queues = each queue_stored queues.entries in
    let all : c.push_names-2.new.names.items ≡ names_of (in_maps ++ in_queues) =
    c.in_ok-push_names-2.ensures
    ∙ ap (λ before. before ++ names_of in_queues) (c.in_ok-push_names.ensures ∙ ap (λ before. before ++ names_of in_maps) c.new-names.ensures.items)
    ∙ sym (names_of-append in_maps in_queues) in
    names_sorted c.args.self.now maps queues names c.self.view_is c.self.invariant.0 c.self.invariant.1
    (subst (λ before. IsPermutation before names) all c.in_ok-sort.ensures.permutation)
    (subst (λ cmp. IsSorted cmp names) (λ i a b. cmp_is a b i) c.in_ok-sort.ensures.sorted)
