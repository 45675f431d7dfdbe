use Rattle.std.proofs.Common.{◌≡◌, [], ◌*◌, replicate, sum_by, rules, ap, sym, ◌∙◌}
use Rattle.grid_base.specs.declared.TheConstants.{PARTITIONS as partitions}
use Rattle.wait_sets.specs.Lists.{if_some}
use Rattle.wait_sets.proofs.Slots.{none_empty}
use Rattle.wait_sets.proofs.lists.WaitLists.new.Goals as goal

pub invariant_of-result : goal.invariant_of-result
invariant_of-result c = sym (ap (sum_by if_some) c.loop.invariant ∙ none_empty c.loop.counter)

pub returns : goal.returns
returns c =
    let all : c.loop.counter ≡ c.args.members * partitions = search rules in
    c.loop.invariant ∙ ap (λ n. replicate n []) all
