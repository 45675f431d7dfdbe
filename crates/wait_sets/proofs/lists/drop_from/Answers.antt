use Rattle.std.proofs.Common.{◌≡◌, ◌+◌, ◌<◌, ◌≤◌, List, not, filter, length, slice_set, ap, sym, ◌∙◌, rules, arith}
use Rattle.std.proofs.lemmas.List.Edits.{map_over_more}
use Rattle.wait_sets.specs.declared.waiter.Waiter.{Waiter}
use Rattle.wait_sets.specs.WaitSets.{is_of}
use Rattle.wait_sets.proofs.Slots.{counted_further, counted_whole, within_lists, passed_all}
use Rattle.wait_sets.proofs.lists.drop_from.Goals as goal

pub overflow_add-busy : goal.overflow_add-busy
overflow_add-busy c =
    let within : c.loop-list.list-index < length c.loop-list.lists = omega (arith, c.loop-list.auto.lists, c.loop-list-test.true) in
    let most = within_lists c.loop-list.lists c.loop-list.list-index c.loop-list.busy c.drop_conn.new.self within c.loop-list.invariant.1 in
    let same = c.loop-list.auto.lists in
    let here = c.busy-busy.ensures in
    search rules

pub loop-list-preserved : goal.loop-list-preserved
loop-list-preserved c =
    let stays : List Waiter → List Waiter = filter (λ waiter. not (is_of c.args.conn waiter)) in
    let within : c.loop-list.list-index < length c.loop-list.lists = omega (arith, c.loop-list.auto.lists, c.loop-list-test.true) in
    let dropped : c.drop_conn.new.self ≡ stays c.list-item.result = c.drop_conn.ensures ∙ ap stays (sym c.list-item.is) in (
      ap (slice_set c.loop-list.lists c.loop-list.list-index) dropped
          ∙ map_over_more stays c.args.lists.now c.loop-list.lists c.loop-list.list-index c.list-item.result c.loop-list-test.true c.loop-list.invariant.0 c.list-item.is,
      ap (λ n. c.loop-list.busy + n) c.busy-busy.ensures
          ∙ counted_further c.loop-list.lists c.loop-list.list-index c.loop-list.busy c.drop_conn.new.self within c.loop-list.invariant.1,
    )

pub returns-clause-lists : goal.returns-clause-lists
returns-clause-lists c =
    let past : length c.args.lists.now ≤ c.loop-list.list-index = search rules in
    c.loop-list.invariant.0 ∙ passed_all (filter (λ waiter. not (is_of c.args.conn waiter))) c.args.lists.now c.loop-list.list-index past

pub returns-clause-busy : goal.returns-clause-busy
returns-clause-busy c =
    let past : length c.loop-list.lists ≤ c.loop-list.list-index = search rules in
    counted_whole c.loop-list.lists c.loop-list.list-index c.loop-list.busy past c.loop-list.invariant.1
