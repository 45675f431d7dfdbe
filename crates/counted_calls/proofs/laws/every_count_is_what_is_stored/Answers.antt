use Rattle.std.proofs.Common.{ap}
use Rattle.partition_table.specs.declared.Row.{Row}
use Rattle.counted_calls.specs.Calls.{name_of}
use Rattle.counted_calls.proofs.Theorem.{come_to}
use Rattle.counted_calls.proofs.laws.every_count_is_what_is_stored.Goals as goal

pub returns : goal.returns
returns c live plan forms capacity key history answered total stands of gathered total_is =
    let named = c.no_two_live_calls_have_one_name.ensures.stands live plan history stands in
    let never = c.without_an_operator_every_call_is_executed.ensures.unreopened plan history gathered.uncontrolled in
    let row = c.without_an_operator_every_call_is_executed.ensures.row plan history gathered.uncontrolled in
    come_to c.without_an_operator_every_call_is_executed.ensures.executed c.a_member_is_gone_by_a_crash.ensures c.every_number_has_one_value.ensures.read
    forms capacity plan of key history answered named.1 (c.every_live_history_is_linearizable.ensures.object plan history (name_of key) named.0 named.1) never
    (c.what_is_stored_is_what_the_history_leaves.ensures.unreopened plan history (name_of key) named.0 never (ap (λ (r : Row). r.lost) row))
    gathered total total_is
