-- One more member is marked.
use Rattle.std.proofs.Common.{◌<◌, length, get_or, arith, false}
use Rattle.std.proofs.lemmas.List.{get_or_default}
use Rattle.std.proofs.lemmas.List.Edits.{map_over_more}
use Rattle.partition_table.specs.Rows.{RowMember, marked}
use Rattle.partition_table.proofs.members.RowMembers.mark_eligible.Goals as goal

pub loop-listed-preserved : goal.loop-listed-preserved
loop-listed-preserved c =
    let none : RowMember = record { member = 0; eligible = false } in
    let within : c.loop-listed.listed-index < length c.loop-listed.listed-items = omega arith in
    map_over_more (marked c.args.member) c.deref_mut-listed-items.result.now c.loop-listed.listed-items c.loop-listed.listed-index
    (get_or c.loop-listed.listed-items c.loop-listed.listed-index none) (omega arith) c.loop-listed.invariant
    (get_or_default c.loop-listed.listed-items c.loop-listed.listed-index none _ within)
