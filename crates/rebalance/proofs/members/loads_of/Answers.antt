use Rattle.std.proofs.Common.{◌≡◌, ◌<◌, Some, None, take, length, slice_get, sym, ◌∙◌, ap, arith}
use Rattle.std.proofs.lemmas.List.{length-take, get_or_read}
use Rattle.std.proofs.lemmas.List.Sums.{count_by-le-length}
use Rattle.rebalance.specs.Rows.{primaries, primary_of}
use Rattle.rebalance.specs.Members.{is_for}
use Rattle.rebalance.proofs.RowFacts.{row_get, primary_get, loads_more_none, loads_written}
use Rattle.rebalance.proofs.members.loads_of.Goals as goal
use Rattle.rebalance.proofs.members.loads_of.Goals.{in-Some, in_default}

pub index_mut-requires : goal.index_mut-requires
index_mut-requires c =
    let at : slice_get (primaries c.args.rows.now) c.loop-row.row-index ≡ Some (Some c.in-Some.primary) = primary_get c.args.rows.now c.loop-row.row-index c.row-item.result (row_get c.args.rows.now c.loop-row.row-index c.row-item.result (omega arith) c.row-item.is) ∙ ap Some (sym c.in-Some.ensures) in
    omega (arith, c.requires.sound c.loop-row.row-index c.in-Some.primary at)

pub overflow_add-index_mut : goal.overflow_add-index_mut
overflow_add-index_mut c =
    let at : slice_get (primaries c.args.rows.now) c.loop-row.row-index ≡ Some (Some c.in-Some.primary) = primary_get c.args.rows.now c.loop-row.row-index c.row-item.result (row_get c.args.rows.now c.loop-row.row-index c.row-item.result (omega arith) c.row-item.is) ∙ ap Some (sym c.in-Some.ensures) in
    let within : c.in-Some.primary < c.args.members = c.requires.sound c.loop-row.row-index c.in-Some.primary at in
    let inside : c.from-in-Some.result < length c.loop-row.loads.items = omega arith in
    omega (arith, get_or_read c.loop-row.loads.items c.from-in-Some.result c.index_mut.result.now inside c.index_mut.ensures.value 0, c.loop-row.invariant.1 c.from-in-Some.result, count_by-le-length (is_for c.from-in-Some.result) (take c.loop-row.row-index (primaries c.args.rows.now)), length-take c.loop-row.row-index (primaries c.args.rows.now))

pub loop-row-preserved : goal.loop-row-preserved
loop-row-preserved c =
    let at : slice_get (primaries c.args.rows.now) c.loop-row.row-index ≡ Some (primary_of c.row-item.result) = primary_get c.args.rows.now c.loop-row.row-index c.row-item.result (row_get c.args.rows.now c.loop-row.row-index c.row-item.result (omega arith) c.row-item.is) in
    elim c.match-primary_of.branch [
      | in-Some w ↦
          let here : slice_get (primaries c.args.rows.now) c.loop-row.row-index ≡ Some (Some w.in-Some.primary) = at ∙ ap Some (sym w.in-Some.ensures) in
          rw w.loads-is (loads_written (primaries c.args.rows.now) c.loop-row.row-index w.in-Some.primary w.from-in-Some.result w.index_mut.result.now c.args.members c.loop-row.loads.items here w.from-in-Some.ensures w.index_mut.ensures.value (c.requires.sound c.loop-row.row-index w.in-Some.primary here) c.loop-row.invariant.0 c.loop-row.invariant.1)
      | in_default w ↦
          let here : slice_get (primaries c.args.rows.now) c.loop-row.row-index ≡ Some None = at ∙ ap Some (sym c.primary_of.ensures ∙ w.in_default.is) in
          rw w.loads-is (c.loop-row.invariant.0, loads_more_none (primaries c.args.rows.now) c.loop-row.row-index c.loop-row.loads.items here c.loop-row.invariant.1)
    ]
