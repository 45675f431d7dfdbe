use Rattle.std.proofs.Common.{◌≤◌, length, refl, sym, subst, arith}
use Rattle.session_calls.specs.Passes.{ArePassesOf, giving_up, given}
use Rattle.session_calls.proofs.Marching.{untouched, written_more, made_more, made_all}
use Rattle.session_calls.proofs.OfCells.{kept_split, same_cells}
use Rattle.session_calls.proofs.sharing.split_passes.Goals as goal

pub split_at-requires-clause-may : goal.split_at-requires-clause-may
split_at-requires-clause-may g c κs within = λ pass there. c.requires.may c.loop-at.at pass (untouched (giving_up c.args.names) c.loop-at.at c.args.passes.now.items c.loop-at.passes.items pass c.loop-at.invariant.left there)

pub loop-at-preserved : goal.loop-at-preserved
loop-at-preserved g c =
    let was = c.loop-at.invariant in
    let has = c.split_at.ensures in
    let old = c.args.passes.now.items in
    let now = c.loop-at.passes.items in record {
      left = written_more (giving_up c.args.names) c.loop-at.at old now _ has.pass was.left has.there has.left;
      parts = made_more (given c.args.names) c.loop-at.at old c.loop-at.parts.items _ has.pass _ was.parts (untouched (giving_up c.args.names) c.loop-at.at old now has.pass was.left has.there) has.part_is c.push_reserved.ensures.items;
      of_cells = kept_split c.args.place.now.cells.items c.args.names now _ c.loop-at.at c.split_at.result was.of_cells has;
      room = rw c.push_reserved.ensures.capacity was.room;
    }

pub returns-clause-of_cells : goal.returns-clause-of_cells
returns-clause-of_cells g c =
    let old = c.args.passes.now.items in
    let cells = c.args.place.now.cells.items in
    let all : length old ≤ c.loop-at.at = let end = c.loop-at-test.false in let long = c.args.passes.now.ok.0 in omega arith in
    subst (ArePassesOf cells) (sym (made_all (given c.args.names) c.loop-at.at old c.loop-at.parts.items all c.loop-at.invariant.parts)) (same_cells cells (given c.args.names) (λ p. refl) old c.requires.passes)
