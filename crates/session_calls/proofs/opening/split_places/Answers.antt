use Rattle.std.proofs.Common.{◌≤◌, Some, length, ap, arith}
use Rattle.hand_cell.specs.declared.names.Names.TheVariants.{One}
use Rattle.session_calls.specs.Passes.{giving_up, given}
use Rattle.session_calls.proofs.Marching.{untouched, written_more, made_more, made_all}
use Rattle.session_calls.proofs.OfCells.{kept_split}
use Rattle.session_calls.proofs.opening.split_places.Goals as goal

pub split_at-requires-clause-may : goal.split_at-requires-clause-may
split_at-requires-clause-may g c κs within = λ pass there. c.requires.named c.loop-at.at pass (untouched (giving_up (One c.args.conn)) c.loop-at.at c.args.passes.now.items c.loop-at.passes.items pass c.loop-at.invariant.left there)

pub loop-at-preserved : goal.loop-at-preserved
loop-at-preserved g c =
    let was = c.loop-at.invariant in
    let has = c.split_at.ensures in
    let old = c.args.passes.now.items in
    let now = c.loop-at.passes.items in
    let number = One c.args.conn in record {
      left = written_more (giving_up number) c.loop-at.at old now _ has.pass was.left has.there has.left;
      parts = made_more (λ pass. Some (given number pass)) c.loop-at.at old c.loop-at.parts.items _ has.pass _ was.parts (untouched (giving_up number) c.loop-at.at old now has.pass was.left has.there) (ap Some has.part_is) c.push_reserved.ensures.items;
      of_cells = kept_split c.args.place.now.cells.items number now _ c.loop-at.at c.split_at.result was.of_cells has;
      room = rw c.push_reserved.ensures.capacity was.room;
    }

pub returns-clause-parts : goal.returns-clause-parts
returns-clause-parts g c =
    let old = c.args.passes.now.items in
    let all : length old ≤ c.loop-at.at = let end = c.loop-at-test.false in let long = c.args.passes.now.ok.0 in omega arith in
    made_all (λ pass. Some (given (One c.args.conn) pass)) c.loop-at.at old c.loop-at.parts.items all c.loop-at.invariant.parts
