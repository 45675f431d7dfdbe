use Rattle.std.proofs.Common.{[]}
use Rattle.std.proofs.lemmas.Result.{err_from_is_err_and}
use Rattle.member_wire.specs.Reading.{members_at}
use Rattle.member_wire.proofs.Loop.{goes_on, ends, is_done}
use Rattle.member_wire.proofs.reading.read_row_members.Goals as goal

pub returns-in_err-member : goal.returns-in_err-member
returns-in_err-member c =
    let p = err_from_is_err_and c.from_residual-in_err-member.result c.from_residual-in_err-member.ensures.1 in
    rw (p.1, p.2)
    (ends c.in_err-member.field-0.0 c.loop.listed.items c.args.count c.loop.counter c.loop.from (members_at [] c.args.count c.args.from.now) c.loop-test.true (rw c.as_slice.ensures.value at c.in_err-member.ensures) c.loop.invariant)

pub loop-preserved : goal.loop-preserved
loop-preserved c =
    rw c.in_ok-push.ensures.items
    (goes_on c.loop.listed.items c.args.count c.loop.counter c.loop.from c.read_row_member.new.from c.in_ok-member.member (members_at [] c.args.count c.args.from.now) c.loop-test.true (rw c.as_slice.ensures.value at c.in_ok-member.ensures) c.loop.invariant)

pub returns : goal.returns
returns c =
    rw c.from_vec.ensures
    (is_done c.loop.listed.items c.args.count c.loop.counter c.loop.from (members_at [] c.args.count c.args.from.now) c.loop-test.false c.loop.invariant)
