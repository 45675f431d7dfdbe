use Rattle.std.proofs.Common.{sym, ◌∙◌, ap, arith, max, ◌≡◌, ◌≢◌, ◌<◌, length}
use Rattle.std.proofs.Math.ListN.{set}
use Rattle.partition_protocol.specs.Node.{Acknowledged, with_ack}
use Rattle.primary_hold.proofs.AckLists.{found_value, passed_value, passed_other}
use Rattle.primary_hold.proofs.acks.keep_in.Goals as goal

pub returns-then-had-member-clause-list : goal.returns-then-had-member-clause-list
returns-then-had-member-clause-list c =
    let l : c.loop-place.place < length c.loop-place.acks.items = omega arith in
    let seen : c.had.inside.count ≡ c.index-had.result.now.count = ap (λ (a : Acknowledged). a.count) c.had.view_is in
    let is : c.index-had.result.now.member ≡ c.args.member = ap (λ (a : Acknowledged). a.member) (sym c.had.view_is) ∙ c.if-had-member.true in
    ap (λ k. let z : Acknowledged = record { member = c.args.member; count = k } in set c.loop-place.acks.items c.loop-place.place z) (c.max-greatest.ensures ∙ ap (max c.args.count) seen)
    ∙ found_value c.args.member c.args.count c.loop-place.place c.index-had.result.now c.loop-place.acks.items l c.index-had.ensures is c.loop-place.invariant.kept
    ∙ ap (λ xs. with_ack c.args.member c.args.count xs) c.loop-place.invariant.same

pub loop-place-preserved : goal.loop-place-preserved
loop-place-preserved c =
    let l : c.loop-place.place < length c.loop-place.acks.items = omega arith in
    let other : c.index-had.result.now.member ≢ c.args.member = λ e. c.if-had-member.false (ap (λ (a : Acknowledged). a.member) c.had.view_is ∙ e) in
    record {
      same = c.loop-place.invariant.same;
      capacity = c.loop-place.invariant.capacity;
      kept = passed_value c.args.member c.args.count c.loop-place.place c.index-had.result.now c.loop-place.acks.items l c.index-had.ensures other c.loop-place.invariant.kept;
      others = passed_other c.args.member c.loop-place.place c.index-had.result.now c.loop-place.acks.items l c.index-had.ensures other c.loop-place.invariant.others;
    }
