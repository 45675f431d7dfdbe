use Rattle.std.proofs.Common.{ap, sym, ◌∙◌, max, Some, unwrap_or}
use Rattle.partition_protocol.specs.Node.{acked_by}
use Rattle.partition_protocol.proofs.RowFacts.{number_other}
use Rattle.primary_hold.specs.Views.{with_latest}
use Rattle.primary_hold.proofs.Latest.{latest_same, latest_other}
use Rattle.primary_hold.proofs.view.View.acked_here.Goals as goal

pub returns-then-latest-member : goal.returns-then-latest-member
returns-then-latest-member c =
    let acks = c.args.self.now.acks.now in
    ap Some (c.max.ensures ∙ ap (max c.in-Some.count) (c.unwrap_or.ensures ∙ ap (λ o. unwrap_or o 0) c.acked_by-before.ensures))
    ∙ latest_same c.args.member c.in-Some.latest c.in-Some.count acks c.if-latest-member.true
    ∙ ap (λ o. acked_by c.args.member (with_latest o acks)) (sym c.in-Some.is)

pub returns-else-latest-member : goal.returns-else-latest-member
returns-else-latest-member c =
    let acks = c.args.self.now.acks.now in
    c.acked_by-before.ensures
    ∙ latest_other c.args.member c.in-Some.latest c.in-Some.count acks (number_other c.in-Some.latest c.args.member c.if-latest-member.false)
    ∙ ap (λ o. acked_by c.args.member (with_latest o acks)) (sym c.in-Some.is)
