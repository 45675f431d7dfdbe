use Rattle.std.proofs.Common.{◌≡◌, ◌∙◌, ◌*◌, sym, subst, arith}
use Rattle.link_net.specs.Counting.{AreCountsOf}
use Rattle.link_net.proofs.Counting.{none_counted}
use Rattle.link_net.proofs.links.Links.new.Goals as goal

pub invariant_of-result : goal.invariant_of-result
invariant_of-result c =
    let all : c.loop.counter ≡ c.args.ends * c.args.ends = omega (arith, c.loop-test.false, c.loop.auto.counter-end) in (
      c.loop.invariant.0 ∙ all,
      c.loop.invariant.1 ∙ all,
      subst (AreCountsOf c.loop.lanes.items) (sym c.in_ok-tally.ensures) (none_counted c.loop.lanes.items _ c.loop.invariant.2 (omega (arith, c.loop.invariant.1, all))),
    )
