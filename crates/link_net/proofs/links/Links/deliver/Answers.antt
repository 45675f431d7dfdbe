use Rattle.std.proofs.Common.{sym}
use Rattle.std.specs.Prelude.{remove}
use Rattle.link_net.proofs.Nets.{lowers_none, list_put}
use Rattle.link_net.proofs.links.Links.deliver.Goals as goal

pub returns-clause-lists : goal.returns-clause-lists
returns-clause-lists c =
    rw (← c.self.view_is)
    (list_put (record { ends = c.self.inside.ends; lanes = c.self.inside.lanes.items }) c.self.invariant.1 c.args.from c.args.to c.in_ok-at.at (sym c.in_ok-at.ensures.place) c.take-taken.new.self
    c.index_mut-lane.result.now c.index_mut-lane.ensures.value (λ list. remove list c.args.place) c.take-taken.ensures.list)

pub returns-clause-spare : goal.returns-clause-spare
returns-clause-spare c =
    rw (← c.self.view_is)
    (lowers_none (record { ends = c.self.inside.ends; lanes = c.self.inside.lanes.items }) c.self.invariant.1 c.args.from c.args.to c.in_ok-at.at (sym c.in_ok-at.ensures.place) c.take-taken.new.self
    c.index_mut-lane.result.now c.index_mut-lane.ensures.value c.take-taken.ensures.spare)
