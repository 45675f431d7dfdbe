use Rattle.std.proofs.Common.{◌≤◌, ◌+◌, ◌*◌, ◌∷◌, [], ◌++◌}
use Rattle.link_net.specs.Links.{Net, spare_of}
use Rattle.link_net.proofs.Nets.{room_stands, list_put, spare_put}
use Rattle.link_net.proofs.links.Links.send.Goals as goal

pub returns-clause-lists : goal.returns-clause-lists
returns-clause-lists c =
    let net : Net = record { ends = c.self.inside.ends; lanes = c.self.inside.lanes.items } in
    let room : 1 ≤ spare_of net c.args.from c.args.to = rw (← c.self.view_is) at c.requires in
    rw (← c.self.view_is)
    (list_put net c.self.invariant.1 c.args.from c.args.to (c.args.from * net.ends + c.args.to) (room_stands net c.args.from c.args.to room) c.send.new.self
    c.index_mut-lane.result.now c.index_mut-lane.ensures.value (λ list. list ++ c.args.bytes ∷ []) c.send.ensures.list)

pub returns-clause-spare : goal.returns-clause-spare
returns-clause-spare c =
    let net : Net = record { ends = c.self.inside.ends; lanes = c.self.inside.lanes.items } in
    let room : 1 ≤ spare_of net c.args.from c.args.to = rw (← c.self.view_is) at c.requires in
    rw (← c.self.view_is)
    (spare_put net c.self.invariant.1 c.args.from c.args.to (c.args.from * net.ends + c.args.to) (room_stands net c.args.from c.args.to room) c.send.new.self
    c.index_mut-lane.result.now c.index_mut-lane.ensures.value c.send.ensures.spare)
