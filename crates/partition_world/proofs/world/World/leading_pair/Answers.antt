-- The standing row may have no first member, and a number is that of a member only where a node stands.
use Rattle.std.proofs.Common.{◌≡◌, ◌≤◌, length, Some, slice_get, ap, sym, ◌∙◌, arith}
use Rattle.partition_world.proofs.Places.{stands_there}
use Rattle.partition_world.proofs.Leaders.{leading_none, leading_past, leading_at}
use Rattle.partition_world.proofs.world.World.leading_pair.Goals as goal

pub returns-in_err-leader : goal.returns-in_err-leader
returns-in_err-leader g c r kept = c.from_residual.ensures ∙ leading_none c.args.self.now _ (c.in_err-leader.ensures r kept)

pub returns-in_err-node : goal.returns-in_err-node
returns-in_err-node g c r kept =
    let nodes = c.args.self.now.nodes.items in
    let past = c.in_err-node.ensures.lookup.3 in
    let same = ap (λ (ns : _). length ns) c.deref.ensures.value in
    let beyond : length nodes ≤ c.in_ok-leader.leader = omega (arith, past, same, c.from.ensures) in
    c.from_residual-in_err-node.ensures ∙ leading_past c.args.self.now _ c.in_ok-leader.leader (c.in_ok-leader.ensures r kept) beyond

pub returns : goal.returns
returns g c r kept =
    let nodes = c.args.self.now.nodes.items in
    let node = c.in_ok-node.node.now in
    let found = c.in_ok-node.ensures.lookup in
    let there : slice_get c.deref.result.now c.in_ok-leader.leader ≡ Some node = stands_there c.deref.result.now c.in_ok-leader.leader c.from.result node c.from.ensures (omega (arith, found.3.0, c.from.ensures)) found.1 in
    leading_at c.args.self.now _ c.in_ok-leader.leader node c.contents.result.pair (c.in_ok-leader.ensures r kept)
    (ap (λ ns. slice_get ns c.in_ok-leader.leader) (sym c.deref.ensures.value) ∙ there) c.contents.ensures.pair
