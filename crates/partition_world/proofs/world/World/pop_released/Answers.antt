-- One answer less waits at the member, and nothing else changed.
use Rattle.std.proofs.Common.{◌≡◌, ◌<◌, length, Some, slice_get, slice_set, refl, ap, arith}
use Rattle.partition_world.specs.declared.world.World.{World}
use Rattle.grid_base.specs.Shelves.{meaning}
use Rattle.partition_world.proofs.Places.{stands_there}
use Rattle.partition_world.proofs.Given.{Gives, given_released, still_stands}
use Rattle.std.specs.Vec.{with_item}
use Rattle.partition_world.proofs.world.World.pop_released.Goals as goal

pub returns-clause-released : goal.returns-clause-released
returns-clause-released g c plan events stands =
    let S = g.S.Shelf in
    let old = c.args.self.now in
    let m = c.args.member in
    let node = c.in_ok-get_mut.field-0.now in
    let read = c.in_ok-get_mut.ensures.item in
    let inside : m < length old.nodes.items = omega (arith, read.3.0, c.from.ensures) in
    let there : slice_get old.nodes.items m ≡ Some node = stands_there old.nodes.items m c.from.result node c.from.ensures inside read.1 in
    let told = c.pop_released.ensures in
    let gives : Gives S.model.state node c.pop_released.new.self c.pop_released.result = record { answers = told.given; held = told.held; same = told.node; contents = told.contents; ring = told.ring; ends = told.ends } in
    given_released (meaning S.model plan) g.R.Records.records S.model.within_limits old events stands m node c.pop_released.new.self there c.pop_released.result gives

pub returns-clause-stands : goal.returns-clause-stands
returns-clause-stands g c plan events stands =
    let S = g.S.Shelf in
    let old = c.args.self.now in
    let m = c.args.member in
    let node = c.in_ok-get_mut.field-0.now in
    let read = c.in_ok-get_mut.ensures.item in
    let inside : m < length old.nodes.items = omega (arith, read.3.0, c.from.ensures) in
    let there : slice_get old.nodes.items m ≡ Some node = stands_there old.nodes.items m c.from.result node c.from.ensures inside read.1 in
    let told = c.pop_released.ensures in
    let gives : Gives S.model.state node c.pop_released.new.self c.pop_released.result = record { answers = told.given; held = told.held; same = told.node; contents = told.contents; ring = told.ring; ends = told.ends } in
    let new : World _ _ _ _ = record old { nodes = with_item old.nodes c.from.result c.pop_released.new.self } in
    still_stands (meaning S.model plan) g.R.Records.records S.model.within_limits old events stands m node c.pop_released.new.self there c.pop_released.result gives new refl refl
    (ap (λ i. slice_set old.nodes.items i c.pop_released.new.self) c.from.ensures)
