-- The recorder counts the trail of the standing row's first member.
use Rattle.std.proofs.Common.{◌≡◌, ◌∙◌, length, ap, sym}
use Rattle.partition_protocol.specs.World.{trail}
use Rattle.grid_base.specs.Shelves.{meaning}
use Rattle.partition_world.specs.Recorders.{KeepsAll, trail_by}
use Rattle.partition_world.specs.Worlds.{run_of}
use Rattle.partition_world.proofs.Leaders.{trail_found}
use Rattle.partition_world.proofs.readers.World+S+Recorder+S+Call.trail_len.Goals as goal

pub returns : goal.returns
returns g c plan events stands =
    let S = g.S.Shelf in
    let k = meaning S.model plan in
    let world = c.args.self.now in
    let w = run_of k world events in
    let told : trail_by w.recorded c.leading_pair.result ≡ trail w =
    ap (trail_by w.recorded) (c.leading_pair.ensures w.recorded stands.agrees.recorded) ∙ sym (trail_found k KeepsAll world w stands.agrees) in
    c.trail_len.ensures w.recorded stands.agrees.recorded ∙ ap length told
