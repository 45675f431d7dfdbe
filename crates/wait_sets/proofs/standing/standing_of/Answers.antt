use Rattle.std.proofs.Common.{◌≡◌, true, sym, ◌∙◌}
use Rattle.grid_base.specs.Shelves.{meaning}
use Rattle.partition_protocol.specs.World.{is_live}
use Rattle.partition_world.specs.Worlds.{run_of}
use Rattle.wait_sets.proofs.Worlds.{serves_or_refuses, is_gone}
use Rattle.wait_sets.proofs.standing.standing_of.Goals as goal

pub returns-then-is_live : goal.returns-then-is_live
returns-then-is_live g c = λ plan events stands.
    let S = g.S.Shelf in
    let k = meaning S.model plan in
    let live : is_live (run_of k c.args.world.now events) c.args.member ≡ true = sym (c.is_live.ensures plan events stands) ∙ c.if-is_live.true in
    serves_or_refuses k g.R.Records.records S.model.within_limits c.args.world.now events c.args.member stands c.standing_by.result c.requires live
    (λ node there. c.standing_by.ensures node (c.known.ensures plan events stands node there) (c.is_frozen.ensures plan events stands node there))

pub returns-else-is_live : goal.returns-else-is_live
returns-else-is_live g c = λ plan events stands.
    let S = g.S.Shelf in
    let k = meaning S.model plan in
    is_gone k g.R.Records.records S.model.within_limits c.args.world.now events c.args.member stands (sym (c.is_live.ensures plan events stands) ∙ c.if-is_live.false)
