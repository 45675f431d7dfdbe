use Rattle.std.proofs.Common.{◌∙◌, sym}
use Rattle.partition_world.proofs.AtPlaces.{length_at}
use Rattle.partition_world.proofs.history.Trail.len.Goals as goal

pub returns : goal.returns
returns g c = rw (← c.self.view_is) (c.len.ensures ∙ c.self.invariant.0 ∙ sym (length_at c.self.inside.log.now c.self.inside.places.items c.self.invariant.1))
