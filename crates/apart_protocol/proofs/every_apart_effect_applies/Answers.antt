-- The bytes of a shelf's effects are those of its laws.
use Rattle.apart_protocol.proofs.every_apart_effect_applies.Goals as goal
use Rattle.apart_protocol.proofs.Sizes.{counted_by, every_apart_effect_applies}

pub returns : goal.returns
returns g c plan =
    let model = g.S.Shelf.model in
    let laws = g.met.S.Shelf in
    every_apart_effect_applies (model.object plan) model.within_limits model.within (model.effect_of plan) model.applied
    (record {
      counted = counted_by (model.object plan) model.within_limits model.within model.empty_state (laws.begins_empty plan) laws.begins_within (laws.grows_within plan) laws.widens;
      changes = laws.changes_by_effect plan;
      made = laws.made_by_effect plan;
    })
