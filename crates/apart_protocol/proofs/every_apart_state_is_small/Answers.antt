-- What a shelf may have after so many calls is counted by its laws.
use Rattle.apart_protocol.proofs.every_apart_state_is_small.Goals as goal
use Rattle.apart_protocol.proofs.Sizes.{counted_by, every_apart_state_is_small}

pub returns : goal.returns
returns g c plan =
    let model = g.S.Shelf.model in
    let laws = g.met.S.Shelf in
    every_apart_state_is_small (model.object plan) model.within_limits model.within
    (counted_by (model.object plan) model.within_limits model.within model.empty_state (laws.begins_empty plan) laws.begins_within (laws.grows_within plan) laws.widens)
