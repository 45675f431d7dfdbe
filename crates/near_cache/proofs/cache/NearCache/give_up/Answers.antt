use Rattle.std.proofs.Common.{IsSome, subst, ap}
use Rattle.near_cache.proofs.Waiting.{get_slot, removed}
use Rattle.near_cache.proofs.Answering.{seen_as}
use Rattle.near_cache.proofs.cache.NearCache.give_up.Goals as goal

pub remove-requires : goal.remove-requires
remove-requires c = subst (λ o. IsSome o) (get_slot c.self.inside.waiting.slots c.reservation.inside.number) (rw (← c.self.view_is, ← c.reservation.view_is) at c.requires)

pub returns : goal.returns
returns c =
    let was = c.self.inside in
    let look_ups = removed was.waiting c.remove.new.self c.reservation.inside.number c.remove.ensures.updates in
    rw (← c.self.view_is, ← c.reservation.view_is) (ap (seen_as was.entries) look_ups)
