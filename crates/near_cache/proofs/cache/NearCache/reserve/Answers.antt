use Rattle.std.proofs.Common.{None, ap, ◌∙◌}
use Rattle.near_cache.proofs.Waiting.{get_slot, inserted}
use Rattle.near_cache.proofs.Answering.{seen_as}
use Rattle.near_cache.proofs.cache.NearCache.reserve.Goals as goal

pub returns-clause-fresh : goal.returns-clause-fresh
returns-clause-fresh c = rw (← c.self.view_is) (get_slot c.self.inside.waiting.slots c.in_ok-number.number ∙ c.in_ok-number.ensures.was_vacant)

pub returns-clause-ok : goal.returns-clause-ok
returns-clause-ok c =
    let was = c.self.inside in
    let look_ups = inserted was.waiting c.insert.new.self c.in_ok-number.number (record { key = c.args.key; overtaken = None }) c.in_ok-number.ensures.updates in
    rw (← c.self.view_is) (ap (seen_as was.entries) look_ups)
