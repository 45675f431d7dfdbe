use Rattle.std.proofs.Common.{sym, ap, ◌∙◌, subst}
use Rattle.near_cache.specs.Caches.{Cache, closed}
use Rattle.grid_client.specs.Lists.{erased_by}
use Rattle.grid_client.specs.Nears.{near_of, AreOpen}
use Rattle.grid_client.proofs.Nears.{has, is_open_taken, open_erased, open_after, closed_after, nothing_closed}
use Rattle.grid_client.proofs.near.NearMap.give_up.Goals as goal

pub give_up-requires : goal.give_up-requires
give_up-requires c = is_open_taken c.self.inside.cache.waiting c.args.number c.self.inside.awaited.items c.in-Some.reservation c.self.invariant c.in-Some.ensures.value

pub invariant_of-self : goal.invariant_of-self
invariant_of-self c =
    let i = c.self.inside in
    subst (λ as_. AreOpen c.give_up.new.self.waiting as_) (sym c.take_out.ensures.items)
    (subst (λ (x : Cache). AreOpen x.waiting (erased_by (has c.args.number) i.awaited.items)) (sym c.give_up.ensures)
    (open_after i.cache.waiting c.args.number i.awaited.items c.in-Some.reservation c.self.invariant c.in-Some.ensures.value))

pub returns-in-Some : goal.returns-in-Some
returns-in-Some c =
    let i = c.self.inside in
    rw (← c.self.view_is) (ap (λ (x : Cache). near_of i.name x c.take_out.new.awaited.items) c.give_up.ensures
    ∙ ap (near_of i.name (closed c.in-Some.reservation i.cache)) c.take_out.ensures.items
    ∙ closed_after c.args.number i.name i.cache i.awaited.items c.in-Some.reservation c.self.invariant c.in-Some.ensures.value)

pub invariant_of-self-in-None : goal.invariant_of-self-in-None
invariant_of-self-in-None c = subst (AreOpen c.self.inside.cache.waiting) (sym c.take_out.ensures.items) (open_erased c.self.inside.cache.waiting (has c.args.number) c.self.inside.awaited.items c.self.invariant)

pub returns-in-None : goal.returns-in-None
returns-in-None c =
    let i = c.self.inside in
    rw (← c.self.view_is) (ap (near_of i.name i.cache) c.take_out.ensures.items ∙ nothing_closed c.args.number i.name i.cache i.awaited.items c.self.invariant c.in-None.ensures.value)
