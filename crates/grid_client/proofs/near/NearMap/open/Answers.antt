use Rattle.std.proofs.Common.{◌≡◌, ◌++◌, ◌∷◌, [], List, None, sym, ap, ◌∙◌, subst}
use Rattle.near_cache.specs.declared.look_up.LookUp.{LookUp}
use Rattle.near_cache.specs.Caches.{Cache, opened}
use Rattle.grid_client.specs.Nears.{near_of, AreOpen}
use Rattle.grid_client.specs.declared.near.Awaited.{Awaited}
use Rattle.grid_client.proofs.Nears.{opened_seen, opened_open}
use Rattle.grid_client.proofs.near.NearMap.open.Goals as goal

pub invariant_of-self-2 : goal.invariant_of-self-2
invariant_of-self-2 c =
    let i = c.self.inside in
    let n = c.in_ok-reservation.reservation in
    let a : Awaited = record { number = c.args.number; reservation = n } in
    let r : LookUp = record { key = c.args.key; overtaken = None } in
    let items : c.push.new.self.items ≡ i.awaited.items ++ a ∷ [] = c.in_ok-push.ensures.items ∙ ap (λ (l : List Awaited). l ++ a ∷ []) c.in_ok-reserve.ensures.items in
    subst (λ as_. AreOpen c.reserve-2.new.self.waiting as_) (sym items)
    (subst (λ (x : Cache). AreOpen x.waiting (i.awaited.items ++ a ∷ [])) (sym c.in_ok-reservation.ensures.ok)
    (opened_open c.args.number n r i.cache.waiting i.awaited.items c.in_ok-reservation.ensures.fresh c.self.invariant))

pub returns-clause-ok : goal.returns-clause-ok
returns-clause-ok c =
    let i = c.self.inside in
    let n = c.in_ok-reservation.reservation in
    let a : Awaited = record { number = c.args.number; reservation = n } in
    let items : c.push.new.self.items ≡ i.awaited.items ++ a ∷ [] = c.in_ok-push.ensures.items ∙ ap (λ (l : List Awaited). l ++ a ∷ []) c.in_ok-reserve.ensures.items in
    rw (← c.self.view_is) (ap (λ (x : Cache). near_of i.name x c.push.new.self.items) c.in_ok-reservation.ensures.ok
    ∙ ap (near_of i.name (opened n c.args.key i.cache)) items
    ∙ opened_seen c.args.number n c.args.key i.name i.cache i.awaited.items c.in_ok-reservation.ensures.fresh c.self.invariant)
