use Rattle.std.proofs.Common.{bytes_eq, sym, ap, ◌∙◌, subst}
use Rattle.near_cache.specs.declared.look_up.Overtaking.{Overtaking}
use Rattle.near_cache.specs.Caches.{Cache}
use Rattle.grid_client.specs.Nears.{near_of, AreOpen}
use Rattle.grid_client.proofs.Nears.{dropping_seen, dropping_open}
use Rattle.grid_client.proofs.near.NearMap.invalidate.Goals as goal

pub invariant_of-self : goal.invariant_of-self
invariant_of-self c =
    let i = c.self.inside in
    let by : Overtaking = record { version = c.args.version; number = c.args.number } in
    subst (λ (x : Cache). AreOpen x.waiting i.awaited.items) (sym c.invalidate.ensures) (dropping_open (bytes_eq c.args.key.now) by i.cache.waiting i.awaited.items c.self.invariant)

pub returns : goal.returns
returns c =
    let i = c.self.inside in
    let by : Overtaking = record { version = c.args.version; number = c.args.number } in
    rw (← c.self.view_is) (ap (λ (x : Cache). near_of i.name x i.awaited.items) c.invalidate.ensures ∙ dropping_seen (bytes_eq c.args.key.now) by i.name i.cache i.awaited.items)
