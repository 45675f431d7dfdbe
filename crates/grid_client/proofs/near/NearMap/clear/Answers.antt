use Rattle.std.proofs.Common.{sym, ap, ◌∙◌, subst}
use Rattle.near_cache.specs.declared.look_up.Overtaking.{Overtaking}
use Rattle.near_cache.specs.Scopes.{is_in_partition}
use Rattle.near_cache.specs.Caches.{Cache}
use Rattle.grid_client.specs.Nears.{near_of, AreOpen}
use Rattle.grid_client.proofs.Nears.{dropping_seen, dropping_open}
use Rattle.grid_client.proofs.near.NearMap.clear.Goals as goal

pub invariant_of-self-2 : goal.invariant_of-self-2
invariant_of-self-2 c =
    let i = c.self.inside in
    let by : Overtaking = record { version = c.args.version; number = 0 } in
    subst (λ (x : Cache). AreOpen x.waiting i.awaited.items) (sym c.in_ok-clear_partition.ensures.ok) (dropping_open (is_in_partition c.args.partition) by i.cache.waiting i.awaited.items c.self.invariant)

pub returns-clause-ok : goal.returns-clause-ok
returns-clause-ok c =
    let i = c.self.inside in
    let by : Overtaking = record { version = c.args.version; number = 0 } in
    rw (← c.self.view_is) (ap (λ (x : Cache). near_of i.name x i.awaited.items) c.in_ok-clear_partition.ensures.ok ∙ dropping_seen (is_in_partition c.args.partition) by i.name i.cache i.awaited.items)
