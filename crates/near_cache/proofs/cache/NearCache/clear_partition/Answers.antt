use Rattle.std.proofs.Common.{bytes_eq, not, sym, subst}
use Rattle.lru.specs.LruCache.{IsValid}
use Rattle.near_cache.specs.declared.look_up.Overtaking.{Overtaking}
use Rattle.near_cache.specs.Caches.{Kept}
use Rattle.near_cache.specs.Scopes.{is_in_partition}
use Rattle.near_cache.proofs.Waiting.{overtaken_slots}
use Rattle.near_cache.proofs.Keeping.{valid_filter}
use Rattle.near_cache.proofs.Answering.{seen_both}
use Rattle.near_cache.proofs.cache.NearCache.clear_partition.Goals as goal

pub invariant_of-self-2 : goal.invariant_of-self-2
invariant_of-self-2 c =
    subst (IsValid bytes_eq) (sym c.in_ok-clear_partition.ensures.ok) (valid_filter c.self.inside.entries (λ (e : Kept). not (is_in_partition c.args.partition e.0)) c.self.invariant)

pub returns-clause-ok : goal.returns-clause-ok
returns-clause-ok c =
    let row : Overtaking = record { version = c.args.version; number = 0 } in
    let look_ups = overtaken_slots (is_in_partition c.args.partition) row c.self.inside.waiting c.overtake_all.new.waiting c.overtake_all.ensures in
    rw (← c.self.view_is) (seen_both _ _ _ _ c.in_ok-clear_partition.ensures.ok look_ups)
