use Rattle.std.proofs.Common.{bytes_eq, not, ap, sym, ◌∙◌, subst}
use Rattle.lru.specs.LruCache.{IsValid, lru_cache}
use Rattle.near_cache.specs.Caches.{Kept, is_for}
use Rattle.near_cache.proofs.Waiting.{overtaken_slots}
use Rattle.near_cache.proofs.Keeping.{remove_is, valid_filter}
use Rattle.near_cache.proofs.Answering.{seen_both}
use Rattle.near_cache.proofs.cache.NearCache.invalidate.Goals as goal

pub invariant_of-self : goal.invariant_of-self
invariant_of-self c =
    let es = c.self.inside.entries in
    let after = c.pop.ensures.entries ∙ ap (λ l. lru_cache l es.cap) (remove_is c.args.key.now es.entries c.self.invariant.0) in
    subst (IsValid bytes_eq) (sym after) (valid_filter es (λ (e : Kept). not (is_for c.args.key.now e)) c.self.invariant)

pub returns : goal.returns
returns c =
    let es = c.self.inside.entries in
    let after = c.pop.ensures.entries ∙ ap (λ l. lru_cache l es.cap) (remove_is c.args.key.now es.entries c.self.invariant.0) in
    let look_ups = overtaken_slots (bytes_eq c.args.key.now) (record { version = c.args.version; number = c.args.number }) c.self.inside.waiting c.overtake_all.new.waiting c.overtake_all.ensures in
    rw (← c.self.view_is) (seen_both _ _ _ _ after look_ups)
