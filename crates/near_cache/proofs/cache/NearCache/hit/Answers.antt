use Rattle.std.proofs.Common.{bytes_eq, refl, sym, ap, ◌∙◌, subst}
use Rattle.lru.specs.LruCache.{IsValid, lru_cache}
use Rattle.near_cache.proofs.Keeping.{hit_is, promoted_is, valid_used}
use Rattle.near_cache.proofs.Answering.{seen_both}
use Rattle.near_cache.proofs.cache.NearCache.hit.Goals as goal

pub invariant_of-self : goal.invariant_of-self
invariant_of-self c =
    let es = c.self.inside.entries in
    let key = c.args.key.now in
    let after = c.get.follows.holds-at-none ∙ ap (λ l. lru_cache l es.cap) (promoted_is key es.entries c.self.invariant.0) in
    subst (IsValid bytes_eq) (sym after) (valid_used es key c.self.invariant)

pub returns : goal.returns
returns c =
    let es = c.self.inside.entries in
    let key = c.args.key.now in
    let after = c.get.follows.holds-at-none ∙ ap (λ l. lru_cache l es.cap) (promoted_is key es.entries c.self.invariant.0) in
    rw (← c.self.view_is) ((refl, λ _. tt, seen_both _ _ _ _ after refl), record { value = c.get.ensures.value ∙ sym (hit_is key es.entries); after = tt })
