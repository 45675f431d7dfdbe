use Rattle.std.proofs.Common.{◌+◌, ◌∷◌, filter, not, drop, ap, sym, ◌∙◌}
use Rattle.std.proofs.lemmas.List.{drop_more, drop_all}
use Rattle.std.specs.Map.{keys_of}
use Rattle.lru.specs.LruCache.{LruCache, lru_cache}
use Rattle.near_cache.specs.Caches.{Kept}
use Rattle.near_cache.specs.Scopes.{is_in_partition}
use Rattle.near_cache.proofs.Keeping.{taken_out, none_left}
use Rattle.near_cache.proofs.entries.clear_partition.Goals as goal

pub loop-key-preserved : goal.loop-key-preserved
loop-key-preserved c =
    let keys = c.deref-key-items.result.now in
    let at = c.loop-key.key-index in
    let key = c.key-item.result in
    let next = drop_more keys at key c.loop-key-test.true in
    let test = is_in_partition c.args.partition in
    let out = taken_out test c.loop-key.entries.entries key (drop (at + 1) keys) (c.loop-key.invariant.left ∙ next ∙ ap (λ k. k ∷ drop (at + 1) keys) (sym c.key-item.is)) in
    let popped = c.pop.ensures.entries in
    record {
      left = ap (λ (l : LruCache _ _). keys_of (filter (λ (e : Kept). test e.0) l.entries)) popped ∙ out.0;
      kept = ap (λ (l : LruCache _ _). filter (λ (e : Kept). not (test e.0)) l.entries) popped ∙ out.1 ∙ c.loop-key.invariant.kept;
      cap = ap (λ (l : LruCache _ _). l.cap) popped ∙ c.loop-key.invariant.cap;
    }

pub returns-clause-ok : goal.returns-clause-ok
returns-clause-ok c =
    let keys = c.deref-key-items.result.now in
    let test = is_in_partition c.args.partition in
    let none = c.loop-key.invariant.left ∙ drop_all c.loop-key.key-index keys c.loop-key-test.false in
    let rest = sym (none_left test c.loop-key.entries.entries none) ∙ c.loop-key.invariant.kept in
    ap (λ es. lru_cache es c.loop-key.entries.cap) rest ∙ ap (λ n. lru_cache (filter (λ (e : Kept). not (test e.0)) c.args.entries.now.entries) n) c.loop-key.invariant.cap
