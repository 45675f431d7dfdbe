use Rattle.std.proofs.Common.{◌∷◌, take, IsSome, bytes_eq, sym, ap, ◌∙◌, subst}
use Rattle.lru.specs.LruCache.{IsValid, lru_cache}
use Rattle.near_cache.specs.LookUps.{look_ups_in}
use Rattle.near_cache.specs.Caches.{Cache, outcome_of, others}
use Rattle.near_cache.proofs.Waiting.{get_slot, removed}
use Rattle.near_cache.proofs.Keeping.{put_is, valid_kept}
use Rattle.near_cache.proofs.Answering.{seen_as, on_err, overtaken_is, answered_late, answered_in_time}
use Rattle.near_cache.proofs.cache.NearCache.fill.Goals as goal

pub remove-look_up-requires : goal.remove-look_up-requires
remove-look_up-requires c = subst (λ o. IsSome o) (get_slot c.self.inside.waiting.slots c.reservation.inside.number) (rw (← c.self.view_is, ← c.reservation.view_is) at c.requires)

pub returns-in-Some-clause-outcome : goal.returns-in-Some-clause-outcome
returns-in-Some-clause-outcome c =
    let was : Cache = seen_as c.self.inside.entries (look_ups_in c.self.inside.waiting.slots) in
    let found = get_slot c.self.inside.waiting.slots c.reservation.inside.number ∙ c.remove-look_up.ensures.value in
    rw (← c.self.view_is, ← c.reservation.view_is) (sym (ap outcome_of (overtaken_is was c.reservation.inside.number c.remove-look_up.result found ∙ c.in-Some.is)))

pub returns-in-Some-clause-ok : goal.returns-in-Some-clause-ok
returns-in-Some-clause-ok c =
    let n = c.reservation.inside.number in
    let was : Cache = seen_as c.self.inside.entries (look_ups_in c.self.inside.waiting.slots) in
    let found = get_slot c.self.inside.waiting.slots n ∙ c.remove-look_up.ensures.value in
    let look_ups = removed c.self.inside.waiting c.remove-look_up.new.self n c.remove-look_up.ensures.updates in
    rw (← c.self.view_is, ← c.reservation.view_is) (ap (seen_as c.self.inside.entries) look_ups ∙ sym (answered_late was n c.remove-look_up.result c.args.value c.in-Some.by found c.in-Some.is))

pub returns-in_err-put-clause-err : goal.returns-in_err-put-clause-err
returns-in_err-put-clause-err c =
    let n = c.reservation.inside.number in
    let look_ups = removed c.self.inside.waiting c.remove-look_up.new.self n c.remove-look_up.ensures.updates in
    rw (← c.self.view_is, ← c.reservation.view_is) (on_err _ _ (ap (λ es. seen_as es (look_ups_in c.remove-look_up.new.self.slots)) c.in_err-put.ensures.err ∙ ap (seen_as c.self.inside.entries) look_ups))

pub returns-in_err-put-clause-err_to_keep : goal.returns-in_err-put-clause-err_to_keep
returns-in_err-put-clause-err_to_keep c =
    let was : Cache = seen_as c.self.inside.entries (look_ups_in c.self.inside.waiting.slots) in
    let found = get_slot c.self.inside.waiting.slots c.reservation.inside.number ∙ c.remove-look_up.ensures.value in
    rw (← c.self.view_is, ← c.reservation.view_is) (λ e. overtaken_is was c.reservation.inside.number c.remove-look_up.result found ∙ c.in_default.is)

pub invariant_of-self-2 : goal.invariant_of-self-2
invariant_of-self-2 c =
    let es = c.self.inside.entries in
    let key = c.remove-look_up.result.key in
    let after = c.in_ok-put.ensures.entries ∙ ap (λ l. lru_cache l es.cap) (put_is es key c.args.value c.self.invariant) in
    subst (IsValid bytes_eq) (sym after) (valid_kept es key c.args.value c.self.invariant)

pub returns-clause-outcome : goal.returns-clause-outcome
returns-clause-outcome c =
    let was : Cache = seen_as c.self.inside.entries (look_ups_in c.self.inside.waiting.slots) in
    let found = get_slot c.self.inside.waiting.slots c.reservation.inside.number ∙ c.remove-look_up.ensures.value in
    rw (← c.self.view_is, ← c.reservation.view_is) (sym (ap outcome_of (overtaken_is was c.reservation.inside.number c.remove-look_up.result found ∙ c.in_default.is)))

pub returns-clause-ok : goal.returns-clause-ok
returns-clause-ok c =
    let n = c.reservation.inside.number in
    let es = c.self.inside.entries in
    let key = c.remove-look_up.result.key in
    let was : Cache = seen_as es (look_ups_in c.self.inside.waiting.slots) in
    let found = get_slot c.self.inside.waiting.slots n ∙ c.remove-look_up.ensures.value in
    let look_ups = removed c.self.inside.waiting c.remove-look_up.new.self n c.remove-look_up.ensures.updates in
    let after = c.in_ok-put.ensures.entries ∙ ap (λ l. lru_cache l es.cap) (put_is es key c.args.value c.self.invariant) in
    rw (← c.self.view_is, ← c.reservation.view_is) (ap (λ l. seen_as l (look_ups_in c.remove-look_up.new.self.slots)) after
    ∙ ap (seen_as (lru_cache (take es.cap ((key, c.args.value) ∷ others key es.entries)) es.cap)) look_ups
    ∙ sym (answered_in_time was n c.remove-look_up.result c.args.value found c.in_default.is))
