use Rattle.std.proofs.Common.{sym, ap, ◌∙◌, subst, Some}
use Rattle.near_cache.specs.Caches.{Cache, answered}
use Rattle.grid_client.specs.Lists.{erased_by}
use Rattle.grid_client.specs.Nears.{near_of, AreOpen, answered as answering}
use Rattle.grid_client.proofs.Nears.{has, is_open_taken, open_erased, open_after, open_answered, filled_after, outcome_after, nothing_after, no_outcome}
use Rattle.grid_client.proofs.near.NearMap.fill.Goals as goal
use Rattle.grid_client.proofs.near.NearMap.fill.Goals.{in-Some-1, in-None-1}

pub fill-requires : goal.fill-requires
fill-requires c = is_open_taken c.self.inside.cache.waiting c.args.number c.self.inside.awaited.items c.in-Some.reservation c.self.invariant c.in-Some.ensures.value

pub invariant_of-self : goal.invariant_of-self
invariant_of-self c =
    let i = c.self.inside in
    subst (λ as_. AreOpen c.fill.new.self.waiting as_) (sym c.take_out.ensures.items)
    (subst (λ (x : Cache). AreOpen x.waiting (erased_by (has c.args.number) i.awaited.items)) (sym c.in_err-fill-in-Some.ensures.err)
    (open_after i.cache.waiting c.args.number i.awaited.items c.in-Some.reservation c.self.invariant c.in-Some.ensures.value))

pub invariant_of-self-in-Some : goal.invariant_of-self-in-Some
invariant_of-self-in-Some c =
    let i = c.self.inside in
    subst (λ as_. AreOpen c.fill.new.self.waiting as_) (sym c.take_out.ensures.items)
    (subst (λ (x : Cache). AreOpen x.waiting (erased_by (has c.args.number) i.awaited.items)) (sym c.in_ok-fill-in-Some.ensures.ok)
    (open_answered i.cache c.args.number i.awaited.items c.in-Some.reservation c.args.value c.self.invariant c.in-Some.ensures.value))

pub invariant_of-self-in-None : goal.invariant_of-self-in-None
invariant_of-self-in-None c = subst (AreOpen c.self.inside.cache.waiting) (sym c.take_out.ensures.items) (open_erased c.self.inside.cache.waiting (has c.args.number) c.self.inside.awaited.items c.self.invariant)

pub invariant_of-self-in-None-2 : goal.invariant_of-self-in-None-2
invariant_of-self-in-None-2 c = subst (AreOpen c.self.inside.cache.waiting) (sym c.take_out.ensures.items) (open_erased c.self.inside.cache.waiting (has c.args.number) c.self.inside.awaited.items c.self.invariant)

pub returns-in_ok-fill-in-Some-clause-ok : goal.returns-in_ok-fill-in-Some-clause-ok
returns-in_ok-fill-in-Some-clause-ok c =
    let i = c.self.inside in
    rw (← c.self.view_is) (ap (λ (x : Cache). near_of i.name x c.take_out.new.awaited.items) c.in_ok-fill-in-Some.ensures.ok
    ∙ ap (near_of i.name (answered c.in-Some.reservation c.args.value i.cache)) c.take_out.ensures.items
    ∙ filled_after c.args.number i.name c.args.value i.cache i.awaited.items c.in-Some.reservation c.self.invariant c.in-Some.ensures.value)

pub returns-in_ok-fill-in-Some-clause-outcome : goal.returns-in_ok-fill-in-Some-clause-outcome
returns-in_ok-fill-in-Some-clause-outcome c =
    let i = c.self.inside in
    rw (← c.self.view_is) (ap Some c.in_ok-fill-in-Some.ensures.outcome ∙ outcome_after c.args.number i.name c.args.value i.cache i.awaited.items c.in-Some.reservation c.self.invariant c.in-Some.ensures.value)

pub returns-in-None-clause-ok : goal.returns-in-None-clause-ok
returns-in-None-clause-ok c =
    let i = c.self.inside in
    let after = ap (near_of i.name i.cache) c.take_out.ensures.items ∙ nothing_after c.args.number i.name c.args.value i.cache i.awaited.items c.self.invariant c.in-None.ensures.value ∙ ap (answering c.args.number (Some c.args.value)) c.self.view_is in
    elim c.match-value.branch [ in-Some-1 w ↦ w.self-is ∙ after | in-None-1 w ↦ w.self-is ∙ after ]

pub returns-in-None-clause-outcome : goal.returns-in-None-clause-outcome
returns-in-None-clause-outcome c =
    let i = c.self.inside in
    rw (← c.self.view_is) (no_outcome c.args.number i.name c.args.value i.cache i.awaited.items c.self.invariant c.in-None.ensures.value)
