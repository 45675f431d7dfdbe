use Rattle.std.proofs.Common.{◌≡◌, Some, IfOk, sym, ap, ◌∙◌, subst}
use Rattle.near_cache.specs.Caches.{Cache}
use Rattle.grid_client.specs.Nears.{near_of, hit, used}
use Rattle.grid_client.specs.contracts.near.NearMap.{the_view}
use Rattle.grid_client.proofs.Nears.{hit_seen, used_seen}
use Rattle.grid_client.proofs.near.NearMap.look.Goals as goal
use Rattle.grid_client.proofs.near.NearMap.look.Goals.{in-Some+in_ok-copy-in-Some, in-None}

pub returns-in_err-copy-in-Some-clause-after : goal.returns-in_err-copy-in-Some-clause-after
returns-in_err-copy-in-Some-clause-after c =
    let i = c.self.inside in
    ap (λ (x : Cache). near_of i.name x i.awaited.items) c.hit.follows.holds-at-none ∙ used_seen c.args.key.now i.name i.cache i.awaited.items ∙ ap (used c.args.key.now) c.self.view_is

pub returns-clause-value : goal.returns-clause-value
returns-clause-value c =
    let i = c.self.inside in
    let key = c.args.key.now in
    let seen = hit_seen key i.name i.cache i.awaited.items ∙ ap (hit key) c.self.view_is in
    elim c.match-hit.branch [
      | in-Some+in_ok-copy-in-Some w ↦ subst (λ r. IfOk r (λ value. value ≡ hit key c.args.self.now)) (sym w.result-is) (ap Some w.in_ok-copy-in-Some.ensures ∙ w.in-Some.ensures.value ∙ seen)
      | in-None w ↦ subst (λ r. IfOk r (λ value. value ≡ hit key c.args.self.now)) (sym w.result-is) (w.in-None.ensures.value ∙ seen)
    ]

pub returns-clause-after : goal.returns-clause-after
returns-clause-after c =
    let i = c.self.inside in
    let key = c.args.key.now in
    let after = ap (λ (x : Cache). near_of i.name x i.awaited.items) c.hit.follows.holds-at-none ∙ used_seen key i.name i.cache i.awaited.items ∙ ap (used key) c.self.view_is in
    elim c.match-hit.branch [
      | in-Some+in_ok-copy-in-Some w ↦ ap the_view w.self-inside-is ∙ after
      | in-None w ↦ ap the_view w.self-inside-is ∙ after
    ]
