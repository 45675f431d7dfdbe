use Rattle.std.proofs.Common.{◌++◌, ◌∷◌, [], IfSome, sym, subst}
use Rattle.live_grid.specs.Histories.{live_call}
use Rattle.live_grid.specs.Outcomes.{LiveTells}
use Rattle.live_grid.proofs.Settled.{settled_tells}
use Rattle.live_grid.proofs.world.LiveWorldServed.settled.Goals as goal

pub returns : goal.returns
returns c plan history member request now new gives =
    let e = live_call member request now in
    subst (λ r. IfSome r (λ o. LiveTells plan (history ++ e ∷ []) e o)) (sym c.settled_as.ensures) (settled_tells plan history member request now c.args.outcome.now new gives)
