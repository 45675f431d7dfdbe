use Rattle.std.proofs.Common.{rules, ap, ◌∙◌}
use Rattle.hand_cell.proofs.Keeps.{look_keeps}
use Rattle.hand_cell.proofs.cell.Cell.spin.Goals as goal

pub load-served-requires : goal.load-served-requires
load-served-requires g c = (search rules, search rules, look_keeps _ _ _ _ c.requires.plan _ _ _ _ (ap (λ m. m.0.stage) c.loop.invariant.1 ∙ c.requires.waiting))

pub load-requires : goal.load-requires
load-requires g c = (search rules, search rules, look_keeps _ _ _ _ c.requires.plan _ _ _ _ (ap (λ m. m.0.stage) c.loop.invariant.1 ∙ c.requires.waiting))
