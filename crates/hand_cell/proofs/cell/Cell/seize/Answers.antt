use Rattle.std.proofs.Common.{rules, refl, ap, ◌∙◌, sym, subst, ◌≤◌, arith}
use Rattle.hand_cell.proofs.Keeps.{glance_keeps, seize_keeps}
use Rattle.hand_cell.proofs.Turns.{has_slot}
use Rattle.hand_cell.proofs.cell.Cell.seize.Goals as goal

pub load-served-requires : goal.load-served-requires
load-served-requires g c = (search rules, search rules, glance_keeps _ _ _ _ _ _ c.requires.idle)

pub compare_exchange-found-requires : goal.compare_exchange-found-requires
compare_exchange-found-requires g c = (
  search rules,
  search rules,
  seize_keeps _ _ _ _ c.requires.plan _ _ _ _ _ (ap (λ m. m.0.stage) c.load-served.ensures.2 ∙ c.requires.idle) (search rules) (subst (λ n. c.peek-next.result ≤ n) (sym (ap (λ m. m.0.reached) c.load-served.ensures.2)) (omega arith)) refl,
)

pub exchange-requires : goal.exchange-requires
exchange-requires g c = (search rules, has_slot g.T.Stands.stands g.T.Stands.key_of _ _ c.requires.plan _ _ _ (c.compare_exchange-found.ensures.2.0 c.if-found-next.false))
