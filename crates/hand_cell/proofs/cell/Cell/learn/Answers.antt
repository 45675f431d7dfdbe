use Rattle.hand_cell.proofs.Learning.{has_learned_by}
use Rattle.hand_cell.proofs.cell.Cell.learn.Goals as goal

pub returns-clause-learned : goal.returns-clause-learned
returns-clause-learned g c = has_learned_by g.T.Stands.key_of _ _ _ _ c.split-part.ensures.given c.join.ensures.joined c.join.ensures.extends
