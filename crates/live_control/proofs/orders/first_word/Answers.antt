use Rattle.std.proofs.Common.{[], drop, ◌+◌}
use Rattle.script_lang.specs.Words.{space, pieces_at}
use Rattle.script_lang.proofs.Pieces.{uncut, cut}
use Rattle.live_control.proofs.orders.first_word.Goals as goal

pub returns-in-None : goal.returns-in-None
returns-in-None c = ([], uncut space c.args.text.now c.in-None.ensures)

pub returns-in-Some : goal.returns-in-Some
returns-in-Some c = (pieces_at space (drop (c.in-Some.at + 1) c.args.text.now), cut space c.args.text.now c.in-Some.at c.in-Some.ensures.0 c.in-Some.ensures.1)
