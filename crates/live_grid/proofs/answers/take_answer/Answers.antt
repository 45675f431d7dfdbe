use Rattle.std.proofs.Common.{Contains, rules, sym, subst}
use Rattle.live_grid.proofs.Kept.{removed_keeps}
use Rattle.live_grid.proofs.answers.take_answer.Goals as goal

pub returns-clause-others : goal.returns-clause-others
returns-clause-others c answer other there = subst (λ answers. Contains answers answer) (sym c.remove.ensures.items) (removed_keeps c.args.answers.now.items c.in_ok-place.place c.args.id answer (search rules) other there)
