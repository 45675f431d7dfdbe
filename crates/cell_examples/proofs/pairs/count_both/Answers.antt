use Rattle.std.proofs.Common.{ap, ◌∙◌, length}
use Rattle.hand_cell.specs.Told.{after_ran}
use Rattle.cell_examples.proofs.Weighs.{two_counted}
use Rattle.cell_examples.proofs.pairs.count_both.Goals as goal

pub returns : goal.returns
returns g c = let first = c.in_ok-cell.ensures.pass in let turn = c.enter-turn.ensures.turn in
    let n = two_counted c.in_ok-cell.pass c.split-one.new.pass c.split-one.result c.split-two.new.pass c.split-two.result c.join-one.result.0.0 c.join-one.result.1.0 c.join.new.pass c.join-2.new.pass c.enter-turn.result.pass c.join-one.result.0.1 c.join-one.result.1.1
    (ap (λ p. p.seen) first, ap (λ p. p.names) first) c.split-one.ensures.kept c.split-one.ensures.given c.split-two.ensures.kept c.split-two.ensures.given
    c.join-one.ensures.first c.join-one.ensures.second c.join.ensures.extends c.join.ensures.joined c.join-2.ensures.extends c.join-2.ensures.joined (turn.later, turn.pass, turn.not_own)
    in ap (λ v. v.count) c.value.ensures.value ∙ (c.value.ensures.stands ∙ (ap (λ r. length (after_ran c.enter-turn.result.pass.seen r)) turn.nothing_ran ∙ n))
