use Rattle.std.proofs.Common.{ap, ◌∙◌}
use Rattle.partition_protocol.specs.Node.{is_released}
use Rattle.primary_hold.specs.Facts.{node_of}
use Rattle.primary_hold.proofs.Settles.{first_is}
use Rattle.primary_hold.proofs.facts.Facts.may_release.Goals as goal

pub returns-in-Some : goal.returns-in-Some
returns-in-Some c =
    c.is_released.ensures ∙ ap (λ n. is_released n c.in-Some.answer.now.seen) c.view-view.ensures
    ∙ first_is (node_of c.args.self.now) c.args.self.now.answers.held c.in-Some.answer.now c.in-Some.ensures
