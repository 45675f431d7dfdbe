use Rattle.std.proofs.Common.{◌∙◌, ap, refl, nat_lt, arith}
use Rattle.primary_hold.proofs.AnswerLists.{waits}
use Rattle.primary_hold.proofs.answers.Answers.holds_any.Goals as goal

pub returns : goal.returns
returns c =
    rw (← c.self.view_is) (ap (λ n. nat_lt c.self.inside.ready n) (omega arith) ∙ waits c.self.inside.list.items c.self.inside.ready _ refl)
