use Rattle.std.proofs.Common.{sym, ◌∙◌, subst}
use Rattle.live_grid.specs.Outcomes.{IsGoneIn}
use Rattle.live_grid.proofs.Gone.{held_gone}
use Rattle.live_grid.proofs.world.LiveWorldServed.outcome_of.Goals as goal

pub returns-in-Ok-None-clause-told : goal.returns-in-Ok-None-clause-told
returns-in-Ok-None-clause-told c plan history request now stands has named =
    let after = c.fetch.ensures.kept plan history stands in
    subst (λ id. IsGoneIn plan history c.args.member id) (sym named) (held_gone plan history c.args.member c.args.id c.fetch.new.self.world after.world (sym (c.is_gone.ensures plan history after) ∙ c.if-is_gone.true))
