use Rattle.std.proofs.Common.{map}
use Rattle.partition_world.specs.Events.{event_of}
use Rattle.live_grid.proofs.Standing.{comes, is_again, is_next, gives, still_released, both, on_err}
use Rattle.live_grid.proofs.world.LiveWorldRuns.run.Goals as goal

pub step-requires : goal.step-requires
step-requires g c = let r = c.requires in let ready = r.3 in (map event_of r.1, comes _ r.0 r.2 c.args.self.now.world r.1 c.args.event ready.stand.world ready.room ready.fresh ready.admitted)

pub returns-clause-done : goal.returns-clause-done
returns-clause-done g c plan history means ready =
    let old = ready.stand.world in
    let there = comes _ plan means c.args.self.now.world history c.args.event old ready.room ready.fresh ready.admitted in
    let events = map event_of history in
    both _ _ _ _ c.step.result
    (λ stands. record { world = is_next _ plan means c.args.self.now.world history c.step.new.self c.args.event stands old c.step.ensures.setup; answers = λ k d less. still_released plan history c.args.event _ (ready.stand.answers k d less) })
    (λ happened outcome. gives _ plan means c.args.self.now.world history c.args.event happened old outcome)
    (c.step.ensures.outcome events there) (c.step.ensures.stands events there)

pub returns-clause-memory : goal.returns-clause-memory
returns-clause-memory g c plan history means ready =
    let old = ready.stand.world in
    let there = comes _ plan means c.args.self.now.world history c.args.event old ready.room ready.fresh ready.admitted in
    on_err _ _ c.step.result (λ stands. record { world = is_again _ plan means c.args.self.now.world history c.step.new.self history stands old c.step.ensures.setup; answers = ready.stand.answers }) (c.step.ensures.err (map event_of history) there)
