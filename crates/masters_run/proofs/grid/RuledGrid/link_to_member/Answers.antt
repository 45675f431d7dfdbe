use Rattle.std.proofs.Common.{◌≡◌, None, sym, ◌∙◌, arith}
use Rattle.call_engine.specs.Objects.{partition_object}
use Rattle.replay_run.specs.Runs.{world_at}
use Rattle.masters_run.specs.Runs.{member_reached}
use Rattle.masters_run.proofs.PublishedEvents.{world_members}
use Rattle.masters_run.proofs.Reaching.{one_more, none_reached, first_reached}
use Rattle.masters_run.proofs.grid.RuledGrid.link_to_member.Goals as goal

pub returns-in-Some : goal.returns-in-Some
returns-in-Some g c = λ settings s amid.
    let w = world_at (partition_object settings) s.run c.args.partition in
    let members = world_members settings s.run c.args.partition in
    let told = c.members-service.ensures settings s.run amid.grid.holds in
    sym (first_reached w c.loop-from.from c.in-Some.to (let low = c.loop-from-test.true in omega (arith, low, members, told)) (c.loop-from.invariant settings s amid) (sym (c.member_reached.ensures settings s amid) ∙ c.in-Some.is))

pub returns-in_err-to : goal.returns-in_err-to
returns-in_err-to g c = λ settings s amid.
    let w = world_at (partition_object settings) s.run c.args.partition in
    let members = world_members settings s.run c.args.partition in
    let told = c.members-service.ensures settings s.run amid.grid.holds in
    let past = c.loop-from-test.false in
    c.from_residual.ensures
    ∙ sym (none_reached w (λ from low. one_more (λ f. member_reached w f ≡ None) c.members-service.result (λ f below. c.loop-from.invariant settings s amid f (omega (arith, below, past)))
    (sym (c.member_reached-2.ensures settings s amid) ∙ c.in_err-to.was) from (omega (arith, low, members, told))))

pub returns : goal.returns
returns g c = λ settings s amid.
    let w = world_at (partition_object settings) s.run c.args.partition in
    let members = world_members settings s.run c.args.partition in
    let told = c.members-service.ensures settings s.run amid.grid.holds in
    let past = c.loop-from-test.false in
    sym (first_reached w c.members-service.result c.in_ok-to.to (omega (arith, members, told)) (λ f below. c.loop-from.invariant settings s amid f (omega (arith, below, past))) (sym (c.member_reached-2.ensures settings s amid) ∙ c.in_ok-to.was))
