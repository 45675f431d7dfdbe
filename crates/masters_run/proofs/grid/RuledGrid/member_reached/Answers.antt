use Rattle.std.proofs.Common.{◌≡◌, false, true≢false, not, ap, sym, ◌∙◌, arith}
use Rattle.call_engine.specs.Objects.{partition_object}
use Rattle.replay_run.specs.Runs.{events_at, world_at}
use Rattle.masters_run.specs.Runs.{is_reached}
use Rattle.masters_run.proofs.PublishedEvents.{world_members}
use Rattle.masters_run.proofs.Reaching.{one_more, none_below, first_below, is_reached_so}
use Rattle.masters_run.proofs.grid.RuledGrid.member_reached.Goals as goal

pub returns-in_err-world : goal.returns-in_err-world
returns-in_err-world g c = λ settings s amid. absurd (true≢false (sym (c.in_err-world.ensures.there settings s.run amid.grid.holds c.requires)))

pub returns-then-not-is_empty : goal.returns-then-not-is_empty
returns-then-not-is_empty g c = λ settings s amid.
    let p = c.args.partition in
    let w = world_at (partition_object settings) s.run p in
    let is = c.in_ok-world.ensures.world settings s.run amid.grid.holds c.requires in
    let so = is_reached_so settings c.in_ok-world.world.now s.run p is c.args.from c.loop-to.to c.in_flight.result.now (c.in_flight.ensures settings (events_at p s.run.events) is.stands) c.is_empty.result c.is_empty.ensures in
    let members = world_members settings s.run p in
    let told = c.members-to-end.ensures settings s.run amid.grid.holds in
    sym (first_below (is_reached w c.args.from) w.members c.loop-to.to (let low = c.loop-to-test.true in omega (arith, low, members, told)) (c.loop-to.invariant settings s amid) (so ∙ ap not c.if-not-is_empty.true))

pub loop-to-preserved : goal.loop-to-preserved
loop-to-preserved g c = λ settings s amid.
    let p = c.args.partition in
    let w = world_at (partition_object settings) s.run p in
    let is = c.in_ok-world.ensures.world settings s.run amid.grid.holds c.requires in
    let so = is_reached_so settings c.in_ok-world.world.now s.run p is c.args.from c.loop-to.to c.in_flight.result.now (c.in_flight.ensures settings (events_at p s.run.events) is.stands) c.is_empty.result c.is_empty.ensures in
    one_more (λ to. is_reached w c.args.from to ≡ false) c.loop-to.to (c.loop-to.invariant settings s amid) (so ∙ ap not c.if-not-is_empty.false)

pub returns : goal.returns
returns g c = λ settings s amid.
    let p = c.args.partition in
    let w = world_at (partition_object settings) s.run p in
    let members = world_members settings s.run p in
    let told = c.members-to-end.ensures settings s.run amid.grid.holds in
    sym (none_below (is_reached w c.args.from) w.members (λ k low. c.loop-to.invariant settings s amid k (let past = c.loop-to-test.false in omega (arith, low, past, members, told))))
