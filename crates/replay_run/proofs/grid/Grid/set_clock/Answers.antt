use Rattle.std.proofs.Common.{set, arith}
use Rattle.std.proofs.lemmas.Result.{on_ok_weaker}
use Rattle.script_lang.specs.declared.line.Line.TheVariants.{Clock}
use Rattle.replay_run.specs.Runs.{clock_set}
use Rattle.replay_run.proofs.Asking.{moment_within}
use Rattle.replay_run.proofs.EventLines.{stands_room}
use Rattle.replay_run.proofs.GridLines.{has_clock, next_number, few_lines, clocked_between, clock_line, clock_given_up}
use Rattle.replay_run.proofs.grid.Grid.set_clock.Goals as goal

pub index_mut-requires : goal.index_mut-requires
index_mut-requires g c =
    let here = c.requires.stands.holds in
    let within = moment_within c.args.self.now c.requires.run here c.args.member c.from.result (omega (arith, c.requires.read.0, here.members)) c.from.ensures in
    omega (arith, within, c.args.self.now.moments.ok.0)

pub make_turns_of-requires-clause-member : goal.make_turns_of-requires-clause-member
make_turns_of-requires-clause-member g c =
    let grid = c.args.self.now in
    let clock = has_clock grid c.count.new.self c.args.number c.args.member c.args.moment _ c.count.ensures.grid (λ i. set grid.moments.items (c.from.ensures i) c.args.moment) in
    let members = clock.members in
    omega (arith, c.requires.read.0, members, c.requires.stands.holds.members)

pub make_turns_of-requires-clause-stands : goal.make_turns_of-requires-clause-stands
make_turns_of-requires-clause-stands g c =
    let may = c.requires in
    let r = may.run in
    let s = may.stands in
    let grid = c.args.self.now in
    let clock = has_clock grid c.count.new.self c.args.number c.args.member c.args.moment _ c.count.ensures.grid (λ i. set grid.moments.items (c.from.ensures i) c.args.moment) in (
      may.settings,
      clock_set r c.args.member c.args.moment,
      clocked_between grid c.count.new.self r c.args.number c.args.member c.args.moment s may.next may.within clock,
      λ p. stands_room grid r s (few_lines grid c.args.number (Clock c.args.member c.args.moment) may r s) p 0 (omega arith),
    )

pub returns-clause-ok : goal.returns-clause-ok
returns-clause-ok g c = λ settings r s.
    let grid = c.args.self.now in
    let at_line = next_number grid c.args.number (Clock c.args.member c.args.moment) c.requires r s in
    let clock = has_clock grid c.count.new.self c.args.number c.args.member c.args.moment _ c.count.ensures.grid (λ i. set grid.moments.items (c.from.ensures i) c.args.moment) in
    on_ok_weaker c.make_turns_of.result
    (clock_line grid c.count.new.self r c.args.number c.args.member c.args.moment s at_line c.requires.within clock
    c.make_turns_of.new.self c.args.out.now.items c.count.new.out.items c.make_turns_of.new.out.items c.in_ok-count.ensures.told)
    (c.make_turns_of.ensures.ok settings (clock_set r c.args.member c.args.moment) (clocked_between grid c.count.new.self r c.args.number c.args.member c.args.moment s at_line c.requires.within clock))

pub returns-clause-full : goal.returns-clause-full
returns-clause-full g c = λ settings r s was.
    let grid = c.args.self.now in
    let at_line = next_number grid c.args.number (Clock c.args.member c.args.moment) c.requires r s in
    let clock = has_clock grid c.count.new.self c.args.number c.args.member c.args.moment _ c.count.ensures.grid (λ i. set grid.moments.items (c.from.ensures i) c.args.moment) in
    clock_given_up settings r c.args.member c.args.moment
    (c.make_turns_of.ensures.full settings (clock_set r c.args.member c.args.moment) (clocked_between grid c.count.new.self r c.args.number c.args.member c.args.moment s at_line c.requires.within clock) was)
