use Rattle.std.proofs.Common.{◌<◌, length, sym, ◌∙◌, subst, arith}
use Rattle.counted_calls.specs.Gathered.{HasGathered}
use Rattle.counted_calls.specs.declared.requests.TheConstants.{SESSIONS}
use Rattle.counted_calls.proofs.Joined.{one_down, one_more_joined, others_made, popped_made, sum_fits}
use Rattle.counted_calls.proofs.opening.take_back.Goals as goal

pub overflow_add-answered : goal.overflow_add-answered
overflow_add-answered g c =
    let stage = c.args.stage.now in
    let rest = c.pop.new.self.items in
    let all = c.loop-caller.left.items in
    let made = popped_made stage.grid stage.key rest all c.in-Some.caller c.in_ok-count.count c.in-Some.ensures.items c.loop-caller.invariant.made c.in_ok-count.was in
    let sum = sum_fits stage.grid stage.key (length rest) (length all) c.in_ok-count.count c.loop-caller.answered c.in-Some.caller.session c.loop-caller.pass made c.loop-caller.invariant.gathered in
    omega (arith, sum)

pub join-requires-clause-session : goal.join-requires-clause-session
join-requires-clause-session g c =
    let stage = c.args.stage.now in
    (popped_made stage.grid stage.key c.pop.new.self.items c.loop-caller.left.items c.in-Some.caller c.in_ok-count.count c.in-Some.ensures.items c.loop-caller.invariant.made c.in_ok-count.was).of_grid

pub join-requires-clause-rests : goal.join-requires-clause-rests
join-requires-clause-rests g c =
    let stage = c.args.stage.now in
    (popped_made stage.grid stage.key c.pop.new.self.items c.loop-caller.left.items c.in-Some.caller c.in_ok-count.count c.in-Some.ensures.items c.loop-caller.invariant.made c.in_ok-count.was).rests

pub loop-caller-preserved : goal.loop-caller-preserved
loop-caller-preserved g c =
    let stage = c.args.stage.now in
    let rest = c.pop.new.self.items in
    let all = c.loop-caller.left.items in
    let was = c.loop-caller.invariant in
    let made = popped_made stage.grid stage.key rest all c.in-Some.caller c.in_ok-count.count c.in-Some.ensures.items was.made c.in_ok-count.was in
    let down = one_down rest all c.in-Some.caller c.in-Some.ensures.items in
    let few = was.few in
    let high : length rest < SESSIONS = omega (arith, down, few) in
    record {
      of_grid = c.join.ensures.kept;
      few = omega (arith, high);
      made = others_made stage.grid stage.key rest all c.in-Some.caller c.in-Some.ensures.items was.made;
      gathered = one_more_joined stage.grid stage.key (length rest) c.loop-caller.answered c.in_ok-count.count c.loop-caller.pass c.join.new.pass c.in-Some.caller.session high (made.of_grid.each ∙ sym was.of_grid.cells.as_long)
          (subst (λ n. HasGathered stage.grid stage.key n c.loop-caller.answered c.loop-caller.pass) down was.gathered) made c.join.ensures.joined;
    }
