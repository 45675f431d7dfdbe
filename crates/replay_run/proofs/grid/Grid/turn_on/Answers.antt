use Rattle.std.proofs.Common.{Err, ap, sym, arith}
use Rattle.replay_run.specs.declared.run_end.RunEnd.TheVariants.{InFlight}
use Rattle.replay_run.proofs.Asking.{handed_on}
use Rattle.replay_run.proofs.RebalanceLine.{turned_so_far as by_then, none_turned, turn_room, one_turned, turn_ends, none_moving, four_turned}
use Rattle.replay_run.proofs.grid.Grid.turn_on.Goals as goal

pub turns-init : goal.turns-init
turns-init g c = record { below = omega arith; turned = λ settings r amid. none_turned r c.args.partition c.args.self.now c.args.out.now.items amid }

pub is_moving-requires-clause-stands : goal.is_moving-requires-clause-stands
is_moving-requires-clause-stands g c =
    let did = c.turns.invariant.turned c.requires.stands.0 c.requires.stands.1 c.requires.stands.2 in
    (c.requires.stands.0, by_then c.requires.stands.1 c.args.partition c.turns.self c.turns.turns c.args.out.now.items c.turns.out.items did, did.on.on.amid)

pub returns-then-not-is_moving-clause-ok : goal.returns-then-not-is_moving-clause-ok
returns-then-not-is_moving-clause-ok g c = λ settings r amid.
    let did = c.turns.invariant.turned settings r amid in
    none_moving r c.args.partition c.turns.self c.turns.turns c.args.out.now.items c.turns.out.items did c.turns.invariant.below (sym (c.if-not-is_moving.ensures settings (by_then r c.args.partition c.turns.self c.turns.turns c.args.out.now.items c.turns.out.items did) did.on.on.amid))

pub turn-requires-clause-stands : goal.turn-requires-clause-stands
turn-requires-clause-stands g c =
    let did = c.turns.invariant.turned c.requires.stands.0 c.requires.stands.1 c.requires.stands.2 in
    (c.requires.stands.0, by_then c.requires.stands.1 c.args.partition c.turns.self c.turns.turns c.args.out.now.items c.turns.out.items did, did.on.on.amid, turn_room c.requires.stands.1 c.args.partition c.turns.self c.turns.turns c.args.out.now.items c.turns.out.items did c.requires.stands.3 (omega (arith, c.turns-test.true)))

pub returns-in_err-turn-clause-full : goal.returns-in_err-turn-clause-full
returns-in_err-turn-clause-full g c = λ settings r amid was.
    let did = c.turns.invariant.turned settings r amid in
    let why = handed_on c.from_residual.result c.in_err-turn.field-0.0 InFlight c.from_residual.ensures.1 was in
    let now = by_then r c.args.partition c.turns.self c.turns.turns c.args.out.now.items c.turns.out.items did in
    turn_ends r c.args.partition c.turns.self c.turns.turns c.args.out.now.items c.turns.out.items did (sym (c.if-not-is_moving.ensures settings now did.on.on.amid)) (omega (arith, c.turns-test.true))
    (c.in_err-turn.ensures.full settings now did.on.on.amid (ap Err why))

pub turns-preserved : goal.turns-preserved
turns-preserved g c = record {
  below = omega (arith, c.turns-test.true);
  turned = λ settings r amid.
      (let did = c.turns.invariant.turned settings r amid in
      let now = by_then r c.args.partition c.turns.self c.turns.turns c.args.out.now.items c.turns.out.items did in
      one_turned r c.args.partition c.turns.self c.turns.turns c.args.out.now.items c.turns.out.items did (sym (c.if-not-is_moving.ensures settings now did.on.on.amid))
      c.turn.new.self c.turn.new.out.items (c.in_ok-turn.ensures.ok settings now did.on.on.amid));
}

pub returns-clause-ok : goal.returns-clause-ok
returns-clause-ok g c = λ settings r amid.
    let did = c.turns.invariant.turned settings r amid in
    four_turned r c.args.partition c.turns.self c.turns.turns c.args.out.now.items c.turns.out.items did c.turns.invariant.below (omega (arith, c.turns-test.false))
