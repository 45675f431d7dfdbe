use Rattle.replay_run.proofs.LateTurns.{refusal_served, silence_served, refusal_few}
use Rattle.replay_run.proofs.WaiterTurns.{may_as}
use Rattle.replay_run.proofs.grid.Grid.make_turn.Goals as goal

-- Its plain call is made.

pub make_call-requires : goal.make_call-requires
make_call-requires g c = record { stands = (c.requires.stands.0, c.requires.stands.1, c.requires.stands.2, may_as c.in-Call.is c.requires.stands.3, c.requires.stands.4) }

pub returns-in-Call-clause-ok : goal.returns-in-Call-clause-ok
returns-in-Call-clause-ok g c = λ settings r w may. c.make_call.ensures.ok settings r w (may_as c.in-Call.is may)

pub returns-in-Call-clause-full : goal.returns-in-Call-clause-full
returns-in-Call-clause-full g c = λ settings r w may fails. c.make_call.ensures.full settings r w (may_as c.in-Call.is may) fails

-- It is refused.

pub refuse_waiter-requires-clause-refused : goal.refuse_waiter-requires-clause-refused
refuse_waiter-requires-clause-refused g c = (refusal_few c.args.self.now c.requires.stands.1 c.args.own c.args.at c.in-Refusal.request c.requires.stands.2 c.in-Refusal.why (may_as c.in-Refusal.is c.requires.stands.3)).0

pub refuse_waiter-requires-clause-memory : goal.refuse_waiter-requires-clause-memory
refuse_waiter-requires-clause-memory g c = (refusal_few c.args.self.now c.requires.stands.1 c.args.own c.args.at c.in-Refusal.request c.requires.stands.2 c.in-Refusal.why (may_as c.in-Refusal.is c.requires.stands.3)).1

pub returns-in_ok-refuse_waiter-in-Refusal-clause-ok : goal.returns-in_ok-refuse_waiter-in-Refusal-clause-ok
returns-in_ok-refuse_waiter-in-Refusal-clause-ok g c = λ settings r w may.
    refusal_served c.args.self.now r c.args.own c.args.at c.in-Refusal.request w c.in-Refusal.why (may_as c.in-Refusal.is may) c.refuse_waiter.new.self c.args.out.now.items c.refuse_waiter.new.out.items c.refuse_waiter.ensures.grid c.in_ok-refuse_waiter-in-Refusal.ensures.told

-- It leaves without an answer.
pub returns-in-Silence-clause-ok : goal.returns-in-Silence-clause-ok
returns-in-Silence-clause-ok g c = λ settings r w may. silence_served c.args.self.now r c.args.own c.args.at _ w (may_as c.in-Silence.is may) c.args.out.now.items
