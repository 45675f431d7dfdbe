use Rattle.std.proofs.Common.{◌<◌, ◌≤◌, length, ap, sym, arith}
use Rattle.std.proofs.lemmas.Result.{on_ok_weaker}
use Rattle.partition_protocol.proofs.RowFacts.{not_less}
use Rattle.partition_world.specs.Worlds.{node_count}
use Rattle.partition_world.proofs.Places.{stands_there}
use Rattle.replay_run.specs.WorldCalls.{with_answers, going_out}
use Rattle.replay_run.proofs.GivingOut.{gave_none, gives_out, none_waits, reached_none, reached_told}
use Rattle.replay_run.proofs.outgoing.append_reached.Goals as goal

pub returns-clause-told : goal.returns-clause-told
returns-clause-told g c = λ plan events r all of_run.
    let at = c.args.at in
    let there = c.in-Some.ensures.lookup in
    let stand = of_run.stand c.in-Some.here.now (stands_there c.args.listeners.now at.member c.from.result c.in-Some.here.now c.from.ensures (omega (arith, there.3.0, c.from.ensures)) there.1) in
    let within : at.member < node_count c.args.world.now = omega (arith, there.3.0, c.from.ensures, c.requires) in
    on_ok_weaker c.give_out.result
    (λ e stands. reached_told c.args.world.now events at.member stands within c.known.result.now (c.known.ensures plan events stands) r at.own at.partition at.line at.known all of_run.line
    c.args.out.now.items c.push_adopted.new.out.items c.give_out.new.out.items (c.in_ok-push_adopted.ensures all stand) e)
    (c.give_out.ensures.told r all of_run.line of_run.connections stand)

-- The table service is no member.

pub returns-in_default-clause-told : goal.returns-in_default-clause-told
returns-in_default-clause-told g c = λ plan events r all of_run stands.
    let at = c.args.at in
    let world = c.args.world.now in
    let none : length c.args.listeners.now ≤ c.from.result = not_less c.from.result (length c.args.listeners.now) (sym c.in_default.ensures.lookup.0) in
    let past : node_count world ≤ at.member = omega (arith, none, c.from.ensures, c.requires) in
    reached_none world events at.member stands past r at.own at.partition at.known all c.args.out.now.items

pub returns-in_default-clause-table : goal.returns-in_default-clause-table
returns-in_default-clause-table g c = λ r holds.
    let at = c.args.at in
    let world = c.args.world.now in
    let none : length c.args.listeners.now ≤ c.from.result = not_less c.from.result (length c.args.listeners.now) (sym c.in_default.ensures.lookup.0) in
    let past : node_count world ≤ at.member = omega (arith, none, c.from.ensures, c.requires) in
    ap (λ answers. with_answers c.args.connections.now at.line (going_out r at.own answers)) (sym (none_waits world at.member past))

pub returns-in_default-clause-world : goal.returns-in_default-clause-world
returns-in_default-clause-world g c =
    let at = c.args.at in
    let world = c.args.world.now in
    let none : length c.args.listeners.now ≤ c.from.result = not_less c.from.result (length c.args.listeners.now) (sym c.in_default.ensures.lookup.0) in
    let past : node_count world ≤ at.member = omega (arith, none, c.from.ensures, c.requires) in
    gives_out world world at.member (gave_none world at.member) (none_waits world at.member past)
