use Rattle.std.proofs.Common.{length, ◌≤◌, rules}
use Rattle.std.proofs.lemmas.Result.{on_ok_weaker, on_err_weaker}
use Rattle.replay_run.specs.Tables.{called}
use Rattle.replay_run.proofs.Slots.{slot_changed, slot_kept, no_slot}
use Rattle.replay_run.proofs.connections.Connections.arrive.Goals as goal

pub returns-in_default-clause-ok : goal.returns-in_default-clause-ok
returns-in_default-clause-ok c =
    let past : length c.self.inside.slots.items ≤ c.args.conn = search rules in
    no_slot c.args.self.now c.self.inside.slots.items c.args.conn (called c.args.line) c.self.view_is past

pub returns-clause-ok : goal.returns-clause-ok
returns-clause-ok c =
    on_ok_weaker c.arrive_at.result
    (slot_changed c.args.self.now c.self.inside.slots.items c.args.conn c.in-Some.slot.now c.arrive_at.new.slot (called c.args.line) c.self.view_is c.in-Some.ensures.value) c.arrive_at.ensures.ok

pub returns-clause-err : goal.returns-clause-err
returns-clause-err c =
    on_err_weaker c.arrive_at.result (slot_kept c.args.self.now c.self.inside.slots.items c.args.conn c.in-Some.slot.now c.arrive_at.new.slot c.self.view_is c.in-Some.ensures.value) c.arrive_at.ensures.err
