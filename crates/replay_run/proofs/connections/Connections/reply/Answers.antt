use Rattle.std.proofs.Common.{length, ◌≤◌, rules}
use Rattle.std.proofs.lemmas.Result.{on_ok_weaker, on_err_weaker}
use Rattle.replay_run.specs.Tables.{replied}
use Rattle.replay_run.proofs.Slots.{slot_changed, slot_kept, no_slot}
use Rattle.replay_run.proofs.connections.Connections.reply.Goals as goal

pub returns-in_default-clause-ok : goal.returns-in_default-clause-ok
returns-in_default-clause-ok c =
    let past : length c.self.inside.slots.items ≤ c.args.conn = search rules in
    no_slot c.args.self.now c.self.inside.slots.items c.args.conn replied c.self.view_is past

pub returns-clause-ok : goal.returns-clause-ok
returns-clause-ok c =
    on_ok_weaker c.reply_at.result
    (slot_changed c.args.self.now c.self.inside.slots.items c.args.conn c.in-Some.slot.now c.reply_at.new.slot replied c.self.view_is c.in-Some.ensures.value) c.reply_at.ensures.ok

pub returns-clause-err : goal.returns-clause-err
returns-clause-err c =
    on_err_weaker c.reply_at.result (slot_kept c.args.self.now c.self.inside.slots.items c.args.conn c.in-Some.slot.now c.reply_at.new.slot c.self.view_is c.in-Some.ensures.value) c.reply_at.ensures.err
