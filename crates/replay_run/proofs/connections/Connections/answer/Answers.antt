use Rattle.std.proofs.Common.{length, ◌≤◌, rules}
use Rattle.replay_run.specs.Tables.{answered}
use Rattle.replay_run.proofs.Slots.{slot_changed, no_slot}
use Rattle.replay_run.proofs.connections.Connections.answer.Goals as goal

pub returns-in_default : goal.returns-in_default
returns-in_default c =
    let past : length c.self.inside.slots.items ≤ c.args.id.conn = search rules in
    no_slot c.args.self.now c.self.inside.slots.items c.args.id.conn (answered c.args.id.number c.args.line) c.self.view_is past

pub returns : goal.returns
returns c =
    slot_changed c.args.self.now c.self.inside.slots.items c.args.id.conn c.in-Some.slot.now c.answer_at.new.slot (answered c.args.id.number c.args.line) c.self.view_is c.in-Some.ensures.value c.answer_at.ensures
