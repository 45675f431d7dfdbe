use Rattle.std.proofs.Common.{length, ◌≤◌, sym, rules}
use Rattle.std.specs.Option.{option_map}
use Rattle.replay_run.specs.Tables.{lines_answered}
use Rattle.replay_run.proofs.Slots.{changed_there, changed_past}
use Rattle.replay_run.proofs.connections.mark.Goals as goal

pub returns-in_default : goal.returns-in_default
returns-in_default c =
    let past : length c.args.calls.now.items ≤ c.args.number = search rules in
    sym (changed_past (option_map (lines_answered c.args.line)) c.args.calls.now.items c.args.number past)

pub returns-in-Some : goal.returns-in-Some
returns-in-Some c =
    changed_there (option_map (lines_answered c.args.line)) c.args.calls.now.items c.args.number c.in-Some.call.now c.mark_call.new.call c.in-Some.ensures.value c.mark_call.ensures
