-- It is read, as it has its spelling.
use Rattle.std.proofs.Common.{◌∙◌}
use Rattle.master_log.proofs.Runs.{read_bytes, is_spelled}
use Rattle.master_log.proofs.masters.Masters.message.Goals as goal

pub returns-in-Ok : goal.returns-in-Ok
returns-in-Ok c w packet shows at =
    let self = c.args.self.now in
    let bytes = c.as_slice.ensures ∙ read_bytes self w shows c.args.from c.args.to c.args.place packet at c.list.result.now c.index-list-place.result c.list.ensures c.index-list-place.is in
    let is = c.in-Ok.ensures.only packet.message (is_spelled self w shows c.args.from c.args.to c.args.place packet at) bytes in
    cc
