use Rattle.std.proofs.Common.{arith}
use Rattle.std.proofs.lemmas.Result.{on_ok_weaker}
use Rattle.message_frames.proofs.Rooms.{room_widened, room_at-set}
use Rattle.message_frames.proofs.assembler.widen.Goals as goal

pub returns-clause-same : goal.returns-clause-same
returns-clause-same c =
    room_widened c.args.lists.now.items c.args.list c.index_mut-room.result.now c.reserve.new.self c.index_mut-room.ensures.value c.reserve.ensures.items c.reserve.ensures.capacity

pub returns-clause-room : goal.returns-clause-room
returns-clause-room c =
    rw (room_at-set c.args.lists.now.items c.args.list c.reserve.new.self (omega arith))
    (on_ok_weaker c.reserve.result (λ enough. omega (arith, enough, c.len.ensures, c.saturating_sub.ensures, c.reserve.ensures.len)) c.reserve.ensures.ok)
