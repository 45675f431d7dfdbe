use Rattle.member_wire.proofs.Putting.{put_last}
use Rattle.member_wire.proofs.outbox.Outbox.write_bridge.Goals as goal

pub returns-clause-ok : goal.returns-clause-ok
returns-clause-ok c = put_last _ _ _ _ _ _ c.in_ok-bytes.ensures.spelled c.push.ensures.ok
