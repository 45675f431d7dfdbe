-- It is sent, and then published.
use Rattle.std.proofs.Common.{refl}
use Rattle.masters_protocol.specs.Machine.{sending}
use Rattle.master_log.proofs.Showing.{sent_shows}
use Rattle.master_log.proofs.masters.Masters.finish.Goals as goal

pub returns-clause-shows : goal.returns-clause-shows
returns-clause-shows c = λ w all shows wrote.
    c.publish.ensures.shows (sending w c.args.member all)
    (sent_shows c.args.self.now w shows (record c.args.self.now { links = c.send_all.new.self }) c.args.member all c.args.sent.items wrote refl c.send_all.ensures.ends c.send_all.ensures.lists)
