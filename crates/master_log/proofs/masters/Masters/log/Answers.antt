-- What was published before is a front of it.
use Rattle.std.proofs.Common.{◌++◌, sym, ◌∙◌, subst}
use Rattle.partition_protocol.specs.Sequences.{IsFrontOf}
use Rattle.master_log.specs.Laws.{published_of}
use Rattle.master_log.proofs.Agreement.{every_list_is_a_front}
use Rattle.master_log.proofs.Seen.{live_within, member_at, log_is}
use Rattle.master_log.proofs.masters.Masters.log.Goals as goal

pub returns-clause-earlier : goal.returns-clause-earlier
returns-clause-earlier c = λ old before after later lives.
    let self = c.args.self.now in
    let events = before ++ after in
    let m = c.args.member in
    let at = member_at self events later.second m c.from.result c.index.result.now c.from.ensures (live_within self events later.second m lives) c.index.ensures in
    subst (IsFrontOf (published_of old before)) (log_is self events later.second m c.index.result.now at ∙ sym c.log.ensures) ((every_list_is_a_front old self before after later).logs m lives)
