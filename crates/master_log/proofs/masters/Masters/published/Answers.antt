-- It is a front of every later one.
use Rattle.std.proofs.Common.{List, ◌++◌, take, sym, ap, ◌∙◌, subst}
use Rattle.partition_protocol.specs.Sequences.{IsFrontOf}
use Rattle.master_wire.specs.declared.decision.Decision.{Decision}
use Rattle.master_log.specs.Laws.{published_of}
use Rattle.master_log.proofs.Agreement.{every_list_is_a_front}
use Rattle.master_log.proofs.Seen.{member_at, published_is}
use Rattle.master_log.proofs.masters.Masters.published.Goals as goal

pub returns-clause-earlier : goal.returns-clause-earlier
returns-clause-earlier c = λ old before after later.
    let self = c.args.self.now in
    let events = before ++ after in
    let at = member_at self events later.second self.publisher c.from.result c.index.result.now c.from.ensures later.second.shows.publisher c.index.ensures in
    let is = ap (λ (xs : List Decision). take self.published xs) c.log-log.ensures ∙ published_is self events later.second c.index.result.now at in
    subst (IsFrontOf (published_of old before)) (sym is) (every_list_is_a_front old self before after later).published

pub returns-clause-later : goal.returns-clause-later
returns-clause-later c = λ new before after later.
    let self = c.args.self.now in
    let at = member_at self before later.first self.publisher c.from.result c.index.result.now c.from.ensures later.first.shows.publisher c.index.ensures in
    let is = ap (λ (xs : List Decision). take self.published xs) c.log-log.ensures ∙ published_is self before later.first c.index.result.now at in
    subst (λ xs. IsFrontOf xs (published_of new (before ++ after))) (sym is) (every_list_is_a_front self new before after later).published
