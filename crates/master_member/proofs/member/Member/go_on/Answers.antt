-- Each peer has told, and it serves.
use Rattle.std.proofs.Common.{ap, sym, ◌∙◌, subst}
use Rattle.masters_protocol.specs.Members.{Member, Store, server}
use Rattle.master_wire.specs.declared.decision.Decision.{Decision}
use Rattle.master_wire.specs.Spelling.{spelling, IsSpelled}
use Rattle.master_member.proofs.Sending.{each}
use Rattle.master_member.proofs.WholeSteps.{gathered_is}
use Rattle.master_member.proofs.member.Member.go_on.Goals as goal

pub returns-clause-ok : goal.returns-clause-ok
returns-clause-ok c =
    let n : Member Decision = record c.args.self.now { told = c.args.told.items } in
    let longest = c.longest.ensures in
    gathered_is c.args.size c.args.number n c.args.peers.now c.requires.peers _ _ c.requires.rests (sym c.is_gathered_by.ensures ∙ c.if-not-is_gathered_by.false)
    (c.serve.ensures ∙ ap (λ (x : Member Decision). server (record x { told = c.args.told.items })) c.self.view_is)
    (subst (λ l. IsSpelled (Store c.args.number l)) longest c.in_ok-sent.ensures.spelled)
    (c.in_ok-sent.ensures.sent ∙ ap (λ l. each (spelling (Store c.args.number l)) c.args.peers.now) longest)
