use Rattle.std.proofs.Common.{ap, refl, ◌∙◌}
use Rattle.masters_protocol.specs.Members.{Member}
use Rattle.master_wire.specs.declared.decision.Decision.{Decision}
use Rattle.master_member.proofs.Sending.{each}
use Rattle.master_member.proofs.WholeSteps.{begun_is, begun_role}
use Rattle.master_member.proofs.member.Member.begin.Goals as goal

pub returns-clause-ok : goal.returns-clause-ok
returns-clause-ok c = begun_is c.args.size c.args.number _ c.args.peers.now c.requires.peers _ _ c.requires.begins c.in_ok-ask.ensures.fits refl refl (ap (λ (x : Member Decision). x.log) c.self.view_is)
    (c.master_role.ensures ∙ ap begun_role c.is_empty.ensures) (c.in_ok-sent.ensures ∙ ap (λ b. each b c.args.peers.now) c.in_ok-ask.ensures.spelled)
