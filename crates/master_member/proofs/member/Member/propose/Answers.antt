use Rattle.std.proofs.Common.{◌++◌, ◌∷◌, [], ap, ◌∙◌, sym}
use Rattle.masters_protocol.specs.Members.{Member, peers}
use Rattle.master_wire.specs.declared.decision.Decision.{Decision}
use Rattle.master_member.proofs.Sending.{each}
use Rattle.master_member.proofs.WholeSteps.{proposed_is}
use Rattle.master_member.proofs.member.Member.propose.Goals as goal

pub returns-clause-ok : goal.returns-clause-ok
returns-clause-ok c =
    let told = c.as_slice.ensures.value ∙ ap (λ (x : Member Decision). x.told) c.self.view_is in
    let log = c.as_slice-2.ensures.value ∙ ap (λ (x : Member Decision). x.log) c.self.view_is in
    let d = c.args.decision.now in
    proposed_is c.args.size c.args.number c.args.self.now c.as_slice-3.result.now
    (c.as_slice-3.ensures.value ∙ c.in_ok-peers.ensures ∙ ap (λ t. peers c.args.size c.args.number (record c.args.self.now { told = t })) told) _ _ d c.as_slice-2.result.now log c.requires.serving c.in_ok-store.ensures.fits
    (ap (λ (x : Member Decision). x.told) c.self.view_is) (ap (λ (x : Member Decision). x.seen) c.self.view_is)
    (c.in_ok-push.ensures.items ∙ ap (λ x. c.self.inside.log.items ++ x ∷ []) c.in_ok-copied.ensures ∙ ap (λ l. l ++ d ∷ []) (sym c.as_slice-2.ensures.value))
    (ap (λ (x : Member Decision). x.role) c.self.view_is) (c.in_ok-sent.ensures ∙ ap (λ b. each b c.as_slice-3.result.now) c.in_ok-store.ensures.spelled)
