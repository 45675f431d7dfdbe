-- Each link from the member is looked at.
use Rattle.std.proofs.Common.{◌≡◌, false, refl, ap, sym, ◌∙◌, subst, arith}
use Rattle.std.specs.List.{list_any}
use Rattle.partition_protocol.specs.Service.{numbers_below}
use Rattle.link_net.specs.Links.{list_of}
use Rattle.master_member.proofs.Numbers.{any_there, any_not}
use Rattle.master_log.proofs.Waiting.{is_longer}
use Rattle.master_log.proofs.masters.Masters.has_pending_message_from.Goals as goal

pub loop-to-init : goal.loop-to-init
loop-to-init c = refl

pub loop-to-preserved : goal.loop-to-preserved
loop-to-preserved c =
    let self = c.args.self.now in
    any_not (λ to. list_any (is_longer self.published) (list_of self.links c.args.from to)) c.loop-to.to c.loop-to.invariant (sym (c.has_longer.ensures ∙ ap (list_any (is_longer self.published)) c.list.ensures) ∙ c.if-has_longer.false)

pub returns-then-has_longer : goal.returns-then-has_longer
returns-then-has_longer c =
    let self = c.args.self.now in
    sym (any_there (λ to. list_any (is_longer self.published) (list_of self.links c.args.from to)) self.size c.loop-to.to c.loop-to-test.true (sym (c.has_longer.ensures ∙ ap (list_any (is_longer self.published)) c.list.ensures) ∙ c.if-has_longer.true))

pub returns : goal.returns
returns c =
    let self = c.args.self.now in
    let end : c.loop-to.to ≡ self.size = omega (arith, c.loop-to-test.false, c.loop-to.auto.to-end) in
    sym (subst (λ k. list_any (λ to. list_any (is_longer self.published) (list_of self.links c.args.from to)) (numbers_below k) ≡ false) end c.loop-to.invariant)
