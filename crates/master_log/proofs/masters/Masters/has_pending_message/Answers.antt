-- Each link is looked at.
use Rattle.std.proofs.Common.{◌≡◌, false, refl, sym, ◌∙◌, subst, arith}
use Rattle.std.specs.List.{list_any}
use Rattle.partition_protocol.specs.Service.{numbers_below}
use Rattle.master_member.proofs.Numbers.{any_there, any_not}
use Rattle.master_log.specs.Standing.{run_of}
use Rattle.master_log.proofs.Agreement.{is_sound}
use Rattle.master_log.proofs.Waiting.{from_member, by_members}
use Rattle.master_log.proofs.masters.Masters.has_pending_message.Goals as goal

pub loop-from-init : goal.loop-from-init
loop-from-init c = refl

pub loop-from-preserved : goal.loop-from-preserved
loop-from-preserved c = any_not (from_member c.args.self.now) c.loop-from.from c.loop-from.invariant (sym c.has_pending_message_from.ensures ∙ c.if-has_pending_message_from.false)

pub returns-then-has_pending_message_from : goal.returns-then-has_pending_message_from
returns-then-has_pending_message_from c = λ events stands.
    let self = c.args.self.now in
    sym (sym (by_members self (run_of self events) stands.shows (is_sound self events stands).packets_fit)
    ∙ any_there (from_member self) self.size c.loop-from.from c.loop-from-test.true (sym c.has_pending_message_from.ensures ∙ c.if-has_pending_message_from.true))

pub returns : goal.returns
returns c = λ events stands.
    let self = c.args.self.now in
    let end : c.loop-from.from ≡ self.size = omega (arith, c.loop-from-test.false, c.loop-from.auto.from-end) in
    sym (sym (by_members self (run_of self events) stands.shows (is_sound self events stands).packets_fit)
    ∙ subst (λ k. list_any (from_member self) (numbers_below k) ≡ false) end c.loop-from.invariant)
