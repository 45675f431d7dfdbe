-- Each member is looked at.
use Rattle.std.proofs.Common.{◌≡◌, ◌<◌, false, refl, sym, ◌∙◌, subst, arith}
use Rattle.std.specs.List.{list_any}
use Rattle.partition_protocol.specs.Service.{numbers_below}
use Rattle.masters_protocol.specs.Machine.{is_pending_member}
use Rattle.master_member.proofs.Numbers.{any_there, any_not}
use Rattle.master_log.specs.Standing.{run_of}
use Rattle.master_log.proofs.masters.Masters.has_pending_member.Goals as goal

pub loop-member-init : goal.loop-member-init
loop-member-init c = λ events stands. refl

pub loop-member-preserved : goal.loop-member-preserved
loop-member-preserved c = λ events stands.
    any_not (is_pending_member (run_of c.args.self.now events)) c.loop-member.member (c.loop-member.invariant events stands) (sym (c.is_pending_member.ensures events stands) ∙ c.if-is_pending_member.false)

pub returns-then-is_pending_member : goal.returns-then-is_pending_member
returns-then-is_pending_member c = λ events stands.
    let w = run_of c.args.self.now events in
    sym (any_there (is_pending_member w) w.size c.loop-member.member (subst (λ k. c.loop-member.member < k) stands.shows.size c.loop-member-test.true)
    (sym (c.is_pending_member.ensures events stands) ∙ c.if-is_pending_member.true))

pub returns : goal.returns
returns c = λ events stands.
    let w = run_of c.args.self.now events in
    let end : c.loop-member.member ≡ w.size = omega (arith, c.loop-member-test.false, c.loop-member.auto.member-end) ∙ stands.shows.size in
    sym (subst (λ k. list_any (is_pending_member w) (numbers_below k) ≡ false) end (c.loop-member.invariant events stands))
