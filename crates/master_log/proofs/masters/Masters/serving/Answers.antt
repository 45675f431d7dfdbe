-- The first that serves is the lowest.
use Rattle.std.proofs.Common.{◌≡◌, ◌<◌, [], filter, refl, ap, sym, ◌∙◌, subst, arith}
use Rattle.partition_protocol.specs.Service.{numbers_below}
use Rattle.masters_protocol.specs.Machine.{serves, lowest_of}
use Rattle.master_member.proofs.Numbers.{lowest_is, filter_same}
use Rattle.master_log.specs.Standing.{run_of}
use Rattle.master_log.proofs.masters.Masters.serving.Goals as goal

pub loop-member-init : goal.loop-member-init
loop-member-init c = λ events stands. refl

pub loop-member-preserved : goal.loop-member-preserved
loop-member-preserved c = λ events stands.
    filter_same (serves (run_of c.args.self.now events)) c.loop-member.member (sym (c.serves.ensures events stands) ∙ c.if-serves.false) ∙ c.loop-member.invariant events stands

pub returns-then-serves : goal.returns-then-serves
returns-then-serves c = λ events stands.
    let w = run_of c.args.self.now events in
    sym (lowest_is (serves w) w.size c.loop-member.member (subst (λ k. c.loop-member.member < k) stands.shows.size c.loop-member-test.true) (c.loop-member.invariant events stands)
    (sym (c.serves.ensures events stands) ∙ c.if-serves.true))

pub returns : goal.returns
returns c = λ events stands.
    let w = run_of c.args.self.now events in
    let end : c.loop-member.member ≡ w.size = omega (arith, c.loop-member-test.false, c.loop-member.auto.member-end) ∙ stands.shows.size in
    sym (ap lowest_of (subst (λ k. filter (serves w) (numbers_below k) ≡ []) end (c.loop-member.invariant events stands)))
