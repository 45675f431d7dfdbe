-- The log is kept, and where it was the last one the member serves.
use Rattle.std.proofs.Common.{◌==◌, ◌||◌, refl, ap, sym, ◌∙◌, subst}
use Rattle.std.specs.List.{list_all}
use Rattle.masters_protocol.specs.Members.{Member, Store, peers, has_told, tells_of}
use Rattle.master_wire.specs.declared.decision.Decision.{Decision}
use Rattle.master_wire.specs.Spelling.{spelling, IsSpelled}
use Rattle.master_member.specs.Outcomes.{outcome_of}
use Rattle.master_member.proofs.Keeping.{all_told_more}
use Rattle.master_member.proofs.Sending.{each}
use Rattle.master_member.proofs.Takes.{most, tell_done, tell_ended}
use Rattle.master_member.proofs.member.Member.take_tell.Goals as goal

pub returns-then-not-have_told_with-clause-ok : goal.returns-then-not-have_told_with-clause-ok
returns-then-not-have_told_with-clause-ok c =
    let size = c.args.size in
    let number = c.args.number in
    let from = c.args.from in
    let log = c.args.log.items in
    let n : Member Decision = c.args.self.now in
    let told = c.as_slice.ensures.value ∙ ap (λ (x : Member Decision). x.told) c.self.view_is in
    let among = c.as_slice-2.ensures.value ∙ c.in_ok-peers.ensures ∙ ap (λ t. peers size number (record n { told = t })) told in
    let more = all_told_more from log (tells_of n.role) (peers size number n) ∙ ap (list_all (λ p. (from == p) || has_told (tells_of n.role) p)) (sym among) ∙ sym c.have_told_with.ensures ∙ c.if-not-have_told_with.true in
    tell_done size number from n c.args.term log (sym c.gathers_in.ensures ∙ c.if-not-gathers_in.false) c.keep.new.self c.quiet-then-not-have_told_with.result more c.in_ok-keep.ensures.ok
    c.quiet-then-not-have_told_with.ensures.sent (ap outcome_of c.quiet-then-not-have_told_with.ensures.took)

pub returns-clause-ok : goal.returns-clause-ok
returns-clause-ok c =
    let size = c.args.size in
    let number = c.args.number in
    let from = c.args.from in
    let log = c.args.log.items in
    let n : Member Decision = c.args.self.now in
    let told = c.as_slice.ensures.value ∙ ap (λ (x : Member Decision). x.told) c.self.view_is in
    let told_to = c.in_ok-peers.ensures ∙ ap (λ t. peers size number (record n { told = t })) told in
    let gathers = sym c.gathers_in.ensures ∙ c.if-not-gathers_in.false in
    let all = all_told_more from log (tells_of n.role) (peers size number n) ∙ ap (list_all (λ p. (from == p) || has_told (tells_of n.role) p)) (sym (c.as_slice-2.ensures.value ∙ told_to)) ∙ sym c.have_told_with.ensures ∙ c.if-not-have_told_with.false in
    let longest = c.longest_with-longest.ensures ∙ ap (λ l. most size number from n c.args.term l gathers) c.as_slice-3.ensures.value in
    tell_ended size number from n c.args.term log gathers c.keep-2.new.self c.serve.new.self _ all
    (subst (λ l. IsSpelled (Store number l)) longest c.in_ok-sent.ensures.spelled) c.in_ok-keep-2.ensures.ok c.serve.ensures
    (c.in_ok-sent.ensures.sent ∙ ap (λ l. each (spelling (Store number l)) c.as_slice-4.result.now) longest ∙ ap (each (spelling (Store number (most size number from n c.args.term log gathers)))) (c.as_slice-4.ensures.value ∙ told_to)) refl
