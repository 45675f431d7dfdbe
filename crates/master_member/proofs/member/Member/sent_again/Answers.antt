-- What isn't answered goes out once more, each message to one peer.
use Rattle.std.proofs.Common.{◌≡◌, not, filter, length, ap, sym, ◌∙◌, subst}
use Rattle.masters_protocol.specs.Members.{Member, Ask, Store, peers, has_told, has_stored, sent_again}
use Rattle.master_wire.specs.declared.decision.Decision.{Decision}
use Rattle.master_wire.specs.Spelling.{spelling, IsSpelled}
use Rattle.master_member.specs.Roles.{role_of}
use Rattle.master_member.specs.Steps.{AreWritten, IsSingle}
use Rattle.master_member.proofs.Sending.{each}
use Rattle.master_member.proofs.Again.{on_ok, on_both, single_again, asked_again, stored_again}
use Rattle.master_member.proofs.member.Member.sent_again.Goals as goal

pub returns-in-Gathering-clause-sent : goal.returns-in-Gathering-clause-sent
returns-in-Gathering-clause-sent c =
    let size = c.args.size in
    let number = c.args.number in
    let n : Member Decision = c.args.self.now in
    let role = sym (ap (λ (x : Member Decision). x.role) c.self.view_is) ∙ ap role_of c.in-Gathering.is in
    let told = c.as_slice.ensures.value ∙ ap (λ (x : Member Decision). x.told) c.self.view_is in
    let among = c.as_slice-in-Gathering.ensures.value ∙ c.in_ok-peers.ensures ∙ ap (λ t. peers size number (record n { told = t })) told in
    let silent = c.as_slice-in-Gathering-2.ensures.value ∙ c.in_ok-silent-in-Gathering.ensures ∙ ap (filter (λ p. not (has_told c.in-Gathering.tells p))) among in
    on_ok c.to_each-in-Gathering.result _ _ c.to_each-in-Gathering.ensures (λ out is. subst (λ o. AreWritten o (sent_again size number n))
    (sym (is ∙ ap (λ b. each b c.as_slice-in-Gathering-2.result.now) c.in_ok-write_ask-in-Gathering.ensures.spelled ∙ ap (each (spelling (Ask number))) silent))
    (asked_again size number n c.in-Gathering.tells role c.in_ok-write_ask-in-Gathering.ensures.fits))

pub returns-in-Gathering-clause-single : goal.returns-in-Gathering-clause-single
returns-in-Gathering-clause-single c =
    let size = c.args.size in
    let number = c.args.number in
    let n : Member Decision = c.args.self.now in
    let told = c.as_slice.ensures.value ∙ ap (λ (x : Member Decision). x.told) c.self.view_is in
    let among = c.as_slice-in-Gathering.ensures.value ∙ c.in_ok-peers.ensures ∙ ap (λ t. peers size number (record n { told = t })) told in
    let silent = c.as_slice-in-Gathering-2.ensures.value ∙ c.in_ok-silent-in-Gathering.ensures ∙ ap (filter (λ p. not (has_told c.in-Gathering.tells p))) among in
    on_ok c.to_each-in-Gathering.result _ _ c.to_each-in-Gathering.ensures (λ out is. subst (λ o. IsSingle size o)
    (sym (is ∙ ap (λ b. each b c.as_slice-in-Gathering-2.result.now) c.in_ok-write_ask-in-Gathering.ensures.spelled ∙ ap (each (spelling (Ask number))) silent))
    (single_again size number n (spelling (Ask number)) (λ p. not (has_told c.in-Gathering.tells p))))

pub returns-in-Serving-clause-sent : goal.returns-in-Serving-clause-sent
returns-in-Serving-clause-sent c =
    let size = c.args.size in
    let number = c.args.number in
    let n : Member Decision = c.args.self.now in
    let told = c.as_slice.ensures.value ∙ ap (λ (x : Member Decision). x.told) c.self.view_is in
    let among = c.as_slice-in-Serving.ensures.value ∙ c.in_ok-peers.ensures ∙ ap (λ t. peers size number (record n { told = t })) told in
    let log : c.as_slice-in-Serving-2.result.now ≡ n.log = c.as_slice-in-Serving-2.ensures.value ∙ ap (λ (x : Member Decision). x.log) c.self.view_is in
    let len : c.len.result ≡ length n.log = c.len.ensures ∙ c.self.invariant ∙ ap (λ (x : Member Decision). length x.log) c.self.view_is in
    let behind = c.as_slice-in-Serving-3.ensures.value ∙ c.in_ok-behind-in-Serving.ensures ∙ ap (λ k. filter (λ p. not (has_stored k c.in-Serving.counts p)) c.as_slice-in-Serving.result.now) len ∙ ap (filter (λ p. not (has_stored (length n.log) c.in-Serving.counts p))) among in
    let wrote = ap (λ l. each (spelling (Store number l)) c.as_slice-in-Serving-3.result.now) log ∙ ap (each (spelling (Store number n.log))) behind in
    let role = sym (ap (λ (x : Member Decision). x.role) c.self.view_is) ∙ ap role_of c.in-Serving.is in
    on_both c.stores.result _ _ c.stores.ensures.sent c.stores.ensures.spelled (λ out is good. subst (λ o. AreWritten o (sent_again size number n)) (sym (is ∙ wrote))
    (stored_again size number n c.in-Serving.counts role (sym c.has_sent.ensures ∙ c.if-has_sent.true) (subst (λ l. IsSpelled (Store number l)) log good)))

pub returns-in-Serving-clause-single : goal.returns-in-Serving-clause-single
returns-in-Serving-clause-single c =
    let size = c.args.size in
    let number = c.args.number in
    let n : Member Decision = c.args.self.now in
    let told = c.as_slice.ensures.value ∙ ap (λ (x : Member Decision). x.told) c.self.view_is in
    let among = c.as_slice-in-Serving.ensures.value ∙ c.in_ok-peers.ensures ∙ ap (λ t. peers size number (record n { told = t })) told in
    let log : c.as_slice-in-Serving-2.result.now ≡ n.log = c.as_slice-in-Serving-2.ensures.value ∙ ap (λ (x : Member Decision). x.log) c.self.view_is in
    let len : c.len.result ≡ length n.log = c.len.ensures ∙ c.self.invariant ∙ ap (λ (x : Member Decision). length x.log) c.self.view_is in
    let behind = c.as_slice-in-Serving-3.ensures.value ∙ c.in_ok-behind-in-Serving.ensures ∙ ap (λ k. filter (λ p. not (has_stored k c.in-Serving.counts p)) c.as_slice-in-Serving.result.now) len ∙ ap (filter (λ p. not (has_stored (length n.log) c.in-Serving.counts p))) among in
    let wrote = ap (λ l. each (spelling (Store number l)) c.as_slice-in-Serving-3.result.now) log ∙ ap (each (spelling (Store number n.log))) behind in
    on_ok c.stores.result _ _ c.stores.ensures.sent (λ out is. subst (λ o. IsSingle size o) (sym (is ∙ wrote))
    (single_again size number n (spelling (Store number n.log)) (λ p. not (has_stored (length n.log) c.in-Serving.counts p))))
