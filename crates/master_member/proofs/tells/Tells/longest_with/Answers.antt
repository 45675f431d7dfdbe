-- The log stands in the place of the one that the member told before.
use Rattle.std.proofs.Common.{◌≡◌, ◌<◌, ◌+◌, List, length, take, drop, ap, ◌∙◌, subst}
use Rattle.std.proofs.lemmas.List.{take_rest}
use Rattle.masters_protocol.specs.Members.{ToldLog, longer, longest}
use Rattle.master_wire.specs.declared.decision.Decision.{Decision}
use Rattle.master_member.proofs.Keeping.{longest_again}
use Rattle.master_member.proofs.tells.Tells.longest_with.Goals as goal

pub returns-then-at-tells : goal.returns-then-at-tells
returns-then-at-tells c =
    let own = c.args.own.now in
    let log = c.args.log.now in
    let at = c.place_of-at.result in
    let ks : List (ToldLog Decision) = c.args.self.now in
    let tells = c.as_slice-tells.result.now in
    let same : tells ≡ ks = c.as_slice-tells.ensures.value ∙ c.self.view_is in
    let place = c.place_of-at.ensures in
    let within : at < length ks = subst (λ (xs : List (ToldLog Decision)). at < length xs) same c.if-at-tells.true in
    c.longest_of-then-at-tells.ensures ∙ ap (longest c.longer-before.result.now) (take_rest tells (at + 1)) ∙ ap (λ b. longest b (drop (at + 1) tells)) (c.longer-before.ensures ∙ ap (λ b. longer b log) c.longest_of.ensures)
    ∙ ap (λ xs. longest (longer (longest own (take at xs)) log) (drop (at + 1) xs)) same
    ∙ ap (λ i. longest (longer (longest own (take i ks)) log) (drop (i + 1) ks)) place
    ∙ longest_again c.args.member log own ks (subst (λ i. i < length ks) place within)
