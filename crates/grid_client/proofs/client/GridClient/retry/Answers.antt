use Rattle.std.proofs.Common.{◌≡◌, Some, refl, rules, ap, ◌∙◌, subst}
use Rattle.std.specs.Int.{w64}
use Rattle.std.specs.Int.RustNames.{FitsSigned}
use Rattle.std.specs.List.{position}
use Rattle.std.proofs.lemmas.Int.{to_z-of_z}
use Rattle.grid_client.specs.Calls.{is_refused, number_in}
use Rattle.grid_client.specs.States.{State, HasRetriedAt, MayHaveRetried, IsNotRefused}
use Rattle.grid_client.proofs.Lists.{position_none}
use Rattle.grid_client.proofs.Asking.{retried_is}
use Rattle.grid_client.proofs.client.GridClient.retry.Goals as goal

pub returns-in_ok-retry_at-in-Some-refused_place-clause-ok : goal.returns-in_ok-retry_at-in-Some-refused_place-clause-ok
returns-in_ok-retry_at-in-Some-refused_place-clause-ok c =
    let s = c.args.self.now in
    let n = c.in-Some.number in
    let fits : FitsSigned w64 c.args.correlation = search rules in
    let known : Some n ≡ number_in c.args.correlation = c.in-Some.ensures ∙ ap number_in (to_z-of_z w64 c.args.correlation fits) in
    let place = c.in-Some-refused_place.place in
    let new = c.retry_at.new.self in
    let sending = c.in_ok-retry_at-in-Some-refused_place.field-0 in
    let found = c.in-Some-refused_place.ensures ∙ ap (position (is_refused n)) (c.deref.ensures.value ∙ ap (λ (x : State). x.calls) c.self.view_is) in
    let its : HasRetriedAt place s new sending = first_of (search rules, search (rules, subst (λ (x : State). HasRetriedAt place x new sending) c.self.view_is)) in
    subst (λ o. MayHaveRetried o s new (Some sending)) known (retried_is n place s new sending found its)

pub returns-in-None-clause-ok : goal.returns-in-None-clause-ok
returns-in-None-clause-ok c =
    let s = c.args.self.now in
    let n = c.in-Some.number in
    let fits : FitsSigned w64 c.args.correlation = search rules in
    let known : Some n ≡ number_in c.args.correlation = c.in-Some.ensures ∙ ap number_in (to_z-of_z w64 c.args.correlation fits) in
    let none = c.in-None.ensures ∙ ap (position (is_refused n)) (c.deref.ensures.value ∙ ap (λ (x : State). x.calls) c.self.view_is) in
    (subst (λ o. IsNotRefused o s) known (position_none (is_refused n) s.calls none), refl)
