use Rattle.std.proofs.Common.{◌≡◌, Some, rules, ap, ◌∙◌}
use Rattle.std.specs.Int.{w64}
use Rattle.std.specs.Int.RustNames.{FitsSigned}
use Rattle.std.proofs.lemmas.Int.{to_z-of_z}
use Rattle.std.specs.List.{position}
use Rattle.grid_client.specs.Calls.{is_answered_by, number_in}
use Rattle.grid_client.proofs.Settling.{answered_there, answered_nowhere, settled_there}
use Rattle.grid_client.proofs.calls.settle.Goals as goal

pub returns-in-Some-answered_place-clause-number : goal.returns-in-Some-answered_place-clause-number
returns-in-Some-answered_place-clause-number c =
    let fits : FitsSigned w64 c.args.head.correlation = search rules in
    let known : Some c.in-Some.number ≡ number_in c.args.head.correlation = c.in-Some.ensures ∙ ap number_in (to_z-of_z w64 c.args.head.correlation fits) in
    let test = is_answered_by c.args.conn c.in-Some.number c.args.head.kind in
    answered_there c.args.conn c.args.head c.args.calls.now.items c.in-Some.number c.in-Some-answered_place.place known (c.in-Some-answered_place.ensures ∙ ap (position test) c.as_slice.ensures.value)

pub returns-in-Some-answered_place-clause-calls : goal.returns-in-Some-answered_place-clause-calls
returns-in-Some-answered_place-clause-calls c =
    let test = is_answered_by c.args.conn c.in-Some.number c.args.head.kind in
    c.settle_at.ensures ∙ settled_there test c.args.code c.args.calls.now.items c.in-Some-answered_place.place (c.in-Some-answered_place.ensures ∙ ap (position test) c.as_slice.ensures.value)

pub returns-in-None-clause-number : goal.returns-in-None-clause-number
returns-in-None-clause-number c =
    let fits : FitsSigned w64 c.args.head.correlation = search rules in
    let known : Some c.in-Some.number ≡ number_in c.args.head.correlation = c.in-Some.ensures ∙ ap number_in (to_z-of_z w64 c.args.head.correlation fits) in
    let test = is_answered_by c.args.conn c.in-Some.number c.args.head.kind in
    answered_nowhere c.args.conn c.args.head c.args.calls.now.items c.in-Some.number known (c.in-None.ensures ∙ ap (position test) c.as_slice.ensures.value)
