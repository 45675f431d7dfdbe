use Rattle.std.proofs.Common.{◌==◌, option_map, ap, sym, ◌∙◌}
use Rattle.std.specs.List.{position}
use Rattle.grid_client.specs.declared.near.Awaited.{Awaited}
use Rattle.grid_client.proofs.Lists.{position_found, position_erased, position_none, none_erased}
use Rattle.grid_client.proofs.near.take_out.Goals as goal

pub returns-in-Some-clause-value : goal.returns-in-Some-clause-value
returns-in-Some-clause-value c =
    let test = λ (a : Awaited). a.number == c.args.number in
    let items = c.args.awaited.now.items in
    sym (ap (option_map (λ (a : Awaited). a.reservation)) (position_found test items c.in-Some.place c.remove.result (c.in-Some.ensures ∙ ap (position test) c.as_slice.ensures.value) c.remove.ensures.value))

pub returns-in-Some-clause-items : goal.returns-in-Some-clause-items
returns-in-Some-clause-items c =
    let test = λ (a : Awaited). a.number == c.args.number in
    let items = c.args.awaited.now.items in
    c.remove.ensures.items ∙ position_erased test items c.in-Some.place (c.in-Some.ensures ∙ ap (position test) c.as_slice.ensures.value)

pub returns-in-None-clause-value : goal.returns-in-None-clause-value
returns-in-None-clause-value c =
    let test = λ (a : Awaited). a.number == c.args.number in
    let items = c.args.awaited.now.items in
    sym (ap (option_map (λ (a : Awaited). a.reservation)) (position_none test items (c.in-None.ensures ∙ ap (position test) c.as_slice.ensures.value)))

pub returns-in-None-clause-items : goal.returns-in-None-clause-items
returns-in-None-clause-items c =
    let test = λ (a : Awaited). a.number == c.args.number in
    let items = c.args.awaited.now.items in
    sym (none_erased test items (position_none test items (c.in-None.ensures ∙ ap (position test) c.as_slice.ensures.value)))
