use Rattle.std.proofs.Common.{◌≡◌, Some, sym, ap, ◌∙◌}
use Rattle.std.specs.Prelude.{slice_get}
use Rattle.std.specs.List.{position}
use Rattle.std.proofs.lemmas.Option.{slice_get-get_or}
use Rattle.grid_client.specs.Connections.{is_conn}
use Rattle.grid_client.specs.declared.connections.Connection.{Connection}
use Rattle.grid_client.proofs.Lists.{position_is, position_changed, position_none, none_changed}
use Rattle.grid_client.proofs.connections.welcome.Goals as goal

pub returns-in-Some : goal.returns-in-Some
returns-in-Some c =
    let test = is_conn c.args.conn in
    let items = c.args.connections.now.items in
    let place = c.in-Some.place in
    let old : Connection = c.index_mut-connection.result.now in
    let found = c.in-Some.ensures ∙ ap (position test) c.as_slice.ensures.value in
    let at : slice_get items place ≡ Some old = slice_get-get_or items place old (position_is test items place found).1 ∙ ap Some (sym c.index_mut-connection.ensures.value) in
    position_changed test (λ (x : Connection). record x { uuid = c.args.uuid }) items place old found at

pub returns-in-None : goal.returns-in-None
returns-in-None c =
    let test = is_conn c.args.conn in
    let items = c.args.connections.now.items in
    sym (none_changed test (λ (x : Connection). record x { uuid = c.args.uuid }) items (position_none test items (c.in-None.ensures ∙ ap (position test) c.as_slice.ensures.value)))
