use Rattle.std.proofs.Common.{ap, ◌∙◌}
use Rattle.std.specs.List.{insert, position_or_len}
use Rattle.grid_client.specs.Connections.{new_connection}
use Rattle.grid_client.proofs.Placing.{is_later, insert-placed}
use Rattle.grid_client.proofs.connections.attach.Goals as goal

pub returns-clause-ok : goal.returns-clause-ok
returns-clause-ok c =
    let items = c.args.connections.now.items in
    let conn = c.args.conn in
    let place = c.place_before-place.ensures.place ∙ ap (position_or_len (is_later conn)) c.as_slice.ensures.value in
    c.in_ok-insert.ensures.items ∙ ap (λ at. insert items at c.new.result) place ∙ ap (λ new. insert items (position_or_len (is_later conn) items) new) c.new.ensures
    ∙ insert-placed (new_connection conn) items
