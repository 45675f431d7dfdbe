use Rattle.std.proofs.Common.{ap, ◌∙◌}
use Rattle.std.specs.List.{insert, position_or_len}
use Rattle.listeners.specs.Standing.{placed}
use Rattle.listeners.proofs.Placing.{is_later, insert-placed}
use Rattle.listeners.proofs.audience.Audience.add.Goals as goal

pub returns-clause-ok : goal.returns-clause-ok
returns-clause-ok c =
    let items = c.self.inside.list.items in
    let new = c.args.listener in
    let place = c.place_behind-place.ensures.place ∙ ap (position_or_len (is_later new)) c.as_slice.ensures.value in
    c.in_ok-insert.ensures.items ∙ ap (λ at. insert items at new) place ∙ insert-placed new items ∙ ap (placed new) c.self.view_is
