use Rattle.std.proofs.Common.{sym, subst, ◌≤◌, length, refl, rules, tests, ◌∙◌}
use Rattle.std.proofs.lemmas.Iterator.{YieldsList-from_slice}
use Rattle.std.proofs.lemmas.Iterator.Search.{position_from_yields_List}
use Rattle.grid_client.proofs.Placing.{is_later, place-found, place-within}
use Rattle.grid_client.proofs.connections.place_before.Goals as goal

pub returns : goal.returns
returns c =
    let test = is_later c.args.conn in
    let connections = c.args.connections.now in
    let found = position_from_yields_List test _ _ c.position.result c.position.ensures.ran (YieldsList-from_slice connections c.iter.ensures.rest) (λ x b q k. search (rules, tests)) in
    let place = c.unwrap_or.ensures ∙ place-found test connections c.position.result (length connections) found refl in
    record {
      place = place;
      within = subst (λ n. n ≤ length connections) (sym place) (place-within test connections);
    }
