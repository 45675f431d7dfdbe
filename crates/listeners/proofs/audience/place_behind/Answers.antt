use Rattle.std.proofs.Common.{nat_lt, sym, subst, ◌≤◌, length, refl, rules, tests, ◌∙◌}
use Rattle.std.proofs.lemmas.Iterator.{YieldsList-from_slice}
use Rattle.std.proofs.lemmas.Iterator.Search.{position_from_yields_List}
use Rattle.listeners.specs.declared.listener.Listener.{Listener}
use Rattle.listeners.proofs.Placing.{place-found, place-within}
use Rattle.listeners.proofs.audience.place_behind.Goals as goal

pub returns : goal.returns
returns c =
    let test = λ (other : Listener). nat_lt c.args.conn other.conn in
    let listeners = c.args.listeners.now in
    let found = position_from_yields_List test _ _ c.position.result c.position.ensures.ran (YieldsList-from_slice listeners c.iter.ensures.rest) (λ x b q k. search (rules, tests)) in
    let place = c.unwrap_or.ensures ∙ place-found test listeners c.position.result (length listeners) found refl in
    record {
      place = place;
      within = subst (λ n. n ≤ length listeners) (sym place) (place-within test listeners);
    }
