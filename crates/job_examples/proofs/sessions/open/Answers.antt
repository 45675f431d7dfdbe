use Rattle.std.proofs.Common.{◌≡◌, [], ◌∷◌, Some, slice_get, length, map, ap, ◌∙◌}
use Rattle.hand_cell.specs.declared.names.Names.TheVariants.{One}
use Rattle.session_calls.specs.Passes.{giving_up}
use Rattle.job_examples.proofs.Opening.{new_session}
use Rattle.job_examples.proofs.sessions.open.Goals as goal

pub returns : goal.returns
returns c =
    let place = c.in_ok-place.place in
    let pass = c.in_ok-cell.pass in
    let passes = c.in_ok-passes.passes.items in
    let passes_are : passes ≡ pass ∷ [] = c.in_ok-passes.ensures.items in
    let left : c.open.new.passes.items ≡ map (giving_up (One 1)) passes = c.in_ok-first.ensures.left in
    let one : length place.cells.items ≡ 1 = ap length c.in_ok-place.ensures.cells ∙ ap length c.in_ok-vec.ensures.items in
    let none : pass.seen ≡ [] = ap (λ p. p.seen) c.in_ok-cell.ensures.pass in
    let there : slice_get passes 0 ≡ Some pass = ap (λ l. slice_get l 0) passes_are in
    let still_there : slice_get c.open.new.passes.items 0 ≡ Some (giving_up (One 1) pass) = ap (λ l. slice_get l 0) left ∙ ap (λ l. slice_get (map (giving_up (One 1)) l) 0) passes_are in record {
      one = one;
      passes = c.in_ok-second.ensures.kept;
      first = new_session place one passes 1 0 c.in_ok-first.first c.in_ok-first.ensures.opened pass there none;
      second = new_session place one c.open.new.passes.items 2 0 c.in_ok-second.second c.in_ok-second.ensures.opened (giving_up (One 1) pass) still_there none;
      queue = c.token_at-queue.ensures.token;
    }
