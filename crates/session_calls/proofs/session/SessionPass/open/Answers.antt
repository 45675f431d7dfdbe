use Rattle.std.proofs.Common.{ℕ, ◌*◌, Some, length, refl, ap, ◌∙◌, subst}
use Rattle.std.proofs.lemmas.List.{length-map}
use Rattle.hand_cell.specs.declared.names.Names.TheVariants.{One}
use Rattle.session_calls.specs.Passes.{AreTokensFrom, given}
use Rattle.session_calls.proofs.OfCells.{parts_of}
use Rattle.session_calls.proofs.session.SessionPass.open.Goals as goal

pub returns-clause-opened : goal.returns-clause-opened
returns-clause-opened g c =
    let place = c.args.place.now in
    let old = c.args.passes.now.items in
    let number = One c.args.conn in
    let parts = c.split_places.ensures.parts in record {
      of_place = record {
        each = ap length parts ∙ (length-map old (λ pass. Some (given number pass)) ∙ c.requires.passes.as_long);
        passes = parts_of place.cells.items (given number) (λ p. refl) old c.requires.passes c.split_places.result.items parts;
        four = c.in_ok-tokens.ensures.count;
        tokens = subst (λ (n : ℕ). AreTokensFrom place (4 * n) c.in_ok-tokens.tokens.items) c.from-first.ensures c.in_ok-tokens.ensures.parts;
      };
      conn_is = refl;
      member_is = refl;
      passes_are = parts;
    }
