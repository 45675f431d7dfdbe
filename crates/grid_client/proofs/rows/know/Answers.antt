use Rattle.std.proofs.Common.{◌≡◌, ◌==◌, not, filter, List, [], ◌∷◌, ◌++◌, ap, ◌∙◌, rules, tests}
use Rattle.std.proofs.lemmas.Fn.{filter_same}
use Rattle.event_codecs.specs.declared.seen.SeenRow.{SeenRow}
use Rattle.grid_client.proofs.rows.know.Goals as goal

pub returns : goal.returns
returns c =
    let test = λ (r : SeenRow). not (r.partition == c.args.row.partition) in
    let left : c.retain.new.self.items ≡ filter test c.args.rows.now.items = filter_same _ _ _ (λ x b f' k. search (rules, tests)) _ _ c.retain.ensures.filtered in
    c.in_ok-push.ensures.items ∙ ap (λ (l : List SeenRow). l ++ c.args.row ∷ []) left
