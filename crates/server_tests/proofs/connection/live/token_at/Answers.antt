use Rattle.std.proofs.Common.{◌<◌, length, Some, ap, sym, subst, ◌∙◌, arith}
use Rattle.std.proofs.lemmas.Grind.{common_steps}
use Rattle.std.proofs.lemmas.Option.{slice_get-get_or}
use Rattle.partition_threads.specs.Workplaces.{IsTokenAt}
use Rattle.server_tests.proofs.Opening.{Place}
use Rattle.server_tests.proofs.connection.live.token_at.Goals as goal

pub split_token-requires-after_bounds : goal.split_token-requires-after_bounds
split_token-requires-after_bounds c κs =
    let tokens = c.args.tokens.now.items in
    let token = c.index_mut.result.now in
    let less : c.args.worker < length tokens = grind (arith, common_steps) in
    subst (λ (place : Place). IsTokenAt place c.args.worker token) (sym c.workplace.ensures)
    (c.requires.tokens c.args.worker token (slice_get-get_or tokens c.args.worker token less ∙ ap Some (sym c.index_mut.ensures.value)))
