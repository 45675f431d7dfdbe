use Rattle.std.proofs.Common.{ap, ◌∙◌, rules, tests}
use Rattle.std.proofs.lemmas.Fn.{filter_same}
use Rattle.listeners.specs.Standing.{without}
use Rattle.listeners.proofs.audience.Audience.drop_connection.Goals as goal

pub returns : goal.returns
returns c = filter_same _ _ _ (λ x b f' k. search (rules, tests)) _ _ c.retain.ensures.filtered ∙ ap (without c.args.conn) c.self.view_is
