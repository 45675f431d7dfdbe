use Rattle.std.proofs.Common.{sym, ◌∙◌}
use Rattle.server_tests.proofs.connection.live.Live.open.Goals as goal

pub returns-clause-plans : goal.returns-clause-plans
returns-clause-plans c = λ k d within. sym (c.in_ok-grid.ensures.means k d within) ∙ c.environment-env.ensures
