use Rattle.std.proofs.Common.{sym, ◌∙◌}
use Rattle.grid_client.proofs.Asking.{no_first}
use Rattle.grid_client.proofs.connections.target_of.Goals as goal

pub returns-in_err-first : goal.returns-in_err-first
returns-in_err-first c = c.from_residual.ensures ∙ sym (no_first c.args.leader c.args.connections.now (sym c.first_of.ensures ∙ c.in_err-first.was))
