use Rattle.std.proofs.Common.{◌≡◌, None, refl, sym, ◌∙◌}
use Rattle.grid_client.specs.Rows.{leader_in}
use Rattle.grid_client.specs.States.{target}
use Rattle.grid_client.proofs.Asking.{no_target}
use Rattle.grid_client.proofs.client.GridClient.request.Goals as goal

pub returns-in_default-clause-no_connection : goal.returns-in_default-clause-no_connection
returns-in_default-clause-no_connection c =
    let s = c.args.self.now in
    let none : target c.args.partition s ≡ None = sym c.target.ensures ∙ c.in_default.is in
    (λ _. no_target (leader_in c.args.partition s.rows) s.connections none, λ _. refl)
