use Rattle.session_core.proofs.Clients.{last_is_client, authenticated_call, nothing_before}
use Rattle.session_core.proofs.laws.calls_are_authenticated.Goals as goal

pub returns-clause-client : goal.returns-clause-client
returns-clause-client c = last_is_client

pub returns-clause-calls : goal.returns-clause-calls
returns-clause-calls c = authenticated_call

pub returns-clause-before : goal.returns-clause-before
returns-clause-before c = nothing_before
