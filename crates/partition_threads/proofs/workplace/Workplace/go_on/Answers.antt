use Rattle.std.proofs.Common.{ℕ, ◌+◌, ◌*◌, ◌%◌, subst, sym}
use Rattle.job_queues.specs.Calls.{IsBegun}
use Rattle.job_queues.specs.Roster.{roster_of}
use Rattle.partition_threads.specs.Workplaces.{IsTokenAt}
use Rattle.partition_threads.proofs.MadeCalls.{came_as}
use Rattle.partition_threads.proofs.workplace.Workplace.go_on.Goals as goal

pub hand_over-requires-clause-token : goal.hand_over-requires-clause-token
hand_over-requires-clause-token g c κs within =
    let place = c.args.self.now in
    let token = c.args.token.now in
    let went = c.deliver_at_once-call.result.0 in
    let run = c.deliver_at_once-call.ensures c.requires.call.0 c.requires.call.1 in
    subst (λ (m : ℕ). IsTokenAt place (4 * m + went.partition % 4) token) (sym run.same_member)
    (subst (λ (p : ℕ). IsTokenAt place (4 * c.args.call.member + p % 4) token) (sym run.same_partition) c.requires.token)

pub hand_over-requires-clause-call : goal.hand_over-requires-clause-call
hand_over-requires-clause-call g c κs within =
    let terms = c.requires.call.0 in (
      terms,
      subst (λ o. IsBegun g.T.Stands.key_of g.T.Served.tells g.T.Served.call_of (roster_of c.args.self.now.cells.items) terms c.deliver_at_once-call.result.0 o) c.in-None.is
          (c.deliver_at_once-call.ensures terms c.requires.call.1).begun,
    )

pub returns-in-Some-clause-came : goal.returns-in-Some-clause-came
returns-in-Some-clause-came g c = λ terms begun.
    let roster = roster_of c.args.self.now.cells.items in
    c.done_with.ensures roster terms
    (subst (λ o. IsBegun g.T.Stands.key_of g.T.Served.tells g.T.Served.call_of roster terms c.deliver_at_once-call.result.0 o) c.in-Some.is (c.deliver_at_once-call.ensures terms begun).begun)

pub returns-in-None-clause-came : goal.returns-in-None-clause-came
returns-in-None-clause-came g c = λ terms begun.
    let roster = roster_of c.args.self.now.cells.items in
    let went = c.deliver_at_once-call.result.0 in
    let run = c.deliver_at_once-call.ensures terms begun in
    came_as g.T.Stands.key_of g.T.Served.tells g.T.Served.call_of roster terms c.args.call.member c.args.call.partition c.args.call.id went c.deliver_at_once-call.result.1 c.hand_over.result run
    (c.hand_over.ensures.came terms (subst (λ o. IsBegun g.T.Stands.key_of g.T.Served.tells g.T.Served.call_of roster terms went o) c.in-None.is run.begun))
