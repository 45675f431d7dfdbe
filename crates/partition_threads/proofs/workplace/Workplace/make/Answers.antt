use Rattle.std.proofs.Common.{ℕ, ◌+◌, ◌*◌, ◌%◌, subst, sym, refl}
use Rattle.job_queues.specs.declared.call.NewCall.{NewCall}
use Rattle.job_queues.specs.Calls.{IsNew, IsBegun}
use Rattle.job_queues.specs.Roster.{roster_of}
use Rattle.partition_threads.specs.declared.making.Made.TheVariants.{Done}
use Rattle.partition_threads.specs.Workplaces.{IsTokenAt}
use Rattle.partition_threads.proofs.Calling.{may_run}
use Rattle.partition_threads.proofs.MadeCalls.{came_as, made_on, made_by}
use Rattle.partition_threads.proofs.workplace.Workplace.make.Goals as goal

pub try_call_turn-requires-clause-call : goal.try_call_turn-requires-clause-call
try_call_turn-requires-clause-call g c κs within =
    may_run g.T.Stands.key_of g.T.Served.tells g.T.Served.call_of g.T.Served.fits c.args.self.now.cells.items _ c.requires.cell c.requires.named c.requires.unused c.requires.within

pub start_made-requires-clause-call : goal.start_made-requires-clause-call
start_made-requires-clause-call g c κs within =
    may_run g.T.Stands.key_of g.T.Served.tells g.T.Served.call_of g.T.Served.fits c.args.self.now.cells.items _ c.requires.cell c.requires.named c.requires.unused c.requires.within

pub start_made-requires-in-Err-clause-call : goal.start_made-requires-in-Err-clause-call
start_made-requires-in-Err-clause-call g c κs within =
    let key_of = g.T.Stands.key_of in
    let tells = g.T.Served.tells in
    let call_of = g.T.Served.call_of in
    let fits = g.T.Served.fits in
    let cells = c.args.self.now.cells.items in
    let j : NewCall g.row.T.Denot g.row.T-Plan.Denot g.row.T-Event.Denot g.row.T-Outcome.Denot = record { pass = c.args.pass; member = c.args.member; request = c.args.request; now = c.args.now } in
    let may = may_run key_of tells call_of fits cells j c.requires.cell c.requires.named c.requires.unused c.requires.within in
    (may.0, subst (λ (n : NewCall g.row.T.Denot g.row.T-Plan.Denot g.row.T-Event.Denot g.row.T-Outcome.Denot). IsNew key_of call_of fits (roster_of cells) may.0 n) (sym c.in-Err.ensures.back) may.1)

pub go_on-requires-clause-token : goal.go_on-requires-clause-token
go_on-requires-clause-token g c κs within =
    let key_of = g.T.Stands.key_of in
    let tells = g.T.Served.tells in
    let call_of = g.T.Served.call_of in
    let fits = g.T.Served.fits in
    let cells = c.args.self.now.cells.items in
    let j : NewCall g.row.T.Denot g.row.T-Plan.Denot g.row.T-Event.Denot g.row.T-Outcome.Denot = record { pass = c.args.pass; member = c.args.member; request = c.args.request; now = c.args.now } in
    let may = may_run key_of tells call_of fits cells j c.requires.cell c.requires.named c.requires.unused c.requires.within in
    let run = c.in-Ok.ensures.begun may.0 may.1 in
    subst (λ (m : ℕ). IsTokenAt c.args.self.now (4 * m + c.in-Ok.call.partition % 4) c.is_idle.new.token) (sym run.same_member)
    (subst (λ (p : ℕ). IsTokenAt c.args.self.now (4 * c.args.member + p % 4) c.is_idle.new.token) (sym run.same_partition)
    (subst (λ t. IsTokenAt c.args.self.now (4 * c.args.member + c.args.request.partition % 4) t) (sym c.is_idle.ensures) c.requires.token))

pub go_on-requires-clause-call : goal.go_on-requires-clause-call
go_on-requires-clause-call g c κs within =
    let key_of = g.T.Stands.key_of in
    let tells = g.T.Served.tells in
    let call_of = g.T.Served.call_of in
    let fits = g.T.Served.fits in
    let cells = c.args.self.now.cells.items in
    let j : NewCall g.row.T.Denot g.row.T-Plan.Denot g.row.T-Event.Denot g.row.T-Outcome.Denot = record { pass = c.args.pass; member = c.args.member; request = c.args.request; now = c.args.now } in
    let may = may_run key_of tells call_of fits cells j c.requires.cell c.requires.named c.requires.unused c.requires.within in
    (may.0, subst (λ o. IsBegun key_of tells call_of (roster_of cells) may.0 c.in-Ok.call o) c.in-None.is (c.in-Ok.ensures.begun may.0 may.1).begun)

pub returns-then-not-is_idle-clause-made : goal.returns-then-not-is_idle-clause-made
returns-then-not-is_idle-clause-made g c =
    let key_of = g.T.Stands.key_of in
    let tells = g.T.Served.tells in
    let call_of = g.T.Served.call_of in
    let fits = g.T.Served.fits in
    let cells = c.args.self.now.cells.items in
    let j : NewCall g.row.T.Denot g.row.T-Plan.Denot g.row.T-Event.Denot g.row.T-Outcome.Denot = record { pass = c.args.pass; member = c.args.member; request = c.args.request; now = c.args.now } in
    let may = may_run key_of tells call_of fits cells j c.requires.cell c.requires.named c.requires.unused c.requires.within in
    made_by key_of tells call_of (roster_of cells) may.0 fits j j refl may.1 c.start_made.result (c.start_made.ensures.came may.0)

pub returns-in-Some-clause-made : goal.returns-in-Some-clause-made
returns-in-Some-clause-made g c =
    let key_of = g.T.Stands.key_of in
    let tells = g.T.Served.tells in
    let call_of = g.T.Served.call_of in
    let fits = g.T.Served.fits in
    let cells = c.args.self.now.cells.items in
    let j : NewCall g.row.T.Denot g.row.T-Plan.Denot g.row.T-Event.Denot g.row.T-Outcome.Denot = record { pass = c.args.pass; member = c.args.member; request = c.args.request; now = c.args.now } in
    let may = may_run key_of tells call_of fits cells j c.requires.cell c.requires.named c.requires.unused c.requires.within in
    let run = c.in-Ok.ensures.begun may.0 may.1 in
    made_on key_of tells call_of (roster_of cells) may.0 fits j may.1 (Done c.done_with.result)
    (c.done_with.ensures (roster_of cells) may.0 (subst (λ o. IsBegun key_of tells call_of (roster_of cells) may.0 c.in-Ok.call o) c.in-Some.is run.begun))

pub returns-in-None-clause-made : goal.returns-in-None-clause-made
returns-in-None-clause-made g c =
    let key_of = g.T.Stands.key_of in
    let tells = g.T.Served.tells in
    let call_of = g.T.Served.call_of in
    let fits = g.T.Served.fits in
    let cells = c.args.self.now.cells.items in
    let j : NewCall g.row.T.Denot g.row.T-Plan.Denot g.row.T-Event.Denot g.row.T-Outcome.Denot = record { pass = c.args.pass; member = c.args.member; request = c.args.request; now = c.args.now } in
    let may = may_run key_of tells call_of fits cells j c.requires.cell c.requires.named c.requires.unused c.requires.within in
    let run = c.in-Ok.ensures.begun may.0 may.1 in
    made_on key_of tells call_of (roster_of cells) may.0 fits j may.1 c.go_on.result
    (came_as key_of tells call_of (roster_of cells) may.0 c.args.member c.args.request.partition c.args.request.id c.in-Ok.call c.in-Ok.outcome c.go_on.result run
    (c.go_on.ensures.came may.0 (subst (λ o. IsBegun key_of tells call_of (roster_of cells) may.0 c.in-Ok.call o) c.in-None.is run.begun)))

pub returns-in-Err-clause-made : goal.returns-in-Err-clause-made
returns-in-Err-clause-made g c =
    let key_of = g.T.Stands.key_of in
    let tells = g.T.Served.tells in
    let call_of = g.T.Served.call_of in
    let fits = g.T.Served.fits in
    let cells = c.args.self.now.cells.items in
    let j : NewCall g.row.T.Denot g.row.T-Plan.Denot g.row.T-Event.Denot g.row.T-Outcome.Denot = record { pass = c.args.pass; member = c.args.member; request = c.args.request; now = c.args.now } in
    let may = may_run key_of tells call_of fits cells j c.requires.cell c.requires.named c.requires.unused c.requires.within in
    made_by key_of tells call_of (roster_of cells) may.0 fits j c.in-Err.call c.in-Err.ensures.back may.1 c.start_made-in-Err.result (c.start_made-in-Err.ensures.came may.0)
