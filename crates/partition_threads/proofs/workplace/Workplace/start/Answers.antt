use Rattle.job_queues.specs.Roster.{roster_of}
use Rattle.partition_threads.specs.Starting.{IsAwaited, HasStarted}
use Rattle.partition_threads.proofs.Calling.{may_run}
use Rattle.partition_threads.proofs.MadeCalls.{if_ok}
use Rattle.partition_threads.proofs.workplace.Workplace.start.Goals as goal

pub start_call-requires-clause-call : goal.start_call-requires-clause-call
start_call-requires-clause-call g c κs within =
    may_run g.T.Stands.key_of g.T.Served.tells g.T.Served.call_of g.T.Served.fits c.args.self.now.cells.items _ c.requires.cell c.requires.named c.requires.unused c.requires.within

pub returns-clause-started : goal.returns-clause-started
returns-clause-started g c =
    let cells = c.args.self.now.cells.items in
    let may = may_run g.T.Stands.key_of g.T.Served.tells g.T.Served.call_of g.T.Served.fits cells (record { pass = c.args.pass; member = c.args.member; request = c.args.request; now = c.args.now }) c.requires.cell c.requires.named c.requires.unused c.requires.within in
    if_ok (IsAwaited may.0) (HasStarted g.T.Served.call_of (roster_of cells) c.args.pass c.args.member c.args.request c.args.now) c.start_call.result
    (λ awaited awaits. record { terms = may.0; plan = may.1.plan; first = may.1.first; event = may.1.event; awaits = awaits }) (c.start_call.ensures.started may.0 may.1)
