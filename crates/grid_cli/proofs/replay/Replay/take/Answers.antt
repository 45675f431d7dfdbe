use Rattle.std.proofs.Common.{◌+◌, arith}
use Rattle.std.proofs.lemmas.List.{length-drop, take_rest}
use Rattle.std.proofs.lemmas.Result.{on_ok_weaker, IfErr-weaker}
use Rattle.grid_edge.proofs.FaultCounts.{Rose_since}
use Rattle.grid_cli.proofs.ReplaySteps.{one_end, no_end, taken_none, taken_more, taken_end, stopped_at_line, stopped_at_end, read_on}
use Rattle.grid_cli.proofs.replay.Replay.take.Goals as goal

pub lines-init : goal.lines-init
lines-init g c = (taken_none c.args.self.now (g.K.Sink.taken c.args.out.now) c.args.piece.now, omega arith)

pub complete-requires-clause-read : goal.complete-requires-clause-read
complete-requires-clause-read g c =
    read_on c.args.self.now c.lines.self (g.K.Sink.taken c.args.out.now) (g.K.Sink.taken c.lines.out) c.args.piece.now c.lines.rest.now c.lines.invariant.0 c.requires

pub complete-requires-clause-one : goal.complete-requires-clause-one
complete-requires-clause-one g c = one_end c.lines.rest.now c.in-Some.at c.in-Some.ensures.0

pub returns-in-Err-clause-stops : goal.returns-in-Err-clause-stops
returns-in-Err-clause-stops g c =
    stopped_at_line c.args.self.now c.lines.self (g.K.Sink.taken c.args.out.now) (g.K.Sink.taken c.lines.out) (g.K.Sink.taken c.complete.new.out) c.args.piece.now c.lines.rest.now c.in-Some.at c.in-Err.status
    c.lines.invariant.0 c.in-Some.ensures.0.high c.in-Some.ensures.1 c.in-Err.ensures.stops

pub returns-in-Err-clause-never_falls : goal.returns-in-Err-clause-never_falls
returns-in-Err-clause-never_falls g c = omega (arith, c.lines.invariant.1, c.complete.ensures.never_falls)

pub returns-in-Err-clause-cause : goal.returns-in-Err-clause-cause
returns-in-Err-clause-cause g c = λ is. Rose_since _ _ _ c.lines.invariant.1 (c.in-Err.ensures.cause is)

pub lines-smaller : goal.lines-smaller
lines-smaller g c = rw (take_rest c.lines.rest.now (c.in-Some.at + 1)) (omega (arith, length-drop (c.in-Some.at + 1) c.lines.rest.now, c.in-Some.ensures.0.high))

pub lines-preserved : goal.lines-preserved
lines-preserved g c = (
  taken_more c.args.self.now c.lines.self c.complete.new.self (g.K.Sink.taken c.args.out.now) (g.K.Sink.taken c.lines.out) (g.K.Sink.taken c.complete.new.out) c.args.piece.now c.lines.rest.now _ c.in-Some.at
      c.lines.invariant.0 c.in-Some.ensures.0.high c.in-Some.ensures.1 (take_rest c.lines.rest.now (c.in-Some.at + 1)) c.in-Ok.ensures.goes,
  omega (arith, c.lines.invariant.1, c.complete.ensures.never_falls),
)

pub keep-requires-clause-read : goal.keep-requires-clause-read
keep-requires-clause-read g c =
    read_on c.args.self.now c.lines.self (g.K.Sink.taken c.args.out.now) (g.K.Sink.taken c.lines.out) c.args.piece.now c.lines.rest.now c.lines.invariant.0 c.requires

pub keep-requires-clause-one : goal.keep-requires-clause-one
keep-requires-clause-one g c = no_end c.lines.rest.now c.in_default.ensures

pub returns-clause-goes : goal.returns-clause-goes
returns-clause-goes g c =
    on_ok_weaker c.keep.result
    (taken_end c.args.self.now c.lines.self c.keep.new.self (g.K.Sink.taken c.args.out.now) (g.K.Sink.taken c.lines.out) (g.K.Sink.taken c.keep.new.out) c.args.piece.now c.lines.rest.now c.lines.invariant.0)
    c.keep.ensures.goes

pub returns-clause-stops : goal.returns-clause-stops
returns-clause-stops g c =
    IfErr-weaker c.keep.result _ _
    (λ status. stopped_at_end c.args.self.now c.lines.self (g.K.Sink.taken c.args.out.now) (g.K.Sink.taken c.lines.out) (g.K.Sink.taken c.keep.new.out) c.args.piece.now c.lines.rest.now status c.lines.invariant.0)
    c.keep.ensures.stops

pub returns-clause-never_falls : goal.returns-clause-never_falls
returns-clause-never_falls g c = omega (arith, c.lines.invariant.1, c.keep.ensures.never_falls)

pub returns-clause-cause : goal.returns-clause-cause
returns-clause-cause g c = λ is. Rose_since _ _ _ c.lines.invariant.1 (c.keep.ensures.cause is)
