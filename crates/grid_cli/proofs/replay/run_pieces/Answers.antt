use Rattle.std.proofs.Common.{◌≡◌, ◌++◌, take, arith, None, Some}
use Rattle.script_lang.specs.Words.{whole_lines}
use Rattle.grid_cli.specs.declared.status.LimitWhat.TheVariants.{Bytes}
use Rattle.grid_cli.proofs.ReplayLaws.{not_usage, not_door_fault, not_read_fault}
use Rattle.grid_cli.proofs.ReplayRuns.{at_first, all_taken, played_on, read_failed, script_read, stopped_in_piece, limit_was_passed}
use Rattle.grid_cli.proofs.replay.run_pieces.Goals as goal

pub pieces-init : goal.pieces-init
pieces-init g c = (at_first c.new-replay.result _ _ c.new-replay.ensures, omega arith, omega arith, omega arith, c.requires.some, c.requires.size)

pub returns-then-count-eq0-clause-text : goal.returns-then-count-eq0-clause-text
returns-then-count-eq0-clause-text g c =
    script_read c.pieces.replay c.pieces.read _ _ _ _ _ _ c.finish.result c.read.new.into c.in-Ok.count c.pieces.invariant.0 c.in-Ok.ensures.given (omega (arith, c.read.auto.into, c.pieces.invariant.5))
    (omega (arith, c.read.auto.into, c.pieces.invariant.4)) c.if-count-eq0.true c.pieces.invariant.1 (c.finish.ensures.concludes _)

pub returns-then-count-eq0-clause-runs : goal.returns-then-count-eq0-clause-runs
returns-then-count-eq0-clause-runs g c =
    let p = c.pieces.invariant.0 in
    let h = c.finish.ensures.concludes _ p.skips p.read p.written p.has in
    not_usage _ None c.finish.result _ _ _ h.2

pub returns-then-count-eq0-clause-doorless : goal.returns-then-count-eq0-clause-doorless
returns-then-count-eq0-clause-doorless g c =
    let p = c.pieces.invariant.0 in
    let h = c.finish.ensures.concludes _ p.skips p.read p.written p.has in
    not_door_fault _ None c.finish.result _ _ _ h.2

pub returns-then-count-eq0-clause-read_fault : goal.returns-then-count-eq0-clause-read_fault
returns-then-count-eq0-clause-read_fault g c = λ is.
    let p = c.pieces.invariant.0 in
    let h = c.finish.ensures.concludes _ p.skips p.read p.written p.has in
    absurd (not_read_fault _ None c.finish.result _ _ _ h.2 is)

pub returns-in-Err-clause-runs : goal.returns-in-Err-clause-runs
returns-in-Err-clause-runs g c =
    let p = c.pieces.invariant.0 in
    let h = c.in-Err.ensures.stops _ p.skips p.read p.written p.has in
    h.2.runs

pub returns-in-Err-clause-doorless : goal.returns-in-Err-clause-doorless
returns-in-Err-clause-doorless g c =
    let p = c.pieces.invariant.0 in
    let h = c.in-Err.ensures.stops _ p.skips p.read p.written p.has in
    h.2.doorless

pub returns-in-Err-clause-read_fault : goal.returns-in-Err-clause-read_fault
returns-in-Err-clause-read_fault g c = λ is.
    let p = c.pieces.invariant.0 in
    let h = c.in-Err.ensures.stops _ p.skips p.read p.written p.has in
    absurd (h.2.reads is)

pub stop_at_limit-requires : goal.stop_at_limit-requires
stop_at_limit-requires g c =
    let p = c.pieces.invariant.0 in
    let h = c.in-Ok-take.ensures.goes _ p.skips p.read p.written p.has in
    (_, h.0 ++ p.skips, whole_lines (p.read ++ take c.min.result c.read.new.into), p.written ++ h.1, h.2.follows, h.2.within.few)

pub returns-then-count-room-clause-runs : goal.returns-then-count-room-clause-runs
returns-then-count-room-clause-runs g c =
    let p = c.pieces.invariant.0 in
    let h = c.in-Ok-take.ensures.goes _ p.skips p.read p.written p.has in
    let e = c.stop_at_limit.ensures.concludes _ (h.0 ++ p.skips) (whole_lines (p.read ++ take c.min.result c.read.new.into)) (p.written ++ h.1) h.2.follows in
    not_usage _ (Some Bytes) c.stop_at_limit.result _ _ _ e.1

pub returns-then-count-room-clause-doorless : goal.returns-then-count-room-clause-doorless
returns-then-count-room-clause-doorless g c =
    let p = c.pieces.invariant.0 in
    let h = c.in-Ok-take.ensures.goes _ p.skips p.read p.written p.has in
    let e = c.stop_at_limit.ensures.concludes _ (h.0 ++ p.skips) (whole_lines (p.read ++ take c.min.result c.read.new.into)) (p.written ++ h.1) h.2.follows in
    not_door_fault _ (Some Bytes) c.stop_at_limit.result _ _ _ e.1

pub returns-then-count-room-clause-read_fault : goal.returns-then-count-room-clause-read_fault
returns-then-count-room-clause-read_fault g c = λ is.
    let p = c.pieces.invariant.0 in
    let h = c.in-Ok-take.ensures.goes _ p.skips p.read p.written p.has in
    let e = c.stop_at_limit.ensures.concludes _ (h.0 ++ p.skips) (whole_lines (p.read ++ take c.min.result c.read.new.into)) (p.written ++ h.1) h.2.follows in
    absurd (not_read_fault _ (Some Bytes) c.stop_at_limit.result _ _ _ e.1 is)

pub returns-in_default-clause-text : goal.returns-in_default-clause-text
returns-in_default-clause-text g c = read_failed _ _ _ _ _ _ _ c.pieces.invariant.0 c.in_default.ensures.none_given c.pieces.invariant.1

pub returns-in-Err-clause-text : goal.returns-in-Err-clause-text
returns-in-Err-clause-text g c =
    stopped_in_piece c.pieces.replay c.pieces.read _ _ _ _ _ _ c.in-Err.status c.read.new.into c.in-Ok.count c.min.result
    c.pieces.invariant.0 c.in-Ok.ensures.given (omega (arith, c.read.auto.into, c.pieces.invariant.5)) (omega (arith, c.min.ensures)) (omega (arith, c.min.ensures, c.pieces.invariant.1)) c.in-Err.ensures.stops

pub returns-then-count-room-clause-text : goal.returns-then-count-room-clause-text
returns-then-count-room-clause-text g c =
    limit_was_passed c.pieces.replay c.take.new.self c.pieces.read _ _ _ _ _ _ _ c.stop_at_limit.result c.read.new.into c.in-Ok.count c.min.result
    c.pieces.invariant.0 c.in-Ok.ensures.given (omega (arith, c.read.auto.into, c.pieces.invariant.5)) c.in-Ok.ensures.within c.pieces.invariant.1 (omega (arith, c.min.ensures, c.if-count-room.true)) (omega (arith, c.min.ensures, c.if-count-room.true))
    c.in-Ok-take.ensures.goes (λ skips read written has. c.stop_at_limit.ensures.concludes _ skips (whole_lines read) written has.follows)

pub pieces-preserved : goal.pieces-preserved
pieces-preserved g c =
    let all : c.min.result ≡ c.in-Ok.count = omega (arith, c.min.ensures, c.if-count-room.false) in (
      played_on c.pieces.replay c.take.new.self c.pieces.read _ _ _ _ _ _ c.read.new.into c.in-Ok.count c.pieces.invariant.0 c.in-Ok.ensures.given c.in-Ok.ensures.within
          (all_taken c.pieces.replay c.take.new.self c.read.new.into c.in-Ok.count c.min.result (g.K.Sink.taken c.pieces.out) (g.K.Sink.taken c.take.new.out) all c.in-Ok-take.ensures.goes),
      omega (arith, c.if-count-room.false, c.pieces.invariant.1),
      omega (arith, c.pieces.invariant.2, c.read.ensures.cause.never_falls),
      omega (arith, c.pieces.invariant.3, c.take.ensures.never_falls),
      omega (arith, c.pieces.invariant.4, c.read.auto.into),
      omega (arith, c.pieces.invariant.5, c.read.auto.into),
    )
