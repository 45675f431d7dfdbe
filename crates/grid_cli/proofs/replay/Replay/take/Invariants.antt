use Rattle.std.proofs.Common.{◌≤◌, length}
use Rattle.grid_cli.proofs.ReplaySteps.{HasTaken}
use Rattle.grid_cli.proofs.replay.Replay.take.Given as goal

-- what was taken of the piece so far, and that no fault was forgotten
abbrev pub invariant-lines : goal.invariant-lines
invariant-lines g l = HasTaken (λ b. (goal.Processor-dyn g (b.vtable, b.value)).form b.value) l.fn.self l.self (g.K.Sink.taken l.fn.out) (g.K.Sink.taken l.out) l.piece l.rest × (g.K.Sink.faults l.fn.out ≤ g.K.Sink.faults l.out)

abbrev pub decreases-lines : goal.decreases-lines
decreases-lines g l = length l.rest
