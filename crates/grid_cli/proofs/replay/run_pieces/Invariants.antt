use Rattle.std.proofs.Common.{◌≤◌, ◌<◌, ◌-◌, length, map}
use Rattle.grid_cli.proofs.ReplayRuns.{HasPlayed}
use Rattle.grid_cli.proofs.replay.run_pieces.Given as goal

-- what was read and written so far is the script's, within its limit, and no fault is forgotten
abbrev pub invariant-pieces : goal.invariant-pieces
invariant-pieces g l =
    HasPlayed (λ b. (goal.Processor-dyn g (b.vtable, b.value)).form b.value) (map (λ b. (goal.Processor-dyn g (b.vtable, b.value)).form b.value) l.fn.processors.items) l.replay l.read (g.S.Source.given l.fn.script) (g.S.Source.given l.script) (g.K.Sink.taken l.fn.out) (g.K.Sink.taken l.out)
    × (l.read ≤ 16777216) × (g.S.Source.faults l.fn.script ≤ g.S.Source.faults l.script) × (g.K.Sink.faults l.fn.out ≤ g.K.Sink.faults l.out) × (0 < length l.buffer) × (length l.buffer ≤ 65536)

abbrev pub decreases-pieces : goal.decreases-pieces
decreases-pieces g l = 16777216 - l.read
