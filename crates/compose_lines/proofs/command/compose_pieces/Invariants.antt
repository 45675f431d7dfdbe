use Rattle.std.proofs.Common.{◌≤◌, ◌<◌, ◌-◌, length}
use Rattle.compose_lines.proofs.command.compose_pieces.Given as goal

-- what was read is within the limit, and no fault is forgotten
abbrev pub invariant-pieces : goal.invariant-pieces
invariant-pieces g l =
    (l.read ≤ 16777216) × (g.S.Source.faults l.fn.words ≤ g.S.Source.faults l.words) × (g.K.Sink.faults l.fn.out ≤ g.K.Sink.faults l.out) × (0 < length l.buffer)

abbrev pub decreases-pieces : goal.decreases-pieces
decreases-pieces g l = 16777216 - l.read
