use Rattle.std.proofs.Common.{length}
use Rattle.compose_lines.proofs.command.Composing.take.Given as goal

abbrev pub decreases-lines : goal.decreases-lines
decreases-lines l = length l.rest
