use Rattle.std.proofs.Common.{◌≡◌, ◌+◌, ◌≤◌, length}
use Rattle.script_lang.specs.Words.{pieces_at, newline}
use Rattle.transcript_checks.specs.Differences.{difference_from, first_difference}
use Rattle.transcript_checks.proofs.difference.compare_lines.Given as goal

-- The lines before these are the same.
abbrev pub invariant-lines : goal.invariant-lines
invariant-lines l =
    (difference_from l.number (pieces_at newline l.left) (pieces_at newline l.wanted_left) ≡ first_difference l.fn.printed l.fn.wanted)
    × (l.number + length l.left ≤ length l.fn.printed + 1)

abbrev pub decreases-lines : goal.decreases-lines
decreases-lines l = length l.left
