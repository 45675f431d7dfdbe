use Rattle.std.proofs.Common.{◌≡◌}
use Rattle.script_lang.specs.Words.{pieces_at, newline}
use Rattle.transcript_checks.specs.Differences.{nth_line}
use Rattle.transcript_checks.proofs.difference.nth_line.Given as goal

-- The line is that of what is left, with the lines before it that are left.
abbrev pub invariant-lines : goal.invariant-lines
invariant-lines l = nth_line l.before_left (pieces_at newline l.left) ≡ nth_line l.fn.before (pieces_at newline l.fn.text)

abbrev pub decreases-lines : goal.decreases-lines
decreases-lines l = l.before_left
