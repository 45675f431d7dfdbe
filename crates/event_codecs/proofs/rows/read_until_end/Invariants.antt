use Rattle.std.proofs.Common.{◌≡◌, length}
use Rattle.event_codecs.specs.Events.{rows_until_end}
use Rattle.event_codecs.proofs.Listing.{continued}
use Rattle.event_codecs.proofs.rows.read_until_end.Given as goal

-- the rows so far, and those of the rest, are those of the list
abbrev pub invariant-loop-frame : goal.invariant-loop-frame
invariant-loop-frame l = continued l.rows.items l.rest ≡ rows_until_end l.frames

abbrev pub decreases-loop-frame : goal.decreases-loop-frame
decreases-loop-frame l = length l.rest
