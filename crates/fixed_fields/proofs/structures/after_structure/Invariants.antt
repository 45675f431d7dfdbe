use Rattle.std.proofs.Common.{◌≡◌, ◌+◌, ◌<◌, ◌≤◌, length}
use Rattle.fixed_fields.specs.Structures.{after_closing, after_structure}
use Rattle.fixed_fields.proofs.structures.after_structure.Given as goal

abbrev pub invariant-frames : goal.invariant-frames
invariant-frames l = (0 < l.depth) × (l.depth + length l.rest ≤ length l.fn.frames) × (after_closing l.depth l.rest ≡ after_structure l.fn.frames)

abbrev pub decreases-frames : goal.decreases-frames
decreases-frames l = length l.rest
