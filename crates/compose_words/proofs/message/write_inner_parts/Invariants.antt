use Rattle.std.proofs.Common.{map, take}
use Rattle.compose_words.specs.Layout.{inner_frame, Appended}
use Rattle.compose_words.proofs.message.write_inner_parts.Given as goal

-- the frames of the parts before this one were appended
abbrev pub invariant-loop-part : goal.invariant-loop-part
invariant-loop-part l = Appended l.initial.out.items l.out.items (map inner_frame (take l.part-index l.parts))
