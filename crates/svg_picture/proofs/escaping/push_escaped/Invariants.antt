use Rattle.std.proofs.Common.{◌≡◌, ◌++◌, string_bytes}
use Rattle.std.specs.List.{flat_map}
use Rattle.svg_picture.specs.Markup.{escaped_char}
use Rattle.svg_picture.proofs.escaping.push_escaped.Given as goal

-- the characters so far were appended
abbrev pub invariant-loop-c : goal.invariant-loop-c
invariant-loop-c l = string_bytes l.out ≡ string_bytes l.initial.out ++ flat_map escaped_char l.yielded
