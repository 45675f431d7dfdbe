use Rattle.std.proofs.Common.{◌≡◌, ◌++◌, take, string_bytes}
use Rattle.std.specs.List.{flat_map}
use Rattle.svg_picture.specs.Markup.{attribute_text}
use Rattle.svg_picture.proofs.content.push_attributes.Given as goal

-- the attributes before this one were appended
abbrev pub invariant-loop-attribute : goal.invariant-loop-attribute
invariant-loop-attribute l =
    string_bytes l.out ≡ string_bytes l.initial.out ++ flat_map attribute_text (take l.attribute-index l.attributes)
