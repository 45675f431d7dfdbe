use Rattle.std.proofs.Common.{◌++◌, ap, ◌∙◌, string_bytes}
use Rattle.std.specs.List.{flat_map}
use Rattle.std.specs.Str.{chars}
use Rattle.svg_picture.specs.Markup.{escaped_char}
use Rattle.svg_picture.proofs.Trees.{of_text}
use Rattle.svg_picture.proofs.content.Content.of_text.Goals as goal

pub invariant_of-result : goal.invariant_of-result
invariant_of-result c =
    of_text (chars c.args.words.now) (string_bytes c.push_escaped.new.out)
    (c.in_ok-push_escaped.ensures ∙ ap (λ front. front ++ flat_map escaped_char (chars c.args.words.now)) c.new-text.ensures.bytes)
