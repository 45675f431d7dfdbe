use Rattle.std.proofs.Common.{ap, ◌∙◌, string_bytes}
use Rattle.svg_picture.specs.Markup.{element_text}
use Rattle.svg_picture.proofs.Trees.{of_element}
use Rattle.svg_picture.proofs.content.Content.of_element.Goals as goal

pub invariant_of-result : goal.invariant_of-result
invariant_of-result c =
    of_element c.args.tag c.args.attributes.now (string_bytes c.inside.inside.text) (string_bytes c.in_ok-text.text) c.requires c.inside.invariant
    (c.in_ok-text.ensures ∙ ap (element_text c.args.tag c.args.attributes.now) c.as_str.ensures.value)
