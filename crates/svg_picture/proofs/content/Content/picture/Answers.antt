use Rattle.std.proofs.Common.{ap, ◌∙◌, string_bytes}
use Rattle.svg_picture.specs.declared.words.Tag.TheVariants.{Svg}
use Rattle.svg_picture.specs.Markup.{element_text}
use Rattle.svg_picture.proofs.content.Content.picture.Goals as goal

pub returns-clause-document : goal.returns-clause-document
returns-clause-document c = record {
  attributes = c.args.attributes.now;
  once = c.requires;
  inside = string_bytes c.self.inside.text;
  markup = c.self.invariant;
  is = c.in_ok-text.ensures ∙ ap (element_text Svg c.args.attributes.now) c.as_str.ensures.value;
}
