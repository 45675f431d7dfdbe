use Rattle.std.proofs.Common.{◌++◌, sym, ap, ◌∙◌, string_bytes}
use Rattle.std.specs.List.{flat_map}
use Rattle.std.proofs.lemmas.Iterator.{YieldsList-from_chars}
use Rattle.std.proofs.lemmas.Iterator.Consumers.{YieldsList-end}
use Rattle.svg_picture.specs.Markup.{escaped_char}
use Rattle.svg_picture.proofs.Trees.{map-itself}
use Rattle.svg_picture.proofs.escaping.push_escaped.Goals as goal

pub returns : goal.returns
returns c =
    let t = YieldsList-end (YieldsList-from_chars c.args.text.now c.utf8.text cc) c.loop-c.yielded _ c.loop-c.yielded_by _ _ c.in-None.is c.next.ensures.steps in
    c.loop-c.invariant
    ∙ ap (λ characters. string_bytes c.args.out.now ++ flat_map escaped_char characters) (sym (map-itself c.loop-c.yielded) ∙ t.0)
