use Rattle.std.proofs.Common.{is_ok, string_bytes}
use Rattle.svg_picture.proofs.Trees.{appended}
use Rattle.svg_picture.proofs.content.Content.append.Goals as goal

pub invariant_of-self : goal.invariant_of-self
invariant_of-self c =
    appended (is_ok c.push_str.result) (string_bytes c.self.inside.text) (string_bytes c.more.inside.text) c.as_str.result.now (string_bytes c.push_str.new.self)
    c.self.invariant c.more.invariant c.as_str.ensures.value c.push_str.ensures.bytes
