use Rattle.std.proofs.Common.{◌++◌, ◌∷◌, [], List, ℕ, map, decimal, flat_map, ap, sym, ◌∙◌}
use Rattle.std.specs.List.{join_with_byte}
use Rattle.script_lang.specs.Words.{space, newline}
use Rattle.workload_gen.proofs.Appending.{joined, both}
use Rattle.workload_gen.proofs.lines.write_line.Goals as goal

pub returns : goal.returns
returns c =
    let out = c.args.out.now.items in
    let words = join_with_byte space (c.args.keyword.now ∷ map decimal c.args.numbers.now) in
    let written = both out c.extend_from_slice.new.self.items c.write_numbers.new.out.items c.args.keyword.now (flat_map (λ (number : ℕ). space ∷ decimal number) c.args.numbers.now) c.in_ok-extend_from_slice.ensures.items c.in_ok-write_numbers.ensures in
    both out c.write_numbers.new.out.items c.push.new.self.items words (newline ∷ []) (written ∙ ap (λ (text : List ℕ). out ++ text) (sym (joined c.args.keyword.now c.args.numbers.now))) c.in_ok-push.ensures.items
