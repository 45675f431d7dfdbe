use Rattle.std.proofs.Common.{◌+◌, drop, ap, sym, ◌∙◌}
use Rattle.std.proofs.lemmas.List.{take_rest}
use Rattle.script_lang.specs.Words.{whole_lines}
use Rattle.sample_run.proofs.TextLines.{line_first, no_line}
use Rattle.sample_run.proofs.lines.behind_first.Goals as goal

pub returns-in-None : goal.returns-in-None
returns-in-None c =
    let none = no_line c.args.text.now c.in-None.ensures in
    none ∙ sym (ap (drop 1) none)

pub returns-in-Some : goal.returns-in-Some
returns-in-Some c =
    ap whole_lines (take_rest c.args.text.now (c.in-Some.at + 1))
    ∙ sym (ap (drop 1) (line_first c.args.text.now c.in-Some.at c.in-Some.ensures.0 c.in-Some.ensures.1))
