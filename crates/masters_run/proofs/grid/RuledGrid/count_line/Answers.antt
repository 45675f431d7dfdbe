use Rattle.masters_run.proofs.LineParts.{may_count, few_lines}
use Rattle.masters_run.proofs.Passing.{counts}
use Rattle.script_lang.specs.declared.line.Line.TheVariants.{Comment}
use Rattle.masters_run.proofs.grid.RuledGrid.count_line.Goals as goal

pub count-requires : goal.count-requires
count-requires g c = may_count c.args.self.now c.args.number Comment c.requires

pub returns : goal.returns
returns g c = λ settings s stands.
    counts c.args.self.now c.count.new.self s stands (few_lines c.args.self.now c.args.number Comment c.requires s stands) c.count.ensures.masters (c.count.ensures.amid settings s.run stands.grid)
