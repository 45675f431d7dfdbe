use Rattle.script_lang.specs.declared.line.Line.TheVariants.{Grid, FlowAll, End}
use Rattle.workload_gen.specs.Script.{each_below, connection_lines, round_lines}
use Rattle.workload_gen.proofs.Appending.{all_lines}
use Rattle.workload_gen.proofs.script.make.Goals as goal

pub returns : goal.returns
returns c =
    all_lines c.in_ok-script.script.items c.write_line.new.out.items c.write_connections.new.out.items c.write_rounds.new.out.items c.write_line-2.new.out.items c.write_line-3.new.out.items
    (Grid 4 1 100) (FlowAll 1000) End (each_below 4 connection_lines) (each_below 2000 (round_lines c.args.number))
    c.in_ok-script.ensures.items c.in_ok-write_line.ensures c.in_ok-write_connections.ensures c.in_ok-write_rounds.ensures c.in_ok-write_line-2.ensures c.in_ok-write_line-3.ensures
