use Rattle.std.proofs.Common.{◌++◌, ◌∙◌, ap, sym, List, append-nil}
use Rattle.script_lang.specs.declared.line.Line.{Line}
use Rattle.workload_gen.specs.Script.{each_below, connection_lines, text_of}
use Rattle.workload_gen.proofs.Appending.{more_lines, each_below-more}
use Rattle.workload_gen.proofs.script.write_connections.Goals as goal

pub loop-conn-init : goal.loop-conn-init
unfolding each_below
loop-conn-init c = sym (append-nil c.args.out.now.items)

pub loop-conn-preserved : goal.loop-conn-preserved
loop-conn-preserved c =
    let conn = c.loop-conn.conn in
    more_lines c.args.out.now.items c.loop-conn.out.items c.write_connection.new.out.items (each_below conn connection_lines) (connection_lines conn) c.loop-conn.invariant c.in_ok-write_connection.ensures
    ∙ ap (λ (lines : List Line). c.args.out.now.items ++ text_of lines) (sym (each_below-more conn connection_lines))
