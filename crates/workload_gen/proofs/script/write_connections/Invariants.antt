use Rattle.std.proofs.Common.{◌≡◌, ◌++◌}
use Rattle.workload_gen.specs.Script.{each_below, connection_lines, text_of}
use Rattle.workload_gen.proofs.script.write_connections.Given as goal

-- the lines of the connections before this one were appended
abbrev pub invariant-loop-conn : goal.invariant-loop-conn
invariant-loop-conn l = l.out.items ≡ l.initial.out.items ++ text_of (each_below l.conn connection_lines)
