use Rattle.partition_threads.specs.Workplaces.{IsTokenAt}
use Rattle.turns_bench.specs.Calling.{IsBase}
use Rattle.turns_bench.proofs.calls.call_each.Given as goal

abbrev pub invariant-loop-conn : goal.invariant-loop-conn
invariant-loop-conn g l = record {
  token : IsTokenAt l.place 0 l.token;
  base : IsBase l.place l.conn l.base;
}
