use Rattle.std.proofs.Common.{◌≡◌, ◌++◌}
use Rattle.workload_gen.specs.Draws.{generator_at}
use Rattle.workload_gen.specs.Script.{each_below, round_lines, text_of}
use Rattle.workload_gen.proofs.script.write_rounds.Given as goal

-- the lines of the rounds before this one were appended, and the generator stands behind them
abbrev pub invariant-loop-rounds : goal.invariant-loop-rounds
invariant-loop-rounds l = record {
  lines : l.out.items ≡ l.initial.out.items ++ text_of (each_below l.rounds (round_lines l.number));
  generator : l.workload.generator ≡ generator_at l.number l.rounds;
}
