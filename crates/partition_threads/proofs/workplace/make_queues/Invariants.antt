use Rattle.std.proofs.Common.{◌≡◌, vec_len}
use Rattle.job_queues.specs.Roster.{roster_of}
use Rattle.partition_threads.specs.Workplaces.{AreTokensOf}
use Rattle.partition_threads.proofs.workplace.make_queues.Given as goal

abbrev pub invariant-loop : goal.invariant-loop
invariant-loop g l = record {
  long : vec_len l.tokens ≡ l.counter;
  tokens : AreTokensOf (roster_of l.cells) l.queues.items l.tokens.items;
}
