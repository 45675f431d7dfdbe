-- The calls that come to their end at a line have names of their own.
use Rattle.std.proofs.Common.{◌≢◌, map, ap, sym, subst}
use Rattle.grid_base.specs.Objects.{Object}
use Rattle.grid_base.specs.declared.calls.Request.{Request}
use Rattle.object_store.specs.Partitions.{Partition}
use Rattle.partition_protocol.specs.Arrivals.{NamedOnce}
use Rattle.partition_protocol.specs.Sequences.{IsFrontOf}
use Rattle.partition_protocol.proofs.Lists.{In}
use Rattle.replay_run.specs.Runs.{Run, Arrival}
use Rattle.replay_run.specs.Endings.{new_arrivals}
use Rattle.replay_run.specs.ScriptRuns.{IsRun}
use Rattle.replay_run.proofs.Parts.{named_append}
use Rattle.replay_run.proofs.RunFacts.{arrival_name, id_name}
use Rattle.replay_run.proofs.RunsOfLines.{run_ok}
use Rattle.replay_run.proofs.SkipLaws.{new_of}

pub calls_are_new : {o : Object Request Partition} (r next : Run) → IsRun o next → IsFrontOf r.arrivals next.arrivals → (b a : Arrival) → In b r.arrivals → In a (new_arrivals r next) → b.request.id ≢ a.request.id
calls_are_new r next is front b a i j e =
    named_append arrival_name r.arrivals front.0 b a (subst (λ xs. NamedOnce (map arrival_name xs)) (sym front.1) (run_ok is).of_arrivals.once) i (subst (In a) (new_of r next front) j) (ap id_name e)
