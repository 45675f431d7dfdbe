-- What each line leaves of a run, and counts: its members stay, and it is one line more.
use Rattle.std.proofs.Common.{◌≡◌, ℕ, ◌+◌, List, Option, Some, None, refl, ◌∙◌}
use Rattle.grid_base.specs.declared.names.CallId.{CallId}
use Rattle.grid_base.specs.Objects.{Object}
use Rattle.grid_base.specs.declared.calls.Request.{Request}
use Rattle.object_store.specs.Partitions.{Partition}
use Rattle.partition_protocol.specs.Service.{numbers_below}
use Rattle.partition_protocol.specs.Events as event
use Rattle.partition_protocol.proofs.Lists.{on_if}
use Rattle.replay_run.specs.Runs.{Run, At, Connection, partitions, connection_of, takes_bytes, can_open, event_by, next_line, opened, clock_set, took_bytes, forsaken, handled_all, items_by, bytes_arrived}
use Rattle.replay_run.specs.AfterLines.{after_event, after_line}
use Rattle.script_lang.specs.declared.line.Line.{Line}
use Rattle.script_lang.specs.declared.line.Line.TheVariants.{OpenConn, Arrive, Clock, Flow, FlowAll, Crash, Detect, Rebalance}
use Rattle.replay_run.proofs.Lines.{handled_all_come}
use Rattle.replay_run.proofs.Rebalanced.{rebalanced_kept}
use Rattle.replay_run.proofs.EventRuns.{Kept, kept_refl, takes_kept, takes_in_kept, flowed_kept, flowed_in_kept, served_in_kept, forsaken_kept}

pub record IsCounted (r next : Run) : Type 0 where
  pub members : next.members ≡ r.members
  pub lines : next.lines ≡ r.lines + 1

counted : (r next : Run) → Kept (next_line r) next → IsCounted r next
counted r next kept = record { members = kept.members; lines = kept.lines }

-- an event, if a line is one
pub event_kept : (o : Object Request Partition) (skips : List CallId) (r : Run) (e : Option At) → Kept r (after_event o skips r e)
event_kept o skips r None = kept_refl r
event_kept o skips r (Some e) = takes_kept o skips r e.partition e.event

module _ (o : Object Request Partition) (skips : List CallId) (r : Run) where
  bytes_counted : (bytes : List ℕ) (found : Option Connection) → IsCounted r (elim found [ None ↦ next_line r | Some k ↦ bytes_arrived o skips r k bytes ])
  bytes_counted bytes None = counted r (next_line r) (kept_refl (next_line r))
  bytes_counted bytes (Some k) =
      let all = handled_all o skips (took_bytes r k bytes) k (items_by k bytes) in
      let come = handled_all_come o skips (took_bytes r k bytes) k (items_by k bytes) in
      let left = forsaken_kept all k.conn in
      on_if (IsCounted r) (takes_bytes o r k) (forsaken all k.conn) (next_line r)
      (record { members = left.members ∙ come.members; lines = left.lines ∙ come.lines })
      (counted r (next_line r) (kept_refl (next_line r)))

  pub line_counted : (line : Line) → IsCounted r (after_line o skips r line)
  line_counted (OpenConn c member) = on_if (IsCounted r) (can_open o r c member) (opened r c member) (next_line r) (record { members = refl; lines = refl }) (record { members = refl; lines = refl })
  line_counted (Arrive c bytes) = bytes_counted bytes (connection_of r c)
  line_counted (Clock member moment) =
      let kept = served_in_kept o skips (clock_set r member moment) member (numbers_below partitions) in
      record { members = kept.members; lines = kept.lines }
  line_counted (Flow partition most) = counted r (after_line o skips r (Flow partition most)) (flowed_kept o skips (next_line r) partition most)
  line_counted (FlowAll most) = counted r (after_line o skips r (FlowAll most)) (flowed_in_kept o skips (next_line r) most (numbers_below partitions))
  line_counted (Crash member) = counted r (after_line o skips r (Crash member)) (takes_in_kept o skips (next_line r) (event.Crash member) (numbers_below partitions))
  line_counted (Detect member) = counted r (after_line o skips r (Detect member)) (takes_in_kept o skips (next_line r) (event.Detect member) (numbers_below partitions))
  line_counted (Rebalance most) = counted r (after_line o skips r (Rebalance most)) (rebalanced_kept o skips (next_line r) most)
  line_counted line = counted r (after_line o skips r line) (event_kept o skips (next_line r) (event_by line))
