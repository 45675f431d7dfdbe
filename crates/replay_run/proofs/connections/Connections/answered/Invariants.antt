use Rattle.std.proofs.Common.{◌≡◌, ◌*◌, ◌≤◌, take}
use Rattle.std.specs.Prelude.{sum_by}
use Rattle.std.specs.Option.{option_map}
use Rattle.replay_run.specs.Tables.{marked_in, opened_as}
use Rattle.replay_run.proofs.connections.Connections.answered.Given as goal

-- those of the connections so far, each of which has fewer than 2^64
abbrev pub invariant-loop-slot : goal.invariant-loop-slot
invariant-loop-slot l = record {
  counted : l.answered ≡ sum_by (λ slot. marked_in (option_map opened_as slot)) (take l.slot-index l.slot-items);
  few : l.answered ≤ l.slot-index * 18446744073709551616;
}
