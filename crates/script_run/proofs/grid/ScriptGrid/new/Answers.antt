use Rattle.std.proofs.Common.{arith}
use Rattle.script_run.proofs.Nears.{none_yet}
use Rattle.script_run.proofs.Spoken.{silent_at_first}
use Rattle.script_run.proofs.grid.ScriptGrid.new.Goals as goal

pub returns : goal.returns
returns g c = record {
  goes = record { grid = c.in_ok-new.ensures; nears = none_yet c.new-2.result.items c.new-2.ensures.items };
  spoken = silent_at_first c.in_ok-vec.field-0.items c.args.members c.args.backups 64 (c.in_ok-vec.ensures.items_if_clones_equal (λ y e. e)) (omega arith);
}
