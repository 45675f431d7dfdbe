use Rattle.std.proofs.Common.{◌≡◌, ◌++◌, List, length}
use Rattle.grid_base.specs.Shelves.{meaning}
use Rattle.partition_world.specs.Worlds.{waiting}
use Rattle.listeners.specs.StandsFor.{StandFor}
use Rattle.listeners.specs.declared.listener.Listener.{Listener}
use Rattle.replay_run.specs.Runs.{Run}
use Rattle.replay_run.specs.Grids.{HasConnections}
use Rattle.replay_run.proofs.GivingOut.{GaveOut, told_out, table_out}
use Rattle.replay_run.proofs.outgoing.give_out.Given as goal

-- what waits still is what is told and the table still lack
abbrev pub invariant-loop-answer : goal.invariant-loop-answer
invariant-loop-answer g l = record {
  connections : (r : Run) → HasConnections l.initial.connections r → HasConnections l.connections r;
  told : (r : Run) (all : List Listener) → r.lines ≡ l.at.line → HasConnections l.initial.connections r → StandFor l.listeners all
      → l.out.items ++ told_out r l.at.own l.at.partition all (waiting l.world l.at.member) ≡ l.initial.out.items ++ told_out r l.at.own l.at.partition all (waiting l.initial.world l.at.member);
  table : (r : Run) → HasConnections l.initial.connections r → table_out r l.at.own l.at.line l.connections (waiting l.world l.at.member) ≡ table_out r l.at.own l.at.line l.initial.connections (waiting l.initial.world l.at.member);
  world : GaveOut (meaning g.S.Shelf.model) g.R.Records.records g.S.Shelf.model.within_limits l.initial.world l.world l.at.member;
}

abbrev pub decreases-loop-answer : goal.decreases-loop-answer
decreases-loop-answer g l = length (waiting l.world l.at.member)
