use Rattle.live_grid.specs.Fates.{event_in_all}
use Rattle.live_grid.proofs.Trying.{HasRunInFirst}
use Rattle.live_grid.proofs.grid.LiveGrid.run_in_all.Given as goal

abbrev pub invariant-loop-partition : goal.invariant-loop-partition
invariant-loop-partition g l = HasRunInFirst l.self (event_in_all l.fate) l.initial.pass l.pass l.partition l.all
