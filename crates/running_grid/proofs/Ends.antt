-- Why a run was given up, by what it is told as.
use Rattle.std.proofs.Common.{◌≡◌, refl}
use Rattle.replay_run.specs.declared.run_end.RunEnd.{RunEnd as GridEnd}
use Rattle.replay_run.specs.declared.run_end.RunEnd.TheVariants as GridEnds
use Rattle.running_grid.specs.declared.run_end.RunEnd.TheVariants as RunEnds
use Rattle.running_grid.specs.Ends.{given_up_as}

pub was_full : (end : GridEnd) → given_up_as end ≡ RunEnds.InFlight → end ≡ GridEnds.InFlight
was_full GridEnds.InFlight told = refl
was_full GridEnds.Memory told = absurd (cc)
