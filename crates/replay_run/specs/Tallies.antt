-- The tally of the calls that arrived, as they arrive.
use Rattle.std.specs.Prelude.{◌+◌, List, [], ◌∷◌}
use Rattle.replay_run.specs.Runs.{Appended}
use Rattle.replay_run.specs.declared.tally.Reception.{Reception}
use Rattle.replay_run.specs.declared.tally.Reception.TheVariants.{Taken, Refused, OutOfMemory}
use Rattle.replay_run.specs.declared.tally.Tally.{Tally}

abbrev pub no_tally : Tally
no_tally = record { arrived = 0; refused = 0; memory = 0 }

-- one call more
abbrev pub tallied : Reception → Tally → Tally
tallied Taken t = record { arrived = t.arrived + 1; refused = t.refused; memory = t.memory }
tallied Refused t = record { arrived = t.arrived + 1; refused = t.refused + 1; memory = t.memory }
tallied OutOfMemory t = record { arrived = t.arrived + 1; refused = t.refused; memory = t.memory + 1 }

-- of a call that arrived earlier, and waited
abbrev pub tallied_later : Reception → Tally → Tally
tallied_later Taken t = t
tallied_later Refused t = record { arrived = t.arrived; refused = t.refused + 1; memory = t.memory }
tallied_later OutOfMemory t = record { arrived = t.arrived; refused = t.refused; memory = t.memory + 1 }

-- of a call whose event appended these refusals
abbrev pub received : List Appended → Reception
received [] = Taken
received (m ∷ ms) = Refused
