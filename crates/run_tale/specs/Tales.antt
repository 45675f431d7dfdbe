-- What a tale has told.
use Rattle.std.specs.Prelude.{ℕ, List}
use Rattle.run_tale.specs.declared.happening.Happening.{Happening}
use Rattle.run_tale.specs.declared.tale.Tale.{Tale}
use Rattle.run_tale.specs.declared.tale.Told.{Told}

-- since it was taken last, in order
abbrev pub told_in : Tale → List Told
told_in tale = tale.told.items

abbrev pub step_of : Tale → ℕ
step_of tale = tale.step

-- something that happens at its step
abbrev pub at_step : Tale → Happening → Told
at_step tale happening = record { step = tale.step; happening = happening }
