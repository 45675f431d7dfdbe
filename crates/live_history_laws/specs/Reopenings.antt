-- The reopenings of a live partition, as its history has them, and those among entries.
use Rattle.std.specs.Prelude.{ℕ, List, [], ◌∷◌, ◌++◌}
use Rattle.grid_base.specs.declared.calls.Request.{Request}
use Rattle.partition_protocol.specs.Events.{Outcome, RowMadeAt}
use Rattle.partition_protocol.specs.History.{Entry, Called, Reset}
use Rattle.partition_world.specs.declared.event.Event.{Event}
use Rattle.partition_world.specs.declared.event.Event.TheVariants as event
use Rattle.live_grid.specs.declared.plan.GridPlan.{GridPlan}
use Rattle.live_grid.specs.Histories.{outcome_after}

-- the version of the row by which an event with that outcome reopens the partition, if it does
abbrev pub reopening_by : Event Request → Outcome → List ℕ
reopening_by event.Reopen (RowMadeAt version) = version ∷ []
reopening_by e outcome = []

-- the versions of the reopenings among events that come after others
abbrev pub reopened_since : GridPlan → List (Event Request) → List (Event Request) → List ℕ
reopened_since plan before [] = []
reopened_since plan before (e ∷ es) = reopening_by e (outcome_after plan before e) ++ reopened_since plan (before ++ e ∷ []) es

-- those of all the history's reopenings, in their order
abbrev pub reopened : GridPlan → List (Event Request) → List ℕ
reopened plan history = reopened_since plan [] history

-- the versions of the resets among entries
abbrev pub resets_in : {C : Type 0} → List (Entry C) → List ℕ
resets_in [] = []
resets_in (Called call ∷ es) = resets_in es
resets_in (Reset version ∷ es) = version ∷ resets_in es
