-- The calls that came to their end at a line, or at a part of one: they were made, or refused, or left without an answer.
use Rattle.std.specs.Prelude.{◌≡◌, List, length, drop, Contains}
use Rattle.grid_base.specs.declared.names.CallId.{CallId}
use Rattle.replay_run.specs.Runs.{Run, Arrival}

abbrev pub new_arrivals : Run → Run → List Arrival
new_arrivals before after = drop (length before.arrivals) after.arrivals

-- each of these names is of one of the calls
abbrev pub AreAmong : List Arrival → List CallId → Type 0
AreAmong come names = (id : CallId) → Contains names id → (a : Arrival) × Contains come a × (a.request.id ≡ id)
