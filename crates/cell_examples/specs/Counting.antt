-- Calls that are counted, and what one thread adds to them.
use Rattle.std.specs.Prelude.{◌≡◌, ℕ, Bool, List, [], ◌∷◌, ◌++◌, if◌then◌else◌}
use Rattle.grid_base.specs.declared.names.CallId.{CallId}
use Rattle.hand_cell.specs.declared.names.Key.{Key}
use Rattle.hand_cell.specs.declared.names.Key.TheVariants.{Call}
use Rattle.hand_cell.specs.Names.{NoneOf}
use Rattle.hand_cell.specs.Told.{Told, having_seen}
use Rattle.cell_examples.specs.declared.counter.Count.{Count}

abbrev pub key_of : Count → Key
key_of event = Call event.call

-- the first call of a connection
abbrev pub call_of : ℕ → CallId
call_of n = record { conn = n; number = 0 }

abbrev pub count_of : CallId → Count
count_of id = record { call = id }

abbrev pub one_if : Bool → ℕ
one_if b = if b then 1 else 0

-- what was seen, and then the call, if it was run
abbrev pub ran_after : Bool → List Count → CallId → List Count
ran_after ran seen id = if ran then (seen ++ count_of id ∷ []) else seen

-- the pass has seen more, none of it with a name of its own, and then the call, if it was run
abbrev pub Counts : Told Count → CallId → Bool → Told Count → Type 0
Counts p id ran q = (later : List Count) × (q ≡ having_seen p (ran_after ran (p.seen ++ later) id)) × NoneOf key_of p.names later
