-- Look-ups that wait for their answers, by number, and what overtakes them.
use Rattle.std.specs.Prelude.{ℕ, Bool, List, map, Option, Some, if◌then◌else◌}
use Rattle.std.specs.Ordering.{nat_cmp}
use Rattle.std.specs.FinMap.{FinMap, entries, from_entries}
use Rattle.slab.specs.Slab.{entries_from}
use Rattle.near_cache.specs.declared.look_up.LookUp.{LookUp}
use Rattle.near_cache.specs.declared.look_up.Overtaking.{Overtaking}

abbrev pub LookUps : Type 0
LookUps = FinMap nat_cmp LookUp

-- those of some keys are overtaken
abbrev pub overtaking : (List ℕ → Bool) → Overtaking → LookUp → LookUp
overtaking test by r = if test r.key then record r { overtaken = Some by } else r

abbrev pub all_overtaken : (List ℕ → Bool) → Overtaking → LookUps → LookUps
all_overtaken test by waiting = from_entries (map (λ e. (e.0, overtaking test by e.1)) (entries waiting))

-- each slot's look-up has the slot's number
abbrev pub look_ups_in : List (Option LookUp) → LookUps
look_ups_in slots = from_entries (entries_from 0 slots)
