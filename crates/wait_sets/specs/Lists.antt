-- The lists of all members and partitions, one behind the other.
use Rattle.std.specs.Prelude.{ℕ, ◌+◌, ◌*◌, List, [], ◌∷◌, slice_index_or, slice_set}
use Rattle.grid_base.specs.declared.TheConstants.{PARTITIONS}
use Rattle.wait_sets.specs.declared.waiter.Waiter.{Waiter}

-- the place of the list of that member and partition
abbrev pub place_of : ℕ → ℕ → ℕ
place_of member partition = member * PARTITIONS + partition

abbrev pub list_at : List (List Waiter) → ℕ → ℕ → List Waiter
list_at lists member partition = slice_index_or lists (place_of member partition) []

-- with another list there
abbrev pub with_list : List (List Waiter) → ℕ → ℕ → List Waiter → List (List Waiter)
with_list lists member partition list = slice_set lists (place_of member partition) list

-- 1 where somebody waits
abbrev pub if_some : List Waiter → ℕ
if_some [] = 0
if_some (w ∷ ws) = 1
