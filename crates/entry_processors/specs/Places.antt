-- Lists whose items are numbered from 1, in their order.
use Rattle.std.specs.Prelude.{ℕ, zero, suc, ℤ, pos, negsuc, List, slice_get, Option, Some, None, option_and_then}

-- The item of number i + 1 stands at place i.
abbrev pub place_of : ℤ → Option ℕ
place_of (pos (suc place)) = Some place
place_of (pos zero) = None
place_of (negsuc n) = None

-- the item of a number; none where the number isn't from 1 to the length
abbrev pub item_at : {T : Type 0} → List T → ℤ → Option T
item_at items number = option_and_then (slice_get items) (place_of number)
