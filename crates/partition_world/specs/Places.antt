-- Places in a list, from 0, and the elements there.
use Rattle.std.specs.Prelude.{ℕ, ◌<◌, List, All, slice_get}
use Rattle.std.specs.List.{filter_map}

-- the elements at these places, in their order. A place past the end has none
abbrev pub at_places : {X : Type 0} → List X → List ℕ → List X
at_places xs places = filter_map (slice_get xs) places

abbrev pub AreBelow : ℕ → List ℕ → Type 0
AreBelow n places = All (λ k. k < n) places
