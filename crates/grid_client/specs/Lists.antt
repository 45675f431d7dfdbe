-- Lists of which the first element that passes a test goes, or is changed.
use Rattle.std.specs.Prelude.{Bool, if◌then◌else◌, List, [], ◌∷◌}

abbrev pub erased_by : {X : Type 0} → (X → Bool) → List X → List X
erased_by test [] = []
erased_by test (x ∷ xs) = if test x then xs else x ∷ erased_by test xs

abbrev pub changed_by : {X : Type 0} → (X → Bool) → (X → X) → List X → List X
changed_by test change [] = []
changed_by test change (x ∷ xs) = if test x then change x ∷ xs else x ∷ changed_by test change xs
