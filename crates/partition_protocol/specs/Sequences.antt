-- A list as a part of another.
use Rattle.std.specs.Prelude.{◌≡◌, Bool, true, false, List, [], ◌∷◌, ◌++◌}

-- the elements that are marked
abbrev pub picked : {X : Type 0} → List Bool → List X → List X
picked [] ys = []
picked (m ∷ ms) [] = []
picked (true ∷ ms) (y ∷ ys) = y ∷ picked ms ys
picked (false ∷ ms) (y ∷ ys) = picked ms ys

-- xs is ys with some elements left out
abbrev pub IsSubsequence : {X : Type 0} → List X → List X → Type 0
IsSubsequence xs ys = (marks : List Bool) × (picked marks ys ≡ xs)

-- ys is xs with more at its end
abbrev pub IsFrontOf : {X : Type 0} → List X → List X → Type 0
IsFrontOf {X} xs ys = (rest : List X) × (xs ++ rest ≡ ys)
