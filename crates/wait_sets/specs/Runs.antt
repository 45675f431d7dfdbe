-- Elements in a row that are alike.
use Rattle.std.specs.Prelude.{◌≡◌, ℕ, ◌+◌, ◌-◌, ◌<◌, ◌≤◌, Bool, false, nat_lt, ◌==◌, List, [], ◌∷◌, length, take, drop, filter, All, slice_index, slice_index_or, slice_set, if◌then◌else◌}

-- all have the same kind
abbrev pub AreAlike : {X K : Type 0} → (X → K) → List X → Type 0
AreAlike {X} {K} kind xs = (one : K) × All (λ x. kind x ≡ one) xs

-- A list falls into runs of these lengths, in order. Those of each have one kind
abbrev pub AreRuns : {X K : Type 0} → (X → K) → List ℕ → List X → Type 0
AreRuns kind [] xs = xs ≡ []
AreRuns kind (n ∷ ns) xs = (n ≤ length xs) × AreAlike kind (take n xs) × AreRuns kind ns (drop n xs)

-- there is a last one, and the other is of its kind
abbrev pub EndsAlike : {X K : Type 0} → (X → K) → List X → X → Type 0
EndsAlike {X} kind xs y = (last : X) × (0 < length xs) × (slice_index_or xs (length xs - 1) last ≡ last) × (kind last ≡ kind y)

-- the last run has one more
abbrev pub lengthened : List ℕ → List ℕ
lengthened ns = slice_set ns (length ns - 1) (slice_index ns (length ns - 1) + 1)

-- the lengths without the element at that place; a run that had no other is none
abbrev pub shortened : List ℕ → ℕ → List ℕ
shortened [] place = []
shortened (n ∷ ns) place = if nat_lt place n then (if n == 1 then ns else (n - 1) ∷ ns) else n ∷ shortened ns (place - n)

-- how many of each run pass a test
abbrev pub stayed : {X : Type 0} → (X → Bool) → List ℕ → List X → List ℕ
stayed stays [] xs = []
stayed stays (n ∷ ns) xs = length (filter stays (take n xs)) ∷ stayed stays ns (drop n xs)

-- there is a first one, and it passes
abbrev pub passes_first : {X : Type 0} → (X → Bool) → List X → Bool
passes_first f [] = false
passes_first f (x ∷ xs) = f x
