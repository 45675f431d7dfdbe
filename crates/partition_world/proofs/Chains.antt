-- A history is what the older bases give, and then what the newer pairs count.
use Rattle.std.proofs.Common.{◌≡◌, ℕ, ◌+◌, ◌-◌, ◌<◌, ◌≤◌, true, false, List, [], ◌∷◌, ◌++◌, length, take, reverse, get_or, refl, ap, sym, ◌∙◌, arith, eq-eqb, append_assoc, append-nil}
use Rattle.std.specs.List.{flat_map}
use Rattle.std.proofs.lemmas.List.{take_all, take_more, reverse-append}
use Rattle.partition_protocol.specs.Node.{Pair}
use Rattle.partition_protocol.specs.History.{Entry, Base, Opening, opening_at, entries_in, begins_anew, history}
use Rattle.partition_world.specs.Chains.{counted_by}
use Rattle.partition_world.proofs.Places.{other_number}

-- the last of these is the newest
pub newest_first : {X : Type 0} (xs : List X) (n : ℕ) (x : X) → 0 < n → n ≤ length xs → x ≡ get_or xs (n - 1) x → reverse (take n xs) ≡ x ∷ reverse (take (n - 1) xs)
newest_first xs n x some within is =
    let one_more : n ≡ n - 1 + 1 = omega arith in
    let below : n - 1 < length xs = omega arith in
    ap (λ k. reverse (take k xs)) one_more ∙ ap reverse (take_more xs (n - 1) x below)
    ∙ reverse-append (take (n - 1) xs) (get_or xs (n - 1) x ∷ []) ∙ ap (λ y. y ∷ reverse (take (n - 1) xs)) (sym is)

-- a pair that is appended is the oldest one
pub counted_more : {C : Type 0} (log : List (Entry C)) (pairs : List Pair) (p : Pair) → counted_by log (pairs ++ p ∷ []) ≡ entries_in p log ++ counted_by log pairs
counted_more log pairs p = ap (λ ps. flat_map (λ (q : Pair). entries_in q log) ps) (reverse-append pairs (p ∷ []))

module _ {C : Type 0} (openings : List (Opening C)) (log : List (Entry C)) (all : List Base) where
  -- at first no pair counts
  pub at_first : (n : ℕ) (p : Pair) (pairs : List Pair) → length all ≤ n → pairs ≡ [] → history openings log (reverse all) p ≡ history openings log (reverse (take n all)) p ++ counted_by log pairs
  at_first n p pairs whole none =
      sym (ap (λ bases. history openings log (reverse bases) p) (take_all n all whole)) ∙ sym (append-nil (history openings log (reverse (take n all)) p))
      ∙ ap (λ ps. history openings log (reverse (take n all)) p ++ counted_by log ps) (sym none)

  -- at last no base is left
  pub at_last : (n : ℕ) (p : Pair) (pairs : List Pair) → n ≤ 0 → history openings log (reverse (take n all)) p ++ counted_by log pairs ≡ counted_by log pairs
  at_last n p pairs none = let zero : n ≡ 0 = omega arith in ap (λ k. history openings log (reverse (take k all)) p ++ counted_by log pairs) zero

  -- one base less
  module _ (n : ℕ) (some : 0 < n) (within : n ≤ length all) (b : Base) (is : b ≡ get_or all (n - 1) b) (p : Pair) (pairs : List Pair) where
    newest : reverse (take n all) ≡ b ∷ reverse (take (n - 1) all)
    newest = newest_first all n b some within is

    first : history openings log (reverse (take n all)) p ++ counted_by log pairs ≡ history openings log (b ∷ reverse (take (n - 1) all)) p ++ counted_by log pairs
    first = ap (λ bases. history openings log bases p ++ counted_by log pairs) newest

    -- it is of another version
    pub passed : (b.version ≡ p.version → ⊥) → history openings log (reverse (take n all)) p ++ counted_by log pairs ≡ history openings log (reverse (take (n - 1) all)) p ++ counted_by log pairs
    passed other = first ∙ rw (other_number b.version p.version other) refl

    -- the history goes on from the base's pair
    pub goes_on : (q : Pair) (more : List Pair) → b.version ≡ p.version → begins_anew b ≡ false → q ≡ b.pair → more ≡ pairs ++ p ∷ []
        → history openings log (reverse (take n all)) p ++ counted_by log pairs ≡ history openings log (reverse (take (n - 1) all)) q ++ counted_by log more
    goes_on q more same later from longer =
        let older = history openings log (reverse (take (n - 1) all)) b.pair in
        first ∙ rw (eq-eqb b.version p.version same, later) (append_assoc older (entries_in p log) (counted_by log pairs))
        ∙ ap (λ es. older ++ es) (sym (counted_more log pairs p))
        ∙ ap (λ ps. older ++ counted_by log ps) (sym longer)
        ∙ ap (λ from. history openings log (reverse (take (n - 1) all)) from ++ counted_by log more) (sym from)

    -- the base's version began anew
    pub begins : (reset : ℕ) (more : List Pair) → b.version ≡ p.version → begins_anew b ≡ true → reset ≡ b.reset → more ≡ pairs ++ p ∷ []
        → history openings log (reverse (take n all)) p ++ counted_by log pairs ≡ opening_at reset openings ++ counted_by log more
    begins reset more same anew is_reset longer =
        let older = opening_at b.reset openings in
        first ∙ rw (eq-eqb b.version p.version same, anew) (append_assoc older (entries_in p log) (counted_by log pairs))
        ∙ ap (λ es. older ++ es) (sym (counted_more log pairs p))
        ∙ ap (λ ps. older ++ counted_by log ps) (sym longer)
        ∙ ap (λ r. opening_at r openings ++ counted_by log more) (sym is_reset)
