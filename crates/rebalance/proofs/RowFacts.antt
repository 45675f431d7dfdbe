-- Rows at a place, and the loads of the first rows.
use Rattle.std.proofs.Common.{◌≡◌, ℕ, zero, suc, ◌+◌, ◌<◌, ◌≤◌, Bool, false, List, [], ◌∷◌, ◌++◌, Option, Some, None, take, length, get_or, set, slice_get, slice_index, refl, ap, sym, ◌∙◌, subst, ⊎_elim, arith, eq-eqb, ne_eqb}
use Rattle.std.proofs.lemmas.Bool.{cases_eq}
use Rattle.std.proofs.lemmas.List.{take_more, get_or-set_same, get_or-set_other, get_or_push, get_or_append_left, length_push, get_or_read, length-set}
use Rattle.std.proofs.lemmas.List.Sums.{sum_by_push}
use Rattle.std.proofs.lemmas.Option.{slice_get-map, slice_get_read, get_or_from_slice_get, slice_get_within}
use Rattle.std.specs.Option.{option_map}
use Rattle.partition_table.specs.declared.row.Row.{Row}
use Rattle.rebalance.specs.Rows.{primaries, primary_of, is_unsettled, is_unsettled_at}
use Rattle.rebalance.specs.Members.{load_of}
use Rattle.rebalance.proofs.Choosing.{one_for}

pub row_get : (rows : List Row) (p : ℕ) (row : Row) → p < length rows → row ≡ get_or rows p row → slice_get rows p ≡ Some row
row_get rows p row l e = slice_get_read rows (length rows) p row refl l e

pub primary_get : (rows : List Row) (p : ℕ) (row : Row) → slice_get rows p ≡ Some row → slice_get (primaries rows) p ≡ Some (primary_of row)
primary_get rows p row e = slice_get-map primary_of rows p ∙ ap (option_map primary_of) e

pub primary_in_range : (rows : List Row) (n p : ℕ) (row : Row) → slice_get rows p ≡ Some row → ((q m : ℕ) → slice_get (primaries rows) q ≡ Some (Some m) → m < n) → (m : ℕ) → primary_of row ≡ Some m → m < n
primary_in_range rows n p row at h m e = h p m (primary_get rows p row at ∙ ap Some e)

pub unsettled_at : (rows : List Row) (moving : List Bool) (p : ℕ) (row : Row) (d : Bool) → length moving ≡ length rows → slice_get rows p ≡ Some row → is_unsettled_at rows moving p ≡ is_unsettled row (get_or moving p d)
unsettled_at [] moving p row d same e = absurd cc
unsettled_at (r ∷ rows) [] p row d same e = absurd (omega arith)
unsettled_at (r ∷ rows) (m ∷ moving) zero row d same e = let f : r ≡ row = cc in ap (λ x. is_unsettled x m) f
unsettled_at (r ∷ rows) (m ∷ moving) (suc p) row d same e = unsettled_at rows moving p row d (omega arith) e

pub settled_past : (rows : List Row) (moving : List Bool) (p : ℕ) → length rows ≤ p → is_unsettled_at rows moving p ≡ false
settled_past [] moving p l = refl
settled_past (r ∷ rows) [] p l = refl
settled_past (r ∷ rows) (m ∷ moving) zero l = absurd (omega arith)
settled_past (r ∷ rows) (m ∷ moving) (suc p) l = settled_past rows moving p (omega arith)

-- a list that is filled from a function, one element on
pub filled_more : (f : ℕ → ℕ) (xs : List ℕ) (i v : ℕ) → length xs ≡ i → ((m : ℕ) → m < i → get_or xs m 0 ≡ f m) → v ≡ f i → (length (xs ++ v ∷ []) ≡ i + 1) × ((m : ℕ) → m < i + 1 → get_or (xs ++ v ∷ []) m 0 ≡ f m)
filled_more f xs i v e h last = (
  length_push xs v ∙ ap (λ k. k + 1) e,
  λ m l.
      ⊎_elim
      (λ (s : m ≡ i). rw s (get_or_push xs v 0 i e ∙ last))
      (λ (s : m ≡ i → ⊥). let k : m < length xs = omega (arith, s) in get_or_append_left xs (v ∷ []) 0 m k ∙ h m (omega (arith, s)))
      (cases_eq m i),
)

-- the loads of one row more
pub load_of-take_more : (ps : List (Option ℕ)) (i : ℕ) (c : Option ℕ) (m : ℕ) → slice_get ps i ≡ Some c → load_of (take (i + 1) ps) m ≡ load_of (take i ps) m + one_for m c
load_of-take_more ps i c m e =
    let l : i < length ps = slice_get_within ps i c e in
    let f : take (i + 1) ps ≡ take i ps ++ c ∷ [] = take_more ps i c l ∙ ap (λ x. take i ps ++ x ∷ []) (get_or_from_slice_get ps i c c e) in
    ap (λ xs. load_of xs m) f ∙ sum_by_push (one_for m) (take i ps) c

pub loads_more_none : (ps : List (Option ℕ)) (i : ℕ) (loads : List ℕ) → slice_get ps i ≡ Some None → ((m : ℕ) → slice_index loads m ≡ load_of (take i ps) m) → (m : ℕ) → slice_index loads m ≡ load_of (take (i + 1) ps) m
loads_more_none ps i loads e h m = omega (arith, h m, load_of-take_more ps i None m e)

pub loads_more_some : (ps : List (Option ℕ)) (i a : ℕ) (loads : List ℕ) → slice_get ps i ≡ Some (Some a) → a < length loads → ((m : ℕ) → slice_index loads m ≡ load_of (take i ps) m) → (m : ℕ) → slice_index (set loads a (slice_index loads a + 1)) m ≡ load_of (take (i + 1) ps) m
loads_more_some ps i a loads e l h m =
    ⊎_elim
    (λ (s : a ≡ m).
    let one : one_for m (Some a) ≡ 1 = rw (eq-eqb a m s) refl in
    let here : slice_index (set loads a (slice_index loads a + 1)) m ≡ slice_index loads a + 1 = subst (λ k. slice_index (set loads a (slice_index loads a + 1)) k ≡ slice_index loads a + 1) s (get_or-set_same loads a (slice_index loads a + 1) 0 l) in
    let same : slice_index loads a ≡ slice_index loads m = ap (slice_index loads) s in
    omega (arith, here, same, h m, one, load_of-take_more ps i (Some a) m e))
    (λ (s : a ≡ m → ⊥).
    let none : one_for m (Some a) ≡ 0 = rw (ne_eqb a m s) refl in
    let other : slice_index (set loads a (slice_index loads a + 1)) m ≡ slice_index loads m = get_or-set_other loads a m (slice_index loads a + 1) 0 (λ f. s (sym f)) in
    omega (arith, other, h m, none, load_of-take_more ps i (Some a) m e))
    (cases_eq a m)

-- a loop's step where the primary's load is written
pub loads_written : (ps : List (Option ℕ)) (i a j x n : ℕ) (loads : List ℕ) → slice_get ps i ≡ Some (Some a) → j ≡ a → x ≡ get_or loads j x → a < n → length loads ≡ n → ((m : ℕ) → slice_index loads m ≡ load_of (take i ps) m) → (length (set loads j (x + 1)) ≡ n) × ((m : ℕ) → slice_index (set loads j (x + 1)) m ≡ load_of (take (i + 1) ps) m)
loads_written ps i a j x n loads e s r l c h =
    let k : a < length loads = omega arith in
    let inside : j < length loads = omega arith in
    let is : x ≡ slice_index loads a = get_or_read loads j x inside r 0 ∙ ap (slice_index loads) s in
    let f : set loads j (x + 1) ≡ set loads a (slice_index loads a + 1) = ap (λ b. set loads b (x + 1)) s ∙ ap (λ y. set loads a (y + 1)) is in
    rw f (length-set loads a (slice_index loads a + 1) ∙ c, loads_more_some ps i a loads e k h)
