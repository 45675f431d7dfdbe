-- The first link to a member, found from end to end.
use Rattle.std.proofs.Common.{◌≡◌, ◌≢◌, ℕ, zero, suc, ◌+◌, ◌<◌, ◌≤◌, Bool, true, false, cond, not, ◌&&◌, ◌==◌, List, [], ◌∷◌, ◌++◌, map, Option, Some, None, option_map, refl, ap, sym, ◌∙◌, ⊎_elim, append-nil, arith}
use Rattle.std.specs.List.{find, flat_map}
use Rattle.std.proofs.lemmas.List.{map-append}
use Rattle.std.proofs.lemmas.Grind.{flat_map-append}
use Rattle.std.proofs.Math.Numerals.{lt_of_le_of_ne}
use Rattle.partition_protocol.specs.Service.{numbers_below}
use Rattle.partition_protocol.specs.World.{World}
use Rattle.partition_protocol.proofs.RowFacts.{number_same, number_other, number_cases}
use Rattle.partition_world.specs.declared.Link.{Link}
use Rattle.partition_world.specs.LinkOrder.{links_from, is_busy}
use Rattle.masters_run.specs.Runs.{is_to_member, is_reached, member_reached, link_to_member}

-- the first of two lists, and then of the other
abbrev pub first_or : {X : Type 0} → Option X → Option X → Option X
first_or None y = y
first_or (Some x) y = Some x

pub find_both : {X : Type 0} (t : X → Bool) (xs ys : List X) → find t (xs ++ ys) ≡ first_or (find t xs) (find t ys)
find_both t [] ys = refl
find_both t (x ∷ xs) ys = go (t x) refl (find_both t xs ys)
  where
    go : (b : Bool) → t x ≡ b → find t (xs ++ ys) ≡ first_or (find t xs) (find t ys) → cond b (Some x) (find t (xs ++ ys)) ≡ first_or (cond b (Some x) (find t xs)) (find t ys)
    go true is rest = refl
    go false is rest = rest

-- among numbers

pub none_below : (t : ℕ → Bool) (n : ℕ) → ((k : ℕ) → k < n → t k ≡ false) → find t (numbers_below n) ≡ None
none_below t zero none = refl
none_below t (suc n) none =
    let one : find t (n ∷ []) ≡ None = ap (λ b. cond b (Some n) None) (none n (omega arith)) in
    find_both t (numbers_below n) (n ∷ []) ∙ (λ i. first_or (none_below t n (λ k low. none k (omega (arith, low))) i) (one i))

pub first_below : (t : ℕ → Bool) (n k : ℕ) → k < n → ((j : ℕ) → j < k → t j ≡ false) → t k ≡ true → find t (numbers_below n) ≡ Some k
first_below t zero k low none is = absurd (omega (arith, low))
first_below t (suc n) k low none is = ⊎_elim last (λ other. before (first_below t n k (lt_of_le_of_ne (omega (arith, low)) other) none is)) (number_cases k n)
  where
    last : k ≡ n → find t (numbers_below (suc n)) ≡ Some k
    last same =
        let no : find t (numbers_below n) ≡ None = none_below t n (λ j lower. none j (omega (arith, lower, same))) in
        let one : find t (n ∷ []) ≡ Some n = ap (λ b. cond b (Some n) None) (ap t (sym same) ∙ is) in
        find_both t (numbers_below n) (n ∷ []) ∙ (λ i. first_or (no i) (one i)) ∙ ap (λ m. Some m) (sym same)

    before : find t (numbers_below n) ≡ Some k → find t (numbers_below (suc n)) ≡ Some k
    before there = find_both t (numbers_below n) (n ∷ []) ∙ ap (λ x. first_or x (find t (n ∷ []))) there

map_first : {X Y : Type 0} (f : X → Y) (x y : Option X) → option_map f (first_or x y) ≡ first_or (option_map f x) (option_map f y)
map_first f None y = refl
map_first f (Some x) y = refl

module _ {C : Type 0} (w : World C) where
  abbrev pub link_at : ℕ → ℕ → Link
  link_at from to = record { from = from; to = to }

  -- of the links of one end

  one_member : (from n : ℕ) → n ≢ w.members → find (is_to_member w) (link_at from n ∷ []) ≡ option_map (link_at from) (find (is_reached w from) (n ∷ []))
  one_member from n other =
      let apart : (n == w.members) ≡ false = number_other n w.members other in
      ap (λ b. cond (not b && is_busy w (link_at from n)) (Some (link_at from n)) None) apart ∙ go (is_busy w (link_at from n))
    where
      go : (b : Bool) → cond b (Some (link_at from n)) None ≡ option_map (link_at from) (cond b (Some n) None)
      go true = refl
      go false = refl

  to_members : (from n : ℕ) → n ≤ w.members → find (is_to_member w) (map (link_at from) (numbers_below n)) ≡ option_map (link_at from) (find (is_reached w from) (numbers_below n))
  to_members from zero most = refl
  to_members from (suc n) most =
      let before = numbers_below n in
      let rest = to_members from n (omega (arith, most)) in
      let one = one_member from n (λ same. absurd (omega (arith, most, same))) in
      ap (λ ls. find (is_to_member w) ls) (map-append (link_at from) before (n ∷ [])) ∙ find_both (is_to_member w) (map (link_at from) before) (link_at from n ∷ [])
      ∙ (λ i. first_or (rest i) (one i)) ∙ sym (map_first (link_at from) (find (is_reached w from) before) (find (is_reached w from) (n ∷ [])))
      ∙ ap (λ x. option_map (link_at from) x) (sym (find_both (is_reached w from) before (n ∷ [])))

  to_service : (from : ℕ) → find (is_to_member w) (link_at from w.members ∷ []) ≡ None
  to_service from = ap (λ b. cond (not b && is_busy w (link_at from w.members)) (Some (link_at from w.members)) None) (number_same w.members w.members refl)

  or_none : (x : Option Link) → first_or x None ≡ x
  or_none None = refl
  or_none (Some l) = refl

  from_one : (from : ℕ) → find (is_to_member w) (links_from w.members from) ≡ option_map (link_at from) (member_reached w from)
  from_one from =
      let n = w.members in
      let one : n + 1 ≡ suc n = omega arith in
      ap (λ m. find (is_to_member w) (map (link_at from) (numbers_below m))) one
      ∙ ap (λ ls. find (is_to_member w) ls) (map-append (link_at from) (numbers_below n) (n ∷ []))
      ∙ find_both (is_to_member w) (map (link_at from) (numbers_below n)) (link_at from n ∷ [])
      ∙ (λ i. first_or (to_members from n (omega arith) i) (to_service from i)) ∙ or_none (option_map (link_at from) (member_reached w from))

  -- end after end

  abbrev through : ℕ → Option Link
  through n = find (is_to_member w) (flat_map (links_from w.members) (numbers_below n))

  through_more : (n : ℕ) → through (suc n) ≡ first_or (through n) (option_map (link_at n) (member_reached w n))
  through_more n =
      let f = links_from w.members in
      ap (λ ls. find (is_to_member w) ls) (flat_map-append f (numbers_below n) (n ∷ []) ∙ ap (λ ls. flat_map f (numbers_below n) ++ ls) (append-nil (f n)))
      ∙ find_both (is_to_member w) (flat_map f (numbers_below n)) (f n) ∙ ap (λ x. first_or (through n) x) (from_one n)

  none_through : (n : ℕ) → ((k : ℕ) → k < n → member_reached w k ≡ None) → through n ≡ None
  none_through zero none = refl
  none_through (suc n) none =
      let rest = none_through n (λ k low. none k (omega (arith, low))) in
      let one = ap (λ x. option_map (link_at n) x) (none n (omega arith)) in
      through_more n ∙ (λ i. first_or (rest i) (one i))

  first_through : (n k to : ℕ) → k < n → ((j : ℕ) → j < k → member_reached w j ≡ None) → member_reached w k ≡ Some to → through n ≡ Some (link_at k to)
  first_through zero k to low none is = absurd (omega (arith, low))
  first_through (suc n) k to low none is = ⊎_elim last (λ other. before (first_through n k to (lt_of_le_of_ne (omega (arith, low)) other) none is)) (number_cases k n)
    where
      last : k ≡ n → through (suc n) ≡ Some (link_at k to)
      last same =
          let rest : through n ≡ None = none_through n (λ j lower. none j (omega (arith, lower, same))) in
          let one : option_map (link_at n) (member_reached w n) ≡ Some (link_at n to) = ap (λ x. option_map (link_at n) x) (ap (member_reached w) (sym same) ∙ is) in
          through_more n ∙ (λ i. first_or (rest i) (one i)) ∙ ap (λ m. Some (link_at m to)) (sym same)

      before : through n ≡ Some (link_at k to) → through (suc n) ≡ Some (link_at k to)
      before there = through_more n ∙ ap (λ x. first_or x (option_map (link_at n) (member_reached w n))) there

  pub no_link : ((k : ℕ) → k ≤ w.members → member_reached w k ≡ None) → link_to_member w ≡ None
  no_link none = none_through (w.members + 1) (λ k low. none k (omega (arith, low)))

  pub first_link : (k to : ℕ) → k ≤ w.members → ((j : ℕ) → j < k → member_reached w j ≡ None) → member_reached w k ≡ Some to → link_to_member w ≡ Some (link_at k to)
  first_link k to low none is = first_through (w.members + 1) k to (omega (arith, low)) none is
