-- The links in order, beside the lanes in which they stand.
use Rattle.std.proofs.Common.{◌≡◌, ℕ, zero, suc, ◌+◌, ◌*◌, ◌/◌, ◌%◌, ◌<◌, Bool, false, not, ◌||◌, cond, leb, ◌==◌, List, [], ◌∷◌, ◌++◌, map, length, slice_get, Option, Some, None, option_map, refl, sym, ap, ◌∙◌, ⊎_elim, arith, length-append, lt-ltb}
use Rattle.std.specs.List.{flat_map, list_any, range_with_len, position_or_len}
use Rattle.std.proofs.lemmas.Bool.{and_from, cases_Bool, lt-leb, or_from}
use Rattle.std.proofs.lemmas.List.{length-map}
use Rattle.std.proofs.lemmas.List.Folds.{find_at}
use Rattle.std.proofs.lemmas.List.FromFn.{length-map-range_with_len, get_or-map-range_with_len}
use Rattle.std.proofs.lemmas.Nat.{div_below, mod_below, div-add-mod'}
use Rattle.std.proofs.lemmas.Option.{slice_get-map, slice_get-get_or, slice_get_past}
use Rattle.link_net.specs.declared.link.Link.{Link}
use Rattle.link_net.specs.Links.{Lane, Net, list_in, list_of, links_from, links_of, is_busy, next_link, has_crowded_link}
use Rattle.link_net.specs.Counting.{Counts, busy_from, messages_on, AreCountsOf}
use Rattle.link_net.proofs.Nets.{IsSquare}

-- ---- rows of one length after one another

get_left : {X : Type 0} (xs ys : List X) (k : ℕ) → k < length xs → slice_get (xs ++ ys) k ≡ slice_get xs k
get_left [] ys k within = absurd (omega (arith, within))
get_left (x ∷ xs) ys zero within = refl
get_left (x ∷ xs) ys (suc k) within = get_left xs ys k (omega (arith, within))

get_right : {X : Type 0} (xs ys : List X) (k j : ℕ) → k ≡ length xs + j → slice_get (xs ++ ys) k ≡ slice_get ys j
get_right [] ys k j is = let same : k ≡ j = omega (arith, is) in ap (slice_get ys) same
get_right (x ∷ xs) ys zero j is = absurd (omega (arith, is))
get_right (x ∷ xs) ys (suc k) j is = get_right xs ys k j (omega (arith, is))

module _ {X : Type 0} (row : ℕ → List X) (width : ℕ) (wide : (i : ℕ) → length (row i) ≡ width) where
  rows_long : (first count : ℕ) → length (flat_map row (range_with_len first count)) ≡ count * width
  rows_long first zero = omega arith
  rows_long first (suc count) =
      let rest = flat_map row (range_with_len (first + 1) count) in
      omega (arith, length-append (row first) rest, wide first, rows_long (first + 1) count)

  in_row : (first count i j k : ℕ) → i < count → j < width → k ≡ i * width + j → slice_get (flat_map row (range_with_len first count)) k ≡ slice_get (row (first + i)) j
  in_row first zero i j k below within is = absurd (omega (arith, below))
  in_row first (suc count) zero j k below within is =
      let same : k ≡ j = omega (arith, is) in
      let here : first ≡ first + 0 = omega arith in
      get_left (row first) (flat_map row (range_with_len (first + 1) count)) k (omega (arith, within, wide first, same)) ∙ ap (slice_get (row first)) same ∙ ap (λ n. slice_get (row n) j) here
  in_row first (suc count) (suc i) j k below within is =
      let next : first + 1 + i ≡ first + suc i = omega arith in
      get_right (row first) (flat_map row (range_with_len (first + 1) count)) k (i * width + j) (omega (arith, is, wide first))
      ∙ in_row (first + 1) count i j (i * width + j) (omega (arith, below)) within refl ∙ ap (λ n. slice_get (row n) j) next

-- ---- the links by their places

links_wide : (ends from : ℕ) → length (links_from ends from) ≡ ends
links_wide ends from = length-map-range_with_len _ 0 ends

links_long : (ends : ℕ) → length (links_of ends) ≡ ends * ends
links_long ends = rows_long (links_from ends) ends (links_wide ends) 0 ends

link_from : (ends from to : ℕ) → to < ends → slice_get (links_from ends from) to ≡ Some (record { from = from; to = to })
link_from ends from to within =
    let link : ℕ → Link = λ n. record { from = from; to = n } in
    slice_get-get_or (links_from ends from) to (link to) (omega (arith, within, links_wide ends from)) ∙ ap Some (get_or-map-range_with_len link 0 ends to to (link to) within (omega arith))

some_ends : (ends at : ℕ) → at < ends * ends → 0 < ends
some_ends zero at within = absurd (omega (arith, within))
some_ends (suc ends) at within = omega arith

link_there : (ends at : ℕ) → at < ends * ends → slice_get (links_of ends) at ≡ Some (record { from = at / ends; to = at % ends })
link_there ends at within =
    let some = some_ends ends at within in
    let column = mod_below at ends some in
    let whole : at ≡ at / ends * ends + at % ends = sym (div-add-mod' at ends) in
    let first : 0 + at / ends ≡ at / ends = omega arith in
    in_row (links_from ends) ends (links_wide ends) 0 ends (at / ends) (at % ends) at (div_below at ends ends some within) column whole
    ∙ link_from ends (0 + at / ends) (at % ends) column ∙ ap (λ n. let l : Link = record { from = n; to = at % ends } in Some l) first

-- ---- tests of the lists of all links, one by one

same_items : {X : Type 0} (xs ys : List X) → length xs ≡ length ys → ((k : ℕ) → k < length xs → slice_get xs k ≡ slice_get ys k) → xs ≡ ys
same_items [] [] long same = refl
same_items [] (y ∷ ys) long same = absurd (omega (arith, long))
same_items (x ∷ xs) [] long same = absurd (omega (arith, long))
same_items (x ∷ xs) (y ∷ ys) long same =
    let first : x ≡ y = (let e = same zero (omega arith) in cc) in
    let rest = same_items xs ys (omega (arith, long)) (λ k within. same (suc k) (omega (arith, within))) in
    ap (λ z. z ∷ xs) first ∙ ap (λ zs. y ∷ zs) rest

position-map : {X Y : Type 0} (p : Y → Bool) (f : X → Y) (xs : List X) → position_or_len (λ x. p (f x)) xs ≡ position_or_len p (map f xs)
position-map p f [] = refl
position-map p f (x ∷ xs) = ap (λ n. cond (not (p (f x))) (1 + n) 0) (position-map p f xs)

any-map : {X Y : Type 0} (p : Y → Bool) (f : X → Y) (xs : List X) → list_any (λ x. p (f x)) xs ≡ list_any p (map f xs)
any-map p f [] = refl
any-map p f (x ∷ xs) = ap (λ b. p (f x) || b) (any-map p f xs)

abbrev list_by : Net → Link → List (List ℕ)
list_by net l = list_of net l.from l.to

abbrev list_on : Lane → List (List ℕ)
list_on lane = lane.list

is_there : {X : Type 0} (xs : List X) (k : ℕ) → k < length xs → slice_get xs k ≡ None → ⊥
is_there [] k within none = omega (arith, within)
is_there (x ∷ xs) zero within none = cc
is_there (x ∷ xs) (suc k) within none = is_there xs k (omega (arith, within)) none

-- ---- the first lane with messages

abbrev has_some : List (List ℕ) → Bool
has_some list = not (length list == 0)

abbrev first_with : List Lane → ℕ
first_with lanes = position_or_len (λ (lane : Lane). has_some lane.list) lanes

none_with : (first : ℕ) (lanes : List Lane) → slice_get (busy_from first lanes) 0 ≡ None → first_with lanes ≡ length lanes
none_with first [] none = refl
none_with first (lane ∷ lanes) none =
    ⊎_elim (λ empty. rw empty (let others = none_with (suc first) lanes (rw empty at none) in omega (arith, others))) (λ busy. let clash : Some first ≡ None = rw busy at none in absurd (cc))
    (cases_Bool (length lane.list == 0))

record IsFirst (first : ℕ) (lanes : List Lane) (at : ℕ) : Type 0 where
  at_is : at ≡ first + first_with lanes
  within : first_with lanes < length lanes

some_with : (first : ℕ) (lanes : List Lane) (at : ℕ) → slice_get (busy_from first lanes) 0 ≡ Some at → IsFirst first lanes at
some_with first [] at some = absurd cc
some_with first (lane ∷ lanes) at some =
    ⊎_elim
    (λ empty.
    let others = some_with (suc first) lanes at (rw empty at some) in
    let passed : first_with (lane ∷ lanes) ≡ 1 + first_with lanes = rw empty refl in
    record { at_is = omega (arith, others.at_is, passed); within = omega (arith, others.within, passed) })
    (λ busy.
    let here : Some first ≡ Some at = rw busy at some in
    let same : first ≡ at = cc in
    let none : first_with (lane ∷ lanes) ≡ 0 = rw busy refl in
    record { at_is = omega (arith, same, none); within = omega (arith, none) })
    (cases_Bool (length lane.list == 0))

-- ---- no lane has as many messages as all have together

few_lists : (most : ℕ) (lanes : List Lane) → messages_on lanes < most → list_any (λ (lane : Lane). leb most (length lane.list)) lanes ≡ false
few_lists most [] few = refl
few_lists most (lane ∷ lanes) few = or_from _ _ (lt-leb most (length lane.list) (omega (arith, few))) (few_lists most lanes (omega (arith, few)))

-- ---- a net whose lanes are counted

module _ (net : Net) (square : IsSquare net) where
  list_at : (from to : ℕ) → from < net.ends → to < net.ends → list_of net from to ≡ list_in (slice_get net.lanes (from * net.ends + to))
  list_at from to f t = rw (and_from _ _ (lt-ltb from net.ends f) (lt-ltb to net.ends t)) refl

  one_list : (at : ℕ) → at < net.ends * net.ends → slice_get (map (list_by net) (links_of net.ends)) at ≡ slice_get (map list_on net.lanes) at
  one_list at within =
      let ends = net.ends in
      let some = some_ends ends at within in
      let here : list_of net (at / ends) (at % ends) ≡ list_in (slice_get net.lanes at) =
      list_at (at / ends) (at % ends) (div_below at ends ends some within) (mod_below at ends some) ∙ ap (λ k. list_in (slice_get net.lanes k)) (div-add-mod' at ends) in
      slice_get-map (list_by net) (links_of ends) at ∙ ap (option_map (list_by net)) (link_there ends at within) ∙ ap Some here
      ∙ there (slice_get net.lanes at) (is_there net.lanes at (omega (arith, within, square))) ∙ sym (slice_get-map list_on net.lanes at)
    where
      there : (o : Option Lane) → (o ≡ None → ⊥) → Some (list_in o) ≡ option_map list_on o
      there None some = absurd (some refl)
      there (Some lane) some = refl

  lists_in_order : map (list_by net) (links_of net.ends) ≡ map list_on net.lanes
  lists_in_order =
      let long : length (map (list_by net) (links_of net.ends)) ≡ net.ends * net.ends = length-map (links_of net.ends) (list_by net) ∙ links_long net.ends in
      same_items (map (list_by net) (links_of net.ends)) (map list_on net.lanes) (long ∙ sym square ∙ sym (length-map net.lanes list_on)) (λ at within. one_list at (omega (arith, within, long)))

  next_by_lanes : next_link net ≡ slice_get (links_of net.ends) (first_with net.lanes)
  next_by_lanes =
      find_at (is_busy net) (links_of net.ends)
      ∙ ap (slice_get (links_of net.ends)) (position-map has_some (list_by net) (links_of net.ends) ∙ ap (position_or_len has_some) lists_in_order ∙ sym (position-map has_some list_on net.lanes))

  pub crowded_by_lanes : (most : ℕ) → has_crowded_link most net ≡ list_any (λ (lane : Lane). leb most (length lane.list)) net.lanes
  crowded_by_lanes most =
      let long : List (List ℕ) → Bool = λ list. leb most (length list) in
      any-map long (list_by net) (links_of net.ends) ∙ ap (list_any long) lists_in_order ∙ sym (any-map long list_on net.lanes)

  module _ (counts : Counts) (are : AreCountsOf net.lanes counts) where
    pub no_next : slice_get counts.busy 0 ≡ None → next_link net ≡ None
    no_next none =
        let past = none_with 0 net.lanes (ap (λ ps. slice_get ps 0) (sym are.busy) ∙ none) in
        next_by_lanes ∙ slice_get_past (links_of net.ends) (first_with net.lanes) (omega (arith, past, links_long net.ends, square))

    module _ (at : ℕ) (first : slice_get counts.busy 0 ≡ Some at) where
      first_is : IsFirst 0 net.lanes at
      first_is = some_with 0 net.lanes at (ap (λ ps. slice_get ps 0) (sym are.busy) ∙ first)

      pub next_within : at < net.ends * net.ends
      next_within = omega (arith, first_is.at_is, first_is.within, square)

      pub next_is : next_link net ≡ Some (record { from = at / net.ends; to = at % net.ends })
      next_is =
          let same : first_with net.lanes ≡ at = omega (arith, first_is.at_is) in
          next_by_lanes ∙ ap (slice_get (links_of net.ends)) same ∙ link_there net.ends at next_within

    pub none_crowded : (most : ℕ) → counts.messages < most → has_crowded_link most net ≡ false
    none_crowded most few = crowded_by_lanes most ∙ few_lists most net.lanes (omega (arith, few, are.messages))
