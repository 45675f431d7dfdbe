-- The plan as a function follows the rule, so it is the plan.
use Rattle.std.proofs.Common.{◌≡◌, ℕ, zero, suc, ◌+◌, ◌<◌, ◌≤◌, ◌==◌, nat_lt, Bool, true, false, cond, List, [], ◌∷◌, ◌++◌, map, drop, length, Option, Some, None, slice_get, slice_index, refl, ap, sym, ◌∙◌, subst, ⊎_elim, arith, append-nil, append_assoc}
use Rattle.std.specs.List.{range_with_len}
use Rattle.std.specs.Option.{option_map}
use Rattle.std.proofs.lemmas.Bool.{cases_Bool, cases_eq, cases_lt}
use Rattle.std.proofs.lemmas.Bool.Decides.{nat_tests}
use Rattle.std.proofs.lemmas.List.Sums.{fold_push}
use Rattle.partition_table.specs.declared.row.Row.{Row}
use Rattle.partition_table.specs.Rows.{is_in}
use Rattle.rebalance.specs.declared.steps.Step.{Step}
use Rattle.rebalance.specs.declared.steps.StepKind.TheVariants.{Move, Handover}
use Rattle.rebalance.specs.Rows.{primaries, primary_of, is_unsettled, is_unsettled_at}
use Rattle.rebalance.specs.Members.{total, load_of}
use Rattle.rebalance.specs.Steps.{moved, after, IsLowestBelow, TakesFrom, FollowsRule}
use Rattle.rebalance.specs.Targets.{target_of, excess_of}
use Rattle.std.proofs.lemmas.Grind.{same_number_lists}
use Rattle.std.proofs.lemmas.List.FromFn.{length-map-range_with_len, get_or-map-range_with_len}
use Rattle.rebalance.specs.Members.{is_undetected, undetected_count}
use Rattle.rebalance.specs.declared.steps.Plan.{Plan}
use Rattle.rebalance.specs.Plans.{Planned, NoMember, Unsettled, Balanced, first_unsettled, targets_of, lowest_below, kind_for, step_to, step_from, step_at, steps_from, balanced, plan_of}
use Rattle.rebalance.proofs.Totals.{total_lt}
use Rattle.rebalance.proofs.RowFacts.{primary_in_range}
use Rattle.rebalance.proofs.Walk.{Progress, started, kept, gone, new_loads, follows}
use Rattle.rebalance.proofs.Exact.{rule_is_exact}

-- the first partition that isn't settled

pub first_none : (rows : List Row) (moving : List Bool) → ((p : ℕ) → is_unsettled_at rows moving p ≡ false) → first_unsettled rows moving ≡ None
first_none [] moving h = refl
first_none (row ∷ rows) [] h = refl
first_none (row ∷ rows) (mark ∷ moving) h = rw (h 0, first_none rows moving (λ p. h (suc p))) refl

pub first_some : (rows : List Row) (moving : List Bool) (p : ℕ) → is_unsettled_at rows moving p ≡ true → ((q : ℕ) → q < p → is_unsettled_at rows moving q ≡ false) → first_unsettled rows moving ≡ Some p
first_some [] moving p is before = absurd cc
first_some (row ∷ rows) [] p is before = absurd cc
first_some (row ∷ rows) (mark ∷ moving) zero is before = rw is refl
first_some (row ∷ rows) (mark ∷ moving) (suc p) is before = rw (before 0 (omega arith), first_some rows moving p is (λ q l. before (suc q) (omega (arith, l)))) refl

-- the lowest member below its target

below_test : (load target : ℕ → ℕ) (n : ℕ) → nat_lt (load n) (target n) ≡ true → load n < target n
below_test load target n e = grind (arith, nat_tests, e)

not_below_test : (load target : ℕ → ℕ) (n : ℕ) → nat_lt (load n) (target n) ≡ false → target n ≤ load n
not_below_test load target n e = grind (arith, nat_tests, e)

abbrev lowest_or : (ℕ → ℕ) → (ℕ → ℕ) → ℕ → Option ℕ → Option ℕ
lowest_or load target n found = elim found [ None ↦ cond (nat_lt (load n) (target n)) (Some n) None | Some m ↦ Some m ]

pub lowest_none : (load target : ℕ → ℕ) (n : ℕ) → lowest_below load target n ≡ None → (m : ℕ) → m < n → target m ≤ load m
lowest_none load target zero e m l = absurd (omega arith)
lowest_none load target (suc n) e m l = go (lowest_below load target n) refl e (λ f. lowest_none load target n f m)
  where
    last : (b : Bool) → nat_lt (load n) (target n) ≡ b → cond b (Some n) None ≡ None → target n ≤ load n
    last true is none = absurd (let clash : Some n ≡ None = none in cc)
    last false is none = not_below_test load target n is

    go : (found : Option ℕ) → lowest_below load target n ≡ found → lowest_or load target n found ≡ None → (lowest_below load target n ≡ None → m < n → target m ≤ load m) → target m ≤ load m
    go (Some k) is none rest = absurd (let clash : Some k ≡ None = none in cc)
    go None is none rest = ⊎_elim (λ (s : m ≡ n). subst (λ k. target k ≤ load k) (sym s) (last (nat_lt (load n) (target n)) refl none)) (λ (s : m ≡ n → ⊥). rest is (omega (arith, l, s))) (cases_eq m n)

pub lowest_some : (load target : ℕ → ℕ) (n k : ℕ) → lowest_below load target n ≡ Some k → IsLowestBelow load target n k
lowest_some load target zero k e = absurd (let clash : None ≡ Some k = e in cc)
lowest_some load target (suc n) k e = go (lowest_below load target n) refl e (λ m f. lowest_some load target n m f)
  where
    last : (b : Bool) → nat_lt (load n) (target n) ≡ b → lowest_below load target n ≡ None → cond b (Some n) None ≡ Some k → IsLowestBelow load target (suc n) k
    last false is none some = absurd (let clash : None ≡ Some k = some in cc)
    last true is none some = let same : n ≡ k = cc in subst (IsLowestBelow load target (suc n)) same (record { in_range = omega arith; below = below_test load target n is; lowest = λ m l. lowest_none load target n none m l })

    go : (found : Option ℕ) → lowest_below load target n ≡ found → lowest_or load target n found ≡ Some k → ((m : ℕ) → lowest_below load target n ≡ Some m → IsLowestBelow load target n m) → IsLowestBelow load target (suc n) k
    go None is some rest = last (nat_lt (load n) (target n)) refl is some
    go (Some m) is some rest =
        let same : m ≡ k = cc in
        let its = rest k (is ∙ ap Some same) in
        record { in_range = let low = its.in_range in omega (arith, low); below = its.below; lowest = its.lowest }

-- a step for a row

kind_is : (row : Row) (to : ℕ) → (kind_for row to ≡ Handover → is_in row to ≡ true) × (is_in row to ≡ true → kind_for row to ≡ Handover)
kind_is row to = go (is_in row to)
  where
    go : (b : Bool) → (cond b Handover Move ≡ Handover → b ≡ true) × (b ≡ true → cond b Handover Move ≡ Handover)
    go true = (λ e. refl, λ e. refl)
    go false = (λ e. absurd (let clash : Move ≡ Handover = e in cc), λ e. absurd cc)

module _ (load target : ℕ → ℕ) (n at : ℕ) (row : Row) where
  to_lowest : (from : ℕ) (step : Step) → primary_of row ≡ Some from → target from < load from → (found : Option ℕ) → lowest_below load target n ≡ found → option_map (step_to at row from) found ≡ Some step → TakesFrom row load target n step × (step.partition ≡ at)
  to_lowest from step first above None is some = absurd (let clash : None ≡ Some step = some in cc)
  to_lowest from step first above (Some to) is some =
      let same : step_to at row from to ≡ step = cc in
      subst (λ s. TakesFrom row load target n s × (s.partition ≡ at)) same
      (record { is_primary = first; above = above; lowest = lowest_some load target n to is; kind = kind_is row to }, refl)

  from_above : (from : ℕ) (step : Step) → primary_of row ≡ Some from → (b : Bool) → nat_lt (target from) (load from) ≡ b → cond b (option_map (step_to at row from) (lowest_below load target n)) None ≡ Some step → TakesFrom row load target n step × (step.partition ≡ at)
  from_above from step first false is some = absurd (let clash : None ≡ Some step = some in cc)
  from_above from step first true is some = to_lowest from step first (grind (arith, nat_tests, is)) (lowest_below load target n) refl some

  pub step_some : (step : Step) → step_at load target n at row ≡ Some step → TakesFrom row load target n step × (step.partition ≡ at)
  step_some step = go (primary_of row) refl
    where
      go : (first : Option ℕ) → primary_of row ≡ first → step_from load target n at row first ≡ Some step → TakesFrom row load target n step × (step.partition ≡ at)
      go None is some = absurd (let clash : None ≡ Some step = some in cc)
      go (Some from) is some = from_above from step is (nat_lt (target from) (load from)) refl some

  -- where the sums are the same, a primary above its target finds a member below its own
  module _ (same : total load n ≡ total target n) where
    none_lowest : (from : ℕ) → from < n → target from < load from → (found : Option ℕ) → lowest_below load target n ≡ found → option_map (step_to at row from) found ≡ None → ⊥
    none_lowest from l above (Some to) is none = let clash : Some (step_to at row from to) ≡ None = none in cc
    none_lowest from l above None is none = let less = total_lt target load n from (λ m k. lowest_none load target n is m k) l above in omega (arith, less, same)

    none_above : (from : ℕ) → from < n → (b : Bool) → nat_lt (target from) (load from) ≡ b → cond b (option_map (step_to at row from) (lowest_below load target n)) None ≡ None → load from ≤ target from
    none_above from l false is none = grind (arith, nat_tests, is)
    none_above from l true is none = absurd (none_lowest from l (grind (arith, nat_tests, is)) (lowest_below load target n) refl none)

    pub step_none : step_at load target n at row ≡ None → (m : ℕ) → primary_of row ≡ Some m → m < n → load m ≤ target m
    step_none none m first l = none_above m l (nat_lt (target m) (load m)) refl (ap (step_from load target n at row) (sym first) ∙ none)

-- the walk over the rows that are left

drop_here : {X : Type 0} (xs : List X) (at : ℕ) (x : X) (rest : List X) → drop at xs ≡ x ∷ rest → slice_get xs at ≡ Some x
drop_here [] zero x rest e = absurd cc
drop_here [] (suc at) x rest e = absurd cc
drop_here (y ∷ xs) zero x rest e = let same : y ≡ x = cc in ap Some same
drop_here (y ∷ xs) (suc at) x rest e = drop_here xs at x rest e

drop_next : {X : Type 0} (xs : List X) (at : ℕ) (x : X) (rest : List X) → drop at xs ≡ x ∷ rest → drop (suc at) xs ≡ rest
drop_next [] zero x rest e = absurd cc
drop_next [] (suc at) x rest e = absurd cc
drop_next (y ∷ xs) zero x rest e = cc
drop_next (y ∷ xs) (suc at) x rest e = drop_next xs at x rest e

-- how far it came, with some loads
pub record Walked (rows : List Row) (target : ℕ → ℕ) (n excess : ℕ) (steps : List Step) (at : ℕ) : Type 0 where
  pub loads : List ℕ
  pub progress : Progress rows target n excess loads steps at

module _ (rows : List Row) (target : ℕ → ℕ) (n excess : ℕ) (sound : (p m : ℕ) → slice_get (primaries rows) p ≡ Some (Some m) → m < n) where
  abbrev After : List Step → ℕ → List Row → Type 0
  After steps at left = Walked rows target n excess (steps ++ steps_from target n (after steps (primaries rows)) at left) (at + length left)

  pub walked : (left : List Row) (at : ℕ) → drop at rows ≡ left → (loads : List ℕ) (steps : List Step) → Progress rows target n excess loads steps at → After steps at left
  walked [] at e loads steps p =
      let to : at ≡ at + 0 = omega arith in
      record { loads = loads; progress = subst (λ k. Progress rows target n excess loads (steps ++ []) k) to (subst (λ s. Progress rows target n excess loads s at) (sym (append-nil steps)) p) }
  walked (row ∷ left) at e loads steps p = go (step_at (load_of now) target n at row) refl (λ more s q. walked left (at + 1) rest more s q)
    where
      now : List (Option ℕ)
      now = after steps (primaries rows)

      at_row : slice_get rows at ≡ Some row
      at_row = drop_here rows at row left e

      next : suc at ≡ at + 1
      next = omega arith

      rest : drop (at + 1) rows ≡ left
      rest = subst (λ k. drop k rows ≡ left) next (drop_next rows at row left e)

      end : (at + 1) + length left ≡ at + length (row ∷ left)
      end = omega arith

      loads_fun : slice_index loads ≡ load_of now
      loads_fun = λ i m. p.loads_are m i

      same : total (load_of now) n ≡ total target n
      same = subst (λ (f : ℕ → ℕ). total f n ≡ total target n) loads_fun p.sums

      stays : step_at (load_of now) target n at row ≡ None → (m : ℕ) → primary_of row ≡ Some m → slice_index loads m ≤ target m
      stays none m first =
          let l = primary_in_range rows n at row at_row sound m first in
          subst (λ (f : ℕ → ℕ). f m ≤ target m) (sym loads_fun) (step_none (load_of now) target n at row same none m first l)

      goes : (step : Step) → step_at (load_of now) target n at row ≡ Some step → TakesFrom row (slice_index loads) target n step × (step.partition ≡ at)
      goes step some = subst (λ (f : ℕ → ℕ). TakesFrom row f target n step × (step.partition ≡ at)) (sym loads_fun) (step_some (load_of now) target n at row step some)

      go : (s : Option Step) → step_at (load_of now) target n at row ≡ s → ((more : List ℕ) (ss : List Step) → Progress rows target n excess more ss (at + 1) → After ss (at + 1) left)
          → Walked rows target n excess (steps ++ elim s [ None ↦ steps_from target n now (at + 1) left | Some step ↦ step ∷ steps_from target n (moved now step) (at + 1) left ]) (at + length (row ∷ left))
      go None is on = subst (Walked rows target n excess (steps ++ steps_from target n now (at + 1) left)) end (on loads steps (kept rows target n excess loads steps at row at_row p (stays is)))
      go (Some step) is on =
          let its = goes step is in
          let in_range = primary_in_range rows n at row at_row sound step.from its.0.is_primary in
          let further = on (new_loads rows target n excess loads steps at row at_row p step its.1 its.0 in_range) (steps ++ step ∷ []) (gone rows target n excess loads steps at row at_row p step its.1 its.0 in_range) in
          let whole : (steps ++ step ∷ []) ++ steps_from target n (after (steps ++ step ∷ []) (primaries rows)) (at + 1) left ≡ steps ++ step ∷ steps_from target n (moved now step) (at + 1) left =
          append_assoc steps (step ∷ []) (steps_from target n (after (steps ++ step ∷ []) (primaries rows)) (at + 1) left)
          ∙ ap (λ (ps : List (Option ℕ)). steps ++ step ∷ steps_from target n ps (at + 1) left) (fold_push moved (primaries rows) steps step) in
          subst (Walked rows target n excess (steps ++ step ∷ steps_from target n (moved now step) (at + 1) left)) end
          (subst (λ s. Walked rows target n excess s ((at + 1) + length left)) whole further)

module _ (rows : List Row) (target : ℕ → ℕ) (n : ℕ) (sound : (p m : ℕ) → slice_get (primaries rows) p ≡ Some (Some m) → m < n) (loads : List ℕ) (count : length loads ≡ n)
    (are : (m : ℕ) → slice_index loads m ≡ load_of (primaries rows) m) (same : total (slice_index loads) n ≡ total target n) where
  pub walked_all : Walked rows target n (excess_of (slice_index loads) target n) (steps_from target n (primaries rows) 0 rows) (length rows)
  walked_all =
      let none : 0 + length rows ≡ length rows = omega arith in
      subst (Walked rows target n (excess_of (slice_index loads) target n) (steps_from target n (primaries rows) 0 rows)) none (walked rows target n (excess_of (slice_index loads) target n) sound rows 0 refl loads [] (started rows target n loads count are same))

  pub steps_follow : FollowsRule rows target n (steps_from target n (primaries rows) 0 rows)
  steps_follow = follows rows target n (excess_of (slice_index loads) target n) walked_all.loads (steps_from target n (primaries rows) 0 rows) (length rows) (omega arith) walked_all.progress

  pub same_steps : (steps : List Step) → FollowsRule rows target n steps → steps ≡ steps_from target n (primaries rows) 0 rows
  same_steps steps rule = rule_is_exact rows target n steps (steps_from target n (primaries rows) 0 rows) rule steps_follow

-- the plan

-- a list that has what a function gives of each number below its length
pub listed : (xs : List ℕ) (f : ℕ → ℕ) (n : ℕ) → length xs ≡ n → ((m : ℕ) → m < n → slice_index xs m ≡ f m) → xs ≡ map f (range_with_len 0 n)
listed xs f n size each =
    let same : length xs ≡ length (map f (range_with_len 0 n)) = size ∙ sym (length-map-range_with_len f 0 n) in
    same_number_lists xs (map f (range_with_len 0 n)) same (λ k l. let within : k < n = (omega (arith, l, size)) in each k within ∙ sym (get_or-map-range_with_len f 0 n k k 0 within (omega arith)))

module _ (rows : List Row) (moving : List Bool) (detected : List ℕ) (n : ℕ) where
  abbrev plan_if : Bool → Planned
  plan_if none = cond none NoMember (elim (first_unsettled rows moving) [ None ↦ Balanced (balanced rows (targets_of detected n (primaries rows)) n) | Some partition ↦ Unsettled partition ])

  pub plan_none : undetected_count detected n ≡ 0 → plan_of rows moving detected n ≡ NoMember
  plan_none none = let test : (undetected_count detected n == 0) ≡ true = (grind (arith, nat_tests, none)) in ap plan_if test

  some_test : 0 < undetected_count detected n → (undetected_count detected n == 0) ≡ false
  some_test some = grind (arith, nat_tests, some)

  abbrev plan_on : Option ℕ → Planned
  plan_on found = elim found [ None ↦ Balanced (balanced rows (targets_of detected n (primaries rows)) n) | Some partition ↦ Unsettled partition ]

  pub plan_unsettled : (p : ℕ) → 0 < undetected_count detected n → first_unsettled rows moving ≡ Some p → plan_of rows moving detected n ≡ Unsettled p
  plan_unsettled p some first = ap plan_if (some_test some) ∙ ap plan_on first

  pub plan_made : (plan : Plan) → 0 < undetected_count detected n → first_unsettled rows moving ≡ None → plan ≡ balanced rows (targets_of detected n (primaries rows)) n → plan_of rows moving detected n ≡ Balanced plan
  plan_made plan some settled is = ap plan_if (some_test some) ∙ ap plan_on settled ∙ ap Balanced (sym is)
