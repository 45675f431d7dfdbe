-- What the plan owes, from the targets and the steps.
use Rattle.std.proofs.Common.{◌≡◌, ℕ, suc, ◌-◌, ◌<◌, ◌≤◌, Bool, List, [], ◌∷◌, Option, Some, None, length, take, set, slice_get, slice_index, refl, ap, sym, ◌∙◌, subst, arith, le_trans}
use Rattle.std.proofs.lemmas.List.{length-map}
use Rattle.std.proofs.lemmas.Bool.{true_from_ne_false}
use Rattle.rebalance.specs.declared.steps.Step.{Step}
use Rattle.rebalance.specs.Steps.{after, next_of, IsLowestBelow, IsStep, FollowsRule}
use Rattle.rebalance.proofs.RowFacts.{primary_get}
use Rattle.partition_table.specs.declared.row.Row.{Row}
use Rattle.rebalance.specs.Rows.{primaries, primary_of}
use Rattle.rebalance.specs.Members.{total, how_many, is_undetected, undetected_count, IsUndetected, AreUndetected, load_of}
use Rattle.rebalance.specs.Choices.{IsChoice, ChangesAtLeast}
use Rattle.rebalance.specs.Targets.{target_of, excess_of}
use Rattle.rebalance.proofs.Totals.{total_ext, total_none, one_at_most}
use Rattle.rebalance.proofs.Least.{total-target_of, target-off, least_excess}
use Rattle.rebalance.proofs.Choosing.{own_choice, choice_set, load_of-off, total-load_of, total_cons, fall_within}

-- the loads are no more than the partitions
pub loads_within : (ps : List (Option ℕ)) (n : ℕ) → total (load_of ps) n ≤ length ps
loads_within [] n = let z : total (load_of []) n ≡ 0 = total_none (load_of []) n (λ m l. refl) in omega arith
loads_within (None ∷ ps) n =
    let z : total (λ (m : ℕ). 0) n ≡ 0 = total_none (λ (m : ℕ). 0) n (λ m l. refl) in
    omega (arith, total_cons None ps n, z, loads_within ps n)
loads_within (Some p ∷ ps) n = omega (arith, total_cons (Some p) ps n, one_at_most p n, loads_within ps n)

pub same_loads : (loads : List ℕ) (ps : List (Option ℕ)) → ((m : ℕ) → slice_index loads m ≡ load_of ps m) → slice_index loads ≡ load_of ps
same_loads loads ps h = λ i m. h m i

pub loads_fit : (loads : List ℕ) (rows : List Row) (n : ℕ) → ((m : ℕ) → slice_index loads m ≡ load_of (primaries rows) m) → total (slice_index loads) n ≤ length rows
loads_fit loads rows n h =
    let e : total (slice_index loads) n ≡ total (load_of (primaries rows)) n = total_ext (slice_index loads) (load_of (primaries rows)) n (λ m l. h m) in
    omega (arith, e, loads_within (primaries rows) n, length-map rows primary_of)

-- the sum of the targets is that of the loads
pub sums_same : (undetected : ℕ → Bool) (n : ℕ) (loads targets : List ℕ) → 0 < how_many undetected n → ((m : ℕ) → m < n → slice_index targets m ≡ target_of undetected (slice_index loads) n m) → total (slice_index loads) n ≡ total (slice_index targets) n
sums_same undetected n loads targets some h = sym (total_ext (slice_index targets) (target_of undetected (slice_index loads) n) n h ∙ total-target_of undetected (slice_index loads) n some)

pub targets_by_rows : (undetected : ℕ → Bool) (n : ℕ) (loads targets : List ℕ) (ps : List (Option ℕ)) → ((m : ℕ) → slice_index loads m ≡ load_of ps m) → ((m : ℕ) → m < n → slice_index targets m ≡ target_of undetected (slice_index loads) n m) → (m : ℕ) → m < n → slice_index targets m ≡ target_of undetected (load_of ps) n m
targets_by_rows undetected n loads targets ps h t m l = t m l ∙ ap (λ (f : ℕ → ℕ). target_of undetected f n m) (same_loads loads ps h)

pub excess_by_rows : (undetected : ℕ → Bool) (n : ℕ) (loads targets : List ℕ) (ps : List (Option ℕ)) → ((m : ℕ) → slice_index loads m ≡ load_of ps m) → ((m : ℕ) → m < n → slice_index targets m ≡ target_of undetected (slice_index loads) n m) → excess_of (slice_index loads) (slice_index targets) n ≡ excess_of (load_of ps) (target_of undetected (load_of ps) n) n
excess_by_rows undetected n loads targets ps h t = total_ext (λ m. slice_index loads m - slice_index targets m) (λ m. load_of ps m - target_of undetected (load_of ps) n m) n (λ m l. omega (arith, h m, targets_by_rows undetected n loads targets ps h t m l))

-- no choice that balances changes fewer partitions than the excess
pub fewest : (detected : List ℕ) (n : ℕ) (ps : List (Option ℕ)) → AreUndetected detected n ps → 0 < undetected_count detected n → ChangesAtLeast detected n ps (excess_of (load_of ps) (target_of (is_undetected detected) (load_of ps) n) n)
fewest detected n ps sound some choice is_choice balanced =
    let least : total (λ m. load_of ps m - target_of (is_undetected detected) (load_of ps) n m) n ≤ total (λ m. load_of ps m - load_of choice m) n =
    least_excess (is_undetected detected) (load_of ps) n some (load_of choice)
    (total-load_of detected n ps choice sound is_choice)
    (λ m l off. load_of-off detected n ps choice is_choice m off)
    (λ a b la lb on_a on_b. balanced a b (record { in_range = la; not_detected = on_a }) (record { in_range = lb; not_detected = on_b }))
    (λ m l off. load_of-off detected n ps ps (own_choice detected n ps sound) m off) in
    le_trans least (fall_within detected n ps choice is_choice)

-- the same targets, where the loads are read through a reference
pub targets_read : (undetected : ℕ → Bool) (n : ℕ) (loads now targets : List ℕ) → now ≡ loads → ((m : ℕ) → m < n → slice_index targets m ≡ target_of undetected (slice_index now) n m) → (m : ℕ) → m < n → slice_index targets m ≡ target_of undetected (slice_index loads) n m
targets_read undetected n loads now targets e h m l = subst (λ (xs : List ℕ). slice_index targets m ≡ target_of undetected (slice_index xs) n m) e (h m l)

pub read_excess : (a loads b targets : List ℕ) (n : ℕ) → a ≡ loads → b ≡ targets → length loads ≡ n → excess_of (slice_index a) (slice_index b) (length a) ≡ excess_of (slice_index loads) (slice_index targets) n
read_excess a loads b targets n e f l = ap (λ (xs : List ℕ). excess_of (slice_index xs) (slice_index b) (length xs)) e ∙ ap (λ (xs : List ℕ). excess_of (slice_index loads) (slice_index xs) (length loads)) f ∙ ap (excess_of (slice_index loads) (slice_index targets)) l

-- steps that take partitions with primaries to undetected members make a choice
pub choice_after : (detected : List ℕ) (n : ℕ) (ps : List (Option ℕ)) (steps : List Step) (cs : List (Option ℕ)) → IsChoice detected n ps cs → ((k : ℕ) (s : Step) → slice_get steps k ≡ Some s → (slice_get ps s.partition ≡ Some (Some s.from)) × IsUndetected detected n s.to) → IsChoice detected n ps (after steps cs)
choice_after detected n ps [] cs h f = h
choice_after detected n ps (s ∷ steps) cs h f =
    let g : (slice_get ps s.partition ≡ Some (Some s.from)) × IsUndetected detected n s.to = f 0 s refl in
    choice_after detected n ps steps (set cs s.partition (Some s.to)) (choice_set detected n ps cs s.partition s.from s.to h g.0 g.1) (λ k t e. f (suc k) t e)

-- a member below its target isn't detected
to_undetected : (detected : List ℕ) (n : ℕ) (load target : ℕ → ℕ) (some : 0 < undetected_count detected n) (loads : ℕ → ℕ) → ((m : ℕ) → m < n → target m ≡ target_of (is_undetected detected) loads n m) → (m : ℕ) → m < n → load m < target m → IsUndetected detected n m
to_undetected detected n load target some loads h m l b =
    record {
      in_range = l;
      not_detected = true_from_ne_false (is_undetected detected m) (λ off. absurd (omega (arith, h m l, target-off (is_undetected detected) loads n some m off, b)));
    }

pub choice_by_rule : (detected : List ℕ) (n : ℕ) (rows : List Row) (target : ℕ → ℕ) (steps : List Step) → AreUndetected detected n (primaries rows) → 0 < undetected_count detected n → ((m : ℕ) → m < n → target m ≡ target_of (is_undetected detected) (load_of (primaries rows)) n m) → FollowsRule rows target n steps → IsChoice detected n (primaries rows) (after steps (primaries rows))
choice_by_rule detected n rows target steps sound some h rule =
    choice_after detected n (primaries rows) steps (primaries rows) (own_choice detected n (primaries rows) sound)
    (λ k s e.
    let step : IsStep rows (load_of (after (take k steps) (primaries rows))) target n (next_of (take k steps)) s = rule.each k s e in
    let low : IsLowestBelow (load_of (after (take k steps) (primaries rows))) target n s.to = step.takes.lowest in (
      primary_get rows s.partition step.row step.at ∙ ap Some step.takes.is_primary,
      to_undetected detected n (load_of (after (take k steps) (primaries rows))) target some (load_of (primaries rows)) h s.to low.in_range low.below,
    ))
