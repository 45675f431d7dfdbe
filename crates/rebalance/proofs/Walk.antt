-- The walk over the partitions that makes the steps.
use Rattle.std.proofs.Common.{◌≡◌, ℕ, zero, suc, ◌+◌, ◌-◌, ◌<◌, ◌≤◌, List, [], ◌∷◌, ◌++◌, Option, Some, None, take, drop, length, get_or, set, slice_get, slice_index, refl, ap, sym, ◌∙◌, subst, ◌⊎◌, inl, inr, ⊎_elim, arith, eq-eqb, ne_eqb}
use Rattle.std.proofs.lemmas.Bool.{cases_eq, cases_lt}
use Rattle.std.proofs.lemmas.List.{drop_more, drop_all, length-set, length-map, get_or-set_same, get_or-set_other, get_or_read, take-append-le, take_all, length_push}
use Rattle.std.proofs.lemmas.List.Sums.{sum_by-set, fold_push}
use Rattle.std.proofs.lemmas.Option.{get_or_from_slice_get, slice_get_within, none-some, same_Some}
use Rattle.partition_table.specs.declared.row.Row.{Row}
use Rattle.rebalance.specs.declared.steps.Step.{Step}
use Rattle.rebalance.specs.Rows.{primaries, primary_of}
use Rattle.rebalance.specs.Members.{total, load_of}
use Rattle.rebalance.specs.Targets.{excess_of}
use Rattle.rebalance.specs.Steps.{moved, after, next_of, NoneAbove, TakesFrom, IsStep, FollowsRule}
use Rattle.rebalance.proofs.Totals.{total_lt, total_ext, total_add, total_none, one_within}
use Rattle.rebalance.proofs.Choosing.{one_for, load_of-cons, changes_none, changes_set}
use Rattle.rebalance.specs.Choices.{changes}
use Rattle.rebalance.proofs.RowFacts.{primary_get}

-- how far the walk has come: before the partition `at`, with these loads and steps
pub record Progress (rows : List Row) (target : ℕ → ℕ) (n excess : ℕ) (loads : List ℕ) (steps : List Step) (at : ℕ) : Type 0 where
  pub count : length loads ≡ n
  pub loads_are : (m : ℕ) → slice_index loads m ≡ load_of (after steps (primaries rows)) m
  pub same_length : length (after steps (primaries rows)) ≡ length rows
  pub rest_kept : (p : ℕ) → at ≤ p → slice_get (after steps (primaries rows)) p ≡ slice_get (primaries rows) p
  pub sums : total (slice_index loads) n ≡ total target n
  pub taken : length steps + excess_of (slice_index loads) target n ≡ excess
  pub changed : changes (primaries rows) (after steps (primaries rows)) ≡ length steps
  pub over : (m : ℕ) → (slice_index loads m ≤ target m) ⊎ (slice_index loads m ≤ load_of (drop at (primaries rows)) m)
  pub next : next_of steps ≤ at
  pub none_above : NoneAbove (primaries rows) (slice_index loads) target (next_of steps) at
  pub each : (k : ℕ) (step : Step) → slice_get steps k ≡ Some step → IsStep rows (load_of (after (take k steps) (primaries rows))) target n (next_of (take k steps)) step

pub started : (rows : List Row) (target : ℕ → ℕ) (n : ℕ) (loads : List ℕ) → length loads ≡ n → ((m : ℕ) → slice_index loads m ≡ load_of (primaries rows) m) → total (slice_index loads) n ≡ total target n → Progress rows target n (excess_of (slice_index loads) target n) loads [] 0
started rows target n loads c h s = record {
  count = c;
  loads_are = h;
  same_length = length-map rows primary_of;
  rest_kept = λ p l. refl;
  sums = s;
  taken = omega arith;
  changed = changes_none (primaries rows);
  over = λ m. inr (omega (arith, h m));
  next = omega arith;
  none_above = λ p m l k e. absurd (omega arith);
  each = λ k step e. absurd (none-some step e);
}

-- the load of the partitions that are left, one partition on
load_of-drop_more : (ps : List (Option ℕ)) (i : ℕ) (c : Option ℕ) (m : ℕ) → slice_get ps i ≡ Some c → load_of (drop i ps) m ≡ one_for m c + load_of (drop (i + 1) ps) m
load_of-drop_more ps i c m e =
    let l : i < length ps = slice_get_within ps i c e in
    let f : drop i ps ≡ c ∷ drop (i + 1) ps = drop_more ps i c l ∙ ap (λ x. x ∷ drop (i + 1) ps) (get_or_from_slice_get ps i c c e) in
    ap (λ xs. load_of xs m) f ∙ load_of-cons c (drop (i + 1) ps) m

one_same : (k m : ℕ) → k ≡ m → one_for m (Some k) ≡ 1
one_same k m e = rw (eq-eqb k m e) refl

one_other : (k m : ℕ) → (k ≡ m → ⊥) → one_for m (Some k) ≡ 0
one_other k m e = rw (ne_eqb k m e) refl

over_step : (c : Option ℕ) (m x t a : ℕ) → (c ≡ Some m → x ≤ t) → x ≤ one_for m c + a → (x ≤ t) ⊎ (x ≤ a)
over_step None m x t a h l = inr (omega arith)
over_step (Some k) m x t a h l =
    ⊎_elim
    (λ (e : k ≡ m). inl (h (ap Some e)))
    (λ (e : k ≡ m → ⊥). let none : one_for m (Some k) ≡ 0 = one_other k m e in inr (omega arith))
    (cases_eq k m)

slice_get-set_other : {X : Type 0} (xs : List X) (i q : ℕ) (v : X) → (q ≡ i → ⊥) → slice_get (set xs i v) q ≡ slice_get xs q
slice_get-set_other [] i q v ne = refl
slice_get-set_other (x ∷ xs) zero zero v ne = absurd (ne refl)
slice_get-set_other (x ∷ xs) zero (suc q) v ne = refl
slice_get-set_other (x ∷ xs) (suc i) zero v ne = refl
slice_get-set_other (x ∷ xs) (suc i) (suc q) v ne = slice_get-set_other xs i q v (λ e. ne (ap suc e))

slice_get-append_left : {X : Type 0} (xs ys : List X) (k : ℕ) → k < length xs → slice_get (xs ++ ys) k ≡ slice_get xs k
slice_get-append_left [] ys k l = absurd (omega arith)
slice_get-append_left (x ∷ xs) ys zero l = refl
slice_get-append_left (x ∷ xs) ys (suc k) l = slice_get-append_left xs ys k (omega arith)

slice_get-push : {X : Type 0} (xs : List X) (x : X) → slice_get (xs ++ x ∷ []) (length xs) ≡ Some x
slice_get-push [] x = refl
slice_get-push (y ∷ xs) x = slice_get-push xs x

module _ (rows : List Row) (target : ℕ → ℕ) (n excess : ℕ) (loads : List ℕ) (steps : List Step) (at : ℕ) (row : Row) (at_row : slice_get rows at ≡ Some row) (p : Progress rows target n excess loads steps at) where
  abbrev ps : List (Option ℕ)
  ps = primaries rows

  abbrev now : List (Option ℕ)
  now = after steps (primaries rows)

  here : slice_get (primaries rows) at ≡ Some (primary_of row)
  here = primary_get rows at row at_row

  rest_one : (m : ℕ) → load_of (drop at (primaries rows)) m ≡ one_for m (primary_of row) + load_of (drop (at + 1) (primaries rows)) m
  rest_one m = load_of-drop_more (primaries rows) at (primary_of row) m here

  -- a partition whose primary isn't above its target stays
  pub kept : ((m : ℕ) → primary_of row ≡ Some m → slice_index loads m ≤ target m) → Progress rows target n excess loads steps (at + 1)
  kept h = record {
    count = p.count;
    loads_are = p.loads_are;
    same_length = p.same_length;
    rest_kept = λ q l. p.rest_kept q (omega arith);
    sums = p.sums;
    taken = p.taken;
    changed = p.changed;
    over = λ m. ⊎_elim (λ (l : slice_index loads m ≤ target m). inl l) (λ (l : slice_index loads m ≤ load_of (drop at (primaries rows)) m). over_step (primary_of row) m (slice_index loads m) (target m) (load_of (drop (at + 1) (primaries rows)) m) (h m) (omega (arith, rest_one m))) (p.over m);
    next = omega (arith, p.next);
    none_above = λ q m f l e.
        ⊎_elim
        (λ (s : q ≡ at). h m (same_Some (primary_of row) (Some m) (sym here ∙ subst (λ k. slice_get (primaries rows) k ≡ Some (Some m)) s e)))
        (λ (s : q ≡ at → ⊥). p.none_above q m f (omega (arith, s)) e)
        (cases_eq q at);
    each = p.each;
  }

  -- a partition whose primary is above its target goes
  module _ (step : Step) (spot : step.partition ≡ at) (takes : TakesFrom row (slice_index loads) target n step) (in_range : step.from < n) where
    abbrev taken_from : List ℕ
    taken_from = set loads step.from (slice_index loads step.from - 1)

    abbrev pub new_loads : List ℕ
    new_loads = set taken_from step.to (slice_index taken_from step.to + 1)

    differ : step.to ≡ step.from → ⊥
    differ e =
        let a : target step.from < slice_index loads step.from = takes.above in
        let b : slice_index loads step.to < target step.to = takes.lowest.below in
        let c : slice_index loads step.from < target step.from = subst (λ k. slice_index loads k < target k) e b in
        omega arith

    from_inside : step.from < length loads
    from_inside = omega (arith, p.count, in_range)

    to_inside : step.to < length taken_from
    to_inside = omega (arith, p.count, takes.lowest.in_range, length-set loads step.from (slice_index loads step.from - 1))

    at_from : slice_index new_loads step.from ≡ slice_index loads step.from - 1
    at_from = get_or-set_other taken_from step.to step.from (slice_index taken_from step.to + 1) 0 (λ e. differ (sym e)) ∙ get_or-set_same loads step.from (slice_index loads step.from - 1) 0 from_inside

    at_to : slice_index new_loads step.to ≡ slice_index loads step.to + 1
    at_to = get_or-set_same taken_from step.to (slice_index taken_from step.to + 1) 0 to_inside ∙ ap (λ x. x + 1) (get_or-set_other loads step.from step.to (slice_index loads step.from - 1) 0 differ)

    at_other : (m : ℕ) → (m ≡ step.from → ⊥) → (m ≡ step.to → ⊥) → slice_index new_loads m ≡ slice_index loads m
    at_other m f t = get_or-set_other taken_from step.to m (slice_index taken_from step.to + 1) 0 t ∙ get_or-set_other loads step.from m (slice_index loads step.from - 1) 0 f

    record AtFrom (m : ℕ) : Type 0 where
      is_less : slice_index new_loads m + 1 ≡ slice_index loads m
      over_target : target m < slice_index loads m
      one_from : one_for m (Some step.from) ≡ 1
      none_to : one_for m (Some step.to) ≡ 0

    record AtTo (m : ℕ) : Type 0 where
      is_more : slice_index new_loads m ≡ slice_index loads m + 1
      under_target : slice_index loads m < target m
      none_from : one_for m (Some step.from) ≡ 0
      one_to : one_for m (Some step.to) ≡ 1

    record AtOther (m : ℕ) : Type 0 where
      is_same : slice_index new_loads m ≡ slice_index loads m
      none_from : one_for m (Some step.from) ≡ 0
      none_to : one_for m (Some step.to) ≡ 0

    spots : (m : ℕ) → AtFrom m ⊎ (AtTo m ⊎ AtOther m)
    spots m =
        ⊎_elim
        (λ (e : step.from ≡ m).
        let a : target step.from < slice_index loads step.from = takes.above in
        inl (subst (λ k. AtFrom k) e (record { is_less = omega (arith, at_from); over_target = a; one_from = one_same step.from step.from refl; none_to = one_other step.to step.from differ })))
        (λ (e : step.from ≡ m → ⊥).
        inr (⊎_elim
        (λ (f : step.to ≡ m). inl (subst (λ k. AtTo k) f (record { is_more = at_to; under_target = takes.lowest.below; none_from = one_other step.from step.to (λ g. differ (sym g)); one_to = one_same step.to step.to refl })))
        (λ (f : step.to ≡ m → ⊥). inr (record { is_same = at_other m (λ g. e (sym g)) (λ g. f (sym g)); none_from = one_other step.from m e; none_to = one_other step.to m f }))
        (cases_eq step.to m)))
        (cases_eq step.from m)

    exchanged : (m : ℕ) → slice_index new_loads m + one_for m (Some step.from) ≡ slice_index loads m + one_for m (Some step.to)
    exchanged m = ⊎_elim (λ (a : AtFrom m). omega (arith, a.is_less, a.one_from, a.none_to)) (λ h. ⊎_elim (λ (a : AtTo m). omega (arith, a.is_more, a.none_from, a.one_to)) (λ (a : AtOther m). omega (arith, a.is_same, a.none_from, a.none_to)) h) (spots m)

    one_less : (m : ℕ) → (slice_index new_loads m - target m) + one_for m (Some step.from) ≡ slice_index loads m - target m
    one_less m = ⊎_elim (λ (a : AtFrom m). omega (arith, a.is_less, a.over_target, a.one_from)) (λ h. ⊎_elim (λ (a : AtTo m). omega (arith, a.is_more, a.under_target, a.none_from)) (λ (a : AtOther m). omega (arith, a.is_same, a.none_from)) h) (spots m)

    new_sums : total (slice_index new_loads) n ≡ total (slice_index loads) n
    new_sums =
        let e : total (λ m. slice_index new_loads m + one_for m (Some step.from)) n ≡ total (λ m. slice_index loads m + one_for m (Some step.to)) n = total_ext (λ m. slice_index new_loads m + one_for m (Some step.from)) (λ m. slice_index loads m + one_for m (Some step.to)) n (λ m l. exchanged m) in
        omega (arith, e, total_add (slice_index new_loads) (λ m. one_for m (Some step.from)) n, total_add (slice_index loads) (λ m. one_for m (Some step.to)) n, one_within step.from n in_range, one_within step.to n takes.lowest.in_range)

    new_excess : excess_of (slice_index new_loads) target n + 1 ≡ excess_of (slice_index loads) target n
    new_excess =
        let e : total (λ m. (slice_index new_loads m - target m) + one_for m (Some step.from)) n ≡ excess_of (slice_index loads) target n = total_ext (λ m. (slice_index new_loads m - target m) + one_for m (Some step.from)) (λ m. slice_index loads m - target m) n (λ m l. one_less m) in
        omega (arith, e, total_add (λ m. slice_index new_loads m - target m) (λ m. one_for m (Some step.from)) n, one_within step.from n in_range)

    abbrev new_steps : List Step
    new_steps = steps ++ step ∷ []

    new_after : after new_steps (primaries rows) ≡ set now at (Some step.to)
    new_after = fold_push moved (primaries rows) steps step ∙ ap (λ k. set now k (Some step.to)) spot

    from_here : slice_get now at ≡ Some (Some step.from)
    from_here = p.rest_kept at (omega arith) ∙ here ∙ ap Some takes.is_primary

    new_load : (m : ℕ) → load_of (set now at (Some step.to)) m + one_for m (Some step.from) ≡ load_of now m + one_for m (Some step.to)
    new_load m =
        let l : at < length now = slice_get_within now at (Some step.from) from_here in
        let was : one_for m (get_or now at None) ≡ one_for m (Some step.from) = ap (one_for m) (get_or_from_slice_get now at (Some step.from) None from_here) in
        omega (arith, sum_by-set (one_for m) now at (Some step.to) None l, was)

    loads_fun : slice_index loads ≡ load_of now
    loads_fun = λ i m. p.loads_are m i

    this_step : IsStep rows (load_of now) target n (next_of steps) step
    this_step = subst (λ (f : ℕ → ℕ). IsStep rows f target n (next_of steps) step) loads_fun (record {
      rises = omega (arith, p.next, spot);
      none_between = subst (λ k. NoneAbove (primaries rows) (slice_index loads) target (next_of steps) k) (sym spot) p.none_above;
      row = row;
      at = ap (slice_get rows) spot ∙ at_row;
      takes = takes;
    })

    new_each : (k : ℕ) (s : Step) → slice_get new_steps k ≡ Some s → IsStep rows (load_of (after (take k new_steps) (primaries rows))) target n (next_of (take k new_steps)) s
    new_each k s e =
        ⊎_elim
        (λ (l : k < length steps).
        subst (λ (xs : List Step). IsStep rows (load_of (after xs (primaries rows))) target n (next_of xs) s) (sym (take-append-le k steps (step ∷ []) (omega arith))) (p.each k s (sym (slice_get-append_left steps (step ∷ []) k l) ∙ e)))
        (λ (l : length steps ≤ k).
        let within : k < length new_steps = slice_get_within new_steps k s e in
        let last : k ≡ length steps = omega (arith, length_push steps step, within) in
        let front : take k new_steps ≡ steps = take-append-le k steps (step ∷ []) (omega arith) ∙ take_all k steps l in
        let is : step ≡ s = same_Some step s (sym (slice_get-push steps step) ∙ ap (slice_get new_steps) (sym last) ∙ e) in
        subst (λ (xs : List Step). IsStep rows (load_of (after xs (primaries rows))) target n (next_of xs) s) (sym front)
        (subst (λ (x : Step). IsStep rows (load_of now) target n (next_of steps) x) is this_step))
        (cases_lt k (length steps))

    new_next : next_of new_steps ≡ at + 1
    new_next = fold_push (λ (next : ℕ) (s : Step). s.partition + 1) 0 steps step ∙ ap (λ x. x + 1) spot

    new_over : (m : ℕ) → (slice_index new_loads m ≤ target m) ⊎ (slice_index new_loads m ≤ load_of (drop (at + 1) (primaries rows)) m)
    new_over m =
        let one : one_for m (primary_of row) ≡ one_for m (Some step.from) = ap (one_for m) takes.is_primary in
        ⊎_elim
        (λ (a : AtFrom m). ⊎_elim (λ (l : slice_index loads m ≤ target m). absurd (omega (arith, a.over_target))) (λ (l : slice_index loads m ≤ load_of (drop at (primaries rows)) m). inr (omega (arith, a.is_less, a.one_from, one, rest_one m))) (p.over m))
        (λ h. ⊎_elim
        (λ (a : AtTo m). inl (omega (arith, a.is_more, a.under_target)))
        (λ (a : AtOther m). ⊎_elim (λ (l : slice_index loads m ≤ target m). inl (omega (arith, a.is_same))) (λ (l : slice_index loads m ≤ load_of (drop at (primaries rows)) m). inr (omega (arith, a.is_same, a.none_from, one, rest_one m))) (p.over m))
        h)
        (spots m)

    pub gone : Progress rows target n excess new_loads new_steps (at + 1)
    gone = record {
      count = length-set taken_from step.to (slice_index taken_from step.to + 1) ∙ length-set loads step.from (slice_index loads step.from - 1) ∙ p.count;
      loads_are = λ m. let e : load_of (after new_steps (primaries rows)) m ≡ load_of (set now at (Some step.to)) m = ap (λ xs. load_of xs m) new_after in omega (arith, e, new_load m, exchanged m, p.loads_are m);
      same_length = ap length new_after ∙ length-set now at (Some step.to) ∙ p.same_length;
      rest_kept = λ q l. ap (λ xs. slice_get xs q) new_after ∙ slice_get-set_other now at q (Some step.to) (λ e. omega arith) ∙ p.rest_kept q (omega arith);
      sums = new_sums ∙ p.sums;
      taken = omega (arith, length_push steps step, new_excess, p.taken);
      changed = ap (changes (primaries rows)) new_after ∙ changes_set (primaries rows) now at step.from step.to (here ∙ ap Some takes.is_primary) from_here (λ e. differ (sym e)) ∙ ap (λ x. x + 1) p.changed ∙ sym (length_push steps step);
      over = new_over;
      next = omega (arith, new_next);
      none_above = λ q m f l e. absurd (omega (arith, new_next));
      each = new_each;
    }

-- the end of the walk
module _ (rows : List Row) (target : ℕ → ℕ) (n excess : ℕ) (loads : List ℕ) (steps : List Step) (at : ℕ) (past : length rows ≤ at) (p : Progress rows target n excess loads steps at) where
  all_low : (m : ℕ) → slice_index loads m ≤ target m
  all_low m =
      let none : drop at (primaries rows) ≡ [] = drop_all at (primaries rows) (omega (arith, length-map rows primary_of)) in
      let zero_load : load_of (drop at (primaries rows)) m ≡ 0 = ap (λ xs. load_of xs m) none in
      ⊎_elim (λ (l : slice_index loads m ≤ target m). l) (λ (l : slice_index loads m ≤ load_of (drop at (primaries rows)) m). omega arith) (p.over m)

  pub reached : (m : ℕ) → m < n → load_of (after steps (primaries rows)) m ≡ target m
  reached m l =
      ⊎_elim
      (λ (short : slice_index loads m < target m). absurd (omega (arith, total_lt (slice_index loads) target n m (λ k j. all_low k) l short, p.sums)))
      (λ (full : target m ≤ slice_index loads m). omega (arith, all_low m, p.loads_are m))
      (cases_lt (slice_index loads m) (target m))

  pub counted : length steps ≡ excess
  counted = omega (arith, p.taken, total_none (λ m. slice_index loads m - target m) n (λ m l. omega (arith, all_low m)))

  pub follows : FollowsRule rows target n steps
  follows = record { each = p.each; ends = λ q m f l e. omega (arith, all_low m, p.loads_are m) }

-- the loads as the code writes them
pub written : (loads : List ℕ) (a b j x k y : ℕ) → j ≡ a → k ≡ b → a < length loads → b < length loads → x ≡ get_or loads j x → y ≡ get_or (set loads j (x - 1)) k y → set (set loads j (x - 1)) k (y + 1) ≡ set (set loads a (slice_index loads a - 1)) b (slice_index (set loads a (slice_index loads a - 1)) b + 1)
written loads a b j x k y ja kb la lb rx ry =
    let jl : j < length loads = omega arith in
    let kl : k < length (set loads j (x - 1)) = omega (arith, length-set loads j (x - 1)) in
    let xe : x ≡ slice_index loads a = get_or_read loads j x jl rx 0 ∙ ap (slice_index loads) ja in
    let first : set loads j (x - 1) ≡ set loads a (slice_index loads a - 1) = ap (λ i. set loads i (x - 1)) ja ∙ ap (λ v. set loads a (v - 1)) xe in
    let ye : y ≡ slice_index (set loads a (slice_index loads a - 1)) b = get_or_read (set loads j (x - 1)) k y kl ry 0 ∙ ap (λ xs. slice_index xs k) first ∙ ap (slice_index (set loads a (slice_index loads a - 1))) kb in
    ap (λ xs. set xs k (y + 1)) first ∙ ap (λ i. set (set loads a (slice_index loads a - 1)) i (y + 1)) kb ∙ ap (λ v. set (set loads a (slice_index loads a - 1)) b (v + 1)) ye
