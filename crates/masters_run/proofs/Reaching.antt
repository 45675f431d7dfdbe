-- The first link to a member that has a message: from the first end that has one in flight to a member, to the first such member.
use Rattle.std.proofs.Common.{◌≡◌, ℕ, zero, suc, ◌+◌, ◌-◌, ◌<◌, Bool, true, false, not, ◌&&◌, ◌==◌, cond, List, [], ◌∷◌, ◌++◌, map, length, Some, None, option_map, ◌⊎◌, inl, inr, ⊎_elim, refl, ap, sym, ◌∙◌, subst, append-nil, arith}
use Rattle.std.specs.List.{find, flat_map}
use Rattle.std.specs.Option.{option_or}
use Rattle.std.proofs.lemmas.Bool.{eq-eqb}
use Rattle.std.proofs.lemmas.Bool.Decides.{nat_tests}
use Rattle.std.proofs.lemmas.Grind.{flat_map-append}
use Rattle.std.proofs.lemmas.List.{length-map}
use Rattle.std.proofs.lemmas.List.Folds.{find-append}
use Rattle.grid_base.specs.declared.calls.Request.{Request}
use Rattle.call_engine.specs.Calls.{Settings}
use Rattle.call_engine.specs.Objects.{partition_object}
use Rattle.partition_protocol.specs.Links.{link}
use Rattle.partition_protocol.specs.Service.{numbers_below}
use Rattle.partition_protocol.specs.World.{World}
use Rattle.partition_world.specs.declared.Link.{Link}
use Rattle.partition_world.specs.LinkOrder.{links_from, is_busy}
use Rattle.partition_world.specs.Sending.{flying}
use Rattle.partition_world.specs.Worlds.{run_of}
use Rattle.replay_run.specs.Grids.{GridWorld, IsWorld}
use Rattle.replay_run.specs.Runs.{Run, events_at, world_at}
use Rattle.replay_run.specs.Shelves.{grid_meaning}
use Rattle.replay_run.proofs.TableChanges.{or_none}
use Rattle.replay_run.proofs.WorldRuns.{run_is}
use Rattle.masters_run.specs.Runs.{is_to_member, is_reached, member_reached, link_to_member}

below_or_at : (n k : ℕ) → k < n + 1 → (k < n) ⊎ (k ≡ n)
below_or_at zero zero low = inr refl
below_or_at zero (suc k) low = absurd (omega (arith, low))
below_or_at (suc n) zero low = inl (omega arith)
below_or_at (suc n) (suc k) low = ⊎_elim (λ l. inl (omega (arith, l))) (λ e. inr (ap (λ i. suc i) e)) (below_or_at n k (omega (arith, low)))

-- what holds below a number and at it
pub one_more : (P : ℕ → Type 0) (n : ℕ) → ((k : ℕ) → k < n → P k) → P n → (k : ℕ) → k < n + 1 → P k
one_more P n h here k low = ⊎_elim (λ l. h k l) (λ e. subst P (sym e) here) (below_or_at n k low)

-- the first of the numbers below one that passes a test

module _ (p : ℕ → Bool) where
  find_more : (n : ℕ) → find p (numbers_below (suc n)) ≡ option_or (find p (numbers_below n)) (cond (p n) (Some n) None)
  find_more n = find-append p (numbers_below n) (n ∷ [])

  pub none_below : (n : ℕ) → ((k : ℕ) → k < n → p k ≡ false) → find p (numbers_below n) ≡ None
  none_below zero h = refl
  none_below (suc n) h =
      let first = none_below n (λ k low. h k (omega (arith, low))) in
      let last = ap (λ b. cond b (Some n) None) (h n (omega arith)) in
      find_more n ∙ (λ i. option_or (first i) (last i))

  first_by : (n k more : ℕ) → n ≡ suc k + more → ((j : ℕ) → j < k → p j ≡ false) → p k ≡ true → find p (numbers_below n) ≡ Some k
  first_by zero k more e h is = absurd (omega (arith, e))
  first_by (suc n) k zero e h is =
      let same : n ≡ k = omega (arith, e) in
      let first = none_below n (λ j low. h j (omega (arith, low, same))) in
      let last = ap (λ b. cond b (Some n) None) (ap p same ∙ is) in
      find_more n ∙ (λ i. option_or (first i) (last i)) ∙ ap (λ m. Some m) same
  first_by (suc n) k (suc more) e h is = find_more n ∙ ap (λ o. option_or o (cond (p n) (Some n) None)) (first_by n k more (omega (arith, e)) h is)

  pub first_below : (n k : ℕ) → k < n → ((j : ℕ) → j < k → p j ≡ false) → p k ≡ true → find p (numbers_below n) ≡ Some k
  first_below n k low h is = first_by n k (n - suc k) (omega (arith, low)) h is

alike_below : (p q : ℕ → Bool) (n : ℕ) → ((k : ℕ) → k < n → p k ≡ q k) → find p (numbers_below n) ≡ find q (numbers_below n)
alike_below p q zero h = refl
alike_below p q (suc n) h =
    let first = alike_below p q n (λ k low. h k (omega (arith, low))) in
    let last = h n (omega arith) in
    find_more p n ∙ (λ i. option_or (first i) (cond (last i) (Some n) None)) ∙ sym (find_more q n)

find_mapped : {X Y : Type 0} (p : Y → Bool) (f : X → Y) (xs : List X) → find p (map f xs) ≡ option_map f (find (λ x. p (f x)) xs)
find_mapped {X} {Y} p f [] = refl
find_mapped {X} {Y} p f (x ∷ xs) = go (p (f x)) (find_mapped p f xs)
  where
    go : (b : Bool) → find p (map f xs) ≡ option_map f (find (λ y. p (f y)) xs) → cond b (Some (f x)) (find p (map f xs)) ≡ option_map f (cond b (Some x) (find (λ y. p (f y)) xs))
    go true rest = refl
    go false rest = rest

-- links

module _ {C : Type 0} (w : World C) where
  abbrev to_it : ℕ → ℕ → Link
  to_it from to = record { from = from; to = to }

  abbrev passes : ℕ → ℕ → Bool
  passes from to = is_to_member w (to_it from to)

  other_than : (n k : ℕ) → k < n → (k == n) ≡ false
  other_than n k low = grind (arith, nat_tests)

  here : (from : ℕ) → find (is_to_member w) (links_from w.members from) ≡ option_map (to_it from) (member_reached w from)
  here from =
      let n = w.members in
      let one : n + 1 ≡ suc n = omega arith in
      let last : passes from n ≡ false = ap (λ b. not b && is_busy w (to_it from n)) (eq-eqb n n refl) in
      let first = alike_below (passes from) (is_reached w from) n (λ k low. ap (λ b. not b && is_reached w from k) (other_than n k low)) in
      find_mapped (is_to_member w) (to_it from) (numbers_below (n + 1))
      ∙ ap (λ m. option_map (to_it from) (find (passes from) (numbers_below m))) one
      ∙ ap (option_map (to_it from)) (find_more (passes from) n ∙ (λ i. option_or (first i) (cond (last i) (Some n) None)) ∙ or_none (member_reached w from))

  abbrev links_so_far : ℕ → List Link
  links_so_far n = flat_map (links_from w.members) (numbers_below n)

  more_links : (n : ℕ) → find (is_to_member w) (links_so_far (suc n)) ≡ option_or (find (is_to_member w) (links_so_far n)) (option_map (to_it n) (member_reached w n))
  more_links n =
      ap (find (is_to_member w)) (flat_map-append (links_from w.members) (numbers_below n) (n ∷ []) ∙ ap (λ ls. links_so_far n ++ ls) (append-nil (links_from w.members n)))
      ∙ find-append (is_to_member w) (links_so_far n) (links_from w.members n) ∙ ap (option_or (find (is_to_member w) (links_so_far n))) (here n)

  no_link : (n : ℕ) → ((from : ℕ) → from < n → member_reached w from ≡ None) → find (is_to_member w) (links_so_far n) ≡ None
  no_link zero h = refl
  no_link (suc n) h =
      let first = no_link n (λ k low. h k (omega (arith, low))) in
      let last = h n (omega arith) in
      more_links n ∙ (λ i. option_or (first i) (option_map (to_it n) (last i)))

  first_link : (n from to more : ℕ) → n ≡ suc from + more → ((j : ℕ) → j < from → member_reached w j ≡ None) → member_reached w from ≡ Some to → find (is_to_member w) (links_so_far n) ≡ Some (to_it from to)
  first_link zero from to more e h is = absurd (omega (arith, e))
  first_link (suc n) from to zero e h is =
      let same : n ≡ from = omega (arith, e) in
      let first = no_link n (λ j low. h j (omega (arith, low, same))) in
      let last = ap (member_reached w) same ∙ is in
      more_links n ∙ (λ i. option_or (first i) (option_map (to_it n) (last i))) ∙ ap (λ m. Some (to_it m to)) same
  first_link (suc n) from to (suc more) e h is = more_links n ∙ ap (λ o. option_or o (option_map (to_it n) (member_reached w n))) (first_link n from to more (omega (arith, e)) h is)

  -- No member is reached from any end.
  pub none_reached : ((from : ℕ) → from < w.members + 1 → member_reached w from ≡ None) → link_to_member w ≡ None
  none_reached h = no_link (w.members + 1) h

  -- One is, from the first such end.
  pub first_reached : (from to : ℕ) → from < w.members + 1 → ((j : ℕ) → j < from → member_reached w j ≡ None) → member_reached w from ≡ Some to → link_to_member w ≡ Some (record { from = from; to = to })
  first_reached from to low h is = first_link (w.members + 1) from to (w.members - from) (omega (arith, low)) h is

-- The code asks whether so many bytes are in flight.
pub is_reached_so : (settings : Settings) (world : GridWorld) (r : Run) (p : ℕ) → IsWorld settings world r p → (from to : ℕ) (flight : List (List ℕ)) → flight ≡ flying (grid_meaning settings) (run_of (grid_meaning settings) world (events_at p r.events)) from to
    → (empty : Bool) → empty ≡ (length flight == 0) → is_reached (world_at (partition_object settings) r p) from to ≡ not empty
is_reached_so settings world r p is from to flight told empty so =
    let then = run_of (grid_meaning settings) world (events_at p r.events) in
    let long = ap length told ∙ length-map (link from to then.packets) _ ∙ ap (λ (w : World Request). length (link from to w.packets)) (run_is world r p is) in
    ap (λ n. not (n == 0)) (sym long) ∙ ap not (sym so)
