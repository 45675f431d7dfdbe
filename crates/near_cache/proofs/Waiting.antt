-- The open look-ups, as slots and by number.
use Rattle.std.proofs.Common.{◌≡◌, ◌≢◌, ℕ, zero, suc, ◌+◌, ◌<◌, Bool, true, false, cond, ◌==◌, List, [], ◌∷◌, map, option_map, Option, Some, None, refl, sym, ap, ◌∙◌, arith, slice_index_or, ne_eqb, eq-eqb}
use Rattle.std.specs.Ordering.{nat_cmp, eq_by_cmp}
use Rattle.std.specs.Cmp.{nat_cmp_total}
use Rattle.std.specs.FinMap.{entries, get, insert, remove, find, nat_cmp-IsAntisymmetric, same_map, get-entries, get-insert, get-remove, get-from_entries}
use Rattle.std.proofs.lemmas.Bool.Decides.{nat_tests}
use Rattle.slab.specs.Slab.{Slab, Updates, entries_from}
use Rattle.slab.specs.Slab as slab
use Rattle.near_cache.specs.declared.look_up.LookUp.{LookUp}
use Rattle.near_cache.specs.declared.look_up.Overtaking.{Overtaking}
use Rattle.near_cache.specs.LookUps.{LookUps, overtaking, all_overtaken, look_ups_in}

-- numbers tie where they are equal
pub tie : (q k : ℕ) → eq_by_cmp nat_cmp q k ≡ (q == k)
tie q k = grind (arith, nat_tests)

pub ties : (k : ℕ) → eq_by_cmp nat_cmp k k ≡ true
ties k = tie k k ∙ eq-eqb k k refl

pub tie_not : (q k : ℕ) → q ≢ k → eq_by_cmp nat_cmp q k ≡ false
tie_not q k ne = tie q k ∙ ne_eqb q k ne

-- no slot has a number below the first one's
none_below : (k q : ℕ) (slots : List (Option LookUp)) → q < k → find nat_cmp q (entries_from k slots) ≡ None
none_below k q [] h = refl
none_below k q (None ∷ rest) h = none_below (k + 1) q rest (omega arith)
none_below k q (Some r ∷ rest) h = rw (tie_not q k (omega arith)) (none_below (k + 1) q rest (omega arith))

find_slot : (k q : ℕ) (slots : List (Option LookUp)) → find nat_cmp (k + q) (entries_from k slots) ≡ slice_index_or slots q None
find_slot k q [] = refl
find_slot k zero (None ∷ rest) = none_below (k + 1) (k + zero) rest (omega arith)
find_slot k (suc q) (None ∷ rest) = ap (λ n. find nat_cmp n (entries_from (k + 1) rest)) (omega arith) ∙ find_slot (k + 1) q rest
find_slot k zero (Some r ∷ rest) = let e : k + zero ≡ k = omega arith in rw (e, ties k) refl
find_slot k (suc q) (Some r ∷ rest) =
    rw (tie_not (k + suc q) k (omega arith)) (ap (λ n. find nat_cmp n (entries_from (k + 1) rest)) (omega arith) ∙ find_slot (k + 1) q rest)

-- by number one finds the slot's look-up
pub get_slot : (slots : List (Option LookUp)) (q : ℕ) → get (look_ups_in slots) q ≡ slice_index_or slots q None
get_slot slots q = get-from_entries nat_cmp_total (entries_from 0 slots) q ∙ ap (λ n. find nat_cmp n (entries_from 0 slots)) (omega arith) ∙ find_slot 0 q slots

-- the look-ups that answer alike at each number are the same
same_waiting : (a b : LookUps) → ((q : ℕ) → get a q ≡ get b q) → a ≡ b
same_waiting a b same = same_map nat_cmp_total nat_cmp-IsAntisymmetric a b same

at_equal : (old new : Slab LookUp) (n q : ℕ) (slot : Option LookUp) → Updates old new n slot → (b : Bool) → (q == n) ≡ b
    → get (look_ups_in new.slots) q ≡ cond b slot (get (look_ups_in old.slots) q)
at_equal old new n q slot u true e = let same : q ≡ n = grind (arith, nat_tests) in get_slot new.slots q ∙ ap (slab.get new) same ∙ u.changed
at_equal old new n q slot u false e = let apart : q ≢ n = grind (arith, nat_tests) in get_slot new.slots q ∙ u.others q apart ∙ sym (get_slot old.slots q)

pub inserted : (old new : Slab LookUp) (n : ℕ) (r : LookUp) → Updates old new n (Some r) → look_ups_in new.slots ≡ insert (look_ups_in old.slots) n r
inserted old new n r u =
    same_waiting (look_ups_in new.slots) (insert (look_ups_in old.slots) n r) (λ q. at_equal old new n q (Some r) u (q == n) refl
    ∙ sym (get-insert nat_cmp_total (look_ups_in old.slots) n r q ∙ ap (λ b. cond b (Some r) (get (look_ups_in old.slots) q)) (tie q n)))

pub removed : (old new : Slab LookUp) (n : ℕ) → Updates old new n None → look_ups_in new.slots ≡ remove (look_ups_in old.slots) n
removed old new n u =
    same_waiting (look_ups_in new.slots) (remove (look_ups_in old.slots) n) (λ q. at_equal old new n q None u (q == n) refl
    ∙ sym (get-remove nat_cmp_total (look_ups_in old.slots) n q ∙ ap (λ b. cond b None (get (look_ups_in old.slots) q)) (tie q n)))

find_each : (f : LookUp → LookUp) (q : ℕ) (es : List (ℕ × LookUp)) → find nat_cmp q (map (λ e. (e.0, f e.1)) es) ≡ option_map f (find nat_cmp q es)
find_each f q [] = refl
find_each f q (e ∷ es) = go (eq_by_cmp nat_cmp q e.0) (find_each f q es)
  where
    go : (b : Bool) → find nat_cmp q (map (λ e. (e.0, f e.1)) es) ≡ option_map f (find nat_cmp q es)
        → cond b (Some (f e.1)) (find nat_cmp q (map (λ e. (e.0, f e.1)) es)) ≡ option_map f (cond b (Some e.1) (find nat_cmp q es))
    go true h = refl
    go false h = h

pub get_overtaken : (test : List ℕ → Bool) (by : Overtaking) (m : LookUps) (q : ℕ) → get (all_overtaken test by m) q ≡ option_map (overtaking test by) (get m q)
get_overtaken test by m q =
    get-from_entries nat_cmp_total (map (λ e. (e.0, overtaking test by e.1)) (entries m)) q ∙ find_each (overtaking test by) q (entries m)
    ∙ ap (option_map (overtaking test by)) (sym (get-entries m q))

pub overtaken_slots : (test : List ℕ → Bool) (by : Overtaking) (old new : Slab LookUp) → ((q : ℕ) → slab.get new q ≡ option_map (overtaking test by) (slab.get old q))
    → look_ups_in new.slots ≡ all_overtaken test by (look_ups_in old.slots)
overtaken_slots test by old new each =
    same_waiting (look_ups_in new.slots) (all_overtaken test by (look_ups_in old.slots)) (λ q. get_slot new.slots q ∙ each q
    ∙ ap (option_map (overtaking test by)) (sym (get_slot old.slots q)) ∙ sym (get_overtaken test by (look_ups_in old.slots) q))
