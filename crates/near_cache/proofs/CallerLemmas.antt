-- What a caller's proof cites: which look-ups are open after each call, from what the call ensures.
use Rattle.std.proofs.Common.{◌≡◌, ◌≢◌, ℕ, Bool, true, false, cond, bytes_eq, List, Option, Some, None, IsSome, option_map, refl, sym, ap, ◌∙◌, subst}
use Rattle.std.specs.Option.{option_map_or}
use Rattle.std.specs.Ordering.{nat_cmp, eq_by_cmp}
use Rattle.std.specs.Cmp.{nat_cmp_total}
use Rattle.std.specs.FinMap.{get, get-insert, get-remove}
use Rattle.near_cache.specs.declared.look_up.LookUp.{LookUp}
use Rattle.near_cache.specs.declared.look_up.Overtaking.{Overtaking}
use Rattle.near_cache.specs.LookUps.{overtaking}
use Rattle.near_cache.specs.Caches.{Cache, opened, IsOpen, closed, kept, filled, answered, dropping, invalidated, cleared}
use Rattle.near_cache.specs.Scopes.{is_in_partition}
use Rattle.near_cache.proofs.Waiting.{ties, tie_not, get_overtaken}

-- as `reserve` leaves it
pub IsOpen-opened : (n : ℕ) (key : List ℕ) (old new : Cache) → new ≡ opened n key old → IsOpen n new
IsOpen-opened n key old new is =
    let look_up : LookUp = record { key = key; overtaken = None } in
    let there = get-insert nat_cmp_total old.waiting n look_up n ∙ ap (λ b. cond b (Some look_up) (get old.waiting n)) (ties n) in
    subst (IsOpen n) (sym is) (subst (λ o. IsSome o) (sym there) refl)

pub IsOpen-opened_more : (m n : ℕ) (key : List ℕ) (old new : Cache) → new ≡ opened n key old → IsOpen m old → IsOpen m new
IsOpen-opened_more m n key old new is was =
    subst (IsOpen m) (sym is) (subst (λ o. IsSome o) (sym (get-insert nat_cmp_total old.waiting n (record { key = key; overtaken = None }) m)) (go (eq_by_cmp nat_cmp m n)))
  where
    go : (b : Bool) → IsSome (cond b (Some (record { key = key; overtaken = None })) (get old.waiting m))
    go true = refl
    go false = was

-- as `give_up` leaves it, or a `fill` that found no memory
pub IsOpen-closed : (m n : ℕ) (old new : Cache) → new ≡ closed n old → m ≢ n → IsOpen m old → IsOpen m new
IsOpen-closed m n old new is apart was =
    let there = get-remove nat_cmp_total old.waiting n m ∙ ap (λ b. cond b None (get old.waiting m)) (tie_not m n apart) in
    subst (IsOpen m) (sym is) (subst (λ o. IsSome o) (sym there) was)

-- as `fill` leaves it
pub IsOpen-answered : (m n : ℕ) (value : Option (List ℕ)) (old new : Cache) → new ≡ answered n value old → m ≢ n → IsOpen m old → IsOpen m new
IsOpen-answered m n value old new is apart was = subst (IsOpen m) (sym is) (go (get old.waiting n))
  where
    fill : (r : LookUp) (o : Option Overtaking) → IsOpen m (closed n (option_map_or (λ (by : Overtaking). old) o (kept r.key value old)))
    fill r None = IsOpen-closed m n (kept r.key value old) (closed n (kept r.key value old)) refl apart was
    fill r (Some by) = IsOpen-closed m n old (closed n old) refl apart was

    go : (o : Option LookUp) → IsOpen m (option_map_or (λ (r : LookUp). closed n (filled r value old)) o old)
    go None = was
    go (Some r) = fill r r.overtaken

IsOpen-dropping : (n : ℕ) (test : List ℕ → Bool) (by : Overtaking) (c : Cache) → IsOpen n c → IsOpen n (dropping test by c)
IsOpen-dropping n test by c was = subst (λ o. IsSome o) (sym (get_overtaken test by c.waiting n)) (go (get c.waiting n) was)
  where
    go : (o : Option LookUp) → IsSome o → IsSome (option_map (overtaking test by) o)
    go None s = s
    go (Some r) s = refl

-- as `invalidate` leaves it
pub IsOpen-invalidated : (n : ℕ) (key : List ℕ) (by : Overtaking) (old new : Cache) → new ≡ invalidated key by old → IsOpen n old → IsOpen n new
IsOpen-invalidated n key by old new is was = subst (IsOpen n) (sym is) (IsOpen-dropping n (bytes_eq key) by old was)

-- as `clear_partition` leaves it
pub IsOpen-cleared : (n p version : ℕ) (old new : Cache) → new ≡ cleared p version old → IsOpen n old → IsOpen n new
IsOpen-cleared n p version old new is was = subst (IsOpen n) (sym is) (IsOpen-dropping n (is_in_partition p) (record { version = version; number = 0 }) old was)
