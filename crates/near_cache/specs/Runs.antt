-- What holds of a cache after any calls.
use Rattle.std.specs.Prelude.{◌≡◌, ℕ, ◌≤◌, Bool, false, ◌==◌, bytes_eq, List, [], ◌∷◌, ◌++◌, length, Option, Some, None}
use Rattle.std.specs.List.{list_any, IsDistinct}
use Rattle.std.specs.Map.{keys_of}
use Rattle.std.specs.FinMap.{get}
use Rattle.near_cache.specs.declared.look_up.LookUp.{LookUp}
use Rattle.near_cache.specs.declared.look_up.Overtaking.{Overtaking}
use Rattle.near_cache.specs.Scopes.{is_in_partition}
use Rattle.near_cache.specs.Caches.{Cache, new_cache, hit, used, opened, closed, answered, invalidated, cleared}

-- a call, with what it was given
pub data Step : Type 0 where
  -- a look at what is kept for a key
  Used : (key : List ℕ) → Step
  -- a look-up was opened under a number
  Opened : (number : ℕ) (key : List ℕ) → Step
  -- it was answered
  Answered : (number : ℕ) (value : Option (List ℕ)) → Step
  -- it was closed with nothing kept: given up, or for want of memory
  Closed : (number : ℕ) → Step
  Invalidated : (key : List ℕ) (by : Overtaking) → Step
  Cleared : (partition version : ℕ) → Step

abbrev pub after : Cache → Step → Cache
after c (Used key) = used key c
after c (Opened n key) = opened n key c
after c (Answered n value) = answered n value c
after c (Closed n) = closed n c
after c (Invalidated key by) = invalidated key by c
after c (Cleared p version) = cleared p version c

abbrev pub all_after : Cache → List Step → Cache
all_after c [] = c
all_after c (step ∷ steps) = all_after (after c step) steps

-- the step takes out what is kept for the key
abbrev pub drops : List ℕ → Step → Bool
drops key (Invalidated k by) = bytes_eq k key
drops key (Cleared p version) = is_in_partition p key
drops key (Used k) = false
drops key (Opened n k) = false
drops key (Answered n value) = false
drops key (Closed n) = false

-- it is one of the look-up of that number
abbrev pub is_of : ℕ → Step → Bool
is_of n (Opened m key) = m == n
is_of n (Answered m value) = m == n
is_of n (Closed m) = m == n
is_of n (Used key) = false
is_of n (Invalidated key by) = false
is_of n (Cleared p version) = false

-- a look-up of the key was opened, and the same was answered with the value. Since it was opened nothing took the key out
pub record WasFilled (steps : List Step) (key : List ℕ) (value : Option (List ℕ)) : Type 0 where
  pub number : ℕ
  pub before : List Step
  pub between : List Step
  pub since : List Step
  pub are : steps ≡ before ++ Opened number key ∷ (between ++ Answered number value ∷ since)
  pub same : list_any (is_of number) between ≡ false
  pub waiting : list_any (drops key) between ≡ false
  pub standing : list_any (drops key) since ≡ false

-- whatever was called, a value that is hit was filled so
abbrev pub EveryHitWasFilled : Type 0
EveryHitWasFilled =
    (capacity : ℕ) (steps : List Step) (key : List ℕ) (value : Option (List ℕ))
    → hit key (all_after (new_cache capacity) steps) ≡ Some value → WasFilled steps key value

-- the value of a look-up that nothing overtook is hit next, where there may be an entry at all
abbrev pub EveryFillIsHit : Type 0
EveryFillIsHit =
    (c : Cache) (n : ℕ) (r : LookUp) (value : Option (List ℕ)) → 1 ≤ c.capacity
    → get c.waiting n ≡ Some r → r.overtaken ≡ None → hit r.key (answered n value c) ≡ Some value

-- no more entries than there may be, and one for a key at most
abbrev pub IsWithin : Cache → Type 0
IsWithin c = (length c.entries ≤ c.capacity) × IsDistinct bytes_eq (keys_of c.entries)

abbrev pub EveryCacheIsWithin : Type 0
EveryCacheIsWithin = (capacity : ℕ) (steps : List Step) → 1 ≤ capacity → IsWithin (all_after (new_cache capacity) steps)
