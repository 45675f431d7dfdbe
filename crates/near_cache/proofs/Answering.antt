-- What an answer does, by what overtook its look-up.
use Rattle.std.proofs.Common.{◌≡◌, ℕ, List, Option, Some, None, option_and_then, Result, Ok, Err, OnErr, ap, ◌∙◌}
use Rattle.std.specs.Option.{option_map_or}
use Rattle.std.specs.FinMap.{get}
use Rattle.near_cache.specs.declared.look_up.LookUp.{LookUp}
use Rattle.near_cache.specs.declared.look_up.Overtaking.{Overtaking}
use Rattle.lru.specs.LruCache.{LruCache}
use Rattle.near_cache.specs.LookUps.{LookUps}
use Rattle.near_cache.specs.Caches.{Cache, closed, kept, filled, answered, overtaken}

-- what is seen of these entries and look-ups
abbrev pub seen_as : LruCache (List ℕ) (Option (List ℕ)) → LookUps → Cache
seen_as es w = record { capacity = es.cap; entries = es.entries; waiting = w }

pub seen_both : (a b : LruCache (List ℕ) (Option (List ℕ))) (v w : LookUps) → a ≡ b → v ≡ w → seen_as a v ≡ seen_as b w
seen_both a b v w e f = ap (λ es. seen_as es v) e ∙ ap (seen_as b) f

pub overtaken_is : (c : Cache) (n : ℕ) (r : LookUp) → get c.waiting n ≡ Some r → overtaken n c ≡ r.overtaken
overtaken_is c n r is = ap (option_and_then (λ (r : LookUp). r.overtaken)) is

answered_by : (c : Cache) (n : ℕ) (r : LookUp) (value : Option (List ℕ)) → get c.waiting n ≡ Some r → answered n value c ≡ closed n (filled r value c)
answered_by c n r value is = ap (λ o. option_map_or (λ (r : LookUp). closed n (filled r value c)) o c) is

pub answered_late : (c : Cache) (n : ℕ) (r : LookUp) (value : Option (List ℕ)) (by : Overtaking) → get c.waiting n ≡ Some r → r.overtaken ≡ Some by → answered n value c ≡ closed n c
answered_late c n r value by is late = answered_by c n r value is ∙ ap (λ o. closed n (option_map_or (λ (by : Overtaking). c) o (kept r.key value c))) late

pub answered_in_time : (c : Cache) (n : ℕ) (r : LookUp) (value : Option (List ℕ)) → get c.waiting n ≡ Some r → r.overtaken ≡ None → answered n value c ≡ closed n (kept r.key value c)
answered_in_time c n r value is none = answered_by c n r value is ∙ ap (λ o. closed n (option_map_or (λ (by : Overtaking). c) o (kept r.key value c))) none

-- at an error, and else nothing
pub on_err : {T E : Type 0} (r : Result T E) (P : Type 0) → P → OnErr r P
on_err (Ok x) P p = tt
on_err (Err e) P p = p
