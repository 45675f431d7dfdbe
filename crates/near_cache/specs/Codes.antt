-- How what is seen of a cache is stored as data.
use Rattle.std.specs.Prelude.{ℕ, List, Option, refl}
use Rattle.std.specs.Coded.{Coded, code_by, coded×, coded_ℕ, coded_list, coded_option}
use Rattle.std.specs.FinMap as map
use Rattle.near_cache.specs.declared.look_up.LookUp.{LookUp}
use Rattle.near_cache.specs.declared.look_up.Overtaking.{Overtaking}
use Rattle.near_cache.specs.LookUps.{LookUps}
use Rattle.near_cache.specs.Caches.{Cache, Kept}

abbrev pub overtaking_code : Coded Overtaking
overtaking_code = code_by (ℕ × ℕ) (coded× coded_ℕ coded_ℕ) (λ o. (o.version, o.number)) (λ p. record { version = p.0; number = p.1 }) (λ _. refl)

abbrev pub look_up_code : Coded LookUp
look_up_code =
    code_by (List ℕ × Option Overtaking) (coded× (coded_list coded_ℕ) (coded_option overtaking_code))
    (λ r. (r.key, r.overtaken)) (λ p. record { key = p.0; overtaken = p.1 }) (λ _. refl)

abbrev pub entries_code : Coded (List Kept)
entries_code = coded_list (coded× (coded_list coded_ℕ) (coded_option (coded_list coded_ℕ)))

abbrev pub cache_code : Coded Cache
cache_code =
    code_by (ℕ × (List Kept × LookUps)) (coded× coded_ℕ (coded× entries_code (map.code coded_ℕ look_up_code)))
    (λ c. (c.capacity, (c.entries, c.waiting))) (λ p. record { capacity = p.0; entries = p.1.0; waiting = p.1.1 }) (λ _. refl)
