-- What a cache ends as, once a reference into it has ended.
use Rattle.std.specs.Prelude.{◌≡◌, ⊤}
use Rattle.std.specs.Borrow.{Fml, MutBor, follows_so}
use mathlib.Core.Option.{none}
use Rattle.near_cache.specs.Caches.{Cache}
use Rattle.near_cache.specs.contracts.cache.NearCache.{the_row}

abbrev pub EndsAs : MutBor Cache → Cache → Fml
EndsAs borrowed c = follows_so the_row the_row borrowed.ghost_name none (λ _ _. ⊤) (λ n. n ≡ c)
