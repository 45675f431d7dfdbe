use Rattle.near_cache.proofs.CallerLemmas.{IsOpen-opened}
use Rattle.member_tests.proofs.caches.keep.Goals as goal

pub fill-requires : goal.fill-requires
fill-requires c = IsOpen-opened _ _ _ _ c.in_ok-reservation.ensures.ok
