use Rattle.near_cache.proofs.CallerLemmas.{IsOpen-opened}
use Rattle.member_tests.proofs.caches.filled_after.Goals as goal

pub loop-told-init : goal.loop-told-init
loop-told-init c = IsOpen-opened _ _ _ _ c.in_ok-reservation.ensures.ok
