use Rattle.near_cache.proofs.CallerLemmas.{IsOpen-opened}
use Rattle.member_tests.proofs.caches.give_up.Goals as goal

pub give_up-requires : goal.give_up-requires
give_up-requires c = IsOpen-opened _ _ _ _ c.in_ok-reservation.ensures.ok
