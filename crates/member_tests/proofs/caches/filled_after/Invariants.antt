use Rattle.near_cache.specs.Caches.{IsOpen}
use Rattle.member_tests.proofs.caches.filled_after.Given as goal

abbrev pub invariant-loop-told : goal.invariant-loop-told
invariant-loop-told l = IsOpen l.reservation l.cache
