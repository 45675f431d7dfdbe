use Rattle.near_cache.proofs.CallerLemmas.{IsOpen-opened}
use Rattle.near_bench.proofs.keep.Goals as goal

-- src/main.rt:28:5
pub fill-requires : goal.fill-requires
fill-requires c = IsOpen-opened c.in_ok-reservation.reservation c.args.key c.args.cache.now c.reserve.new.self c.in_ok-reservation.ensures.ok
