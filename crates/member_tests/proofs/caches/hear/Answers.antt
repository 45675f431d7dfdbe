use Rattle.std.proofs.Common.{Result, Ok, Err, OnOk, OnErr, sym, subst}
use Rattle.near_cache.specs.Caches.{IsOpen}
use Rattle.near_cache.proofs.CallerLemmas.{IsOpen-invalidated, IsOpen-cleared}
use Rattle.member_tests.proofs.caches.hear.Goals as goal

-- whether it is an error or not
either : {T E : Type 0} (r : Result T E) (P Q R : Type 0) → OnOk r P → OnErr r Q → (P → R) → (Q → R) → R
either (Ok x) P Q R p q f g = f p
either (Err e) P Q R p q f g = g q

pub returns-in_ok-bytes_of-in-Written : goal.returns-in_ok-bytes_of-in-Written
returns-in_ok-bytes_of-in-Written c = λ n is. IsOpen-invalidated n _ _ _ _ c.invalidate-in-Written.ensures is

pub returns-in-Row : goal.returns-in-Row
returns-in-Row c = λ n was.
    either c.clear_partition.result _ _ _ c.clear_partition.ensures.ok c.clear_partition.ensures.err
    (λ ok. IsOpen-cleared n c.in-Row.partition c.in-Row.version c.args.cache.now c.clear_partition.new.self ok was) (λ err. subst (IsOpen n) (sym err) was)
