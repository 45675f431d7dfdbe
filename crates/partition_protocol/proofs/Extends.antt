-- The log and the answers only grow, at the end.
use Rattle.partition_protocol.proofs.Walk.{walk}
use Rattle.std.proofs.Common.{◌≡◌, ◌+◌, List, [], ◌∷◌, ◌++◌, refl, ap, sym, ◌∙◌, append_assoc, append-nil}
use Rattle.partition_protocol.specs.Node.{now_released}
use Rattle.partition_protocol.specs.Replica.{taking}
use Rattle.partition_protocol.specs.Execution.{executing}
use Rattle.grid_base.specs.Objects.{Object}
use Rattle.partition_protocol.specs.History.{Called, Reset}
use Rattle.partition_protocol.specs.World.{World, pair_state}
use Rattle.partition_protocol.specs.Events.{Event, entry_of, happens, run}
use Rattle.partition_protocol.specs.Sequences.{IsFrontOf}

-- the log and the answers are as they were, and maybe more
abbrev pub Longer : {C : Type 0} → World C → Event C → World C → Type 0
Longer w e u = IsFrontOf w.recorded.log u.recorded.log × IsFrontOf w.released u.released

pub same : {X : Type 0} (xs : List X) → IsFrontOf xs xs
same xs = ([], append-nil xs)

pub extends : {C State : Type 0} (o : Object C State) (w : World C) (e : Event C) → Longer w e (happens o w e).world
extends o w = walk o w (Longer w) (λ e ps. (same w.recorded.log, same w.released)) (λ e m. (same w.recorded.log, same w.released)) (λ e s st ps. (same w.recorded.log, same w.released))
    (λ e s st ps. ((Reset (w.service.row.version + 1) ∷ [], refl), same w.released))
    (λ e f t i q n j at l. let a = (taking w.members q.to q.from q.message n).node in (same w.recorded.log, (now_released a a.held, refl)))
    (λ m conn number call now n at l p f. let a = executing (o.changes (pair_state o w n.pair) call now) conn number n in
    ((Called (entry_of o (pair_state o w n.pair) conn number call now a.pair) ∷ [], refl), (now_released a a.held, refl)))

pub run_append : {C State : Type 0} (o : Object C State) (w : World C) (es fs : List (Event C)) → run o w (es ++ fs) ≡ run o (run o w es) fs
run_append o w [] fs = refl
run_append o w (e ∷ es) fs = run_append o (happens o w e).world es fs

pub front_trans : {X : Type 0} (xs ys zs : List X) → IsFrontOf xs ys → IsFrontOf ys zs → IsFrontOf xs zs
front_trans xs ys zs p q = (p.0 ++ q.0, sym (append_assoc xs p.0 q.0) ∙ ap (λ ks. ks ++ q.0) p.1 ∙ q.1)

pub run_extends : {C State : Type 0} (o : Object C State) (w : World C) (es : List (Event C)) → IsFrontOf w.recorded.log (run o w es).recorded.log × IsFrontOf w.released (run o w es).released
run_extends o w [] = (([], append-nil w.recorded.log), ([], append-nil w.released))
run_extends o w (e ∷ es) =
    let u = (happens o w e).world in
    let a = extends o w e in
    let r = run_extends o u es in
    (front_trans w.recorded.log u.recorded.log (run o u es).recorded.log a.0 r.0, front_trans w.released u.released (run o u es).released a.1 r.1)

pub run_longer : {C State : Type 0} (o : Object C State) (w : World C) (es fs : List (Event C))
    → IsFrontOf (run o w es).recorded.log (run o w (es ++ fs)).recorded.log × IsFrontOf (run o w es).released (run o w (es ++ fs)).released
run_longer o w es fs = rw (run_append o w es fs) (run_extends o (run o w es) fs)
