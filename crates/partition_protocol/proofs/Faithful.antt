-- Only calls that arrived are executed, each at most once.
use Rattle.partition_protocol.proofs.Walk.{walk}
use Rattle.std.proofs.Common.{◌≡◌, ℕ, ◌+◌, List, [], ◌∷◌, ◌++◌, map, refl, ap, sym, ◌∙◌, subst, ◌⊎◌, inl, inr, append_assoc, append-nil}
use Rattle.partition_protocol.specs.Node.{Node}
use Rattle.partition_protocol.specs.Execution.{executing}
use Rattle.grid_base.specs.Objects.{Object}
use Rattle.partition_protocol.specs.History.{Executed, Entry, Called, Reset}
use Rattle.partition_protocol.specs.World.{World, pair_state}
use Rattle.partition_protocol.specs.Events.{Event, entry_of, happens, run}
use Rattle.partition_protocol.specs.Arrivals.{Asked, CallName, name, asked_by, arrivals, calls_in, NamedOnce}
use Rattle.partition_protocol.specs.Claims.{IsFaithful}
use Rattle.partition_protocol.proofs.Lists.{In, in_contains, contains_in, IsPart, part_subsequence}

-- parts

pub part_itself : {X : Type 0} (xs : List X) → IsPart xs xs
part_itself [] = refl
part_itself (x ∷ xs) = inr (xs, refl, part_itself xs)

pub part_after : {X : Type 0} (xs bs cs : List X) → IsPart xs cs → IsPart xs (bs ++ cs)
part_after xs [] cs h = h
part_after xs (b ∷ bs) cs h = inl (part_after xs bs cs h)

pub part_between : {X : Type 0} (xs ks bs cs : List X) → IsPart xs (ks ++ cs) → IsPart xs (ks ++ (bs ++ cs))
part_between xs [] bs cs h = part_after xs bs cs h
part_between xs (k ∷ ks) bs cs (inl h) = inl (part_between xs ks bs cs h)
part_between xs (k ∷ ks) bs cs (inr (zs, e, h)) = inr (zs, e, part_between zs ks bs cs h)

pub part_in : {X : Type 0} (xs ys : List X) (x : X) → IsPart xs ys → In x xs → In x ys
part_in xs [] x h i = subst (λ zs. In x zs) h i
part_in xs (y ∷ ys) x (inl h) i = inr (part_in xs ys x h i)
part_in xs (y ∷ ys) x (inr (zs, e, h)) i = go (subst (λ ks. In x ks) e i) (part_in zs ys x h)
  where
    go : In x (y ∷ zs) → (In x zs → In x ys) → In x (y ∷ ys)
    go (inl s) f = inl s
    go (inr j) f = inr (f j)

pub part_map : {X Y : Type 0} (f : X → Y) (xs ys : List X) → IsPart xs ys → IsPart (map f xs) (map f ys)
part_map f xs [] h = ap (map f) h
part_map f xs (y ∷ ys) (inl h) = inl (part_map f xs ys h)
part_map f xs (y ∷ ys) (inr (zs, e, h)) = inr (map f zs, ap (map f) e, part_map f zs ys h)

pub part_once : (xs ys : List CallName) → IsPart xs ys → NamedOnce ys → NamedOnce xs
part_once xs [] h n = subst NamedOnce (sym h) tt
part_once xs (y ∷ ys) (inl h) n = part_once xs ys h n.1
part_once xs (y ∷ ys) (inr (zs, e, h)) n = subst NamedOnce (sym e) (λ m c. n.0 m (contains_in m ys (part_in zs ys m h (in_contains m zs c))), part_once zs ys h n.1)

pub calls_append : {C : Type 0} (es fs : List (Entry C)) → calls_in (es ++ fs) ≡ calls_in es ++ calls_in fs
calls_append [] fs = refl
calls_append (Called x ∷ es) fs = ap (λ ks. record { conn = x.conn; number = x.number; now = x.now; call = x.call } ∷ ks) (calls_append es fs)
calls_append (Reset r ∷ es) fs = calls_append es fs

-- what an event asks is executed, or nothing
abbrev pub Adds : {C : Type 0} → World C → Event C → World C → Type 0
Adds w e u = (calls_in u.recorded.log ≡ calls_in w.recorded.log ++ asked_by e) ⊎ (calls_in u.recorded.log ≡ calls_in w.recorded.log)

pub adds : {C State : Type 0} (o : Object C State) (w : World C) (e : Event C) → Adds w e (happens o w e).world
adds {C} o w = walk o w (Adds w) (λ e ps. inr refl) (λ e m. inr refl) (λ e s st ps. inr refl)
    (λ e s st ps. inr (calls_append w.recorded.log (Reset (w.service.row.version + 1) ∷ []) ∙ append-nil (calls_in w.recorded.log)))
    (λ e f t i q n j at l. inr refl) (λ m conn number call now n at l p f. inl (calls_append w.recorded.log (Called (entry m conn number call now n) ∷ [])))
  where
    entry : ℕ → ℕ → ℕ → C → ℕ → Node → Executed C
    entry m conn number call now n = entry_of o (pair_state o w n.pair) conn number call now (executing (o.changes (pair_state o w n.pair) call now) conn number n).pair

pub run_part_at : {C : Type 0} (xs before new after rest : List (Asked C)) → (after ≡ before ++ new) ⊎ (after ≡ before) → IsPart xs (after ++ rest) → IsPart xs (before ++ (new ++ rest))
run_part_at xs before new after rest (inl e) h = subst (λ ks. IsPart xs ks) (ap (λ ks. ks ++ rest) e ∙ append_assoc before new rest) h
run_part_at xs before new after rest (inr e) h = part_between xs before new rest (subst (λ ks. IsPart xs (ks ++ rest)) e h)

pub run_part : {C State : Type 0} (o : Object C State) (w : World C) (es : List (Event C)) → IsPart (calls_in (run o w es).recorded.log) (calls_in w.recorded.log ++ arrivals es)
run_part o w [] = rw (append-nil (calls_in w.recorded.log)) (part_itself (calls_in w.recorded.log))
run_part o w (e ∷ es) = run_part_at (calls_in (run o (happens o w e).world es).recorded.log) (calls_in w.recorded.log) (asked_by e) (calls_in (happens o w e).world.recorded.log) (arrivals es) (adds o w e) (run_part o (happens o w e).world es)

pub faithful : {C State : Type 0} (o : Object C State) (w : World C) (es : List (Event C)) → w.recorded.log ≡ [] → NamedOnce (map name (arrivals es)) → IsFaithful es (run o w es)
faithful o w es e n =
    let whole : IsPart (calls_in (run o w es).recorded.log) (arrivals es) = subst (λ lg. IsPart (calls_in (run o w es).recorded.log) (calls_in lg ++ arrivals es)) e (run_part o w es) in
    record { arrived = part_subsequence (calls_in (run o w es).recorded.log) (arrivals es) whole; once = part_once (map name (calls_in (run o w es).recorded.log)) (map name (arrivals es)) (part_map name (calls_in (run o w es).recorded.log) (arrivals es) whole) n }
