-- The lists of those who wait: at first nobody does, where a run has the same waiters they are the same, and where they are empty nobody waits.
use Rattle.std.proofs.Common.{◌≡◌, ℕ, zero, suc, ◌*◌, ◌<◌, Bool, true, false, cond, ◌&&◌, List, [], ◌∷◌, length, replicate, map, filter, Contains, refl, ap, sym, ◌∙◌, subst, inl, inr}
use Rattle.std.specs.Prelude.{All, slice_index_or}
use Rattle.std.proofs.lemmas.Bool.{eq-eqb}
use Rattle.partition_protocol.proofs.Lists.{In, in_contains, contains_in}
use Rattle.std.proofs.lemmas.List.{length-replicate}
use Rattle.std.proofs.lemmas.List.Elements.{All-head, All-tail}
use Rattle.wait_sets.specs.declared.waiter.Waiter.{Waiter as ListedWaiter}
use Rattle.replay_run.specs.Runs.{Run, Waiter, begun, partitions}
use Rattle.wait_sets.specs.Lists.{place_of, list_at}
use Rattle.replay_run.specs.Grids.{HasWaiters, as_listed, waits_at}

pub waiters_alike : (lists : List (List ListedWaiter)) (r next : Run) → next.members ≡ r.members → next.waiters ≡ r.waiters → HasWaiters lists r → HasWaiters lists next
waiters_alike lists r next members same h = record {
  size = h.size ∙ ap (λ n. n * partitions) (sym members);
  listed = λ member p low below. h.listed member p (subst (λ n. member < n) members low) below ∙ ap (λ ws. map as_listed (filter (waits_at member p) ws)) (sym same);
  there = λ w c. let at = h.there w (subst (λ ws. Contains ws w) same c) in (subst (λ n. w.member < n) (sym members) at.0, at.1);
  fit = λ w c. h.fit w (subst (λ ws. Contains ws w) same c);
}

abbrev nobody : List ListedWaiter
nobody = []

nobody_at : (n k : ℕ) → slice_index_or (replicate n nobody) k nobody ≡ nobody
nobody_at zero k = refl
nobody_at (suc n) zero = refl
nobody_at (suc n) (suc k) = nobody_at n k

pub begun_waiters : (lists : List (List ListedWaiter)) (members backups : ℕ) → lists ≡ replicate (members * partitions) nobody → HasWaiters lists (begun members backups)
begun_waiters lists members backups is = record {
  size = ap (λ (xs : List (List ListedWaiter)). length xs) is ∙ length-replicate (members * partitions) nobody;
  listed = λ member p low below. ap (λ xs. list_at xs member p) is ∙ nobody_at (members * partitions) (place_of member p);
  there = λ w c. absurd (in_contains w [] c);
  fit = λ w c. absurd (in_contains w [] c);
}

-- Where all lists are empty nobody waits.

abbrev IsEmpty : List ListedWaiter → Type 0
IsEmpty list = list ≡ nobody

empty_at : (lists : List (List ListedWaiter)) (k : ℕ) → All IsEmpty lists → slice_index_or lists k nobody ≡ nobody
empty_at [] k all = refl
empty_at (list ∷ lists) zero all = All-head IsEmpty list lists all
empty_at (list ∷ lists) (suc k) all = empty_at lists k (All-tail IsEmpty list lists all)

somebody : (member p : ℕ) (w : Waiter) (ws : List Waiter) → In w ws → waits_at member p w ≡ true → map as_listed (filter (waits_at member p) ws) ≡ nobody → ⊥
somebody member p w [] i here none = absurd i
somebody member p w (v ∷ vs) (inl e) here none =
    let at : waits_at member p v ≡ true = subst (λ (x : Waiter). waits_at member p x ≡ true) (sym e) here in
    clash (sym (ap (λ b. map as_listed (cond b (v ∷ filter (waits_at member p) vs) (filter (waits_at member p) vs))) at) ∙ none)
  where
    clash : map as_listed (v ∷ filter (waits_at member p) vs) ≡ nobody → ⊥
    clash s = cc
somebody member p w (v ∷ vs) (inr i) here none = go (waits_at member p v) none (somebody member p w vs i here)
  where
    go : (b : Bool) → map as_listed (cond b (v ∷ filter (waits_at member p) vs) (filter (waits_at member p) vs)) ≡ nobody → (map as_listed (filter (waits_at member p) vs) ≡ nobody → ⊥) → ⊥
    go true s rest = cc
    go false s rest = rest s

pub nobody_waits : (lists : List (List ListedWaiter)) (r : Run) → HasWaiters lists r → All IsEmpty lists → r.waiters ≡ []
nobody_waits lists r h all = go r.waiters (λ w i. i)
  where
    none : (w : Waiter) → In w r.waiters → ⊥
    none w i =
        let at = h.there w (contains_in w r.waiters i) in
        let here : waits_at w.member w.request.partition w ≡ true = (λ j. eq-eqb w.member w.member refl j && eq-eqb w.request.partition w.request.partition refl j) in
        somebody w.member w.request.partition w r.waiters i here (sym (h.listed w.member w.request.partition at.0 at.1) ∙ empty_at lists (place_of w.member w.request.partition) all)

    go : (ws : List Waiter) → ((w : Waiter) → In w ws → In w r.waiters) → ws ≡ []
    go [] f = refl
    go (w ∷ ws) f = absurd (none w (f w (inl refl)))
