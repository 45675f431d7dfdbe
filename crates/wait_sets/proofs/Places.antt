-- The place at which a set's first waiter stands, and what the machine picks.
use Rattle.std.proofs.Common.{◌≡◌, ℕ, suc, ◌+◌, Bool, true, false, cond, not, ◌||◌, ◌==◌, List, [], ◌∷◌, ◌++◌, map, filter, length, Option, Some, None, slice_get, refl, ap, sym, ◌∙◌, subst, ⊎_elim, arith}
use Rattle.std.specs.List.{position, position_from, remove}
use Rattle.std.proofs.lemmas.Iterator.Adapters.{position_from-zero}
use Rattle.grid_base.specs.declared.calls.Request.{Request}
use Rattle.grid_base.specs.Objects.{Object}
use Rattle.key_locks.specs.Ends.{has_ended}
use Rattle.partition_protocol.specs.Node.{Node}
use Rattle.partition_protocol.specs.Execution.{Executes, reached}
use Rattle.partition_protocol.specs.World.{is_live, pair_state}
use Rattle.partition_protocol.proofs.Lists.{Every}
use Rattle.waiting_protocol.specs.Machine.{Waiting, Terms, Picked, is_ready, Runs, Stays, is_over, fate_of, fate_at, Leaves, stirs, pick}
use Rattle.waiting_protocol.specs.Machine as machine
use Rattle.waiting_protocol.proofs.Turns.{IsPick, pick_of}
use Rattle.waiting_protocol.proofs.Fates.{closed_fate}
use Rattle.call_engine.specs.Calls.{Settings}
use Rattle.call_engine.specs.Objects.{partition_object}
use Rattle.call_engine.specs.Readiness.{is_wished_reply, is_granted, is_ready as is_ready_in}
use Rattle.call_engine.proofs.Wishes.{ready_where_granted}
use Rattle.object_store.specs.Partitions.{Partition}
use Rattle.wait_sets.specs.declared.waiter.Waiter.{Waiter}
use Rattle.wait_sets.specs.WaitSets.{is_due, is_of, wish}
use Rattle.wait_sets.specs.Laws.{meant, all_meant, grid_terms, IsPlaceOf, EveryNextIsItsTurn, EveryClosingIsAlike}

-- those who wish the same are ready together
pub ready_together : (settings : Settings) (s : Partition) (now : ℕ) (x y : Waiter) → wish x ≡ wish y → is_ready_in settings s x.request now ≡ is_ready_in settings s y.request now
ready_together settings s now x y e = ready_where_granted settings s x.request now ∙ ap (is_granted settings.capacity s now) e ∙ sym (ready_where_granted settings s y.request now)

-- places

from_some : {X : Type 0} (f : X → Bool) (front : List X) (one : X) (back : List X) (i : ℕ) → Every (λ x. f x ≡ false) front → f one ≡ true → position_from f i (front ++ one ∷ back) ≡ Some (i + length front)
from_some f [] one back i e s = rw s (let k : i ≡ i + 0 = omega arith in ap Some k)
from_some f (x ∷ front) one back i e s = rw e.0 (from_some f front one back (i + 1) e.1 s ∙ (let k : i + 1 + length front ≡ i + suc (length front) = omega arith in ap Some k))

from_none : {X : Type 0} (f : X → Bool) (xs : List X) (i : ℕ) → Every (λ x. f x ≡ false) xs → position_from f i xs ≡ None
from_none f [] i e = refl
from_none f (x ∷ xs) i e = rw e.0 (from_none f xs (i + 1) e.1)

from_map : {X Y : Type 0} (f : Y → Bool) (g : X → Y) (xs : List X) (i : ℕ) → position_from f i (map g xs) ≡ position_from (λ x. f (g x)) i xs
from_map f g [] i = refl
from_map f g (x ∷ xs) i = rw (from_map f g xs (i + 1)) refl

middle_get : {X : Type 0} (front : List X) (one : X) (back : List X) → slice_get (front ++ one ∷ back) (length front) ≡ Some one
middle_get [] one back = refl
middle_get (x ∷ front) one back = middle_get front one back

middle_removed : {X : Type 0} (front : List X) (one : X) (back : List X) → remove (front ++ one ∷ back) (length front) ≡ front ++ back
middle_removed [] one back = refl
middle_removed (x ∷ front) one back = ap (λ ys. x ∷ ys) (middle_removed front one back)

-- the machine's pick and the place

picked_place : {C : Type 0} (f : machine.Waiter C → Bool) (xs : List (machine.Waiter C)) → IsPlaceOf xs (pick f xs) (position_from f 0 xs)
picked_place {C} f xs = ⊎_elim (λ r. none r.0 r.1) (λ r. some r.0 r.1 r.2) (pick_of f xs)
  where
    none : Every (λ x. f x ≡ false) xs → pick f xs ≡ None → IsPlaceOf xs (pick f xs) (position_from f 0 xs)
    none e s = rw (s, from_none f xs 0 e) tt

    some : (p : Picked C) → pick f xs ≡ Some p → IsPick f xs p → IsPlaceOf xs (pick f xs) (position_from f 0 xs)
    some p s i =
        let at : position_from f 0 xs ≡ Some (length p.front) = ap (position_from f 0) i.whole ∙ from_some f p.front p.one p.back 0 i.earlier i.passes ∙ (let k : 0 + length p.front ≡ length p.front = omega arith in ap Some k) in
        let there : slice_get xs (length p.front) ≡ Some p.one = subst (λ ys. slice_get ys (length p.front) ≡ Some p.one) (sym i.whole) (middle_get p.front p.one p.back) in
        let rest : remove xs (length p.front) ≡ p.front ++ p.back = subst (λ ys. remove ys (length p.front) ≡ p.front ++ p.back) (sym i.whole) (middle_removed p.front p.one p.back) in
        rw (s, at) (there, rest)

-- it is ready by that test, or due
abbrev turn_by : (Request → Bool) → ℕ → Waiter → Bool
turn_by ready now waiter = ready waiter.request || is_due now waiter

-- at a member that serves something is to be done with a waiter where it is ready or due

same_end : (now : ℕ) (d : Option ℕ) → machine.is_due now d ≡ has_ended d now
same_end now None = refl
same_end now (Some d) = refl

over : (b h : Bool) → is_over (fate_of Executes b h) ≡ b
over true true = refl
over true false = refl
over false h = refl

its_turn : {State : Type 0} (o : Object Request State) (t : Terms Request) (j : Waiting Request) (member : ℕ) (node : Node)
    → is_live j.world member ≡ true → slice_get j.world.nodes member ≡ Some node → reached member node ≡ Executes → (waiter : Waiter)
    → stirs o t j (meant member waiter) ≡ turn_by (λ call. is_ready o t (pair_state o j.world node.pair) call (j.clock member)) (j.clock member) waiter
its_turn o t j member node live at serves waiter =
    let now : ℕ = j.clock member in
    let ready : Bool = is_ready o t (pair_state o j.world node.pair) waiter.request now in
    ap is_over (closed_fate (is_live j.world member) (slice_get j.world.nodes member) (fate_at o t j.world now (meant member waiter)) node live at)
    ∙ ap (λ r. is_over (fate_of r (ready || machine.is_due now waiter.deadline) (t.starves (meant member waiter)))) serves
    ∙ over (ready || machine.is_due now waiter.deadline) (t.starves (meant member waiter))
    ∙ ap (λ d. ready || d) (same_end now waiter.deadline)

next_is_its_turn : {State : Type 0} (o : Object Request State) (t : Terms Request) (j : Waiting Request) (member : ℕ) (node : Node) (waiters : List Waiter)
    → is_live j.world member ≡ true → slice_get j.world.nodes member ≡ Some node → reached member node ≡ Executes
    → IsPlaceOf (all_meant member waiters) (pick (stirs o t j) (all_meant member waiters)) (position (turn_by (λ call. is_ready o t (pair_state o j.world node.pair) call (j.clock member)) (j.clock member)) waiters)
next_is_its_turn o t j member node waiters live at serves =
    let turn : Waiter → Bool = turn_by (λ call. is_ready o t (pair_state o j.world node.pair) call (j.clock member)) (j.clock member) in
    let same : (λ (w : Waiter). stirs o t j (meant member w)) ≡ turn = λ i w. its_turn o t j member node live at serves w i in
    let place : position_from (stirs o t j) 0 (all_meant member waiters) ≡ position turn waiters =
    from_map (stirs o t j) (meant member) waiters 0 ∙ ap (λ (f : Waiter → Bool). position_from f 0 waiters) same ∙ sym (position_from-zero turn waiters) in
    subst (λ (r : Option ℕ). IsPlaceOf (all_meant member waiters) (pick (stirs o t j) (all_meant member waiters)) r) place (picked_place (stirs o t j) (all_meant member waiters))

pub every_next_is_its_turn : (settings : Settings) → EveryNextIsItsTurn settings
every_next_is_its_turn settings starves j member node waiters live at serves = next_is_its_turn (partition_object settings) (grid_terms starves) j member node waiters live at serves

-- closing

kept : (b : Bool) (member : ℕ) (w : Waiter) (ws : List Waiter) (xs : List (machine.Waiter Request)) → all_meant member ws ≡ xs
    → all_meant member (cond b (w ∷ ws) ws) ≡ cond b (meant member w ∷ xs) xs
kept true member w ws xs e = ap (λ ys. meant member w ∷ ys) e
kept false member w ws xs e = e

pub every_closing_is_alike : EveryClosingIsAlike
every_closing_is_alike member conn [] = refl
every_closing_is_alike member conn (w ∷ ws) =
    kept (not (is_of conn w)) member w (filter (λ waiter. not (is_of conn waiter)) ws) (filter (λ (x : machine.Waiter Request). not (x.conn == conn)) (all_meant member ws)) (every_closing_is_alike member conn ws)
