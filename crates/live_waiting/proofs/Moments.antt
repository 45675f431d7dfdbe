-- Moments never fall.
use Rattle.std.proofs.Common.{◌≡◌, ℕ, ◌≤◌, ◌==◌, Bool, true, false, cond, [], ◌∷◌, refl, ap, sym, ◌∙◌, subst, ◌⊎◌, ⊎_elim, inl, inr, arith}
use Rattle.std.proofs.Math.Nat.{le-max_left, le-max_right}
use Rattle.grid_base.specs.Objects.{Object}
use Rattle.partition_protocol.specs.World.{map_or}
use Rattle.partition_protocol.specs.Events.{Call}
use Rattle.partition_protocol.proofs.Lists.{In, in_contains, cases}
use Rattle.partition_protocol.proofs.RowFacts.{same_number, number_same}
use Rattle.waiting_protocol.specs.Machine.{Waiter, Waiting, Terms, Gone, gone_as, turn, opened, event_in}
use Rattle.waiting_protocol.specs.Claims.{IsQuiet, IsItsTurn}
use Rattle.waiting_protocol.proofs.Turns.{turn_of}
use Rattle.live_waiting.specs.Cell.{Purpose, Calls, Makes, Brings, Drops, Looks, Visit, moment, timed, line_for, visited, left_at}
use Rattle.live_waiting.specs.Claims.{Serves, DoesItsOwn, MomentsRise, EveryMomentRises}
use Rattle.live_waiting.proofs.Visits.{one_thing}

module _ {C State : Type 0} (o : Object C State) (t : Terms C) where
  pub turn_clock : (j : Waiting C) → (turn o t j).clock ≡ j.clock
  turn_clock j = ⊎_elim (λ s. ap (λ (i : Waiting C). i.clock) s.1) (λ s. its s.0 s.1) (turn_of o t j)
    where
      its : (x : Waiter C) → IsItsTurn o t j x → (turn o t j).clock ≡ j.clock
      its x i = ap (λ (i : Waiting C). i.clock) i.left

  pub own_clock : (k : Waiting C) (m now : ℕ) (p : Purpose C) → (map_or (line_for m now p) k (opened o k)).clock ≡ k.clock
  own_clock k m now (Calls conn number call) = refl
  own_clock k m now (Makes e) = refl
  own_clock k m now (Brings conn number call deadline) = refl
  own_clock k m now (Drops conn) = refl
  own_clock k m now Looks = refl

  pub set_at : (b : Bool) (x y : ℕ) → b ≡ true → cond b x y ≡ x
  set_at b x y e = rw e refl

  pub kept_at : (b : Bool) (x y : ℕ) → b ≡ false → cond b x y ≡ y
  kept_at b x y e = rw e refl

  pub timed_at : (j : Waiting C) (v : Visit C) → (timed o j v).clock v.member ≡ moment j v
  timed_at j v = set_at (v.member == v.member) (moment j v) (j.clock v.member) (number_same v.member v.member refl)

  pub timed_rises : (j : Waiting C) (v : Visit C) (m : ℕ) → j.clock m ≤ (timed o j v).clock m
  timed_rises j v m = ⊎_elim same other (cases (m == v.member))
    where
      same : (m == v.member) ≡ true → j.clock m ≤ (timed o j v).clock m
      same e = subst (λ z. j.clock m ≤ z) (sym (set_at (m == v.member) (moment j v) (j.clock m) e)) (subst (λ z. j.clock z ≤ moment j v) (sym (same_number m v.member e)) (le-max_left (j.clock v.member) v.read))

      other : (m == v.member) ≡ false → j.clock m ≤ (timed o j v).clock m
      other e = subst (λ z. j.clock m ≤ z) (sym (kept_at (m == v.member) (moment j v) (j.clock m) e)) (omega arith)

  pub serves_clock : (j : Waiting C) (v : Visit C) (k : Waiting C) (x : Waiter C) → Serves o t j v k x → (visited o t j v).clock ≡ k.clock
  serves_clock j v k x s = ap (λ (i : Waiting C). i.clock) s.state ∙ turn_clock k

  pub does_clock : (j : Waiting C) (v : Visit C) → DoesItsOwn o t j v → (visited o t j v).clock ≡ (timed o j v).clock
  does_clock j v d = ap (λ (i : Waiting C). i.clock) d.state ∙ own_clock (timed o j v) v.member (moment j v) v.purpose

  pub serving_rises : (j : Waiting C) (v : Visit C) (k : Waiting C) (m : ℕ) → (k ≡ j) ⊎ (IsQuiet o t j × (k ≡ timed o j v)) → j.clock m ≤ k.clock m
  serving_rises j v k m (inl e) = subst (λ (i : Waiting C). j.clock m ≤ i.clock m) (sym e) (omega arith)
  serving_rises j v k m (inr e) = subst (λ (i : Waiting C). j.clock m ≤ i.clock m) (sym e.1) (timed_rises j v m)

  pub moments_rise : (j : Waiting C) (v : Visit C) → MomentsRise o t j v
  moments_rise j v = record {
    rise = λ m. ⊎_elim
        (λ s. subst (λ c. j.clock m ≤ c m) (sym (serves_clock j v s.0 s.1 s.2)) (serving_rises j v s.0 m s.2.stands))
        (λ d. subst (λ c. j.clock m ≤ c m) (sym (does_clock j v d)) (timed_rises j v m)) (one_thing o t j v);
    reached = λ d. subst (λ c. v.read ≤ c v.member) (sym (does_clock j v d)) (subst (λ z. v.read ≤ z) (sym (timed_at j v)) (le-max_right (j.clock v.member) v.read));
    called = λ conn number call d e. d.making ∙ ap (λ p. map_or (line_for v.member (moment j v) p) [] event_in) e
        ∙ ap (λ now. Call v.member conn number call now ∷ []) (sym (timed_at j v) ∙ ap (λ c. c v.member) (sym (does_clock j v d)));
    then = λ g c. ⊎_elim (λ s. left s.0 s.1 s.2 g (in_contains g (left_at o t j v) c)) (λ d. absurd (subst (In g) d.leavers (in_contains g (left_at o t j v) c))) (one_thing o t j v);
  }
    where
      one : (k : Waiting C) (x : Waiter C) → Serves o t j v k x → (g : Gone C) → In g (gone_as o t k x ∷ []) → g.now ≡ (visited o t j v).clock g.waiter.member
      one k x s g (inl e) = subst (λ (z : Gone C). z.now ≡ (visited o t j v).clock z.waiter.member) e (ap (λ c. c x.member) (sym (serves_clock j v k x s)))
      one k x s g (inr i) = absurd i

      left : (k : Waiting C) (x : Waiter C) → Serves o t j v k x → (g : Gone C) → In g (left_at o t j v) → g.now ≡ (visited o t j v).clock g.waiter.member
      left k x s g i = one k x s g (subst (In g) s.leavers i)

pub every_moment_rises : {C State : Type 0} (o : Object C State) → EveryMomentRises o
every_moment_rises o t j v = moments_rise o t j v
