-- Leaving a waiter out: until it is let go or dropped the same turns do the same.
use Rattle.std.proofs.Common.{◌≡◌, ℕ, max, ◌==◌, if◌then◌else◌, true, false, List, [], ◌∷◌, ◌++◌, Option, Some, None, refl, ap, sym, ◌∙◌, ◌⊎◌, ⊎_elim, inl, inr, append-nil}
use Rattle.std.specs.Option.{option_to_list}
use Rattle.grid_base.specs.Objects.{Object}
use Rattle.partition_protocol.specs.World.{map_or}
use Rattle.partition_protocol.proofs.Lists.{cases}
use Rattle.waiting_protocol.specs.Machine.{Waiter, Waiting, Line, Clock, Closes, Terms, Gone, events_of, gone_as, turn, gone_in, opened, event_in}
use Rattle.waiting_protocol.specs.Claims.{IsItsTurn, IsWithout}
use Rattle.waiting_protocol.proofs.Turns.{turn_of}
use Rattle.waiting_protocol.proofs.Without.{kept, turns_alike, opens_alike}
use Rattle.live_waiting.specs.Cell.{Purpose, Calls, Makes, Brings, Drops, Looks, Visit, moment, timed, line_for, own_line, own, is_busy, visited, left_at, events_at, lines_at, cell_left, cell_events, cell_lines}
use Rattle.live_waiting.specs.Claims.{Serves, IsStillTheSame, DoesTheSame, HasGone, EveryWaiterChangesNothing, EveryArrivalIsUnseen}
use Rattle.live_waiting.proofs.Visits.{GoesFirst, IsOwn, still_lets, time_comes, is_free, quiet_of, not_busy, nobodys, is_busy_with, one_of, serves}

-- a line that closes a connection is of a thread that came for it
pub drops_alone : {C : Type 0} (m now : ℕ) (p : Purpose C) (c : ℕ) → line_for m now p ≡ Some (Closes c) → p ≡ Drops c
drops_alone m now (Calls conn number call) c e = absurd cc
drops_alone m now (Makes event) c e = absurd cc
drops_alone m now (Brings conn number call deadline) c e = absurd cc
drops_alone m now (Drops conn) c e = let f : conn ≡ c = cc in ap Drops f
drops_alone m now Looks c e = absurd cc

module _ {C State : Type 0} (o : Object C State) (t : Terms C) (x : Waiter C) where
  -- with a turn that is alike, both have one to be let go, or neither

  pub gone_busy : (j : Waiting C) → is_busy o t j ≡ true → (g : Gone C) × (gone_in o t j ≡ g ∷ [])
  gone_busy j e = let r = one_of o t j e in (gone_as o t j r.0, r.1.gone)

  pub gone_quiet : (j : Waiting C) → is_busy o t j ≡ false → gone_in o t j ≡ []
  gone_quiet j e = ⊎_elim (λ s. s.2) (λ s. absurd (nobodys o t j (quiet_of o t j e) s.0 s.1)) (turn_of o t j)

  pub one_not_none : (j k : Waiting C) → is_busy o t j ≡ true → is_busy o t k ≡ false → gone_in o t j ≡ gone_in o t k → ⊥
  one_not_none j k b q e = let r = gone_busy j b in clash r.0 (sym r.1 ∙ e ∙ gone_quiet k q)
    where
      clash : (g : Gone C) → g ∷ [] ≡ [] → ⊥
      clash g e = absurd cc

  pub busy_too : (j k : Waiting C) → gone_in o t j ≡ gone_in o t k → is_busy o t j ≡ true → is_busy o t k ≡ true
  busy_too j k e b = ⊎_elim (λ s. s) (λ s. absurd (one_not_none j k b s e)) (cases (is_busy o t k))

  pub quiet_too : (j k : Waiting C) → gone_in o t j ≡ gone_in o t k → is_busy o t j ≡ false → is_busy o t k ≡ false
  quiet_too j k e b = ⊎_elim (λ s. absurd (one_not_none k j s b (sym e))) (λ s. s) (cases (is_busy o t k))

  -- a visit

  pub record VisitsAlike (j k : Waiting C) (v : Visit C) : Type 0 where
    pub states : IsWithout x (visited o t j v) (visited o t k v)
    pub making : events_at o t j v ≡ events_at o t k v
    pub leavers : left_at o t j v ≡ left_at o t k v
    pub lines : lines_at o t j v ≡ lines_at o t k v

  -- it is let go, or its connection closes
  abbrev pub Goes : Waiting C → Waiting C → Visit C → Type 0
  Goes j k v = ((i : Waiting C) × Serves o t j v i x) ⊎ ((v.purpose ≡ Drops x.conn) × DoesTheSame o t j k v)

  pub serving_alike : (j k i l : Waiting C) (v : Visit C) → IsWithout x (turn o t i) (turn o t l) × (gone_in o t i ≡ gone_in o t l) → GoesFirst o t j v i → GoesFirst o t k v l → lines_at o t j v ≡ lines_at o t k v → VisitsAlike j k v
  serving_alike j k i l v a f g e = record {
    states = kept o t x (turn o t i) (turn o t l) (visited o t j v) (visited o t k v) f.state g.state a.0;
    making = f.making ∙ ap events_of a.1 ∙ sym g.making;
    leavers = f.leavers ∙ a.1 ∙ sym g.leavers;
    lines = e;
  }

  pub moments_alike : (j k : Waiting C) (v : Visit C) → IsWithout x j k → moment k v ≡ moment j v
  moments_alike j k v h = ap (λ (c : ℕ → ℕ). max (c v.member) v.read) h.clock

  pub timed_alike : (j k : Waiting C) (v : Visit C) → IsWithout x j k → IsWithout x (timed o j v) (timed o k v)
  timed_alike j k v h = record {
    front = h.front;
    back = h.back;
    world = h.world;
    clock = ap {B = ℕ → ℕ} (λ (c : ℕ → ℕ). λ (n : ℕ). if n == v.member then max (c v.member) v.read else c n) h.clock;
    with_it = h.with_it;
    without = h.without;
  }

  abbrev pub LineAlike : Waiting C → Waiting C → Option (Line C) → Type 0
  LineAlike i l r = IsWithout x (map_or r i (opened o i)) (map_or r l (opened o l)) ⊎ ((r ≡ Some (Closes x.conn)) × (map_or r i (opened o i) ≡ map_or r l (opened o l)))

  pub line_alike : (i l : Waiting C) → IsWithout x i l → (r : Option (Line C)) → LineAlike i l r
  line_alike i l h None = inl h
  line_alike i l h (Some line) = ⊎_elim (λ a. inl a) (λ a. inr (ap Some a.0, a.1)) (opens_alike o t x line i l h)

  pub own_alike : (j k : Waiting C) (v : Visit C) → IsWithout x j k → IsOwn o t j v → IsOwn o t k v → VisitsAlike j k v ⊎ Goes j k v
  own_alike j k v h d f = ⊎_elim (λ a. inl (same a)) (λ a. inr (inr (drops_alone v.member (moment j v) v.purpose x.conn a.0, record { states = d.0.state ∙ a.1 ∙ sym own_same ∙ sym f.0.state; making = events_same; leavers = left_same }))) (line_alike (timed o j v) (timed o k v) (timed_alike j k v h) (own_line j v))
    where
      line_same : own_line k v ≡ own_line j v
      line_same = ap (λ now. line_for v.member now v.purpose) (moments_alike j k v h)

      events_same : events_at o t j v ≡ events_at o t k v
      events_same = d.0.making ∙ ap (λ r. map_or r [] event_in) (sym line_same) ∙ sym f.0.making

      left_same : left_at o t j v ≡ left_at o t k v
      left_same = d.0.leavers ∙ sym f.0.leavers

      own_same : own o k v ≡ map_or (own_line j v) (timed o k v) (opened o (timed o k v))
      own_same = ap (λ r. map_or r (timed o k v) (opened o (timed o k v))) line_same

      same : IsWithout x (own o j v) (map_or (own_line j v) (timed o k v) (opened o (timed o k v))) → VisitsAlike j k v
      same a = record {
        states = kept o t x (own o j v) (map_or (own_line j v) (timed o k v) (opened o (timed o k v))) (visited o t j v) (visited o t k v) d.0.state (f.0.state ∙ own_same) a;
        making = events_same;
        leavers = left_same;
        lines = d.1 ∙ ap (λ now. Clock v.member now ∷ option_to_list (line_for v.member now v.purpose)) (sym (moments_alike j k v h)) ∙ sym f.1;
      }

  pub visit_alike : (j k : Waiting C) (v : Visit C) → IsWithout x j k → VisitsAlike j k v ⊎ Goes j k v
  visit_alike j k v h = ⊎_elim (λ a. ⊎_elim (lets a) (λ e. ⊎_elim (due a.1 e) (its_due e) (turns_alike o t x (timed o j v) (timed o k v) (timed_alike j k v h))) (cases (is_busy o t j))) its (turns_alike o t x j k h)
    where
      its : IsItsTurn o t j x → VisitsAlike j k v ⊎ Goes j k v
      its m = inr (inl (j, serves o t j v j (still_lets o t j v (is_busy_with o t j x m)).0 (inl refl) x m))

      its_due : is_busy o t j ≡ false → IsItsTurn o t (timed o j v) x → VisitsAlike j k v ⊎ Goes j k v
      its_due e m = inr (inl (timed o j v, serves o t j v (timed o j v) (time_comes o t j v e (is_busy_with o t (timed o j v) x m)).0 (inr (quiet_of o t j e, refl)) x m))

      lets : IsWithout x (turn o t j) (turn o t k) × (gone_in o t j ≡ gone_in o t k) → is_busy o t j ≡ true → VisitsAlike j k v ⊎ Goes j k v
      lets a e =
          let f = still_lets o t j v e in
          let g = still_lets o t k v (busy_too j k a.1 e) in
          inl (serving_alike j k j k v a f.0 g.0 (f.1 ∙ sym g.1))

      due : gone_in o t j ≡ gone_in o t k → is_busy o t j ≡ false → IsWithout x (turn o t (timed o j v)) (turn o t (timed o k v)) × (gone_in o t (timed o j v) ≡ gone_in o t (timed o k v)) → VisitsAlike j k v ⊎ Goes j k v
      due a e b = ⊎_elim
          (λ s.
          let f = time_comes o t j v e s in
          let g = time_comes o t k v (quiet_too j k a e) (busy_too (timed o j v) (timed o k v) b.1 s) in
          inl (serving_alike j k (timed o j v) (timed o k v) v b f.0 g.0 (f.1 ∙ ap (λ now. Clock v.member now ∷ []) (sym (moments_alike j k v h)) ∙ sym g.1)))
          (λ s. own_alike j k v h (is_free o t j v e s) (is_free o t k v (quiet_too j k a e) (quiet_too (timed o j v) (timed o k v) b.1 s))) (cases (is_busy o t (timed o j v)))

  pub still : (j k : Waiting C) (v : Visit C) (vs : List (Visit C)) → VisitsAlike j k v → IsStillTheSame o t x (visited o t j v) (visited o t k v) vs → IsStillTheSame o t x j k (v ∷ vs)
  still j k v vs a r = record {
    states = r.states;
    events_same = ap (λ es. es ++ cell_events o t (visited o t j v) vs) a.making ∙ ap (λ es. events_at o t k v ++ es) r.events_same;
    left_same = ap (λ gs. gs ++ cell_left o t (visited o t j v) vs) a.leavers ∙ ap (λ gs. left_at o t k v ++ gs) r.left_same;
    lines_same = ap (λ ls. ls ++ cell_lines o t (visited o t j v) vs) a.lines ∙ ap (λ ls. lines_at o t k v ++ ls) r.lines_same;
  }

  pub begins_same : (j k : Waiting C) → IsWithout x j k → IsStillTheSame o t x j k []
  begins_same j k h = record { states = h; events_same = refl; left_same = refl; lines_same = refl }

  pub changes_nothing : (vs : List (Visit C)) (j k : Waiting C) → IsWithout x j k → IsStillTheSame o t x j k vs ⊎ HasGone o t x j k vs
  changes_nothing [] j k h = inl (begins_same j k h)
  changes_nothing (v ∷ vs) j k h = ⊎_elim (λ a. more a (changes_nothing vs (visited o t j v) (visited o t k v) a.states))
      (λ g. inr (record { before = []; visit = v; later = vs; whole = refl; until = begins_same j k h; how = g })) (visit_alike j k v h)
    where
      more : VisitsAlike j k v → IsStillTheSame o t x (visited o t j v) (visited o t k v) vs ⊎ HasGone o t x (visited o t j v) (visited o t k v) vs → IsStillTheSame o t x j k (v ∷ vs) ⊎ HasGone o t x j k (v ∷ vs)
      more a (inl r) = inl (still j k v vs a r)
      more a (inr r) = inr (record { before = v ∷ r.before; visit = r.visit; later = r.later; whole = ap (λ ws. v ∷ ws) r.whole; until = still j k v r.before a r.until; how = r.how })

pub every_waiter_changes_nothing : {C State : Type 0} (o : Object C State) → EveryWaiterChangesNothing o
every_waiter_changes_nothing o t x j k visits h = changes_nothing o t x visits j k h

-- its arrival

pub every_arrival_is_unseen : {C State : Type 0} (o : Object C State) → EveryArrivalIsUnseen o
every_arrival_is_unseen {C} o t j m read conn number call deadline d =
    let v : Visit C = record { member = m; read = read; purpose = Brings conn number call deadline } in
    let w : Visit C = record { member = m; read = read; purpose = Looks } in
    let x : Waiter C = record { member = m; conn = conn; number = number; call = call; deadline = deadline } in
    let e = (is_free o t j w (not_busy o t j d.served) (not_busy o t (timed o j w) d.quiet)).0 in
    let h : IsWithout x (own o j v) (own o j w) = record { front = j.waiters; back = []; world = refl; clock = refl; with_it = refl; without = sym (append-nil j.waiters) } in
    record { states = kept o t x (own o j v) (own o j w) (visited o t j v) (visited o t j w) d.state e.state h; making = (d.making, e.making); leavers = (d.leavers, e.leavers) }
