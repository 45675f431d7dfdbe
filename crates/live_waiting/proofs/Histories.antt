-- Histories of visits: they go on, a visit that serves is a look, and names are of visits.
use Rattle.std.proofs.Common.{◌≡◌, ℕ, ◌≤◌, List, [], ◌∷◌, ◌++◌, Some, None, refl, ap, sym, ◌∙◌, ⊎_elim, arith, append_assoc}
use Rattle.std.specs.Option.{option_to_list}
use Rattle.grid_base.specs.Objects.{Object}
use Rattle.partition_protocol.specs.Arrivals.{CallName}
use Rattle.partition_protocol.proofs.Lists.{cases}
use Rattle.waiting_protocol.specs.Machine.{Waiter, Waiting, Terms, events_of, turn, gone_in}
use Rattle.waiting_protocol.specs.Claims.{names_in}
use Rattle.waiting_protocol.proofs.Turns.{at_some}
use Rattle.waiting_protocol.proofs.Names.{count, count_append, once_count, count_once}
use Rattle.live_waiting.specs.Cell.{Purpose, Calls, Makes, Brings, Drops, Looks, Visit, moment, timed, clock_line, is_busy, line_for, own_line, own, own_events, serving, visited, left_at, events_at, lines_at, cell_after, cell_left, cell_events, cell_lines}
use Rattle.live_waiting.specs.Claims.{Serves}
use Rattle.live_waiting.specs.LookClaims.{GoesOn, EveryCellGoesOn, looking, EveryServingVisitIsALook, purpose_names, visit_names, EveryNameIsOfAVisit}
use Rattle.live_waiting.proofs.Leavers.{named, named_append}
use Rattle.live_waiting.proofs.Visits.{still_lets, time_comes, is_free, ways}

module _ {C State : Type 0} (o : Object C State) (t : Terms C) where
  pub goes_on : (vs ws : List (Visit C)) (j : Waiting C) → GoesOn o t j vs ws
  goes_on [] ws j = record { state = refl; leavers = refl; making = refl; lines = refl }
  goes_on (v ∷ vs) ws j =
      let k : Waiting C = visited o t j v in
      let r = goes_on vs ws k in
      record {
        state = r.state;
        leavers = ap (λ gs. left_at o t j v ++ gs) r.leavers ∙ sym (append_assoc (left_at o t j v) (cell_left o t k vs) (cell_left o t (cell_after o t k vs) ws));
        making = ap (λ es. events_at o t j v ++ es) r.making ∙ sym (append_assoc (events_at o t j v) (cell_events o t k vs) (cell_events o t (cell_after o t k vs) ws));
        lines = ap (λ ls. lines_at o t j v ++ ls) r.lines ∙ sym (append_assoc (lines_at o t j v) (cell_lines o t k vs) (cell_lines o t (cell_after o t k vs) ws));
      }

pub every_cell_goes_on : {C State : Type 0} (o : Object C State) → EveryCellGoesOn o
every_cell_goes_on o t j vs ws = goes_on o t vs ws j

-- a visit that serves is a look

module _ {C State : Type 0} (o : Object C State) (t : Terms C) (j k : Waiting C) (v : Visit C) where
  pub serves_looking : (x : Waiter C) → Serves o t j v k x → Serves o t j (looking v) k x
  serves_looking x s = record {
    is = s.is;
    stands = s.stands;
    its = s.its;
    state = at_some (serving o t j v) (own o j (looking v)) (turn o t) k s.is;
    leavers = at_some (serving o t j v) [] (gone_in o t) k s.is ∙ s.its.gone;
    making = at_some (serving o t j v) (own_events j (looking v)) (λ (i : Waiting C). events_of (gone_in o t i)) k s.is ∙ ap events_of s.its.gone;
    plain_call = s.plain_call;
  }

  pub lines_looking : serving o t j v ≡ Some k → lines_at o t j (looking v) ≡ lines_at o t j v
  lines_looking e = ⊎_elim (λ b. (still_lets o t j (looking v) b).1 ∙ sym (still_lets o t j v b).1)
      (λ q. ⊎_elim (λ b. (time_comes o t j (looking v) q b).1 ∙ sym (time_comes o t j v q b).1) (λ f. absurd (clash (sym e ∙ (is_free o t j v q f).0.is))) (cases (is_busy o t (timed o j v)))) (cases (is_busy o t j))
    where
      clash : Some k ≡ None → ⊥
      clash z = absurd cc

pub every_serving_visit_is_a_look : {C State : Type 0} (o : Object C State) → EveryServingVisitIsALook o
every_serving_visit_is_a_look o t j k v x s =
    let r = serves_looking o t j k v x s in
    record {
      serves = r;
      state = r.state ∙ sym s.state;
      leavers = r.leavers ∙ sym s.leavers;
      making = r.making ∙ sym s.making;
      lines = lines_looking o t j k v s.is;
    }

-- names

pub own_named : {C : Type 0} (k : CallName) (m now : ℕ) (p : Purpose C) → named k (option_to_list (line_for m now p)) ≤ count k (purpose_names p)
own_named k m now (Calls conn number call) = omega arith
own_named k m now (Makes e) = let a = count_append k (purpose_names (Makes e)) [] in omega (arith, a)
own_named k m now (Brings conn number call deadline) = omega arith
own_named k m now (Drops conn) = omega arith
own_named k m now Looks = omega arith

module _ {C State : Type 0} (o : Object C State) (t : Terms C) (k : CallName) where
  pub visit_named : (j : Waiting C) (v : Visit C) → named k (lines_at o t j v) ≤ count k (purpose_names v.purpose)
  visit_named j v = ⊎_elim (λ r. none r.1) (λ r. ⊎_elim (λ s. one s.2) (λ s. its s.1) r) (ways o t j v)
    where
      none : lines_at o t j v ≡ [] → named k (lines_at o t j v) ≤ count k (purpose_names v.purpose)
      none e = let a : named k (lines_at o t j v) ≡ 0 = ap (named k) e in omega (arith, a)

      one : lines_at o t j v ≡ clock_line j v ∷ [] → named k (lines_at o t j v) ≤ count k (purpose_names v.purpose)
      one e = let a : named k (lines_at o t j v) ≡ 0 = ap (named k) e in omega (arith, a)

      its : lines_at o t j v ≡ clock_line j v ∷ option_to_list (own_line j v) → named k (lines_at o t j v) ≤ count k (purpose_names v.purpose)
      its e = let a : named k (lines_at o t j v) ≡ named k (option_to_list (own_line j v)) = ap (named k) e in let b = own_named k v.member (moment j v) v.purpose in omega (arith, a, b)

  pub all_named : (j : Waiting C) (vs : List (Visit C)) → named k (cell_lines o t j vs) ≤ count k (visit_names vs)
  all_named j [] = omega arith
  all_named j (v ∷ vs) =
      let i : Waiting C = visited o t j v in
      let a = visit_named j v in
      let b = all_named i vs in
      let c = named_append k (lines_at o t j v) (cell_lines o t i vs) in
      let d = count_append k (purpose_names v.purpose) (visit_names vs) in
      omega (arith, a, b, c, d)

pub every_name_is_of_a_visit : {C State : Type 0} (o : Object C State) → EveryNameIsOfAVisit o
every_name_is_of_a_visit o t j vs h = count_once (names_in (cell_lines o t j vs)) (λ k. let a = all_named o t k j vs in let b = once_count k (visit_names vs) h in omega (arith, a, b))
