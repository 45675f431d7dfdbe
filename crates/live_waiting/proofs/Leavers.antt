-- Who leaves: once, in order, and none whose connection was closed.
use Rattle.std.proofs.Common.{◌≡◌, ◌≢◌, ℕ, ◌+◌, ◌≤◌, ◌==◌, true, false, not, List, [], ◌∷◌, ◌++◌, map, filter, Option, Some, None, refl, ap, sym, ◌∙◌, subst, ⊎_elim, arith, append_assoc}
use Rattle.std.specs.Option.{option_to_list}
use Rattle.grid_base.specs.Objects.{Object}
use Rattle.partition_protocol.specs.World.{map_or}
use Rattle.partition_protocol.specs.Arrivals.{CallName}
use Rattle.partition_protocol.proofs.Lists.{In, in_left, in_right, in_cases, in_contains, contains_in}
use Rattle.partition_protocol.proofs.Histories.{filter_in}
use Rattle.partition_protocol.proofs.RowFacts.{number_same}
use Rattle.waiting_protocol.specs.Machine.{Waiter, Waiting, Line, Terms, Gone, turn, gone_in, opened, start}
use Rattle.waiting_protocol.specs.Claims.{IsQuiet, IsItsTurn, names_in, name_of, waits_by, waits_in}
use Rattle.waiting_protocol.proofs.Turns.{turn_of}
use Rattle.waiting_protocol.proofs.Names.{count, count_append, map_append, once_count, count_once, wait, wait_append, opened_counts}
use Rattle.waiting_protocol.proofs.Orders.{names_append}
use Rattle.waiting_protocol.proofs.Sources.{turn_from, opened_from}
use Rattle.waiting_protocol.proofs.Closed.{turn_leaves}
use Rattle.waiting_protocol.proofs.Fates as fates
use Rattle.live_waiting.specs.Cell.{Visit, moment, timed, line_for, own_line, own, visited, left_at, lines_at, cell_after, cell_left, cell_lines}
use Rattle.live_waiting.specs.Claims.{EveryWaiterLeavesOnce, EveryEarlierGoesFirst, EveryClosedConnectionIsLeft}
use Rattle.live_waiting.proofs.Visits.{GoesFirst, IsOwn, ways}

-- the earlier first

pub every_earlier_goes_first : {C State : Type 0} (o : Object C State) → EveryEarlierGoesFirst o
every_earlier_goes_first o t j k v x y s c m e node at = fates.earlier_of_two_goes_first o t k x y s.its c m e node at

-- once

abbrev pub leaver_name : {C : Type 0} → Gone C → CallName
leaver_name g = name_of g.waiter

abbrev pub leave : {C : Type 0} → CallName → List (Gone C) → ℕ
leave {C} k gs = count k (map (λ (g : Gone C). name_of g.waiter) gs)

pub leave_append : {C : Type 0} (k : CallName) (xs ys : List (Gone C)) → leave k (xs ++ ys) ≡ leave k xs + leave k ys
leave_append {C} k xs ys = ap (count k) (map_append (λ (g : Gone C). name_of g.waiter) xs ys) ∙ count_append k (map (λ (g : Gone C). name_of g.waiter) xs) (map (λ (g : Gone C). name_of g.waiter) ys)

abbrev pub named : {C : Type 0} → CallName → List (Line C) → ℕ
named k ls = count k (names_in ls)

pub named_append : {C : Type 0} (k : CallName) (ls ms : List (Line C)) → named k (ls ++ ms) ≡ named k ls + named k ms
named_append k ls ms = ap (count k) (names_append ls ms) ∙ count_append k (names_in ls) (names_in ms)

module _ {C State : Type 0} (o : Object C State) (t : Terms C) (k : CallName) where
  pub turn_leaving : (j : Waiting C) → leave k (gone_in o t j) + wait k (turn o t j).waiters ≤ wait k j.waiters
  turn_leaving j = ⊎_elim quiet (λ s. busy s.0 s.1) (turn_of o t j)
    where
      quiet : IsQuiet o t j × (turn o t j ≡ j) × (gone_in o t j ≡ []) → leave k (gone_in o t j) + wait k (turn o t j).waiters ≤ wait k j.waiters
      quiet s =
          let a : leave k (gone_in o t j) ≡ 0 = ap (leave k) s.2 in
          let b : wait k (turn o t j).waiters ≡ wait k j.waiters = ap (λ (i : Waiting C). wait k i.waiters) s.1 in
          omega (arith, a, b)

      busy : (x : Waiter C) → IsItsTurn o t j x → leave k (gone_in o t j) + wait k (turn o t j).waiters ≤ wait k j.waiters
      busy x i =
          let a : leave k (gone_in o t j) ≡ count k (name_of x ∷ []) = ap (leave k) i.gone in
          let b : wait k (turn o t j).waiters ≡ wait k (i.front ++ i.back) = ap (λ (z : Waiting C). wait k z.waiters) i.left in
          let c : wait k j.waiters ≡ wait k (i.front ++ x ∷ i.back) = ap (wait k) i.place in
          let d = wait_append k i.front i.back in
          let e = wait_append k i.front (x ∷ i.back) in
          omega (arith, a, b, c, d, e)

  pub own_counts : (i : Waiting C) (r : Option (Line C)) → wait k (map_or r i (opened o i)).waiters ≤ wait k i.waiters + named k (option_to_list r)
  own_counts i None = omega arith
  own_counts i (Some l) = let a = opened_counts o t k i l in omega (arith, a)

  abbrev pub Counts : Waiting C → Visit C → Type 0
  Counts j v = leave k (left_at o t j v) + wait k (visited o t j v).waiters ≤ wait k j.waiters + named k (lines_at o t j v)

  pub serving_counts : (j : Waiting C) (v : Visit C) (i : Waiting C) → i.waiters ≡ j.waiters → GoesFirst o t j v i → Counts j v
  serving_counts j v i e f =
      let a : leave k (left_at o t j v) ≡ leave k (gone_in o t i) = ap (leave k) f.leavers in
      let b : wait k (visited o t j v).waiters ≡ wait k (turn o t i).waiters = ap (λ (z : Waiting C). wait k z.waiters) f.state in
      let c = turn_leaving i in
      let d : wait k i.waiters ≡ wait k j.waiters = ap (wait k) e in
      omega (arith, a, b, c, d)

  pub own_counted : (j : Waiting C) (v : Visit C) → IsOwn o t j v → Counts j v
  own_counted j v d =
      let a : leave k (left_at o t j v) ≡ 0 = ap (leave k) d.0.leavers in
      let b : wait k (visited o t j v).waiters ≡ wait k (own o j v).waiters = ap (λ (z : Waiting C). wait k z.waiters) d.0.state in
      let c : wait k (own o j v).waiters ≤ wait k j.waiters + named k (option_to_list (own_line j v)) = own_counts (timed o j v) (own_line j v) in
      let e : named k (lines_at o t j v) ≡ named k (option_to_list (own_line j v)) = ap (named k) d.1 in
      omega (arith, a, b, c, e)

  pub visit_counts : (j : Waiting C) (v : Visit C) → Counts j v
  visit_counts j v = ⊎_elim (λ r. serving_counts j v j refl r.0) (λ r. ⊎_elim (λ s. serving_counts j v (timed o j v) refl s.1) (own_counted j v) r) (ways o t j v)

  pub cell_counts : (j : Waiting C) (vs : List (Visit C)) → leave k (cell_left o t j vs) + wait k (cell_after o t j vs).waiters ≤ wait k j.waiters + named k (cell_lines o t j vs)
  cell_counts j [] = omega arith
  cell_counts j (v ∷ vs) =
      let i : Waiting C = visited o t j v in
      let a = visit_counts j v in
      let b = cell_counts i vs in
      let c = leave_append k (left_at o t j v) (cell_left o t i vs) in
      let d = named_append k (lines_at o t j v) (cell_lines o t i vs) in
      omega (arith, a, b, c, d)

-- what holds of who is taken in holds of who waits and of who leaves

pub waits_append : {C : Type 0} (ls ms : List (Line C)) → waits_in (ls ++ ms) ≡ waits_in ls ++ waits_in ms
waits_append [] ms = refl
waits_append (l ∷ ls) ms = ap (λ xs. waits_by l ++ xs) (waits_append ls ms) ∙ sym (append_assoc (waits_by l) (waits_in ls) (waits_in ms))

module _ {C State : Type 0} (o : Object C State) (t : Terms C) (P : Waiter C → Type 0) where
  abbrev pub AreP : List (Waiter C) → Type 0
  AreP xs = (x : Waiter C) → In x xs → P x

  abbrev pub LeaveP : List (Gone C) → Type 0
  LeaveP gs = (g : Gone C) → In g gs → P g.waiter

  abbrev pub VisitP : Waiting C → Visit C → Type 0
  VisitP j v = AreP (visited o t j v).waiters × LeaveP (left_at o t j v)

  pub serving_from : (j : Waiting C) (v : Visit C) (i : Waiting C) → AreP i.waiters → GoesFirst o t j v i → VisitP j v
  serving_from j v i h f = (
    subst (λ (z : Waiting C). AreP z.waiters) (sym f.state) (turn_from o t P i h).0,
    subst LeaveP (sym f.leavers) (turn_leaves o t P i h),
  )

  pub own_from : (i : Waiting C) (r : Option (Line C)) → AreP i.waiters → AreP (waits_in (option_to_list r)) → AreP (map_or r i (opened o i)).waiters
  own_from i None h k = h
  own_from i (Some l) h k = opened_from o t P i l h (λ x c. k x (in_left x (waits_by l) [] c))

  pub own_taken : (j : Waiting C) (v : Visit C) → AreP j.waiters → AreP (waits_in (lines_at o t j v)) → IsOwn o t j v → VisitP j v
  own_taken j v h k d = (
    subst (λ (z : Waiting C). AreP z.waiters) (sym d.0.state) (own_from (timed o j v) (own_line j v) h (subst (λ ls. AreP (waits_in ls)) d.1 k)),
    subst LeaveP (sym d.0.leavers) (λ g i. absurd i),
  )

  pub visit_from : (j : Waiting C) (v : Visit C) → AreP j.waiters → AreP (waits_in (lines_at o t j v)) → VisitP j v
  visit_from j v h k = ⊎_elim (λ r. serving_from j v j h r.0) (λ r. ⊎_elim (λ s. serving_from j v (timed o j v) h s.1) (own_taken j v h k) r) (ways o t j v)

  pub cell_from : (j : Waiting C) (vs : List (Visit C)) → AreP j.waiters → AreP (waits_in (cell_lines o t j vs)) → AreP (cell_after o t j vs).waiters × LeaveP (cell_left o t j vs)
  cell_from j [] h k = (h, λ g i. absurd i)
  cell_from j (v ∷ vs) h k =
      let i : Waiting C = visited o t j v in
      let here : List (Waiter C) = waits_in (lines_at o t j v) in
      let next : List (Waiter C) = waits_in (cell_lines o t i vs) in
      let all : AreP (here ++ next) = subst AreP (waits_append (lines_at o t j v) (cell_lines o t i vs)) k in
      let a = visit_from j v h (λ x c. all x (in_left x here next c)) in
      let r = cell_from i vs a.0 (λ x c. all x (in_right x here next c)) in
      (r.0, λ g c. ⊎_elim (λ z. a.1 g z) (λ z. r.1 g z) (in_cases g (left_at o t j v) (cell_left o t i vs) c))

pub every_waiter_leaves_once : {C State : Type 0} (o : Object C State) → EveryWaiterLeavesOnce o
every_waiter_leaves_once {C} o t p n b visits =
    let s : Waiting C = start p n b in
    let lines : List (Line C) = cell_lines o t s visits in
    let j : Waiting C = cell_after o t s visits in
    let left : List (Gone C) = cell_left o t s visits in
    let r = cell_from o t (λ x. In x (waits_in lines)) s visits (λ x i. absurd i) (λ x i. i) in
    record {
      once = λ h. count_once (map (λ (g : Gone C). name_of g.waiter) left ++ map name_of j.waiters)
          (λ k. let a = cell_counts o t k s visits in let c = once_count k (names_in lines) h in let d = count_append k (map (λ (g : Gone C). name_of g.waiter) left) (map name_of j.waiters) in omega (arith, a, c, d));
      arrived = λ g c. contains_in g.waiter (waits_in lines) (r.1 g (in_contains g left c));
      waits = λ x c. contains_in x (waits_in lines) (r.0 x (in_contains x j.waiters c));
    }

-- closed

-- another connection than the one that closed
stays : (a c : ℕ) → not (a == c) ≡ true → a ≢ c
stays a c e s = let f : true ≡ not (a == c) = sym e in let g : not (a == c) ≡ false = ap not (number_same a c s) in let h : true ≡ false = f ∙ g in absurd cc

pub every_closed_connection_is_left : {C State : Type 0} (o : Object C State) → EveryClosedConnectionIsLeft o
every_closed_connection_is_left {C} o t j v conn more e d none =
    let Other : Waiter C → Type 0 = λ x. x.conn ≢ conn in
    let k : Waiting C = visited o t j v in
    let f : k.waiters ≡ filter (λ (x : Waiter C). not (x.conn == conn)) j.waiters = ap (λ (i : Waiting C). i.waiters) d.state ∙ ap (λ p. (map_or (line_for v.member (moment j v) p) (timed o j v) (opened o (timed o j v))).waiters) e in
    let a : (x : Waiter C) → In x k.waiters → x.conn ≢ conn = λ x i. stays x.conn conn (filter_in (λ (y : Waiter C). not (y.conn == conn)) j.waiters x (subst (In x) f i)).1 in
    let r = cell_from o t Other k more a (λ x i. none x (contains_in x (waits_in (cell_lines o t k more)) i)) in (
      λ x c. r.0 x (in_contains x (cell_after o t k more).waiters c),
      λ g c. r.1 g (in_contains g (cell_left o t k more) c),
    )
