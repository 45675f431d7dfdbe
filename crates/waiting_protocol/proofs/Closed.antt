-- Once a connection has closed, none of its waiters is left, nor leaves by the rule.
use Rattle.std.proofs.Common.{◌≡◌, ◌≢◌, ℕ, zero, suc, true, false, not, ◌==◌, List, [], ◌∷◌, length, refl, ap, sym, ◌∙◌, subst, ⊎_elim, inl, inr}
use Rattle.grid_base.specs.Objects.{Object}
use Rattle.partition_protocol.proofs.Lists.{In, in_left, in_right, in_cases, in_contains, contains_in}
use Rattle.partition_protocol.proofs.Histories.{filter_in}
use Rattle.partition_protocol.proofs.RowFacts.{number_same}
use Rattle.waiting_protocol.specs.Machine.{Waiter, Waiting, Line, Closes, Terms, Gone, gone_as, turn, gone_in, gone, opened, goes, gone_by, after, all_gone}
use Rattle.waiting_protocol.specs.Claims.{IsItsTurn, waits_by, waits_in, EveryClosedConnectionIsLeft}
use Rattle.waiting_protocol.proofs.Turns.{turn_of}
use Rattle.waiting_protocol.proofs.Sources.{turn_from, turned_from, opened_from}

-- who leaves was on the list
module _ {C State : Type 0} (o : Object C State) (t : Terms C) (P : Waiter C → Type 0) where
  abbrev pub LeaveP : List (Gone C) → Type 0
  LeaveP gs = (g : Gone C) → In g gs → P g.waiter

  pub turn_leaves : (j : Waiting C) → ((x : Waiter C) → In x j.waiters → P x) → LeaveP (gone_in o t j)
  turn_leaves j h = ⊎_elim (λ s g i. absurd (subst (In g) s.2 i)) (λ s. busy s.0 s.1) (turn_of o t j)
    where
      one : (x : Waiter C) → IsItsTurn o t j x → (g : Gone C) → In g (gone_as o t j x ∷ []) → P g.waiter
      one x i g (inl e) = subst (λ (z : Gone C). P z.waiter) e (h x (subst (In x) (sym i.place) (in_right x i.front (x ∷ i.back) (inl refl))))
      one x i g (inr k) = absurd k

      busy : (x : Waiter C) → IsItsTurn o t j x → LeaveP (gone_in o t j)
      busy x i g k = one x i g (subst (In g) i.gone k)

  pub turned_leaves : (n : ℕ) (j : Waiting C) → ((x : Waiter C) → In x j.waiters → P x) → LeaveP (gone o t n j)
  turned_leaves zero j h g i = absurd i
  turned_leaves (suc n) j h g i =
      ⊎_elim (λ k. turn_leaves j h g k) (λ k. turned_leaves n (turn o t j) (turn_from o t P j h).0 g k) (in_cases g (gone_in o t j) (gone o t n (turn o t j)) i)

  pub all_leave : (j : Waiting C) (ls : List (Line C)) → ((x : Waiter C) → In x j.waiters → P x) → ((x : Waiter C) → In x (waits_in ls) → P x)
      → ((x : Waiter C) → In x (after o t j ls).waiters → P x) × LeaveP (all_gone o t j ls)
  all_leave j [] h k = (h, λ g i. absurd i)
  all_leave j (l ∷ ls) h k =
      let u = opened o j l in
      let a = opened_from o t P j l h (λ y z. k y (in_left y (waits_by l) (waits_in ls) z)) in
      let r = all_leave (goes o t j l) ls (turned_from o t P (length u.waiters) u a).0 (λ y z. k y (in_right y (waits_by l) (waits_in ls) z)) in
      (r.0, λ g i. ⊎_elim (λ z. turned_leaves (length u.waiters) u a g z) (λ z. r.1 g z) (in_cases g (gone_by o t j l) (all_gone o t (goes o t j l) ls) i))

-- another connection than the one that closed
stays : (a c : ℕ) → not (a == c) ≡ true → a ≢ c
stays a c e s = let f : true ≡ not (a == c) = sym e in let g : not (a == c) ≡ false = ap not (number_same a c s) in let h : true ≡ false = f ∙ g in absurd cc

pub every_closed_connection_is_left : {C State : Type 0} (o : Object C State) → EveryClosedConnectionIsLeft o
every_closed_connection_is_left {C} o t j conn more none =
    let Other : Waiter C → Type 0 = λ x. x.conn ≢ conn in
    let u : Waiting C = opened o j (Closes conn) in
    let a : (x : Waiter C) → In x u.waiters → x.conn ≢ conn = λ x i. stays x.conn conn (filter_in (λ (y : Waiter C). not (y.conn == conn)) j.waiters x i).1 in
    let r = all_leave o t Other (goes o t j (Closes conn)) more (turned_from o t Other (length u.waiters) u a).0 (λ x i. none x (contains_in x (waits_in more) i)) in (
      λ x c. r.0 x (in_contains x (after o t j (Closes conn ∷ more)).waiters c),
      λ g c. ⊎_elim (λ i. turned_leaves o t Other (length u.waiters) u a g i) (λ i. r.1 g i)
          (in_cases g (gone_by o t j (Closes conn)) (all_gone o t (goes o t j (Closes conn)) more) (in_contains g (all_gone o t j (Closes conn ∷ more)) c)),
    )
