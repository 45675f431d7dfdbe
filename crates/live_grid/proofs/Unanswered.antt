-- Calls of which no answer was released.
use Rattle.std.proofs.Common.{◌≡◌, ◌≢◌, ℕ, suc, zero, ◌≤◌, Bool, true, false, List, [], ◌∷◌, map, length, Some, None, slice_get, Contains, refl, sym, ap, ◌∙◌, subst, ◌⊎◌, ⊎_elim, inl, inr}
use Rattle.grid_base.specs.Objects.{Object}
use Rattle.partition_protocol.specs.Node.{Node, Held}
use Rattle.partition_protocol.specs.History.{Called}
use Rattle.partition_protocol.specs.World.{World, start}
use Rattle.partition_protocol.specs.Events.{Event, happens, run}
use Rattle.partition_protocol.specs.Arrivals.{CallName, name, arrivals}
use Rattle.partition_protocol.specs.Answers.{answered_call}
use Rattle.partition_protocol.specs.Sequences.{picked}
use Rattle.partition_protocol.proofs.Lists.{In, in_contains, contains_in}
use Rattle.partition_protocol.proofs.Invariant.{NodeAt}
use Rattle.partition_protocol.proofs.RowFacts.{in_map}
use Rattle.partition_protocol.proofs.HistorySizes.{every_logged_call_arrived}
use Rattle.partition_protocol.proofs.Walk.{walk}
use Rattle.partition_protocol.proofs.Theorem.{grid_safe}

picked_in : {X : Type 0} (marks : List Bool) (ys : List X) (x : X) → In x (picked marks ys) → In x ys
picked_in [] ys x i = absurd i
picked_in (b ∷ marks) [] x i = absurd i
picked_in (true ∷ marks) (y ∷ ys) x (inl e) = inl e
picked_in (true ∷ marks) (y ∷ ys) x (inr i) = inr (picked_in marks ys x i)
picked_in (false ∷ marks) (y ∷ ys) x i = inr (picked_in marks ys x i)

none_some : {A : Type 0} (a : A) → ◌≡◌ None (Some a) → ⊥
none_some a e = cc

module _ {C State : Type 0} (o : Object C State) where
  -- without members nothing is released
  abbrev Idle : World C → Type 0
  Idle w = (w.nodes ≡ []) × (w.released ≡ [])

  no_node : (w : World C) (m : ℕ) (n : Node) → w.nodes ≡ [] → NodeAt w.nodes m n → ⊥
  no_node w m n e at = none_some n (subst (λ (ns : List Node). slice_get ns m ≡ Some n) e at)

  idle_after : (w : World C) (e : Event C) → Idle w → Idle (happens o w e).world
  idle_after w = walk o w (λ e u. Idle w → Idle u) (λ e ps z. z) (λ e m z. z) (λ e s st ps z. z) (λ e s st ps z. z)
      (λ e f t i q n j at l z. absurd (no_node w q.to n z.0 at)) (λ m conn number call now n at l p f z. absurd (no_node w m n z.0 at))

  idle_run : (w : World C) (es : List (Event C)) → Idle w → Idle (run o w es)
  idle_run w [] z = z
  idle_run w (e ∷ es) z = idle_run (happens o w e).world es (idle_after w e z)

  -- an answer that was released is that of a call which arrived
  pub released_named : (partition members backups : ℕ) (events : List (Event C)) (answer : Held) → Contains (run o (start partition members backups) events).released answer
      → In (answered_call answer) (map name (arrivals events))
  released_named partition zero backups events answer c =
      absurd (subst (In answer) (idle_run (start partition zero backups) events (refl, refl)).1 (in_contains answer _ c))
  released_named partition (suc members) backups events answer c =
      let safe = grid_safe o partition (suc members) backups events (omega Rattle.std.proofs.Common.arith) in
      let there = safe.answered answer c in
      let x = there.0 in
      let logged : In (Called x) (run o (start partition (suc members) backups) events).recorded.log = picked_in safe.in_order.0 _ (Called x) (subst (In (Called x)) (sym safe.in_order.1) (in_contains (Called x) _ there.1)) in
      let arrived = (every_logged_call_arrived o partition (suc members) backups events).each x (contains_in (Called x) _ logged) in
      subst (λ (n : CallName). In n (map name (arrivals events))) (let a = there.2 in let b = there.3 in cc) (in_map name (arrivals events) _ (in_contains _ (arrivals events) arrived))
