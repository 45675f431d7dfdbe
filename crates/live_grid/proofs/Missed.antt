-- A call that comes to nothing, and one whose answer a member holds.
use Rattle.std.proofs.Common.{◌≡◌, ℕ, ◌<◌, ◌==◌, ◌&&◌, Bool, true, false, cond, not, nat_lt, List, map, length, Option, Some, None, slice_get, refl, sym, ◌∙◌, ◌⊎◌, ⊎_elim, inl, inr, arith}
use Rattle.std.proofs.lemmas.Option.{slice_get_cases}
use Rattle.partition_table.specs.Rows.{is_empty, is_among}
use Rattle.grid_base.specs.Objects.{Object}
use Rattle.partition_protocol.specs.Node.{Node, Held, settled}
use Rattle.partition_protocol.specs.World.{World, start, is_live, map_or, pair_state}
use Rattle.partition_protocol.specs.Events.{Event, Call, NothingDone, HeldAt, ReleasedAt, calling, if_executes, executes, happens, run}
use Rattle.partition_protocol.specs.Execution.{Reached, Executes, PartitionLost, WrongTarget, Migrating, reached, executing}
use Rattle.partition_protocol.specs.Arrivals.{name, arrivals, NamedOnce}
use Rattle.partition_protocol.specs.Answers.{answered_call}
use Rattle.partition_protocol.proofs.Lists.{contains_in, cases}
use Rattle.partition_protocol.proofs.RowFacts.{in_any, same_number, both_left, both_right, less}
use Rattle.partition_protocol.proofs.Answers.{every_answer_is_single}
use Rattle.primary_hold.specs.Answering.{holds_call}
use Rattle.partition_world.specs.ContentsOf.{holds_at}
use Rattle.grid_base.specs.declared.names.CallId.{CallId}
use Rattle.live_grid.specs.Outcomes.{name_of, IsUnanswered}

module _ {C State : Type 0} (o : Object C State) (w : World C) (m conn number : ℕ) (call : C) (now : ℕ) where
  executed : (b : Bool) (x : ℕ) → cond b (ReleasedAt x) (HeldAt x) ≡ NothingDone → ⊥
  executed true x e = absurd cc
  executed false x e = absurd cc

  -- a call that reaches a node is executed or refused
  not_missed : (n : Node) → (calling o w m conn number call now n).outcome ≡ NothingDone → ⊥
  not_missed n = go (reached m n)
    where
      go : (r : Reached) → (if_executes w r (executes o w m conn number call now n)).outcome ≡ NothingDone → ⊥
      go Executes e = executed (is_empty (settled (executing (o.changes (pair_state o w n.pair) call now) conn number n)).held) _ e
      go (PartitionLost v) e = absurd cc
      go (WrongTarget v) e = absurd cc
      go (Migrating v) e = absurd cc

  -- one that comes to nothing reached no live member, and changed nothing
  pub missed : length w.nodes ≡ w.members → (happens o w (Call m conn number call now)).outcome ≡ NothingDone
      → (is_live w m ≡ false) × ((happens o w (Call m conn number call now)).world ≡ w)
  missed size e = go (cases (is_live w m))
    where
      at : is_live w m ≡ true → (x : Option Node) → slice_get w.nodes m ≡ x → ⊥
      at lives (Some n) there = not_missed n (rw (lives, there) at e)
      at lives None none =
          let below : m < w.members = less m w.members (both_left (nat_lt m w.members) (not (is_among w.crashed m)) lives) in
          ⊎_elim (λ z. (let some = z.2 in absurd (cc))) (λ z. (let past = z.0 in omega (arith, below, size, past))) (slice_get_cases w.nodes m).1

      go : (is_live w m ≡ true) ⊎ (is_live w m ≡ false) → (is_live w m ≡ false) × ((happens o w (Call m conn number call now)).world ≡ w)
      go (inl lives) = absurd (at lives (slice_get w.nodes m) refl)
      go (inr dead) = (dead, rw dead refl)

module _ {C State : Type 0} (o : Object C State) (partition members backups : ℕ) (events : List (Event C)) (once : NamedOnce (map name (arrivals events))) where
  abbrev w : World C
  w = run o (start partition members backups) events

  -- of a call whose answer is held none was released
  pub held_unanswered : (m : ℕ) (id : CallId) → holds_at w m id ≡ true → IsUnanswered w (name_of id)
  held_unanswered m id = go (slice_get w.nodes m) refl
    where
      go : (x : Option Node) → slice_get w.nodes m ≡ x → map_or x false (λ (node : Node). holds_call id node.held) ≡ true → IsUnanswered w (name_of id)
      go None at e = absurd cc
      go (Some node) at e = λ answer released same.
          (let found = in_any (λ (h : Held). (h.conn == id.conn) && (h.number == id.number)) node.held e in
          let h = found.0 in
          let c = same_number h.conn id.conn (both_left (h.conn == id.conn) (h.number == id.number) found.2) in
          let n = same_number h.number id.number (both_right (h.conn == id.conn) (h.number == id.number) found.2) in
          let named : answered_call h ≡ name_of id = cc in
          (every_answer_is_single o partition members backups events once).waiting m node h answer at (contains_in h node.held found.1) released (named ∙ sym same))
