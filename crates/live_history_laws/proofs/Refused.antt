-- A call that was refused changed nothing.
use Rattle.std.proofs.Common.{◌≡◌, ℕ, Bool, true, false, cond, Option, Some, None, slice_get, refl}
use Rattle.grid_base.specs.Objects.{Object}
use Rattle.partition_protocol.specs.Node.{Node}
use Rattle.partition_protocol.specs.World.{World, is_live, map_or}
use Rattle.partition_protocol.specs.Events.{Call, Happened, Refused, HeldAt, ReleasedAt, nothing, calling, if_executes, executes, happens}
use Rattle.partition_protocol.specs.Execution.{Reached, Executes, PartitionLost, WrongTarget, Migrating, reached}

module _ {C State : Type 0} (o : Object C State) (w : World C) (m conn number : ℕ) (call : C) (now : ℕ) (why : Reached) where
  executed : (b : Bool) (x : ℕ) → cond b (ReleasedAt x) (HeldAt x) ≡ Refused why → ⊥
  executed true x e = absurd cc
  executed false x e = absurd cc

  abbrev Keeps : Happened C → Type 0
  Keeps h = h.outcome ≡ Refused why → h.world ≡ w

  at_node_kept : (n : Node) → Keeps (calling o w m conn number call now n)
  at_node_kept n = go (reached m n)
    where
      go : (r : Reached) → Keeps (if_executes w r (executes o w m conn number call now n))
      go Executes e = absurd (executed _ _ e)
      go (PartitionLost v) e = refl
      go (WrongTarget v) e = refl
      go (Migrating v) e = refl

  there_kept : (x : Option Node) → Keeps (map_or x (nothing w) (calling o w m conn number call now))
  there_kept None e = absurd cc
  there_kept (Some n) e = at_node_kept n e

  pub refused_kept : (happens o w (Call m conn number call now)).outcome ≡ Refused why → (happens o w (Call m conn number call now)).world ≡ w
  refused_kept = go (is_live w m)
    where
      go : (b : Bool) → Keeps (cond b (map_or (slice_get w.nodes m) (nothing w) (calling o w m conn number call now)) (nothing w))
      go true e = there_kept (slice_get w.nodes m) e
      go false e = absurd cc
