-- What is acknowledged is so.
use Rattle.std.proofs.Common.{◌≡◌, ℕ, ◌<◌, ◌≤◌, true, not, List, Some, subst, ◌⊎◌, inl, inr, Contains}
use Rattle.partition_table.specs.Rows.{is_in, is_primary, is_backup}
use Rattle.partition_protocol.specs.Messages.{Ack, Packet}
use Rattle.partition_protocol.specs.Node.{Node, acked, acked_by}
use Rattle.partition_protocol.specs.World.{World}
use Rattle.partition_protocol.specs.Claims.{HasReached, IsAcknowledged}
use Rattle.partition_protocol.proofs.Lists.{every_in, in_contains}
use Rattle.partition_protocol.proofs.Invariant.{Shape, NodeAt, HasUpTo, HasAcked, PacketOk, Frame}
use Rattle.partition_protocol.proofs.RowFacts.{both_right}
use Rattle.partition_protocol.proofs.Forward.{left_later}
use Rattle.partition_protocol.proofs.Release.{acked_by_in, or_opening_cases}

module _ {C : Type 0} (w : World C) (made : List Shape) (frame : Frame w made) where
  -- who has left a version knows a later row
  pub has_reached : (v c b : ℕ) → HasAcked w.nodes w.recorded.bases made v c b → HasReached w b v c
  has_reached v c b h node at = go (h node at)
    where
      go : HasUpTo w.recorded.bases made v c b node → ((node.pair.version ≡ v) × (c ≤ node.pair.count)) ⊎ (v < node.known.version)
      go (inl s) = inl s
      go (inr l) = inr (left_later w.recorded.bases made v b node.known.version l)

  pub in_flight : (p : Packet) (v c : ℕ) → Contains w.packets p → p.message ≡ Ack v c → HasReached w p.from v c
  in_flight p v c i e =
      let good : PacketOk w.nodes w.recorded.bases made w.crashed p.from p.message = every_in (λ (q : Packet). PacketOk w.nodes w.recorded.bases made w.crashed q.from q.message) w.packets p frame.packets (in_contains p w.packets i) in
      has_reached v c p.from (subst (λ k. PacketOk w.nodes w.recorded.bases made w.crashed p.from k) e good).1

  pub counted : (m : ℕ) (n : Node) (b c : ℕ) → NodeAt w.nodes m n → is_backup n.known b ≡ true → acked n b ≡ Some c → HasReached w b n.known.version c
  counted m n b c at i e = go (or_opening_cases n.opening (acked_by b n.acks) c e)
    where
      go : (acked_by b n.acks ≡ Some c) ⊎ ((n.opening ≡ true) × (0 ≡ c)) → HasReached w b n.known.version c
      go (inl s) = has_reached n.known.version c b (acked_by_in (λ d k. HasAcked w.nodes w.recorded.bases made n.known.version d k) b c n.acks (frame.acks m n at).taken s)
      go (inr s) = subst (λ d. HasReached w b n.known.version d) s.1 (has_reached n.known.version 0 b ((frame.acks m n at).opening s.0 b (both_right (not (is_primary n.known b)) (is_in n.known b) i)))

  pub is_acknowledged : IsAcknowledged w
  is_acknowledged = record { in_flight = in_flight; counted = counted }
