-- A step of one node keeps the frame.
use Rattle.std.proofs.Common.{◌≡◌, ◌≢◌, ℕ, ◌+◌, ◌<◌, List, slice_set, sym, ◌∙◌, subst, ◌⊎◌, inl, inr}
use Rattle.partition_protocol.specs.Messages.{Packet}
use Rattle.partition_protocol.specs.Node.{Held, Node}
use Rattle.partition_protocol.specs.History.{Entry, Base}
use Rattle.partition_protocol.specs.World.{World}
use Rattle.partition_protocol.proofs.Lists.{In, Every, every_weaker, get_set, set_get_same, set_get_other}
use Rattle.partition_protocol.proofs.Histories.{Falling}
use Rattle.partition_protocol.proofs.RowFacts.{number_cases}
use Rattle.partition_protocol.proofs.Invariant.{Shape, NodeAt, IsUpTo, PacketOk, EntryOk, NodeOk, AcksOk, BaseOk, PairUp, Frame}
use Rattle.partition_protocol.proofs.Forward.{NodeForward, forward_same, Forward, packet_forward, entry_forward, node_forward, acks_forward, top_forward, based_forward, up_forward, move_forward, gone_forward, since_forward}

-- the world with these parts
abbrev pub moved : {C : Type 0} → World C → List Node → List Base → List Packet → List (Entry C) → List Held → World C
moved w ns bs ps lg rl = record w { nodes = ns; packets = ps; released = rl; recorded = record w.recorded { bases = bs; log = lg } }

pub set_forward : (nodes : List Node) (bases bases' : List Base) (made : List Shape) (crashed : List ℕ) (m : ℕ) (n n' : Node) → NodeAt nodes m n → NodeForward bases bases' made m n n' → ((b : Base) → In b bases → In b bases')
    → Forward nodes (slice_set nodes m n') bases bases' made made crashed crashed
set_forward nodes bases bases' made crashed m n n' at f i = record {
  bases_in = i;
  made_in = λ s j. j;
  crashed_in = λ k c. c;
  nodes_up = λ k x y. go k x (get_set nodes m k n' x y);
}
  where
    go : (k : ℕ) (x : Node) → ((k ≡ m) × (n' ≡ x)) ⊎ ((k ≢ m) × NodeAt nodes k x) → (n : Node) × NodeAt nodes k n × NodeForward bases bases' made k n x
    go k x (inl e) = (n, subst (λ j. NodeAt nodes j n) (sym e.0) at, subst (λ j. NodeForward bases bases' made j n x) (sym e.0) (subst (λ y. NodeForward bases bases' made m n y) e.1 f))
    go k x (inr e) = (x, e.1, forward_same bases bases' made k x)

-- what a step of node m owes
pub record NodeStep {C : Type 0} (w : World C) (made : List Shape) (m : ℕ) (n n' : Node) (bs : List Base) (ps : List Packet) (lg : List (Entry C)) : Type 0 where
  pub forward : NodeForward w.recorded.bases bs made m n n'
  pub bases_in : (b : Base) → In b w.recorded.bases → In b bs
  pub node : NodeOk bs made m n'
  pub acks : AcksOk (slice_set w.nodes m n') bs made n'
  pub top : IsUpTo (slice_set w.nodes m n') n'.pair.version n'.pair.count
  pub packets : Every (λ (p : Packet). PacketOk (slice_set w.nodes m n') bs made w.crashed p.from p.message) ps
  pub falling : Falling (w.service.row.version + 1) bs
  pub bases : Every (BaseOk (slice_set w.nodes m n') made) bs
  pub pairs : (b : Base) → In b bs → PairUp (slice_set w.nodes m n') bs b
  pub log : Every (EntryOk (slice_set w.nodes m n') bs) lg

module _ {C : Type 0} (w : World C) (made : List Shape) (ok : Frame w made) (m : ℕ) (n n' : Node) (at : NodeAt w.nodes m n) (bs : List Base) where
  -- what was in flight and in the log stays right
  pub packets_kept : NodeForward w.recorded.bases bs made m n n' → ((b : Base) → In b w.recorded.bases → In b bs) → (ps : List Packet)
      → Every (λ (p : Packet). PacketOk w.nodes w.recorded.bases made w.crashed p.from p.message) ps → Every (λ (p : Packet). PacketOk (slice_set w.nodes m n') bs made w.crashed p.from p.message) ps
  packets_kept f i ps h = every_weaker (λ (p : Packet). PacketOk w.nodes w.recorded.bases made w.crashed p.from p.message) (λ (p : Packet). PacketOk (slice_set w.nodes m n') bs made w.crashed p.from p.message) ps
      (λ p q. packet_forward w.nodes (slice_set w.nodes m n') w.recorded.bases bs made made w.crashed w.crashed (set_forward w.nodes w.recorded.bases bs made w.crashed m n n' at f i) p.from p.message q) h

  pub log_kept : NodeForward w.recorded.bases bs made m n n' → ((b : Base) → In b w.recorded.bases → In b bs) → Every (EntryOk (slice_set w.nodes m n') bs) w.recorded.log
  log_kept f i = every_weaker (EntryOk w.nodes w.recorded.bases) (EntryOk (slice_set w.nodes m n') bs) w.recorded.log
      (λ x q. entry_forward w.nodes (slice_set w.nodes m n') w.recorded.bases bs made made w.crashed w.crashed (set_forward w.nodes w.recorded.bases bs made w.crashed m n n' at f i) x q) ok.log

  pub bases_kept : NodeForward w.recorded.bases bs made m n n' → ((b : Base) → In b w.recorded.bases → In b bs) → Every (BaseOk (slice_set w.nodes m n') made) w.recorded.bases
  bases_kept f i = every_weaker (BaseOk w.nodes made) (BaseOk (slice_set w.nodes m n') made) w.recorded.bases
      (λ b q. based_forward w.nodes (slice_set w.nodes m n') w.recorded.bases bs made made w.crashed w.crashed (set_forward w.nodes w.recorded.bases bs made w.crashed m n n' at f i) b q) ok.bases

  pub pairs_kept : NodeForward w.recorded.bases bs made m n n' → ((b : Base) → In b w.recorded.bases → In b bs) → (b : Base) → In b w.recorded.bases → PairUp (slice_set w.nodes m n') bs b
  pairs_kept f i b j = up_forward w.nodes (slice_set w.nodes m n') w.recorded.bases bs made made w.crashed w.crashed (set_forward w.nodes w.recorded.bases bs made w.crashed m n n' at f i) b j (ok.pairs b j)

  pub frame_step : (ps : List Packet) (lg : List (Entry C)) (rl : List Held) → NodeStep w made m n n' bs ps lg → Frame (moved w (slice_set w.nodes m n') bs ps lg rl) made
  frame_step ps lg rl s = record {
    rows = ok.rows;
    standing = ok.standing;
    moving = move_forward w.nodes (slice_set w.nodes m n') w.recorded.bases bs made made w.crashed w.crashed up w.service.row w.service.move ok.moving;
    detected = ok.detected;
    gone = λ a b k i j l e d. gone_forward w.nodes (slice_set w.nodes m n') w.recorded.bases bs made made w.crashed w.crashed up a.version k (ok.gone a b k i j l e d);
    there = λ k l. there k l;
    nodes = λ k x y. nodes k x (get_set w.nodes m k n' x y);
    acks = λ k x y. acks k x (get_set w.nodes m k n' x y);
    tops = λ k x y. tops k x (get_set w.nodes m k n' x y);
    packets = s.packets;
    falling = s.falling;
    bases = s.bases;
    pairs = s.pairs;
    log = s.log;
    since = λ q x t e y i l. since_forward w.nodes (slice_set w.nodes m n') w.recorded.bases bs made made w.crashed w.crashed up w.recorded.standing q x t y (λ z a. ok.since q z t e a i l);
  }
    where
      up : Forward w.nodes (slice_set w.nodes m n') w.recorded.bases bs made made w.crashed w.crashed
      up = set_forward w.nodes w.recorded.bases bs made w.crashed m n n' at s.forward s.bases_in

      there_at : (k : ℕ) → (z : Node) × NodeAt w.nodes k z → ((k ≡ m)) ⊎ (k ≢ m) → (z : Node) × NodeAt (slice_set w.nodes m n') k z
      there_at k z (inl e) = (n', subst (λ j. NodeAt (slice_set w.nodes m n') j n') (sym e) (set_get_same w.nodes m n' n at))
      there_at k z (inr d) = (z.0, set_get_other w.nodes m k n' d ∙ z.1)

      there : (k : ℕ) → k < w.members → (z : Node) × NodeAt (slice_set w.nodes m n') k z
      there k l = there_at k (ok.there k l) (number_cases k m)

      nodes : (k : ℕ) (x : Node) → ((k ≡ m) × (n' ≡ x)) ⊎ ((k ≢ m) × NodeAt w.nodes k x) → NodeOk bs made k x
      nodes k x (inl e) = subst (λ j. NodeOk bs made j x) (sym e.0) (subst (λ y. NodeOk bs made m y) e.1 s.node)
      nodes k x (inr e) = node_forward w.nodes (slice_set w.nodes m n') w.recorded.bases bs made made w.crashed w.crashed up k x (ok.nodes k x e.1)

      acks : (k : ℕ) (x : Node) → ((k ≡ m) × (n' ≡ x)) ⊎ ((k ≢ m) × NodeAt w.nodes k x) → AcksOk (slice_set w.nodes m n') bs made x
      acks k x (inl e) = subst (λ y. AcksOk (slice_set w.nodes m n') bs made y) e.1 s.acks
      acks k x (inr e) = acks_forward w.nodes (slice_set w.nodes m n') w.recorded.bases bs made made w.crashed w.crashed up x (ok.acks k x e.1)

      tops : (k : ℕ) (x : Node) → ((k ≡ m) × (n' ≡ x)) ⊎ ((k ≢ m) × NodeAt w.nodes k x) → IsUpTo (slice_set w.nodes m n') x.pair.version x.pair.count
      tops k x (inl e) = subst (λ (y : Node). IsUpTo (slice_set w.nodes m n') y.pair.version y.pair.count) e.1 s.top
      tops k x (inr e) = top_forward w.nodes (slice_set w.nodes m n') w.recorded.bases bs made made w.crashed w.crashed up k x (ok.nodes k x e.1) (ok.tops k x e.1)
