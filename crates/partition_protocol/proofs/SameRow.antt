-- The steps of a node that knows the same row: its pair, its acknowledgements, its mark.
use Rattle.std.proofs.Common.{◌≡◌, ℕ, ◌+◌, ◌<◌, ◌≤◌, max, Bool, true, false, ◌==◌, List, [], ◌∷◌, nat_lt, slice_set, refl, sym, ◌∙◌, subst, ◌⊎◌, inl, inr, arith, le_refl}
use Rattle.partition_table.specs.Rows.{is_primary, is_eligible}
use Rattle.partition_protocol.specs.Messages.{Packet}
use Rattle.partition_protocol.specs.Node.{Acknowledged, Held, Node, with_ack}
use Rattle.partition_protocol.specs.Replica.{with_pair}
use Rattle.grid_base.specs.Objects.{Object}
use Rattle.partition_protocol.specs.History.{Base, history, opening_at}
use Rattle.partition_protocol.specs.World.{World}
use Rattle.partition_protocol.specs.Claims.{Stands}
use Rattle.partition_protocol.proofs.Lists.{In, Every, every_weaker, cases}
use Rattle.partition_protocol.proofs.Histories.{IsBase, stands_more, stands_start}
use Rattle.partition_protocol.proofs.Invariant.{Shape, NodeAt, IsMember, IsUpTo, HasUpTo, HasAcked, HasLeft, PacketOk, NodeOk, AcksOk, Frame, content, ContentOk, Invariant}
use Rattle.partition_protocol.proofs.RowFacts.{not_less, is_less, less, is_not_less, not_both, same_number}
use Rattle.partition_protocol.proofs.Forward.{NodeForward, Forward, upto_forward, acks_forward, acked_forward, top_forward}
use Rattle.partition_protocol.proofs.Steps.{set_forward, packets_kept, log_kept, pairs_kept, bases_kept, frame_step}
use Rattle.partition_protocol.proofs.Contents.{HasKept, content_step}

-- other messages in flight

pub frame_packets : {C : Type 0} (w : World C) (made : List Shape) (ps : List Packet) → Frame w made → Every (λ (p : Packet). PacketOk w.nodes w.recorded.bases made w.crashed p.from p.message) ps → Frame (record w { packets = ps }) made
frame_packets w made ps f h = record {
  rows = f.rows;
  standing = f.standing;
  moving = f.moving;
  detected = f.detected;
  gone = f.gone;
  there = f.there;
  nodes = f.nodes;
  acks = f.acks;
  tops = f.tops;
  packets = h;
  falling = f.falling;
  bases = f.bases;
  pairs = f.pairs;
  log = f.log;
  since = f.since;
}

pub content_packets : {C State : Type 0} (o : Object C State) (w : World C) (made : List Shape) (ps : List Packet) → ContentOk o w made → ContentOk o (record w { packets = ps }) made
content_packets o w made ps c = record { rising = c.rising; good = c.good; opened = c.opened; old = c.old; resets = c.resets; kept = c.kept; base_kept = c.base_kept; held = c.held }

pub inv_packets : {C State : Type 0} (o : Object C State) (w : World C) (made : List Shape) (ps : List Packet) → Invariant o w made → Every (λ (p : Packet). PacketOk w.nodes w.recorded.bases made w.crashed p.from p.message) ps → Invariant o (record w { packets = ps }) made
inv_packets o w made ps inv h = record { frame = frame_packets w made ps inv.frame h; content = content_packets o w made ps inv.content }

module _ {C State : Type 0} (o : Object C State) (w : World C) (made : List Shape) (inv : Invariant o w made) (m : ℕ) (n : Node) (at : NodeAt w.nodes m n) where
  -- a step that keeps the bases and the log
  pub quiet_step : (n' : Node) → NodeForward w.recorded.bases w.recorded.bases made m n n' → NodeOk w.recorded.bases made m n' → AcksOk (slice_set w.nodes m n') w.recorded.bases made n' → IsUpTo (slice_set w.nodes m n') n'.pair.version n'.pair.count
      → ((h : Held) → is_eligible w.recorded.standing m ≡ true → In h w.released → Stands h (content w.recorded.openings w.recorded.log w.recorded.bases w.recorded.standing.reset n'.pair))
      → ((v : ℕ) (h : Held) → IsBase w.recorded.bases v → w.recorded.standing.reset ≤ v → IsMember made v m → (is_eligible w.recorded.standing m ≡ true) ⊎ (v ≡ w.service.row.version) → In h w.released → HasKept w.recorded.openings w.recorded.log w.recorded.bases v n' h)
      → ((h : Held) → In h n'.held → (h.seen ≤ n'.pair.count) × Stands h (history w.recorded.openings w.recorded.log w.recorded.bases (record { version = n'.known.version; count = h.seen })))
      → Invariant o (record w { nodes = slice_set w.nodes m n' }) made
  quiet_step n' f node acks top kept base_kept held = record {
    frame = frame_step w made inv.frame m n n' at w.recorded.bases w.packets w.recorded.log w.released (record {
      forward = f;
      bases_in = λ b i. i;
      node = node;
      acks = acks;
      top = top;
      packets = packets_kept w made inv.frame m n n' at w.recorded.bases f (λ b i. i) w.packets inv.frame.packets;
      falling = inv.frame.falling;
      bases = bases_kept w made inv.frame m n n' at w.recorded.bases f (λ b i. i);
      pairs = pairs_kept w made inv.frame m n n' at w.recorded.bases f (λ b i. i);
      log = log_kept w made inv.frame m n n' at w.recorded.bases f (λ b i. i);
    });
    content = content_step o w made inv.frame inv.content m n' w.recorded.bases w.recorded.log (record {
      rising = inv.content.rising;
      good = inv.content.good;
      opened = inv.content.opened;
      resets = inv.content.resets;
      history_kept = λ p h i s. s;
      start_kept = λ v h i s. s;
      start_new = λ v i. inl i;
      kept = kept;
      base_kept = base_kept;
      held = held;
    }) w.packets;
  }

  -- the pair of a backup rises in its version, or enters the version that it knows
  abbrev pub MayRise : ℕ → ℕ → Type 0
  MayRise v c = ((n.pair.version ≡ v) × (n.pair.count ≤ c)) ⊎ ((n.pair.version < v) × (v ≡ n.known.version) × IsMember made v m)

  pub rise_forward : (v c : ℕ) → is_primary n.known m ≡ false → IsBase w.recorded.bases v → MayRise v c → NodeForward w.recorded.bases w.recorded.bases made m n (with_pair n v c)
  rise_forward v c idle b may = record {
    known_up = le_refl n.known.version;
    stays = λ e f h. (f, h);
    pair_up = up may;
    count_up = λ p i. absurd (not_both (is_primary n.known m) p idle);
  }
    where
      up : MayRise v c → ((v ≡ n.pair.version) × (n.pair.count ≤ c)) ⊎ HasLeft w.recorded.bases made n.pair.version m n.known.version
      up (inl h) = inl (sym h.0, h.1)
      up (inr h) = inr (inl (v, b, h.0, omega (arith, h.1)))

  pub rise_kept : (v c : ℕ) → is_primary n.known m ≡ false → IsBase w.recorded.bases v → MayRise v c → (h : Held) → is_eligible w.recorded.standing m ≡ true → In h w.released
      → Stands h (content w.recorded.openings w.recorded.log w.recorded.bases w.recorded.standing.reset (record { version = v; count = c }))
  rise_kept v c idle b may h e i = go may (cases (nat_lt v w.recorded.standing.reset))
    where
      old : Stands h (content w.recorded.openings w.recorded.log w.recorded.bases w.recorded.standing.reset n.pair)
      old = inv.content.kept m n h e at i

      opened : n.pair.version < w.recorded.standing.reset → Stands h (opening_at w.recorded.standing.reset w.recorded.openings)
      opened l = rw (is_less n.pair.version w.recorded.standing.reset l) at old

      by_kept : n.pair.version < v → v ≡ n.known.version → HasKept w.recorded.openings w.recorded.log w.recorded.bases v n h → Stands h (history w.recorded.openings w.recorded.log w.recorded.bases (record { version = v; count = c }))
      by_kept l k (inl s) = stands_start w.recorded.openings w.recorded.log w.recorded.bases (w.service.row.version + 1) (record { version = v; count = c }) h inv.frame.falling b s
      by_kept l k (inr (inl d)) = absurd (omega (arith, d, k))
      by_kept l k (inr (inr d)) = absurd (omega (arith, l, d.0))

      same : n.pair.version ≡ v → n.pair.count ≤ c → w.recorded.standing.reset ≤ v → Stands h (history w.recorded.openings w.recorded.log w.recorded.bases (record { version = v; count = c }))
      same k l r =
          let before : Stands h (history w.recorded.openings w.recorded.log w.recorded.bases n.pair) = rw (is_not_less n.pair.version w.recorded.standing.reset (omega (arith, r, k))) at old in
          stands_more w.recorded.openings w.recorded.log w.recorded.bases (w.service.row.version + 1) v n.pair.count c h inv.frame.falling b l (subst (λ u. Stands h (history w.recorded.openings w.recorded.log w.recorded.bases (record { version = u; count = n.pair.count }))) k before)

      go : MayRise v c → (nat_lt v w.recorded.standing.reset ≡ true) ⊎ (nat_lt v w.recorded.standing.reset ≡ false) → Stands h (content w.recorded.openings w.recorded.log w.recorded.bases w.recorded.standing.reset (record { version = v; count = c }))
      go (inl a) (inl t) = let l = less v w.recorded.standing.reset t in rw t (opened (omega (arith, l, a.0)))
      go (inl a) (inr t) = rw t (same a.0 a.1 (not_less v w.recorded.standing.reset t))
      go (inr a) (inl t) = let l = less v w.recorded.standing.reset t in rw t (opened (omega (arith, l, a.0)))
      go (inr a) (inr t) = rw t (by_kept a.0 a.1 (inv.content.base_kept v m n h b (not_less v w.recorded.standing.reset t) a.2 (inl e) at i))

  pub rise_base_kept : (v c : ℕ) → IsBase w.recorded.bases v → MayRise v c → (u : ℕ) (h : Held) → HasKept w.recorded.openings w.recorded.log w.recorded.bases u n h → HasKept w.recorded.openings w.recorded.log w.recorded.bases u (with_pair n v c) h
  rise_base_kept v c b may u h (inl s) = inl s
  rise_base_kept v c b may u h (inr (inl l)) = inr (inl l)
  rise_base_kept v c b may u h (inr (inr d)) = go may
    where
      go : MayRise v c → HasKept w.recorded.openings w.recorded.log w.recorded.bases u (with_pair n v c) h
      go (inl a) = inr (inr (
        sym a.0 ∙ d.0,
        stands_more w.recorded.openings w.recorded.log w.recorded.bases (w.service.row.version + 1) v n.pair.count c h inv.frame.falling b a.1
            (subst (λ k. Stands h (history w.recorded.openings w.recorded.log w.recorded.bases (record { version = k; count = n.pair.count }))) a.0 d.1),
      ))
      go (inr a) = inr (inl (omega (arith, a.0, a.1, d.0)))

  pub rise : (v c : ℕ) → is_primary n.known m ≡ false → IsBase w.recorded.bases v → v ≤ n.known.version → IsUpTo w.nodes v c → MayRise v c → Invariant o (record w { nodes = slice_set w.nodes m (with_pair n v c) }) made
  rise v c idle b l up may =
      quiet_step (with_pair n v c) f node acks top (rise_kept v c idle b may) (λ u h i r j e k. rise_base_kept v c b may u h (inv.content.base_kept u m n h i r j e at k)) (λ h i. absurd (subst (λ hs. In h hs) (ok.held idle) i))
    where
      ok : NodeOk w.recorded.bases made m n
      ok = inv.frame.nodes m n at

      f : NodeForward w.recorded.bases w.recorded.bases made m n (with_pair n v c)
      f = rise_forward v c idle b may

      whole : Forward w.nodes (slice_set w.nodes m (with_pair n v c)) w.recorded.bases w.recorded.bases made made w.crashed w.crashed
      whole = set_forward w.nodes w.recorded.bases w.recorded.bases made w.crashed m n (with_pair n v c) at f (λ d i. i)

      node : NodeOk w.recorded.bases made m (with_pair n v c)
      node = record {
        known = ok.known;
        pair = inr (b, l);
        primary = λ p. absurd (not_both (is_primary n.known m) p idle);
        held = ok.held;
        earlier = λ e p s. absurd (not_both (is_primary n.known m) p idle);
        adopted = λ p. absurd (not_both (is_primary n.known m) p idle);
      }

      acks : AcksOk (slice_set w.nodes m (with_pair n v c)) w.recorded.bases made (with_pair n v c)
      acks = let a = acks_forward w.nodes (slice_set w.nodes m (with_pair n v c)) w.recorded.bases w.recorded.bases made made w.crashed w.crashed whole n (inv.frame.acks m n at) in record { taken = a.taken; opening = a.opening }

      top : IsUpTo (slice_set w.nodes m (with_pair n v c)) v c
      top = upto_forward w.nodes (slice_set w.nodes m (with_pair n v c)) w.recorded.bases w.recorded.bases made made w.crashed w.crashed whole v c b up

  -- acknowledgements and the frozen mark
  abbrev pub aside : List Acknowledged → Bool → Node
  aside acks frozen = record n { acks = acks; frozen = frozen }

  pub put_aside : (acks : List Acknowledged) (frozen : Bool) → (n.frozen ≡ true → frozen ≡ true) → Every (λ (a : Acknowledged). HasAcked w.nodes w.recorded.bases made n.known.version a.count a.member) acks
      → Invariant o (record w { nodes = slice_set w.nodes m (aside acks frozen) }) made
  put_aside acks frozen stays taken =
      quiet_step (aside acks frozen) f node after top (λ h e i. inv.content.kept m n h e at i) (λ v h i r j e k. inv.content.base_kept v m n h i r j e at k) (λ h i. inv.content.held m n h at i)
    where
      n' : Node
      n' = aside acks frozen

      ok : NodeOk w.recorded.bases made m n
      ok = inv.frame.nodes m n at

      f : NodeForward w.recorded.bases w.recorded.bases made m n (aside acks frozen)
      f = record { known_up = le_refl n.known.version; stays = λ e z h. (stays z, h); pair_up = inl (refl, le_refl n.pair.count); count_up = λ p i. (p, refl, le_refl n.pair.count) }

      whole : Forward w.nodes (slice_set w.nodes m (aside acks frozen)) w.recorded.bases w.recorded.bases made made w.crashed w.crashed
      whole = set_forward w.nodes w.recorded.bases w.recorded.bases made w.crashed m n (aside acks frozen) at f (λ d i. i)

      node : NodeOk w.recorded.bases made m (aside acks frozen)
      node = record { known = ok.known; pair = ok.pair; primary = ok.primary; held = ok.held; earlier = ok.earlier; adopted = ok.adopted }

      after : AcksOk (slice_set w.nodes m (aside acks frozen)) w.recorded.bases made (aside acks frozen)
      after = record {
        taken = every_weaker (λ (a : Acknowledged). HasAcked w.nodes w.recorded.bases made n.known.version a.count a.member) (λ (a : Acknowledged). HasAcked (slice_set w.nodes m (aside acks frozen)) w.recorded.bases made n.known.version a.count a.member) acks
            (λ a h. acked_forward w.nodes (slice_set w.nodes m (aside acks frozen)) w.recorded.bases w.recorded.bases made made w.crashed w.crashed whole n.known.version a.count a.member h) taken;
        opening = (acks_forward w.nodes (slice_set w.nodes m (aside acks frozen)) w.recorded.bases w.recorded.bases made made w.crashed w.crashed whole n (inv.frame.acks m n at)).opening;
      }

      top : IsUpTo (slice_set w.nodes m (aside acks frozen)) n.pair.version n.pair.count
      top = top_forward w.nodes (slice_set w.nodes m (aside acks frozen)) w.recorded.bases w.recorded.bases made made w.crashed w.crashed whole m n ok (inv.frame.tops m n at)

pub max_acked : (nodes : List Node) (bases : List Base) (made : List Shape) (v c d b : ℕ) → HasAcked nodes bases made v c b → HasAcked nodes bases made v d b → HasAcked nodes bases made v (max c d) b
max_acked nodes bases made v c d b f g n at = go (f n at) (g n at)
  where
    go : HasUpTo bases made v c b n → HasUpTo bases made v d b n → HasUpTo bases made v (max c d) b n
    go (inl h) (inl k) = inl (h.0, omega (arith, h.1, k.1))
    go (inl h) (inr l) = inr l
    go (inr l) k = inr l

pub by_member : (nodes : List Node) (bases : List Base) (made : List Shape) (v b c : ℕ) (a : Acknowledged) (acks : List Acknowledged) → HasAcked nodes bases made v c b → Every (λ (k : Acknowledged). HasAcked nodes bases made v k.count k.member) (a ∷ acks)
    → Every (λ (k : Acknowledged). HasAcked nodes bases made v k.count k.member) (with_ack b c acks) → ((a.member == b) ≡ true) ⊎ ((a.member == b) ≡ false)
    → Every (λ (k : Acknowledged). HasAcked nodes bases made v k.count k.member) (with_ack b c (a ∷ acks))
by_member nodes bases made v b c a acks h all rest (inl e) =
    rw (e, with_ack) (max_acked nodes bases made v c a.count b h (subst (λ k. HasAcked nodes bases made v a.count k) (same_number a.member b e) all.0), all.1)
by_member nodes bases made v b c a acks h all rest (inr e) = rw (e, with_ack) (all.0, rest)

pub acks_with : (nodes : List Node) (bases : List Base) (made : List Shape) (v b c : ℕ) (acks : List Acknowledged) → HasAcked nodes bases made v c b → Every (λ (a : Acknowledged). HasAcked nodes bases made v a.count a.member) acks
    → Every (λ (a : Acknowledged). HasAcked nodes bases made v a.count a.member) (with_ack b c acks)
acks_with nodes bases made v b c [] h all = (h, tt)
acks_with nodes bases made v b c (a ∷ acks) h all =
    by_member nodes bases made v b c a acks h all (acks_with nodes bases made v b c acks h all.1) (cases (a.member == b))
