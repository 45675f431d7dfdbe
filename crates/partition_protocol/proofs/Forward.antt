-- One node takes a step: what is said of the others, of messages and of the log stays.
use Rattle.std.proofs.Common.{ap, ◌≡◌, ℕ, ◌<◌, ◌≤◌, true, List, [], refl, sym, ◌∙◌, subst, ◌⊎◌, ⊎_elim, inl, inr, arith, le_refl, le_trans}
use Rattle.partition_table.specs.Rows.{is_among, is_primary}
use Rattle.partition_protocol.specs.Messages.{Message, NewRow, Sync, Effect, Bridge, Ack, Joined as JoinedMessage, Freeze, Frozen as FrozenMessage}
use Rattle.partition_protocol.specs.Node.{no_pair, Pair, Acknowledged, Node}
use Rattle.partition_protocol.specs.Service.{Move, NoMove, Joining, Joined, Freezing, Drained}
use Rattle.partition_protocol.specs.History.{Entry, Called, Reset, Base}
use Rattle.partition_table.specs.declared.Row.{Row}
use Rattle.partition_protocol.proofs.Lists.{In, every_weaker}
use Rattle.partition_protocol.proofs.Histories.{IsBase}
use Rattle.partition_protocol.proofs.Invariant.{Shape, shape, NodeAt, IsMember, IsPrimaryIn, IsGoneAt, IsGone, IsUpTo, HasLeft, HasUpTo, HasAcked, HasJoined, PacketOk, EntryOk, NodeOk, AcksOk, BaseOk, PairUp, MoveOk, StandingOk}

pub record NodeForward (bases bases' : List Base) (made : List Shape) (m : ℕ) (n n' : Node) : Type 0 where
  pub known_up : n.known.version ≤ n'.known.version
  pub stays : n.known.version ≡ n'.known.version → n.frozen ≡ true → n.held ≡ [] → (n'.frozen ≡ true) × (n'.held ≡ [])
  pub pair_up : ((n'.pair.version ≡ n.pair.version) × (n.pair.count ≤ n'.pair.count)) ⊎ HasLeft bases' made n.pair.version m n'.known.version
  pub count_up : is_primary n'.known m ≡ true → IsBase bases n'.known.version → (is_primary n.known m ≡ true) × (n.known.version ≡ n'.known.version) × (n.pair.count ≤ n'.pair.count)

pub forward_same : (bases bases' : List Base) (made : List Shape) (m : ℕ) (n : Node) → NodeForward bases bases' made m n n
forward_same bases bases' made m n = record {
  known_up = le_refl n.known.version;
  stays = λ e f h. (f, h);
  pair_up = inl (refl, le_refl n.pair.count);
  count_up = λ p b. (p, refl, le_refl n.pair.count);
}

pub record Forward (nodes nodes' : List Node) (bases bases' : List Base) (made made' : List Shape) (crashed crashed' : List ℕ) : Type 0 where
  pub bases_in : (b : Base) → In b bases → In b bases'
  pub made_in : (s : Shape) → In s made → In s made'
  pub crashed_in : (m : ℕ) → is_among crashed m ≡ true → is_among crashed' m ≡ true
  pub nodes_up : (m : ℕ) (n' : Node) → NodeAt nodes' m n' → (n : Node) × NodeAt nodes m n × NodeForward bases bases' made' m n n'

pub le_cases : (a b : ℕ) → a ≤ b → (a ≡ b) ⊎ (a < b)
le_cases a b l = grind arith

pub left_later : (bases : List Base) (made : List Shape) (v m k : ℕ) → HasLeft bases made v m k → v < k
left_later bases made v m k (inl h) = omega (arith, h.2, h.3)
left_later bases made v m k (inr (inl h)) = omega (arith, h.2, h.3)
left_later bases made v m k (inr (inr h)) = omega (arith, h.3, h.4)

module _ (nodes nodes' : List Node) (bases bases' : List Base) (made made' : List Shape) (crashed crashed' : List ℕ) (f : Forward nodes nodes' bases bases' made made' crashed crashed') where
  pub base_forward : (v : ℕ) → IsBase bases v → IsBase bases' v
  base_forward v i = (i.0, f.bases_in i.0 i.1, i.2)

  pub member_forward : (v m : ℕ) → IsMember made v m → IsMember made' v m
  member_forward v m i = (i.0, f.made_in i.0 i.1, i.2, i.3)

  pub primary_forward : (v m : ℕ) → IsPrimaryIn made v m → IsPrimaryIn made' v m
  primary_forward v m i = (i.0, f.made_in i.0 i.1, i.2, i.3)

  pub upto_forward : (v c : ℕ) → IsBase bases v → IsUpTo nodes v c → IsUpTo nodes' v c
  upto_forward v c i u m n' at p e =
      let b = f.nodes_up m n' at in
      let up = b.2.count_up p (subst (λ k. IsBase bases k) (sym e) i) in
      le_trans (u m b.0 b.1 up.0 (up.1 ∙ e)) up.2

  pub gone_at_forward : (v m : ℕ) (n n' : Node) → NodeForward bases bases' made' m n n' → IsGoneAt v n → IsGoneAt v n'
  gone_at_forward v m n n' g (inl l) = inl (omega (arith, g.known_up, l))
  gone_at_forward v m n n' g (inr h) = go (le_cases n.known.version n'.known.version g.known_up)
    where
      go : (n.known.version ≡ n'.known.version) ⊎ (n.known.version < n'.known.version) → IsGoneAt v n'
      go (inl e) = let s = g.stays e h.1 h.2 in inr (sym e ∙ h.0, s.0, s.1)
      go (inr l) = inl (omega (arith, l, h.0))

  pub gone_forward : (v m : ℕ) → IsGone nodes crashed v m → IsGone nodes' crashed' v m
  gone_forward v m (inl c) = inl (f.crashed_in m c)
  gone_forward v m (inr g) = inr (λ n' at. let b = f.nodes_up m n' at in gone_at_forward v m b.0 n' b.2 (g b.0 b.1))

  pub left_forward : (v m k k' : ℕ) → k ≤ k' → HasLeft bases made v m k → HasLeft bases' made' v m k'
  left_forward v m k k' l (inl h) = inl (h.0, base_forward h.0 h.1, h.2, le_trans h.3 l)
  left_forward v m k k' l (inr (inl h)) = inr (inl (h.0, f.made_in h.0 h.1, h.2, le_trans h.3 l, h.4))
  left_forward v m k k' l (inr (inr h)) = inr (inr (h.0, f.made_in h.0 h.1, h.2, h.3, le_trans h.4 l))

  pub has_forward : (v c m : ℕ) (n n' : Node) → NodeForward bases bases' made' m n n' → HasUpTo bases made v c m n → HasUpTo bases' made' v c m n'
  has_forward v c m n n' g (inl h) = go g.pair_up
    where
      go : ((n'.pair.version ≡ n.pair.version) × (n.pair.count ≤ n'.pair.count)) ⊎ HasLeft bases' made' n.pair.version m n'.known.version → HasUpTo bases' made' v c m n'
      go (inl u) = inl (u.0 ∙ h.0, le_trans h.1 u.1)
      go (inr l) = inr (subst (λ w. HasLeft bases' made' w m n'.known.version) h.0 l)
  has_forward v c m n n' g (inr l) = inr (left_forward v m n.known.version n'.known.version g.known_up l)

  pub acked_forward : (v c m : ℕ) → HasAcked nodes bases made v c m → HasAcked nodes' bases' made' v c m
  acked_forward v c m h n' at = let b = f.nodes_up m n' at in has_forward v c m b.0 n' b.2 (h b.0 b.1)

  pub joined_forward : (v m : ℕ) → HasJoined nodes v m → HasJoined nodes' v m
  joined_forward v m h n' at = let b = f.nodes_up m n' at in at_node b.0 b.2 (h b.0 b.1)
    where
      by_pair : (n : Node) → n.pair.version ≡ v → ((n'.pair.version ≡ n.pair.version) × (n.pair.count ≤ n'.pair.count)) ⊎ HasLeft bases' made' n.pair.version m n'.known.version → (n'.pair.version ≡ v) ⊎ (v < n'.known.version)
      by_pair n e (inl u) = inl (u.0 ∙ e)
      by_pair n e (inr l) = inr (subst (λ w. w < n'.known.version) e (left_later bases' made' n.pair.version m n'.known.version l))

      at_node : (n : Node) → NodeForward bases bases' made' m n n' → (n.pair.version ≡ v) ⊎ (v < n.known.version) → (n'.pair.version ≡ v) ⊎ (v < n'.known.version)
      at_node n g (inl e) = by_pair n e g.pair_up
      at_node n g (inr l) = inr (omega (arith, l, g.known_up))

  pub packet_forward : (from : ℕ) (m : Message) → PacketOk nodes bases made crashed from m → PacketOk nodes' bases' made' crashed' from m
  packet_forward from (NewRow row) h = f.made_in (shape row) h
  packet_forward from (Sync row c) h = (f.made_in (shape row) h.0, base_forward row.version h.1, upto_forward row.version c h.1 h.2)
  packet_forward from (Effect v i) h = (base_forward v h.0, upto_forward v i h.0 h.1)
  packet_forward from (Bridge row e k) h =
      (f.made_in (shape row) h.0, upto_forward row.version k (h.4.0, h.4.1, h.4.2) h.1, h.2, h.3, (h.4.0, f.bases_in h.4.0 h.4.1, h.4.2, h.4.3))
  packet_forward from (Ack v c) h = (base_forward v h.0, acked_forward v c from h.1)
  packet_forward from (JoinedMessage v b) h = (base_forward v h.0, member_forward v b h.1, joined_forward v b h.2)
  packet_forward from (Freeze v) h = tt
  packet_forward from (FrozenMessage v) h = (h.0, primary_forward v h.0 h.1, gone_forward v h.0 h.2)

  pub entry_forward : {C : Type 0} (x : Entry C) → EntryOk nodes bases x → EntryOk nodes' bases' x
  entry_forward (Called x) h = (base_forward x.version h.0, upto_forward x.version x.seen h.0 h.1)
  entry_forward (Reset r) h = tt

  pub node_forward : (m : ℕ) (n : Node) → NodeOk bases made m n → NodeOk bases' made' m n
  node_forward m n ok = record {
    known = f.made_in (shape n.known) ok.known;
    pair = ⊎_elim (λ e. inl e) (λ h. inr (base_forward n.pair.version h.0, h.1)) ok.pair;
    primary = λ p. ((ok.primary p).0, base_forward n.known.version (ok.primary p).1);
    held = ok.held;
    earlier = λ e p s. let h = ok.earlier e p s in (h.0, h.1, base_forward e.version h.2, primary_forward e.version m h.3, (h.4.0, f.bases_in h.4.0 h.4.1, h.4.2, h.4.3));
    adopted = ok.adopted;
  }

  pub acks_forward : (n : Node) → AcksOk nodes bases made n → AcksOk nodes' bases' made' n
  acks_forward n ok = record {
    taken = every_weaker (λ (a : Acknowledged). HasAcked nodes bases made n.known.version a.count a.member) (λ (a : Acknowledged). HasAcked nodes' bases' made' n.known.version a.count a.member) n.acks (λ a h. acked_forward n.known.version a.count a.member h) ok.taken;
    opening = λ o b i. acked_forward n.known.version 0 b (ok.opening o b i);
  }

  pub top_forward : (m : ℕ) (n : Node) → NodeOk bases made m n → IsUpTo nodes n.pair.version n.pair.count → IsUpTo nodes' n.pair.version n.pair.count
  top_forward m n ok u = ⊎_elim (λ e j k at p s. subst (λ (q : Pair). q.count ≤ k.pair.count) (sym e) (omega arith)) (λ h. upto_forward n.pair.version n.pair.count h.0 u) ok.pair

  pub based_forward : (b : Base) → BaseOk nodes made b → BaseOk nodes' made' b
  based_forward b ok = record {
    row = ok.row;
    made_row = f.made_in ok.row ok.made_row;
    version = ok.version;
    reset = ok.reset;
    primary = ok.primary;
    heads = ok.heads;
    knows = λ n' at. let p = f.nodes_up ok.primary n' at in le_trans (ok.knows p.0 p.1) p.2.known_up;
  }

  pub up_forward : (b : Base) → In b bases → PairUp nodes bases b → PairUp nodes' bases' b
  up_forward b i h = (⊎_elim (λ e. inl e) (λ k. inr (base_forward b.pair.version k)) h.0, upto_forward b.version b.pair.count (b, i, refl) h.1, old h.0)
    where
      old : (b.pair ≡ no_pair) ⊎ IsBase bases b.pair.version → IsUpTo nodes' b.pair.version b.pair.count
      old (inl e) = λ m n at p s. let z : b.pair.count ≡ 0 = ap (λ (q : Pair). q.count) e in omega (arith, z)
      old (inr k) = upto_forward b.pair.version b.pair.count k h.2

  pub move_forward : (row : Row) (v : Move) → MoveOk nodes crashed row v → MoveOk nodes' crashed' row v
  move_forward row NoMove h = tt
  move_forward row (Joining s t) h = tt
  move_forward row (Joined s t) h = h
  move_forward row (Freezing s t) h = h
  move_forward row (Drained s t) h = (h.0, h.1, gone_forward row.version s h.2)

  pub standing_forward : (row standing : Row) → StandingOk crashed made row standing → StandingOk crashed' made' row standing
  standing_forward row standing ok = record {
    made_row = f.made_in (shape standing) ok.made_row;
    first = ok.first;
    rest = ok.rest;
    begins = ok.begins;
    now = ok.now;
    next = ok.next;
    after_loss = λ l q e. f.crashed_in q (ok.after_loss l q e);
  }

  pub since_forward : (standing : Row) (q : ℕ) (n' : Node) (s : Shape) → NodeAt nodes' q n'
      → ((n : Node) → NodeAt nodes q n → (is_among s.members q ≡ true) ⊎ ((u : ℕ) × IsBase bases u × (s.version < u) × (u ≤ n.known.version)) ⊎ (s.version < standing.reset))
      → (is_among s.members q ≡ true) ⊎ ((u : ℕ) × IsBase bases' u × (s.version < u) × (u ≤ n'.known.version)) ⊎ (s.version < standing.reset)
  since_forward standing q n' s at h = let p = f.nodes_up q n' at in go p.0 p.2 (h p.0 p.1)
    where
      go : (n : Node) → NodeForward bases bases' made' q n n' → (is_among s.members q ≡ true) ⊎ ((u : ℕ) × IsBase bases u × (s.version < u) × (u ≤ n.known.version)) ⊎ (s.version < standing.reset)
          → (is_among s.members q ≡ true) ⊎ ((u : ℕ) × IsBase bases' u × (s.version < u) × (u ≤ n'.known.version)) ⊎ (s.version < standing.reset)
      go n g (inl i) = inl i
      go n g (inr (inl u)) = inr (inl (u.0, base_forward u.0 u.1, u.2, le_trans u.3 g.known_up))
      go n g (inr (inr l)) = inr (inr l)
