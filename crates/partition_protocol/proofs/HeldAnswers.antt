-- An answer that a member holds is held on, until it is released.
use Rattle.std.proofs.Common.{◌≡◌, ◌≢◌, ℕ, Bool, true, false, cond, ◌&&◌, ◌==◌, List, [], ◌∷◌, ◌++◌, nat_lt, nat_le, ◌+◌, not, slice_set, refl, sym, ◌∙◌, subst, ◌⊎◌, ⊎_elim, inl, inr}
use Rattle.partition_table.specs.declared.Row.{Row}
use Rattle.partition_table.specs.Rows.{is_primary, is_backup, is_among}
use Rattle.grid_base.specs.Objects.{Object}
use Rattle.partition_protocol.specs.Messages.{Message, NewRow, Sync, Effect, Bridge, Ack, Joined as JoinedMessage, Freeze, Frozen as FrozenMessage, Packet}
use Rattle.partition_protocol.specs.Took.{Applied, Synced, Bridged, Already, Gap, Other, Stale}
use Rattle.partition_protocol.specs.Node.{Held, Node, settled, now_released, still_held, is_released}
use Rattle.partition_protocol.specs.Adoption.{adopted_row}
use Rattle.partition_protocol.specs.Replica.{Step, unanswered, acknowledging, is_newer, after_row, with_pair, is_ahead, sync_backup, bridge_backup, taking}
use Rattle.partition_protocol.specs.Execution.{executing}
use Rattle.partition_protocol.specs.World.{World, pair_state}
use Rattle.partition_protocol.specs.Events.{Event, happens}
use Rattle.partition_protocol.proofs.Lists.{In, in_left, in_right, every_in, set_get_same, set_get_other, cases, on_if, on_cond}
use Rattle.partition_protocol.proofs.Invariant.{Shape, shape, NodeAt, PacketOk, Invariant}
use Rattle.partition_protocol.proofs.RowFacts.{less, number_cases}
use Rattle.partition_protocol.proofs.Release.{not_gone}
use Rattle.partition_protocol.proofs.Walk.{walk}

-- what settles is released or stays

pub splits_at : (b : Bool) (k : Held) (hs ns ss : List Held) (h : Held) → In h (k ∷ hs) → (In h hs → In h ns ⊎ In h ss) → In h (cond b (k ∷ ns) []) ⊎ In h (cond b ss (k ∷ hs))
splits_at true k hs ns ss h (inl e) f = inl (inl e)
splits_at true k hs ns ss h (inr i) f = ⊎_elim (λ a. inl (inr a)) (λ a. inr a) (f i)
splits_at false k hs ns ss h i f = inr i

pub settle_splits : (node : Node) (hs : List Held) (h : Held) → In h hs → In h (now_released node hs) ⊎ In h (still_held node hs)
settle_splits node [] h i = absurd i
settle_splits node (k ∷ hs) h i = splits_at (is_released node k.seen) k hs (now_released node hs) (still_held node hs) h i (λ j. settle_splits node hs h j)

module _ {C State : Type 0} (o : Object C State) (w : World C) (made : List Shape) (inv : Invariant o w made) (m : ℕ) (n : Node) (at : NodeAt w.nodes m n) (lives : is_among w.crashed m ≡ false) (h : Held) (holds : In h n.held) where
  -- it is primary, and stays so in a row that it adopts
  pub row_held : (row : Row) → In (shape row) made → is_newer row n ≡ true → In h (adopted_row m row n).held
  row_held row row_in newer = by_known (cases (is_primary n.known m))
    where
      by_row : is_primary n.known m ≡ true → (is_primary row m ≡ true) ⊎ (is_primary row m ≡ false) → In h (adopted_row m row n).held
      by_row k (inl p) = let e : (adopted_row m row n).held ≡ n.held = rw (p, k) refl in subst (λ hs. In h hs) (sym e) holds
      by_row k (inr p) = absurd (not_gone o w made inv m n at lives k h holds (inv.frame.gone (shape n.known) (shape row) m (inv.frame.nodes m n at).known row_in (less n.known.version row.version newer) k p))

      by_known : (is_primary n.known m ≡ true) ⊎ (is_primary n.known m ≡ false) → In h (adopted_row m row n).held
      by_known (inl k) = by_row k (cases (is_primary row m))
      by_known (inr k) = absurd (subst (λ hs. In h hs) ((inv.frame.nodes m n at).held k) holds)

  pub after_held : (row : Row) → In (shape row) made → In h (after_row m row n).held
  after_held row row_in = on_cond (λ (a : Node). In h a.held) (is_newer row n) (adopted_row m row n) n (row_held row row_in) (λ e. holds)

  -- whatever it takes
  pub taking_held : (service from : ℕ) (msg : Message) → PacketOk w.nodes w.recorded.bases made w.crashed from msg → In h (taking service m from msg n).node.held
  taking_held service from (NewRow row) g = on_cond (λ (s : Step). In h s.node.held) (is_newer row n) _ _ (row_held row g) (λ e. holds)
  taking_held service from (Sync row c) g =
      let a = after_row m row n in
      on_if (λ (s : Step). In h s.node.held) (nat_lt row.version n.known.version) (unanswered n Other) _ holds
      (on_if (λ (s : Step). In h s.node.held) (is_backup a.known m) (sync_backup from row c a) (unanswered a Other)
      (on_if (λ (s : Step). In h s.node.held) (is_ahead row c a) (acknowledging (with_pair a row.version c) from Synced) (acknowledging a from Already) (after_held row g.0) (after_held row g.0)) (after_held row g.0))
  taking_held service from (Bridge row e k) g =
      let a = after_row m row n in
      on_if (λ (s : Step). In h s.node.held) (nat_lt row.version n.known.version) (unanswered n Other) _ holds
      (on_if (λ (s : Step). In h s.node.held) (is_backup a.known m) (bridge_backup from row e k a) (unanswered a Other)
      (on_if (λ (s : Step). In h s.node.held) (a.pair.version == row.version) (acknowledging a from Already) _ (after_held row g.0)
      (on_if (λ (s : Step). In h s.node.held) ((a.pair.version == e) && (a.pair.count == k)) (acknowledging (with_pair a row.version k) from Bridged) (unanswered a Gap) (after_held row g.0) (after_held row g.0))) (after_held row g.0))
  taking_held service from (Effect v i) g =
      on_if (λ (s : Step). In h s.node.held) (not (is_backup n.known m && (n.pair.version == v))) (unanswered n Other) _ holds
      (on_if (λ (s : Step). In h s.node.held) (i == n.pair.count + 1) (acknowledging (with_pair n v i) from Applied) _ holds
      (on_if (λ (s : Step). In h s.node.held) (nat_le i n.pair.count) (acknowledging n from Already) (unanswered n Gap) holds holds))
  taking_held service from (Ack v c) g = on_if (λ (s : Step). In h s.node.held) (is_primary n.known m && (n.known.version == v) && is_backup n.known from) _ (unanswered n Stale) holds holds
  taking_held service from (JoinedMessage v b) g = holds
  taking_held service from (Freeze v) g = on_if (λ (s : Step). In h s.node.held) (is_primary n.known m && (n.known.version == v)) _ (unanswered n Stale) holds holds
  taking_held service from (FrozenMessage v) g = holds

-- an answer that was held is released, or still held by the same member
abbrev pub StaysHeld : {C : Type 0} → World C → World C → Type 0
StaysHeld w u = (m : ℕ) (n : Node) (h : Held) → NodeAt w.nodes m n → In h n.held → In h u.released ⊎ ((x : Node) × NodeAt u.nodes m x × In h x.held)

-- one member goes on as a, and settles
pub member_held : {C : Type 0} (w : World C) (m : ℕ) (n a : Node) → NodeAt w.nodes m n → ((h : Held) → In h n.held → In h a.held)
    → (k : ℕ) (x : Node) (h : Held) → NodeAt w.nodes k x → In h x.held → In h (w.released ++ now_released a a.held) ⊎ ((y : Node) × NodeAt (slice_set w.nodes m (settled a)) k y × In h y.held)
member_held w m n a at keeps k x h x_at i = go (number_cases k m)
  where
    go : (k ≡ m) ⊎ (k ≢ m) → In h (w.released ++ now_released a a.held) ⊎ ((y : Node) × NodeAt (slice_set w.nodes m (settled a)) k y × In h y.held)
    go (inr d) = inr (x, set_get_other w.nodes m k (settled a) d ∙ x_at, i)
    go (inl e) =
        let same : x ≡ n = cc (subst (λ j. NodeAt w.nodes j x) e x_at, at) in
        ⊎_elim (λ r. inl (in_right h w.released (now_released a a.held) r))
        (λ s. inr (settled a, subst (λ j. NodeAt (slice_set w.nodes m (settled a)) j (settled a)) (sym e) (set_get_same w.nodes m (settled a) n at), s))
        (settle_splits a a.held h (keeps h (subst (λ (y : Node). In h y.held) same i)))

pub stays_held : {C State : Type 0} (o : Object C State) (w : World C) (made : List Shape) (inv : Invariant o w made) (e : Event C) → StaysHeld w (happens o w e).world
stays_held {C} o w made inv = walk o w (λ e u. StaysHeld w u) (λ e ps. same) (λ e m. same) (λ e s st ps. same) (λ e s st ps. same)
    (λ e f t i q n j at l. member_held w q.to n (taking w.members q.to q.from q.message n).node at
    (λ h k. taking_held o w made inv q.to n at l h k w.members q.from q.message (every_in (λ (p : Packet). PacketOk w.nodes w.recorded.bases made w.crashed p.from p.message) w.packets q inv.frame.packets j)))
    (λ m conn number call now n at l p f. member_held w m n (executing (o.changes (pair_state o w n.pair) call now) conn number n) at (λ h k. in_left h n.held _ k))
  where
    same : StaysHeld w w
    same m n h at i = inr (n, at, i)
