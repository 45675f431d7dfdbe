-- A pair that is named keeps its state in every longer run.
use Rattle.std.proofs.Common.{◌≡◌, ◌≢◌, ℕ, ◌+◌, ◌-◌, ◌<◌, ◌≤◌, Bool, true, false, cond, ◌&&◌, List, [], ◌∷◌, slice_set, refl, ap, sym, ◌∙◌, subst, ◌⊎◌, ⊎_elim, inl, inr, arith, le_trans, zero, suc}
use Rattle.grid_base.specs.Objects.{Object}
use Rattle.partition_table.specs.declared.Row.{Row}
use Rattle.partition_table.specs.Rows.{is_primary, is_among}
use Rattle.partition_protocol.specs.Messages.{Message, NewRow, Sync, Effect, Bridge, Ack, Joined as JoinedMessage, Freeze, Frozen as FrozenMessage, Packet}
use Rattle.partition_protocol.specs.Node.{Pair, Node, no_pair, settled}
use Rattle.partition_protocol.specs.Replica.{is_newer, taking}
use Rattle.partition_protocol.specs.Execution.{executing}
use Rattle.partition_protocol.specs.History.{Base}
use Rattle.partition_protocol.specs.World.{World, start, pair_state}
use Rattle.partition_protocol.specs.Links.{taken_out, with_packets}
use Rattle.partition_protocol.specs.Events.{Event, delivered, happens, run}
use Rattle.partition_protocol.specs.Claims.{IsLawful}
use Rattle.partition_protocol.specs.NamedStates.{pairs_of, IsUpToPair, IsNamed, EveryNamedStateStays, EveryBridgeJoins}
use Rattle.partition_protocol.proofs.Lists.{In, every_in, in_contains, get_set, on_if}
use Rattle.partition_protocol.proofs.Histories.{IsBase, Falling, base_below}
use Rattle.partition_protocol.proofs.Invariant.{Shape, NodeAt, IsUpTo, PacketOk, PairUp, Invariant}
use Rattle.partition_protocol.proofs.RowFacts.{is_less, both}
use Rattle.partition_protocol.proofs.Contents.{IsPair}
use Rattle.partition_protocol.proofs.Events.{Good, fewer, delivered_good, happens_good}
use Rattle.partition_protocol.proofs.Extends.{run_append}
use Rattle.partition_protocol.proofs.States.{Grows, grown, stays, Bridged, run_bridged, pair_same}
use Rattle.partition_protocol.proofs.Takings.{KeepsRow, taking_keeps}
use Rattle.partition_protocol.proofs.Theorem.{grid_good, start_good, bridged}
use Rattle.partition_protocol.proofs.Walk.{walk}

-- it is of a version that began, and nothing of it is past what that version's primary counts
abbrev pub IsKnown : {C : Type 0} → World C → Pair → Type 0
IsKnown w p = IsPair w.recorded.bases p × IsUpTo w.nodes p.version p.count

pub no_pair_known : {C : Type 0} (w : World C) → IsKnown w no_pair
no_pair_known w = (inl refl, λ m n at p e. omega arith)

pub fewer_known : {C : Type 0} (w : World C) (v c d : ℕ) → d ≤ c → IsBase w.recorded.bases v → IsUpTo w.nodes v c → IsKnown w (record { version = v; count = d })
fewer_known w v c d l b u = (inr b, λ m n at p e. le_trans l (u m n at p e))

module _ {C State : Type 0} (o : Object C State) (w : World C) (made : List Shape) (inv : Invariant o w made) where
  pub flies : (p : Packet) → In p w.packets → PacketOk w.nodes w.recorded.bases made w.crashed p.from p.message
  flies p i = every_in (λ (q : Packet). PacketOk w.nodes w.recorded.bases made w.crashed q.from q.message) w.packets p inv.frame.packets i

  -- what is named is known

  pub node_known : (m : ℕ) (n : Node) → NodeAt w.nodes m n → IsKnown w n.pair
  node_known m n at = (⊎_elim (λ e. inl e) (λ h. inr h.0) (inv.frame.nodes m n at).pair, inv.frame.tops m n at)

  pub base_known : (b : Base) → In b w.recorded.bases → IsKnown w b.pair
  base_known b i = let u : PairUp w.nodes w.recorded.bases b = inv.frame.pairs b i in (u.0, u.2)

  pub sync_known : (from : ℕ) (row : Row) (c : ℕ) → PacketOk w.nodes w.recorded.bases made w.crashed from (Sync row c) → IsKnown w (record { version = row.version; count = c })
  sync_known from row c h = (inr h.1, h.2)

  pub effect_known : (from v i : ℕ) → PacketOk w.nodes w.recorded.bases made w.crashed from (Effect v i) → IsKnown w (record { version = v; count = i - 1 }) × IsKnown w (record { version = v; count = i })
  effect_known from v i h = (fewer_known w v i (i - 1) (omega arith) h.0 h.1, (inr h.0, h.1))

  pub bridge_known : (from : ℕ) (row : Row) (e k : ℕ) → PacketOk w.nodes w.recorded.bases made w.crashed from (Bridge row e k)
      → IsKnown w (record { version = e; count = k }) × IsKnown w (record { version = row.version; count = k })
  bridge_known from row e k h = (subst (IsKnown w) h.4.3 (base_known h.4.0 h.4.1), (inr (h.4.0, h.4.1, h.4.2), h.1))

  pub said_known : (from : ℕ) (msg : Message) (pair : Pair) → PacketOk w.nodes w.recorded.bases made w.crashed from msg → In pair (pairs_of msg) → IsKnown w pair
  said_known from (Sync row c) pair h (inl e) = subst (IsKnown w) e (sync_known from row c h)
  said_known from (Sync row c) pair h (inr i) = absurd i
  said_known from (Effect v i) pair h (inl e) = subst (IsKnown w) e (effect_known from v i h).0
  said_known from (Effect v i) pair h (inr (inl e)) = subst (IsKnown w) e (effect_known from v i h).1
  said_known from (Effect v i) pair h (inr (inr j)) = absurd j
  said_known from (Bridge row e k) pair h (inl z) = subst (IsKnown w) z (bridge_known from row e k h).0
  said_known from (Bridge row e k) pair h (inr (inl z)) = subst (IsKnown w) z (bridge_known from row e k h).1
  said_known from (Bridge row e k) pair h (inr (inr j)) = absurd j
  said_known from (NewRow row) pair h i = absurd i
  said_known from (Ack v c) pair h i = absurd i
  said_known from (JoinedMessage v b) pair h i = absurd i
  said_known from (Freeze v) pair h i = absurd i
  said_known from (FrozenMessage v) pair h i = absurd i

  -- and so is what is up to it
  pub part_known : (p q : Pair) → IsUpToPair p q → IsKnown w q → IsKnown w p
  part_known p q h (inl e, up) =
      let version : p.version ≡ 0 = h.0 ∙ ap (λ (z : Pair). z.version) e in
      let none : q.count ≡ 0 = ap (λ (z : Pair). z.count) e in
      let count : p.count ≡ 0 = omega (arith, h.1, none) in
      subst (IsKnown w) (sym (pair_same p no_pair version count)) (no_pair_known w)
  part_known p q h (inr b, up) = (inr (subst (IsBase w.recorded.bases) (sym h.0) b), λ m n at l e. le_trans h.1 (up m n at l (e ∙ h.0)))

  pub named_known : (pair : Pair) → IsNamed w pair → IsKnown w pair
  named_known pair (inl (m, n, at, h)) = part_known pair n.pair h (node_known m n at)
  named_known pair (inr (inl (p, named, c, k, h))) = part_known pair named h (said_known p.from p.message named (flies p (in_contains p w.packets c)) (in_contains named (pairs_of p.message) k))
  named_known pair (inr (inr (b, c, h))) = part_known pair b.pair h (base_known b (in_contains b w.recorded.bases c))

  -- a base that stays

  pub bases_more : (e : Event C) (v : ℕ) → IsBase w.recorded.bases v → IsBase (happens o w e).world.recorded.bases v
  bases_more e v b = go (grown o w made inv e)
    where
      go : Grows o w made inv (happens o w e).world → IsBase (happens o w e).world.recorded.bases v
      go (inl s) = subst (λ bs. IsBase bs v) (sym s) b
      go (inr k) = subst (λ bs. IsBase bs v) (sym k.1) (b.0, inr b.1, b.2)

  -- the version of a base that a node's adoption makes is above all others
  pub none_newer : (b : Bool) (base : Base) (bs : List Base) (v n : ℕ) → b ≡ true → Falling n (cond b (base ∷ bs) bs) → IsBase bs v → v < base.version
  none_newer true base bs v n e f i = base_below bs base.version v f.1 i
  none_newer false base bs v n e f i = absurd cc

  module _ (v c : ℕ) (b : IsBase w.recorded.bases v) (up : IsUpTo w.nodes v c) where
    pub upto_delivered : (f t i : ℕ) (q : Packet) (n : Node) → In q w.packets → NodeAt w.nodes q.to n → is_among w.crashed q.to ≡ false → IsUpTo (delivered (with_packets w (taken_out f t i w.packets)) q n).world.nodes v c
    upto_delivered f t i q n j at lives m x there p e = go (get_set w.nodes q.to m (settled a) x there)
      where
        a : Node
        a = (taking w.members q.to q.from q.message n).node

        u : World C
        u = (delivered (with_packets w (taken_out f t i w.packets)) q n).world

        good : Good o u
        good = delivered_good o (with_packets w (taken_out f t i w.packets)) made (fewer o w made inv f t i) q n at lives (flies q j)

        -- a newer row would begin its version anew
        adopted : n.known.version < a.known.version → is_primary a.known q.to ≡ true → v < a.known.version
        adopted l k = none_newer (is_newer a.known n && is_primary a.known q.to) _ w.recorded.bases v (u.service.row.version + 1) (both (is_newer a.known n) (is_primary a.known q.to) (is_less n.known.version a.known.version l) k) good.1.frame.falling b

        by_row : KeepsRow q.to n a → is_primary a.known q.to ≡ true → a.known.version ≡ v → c ≤ a.pair.count
        by_row (inl h) k s =
            let leads : is_primary n.known q.to ≡ true = subst (λ (row : Row). is_primary row q.to ≡ true) h.0 k in
            let version : n.known.version ≡ v = subst (λ (row : Row). row.version ≡ v) h.0 s in
            subst (λ (r : Pair). c ≤ r.count) (sym (h.1 leads)) (up q.to n at leads version)
        by_row (inr l) k s = let z = adopted l k in absurd (omega (arith, z, s))

        go : ((m ≡ q.to) × (settled a ≡ x)) ⊎ ((m ≢ q.to) × NodeAt w.nodes m x) → c ≤ x.pair.count
        go (inr d) = up m x d.1 p e
        go (inl d) =
            let k : is_primary a.known q.to ≡ true = subst (λ j. is_primary a.known j ≡ true) d.0 (subst (λ (y : Node). is_primary y.known m ≡ true) (sym d.1) p) in
            let s : a.known.version ≡ v = subst (λ (y : Node). y.known.version ≡ v) (sym d.1) e in
            subst (λ (y : Node). c ≤ y.pair.count) d.1 (by_row (taking_keeps w.members q.to q.from q.message n) k s)

    pub upto_called : (m : ℕ) (n : Node) (changes : Bool) (conn number : ℕ) → NodeAt w.nodes m n → IsUpTo (slice_set w.nodes m (settled (executing changes conn number n))) v c
    upto_called m n changes conn number at k x there p e = go (get_set w.nodes m k (settled a) x there)
      where
        a : Node
        a = executing changes conn number n

        more : n.pair.count ≤ a.pair.count
        more = on_if (λ d. n.pair.count ≤ d) changes (n.pair.count + 1) n.pair.count (omega arith) (omega arith)

        go : ((k ≡ m) × (settled a ≡ x)) ⊎ ((k ≢ m) × NodeAt w.nodes k x) → c ≤ x.pair.count
        go (inr d) = up k x d.1 p e
        go (inl d) =
            let leads : is_primary n.known m ≡ true = subst (λ j. is_primary n.known j ≡ true) d.0 (subst (λ (y : Node). is_primary y.known k ≡ true) (sym d.1) p) in
            let version : n.known.version ≡ v = subst (λ (y : Node). y.known.version ≡ v) (sym d.1) e in
            subst (λ (y : Node). c ≤ y.pair.count) d.1 (le_trans (up m n at leads version) more)

    pub upto_after : (e : Event C) → IsUpTo (happens o w e).world.nodes v c
    upto_after = walk o w (λ e u. IsUpTo u.nodes v c) (λ e ps. up) (λ e m. up) (λ e s st ps. up) (λ e s st ps. up) (λ e f t i q n j at l. upto_delivered f t i q n j at l)
        (λ m conn number call now n at l p f. upto_called m n (o.changes (pair_state o w n.pair) call now) conn number at)

  -- what is known stays known
  pub known_after : (p : Pair) → IsKnown w p → (e : Event C) → IsKnown (happens o w e).world p
  known_after p (inl z, up) e = subst (IsKnown (happens o w e).world) (sym z) (no_pair_known (happens o w e).world)
  known_after p (inr b, up) e = (inr (bases_more e p.version b), upto_after p.version p.count b up e)

  pub state_after_event : IsLawful o → (p : Pair) → IsKnown w p → (e : Event C) → pair_state o (happens o w e).world p ≡ pair_state o w p
  state_after_event law p k e = stays o law w made inv p k.0 k.1 e

-- one event, where the law of the object is given

module _ {C State : Type 0} (o : Object C State) (law : IsLawful o) (w : World C) (made : List Shape) (inv : Invariant o w made) (event : Event C) where
  -- the state of the pair is what it was
  abbrev pub Same : Pair → Type 0
  Same p = pair_state o (happens o w event).world p ≡ pair_state o w p

  pub node_stays : (m : ℕ) (n : Node) → NodeAt w.nodes m n → Same n.pair
  node_stays m n at = state_after_event o w made inv law n.pair (node_known o w made inv m n at) event

  pub effect_stays : (v i : ℕ) → IsBase w.recorded.bases v → IsUpTo w.nodes v i → Same (record { version = v; count = i - 1 }) × Same (record { version = v; count = i })
  effect_stays v i b up = (
    state_after_event o w made inv law (record { version = v; count = i - 1 }) (fewer_known w v i (i - 1) (omega arith) b up) event,
    state_after_event o w made inv law (record { version = v; count = i }) (inr b, up) event,
  )

  -- and so is that of each pair that a message in flight speaks of
  pub packet_stays : (p : Packet) → In p w.packets → (pair : Pair) → In pair (pairs_of p.message) → Same pair
  packet_stays p i pair j = state_after_event o w made inv law pair (said_known o w made inv p.from p.message pair (flies o w made inv p i) j) event

pub state_after_run : {C State : Type 0} (o : Object C State) (law : IsLawful o) (w : World C) (more : List (Event C)) (p : Pair) → Good o w → IsKnown w p → pair_state o (run o w more) p ≡ pair_state o w p
state_after_run o law w [] p g k = refl
state_after_run o law w (e ∷ more) p g k =
    state_after_run o law (happens o w e).world more p (happens_good o w g.0 g.1 e) (known_after o w g.0 g.1 p k e) ∙ state_after_event o w g.0 g.1 law p k e

pub every_named_state_stays : {C State : Type 0} (o : Object C State) → EveryNamedStateStays o
every_named_state_stays o partition members backups events more pair one law named =
    let w = run o (start partition members backups) events in
    let g : Good o w = grid_good o partition members backups events one in
    ap (λ u. pair_state o u pair) (run_append o (start partition members backups) events more) ∙ state_after_run o law w more pair g (named_known o w g.0 g.1 pair named)

-- the pair with which a version began, and its count in the version, name one state
pub grid_bridged : {C State : Type 0} (o : Object C State) (law : IsLawful o) (partition members backups : ℕ) (events : List (Event C)) → 1 ≤ members → Bridged o (run o (start partition members backups) events)
grid_bridged o law partition zero backups events one = absurd (omega (arith, one))
grid_bridged o law partition (suc k) backups events one = run_bridged o law (start partition (suc k) backups) events (start_good o partition k backups) (bridged o k partition backups)

pub bridge_joins : {C State : Type 0} (o : Object C State) (w : World C) (made : List Shape) (inv : Invariant o w made) → Bridged o w → (p : Packet) (row : Row) (e k : ℕ) → In p w.packets → p.message ≡ Bridge row e k
    → pair_state o w (record { version = row.version; count = k }) ≡ pair_state o w (record { version = e; count = k })
bridge_joins o w made inv bridged p row e k i said =
    let h : PacketOk w.nodes w.recorded.bases made w.crashed p.from (Bridge row e k) = subst (PacketOk w.nodes w.recorded.bases made w.crashed p.from) said (flies o w made inv p i) in
    by_base h.4.0 h.4.1 h.4.2 h.4.3 h.2
  where
    by_base : (b : Base) → In b w.recorded.bases → b.version ≡ row.version → b.pair ≡ record { version = e; count = k } → 1 ≤ e
        → pair_state o w (record { version = row.version; count = k }) ≡ pair_state o w (record { version = e; count = k })
    by_base b j version pair began =
        let count : k ≡ b.pair.count = ap (λ (q : Pair). q.count) (sym pair) in
        ap (λ (q : Pair). pair_state o w q) (pair_same (record { version = row.version; count = k }) (record { version = b.version; count = b.pair.count }) (sym version) count)
        ∙ bridged b j (subst (λ (q : Pair). 1 ≤ q.version) (sym pair) began) ∙ ap (λ (q : Pair). pair_state o w q) pair

pub every_bridge_joins : {C State : Type 0} (o : Object C State) → EveryBridgeJoins o
every_bridge_joins o partition members backups events p row e k one law c said =
    let w = run o (start partition members backups) events in
    let g : Good o w = grid_good o partition members backups events one in
    bridge_joins o w g.0 g.1 (grid_bridged o law partition members backups events one) p row e k (in_contains p w.packets c) said
