-- How a node is after a message, by the few ways in which it takes one.
use Rattle.std.proofs.Common.{◌≡◌, ℕ, ◌+◌, true, false, cond, not, ◌&&◌, ◌==◌, Option, Some, None, nat_lt, nat_le, refl, ap, sym, subst, arith, ◌⊎◌, inl, inr, ◌∙◌, ◌<◌}
use Rattle.partition_table.specs.Rows.{is_primary, is_backup, is_in}
use Rattle.partition_protocol.specs.Messages.{Message, NewRow, Sync, Effect, Bridge, Ack, Joined as JoinedMessage, Freeze, Frozen as FrozenMessage}
use Rattle.partition_protocol.specs.Took.{Synced, Applied, Bridged, Already, Gap, Other, Stale, Adopted, Acked, Frozen as TookFrozen}
use Rattle.partition_protocol.specs.Node.{Node, with_ack}
use Rattle.partition_protocol.specs.Adoption.{adopted_row, sent_on_adopting}
use Rattle.partition_protocol.specs.Replica.{Step, with_pair, is_newer, after_row, sent_by_row, is_ahead, unanswered, acknowledging, with_sent, sync_backup, bridge_backup, on_sync, on_bridge, on_effect, on_ack, on_freeze, taking}
use Rattle.partition_table.specs.declared.Row.{Row}
use Rattle.partition_protocol.proofs.Lists.{on_cond}
use Rattle.partition_protocol.proofs.RowFacts.{both_left, both_right, not_less, same_number, not_false, not_true, not_both, less}
use Rattle.partition_protocol.proofs.Adopt.{adopted_known}
use Rattle.std.proofs.lemmas.Bool.Decides.{nat_tests}

-- the row that a message brings
abbrev pub brought : Message → Option Row
brought (NewRow row) = Some row
brought (Sync row c) = Some row
brought (Bridge row e k) = Some row
brought (Effect v i) = None
brought (Ack v c) = None
brought (JoinedMessage v b) = None
brought (Freeze v) = None
brought (FrozenMessage v) = None

-- the message changes neither what the node knows nor what it heard
abbrev pub IsUnmoved : ℕ → ℕ → Message → Node → Type 0
IsUnmoved m from (NewRow row) n = is_newer row n ≡ false
IsUnmoved m from (Sync row c) n = is_newer row n ≡ false
IsUnmoved m from (Bridge row e k) n = is_newer row n ≡ false
IsUnmoved m from (Effect v i) n = Unit {0}
IsUnmoved m from (Ack v c) n = (is_primary n.known m && (n.known.version == v) && is_backup n.known from) ≡ false
IsUnmoved m from (JoinedMessage v b) n = Unit {0}
IsUnmoved m from (Freeze v) n = (is_primary n.known m && (n.known.version == v)) ≡ false
IsUnmoved m from (FrozenMessage v) n = Unit {0}

-- what has to be shown of the node, for each way in which it takes the message
pub record NodeCases (m from : ℕ) (msg : Message) (n : Node) (R : Node → Type 0) : Type 0 where
  pub stays : IsUnmoved m from msg n → R n
  pub adopts : (row : Row) → brought msg ≡ Some row → is_newer row n ≡ true → R (adopted_row m row n)
  pub syncs : (row : Row) (c : ℕ) (a : Node) → msg ≡ Sync row c → R a → a.known.version ≡ row.version → is_backup a.known m ≡ true → is_ahead row c a ≡ true → R (with_pair a row.version c)
  pub bridges : (row : Row) (e k : ℕ) (a : Node) → msg ≡ Bridge row e k → R a → a.known.version ≡ row.version → is_backup a.known m ≡ true → a.pair.version ≡ e → a.pair.count ≡ k → R (with_pair a row.version k)
  pub applies : (v i : ℕ) → msg ≡ Effect v i → is_backup n.known m ≡ true → n.pair.version ≡ v → i ≡ n.pair.count + 1 → R (with_pair n v i)
  pub acks : (v c : ℕ) → msg ≡ Ack v c → is_primary n.known m ≡ true → n.known.version ≡ v → is_backup n.known from ≡ true → R (record n { acks = with_ack from c n.acks })
  pub freezes : (v : ℕ) → msg ≡ Freeze v → is_primary n.known m ≡ true → n.known.version ≡ v → R (record n { frozen = true })

module _ (m from : ℕ) (msg : Message) (n : Node) (R : Node → Type 0) (c : NodeCases m from msg n R) where
  -- after the row of a Sync or Bridge
  pub row_next : (row : Row) → brought msg ≡ Some row → (is_newer row n ≡ false → IsUnmoved m from msg n) → R (after_row m row n)
  row_next row e f = on_cond R (is_newer row n) (adopted_row m row n) n (λ z. c.adopts row e z) (λ z. c.stays (f z))

  pub next_known : (row : Row) → nat_lt row.version n.known.version ≡ false → (after_row m row n).known.version ≡ row.version
  next_known row e = on_cond (λ (a : Node). a.known.version ≡ row.version) (is_newer row n) (adopted_row m row n) n (λ z. ap (λ (k : Row). k.version) (adopted_known m row n))
      (λ z. let a = not_less n.known.version row.version z in let b = not_less row.version n.known.version e in omega (arith, a, b))

  -- an older row isn't newer
  pub older : (row : Row) → nat_lt row.version n.known.version ≡ true → is_newer row n ≡ false
  older row e = grind (arith, nat_tests)

  pub sync_case : (row : Row) (k : ℕ) → msg ≡ Sync row k → R (on_sync m from row k n).node
  sync_case row k e =
      on_cond (λ (s : Step). R s.node) (nat_lt row.version n.known.version) (unanswered n Other) (with_sent (sent_by_row m row n) (cond (is_backup (after_row m row n).known m) (sync_backup from row k (after_row m row n)) (unanswered (after_row m row n) Other)))
      (λ z. c.stays (unmoved (older row z)))
      (λ z. on_cond (λ (s : Step). R s.node) (is_backup (after_row m row n).known m) (sync_backup from row k (after_row m row n)) (unanswered (after_row m row n) Other)
      (λ b. on_cond (λ (s : Step). R s.node) (is_ahead row k (after_row m row n)) (acknowledging (with_pair (after_row m row n) row.version k) from Synced) (acknowledging (after_row m row n) from Already)
      (λ h. c.syncs row k (after_row m row n) e next (next_known row z) b h) (λ h. next)) (λ b. next))
    where
      unmoved : is_newer row n ≡ false → IsUnmoved m from msg n
      unmoved z = subst (λ x. IsUnmoved m from x n) (sym e) z

      next : R (after_row m row n)
      next = row_next row (ap brought e) unmoved

  pub bridge_case : (row : Row) (v k : ℕ) → msg ≡ Bridge row v k → R (on_bridge m from row v k n).node
  bridge_case row v k e =
      on_cond (λ (s : Step). R s.node) (nat_lt row.version n.known.version) (unanswered n Other) (with_sent (sent_by_row m row n) (cond (is_backup next_node.known m) (bridge_backup from row v k next_node) (unanswered next_node Other)))
      (λ z. c.stays (unmoved (older row z)))
      (λ z. on_cond (λ (s : Step). R s.node) (is_backup next_node.known m) (bridge_backup from row v k next_node) (unanswered next_node Other)
      (λ b. on_cond (λ (s : Step). R s.node) (next_node.pair.version == row.version) (acknowledging next_node from Already) (cond ((next_node.pair.version == v) && (next_node.pair.count == k)) (acknowledging (with_pair next_node row.version k) from Bridged) (unanswered next_node Gap)) (λ h. next)
      (λ h. on_cond (λ (s : Step). R s.node) ((next_node.pair.version == v) && (next_node.pair.count == k)) (acknowledging (with_pair next_node row.version k) from Bridged) (unanswered next_node Gap)
      (λ t. c.bridges row v k next_node e next (next_known row z) b (same_number next_node.pair.version v (both_left (next_node.pair.version == v) (next_node.pair.count == k) t)) (same_number next_node.pair.count k (both_right (next_node.pair.version == v) (next_node.pair.count == k) t))) (λ t. next))) (λ b. next))
    where
      next_node : Node
      next_node = after_row m row n

      unmoved : is_newer row n ≡ false → IsUnmoved m from msg n
      unmoved z = subst (λ x. IsUnmoved m from x n) (sym e) z

      next : R (after_row m row n)
      next = row_next row (ap brought e) unmoved

  pub effect_case : (v i : ℕ) → msg ≡ Effect v i → R (on_effect m from v i n).node
  effect_case v i e =
      on_cond (λ (s : Step). R s.node) (not (is_backup n.known m && (n.pair.version == v))) (unanswered n Other) (cond (i == n.pair.count + 1) (acknowledging (with_pair n v i) from Applied) (cond (nat_le i n.pair.count) (acknowledging n from Already) (unanswered n Gap)))
      (λ z. here)
      (λ z. on_cond (λ (s : Step). R s.node) (i == n.pair.count + 1) (acknowledging (with_pair n v i) from Applied) (cond (nat_le i n.pair.count) (acknowledging n from Already) (unanswered n Gap))
      (λ h. let t = not_false (is_backup n.known m && (n.pair.version == v)) z in
      c.applies v i e (both_left (is_backup n.known m) (n.pair.version == v) t) (same_number n.pair.version v (both_right (is_backup n.known m) (n.pair.version == v) t)) (same_number i (n.pair.count + 1) h))
      (λ h. on_cond (λ (s : Step). R s.node) (nat_le i n.pair.count) (acknowledging n from Already) (unanswered n Gap) (λ t. here) (λ t. here)))
    where
      here : R n
      here = c.stays (subst (λ x. IsUnmoved m from x n) (sym e) tt)

  pub ack_case : (service v k : ℕ) → msg ≡ Ack v k → R (on_ack service m from v k n).node
  ack_case service v k e =
      on_cond (λ (s : Step). R s.node) (is_primary n.known m && (n.known.version == v) && is_backup n.known from)
      (record { node = record n { acks = with_ack from k n.acks }; sent = _; took = Acked }) (unanswered n Stale)
      (λ z. let both = both_left (is_primary n.known m && (n.known.version == v)) (is_backup n.known from) z in
      c.acks v k e (both_left (is_primary n.known m) (n.known.version == v) both) (same_number n.known.version v (both_right (is_primary n.known m) (n.known.version == v) both))
      (both_right (is_primary n.known m && (n.known.version == v)) (is_backup n.known from) z))
      (λ z. c.stays (subst (λ x. IsUnmoved m from x n) (sym e) z))

  pub freeze_case : (service v : ℕ) → msg ≡ Freeze v → R (on_freeze service m v n).node
  freeze_case service v e =
      on_cond (λ (s : Step). R s.node) (is_primary n.known m && (n.known.version == v)) (record { node = record n { frozen = true }; sent = _; took = TookFrozen }) (unanswered n Stale)
      (λ z. c.freezes v e (both_left (is_primary n.known m) (n.known.version == v) z) (same_number n.known.version v (both_right (is_primary n.known m) (n.known.version == v) z)))
      (λ z. c.stays (subst (λ x. IsUnmoved m from x n) (sym e) z))

  pub by_message : (service : ℕ) (x : Message) → msg ≡ x → R (taking service m from x n).node
  by_message service (NewRow row) e = on_cond (λ (s : Step). R s.node) (is_newer row n) (record { node = adopted_row m row n; sent = sent_on_adopting m (adopted_row m row n); took = Adopted }) (unanswered n Stale)
      (λ z. c.adopts row (ap brought e) z) (λ z. c.stays (subst (λ x. IsUnmoved m from x n) (sym e) z))
  by_message service (Sync row k) e = sync_case row k e
  by_message service (Bridge row v k) e = bridge_case row v k e
  by_message service (Effect v i) e = effect_case v i e
  by_message service (Ack v k) e = ack_case service v k e
  by_message service (Freeze v) e = freeze_case service v e
  by_message service (JoinedMessage v b) e = c.stays (subst (λ x. IsUnmoved m from x n) (sym e) tt)
  by_message service (FrozenMessage v) e = c.stays (subst (λ x. IsUnmoved m from x n) (sym e) tt)

  -- whatever the message
  pub every_taking : (service : ℕ) → R (taking service m from msg n).node
  every_taking service = by_message service msg refl

-- it knows the same row as before, and keeps its pair where it is primary, or it knows a newer one
abbrev pub KeepsRow : ℕ → Node → Node → Type 0
KeepsRow m n a = ((a.known ≡ n.known) × (is_primary n.known m ≡ true → a.pair ≡ n.pair)) ⊎ (n.known.version < a.known.version)

pub backup_not_primary : (row : Row) (m : ℕ) → is_backup row m ≡ true → is_primary row m ≡ true → ⊥
backup_not_primary row m b p = not_both (is_primary row m) p (not_true (is_primary row m) (both_left (not (is_primary row m)) (is_in row m) b))

pub paired_keeps : (m v c : ℕ) (n a : Node) → is_backup a.known m ≡ true → KeepsRow m n a → KeepsRow m n (with_pair a v c)
paired_keeps m v c n a b (inl h) = inl (h.0, λ p. absurd (backup_not_primary a.known m b (subst (λ row. is_primary row m ≡ true) (sym h.0) p)))
paired_keeps m v c n a b (inr l) = inr l

pub taking_keeps : (service m from : ℕ) (msg : Message) (n : Node) → KeepsRow m n (taking service m from msg n).node
taking_keeps service m from msg n = every_taking m from msg n (KeepsRow m n) (record {
  stays = λ u. inl (refl, λ p. refl);
  adopts = λ row e newer. inr (subst (λ (k : Row). n.known.version < k.version) (sym (adopted_known m row n)) (less n.known.version row.version newer));
  syncs = λ row c a e r v b l. paired_keeps m row.version c n a b r;
  bridges = λ row v k a e r w b s t. paired_keeps m row.version k n a b r;
  applies = λ v i e b s t. paired_keeps m v i n n b (inl (refl, λ p. refl));
  acks = λ v c e p k b. inl (refl, λ z. refl);
  freezes = λ v e p k. inl (refl, λ z. refl);
}) service

-- a newer row that the message brings is the one that it knows then
pub unmoved_old : (m from : ℕ) (msg : Message) (n : Node) (row : Row) → brought msg ≡ Some row → IsUnmoved m from msg n → is_newer row n ≡ false
unmoved_old m from (NewRow r) n row e u = let same : r ≡ row = cc in subst (λ k. is_newer k n ≡ false) same u
unmoved_old m from (Sync r c) n row e u = let same : r ≡ row = cc in subst (λ k. is_newer k n ≡ false) same u
unmoved_old m from (Bridge r v k) n row e u = let same : r ≡ row = cc in subst (λ x. is_newer x n ≡ false) same u
unmoved_old m from (Effect v i) n row e u = absurd cc
unmoved_old m from (Ack v c) n row e u = absurd cc
unmoved_old m from (JoinedMessage v b) n row e u = absurd cc
unmoved_old m from (Freeze v) n row e u = absurd cc
unmoved_old m from (FrozenMessage v) n row e u = absurd cc

pub taking_known : (service m from : ℕ) (msg : Message) (n : Node) (row : Row) → brought msg ≡ Some row → is_newer row n ≡ true → (taking service m from msg n).node.known ≡ row
taking_known service m from msg n row e newer = every_taking m from msg n (λ a. a.known ≡ row) (record {
  stays = λ u. absurd (not_both (is_newer row n) newer (unmoved_old m from msg n row e u));
  adopts = λ r f z. (let same : r ≡ row = cc in adopted_known m r n ∙ same);
  syncs = λ r c a f k v b l. k;
  bridges = λ r v c a f k w b s t. k;
  applies = λ v i f b s t. absurd (none cc);
  acks = λ v c f p k b. absurd (none cc);
  freezes = λ v f p k. absurd (none cc);
}) service
  where
    none : brought msg ≡ None → ⊥
    none f = absurd cc
