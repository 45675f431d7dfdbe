-- What a message says of the node that sends it.
use Rattle.std.proofs.Common.{◌≡◌, ◌≢◌, ℕ, zero, suc, ◌+◌, ◌-◌, ◌<◌, ◌≤◌, Bool, true, false, cond, not, ◌&&◌, ◌||◌, ◌==◌, List, [], ◌∷◌, ◌++◌, Option, Some, None, is_some, nat_lt, nat_le, flat_map, refl, sym, subst, ◌⊎◌, inl, inr, arith}
use Rattle.partition_table.specs.Rows.{is_primary, is_in, is_backup, is_eligible, backups_of, is_empty, numbers_of}
use Rattle.partition_protocol.specs.Messages.{Message, NewRow, Sync, Effect, Bridge, Ack, Joined as JoinedMessage, Freeze, Frozen as FrozenMessage, Sent}
use Rattle.partition_protocol.specs.Took.{Synced, Applied, Bridged, Already, Gap, Other, Stale, Adopted, Acked, Frozen as TookFrozen}
use Rattle.partition_protocol.specs.Node.{Pair, Node, with_ack, settled, acked}
use Rattle.partition_protocol.specs.CatchUp.{heard, effects, effects_from, recent_effects_to, whole_snapshot, catch_up_by, is_covered, catch_up}
use Rattle.partition_protocol.specs.Adoption.{adopted_row, sent_on_adopting}
use Rattle.partition_protocol.specs.Replica.{Step, with_pair, is_newer, after_row, sent_by_row, is_ahead, unanswered, acknowledging, with_sent, sync_backup, bridge_backup, on_sync, on_bridge, on_effect, on_ack, on_freeze, joined_note, frozen_note, to_one, taking, lags, joined_again, sent_again}
use Rattle.partition_table.specs.declared.Row.{Row}
use Rattle.partition_table.specs.declared.RowMember.{RowMember}
use Rattle.partition_protocol.proofs.Lists.{In, Every, every_append, every_map, every_flat_map, every_if, on_cond, on_if}
use Rattle.partition_protocol.proofs.RowFacts.{among_in, both_left, both_right, not_true, same_number, other_number}
use Rattle.partition_protocol.proofs.Release.{first_in_members}

-- effect i of version v is one that a backup at pair p gets from its primary: one of the known version, or one of the version before, up to the count at which the primary adopted the known one
abbrev pub IsLater : Node → Pair → ℕ → ℕ → Type 0
IsLater a p v i =
    ((p.version ≡ a.known.version) × (v ≡ a.known.version) × (p.count < i) × (i ≤ a.pair.count))
    ⊎ ((p.version ≢ a.known.version) × (v ≡ p.version) × (p.count < i) × (i ≤ a.adopted))
    ⊎ ((p.version ≢ a.known.version) × (v ≡ a.known.version) × (a.adopted < i) × (i ≤ a.pair.count))

abbrev pub IsBackupIn : Row → ℕ → Type 0
IsBackupIn row b = (p : RowMember) × In p (backups_of row) × (p.member ≡ b)

-- a message that a backup answers
abbrev pub IsAnswered : Message → Type 0
IsAnswered (Sync row c) = Unit {0}
IsAnswered (Effect v i) = Unit {0}
IsAnswered (Bridge row e k) = Unit {0}
IsAnswered (NewRow row) = ⊥
IsAnswered (Ack v c) = ⊥
IsAnswered (JoinedMessage v b) = ⊥
IsAnswered (Freeze v) = ⊥
IsAnswered (FrozenMessage v) = ⊥

-- what member m, whose node is a, says to an end: as a primary to its backups, to the sender of what it took if that is answered, or to the service
abbrev pub Says : (service m from : ℕ) → Type 0 → Node → ℕ → Message → Type 0
Says service m from answered a to (NewRow row) = ⊥
Says service m from answered a to (Sync row c) = (is_primary a.known m ≡ true) × IsBackupIn a.known to × (row ≡ a.known) × (c ≡ a.pair.count)
Says service m from answered a to (Effect v i) = (is_primary a.known m ≡ true) × IsBackupIn a.known to × ((p : Pair) × (heard a to ≡ Some p) × IsLater a p v i)
Says service m from answered a to (Bridge row e k) = (is_primary a.known m ≡ true) × IsBackupIn a.known to × (row ≡ a.known) × (k ≡ a.adopted) × ((p : Pair) × (heard a to ≡ Some p) × (p.version ≡ e) × (e ≢ a.known.version))
Says service m from answered a to (Ack v c) = answered × (to ≡ from) × (v ≡ a.pair.version) × (c ≡ a.pair.count)
Says service m from answered a to (JoinedMessage v b) = (to ≡ service) × (v ≡ a.known.version) × (is_primary a.known m ≡ true) × (is_in a.known b ≡ true)
Says service m from answered a to (Freeze v) = ⊥
Says service m from answered a to (FrozenMessage v) = (to ≡ service) × (v ≡ a.known.version) × (is_primary a.known m ≡ true) × (a.frozen ≡ true)

module _ (service m from : ℕ) (answered : Type 0) (a : Node) where
  abbrev pub SaysSent : Sent → Type 0
  SaysSent s = Says service m from answered a s.to s.message

  -- a primary to its backups
  module _ (leads : is_primary a.known m ≡ true) where
    module _ (to : ℕ) (backup : IsBackupIn a.known to) where
      abbrev pub SaysTo : Message → Type 0
      SaysTo x = Says service m from answered a to x

      pub effects_from_says : (v c k : ℕ) (p : Pair) → heard a to ≡ Some p → ((i : ℕ) → c < i → i ≤ c + k → IsLater a p v i) → Every SaysTo (effects_from v c k)
      effects_from_says v c zero p h f = tt
      effects_from_says v c (suc k) p h f =
          ((leads, backup, (p, h, f (c + 1) (omega arith) (omega arith))), effects_from_says v (c + 1) k p h (λ i l r. f i (omega (arith, l)) (omega (arith, r))))

      pub effects_says : (v c d : ℕ) (p : Pair) → heard a to ≡ Some p → ((i : ℕ) → c < i → i ≤ d → IsLater a p v i) → Every SaysTo (effects v c d)
      effects_says v c d p h f = effects_from_says v c (d - c) p h (λ i l r. f i l (omega (arith, l, r)))

      pub recent_effects_says : (p : Pair) → heard a to ≡ Some p → Every SaysTo (recent_effects_to a p)
      recent_effects_says p h = on_cond (λ xs. Every SaysTo xs) (p.version == a.known.version) (effects p.version p.count a.pair.count)
          (effects p.version p.count a.adopted ++ (Bridge a.known p.version a.adopted ∷ effects a.known.version a.adopted a.pair.count))
          (λ e. let s = same_number p.version a.known.version e in effects_says p.version p.count a.pair.count p h (λ i l r. inl (s, s, l, r)))
          (λ e.
          let d = other_number p.version a.known.version e in
          every_append SaysTo (effects p.version p.count a.adopted) (Bridge a.known p.version a.adopted ∷ effects a.known.version a.adopted a.pair.count)
          (effects_says p.version p.count a.adopted p h (λ i l r. inr (inl (d, refl, l, r))))
          ((leads, backup, refl, refl, (p, h, refl, d)), effects_says a.known.version a.adopted a.pair.count p h (λ i l r. inr (inr (d, refl, l, r)))))

      pub snapshot_says : Every SaysTo (whole_snapshot a)
      snapshot_says = ((leads, backup, refl, refl), tt)

      pub catch_up_by_says : (eligible : Bool) (p : Option Pair) → heard a to ≡ p → Every SaysTo (catch_up_by a eligible p)
      catch_up_by_says false p h = snapshot_says
      catch_up_by_says true None h = snapshot_says
      catch_up_by_says true (Some p) h = on_if (λ xs. Every SaysTo xs) (is_covered a p) (recent_effects_to a p) (whole_snapshot a) (recent_effects_says p h) snapshot_says

    pub catch_up_says : (b : RowMember) → In b (backups_of a.known) → Every SaysSent (catch_up a b)
    catch_up_says b i = every_map SaysSent (λ (x : Message). record { to = b.member; message = x }) (catch_up_by a b.eligible (heard a b.member)) (catch_up_by_says b.member (b, i, refl) b.eligible (heard a b.member) refl)

    pub frozen_says : (b : Bool) → (b ≡ true → a.frozen ≡ true) → Every SaysSent (cond b (to_one service (FrozenMessage a.known.version)) [])
    frozen_says true f = ((refl, refl, leads, f refl), tt)
    frozen_says false f = tt

    pub joined_again_says : (p : RowMember) → is_in a.known p.member ≡ true → Every SaysSent (joined_again service a p)
    joined_again_says p i = every_if SaysSent (is_some (acked a p.member) && not p.eligible) (to_one service (JoinedMessage a.known.version p.member)) [] ((refl, refl, leads, i), tt) tt

  pub adopting_says : Every SaysSent (sent_on_adopting m a)
  adopting_says = on_cond (λ ss. Every SaysSent ss) (is_primary a.known m) (flat_map (catch_up a) (backups_of a.known)) []
      (λ e. every_flat_map SaysSent (catch_up a) (backups_of a.known) (λ b i. catch_up_says e b i)) (λ e. tt)

  pub ack_says : answered → Every SaysSent (to_one from (Ack a.pair.version a.pair.count))
  ack_says k = ((k, refl, refl, refl), tt)

-- sent again

pub again_says : (service m from : ℕ) (answered : Type 0) (a : Node) → is_primary a.known m ≡ true → Every (SaysSent service m from answered a) (sent_again service a)
again_says service m from answered a leads =
    every_append S (flat_map copies (backups_of a.known) ++ flat_map (joined_again service a) (backups_of a.known)) (cond (a.frozen && is_empty a.held) (to_one service (FrozenMessage a.known.version)) [])
    (every_append S (flat_map copies (backups_of a.known)) (flat_map (joined_again service a) (backups_of a.known))
    (every_flat_map S copies (backups_of a.known) (λ p i. every_if S (lags a p.member) (catch_up a p) [] (catch_up_says service m from answered a leads p i) tt))
    (every_flat_map S (joined_again service a) (backups_of a.known) (λ p i. joined_again_says service m from answered a leads p (backup_in p i))))
    (frozen_says service m from answered a leads (a.frozen && is_empty a.held) (λ e. both_left a.frozen (is_empty a.held) e))
  where
    S : Sent → Type 0
    S = SaysSent service m from answered a

    copies : RowMember → List Sent
    copies p = cond (lags a p.member) (catch_up a p) []

    backup_in : (p : RowMember) → In p (backups_of a.known) → is_in a.known p.member ≡ true
    backup_in p i = among_in (numbers_of a.known) p.member (first_in_members a.known.members p i)

-- what is sent as a message is taken

module _ (service m from : ℕ) (answered : Type 0) (n : Node) where
  -- the node after it says all that is sent
  abbrev pub StepSays : Step → Type 0
  StepSays s = Every (SaysSent service m from answered s.node) s.sent

  pub quiet_says : (row : Row) → Every (SaysSent service m from answered (after_row m row n)) (sent_by_row m row n)
  quiet_says row = go (is_newer row n)
    where
      go : (b : Bool) → Every (SaysSent service m from answered (cond b (adopted_row m row n) n)) (cond b (sent_on_adopting m (adopted_row m row n)) [])
      go true = adopting_says service m from answered (adopted_row m row n)
      go false = tt

  -- a backup sends nothing as it adopts a row
  pub backup_sends_none : (row : Row) → is_backup (after_row m row n).known m ≡ true → sent_by_row m row n ≡ []
  backup_sends_none row b = go (is_newer row n) (not_true (is_primary (after_row m row n).known m) (both_left (not (is_primary (after_row m row n).known m)) (is_in (after_row m row n).known m) b))
    where
      go : (t : Bool) → is_primary (cond t (adopted_row m row n) n).known m ≡ false → cond t (sent_on_adopting m (adopted_row m row n)) [] ≡ []
      go true e = rw e refl
      go false e = refl

  pub rest_says : (row : Row) (rest : Step) → StepSays rest → StepSays (with_sent (sent_by_row m row n) (cond (is_backup (after_row m row n).known m) rest (unanswered (after_row m row n) Other)))
  rest_says row rest h = on_cond (λ (s : Step). StepSays (with_sent (sent_by_row m row n) s)) (is_backup (after_row m row n).known m) rest (unanswered (after_row m row n) Other)
      (λ b. subst (λ ss. Every (SaysSent service m from answered rest.node) (ss ++ rest.sent)) (sym (backup_sends_none row b)) h)
      (λ b. every_append (SaysSent service m from answered (after_row m row n)) (sent_by_row m row n) [] (quiet_says row) tt)

  pub sync_says : answered → (row : Row) (k : ℕ) → StepSays (on_sync m from row k n)
  sync_says g row k = on_if StepSays (nat_lt row.version n.known.version) (unanswered n Other) (with_sent (sent_by_row m row n) (cond (is_backup (after_row m row n).known m) (sync_backup from row k (after_row m row n)) (unanswered (after_row m row n) Other))) tt
      (rest_says row (sync_backup from row k (after_row m row n)) (on_if StepSays (is_ahead row k (after_row m row n)) (acknowledging (with_pair (after_row m row n) row.version k) from Synced) (acknowledging (after_row m row n) from Already)
      (ack_says service m from answered (with_pair (after_row m row n) row.version k) g) (ack_says service m from answered (after_row m row n) g)))

  pub bridge_says : answered → (row : Row) (v k : ℕ) → StepSays (on_bridge m from row v k n)
  bridge_says g row v k = on_if StepSays (nat_lt row.version n.known.version) (unanswered n Other) (with_sent (sent_by_row m row n) (cond (is_backup (after_row m row n).known m) (bridge_backup from row v k (after_row m row n)) (unanswered (after_row m row n) Other))) tt
      (rest_says row (bridge_backup from row v k (after_row m row n)) (on_if StepSays ((after_row m row n).pair.version == row.version) (acknowledging (after_row m row n) from Already)
      (cond (((after_row m row n).pair.version == v) && ((after_row m row n).pair.count == k)) (acknowledging (with_pair (after_row m row n) row.version k) from Bridged) (unanswered (after_row m row n) Gap))
      (ack_says service m from answered (after_row m row n) g)
      (on_if StepSays (((after_row m row n).pair.version == v) && ((after_row m row n).pair.count == k)) (acknowledging (with_pair (after_row m row n) row.version k) from Bridged) (unanswered (after_row m row n) Gap)
      (ack_says service m from answered (with_pair (after_row m row n) row.version k) g) tt)))

  pub effect_says : answered → (v i : ℕ) → StepSays (on_effect m from v i n)
  effect_says g v i = on_if StepSays (not (is_backup n.known m && (n.pair.version == v))) (unanswered n Other) (cond (i == n.pair.count + 1) (acknowledging (with_pair n v i) from Applied) (cond (nat_le i n.pair.count) (acknowledging n from Already) (unanswered n Gap))) tt
      (on_if StepSays (i == n.pair.count + 1) (acknowledging (with_pair n v i) from Applied) (cond (nat_le i n.pair.count) (acknowledging n from Already) (unanswered n Gap)) (ack_says service m from answered (with_pair n v i) g)
      (on_if StepSays (nat_le i n.pair.count) (acknowledging n from Already) (unanswered n Gap) (ack_says service m from answered n g) tt))

  pub heard_ack_says : (v c : ℕ) → StepSays (on_ack service m from v c n)
  heard_ack_says v c = on_cond StepSays (is_primary n.known m && (n.known.version == v) && is_backup n.known from)
      (record { node = next; sent = joined_note service from n ++ frozen_note service next (settled next); took = Acked }) (unanswered n Stale) taken (λ e. tt)
    where
      next : Node
      next = record n { acks = with_ack from c n.acks }

      taken : (is_primary n.known m && (n.known.version == v) && is_backup n.known from) ≡ true → Every (SaysSent service m from answered next) (joined_note service from n ++ frozen_note service next (settled next))
      taken e =
          let leads = both_left (is_primary n.known m) (n.known.version == v) (both_left (is_primary n.known m && (n.known.version == v)) (is_backup n.known from) e) in
          let there = both_right (not (is_primary n.known from)) (is_in n.known from) (both_right (is_primary n.known m && (n.known.version == v)) (is_backup n.known from) e) in
          every_append (SaysSent service m from answered next) (joined_note service from n) (frozen_note service next (settled next))
          (every_if (SaysSent service m from answered next) (is_some (acked n from) || is_eligible n.known from) [] (to_one service (JoinedMessage n.known.version from)) tt ((refl, refl, leads, there), tt))
          (frozen_says service m from answered next leads (n.frozen && not (is_empty n.held) && is_empty (settled next).held)
          (λ z. both_left n.frozen (not (is_empty n.held)) (both_left (n.frozen && not (is_empty n.held)) (is_empty (settled next).held) z)))

  pub freeze_says : (v : ℕ) → StepSays (on_freeze service m v n)
  freeze_says v = on_cond StepSays (is_primary n.known m && (n.known.version == v)) (record { node = record n { frozen = true }; sent = cond (is_empty n.held) (to_one service (FrozenMessage v)) []; took = TookFrozen }) (unanswered n Stale)
      (λ e. every_if (SaysSent service m from answered (record n { frozen = true })) (is_empty n.held) (to_one service (FrozenMessage v)) []
      ((refl, sym (same_number n.known.version v (both_right (is_primary n.known m) (n.known.version == v) e)), both_left (is_primary n.known m) (n.known.version == v) e, refl), tt) tt)
      (λ e. tt)

-- whatever the message
pub taking_says : (service m from : ℕ) (n : Node) (msg : Message) → StepSays service m from (IsAnswered msg) n (taking service m from msg n)
taking_says service m from n (NewRow row) = on_if (StepSays service m from ⊥ n) (is_newer row n) (record { node = adopted_row m row n; sent = sent_on_adopting m (adopted_row m row n); took = Adopted }) (unanswered n Stale) (adopting_says service m from ⊥ (adopted_row m row n)) tt
taking_says service m from n (Sync row k) = sync_says service m from (Unit {0}) n tt row k
taking_says service m from n (Bridge row v k) = bridge_says service m from (Unit {0}) n tt row v k
taking_says service m from n (Effect v i) = effect_says service m from (Unit {0}) n tt v i
taking_says service m from n (Ack v c) = heard_ack_says service m from ⊥ n v c
taking_says service m from n (Freeze v) = freeze_says service m from ⊥ n v
taking_says service m from n (JoinedMessage v b) = tt
taking_says service m from n (FrozenMessage v) = tt
