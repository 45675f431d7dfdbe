-- Each effect in flight is that of one executed call: of every version, the effects past the count with which it began are those of calls.
-- And what a primary keeps of counts is between that with which its version began and its own.
use Rattle.std.proofs.Common.{◌≡◌, ◌≢◌, ℕ, zero, suc, ◌+◌, ◌-◌, ◌<◌, ◌≤◌, max, Bool, true, false, cond, not, ◌&&◌, ◌==◌, List, [], ◌∷◌, ◌++◌, map, Option, Some, None, nat_lt, slice_set, refl, ap, sym, ◌∙◌, subst, ◌⊎◌, ⊎_elim, inl, inr, arith, le_trans, true≢false}
use Rattle.grid_base.specs.Objects.{Object}
use Rattle.partition_table.specs.declared.Row.{Row}
use Rattle.partition_table.specs.declared.RowMember.{RowMember}
use Rattle.partition_table.specs.Rows.{is_primary, is_backup, is_in, is_among, initial_row, backups_of}
use Rattle.partition_protocol.specs.Messages.{Message, NewRow, Sync, Effect, Bridge, Ack, Joined as JoinedMessage, Freeze, Frozen as FrozenMessage, Sent, Packet}
use Rattle.partition_protocol.specs.Node.{Pair, Acknowledged, Earlier, Node, no_pair, opening_node, opening_pair, acked, acked_by, with_ack, settled}
use Rattle.partition_protocol.specs.CatchUp.{heard, heard_earlier}
use Rattle.partition_protocol.specs.Adoption.{adopted_row, adopt_as_primary, adopt_as_other, begun, emptied, is_before_reset, stays_primary, carried_answers}
use Rattle.partition_protocol.specs.Replica.{Step, is_newer, with_pair, taking, sent_again}
use Rattle.partition_protocol.specs.Execution.{executing, sent_on_executing}
use Rattle.partition_protocol.specs.Service.{Service, Move, NoMove, Joining, Joined, Freezing, Drained, telling, freezing_again, freeze_of, undetected, reopening}
use Rattle.partition_protocol.specs.History.{Executed, Called, Base}
use Rattle.partition_protocol.specs.World.{World, start, is_live, bases_after, pair_state}
use Rattle.partition_protocol.specs.Links.{taken_out, packets_from, with_packets, sending}
use Rattle.partition_protocol.specs.Events.{Event, delivered, entry_of, executed_with, told_all, happens, run, with_reset}
use Rattle.partition_protocol.specs.Claims.{IsLawful}
use Rattle.partition_protocol.specs.NamedStates.{IsEffect, EveryEffectLeads}
use Rattle.partition_protocol.proofs.Lists.{In, in_left, in_right, in_contains, contains_in, Every, every_append, every_in, every_from_in, get_set, set_get_same, on_cond, on_if}
use Rattle.partition_protocol.proofs.Histories.{IsBase, Falling, base_same, base_below}
use Rattle.partition_protocol.proofs.Invariant.{Shape, NodeAt, IsUpTo, PacketOk, NodeOk, Invariant}
use Rattle.partition_protocol.proofs.RowFacts.{both_left, both_right, not_true, not_both}
use Rattle.partition_protocol.proofs.Forward.{le_cases}
use Rattle.partition_protocol.proofs.Release.{acked_by_in, or_opening_cases}
use Rattle.partition_protocol.proofs.Deliver.{packets_append}
use Rattle.partition_protocol.proofs.Events.{Good, taken_every, happens_good}
use Rattle.partition_protocol.proofs.Extends.{extends}
use Rattle.partition_protocol.proofs.States.{Grows, grown, state_executed}
use Rattle.partition_protocol.proofs.EffectCalls.{first_longer, first_called}
use Rattle.partition_protocol.proofs.NamedStates.{IsKnown, flies, node_known, base_known, sync_known, state_after_event, bases_more, upto_after}
use Rattle.partition_protocol.proofs.Takings.{brought, every_taking, taking_known, backup_not_primary}
use Rattle.partition_protocol.proofs.Says.{IsLater, IsAnswered, Says, SaysSent, taking_says, again_says}
use Rattle.partition_protocol.proofs.EventCases.{EventCases, every_event, place_in}
use Rattle.partition_protocol.proofs.Theorem.{start_good, opened_node}
use Rattle.partition_protocol.proofs.Safe

-- the version began with no more than c effects counted
abbrev pub IsFloor : List Base → ℕ → ℕ → Type 0
IsFloor bs v c = (b : Base) → In b bs → b.version ≡ v → b.pair.count ≤ c

-- it began with exactly c
abbrev pub IsStart : List Base → ℕ → ℕ → Type 0
IsStart bs v c = (b : Base) → In b bs → b.version ≡ v → b.pair.count ≡ c

-- a call's effect, where the object is lawful
abbrev pub IsCalls : {C State : Type 0} → Object C State → World C → ℕ → ℕ → Type 0
IsCalls o w v i = IsLawful o → IsEffect o w v i

-- each effect of the version past those, up to c, is a call's
abbrev pub AreEffects : {C State : Type 0} → Object C State → World C → ℕ → ℕ → Type 0
AreEffects o w v c = (i : ℕ) (b : Base) → In b w.recorded.bases → b.version ≡ v → b.pair.count < i → i ≤ c → IsCalls o w v i

-- calls lead to the pair, from the count with which its version began
abbrev pub PairLed : {C State : Type 0} → Object C State → World C → ℕ → ℕ → Type 0
PairLed o w v c = IsFloor w.recorded.bases v c × AreEffects o w v c

-- they lead to a node's pair, and all that it was acknowledged is past what the version began with, and no more than was counted
pub record NodeLed {C State : Type 0} (o : Object C State) (w : World C) (m : ℕ) (n : Node) : Type 0 where
  pub pair : PairLed o w n.pair.version n.pair.count
  pub acks : is_primary n.known m ≡ true → (a : Acknowledged) → In a n.acks → IsFloor w.recorded.bases n.known.version a.count × (a.count ≤ n.pair.count)
  pub opening : n.opening ≡ true → IsBase w.recorded.bases n.known.version × IsFloor w.recorded.bases n.known.version 0
  pub earlier : (e : Earlier) → is_primary n.known m ≡ true → n.earlier ≡ Some e → (a : Acknowledged) → In a e.acks → IsFloor w.recorded.bases e.version a.count × (a.count ≤ n.adopted)
  pub adopted : is_primary n.known m ≡ true → IsStart w.recorded.bases n.known.version n.adopted
  pub recent : is_primary n.known m ≡ true → n.recent ≤ n.pair.count

-- and to what a message says
abbrev pub MessageLed : {C State : Type 0} → Object C State → World C → Message → Type 0
MessageLed o w (Sync row c) = PairLed o w row.version c
MessageLed o w (Effect v i) = (1 ≤ i) × IsCalls o w v i
MessageLed o w (Ack v c) = IsFloor w.recorded.bases v c × IsUpTo w.nodes v c
MessageLed o w (NewRow row) = Unit {0}
MessageLed o w (Bridge row e k) = Unit {0}
MessageLed o w (JoinedMessage v b) = Unit {0}
MessageLed o w (Freeze v) = Unit {0}
MessageLed o w (FrozenMessage v) = Unit {0}

abbrev pub PacketLed : {C State : Type 0} → Object C State → World C → Packet → Type 0
PacketLed o w p = MessageLed o w p.message

pub record Led {C State : Type 0} (o : Object C State) (w : World C) : Type 0 where
  pub nodes : (m : ℕ) (n : Node) → NodeAt w.nodes m n → NodeLed o w m n
  pub bases : (b : Base) → In b w.recorded.bases → AreEffects o w b.pair.version b.pair.count
  pub packets : Every (PacketLed o w) w.packets

-- what an event keeps

pub record Kept {C State : Type 0} (o : Object C State) (w u : World C) : Type 0 where
  pub good : Good o u
  pub base : (v : ℕ) → IsBase w.recorded.bases v → IsBase u.recorded.bases v
  pub floor : (v c : ℕ) → IsBase w.recorded.bases v → IsFloor w.recorded.bases v c → IsFloor u.recorded.bases v c
  pub start : (v c : ℕ) → IsBase w.recorded.bases v → IsStart w.recorded.bases v c → IsStart u.recorded.bases v c
  pub upto : (v c : ℕ) → IsBase w.recorded.bases v → IsUpTo w.nodes v c → IsUpTo u.nodes v c
  pub effect : (v i : ℕ) → IsBase w.recorded.bases v → IsUpTo w.nodes v i → IsCalls o w v i → IsCalls o u v i
  pub effects : (v c : ℕ) → IsBase w.recorded.bases v → IsUpTo w.nodes v c → AreEffects o w v c → AreEffects o u v c
  pub states : IsLawful o → (p : Pair) → IsKnown w p → pair_state o u p ≡ pair_state o w p

pub kept_after : {C State : Type 0} (o : Object C State) (w : World C) (made : List Shape) (inv : Invariant o w made) (e : Event C) → Kept o w (happens o w e).world
kept_after {C} o w made inv e = record {
  good = good;
  base = bases_more o w made inv e;
  floor = λ v c i f b j s. f b (old_base v i b j s) s;
  start = λ v c i f b j s. f b (old_base v i b j s) s;
  upto = λ v c i up. upto_after o w made inv v c i up e;
  effect = effect;
  effects = λ v c i up f k b j s l r. effect v k i (λ m n at p z. le_trans r (up m n at p z)) (f k b (old_base v i b j s) s l r);
  states = states;
}
  where
    u : World C
    u = (happens o w e).world

    good : Good o (happens o w e).world
    good = happens_good o w made inv e

    states : IsLawful o → (p : Pair) → IsKnown w p → pair_state o (happens o w e).world p ≡ pair_state o w p
    states law p k = state_after_event o w made inv law p k e

    -- a base of an old version is an old one
    old_base : (v : ℕ) → IsBase w.recorded.bases v → (b : Base) → In b u.recorded.bases → b.version ≡ v → In b w.recorded.bases
    old_base v i b j s = go (grown o w made inv e)
      where
        newer : (k : Base) → u.recorded.bases ≡ k ∷ w.recorded.bases → v < k.version
        newer k z = let f : Falling (u.service.row.version + 1) (k ∷ w.recorded.bases) = subst (Falling (u.service.row.version + 1)) z good.1.frame.falling in base_below w.recorded.bases k.version v f.1 i

        by_base : (k : Base) → v < k.version → (k ≡ b) ⊎ In b w.recorded.bases → In b w.recorded.bases
        by_base k l (inl z) = let version : k.version ≡ b.version = ap (λ (x : Base). x.version) z in absurd (omega (arith, l, version, s))
        by_base k l (inr x) = x

        go : Grows o w made inv u → In b w.recorded.bases
        go (inl z) = subst (In b) z j
        go (inr k) = by_base k.0 (newer k.0 k.1) (subst (In b) k.1 j)

    effect : (v i : ℕ) → IsBase w.recorded.bases v → IsUpTo w.nodes v i → IsCalls o w v i → IsCalls o (happens o w e).world v i
    effect v i b up calls law =
        let h = calls law in
        let before = states law (record { version = v; count = i - 1 }) (inr b, λ m n at p z. (let l = up m n at p z in omega (arith, l))) in
        let after = states law (record { version = v; count = i }) (inr b, up) in
        let x = h.executed in
        record {
          executed = x;
          logged = contains_in (Called x) u.recorded.log (subst (In (Called x)) (extends o w e).0.1 (in_left (Called x) w.recorded.log (extends o w e).0.0 (in_contains (Called x) w.recorded.log h.logged)));
          version = h.version;
          seen = h.seen;
          first = first_longer o w e v i x h.first;
          changes = ap (λ s. o.changes s x.call x.now) before ∙ h.changes;
          state = after ∙ h.state ∙ ap (λ s. o.after s x.call x.now) (sym before);
        }

-- a pair of version 0 counts nothing

pub positive : {C State : Type 0} (o : Object C State) (u : World C) → Good o u → (b : Base) → In b u.recorded.bases → b.version ≡ 0 → ⊥
positive o u g b i e = let l = Safe.base_positive o u g.0 g.1 b i in absurd (omega (arith, l, e))

pub zero_led : {C State : Type 0} (o : Object C State) (u : World C) (v c : ℕ) → Good o u → v ≡ 0 → PairLed o u v c
zero_led o u v c g z = ((λ b i e. absurd (positive o u g b i (e ∙ z))), λ k b i e l r. absurd (positive o u g b i (e ∙ z)))

-- what a primary has heard

pub heard_from : (a : Node) (b : ℕ) (p : Pair) → heard a b ≡ Some p
    → ((acked a b ≡ Some p.count) × (p.version ≡ a.known.version)) ⊎ ((e : Earlier) × (a.earlier ≡ Some e) × (acked_by b e.acks ≡ Some p.count) × (p.version ≡ e.version))
heard_from a b p h = of_acked (acked a b) refl
  where
    of_count : (e : Earlier) → a.earlier ≡ Some e → heard_earlier (Some e) b ≡ Some p → (c : Option ℕ) → acked_by b e.acks ≡ c → (k : Earlier) × (a.earlier ≡ Some k) × (acked_by b k.acks ≡ Some p.count) × (p.version ≡ k.version)
    of_count e s k None z = absurd (cc (rw (z, heard_earlier) at k))
    of_count e s k (Some c) z =
        let same : Some (record { version = e.version; count = c }) ≡ Some p = rw (z, heard_earlier) at k in
        let pair : record { version = e.version; count = c } ≡ p = cc in
        (e, s, z ∙ ap (λ (q : Pair). Some q.count) pair, ap (λ (q : Pair). q.version) (sym pair))

    of_earlier : (e : Option Earlier) → a.earlier ≡ e → heard_earlier e b ≡ Some p → (k : Earlier) × (a.earlier ≡ Some k) × (acked_by b k.acks ≡ Some p.count) × (p.version ≡ k.version)
    of_earlier None s k = absurd cc
    of_earlier (Some e) s k = of_count e s k (acked_by b e.acks) refl

    of_acked : (c : Option ℕ) → acked a b ≡ c → ((acked a b ≡ Some p.count) × (p.version ≡ a.known.version)) ⊎ ((e : Earlier) × (a.earlier ≡ Some e) × (acked_by b e.acks ≡ Some p.count) × (p.version ≡ e.version))
    of_acked None z = inr (of_earlier a.earlier refl (rw (z, heard) at h))
    of_acked (Some c) z =
        let same : Some (record { version = a.known.version; count = c }) ≡ Some p = rw (z, heard) at h in
        let pair : record { version = a.known.version; count = c } ≡ p = cc in
        inl (z ∙ ap (λ (q : Pair). Some q.count) pair, ap (λ (q : Pair). q.version) (sym pair))

module _ {C State : Type 0} (o : Object C State) (u : World C) (good : Good o u) (m : ℕ) (a : Node) (led : NodeLed o u m a) where
  -- a backup is at no less than its version began with
  pub heard_floor : (b : ℕ) (p : Pair) → is_primary a.known m ≡ true → heard a b ≡ Some p → IsFloor u.recorded.bases p.version p.count
  heard_floor b p leads h = go (heard_from a b p h)
    where
      known : ((acked_by b a.acks ≡ Some p.count) ⊎ ((a.opening ≡ true) × (0 ≡ p.count))) → IsFloor u.recorded.bases a.known.version p.count
      known (inl e) = acked_by_in (λ c k. IsFloor u.recorded.bases a.known.version c) b p.count a.acks (every_from_in (λ (x : Acknowledged). IsFloor u.recorded.bases a.known.version x.count) a.acks (λ x i. (led.acks leads x i).0)) e
      known (inr e) = λ k i s. (let l = (led.opening e.0).1 k i s in omega (arith, l))

      go : ((acked a b ≡ Some p.count) × (p.version ≡ a.known.version)) ⊎ ((e : Earlier) × (a.earlier ≡ Some e) × (acked_by b e.acks ≡ Some p.count) × (p.version ≡ e.version)) → IsFloor u.recorded.bases p.version p.count
      go (inl h) = subst (λ v. IsFloor u.recorded.bases v p.count) (sym h.1) (known (or_opening_cases a.opening (acked_by b a.acks) p.count h.0))
      go (inr h) = subst (λ v. IsFloor u.recorded.bases v p.count) (sym h.3)
          (acked_by_in (λ c k. IsFloor u.recorded.bases h.0.version c) b p.count h.0.acks (every_from_in (λ (x : Acknowledged). IsFloor u.recorded.bases h.0.version x.count) h.0.acks (λ x i. (led.earlier h.0 leads h.1 x i).0)) h.2)

  -- what the node sends, once it stands in the world
  module _ (node : NodeOk u.recorded.bases good.0 m (settled a)) (bases : (b : Base) → In b u.recorded.bases → AreEffects o u b.pair.version b.pair.count) (top : IsUpTo u.nodes a.pair.version a.pair.count) where
    module _ (leads : is_primary a.known m ≡ true) where
      pub began : IsBase u.recorded.bases a.known.version
      began = (node.primary leads).1

      pub known_led : PairLed o u a.known.version a.pair.count
      known_led = subst (λ v. PairLed o u v a.pair.count) (node.primary leads).0 led.pair

      -- an effect of the known version, past a count that is no less than it began with
      pub of_known : (v i c : ℕ) → v ≡ a.known.version → IsFloor u.recorded.bases a.known.version c → c < i → i ≤ a.pair.count → (1 ≤ i) × IsCalls o u v i
      of_known v i c e f l r = (omega (arith, l), subst (λ k. IsCalls o u k i) (sym e) (let k = f began.0 began.1 began.2 in known_led.1 i began.0 began.1 began.2 (omega (arith, k, l)) r))

      -- the earlier version, where it was heard of, and the count with which the known one began
      pub earlier_version : (to : ℕ) (p : Pair) → heard a to ≡ Some p → p.version ≢ a.known.version → IsBase u.recorded.bases p.version × ((b : Base) × In b u.recorded.bases × (b.version ≡ a.known.version) × (b.pair ≡ record { version = p.version; count = a.adopted }))
      earlier_version to p h d = go (heard_from a to p h)
        where
          go : ((acked a to ≡ Some p.count) × (p.version ≡ a.known.version)) ⊎ ((e : Earlier) × (a.earlier ≡ Some e) × (acked_by to e.acks ≡ Some p.count) × (p.version ≡ e.version))
              → IsBase u.recorded.bases p.version × ((b : Base) × In b u.recorded.bases × (b.version ≡ a.known.version) × (b.pair ≡ record { version = p.version; count = a.adopted }))
          go (inl k) = absurd (d k.1)
          go (inr k) =
              let e = node.earlier k.0 leads k.1 in
              (subst (IsBase u.recorded.bases) (sym k.3) e.2, (e.4.0, e.4.1, e.4.2, subst (λ v. e.4.0.pair ≡ record { version = v; count = a.adopted }) (sym k.3) e.4.3))

      pub later_led : (to v i : ℕ) (p : Pair) → heard a to ≡ Some p → IsLater a p v i → (1 ≤ i) × IsCalls o u v i
      later_led to v i p h (inl k) = of_known v i p.count k.1 (subst (λ x. IsFloor u.recorded.bases x p.count) k.0 (heard_floor to p leads h)) k.2 k.3
      later_led to v i p h (inr (inl k)) =
          let e = earlier_version to p h k.0 in
          let f = heard_floor to p leads h e.0.0 e.0.1 e.0.2 in
          let all : AreEffects o u p.version a.adopted = subst (λ (q : Pair). AreEffects o u q.version q.count) e.1.3 (bases e.1.0 e.1.1) in
          (let l = k.2 in omega (arith, l), subst (λ x. IsCalls o u x i) (sym k.1) (let l = k.2 in all i e.0.0 e.0.1 e.0.2 (omega (arith, f, l)) k.3))
      later_led to v i p h (inr (inr k)) =
          let b = (earlier_version to p h k.0).1 in
          of_known v i a.adopted k.1 (λ c j s. (let same : c ≡ b.0 = base_same u.recorded.bases (u.service.row.version + 1) c b.0 good.1.frame.falling j b.1 (s ∙ sym b.2) in
          let count : c.pair.count ≡ a.adopted = ap (λ (x : Base). x.pair.count) same ∙ ap (λ (q : Pair). q.count) b.3 in omega (arith, count))) k.2 k.3

    pub says_led : (service from : ℕ) (answered : Type 0) (to : ℕ) (msg : Message) → Says service m from answered a to msg → MessageLed o u msg
    says_led service from answered to (NewRow row) s = absurd s
    says_led service from answered to (Sync row c) s = subst (λ (r : Row). PairLed o u r.version c) (sym s.2) (subst (PairLed o u a.known.version) (sym s.3) (known_led s.0))
    says_led service from answered to (Effect v i) s = later_led s.0 to v i s.2.0 s.2.1 s.2.2
    says_led service from answered to (Bridge row e k) s = tt
    says_led service from answered to (Ack v c) s =
        subst (λ x. IsFloor u.recorded.bases x c × IsUpTo u.nodes x c) (sym s.2) (subst (λ d. IsFloor u.recorded.bases a.pair.version d × IsUpTo u.nodes a.pair.version d) (sym s.3) (led.pair.0, top))
    says_led service from answered to (JoinedMessage v b) s = tt
    says_led service from answered to (Freeze v) s = absurd s
    says_led service from answered to (FrozenMessage v) s = tt

    pub sent_led : (service from : ℕ) (answered : Type 0) (ss : List Sent) → Every (SaysSent service m from answered a) ss → Every (PacketLed o u) (packets_from m ss)
    sent_led service from answered [] s = tt
    sent_led service from answered (x ∷ ss) s = (says_led service from answered x.to x.message s.0, sent_led service from answered ss s.1)

-- what was so stays so

module _ {C State : Type 0} (o : Object C State) (w : World C) (made : List Shape) (inv : Invariant o w made) (led : Led o w) (u : World C) (k : Kept o w u) where
  pub pair_led : (p : Pair) → IsKnown w p → PairLed o w p.version p.count → PairLed o u p.version p.count
  pair_led p (inl e, up) h = zero_led o u p.version p.count k.good (ap (λ (q : Pair). q.version) e)
  pair_led p (inr b, up) h = (k.floor p.version p.count b h.0, k.effects p.version p.count b up h.1)

  pub old_node : (m : ℕ) (n : Node) → NodeAt w.nodes m n → NodeLed o u m n
  old_node m n at =
      let h = led.nodes m n at in
      let ok : NodeOk w.recorded.bases made m n = inv.frame.nodes m n at in
      record {
        pair = pair_led n.pair (node_known o w made inv m n at) h.pair;
        acks = λ p a i. (let f = h.acks p a i in (k.floor n.known.version a.count (ok.primary p).1 f.0, f.1));
        opening = λ e. (let f = h.opening e in (k.base n.known.version f.0, k.floor n.known.version 0 f.0 f.1));
        earlier = λ e p s a i. (let f = h.earlier e p s a i in (k.floor e.version a.count (ok.earlier e p s).2 f.0, f.1));
        adopted = λ p. k.start n.known.version n.adopted (ok.primary p).1 (h.adopted p);
        recent = h.recent;
      }

  pub old_effects : (b : Base) → In b w.recorded.bases → AreEffects o u b.pair.version b.pair.count
  old_effects b i = go (base_known o w made inv b i)
    where
      go : IsKnown w b.pair → AreEffects o u b.pair.version b.pair.count
      go (inl e, up) = (zero_led o u b.pair.version b.pair.count k.good (ap (λ (q : Pair). q.version) e)).1
      go (inr j, up) = k.effects b.pair.version b.pair.count j up (led.bases b i)

  pub old_message : (from : ℕ) (msg : Message) → PacketOk w.nodes w.recorded.bases made w.crashed from msg → MessageLed o w msg → MessageLed o u msg
  old_message from (Sync row c) g h = pair_led (record { version = row.version; count = c }) (sync_known o w made inv from row c g) h
  old_message from (Effect v i) g h = (h.0, k.effect v i g.0 g.1 h.1)
  old_message from (Ack v c) g h = (k.floor v c g.0 h.0, k.upto v c g.0 h.1)
  old_message from (NewRow row) g h = tt
  old_message from (Bridge row e c) g h = tt
  old_message from (JoinedMessage v b) g h = tt
  old_message from (Freeze v) g h = tt
  old_message from (FrozenMessage v) g h = tt

  pub old_packet : (p : Packet) → In p w.packets → PacketLed o u p
  old_packet p i = old_message p.from p.message (flies o w made inv p i) (every_in (PacketLed o w) w.packets p led.packets i)

  pub old_packets : Every (PacketLed o u) w.packets
  old_packets = every_from_in (PacketLed o u) w.packets old_packet

  pub fewer_led : (f t i : ℕ) → Every (PacketLed o u) (taken_out f t i w.packets)
  fewer_led f t i = taken_every (PacketLed o u) f t i w.packets old_packets

  pub more_led : (ps : List Packet) → Every (PacketLed o u) ps → Every (PacketLed o u) (w.packets ++ ps)
  more_led ps h = every_append (PacketLed o u) w.packets ps old_packets h

  -- the same nodes and bases
  pub still_led : u.nodes ≡ w.nodes → u.recorded.bases ≡ w.recorded.bases → Every (PacketLed o u) u.packets → Led o u
  still_led e f h = record {
    nodes = λ m n at. old_node m n (subst (λ ns. NodeAt ns m n) e at);
    bases = λ b i. old_effects b (subst (In b) f i);
    packets = h;
  }

  pub told_led : (row : Row) (from : ℕ) (ms : List ℕ) → Every (PacketLed o u) (packets_from from (map (λ m. record { to = m; message = NewRow row }) ms))
  told_led row from [] = tt
  told_led row from (m ∷ ms) = (tt, told_led row from ms)

  pub freezing_led : (row : Row) (from : ℕ) (v : Move) → Every (PacketLed o u) (packets_from from (freeze_of row v))
  freezing_led row from NoMove = tt
  freezing_led row from (Joining s t) = tt
  freezing_led row from (Joined s t) = tt
  freezing_led row from (Freezing s t) = (tt, tt)
  freezing_led row from (Drained s t) = tt

  -- a node takes a message
  module _ (service m from : ℕ) (msg : Message) (n : Node) (at : NodeAt w.nodes m n) (g : PacketOk w.nodes w.recorded.bases made w.crashed from msg) (said : MessageLed o w msg)
      (bases_is : u.recorded.bases ≡ bases_after m n (taking service m from msg n).node w.recorded.bases) where
    pub here : NodeLed o u m n
    here = old_node m n at

    pub floor_more : (v c d : ℕ) → c ≤ d → IsFloor u.recorded.bases v c → IsFloor u.recorded.bases v d
    floor_more v c d l f b i e = le_trans (f b i e) l

    -- the base that an adoption as primary makes
    pub new_base : (row : Row) → brought msg ≡ Some row → is_newer row n ≡ true → is_primary row m ≡ true
        → u.recorded.bases ≡ record { version = row.version; reset = row.reset; pair = cond (is_before_reset row n) no_pair n.pair } ∷ w.recorded.bases
    new_base row e newer leads =
        bases_is ∙ ap (λ (r : Row). cond (is_newer r n && is_primary r m) (record { version = r.version; reset = r.reset; pair = cond (is_before_reset r n) no_pair n.pair } ∷ w.recorded.bases) w.recorded.bases) (taking_known service m from msg n row e newer)
        ∙ rw (newer, leads) refl

    pub begun_count : (row : Row) → (cond (is_before_reset row n) no_pair n.pair).count ≡ (begun row n).pair.count
    begun_count row = go (is_before_reset row n)
      where
        go : (t : Bool) → (cond t no_pair n.pair).count ≡ (cond t (emptied n) n).pair.count
        go true = refl
        go false = refl

    pub begun_pair : (row : Row) → PairLed o u (begun row n).pair.version (begun row n).pair.count
    begun_pair row = on_if (λ (x : Node). PairLed o u x.pair.version x.pair.count) (is_before_reset row n) (emptied n) n (zero_led o u 0 0 k.good refl) here.pair

    pub begun_acks : (row : Row) (x : Acknowledged) → In x (begun row n).acks → In x n.acks
    begun_acks row x i = on_if (λ (y : Node). In x y.acks → In x n.acks) (is_before_reset row n) (emptied n) n (λ j. absurd j) (λ j. j) i

    pub begun_below : (row : Row) → is_primary n.known m ≡ true → (x : Acknowledged) → In x (begun row n).acks → x.count ≤ (begun row n).pair.count
    begun_below row p x = on_if (λ (y : Node). In x y.acks → x.count ≤ y.pair.count) (is_before_reset row n) (emptied n) n (λ j. absurd j) (λ j. (here.acks p x j).1)

    pub begun_recent : (row : Row) → is_primary n.known m ≡ true → (begun row n).recent ≤ (begun row n).pair.count
    begun_recent row p = on_if (λ (y : Node). y.recent ≤ y.pair.count) (is_before_reset row n) (emptied n) n (omega arith) (here.recent p)

    pub begun_known : (row : Row) → (begun row n).known ≡ n.known
    begun_known row = on_if (λ (y : Node). y.known ≡ n.known) (is_before_reset row n) (emptied n) n refl refl

    pub led_primary : (row : Row) → brought msg ≡ Some row → is_newer row n ≡ true → is_primary row m ≡ true → NodeLed o u m (adopt_as_primary row (stays_primary row n m) (carried_answers m n) (begun row n))
    led_primary row e newer leads = record {
      pair = (floor, λ i b j s l r. (let f = count b j s in absurd (omega (arith, f, l, r))));
      acks = λ p a i. absurd i;
      opening = λ z. absurd (true≢false (sym z));
      earlier = λ x p s a i. earlier x (stays_primary row n m) refl s a i;
      adopted = λ p. count;
      recent = λ p. on_cond (λ r. r ≤ (begun row n).pair.count) (stays_primary row n m) (begun row n).recent 0 (λ z. begun_recent row (led_before z)) (λ z. omega arith);
    }
      where
        base : Base
        base = record { version = row.version; reset = row.reset; pair = cond (is_before_reset row n) no_pair n.pair }

        count : (b : Base) → In b u.recorded.bases → b.version ≡ row.version → b.pair.count ≡ (begun row n).pair.count
        count b i s =
            let same : b ≡ base = base_same u.recorded.bases (u.service.row.version + 1) b base k.good.1.frame.falling i (subst (In base) (sym (new_base row e newer leads)) (inl refl)) s in
            ap (λ (x : Base). x.pair.count) same ∙ begun_count row

        floor : IsFloor u.recorded.bases row.version (begun row n).pair.count
        floor b i s = let f = count b i s in omega (arith, f)

        led_before : stays_primary row n m ≡ true → is_primary n.known m ≡ true
        led_before z = both_left (is_primary n.known m) (not (is_before_reset row n)) z

        earlier : (x : Earlier) (t : Bool) → stays_primary row n m ≡ t → cond t (Some (record { version = (begun row n).known.version; acks = (begun row n).acks })) None ≡ Some x
            → (a : Acknowledged) → In a x.acks → IsFloor u.recorded.bases x.version a.count × (a.count ≤ (begun row n).pair.count)
        earlier x false z s = absurd cc
        earlier x true z s =
            let same : record { version = (begun row n).known.version; acks = (begun row n).acks } ≡ x = cc in
            subst (λ (y : Earlier). (a : Acknowledged) → In a y.acks → IsFloor u.recorded.bases y.version a.count × (a.count ≤ (begun row n).pair.count)) same
            (λ a i. (subst (λ (r : Row). IsFloor u.recorded.bases r.version a.count) (sym (begun_known row)) (here.acks (led_before z) a (begun_acks row a i)).0, begun_below row (led_before z) a i))

    pub led_other : (row : Row) (p : Pair) → is_primary row m ≡ false → PairLed o u p.version p.count → NodeLed o u m (adopt_as_other row p)
    led_other row p other h = record {
      pair = h;
      acks = λ z a i. absurd i;
      opening = λ z. absurd (true≢false (sym z));
      earlier = λ x z s. absurd cc;
      adopted = λ z. absurd (not_both (is_primary row m) z other);
      recent = λ z. omega arith;
    }

    pub led_adopted : (row : Row) → brought msg ≡ Some row → is_newer row n ≡ true → NodeLed o u m (adopted_row m row n)
    led_adopted row e newer =
        on_cond (NodeLed o u m) (is_primary row m) (adopt_as_primary row (stays_primary row n m) (carried_answers m n) (begun row n)) (cond (is_backup row m) (adopt_as_other row (begun row n).pair) (adopt_as_other row no_pair))
        (λ p. led_primary row e newer p)
        (λ p. on_if (NodeLed o u m) (is_backup row m) (adopt_as_other row (begun row n).pair) (adopt_as_other row no_pair) (led_other row (begun row n).pair p (begun_pair row)) (led_other row no_pair p (zero_led o u 0 0 k.good refl)))

    -- another pair of a backup
    pub led_paired : (a : Node) (v c : ℕ) → is_backup a.known m ≡ true → NodeLed o u m a → PairLed o u v c → NodeLed o u m (with_pair a v c)
    led_paired a v c b h p = record {
      pair = p;
      acks = λ z. absurd (backup_not_primary a.known m b z);
      opening = h.opening;
      earlier = h.earlier;
      adopted = h.adopted;
      recent = λ z. absurd (backup_not_primary a.known m b z);
    }

    -- the pair at the end of a bridge: the version began with it
    pub bridged_pair : (row : Row) (e c : ℕ) → PacketOk w.nodes w.recorded.bases made w.crashed from (Bridge row e c) → PairLed o u row.version c
    bridged_pair row e c h = pair_led (record { version = row.version; count = c }) (inr began, h.1) (floor, λ i b j s l r. (let f = count b j s in absurd (omega (arith, f, l, r))))
      where
        began : IsBase w.recorded.bases row.version
        began = (h.4.0, h.4.1, h.4.2)

        count : (b : Base) → In b w.recorded.bases → b.version ≡ row.version → b.pair.count ≡ c
        count b j s = ap (λ (x : Base). x.pair.count) (base_same w.recorded.bases (w.service.row.version + 1) b h.4.0 inv.frame.falling j h.4.1 (s ∙ sym h.4.2)) ∙ ap (λ (q : Pair). q.count) h.4.3

        floor : IsFloor w.recorded.bases row.version c
        floor b j s = let f = count b j s in omega (arith, f)

    -- the next effect
    pub applied_pair : (v i : ℕ) → n.pair.version ≡ v → i ≡ n.pair.count + 1 → PacketOk w.nodes w.recorded.bases made w.crashed from (Effect v i) → MessageLed o w (Effect v i) → PairLed o u v i
    applied_pair v i version next h s = (
      (λ b j e. (let f = before.0 b j e in omega (arith, f, next))),
      (λ c b j e l r. ⊎_elim (λ z. subst (IsCalls o u v) (sym z) (k.effect v i h.0 h.1 s.1)) (λ z. before.1 c b j e l (omega (arith, z, next))) (le_cases c i r)),
    )
      where
        before : PairLed o u v n.pair.count
        before = subst (λ x. PairLed o u x n.pair.count) version here.pair

    -- of each count that the node then has, if it was so of the old ones and the new one
    pub ack_kept : (P : ℕ → Type 0) → ((c d : ℕ) → P c → P d → P (max c d)) → (b c : ℕ) (acks : List Acknowledged) → P c → ((a : Acknowledged) → In a acks → P a.count) → (a : Acknowledged) → In a (with_ack b c acks) → P a.count
    ack_kept P both b c [] f h a (inl e) = subst (λ (x : Acknowledged). P x.count) e f
    ack_kept P both b c [] f h a (inr i) = absurd i
    ack_kept P both b c (x ∷ acks) f h a i =
        on_cond (λ xs. In a xs → P a.count) (x.member == b) (record { member = b; count = max c x.count } ∷ acks) (x ∷ with_ack b c acks) (λ e. first) (λ e. later (ack_kept P both b c acks f (λ y j. h y (inr j)) a)) i
      where
        first : In a (record { member = b; count = max c x.count } ∷ acks) → P a.count
        first (inl e) = subst (λ (y : Acknowledged). P y.count) e (both c x.count f (h x (inl refl)))
        first (inr j) = h a (inr j)

        later : (In a (with_ack b c acks) → P a.count) → In a (x ∷ with_ack b c acks) → P a.count
        later t (inl e) = h a (inl e)
        later t (inr j) = t j

    -- it counts the acknowledgement
    pub led_acked : (v c : ℕ) → is_primary n.known m ≡ true → n.known.version ≡ v → PacketOk w.nodes w.recorded.bases made w.crashed from (Ack v c) → MessageLed o w (Ack v c) → NodeLed o u m (record n { acks = with_ack from c n.acks })
    led_acked v c p z q s = record {
      pair = here.pair;
      acks = λ y. ack_kept InPlace larger from c n.acks came (here.acks y);
      opening = here.opening;
      earlier = here.earlier;
      adopted = here.adopted;
      recent = here.recent;
    }
      where
        InPlace : ℕ → Type 0
        InPlace d = IsFloor u.recorded.bases n.known.version d × (d ≤ n.pair.count)

        larger : (d e : ℕ) → InPlace d → InPlace e → InPlace (max d e)
        larger d e f g = (floor_more n.known.version d (max d e) (omega arith) f.0, (let l = f.1 in let r = g.1 in omega (arith, l, r)))

        came : InPlace c
        came = (subst (λ x. IsFloor u.recorded.bases x c) (sym z) (k.floor v c q.0 s.0), s.1 m n at p z)

    pub led_taking : NodeLed o u m (taking service m from msg n).node
    led_taking = every_taking m from msg n (NodeLed o u m) (record {
      stays = λ z. here;
      adopts = led_adopted;
      syncs = λ row c a e h v b l. (let q : PacketOk w.nodes w.recorded.bases made w.crashed from (Sync row c) = subst (PacketOk w.nodes w.recorded.bases made w.crashed from) e g in
          led_paired a row.version c b h (pair_led (record { version = row.version; count = c }) (sync_known o w made inv from row c q) (subst (MessageLed o w) e said)));
      bridges = λ row v c a e h z b s t. led_paired a row.version c b h (bridged_pair row v c (subst (PacketOk w.nodes w.recorded.bases made w.crashed from) e g));
      applies = λ v i e b s t. led_paired n v i b here (applied_pair v i s t (subst (PacketOk w.nodes w.recorded.bases made w.crashed from) e g) (subst (MessageLed o w) e said));
      acks = λ v c e p z b. led_acked v c p z (subst (PacketOk w.nodes w.recorded.bases made w.crashed from) e g) (subst (MessageLed o w) e said);
      freezes = λ v e p z. record { pair = here.pair; acks = here.acks; opening = here.opening; earlier = here.earlier; adopted = here.adopted; recent = here.recent };
    }) service

-- an event

module _ {C State : Type 0} (o : Object C State) (w : World C) (made : List Shape) (inv : Invariant o w made) (led : Led o w) where
  abbrev pub LedAfter : Event C → World C → Type 0
  LedAfter e u = Kept o w u → Led o u

  -- one node takes a step, and its other nodes stay
  pub step_nodes : (u : World C) (k : Kept o w u) (m : ℕ) (a : Node) → u.nodes ≡ slice_set w.nodes m (settled a) → NodeLed o u m a → (j : ℕ) (x : Node) → NodeAt u.nodes j x → NodeLed o u j x
  step_nodes u k m a e h j x at = go (get_set w.nodes m j (settled a) x (subst (λ ns. NodeAt ns j x) e at))
    where
      go : ((j ≡ m) × (settled a ≡ x)) ⊎ ((j ≢ m) × NodeAt w.nodes j x) → NodeLed o u j x
      go (inl z) = subst (λ i. NodeLed o u i x) (sym z.0) (subst (NodeLed o u m) z.1 (record { pair = h.pair; acks = h.acks; opening = h.opening; earlier = h.earlier; adopted = h.adopted; recent = h.recent }))
      go (inr z) = old_node o w made inv led u k j x z.1

  pub delivered_led : (f t i : ℕ) (q : Packet) (n : Node) → In q w.packets → NodeAt w.nodes q.to n → (k : Kept o w (delivered (with_packets w (taken_out f t i w.packets)) q n).world) → Led o (delivered (with_packets w (taken_out f t i w.packets)) q n).world
  delivered_led f t i q n j at k = record {
    nodes = step_nodes u k q.to a refl mine;
    bases = bases;
    packets = every_append (PacketLed o u) (taken_out f t i w.packets) (packets_from q.to s.sent) (fewer_led o w made inv led u k f t i)
        (sent_led o u k.good q.to a mine (k.good.1.frame.nodes q.to (settled a) there) bases (k.good.1.frame.tops q.to (settled a) there) w.members q.from (IsAnswered q.message) s.sent (taking_says w.members q.to q.from n q.message));
  }
    where
      s : Step
      s = taking w.members q.to q.from q.message n

      a : Node
      a = s.node

      u : World C
      u = (delivered (with_packets w (taken_out f t i w.packets)) q n).world

      there : NodeAt u.nodes q.to (settled a)
      there = set_get_same w.nodes q.to (settled a) n at

      mine : NodeLed o u q.to a
      mine = led_taking o w made inv led u k w.members q.to q.from q.message n at (flies o w made inv q j) (every_in (PacketLed o w) w.packets q led.packets j) refl

      -- what the new base was made of was a pair at hand
      bases : (b : Base) → In b u.recorded.bases → AreEffects o u b.pair.version b.pair.count
      bases b z = by_test (is_newer a.known n && is_primary a.known q.to) z
        where
          of_pair : (t : Bool) → AreEffects o u (cond t no_pair n.pair).version (cond t no_pair n.pair).count
          of_pair true = (zero_led o u 0 0 k.good refl).1
          of_pair false = (old_node o w made inv led u k q.to n at).pair.1

          by_test : (t : Bool) → In b (cond t (record { version = a.known.version; reset = a.known.reset; pair = cond (is_before_reset a.known n) no_pair n.pair } ∷ w.recorded.bases) w.recorded.bases) → AreEffects o u b.pair.version b.pair.count
          by_test true (inl e) = subst (λ (x : Base). AreEffects o u x.pair.version x.pair.count) e (of_pair (is_before_reset a.known n))
          by_test true (inr y) = old_effects o w made inv led u k b y
          by_test false y = old_effects o w made inv led u k b y

  module _ (m conn number : ℕ) (call : C) (now : ℕ) (n : Node) (at : NodeAt w.nodes m n) (lives : is_among w.crashed m ≡ false) (leads : is_primary n.known m ≡ true) (thawed : n.frozen ≡ false) where
    abbrev pub called : Bool → World C
    called changes = (executed_with o w m conn number call now (pair_state o w n.pair) changes (executing changes conn number n)).world

    -- the effect of the call
    pub effect_made : (k : Kept o w (called true)) → o.changes (pair_state o w n.pair) call now ≡ true → IsCalls o (called true) n.pair.version (n.pair.count + 1)
    effect_made k e law =
        let x : Executed C = entry_of o (pair_state o w n.pair) conn number call now (executing true conn number n).pair in
        let back : n.pair.count + 1 - 1 ≡ n.pair.count = omega arith in
        let before : pair_state o (called true) (record { version = n.pair.version; count = n.pair.count + 1 - 1 }) ≡ pair_state o w n.pair =
        ap (λ c. pair_state o (called true) (record { version = n.pair.version; count = c })) back ∙ k.states law n.pair (node_known o w made inv m n at) in
        record {
          executed = x;
          logged = contains_in (Called x) (w.recorded.log ++ Called x ∷ []) (in_right (Called x) w.recorded.log (Called x ∷ []) (inl refl));
          version = refl;
          seen = refl;
          first = first_called o w made inv m n at lives leads thawed x (n.pair.count + 1) (n.recent + 1) (record { conn = conn; number = number; seen = n.pair.count + 1 }) (omega arith) refl refl refl refl refl refl (omega arith);
          changes = ap (λ s. o.changes s call now) before ∙ e;
          state = state_executed o w made inv m n at lives leads thawed x (n.pair.count + 1) (n.recent + 1) (record { conn = conn; number = number; seen = n.pair.count + 1 }) (omega arith) refl refl refl refl refl refl
              ∙ ap (λ s. o.after s call now) (sym before);
        }

    pub called_pair : (changes : Bool) → o.changes (pair_state o w n.pair) call now ≡ changes → (k : Kept o w (called changes)) → PairLed o (called changes) n.pair.version (executing changes conn number n).pair.count
    called_pair false e k = (old_node o w made inv led (called false) k m n at).pair
    called_pair true e k = ((λ b i s. (let f = before.0 b i s in omega (arith, f))), effects)
      where
        before : PairLed o (called true) n.pair.version n.pair.count
        before = (old_node o w made inv led (called true) k m n at).pair

        effects : AreEffects o (called true) n.pair.version (n.pair.count + 1)
        effects i b j s l r = ⊎_elim (λ z. subst (IsCalls o (called true) n.pair.version) (sym z) (effect_made k e)) (λ z. before.1 i b j s l (omega (arith, z))) (le_cases i (n.pair.count + 1) r)

    pub called_led : (changes : Bool) → o.changes (pair_state o w n.pair) call now ≡ changes → Kept o w (called changes) → Led o (called changes)
    called_led changes e k = record {
      nodes = step_nodes (called changes) k m (executing changes conn number n) refl mine;
      bases = old_effects o w made inv led (called changes) k;
      packets = more_led o w made inv led (called changes) k (packets_from m (sent_on_executing changes (executing changes conn number n))) (sent changes e k);
    }
      where
        old : NodeLed o (called changes) m n
        old = old_node o w made inv led (called changes) k m n at

        more : n.pair.count ≤ (executing changes conn number n).pair.count
        more = on_if (λ c. n.pair.count ≤ c) changes (n.pair.count + 1) n.pair.count (omega arith) (omega arith)

        recent : (t : Bool) → n.recent ≤ n.pair.count → (executing t conn number n).recent ≤ (executing t conn number n).pair.count
        recent true l = omega (arith, l)
        recent false l = l

        mine : NodeLed o (called changes) m (executing changes conn number n)
        mine = record {
          pair = called_pair changes e k;
          acks = λ p a i. (let f = old.acks p a i in (f.0, le_trans f.1 more));
          opening = old.opening;
          earlier = old.earlier;
          adopted = old.adopted;
          recent = λ p. recent changes (old.recent p);
        }

        effects : (k : Kept o w (called true)) → o.changes (pair_state o w n.pair) call now ≡ true → (ps : List RowMember)
            → Every (PacketLed o (called true)) (packets_from m (map (λ (p : RowMember). record { to = p.member; message = Effect n.pair.version (n.pair.count + 1) }) ps))
        effects k z [] = tt
        effects k z (p ∷ ps) = ((omega arith, effect_made k z), effects k z ps)

        sent : (t : Bool) → o.changes (pair_state o w n.pair) call now ≡ t → Kept o w (called t) → Every (PacketLed o (called t)) (packets_from m (sent_on_executing t (executing t conn number n)))
        sent true z k = effects k z (backups_of n.known)
        sent false z k = tt

  pub led_after : EventCases o w LedAfter
  led_after = record {
    stays = λ e z k. still k (old_packets o w made inv led w k);
    loses = λ f t i q at k. fewer f t i k;
    drops = λ f t i q at z k. fewer f t i k;
    repeats = λ f t i q at k. (let u = with_packets w (w.packets ++ q ∷ []) in still_led o w made inv led u k refl refl (more_led o w made inv led u k (q ∷ []) (old_packet o w made inv led u k q (place_in f t i w.packets q at), tt)));
    tells_again = tells_again;
    sends_again = λ m n at l p k. sends_again m n at p k;
    crashes = λ m l k. (let u = record w { crashed = m ∷ w.crashed } in still_led o w made inv led u k refl refl (old_packets o w made inv led u k));
    detects = λ m l c d i k. tells _ w k refl refl refl;
    notes = λ m l c d i k. still_led o w made inv led _ k refl refl (old_packets o w made inv led _ k);
    begins = λ e source to r there z k. tells _ w k refl refl refl;
    hands_over = λ from to r k. still_led o w made inv led _ k refl refl (old_packets o w made inv led _ k);
    freezes = λ from to v p k. still_led o w made inv led _ k refl refl (more_led o w made inv led _ k _ (tt, tt));
    leaves = λ from to v p k. tells _ w k refl refl refl;
    hands = λ from to v k. tells _ w k refl refl refl;
    reopens = λ r k. tells (reopening w.partition w.members w.backups w.service) (with_reset w (w.service.row.version + 1)) k refl refl refl;
    joins = λ f t i q v m at to e k. still_led o w made inv led _ k refl refl (fewer_led o w made inv led _ k f t i);
    drains = λ f t i q v at to e k. still_led o w made inv led _ k refl refl (fewer_led o w made inv led _ k f t i);
    delivers = λ f t i q n at there lives k. delivered_led f t i q n (place_in f t i w.packets q at) there k;
    calls = λ m conn number call now n at lives still leads thawed k. called_led m conn number call now n at (alive m lives) leads thawed (o.changes (pair_state o w n.pair) call now) refl k;
  }
    where
      alive : (m : ℕ) → is_live w m ≡ true → is_among w.crashed m ≡ false
      alive m e = not_true (is_among w.crashed m) (both_right (nat_lt m w.members) (not (is_among w.crashed m)) e)

      still : (k : Kept o w w) → Every (PacketLed o w) w.packets → Led o w
      still k h = still_led o w made inv led w k refl refl h

      fewer : (f t i : ℕ) → Kept o w (with_packets w (taken_out f t i w.packets)) → Led o (with_packets w (taken_out f t i w.packets))
      fewer f t i k = still_led o w made inv led (with_packets w (taken_out f t i w.packets)) k refl refl (fewer_led o w made inv led (with_packets w (taken_out f t i w.packets)) k f t i)

      tells_again : Kept o w (sending w w.members (telling w.members w.service ++ freezing_again w.service)) → Led o (sending w w.members (telling w.members w.service ++ freezing_again w.service))
      tells_again k =
          let u = sending w w.members (telling w.members w.service ++ freezing_again w.service) in
          still_led o w made inv led u k refl refl (more_led o w made inv led u k (packets_from w.members (telling w.members w.service ++ freezing_again w.service))
          (subst (Every (PacketLed o u)) (sym (packets_append w.members (telling w.members w.service) (freezing_again w.service)))
          (every_append (PacketLed o u) (packets_from w.members (telling w.members w.service)) (packets_from w.members (freezing_again w.service))
          (told_led o w made inv led u k w.service.row w.members (undetected w.members w.service.detected)) (freezing_led o w made inv led u k w.service.row w.members w.service.move))))

      sends_again : (m : ℕ) (n : Node) → NodeAt w.nodes m n → is_primary n.known m ≡ true → Kept o w (sending w m (sent_again w.members n)) → Led o (sending w m (sent_again w.members n))
      sends_again m n at p k =
          let u = sending w m (sent_again w.members n) in
          let ok = k.good.1.frame.nodes m n at in
          still_led o w made inv led u k refl refl (more_led o w made inv led u k (packets_from m (sent_again w.members n))
          (sent_led o u k.good m n (old_node o w made inv led u k m n at) (record { known = ok.known; pair = ok.pair; primary = ok.primary; held = λ z. absurd (not_both (is_primary n.known m) p z); earlier = ok.earlier; adopted = ok.adopted })
          (old_effects o w made inv led u k) (k.good.1.frame.tops m n at) w.members m ⊥ (sent_again w.members n) (again_says w.members m m ⊥ n p)))

      -- the service makes a row
      tells : (s : Service) (v : World C) (k : Kept o w (told_all v s)) → v.nodes ≡ w.nodes → v.recorded.bases ≡ w.recorded.bases → v.packets ≡ w.packets → Led o (told_all v s)
      tells s v k e f g = still_led o w made inv led (told_all v s) k e f
          (subst (λ ps. Every (PacketLed o (told_all v s)) (ps ++ packets_from v.members (telling v.members s))) (sym g)
          (more_led o w made inv led (told_all v s) k (packets_from v.members (telling v.members s)) (told_led o w made inv led (told_all v s) k s.row v.members (undetected v.members s.detected))))

  pub led_step : (e : Event C) → Led o (happens o w e).world
  led_step e = every_event o w LedAfter led_after e (kept_after o w made inv e)

pub run_led : {C State : Type 0} (o : Object C State) (w : World C) (es : List (Event C)) → Good o w → Led o w → Led o (run o w es)
run_led o w [] g h = h
run_led o w (e ∷ es) g h = run_led o (happens o w e).world es (happens_good o w g.0 g.1 e) (led_step o w g.0 g.1 h e)

pub start_led : {C State : Type 0} (o : Object C State) (partition members backups : ℕ) → Led o (start partition members backups)
start_led {C} o partition members backups = record {
  nodes = λ m n at. subst (NodeLed o (start partition members backups) m) (opened_node row members m n at) (node m);
  bases = bases;
  packets = tt;
}
  where
    row : Row
    row = initial_row partition members backups

    w : World C
    w = start partition members backups

    base : Base
    base = record { version = 1; reset = 0; pair = no_pair }

    floor : (v c : ℕ) → IsFloor w.recorded.bases v c
    floor v c b (inl e) s = let z : 0 ≡ b.pair.count = ap (λ (x : Base). x.pair.count) e in omega (arith, z)
    floor v c b (inr i) s = absurd i

    begins : (v : ℕ) → IsStart w.recorded.bases v 0
    begins v b (inl e) s = ap (λ (x : Base). x.pair.count) (sym e)
    begins v b (inr i) s = absurd i

    none : (v : ℕ) → AreEffects o w v 0
    none v i b j s l r = absurd (omega (arith, l, r))

    zero : (m : ℕ) → (opening_pair row m).count ≡ 0
    zero m = on_if (λ (p : Pair). p.count ≡ 0) (is_in row m) (record { version = 1; count = 0 }) no_pair refl refl

    node : (m : ℕ) → NodeLed o w m (opening_node row m)
    node m = record {
      pair = (floor (opening_pair row m).version (opening_pair row m).count, subst (AreEffects o w (opening_pair row m).version) (sym (zero m)) (none (opening_pair row m).version));
      acks = λ p a i. absurd i;
      opening = λ e. ((base, inl refl, refl), floor 1 0);
      earlier = λ e p s. absurd cc;
      adopted = λ p. begins 1;
      recent = λ p. omega arith;
    }

    bases : (b : Base) → In b w.recorded.bases → AreEffects o w b.pair.version b.pair.count
    bases b (inl e) = subst (λ (x : Base). AreEffects o w x.pair.version x.pair.count) e (none 0)
    bases b (inr i) = absurd i

pub grid_led : {C State : Type 0} (o : Object C State) (partition members backups : ℕ) (events : List (Event C)) → 1 ≤ members → Led o (run o (start partition members backups) events)
grid_led o partition zero backups events one = absurd (omega (arith, one))
grid_led o partition (suc k) backups events one = run_led o (start partition (suc k) backups) events (start_good o partition k backups) (start_led o partition (suc k) backups)

pub every_effect_leads : {C State : Type 0} (o : Object C State) → EveryEffectLeads o
every_effect_leads o partition members backups events p v i one law c said =
    let w = run o (start partition members backups) events in
    let led : (1 ≤ i) × IsCalls o w v i = subst (MessageLed o w) said (every_in (PacketLed o w) w.packets p (grid_led o partition members backups events one).packets (in_contains p w.packets c)) in
    (led.0, led.1 law)
