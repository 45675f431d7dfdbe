-- Versions and counts grow by at most one with each event.
use Rattle.std.proofs.Common.{◌≡◌, ◌≢◌, ℕ, ◌+◌, ◌≤◌, max, Bool, true, false, cond, not, ◌&&◌, ◌==◌, List, [], ◌∷◌, ◌++◌, map, length, Some, None, nat_lt, slice_set, refl, ap, sym, subst, ◌⊎◌, ⊎_elim, inl, inr, arith}
use Rattle.partition_table.specs.Rows.{is_primary, is_in, is_backup, is_eligible, backups_of, initial_row, without, with_joiner, handed, with_eligible}
use Rattle.partition_protocol.specs.Messages.{Message, NewRow, Sync, Effect, Bridge, Ack, Joined as JoinedMessage, Freeze, Frozen as FrozenMessage, Sent, Packet}
use Rattle.partition_protocol.specs.Node.{Pair, Acknowledged, Earlier, Held, Node, no_pair, opening_node, with_ack, still_held, now_released, settled}
use Rattle.partition_protocol.specs.CatchUp.{heard}
use Rattle.partition_protocol.specs.Adoption.{adopted_row, adopt_as_primary, adopt_as_other, begun, emptied, carried_answers, stays_primary}
use Rattle.partition_protocol.specs.Replica.{with_pair, sent_again, Step, taking, is_newer}
use Rattle.partition_protocol.specs.Execution.{executing, sent_on_executing}
use Rattle.partition_protocol.specs.Service.{Service, Move, NoMove, Joining, Joined, Freezing, Drained, ServiceStep, undetected, telling, detecting, beginning, handing_over, reopening, freezing_again, freeze_of, is_freezing, with_row, on_joined}
use Rattle.grid_base.specs.Objects.{Object}
use Rattle.partition_protocol.specs.History.{Entry, Called, Reset, Base, Opening}
use Rattle.partition_protocol.specs.World.{World, bases_after, pair_state, start}
use Rattle.partition_protocol.specs.Links.{taken_out, packets_from, with_packets}
use Rattle.partition_protocol.specs.Events.{Event, told_all, delivered, entry_of, executed_with, service_takes, happens, run}
use Rattle.partition_table.specs.declared.Row.{Row}
use Rattle.partition_table.specs.declared.RowMember.{RowMember}
use Rattle.partition_protocol.specs.Bounds.{IsRowWithin, IsPairWithin, AreAcksWithin, AreHeldWithin, IsEarlierWithin, IsNodeWithin, IsMessageWithin, IsBaseWithin, IsEntryWithin, IsWithin, EveryRunIsWithin}
use Rattle.partition_protocol.proofs.Lists.{In, contains_in, in_cases, Every, every_append, every_weaker, every_in, get_set, in_contains, on_cond, on_if}
use Rattle.partition_protocol.proofs.Invariant.{NodeAt}
use Rattle.partition_protocol.proofs.Release.{still_in, now_in}
use Rattle.partition_protocol.proofs.Sends.{heard_cases}
use Rattle.partition_protocol.proofs.Events.{taken_every}
use Rattle.partition_protocol.proofs.Deliver.{packets_append}
use Rattle.partition_protocol.proofs.Takings.{brought, every_taking}
use Rattle.partition_protocol.proofs.Says.{IsLater, IsAnswered, Says, SaysSent, taking_says, again_says}
use Rattle.partition_protocol.proofs.EventCases.{EventCases, every_event, place_in}
use Rattle.partition_protocol.proofs.Theorem.{opened_node}

-- more events allow more

pub row_more : (n k : ℕ) (row : Row) → n ≤ k → IsRowWithin n row → IsRowWithin k row
row_more n k row l h = record { version = omega (arith, h.version); reset = omega (arith, h.reset) }

pub pair_more : (n k : ℕ) (p : Pair) → n ≤ k → IsPairWithin n p → IsPairWithin k p
pair_more n k p l h = record { version = omega (arith, h.version); count = omega (arith, h.count) }

pub acks_more : (n k : ℕ) (acks : List Acknowledged) → n ≤ k → AreAcksWithin n acks → AreAcksWithin k acks
acks_more n k acks l h a i = let r = h a i in omega (arith, r)

pub held_more : (n k : ℕ) (held : List Held) → n ≤ k → AreHeldWithin n held → AreHeldWithin k held
held_more n k held l h a i = let r = h a i in omega (arith, r)

pub earlier_more : (n k : ℕ) (e : Earlier) → n ≤ k → IsEarlierWithin n e → IsEarlierWithin k e
earlier_more n k e l h = record { version = omega (arith, h.version); acks = acks_more n k e.acks l h.acks }

pub node_more : (n k : ℕ) (node : Node) → n ≤ k → IsNodeWithin n node → IsNodeWithin k node
node_more n k node l h = record {
  known = row_more n k node.known l h.known;
  pair = pair_more n k node.pair l h.pair;
  acks = acks_more n k node.acks l h.acks;
  earlier = λ e s. earlier_more n k e l (h.earlier e s);
  recent = omega (arith, h.recent);
  adopted = omega (arith, h.adopted);
  held = held_more n k node.held l h.held;
}

pub message_more : (n k : ℕ) (m : Message) → n ≤ k → IsMessageWithin n m → IsMessageWithin k m
message_more n k (NewRow row) l h = row_more n k row l h
message_more n k (Sync row c) l h = (row_more n k row l h.0, omega (arith, h.1))
message_more n k (Effect v i) l h = (omega (arith, h.0), omega (arith, h.1))
message_more n k (Bridge row e c) l h = (row_more n k row l h.0, omega (arith, h.1), omega (arith, h.2))
message_more n k (Ack v c) l h = (omega (arith, h.0), omega (arith, h.1))
message_more n k (JoinedMessage v b) l h = omega (arith, h)
message_more n k (Freeze v) l h = omega (arith, h)
message_more n k (FrozenMessage v) l h = omega (arith, h)

pub base_more : (n k : ℕ) (b : Base) → n ≤ k → IsBaseWithin n b → IsBaseWithin k b
base_more n k b l h = record { version = omega (arith, h.version); reset = omega (arith, h.reset); pair = pair_more n k b.pair l h.pair }

pub entry_more : {C : Type 0} (n k : ℕ) (x : Entry C) → n ≤ k → IsEntryWithin n x → IsEntryWithin k x
entry_more n k (Called x) l h = (omega (arith, h.0), omega (arith, h.1))
entry_more n k (Reset r) l h = omega (arith, h)

-- within n, by elements
pub record Bounded {C : Type 0} (n : ℕ) (w : World C) : Type 0 where
  pub row : IsRowWithin n w.service.row
  pub standing : IsRowWithin n w.recorded.standing
  pub nodes : (m : ℕ) (node : Node) → NodeAt w.nodes m node → IsNodeWithin n node
  pub packets : Every (λ (p : Packet). IsMessageWithin n p.message) w.packets
  pub released : (h : Held) → In h w.released → h.seen ≤ n
  pub bases : Every (IsBaseWithin n) w.recorded.bases
  pub log : Every (IsEntryWithin n) w.recorded.log

-- what a node does with a message keeps the bounds

pub with_ack_within : (n b c : ℕ) (acks : List Acknowledged) → c ≤ n → ((a : Acknowledged) → In a acks → a.count ≤ n) → (a : Acknowledged) → In a (with_ack b c acks) → a.count ≤ n
with_ack_within n b c [] l h a (inl e) = let same : c ≡ a.count = ap (λ (k : Acknowledged). k.count) e in omega (arith, l, same)
with_ack_within n b c [] l h a (inr i) = absurd i
with_ack_within n b c (k ∷ acks) l h a i = on_cond (λ xs. In a xs → a.count ≤ n) (k.member == b) (record { member = b; count = max c k.count } ∷ acks) (k ∷ with_ack b c acks) (λ e. first) (λ e. later (with_ack_within n b c acks l (λ x j. h x (inr j)) a)) i
  where
    first : In a (record { member = b; count = max c k.count } ∷ acks) → a.count ≤ n
    first (inl e) = let same : max c k.count ≡ a.count = ap (λ (x : Acknowledged). x.count) e in let r = h k (inl refl) in omega (arith, l, same, r)
    first (inr j) = h a (inr j)

    later : (In a (with_ack b c acks) → a.count ≤ n) → In a (k ∷ with_ack b c acks) → a.count ≤ n
    later f (inl e) = h a (inl e)
    later f (inr j) = f j

pub acks_in : (n : ℕ) (acks : List Acknowledged) → AreAcksWithin n acks → (a : Acknowledged) → In a acks → a.count ≤ n
acks_in n acks h a i = h a (contains_in a acks i)

pub no_acks : (n : ℕ) → AreAcksWithin n []
no_acks n a c = absurd (in_contains a [] c)

pub none_held : (n : ℕ) → AreHeldWithin n []
none_held n h c = absurd (in_contains h [] c)

module _ (n : ℕ) where
  pub emptied_within : (node : Node) → IsNodeWithin n node → IsNodeWithin n (emptied node)
  emptied_within node h = record {
    known = h.known;
    pair = record { version = omega arith; count = omega arith };
    acks = no_acks n;
    earlier = λ e s. absurd cc;
    recent = omega arith;
    adopted = omega arith;
    held = h.held;
  }

  pub begun_within : (row : Row) (node : Node) → IsNodeWithin n node → IsNodeWithin n (begun row node)
  begun_within row node h = on_if (IsNodeWithin n) (nat_lt node.pair.version row.reset) (emptied node) node (emptied_within node h) h

  pub led_within : (row : Row) (stays : Bool) (held : List Held) (node : Node) → IsRowWithin n row → AreHeldWithin n held → IsNodeWithin n node → IsNodeWithin n (adopt_as_primary row stays held node)
  led_within row stays held node r g h = record {
    known = r;
    pair = record { version = r.version; count = h.pair.count };
    acks = no_acks n;
    earlier = λ e s. earlier e stays s;
    recent = on_if (λ k. k ≤ n) stays node.recent 0 h.recent (omega arith);
    adopted = h.pair.count;
    held = g;
  }
    where
      earlier : (e : Earlier) (b : Bool) → cond b (Some (record { version = node.known.version; acks = node.acks })) None ≡ Some e → IsEarlierWithin n e
      earlier e true s = let same : record { version = node.known.version; acks = node.acks } ≡ e = cc in subst (IsEarlierWithin n) same (record { version = h.known.version; acks = h.acks })
      earlier e false s = absurd cc

  pub other_within : (row : Row) (pair : Pair) → IsRowWithin n row → IsPairWithin n pair → IsNodeWithin n (adopt_as_other row pair)
  other_within row pair r p = record { known = r; pair = p; acks = no_acks n; earlier = λ e s. absurd cc; recent = omega arith; adopted = omega arith; held = none_held n }

  pub adopted_within : (m : ℕ) (row : Row) (node : Node) → IsRowWithin n row → IsNodeWithin n node → IsNodeWithin n (adopted_row m row node)
  adopted_within m row node r h =
      let next = begun_within row node h in
      on_if (IsNodeWithin n) (is_primary row m) (adopt_as_primary row (stays_primary row node m) (carried_answers m node) (begun row node)) (cond (is_backup row m) (adopt_as_other row (begun row node).pair) (adopt_as_other row no_pair))
      (led_within row (stays_primary row node m) (carried_answers m node) (begun row node) r (on_if (AreHeldWithin n) (is_primary node.known m) node.held [] h.held (none_held n)) next)
      (on_if (IsNodeWithin n) (is_backup row m) (adopt_as_other row (begun row node).pair) (adopt_as_other row no_pair)
      (other_within row (begun row node).pair r next.pair) (other_within row no_pair r (record { version = omega arith; count = omega arith })))

  pub paired_within : (v c : ℕ) (node : Node) → v ≤ n + 1 → c ≤ n → IsNodeWithin n node → IsNodeWithin n (with_pair node v c)
  paired_within v c node l k h = record {
    known = h.known;
    pair = record { version = l; count = k };
    acks = h.acks;
    earlier = h.earlier;
    recent = h.recent;
    adopted = h.adopted;
    held = h.held;
  }

  pub brought_within : (msg : Message) (row : Row) → brought msg ≡ Some row → IsMessageWithin n msg → IsRowWithin n row
  brought_within (NewRow r) row e h = let same : r ≡ row = cc in subst (IsRowWithin n) same h
  brought_within (Sync r c) row e h = let same : r ≡ row = cc in subst (IsRowWithin n) same h.0
  brought_within (Bridge r v k) row e h = let same : r ≡ row = cc in subst (IsRowWithin n) same h.0
  brought_within (Effect v i) row e h = absurd cc
  brought_within (Ack v c) row e h = absurd cc
  brought_within (JoinedMessage v b) row e h = absurd cc
  brought_within (Freeze v) row e h = absurd cc
  brought_within (FrozenMessage v) row e h = absurd cc

  pub taking_within : (service m from : ℕ) (msg : Message) (node : Node) → IsMessageWithin n msg → IsNodeWithin n node → IsNodeWithin n (taking service m from msg node).node
  taking_within service m from msg node g h = every_taking m from msg node (IsNodeWithin n) (record {
    stays = λ u. h;
    adopts = λ row e newer. adopted_within m row node (brought_within msg row e g) h;
    syncs = λ row c a e r v b l. (let k : IsMessageWithin n (Sync row c) = subst (IsMessageWithin n) e g in paired_within row.version c a k.0.version k.1 r);
    bridges = λ row v c a e r w b s t. (let k : IsMessageWithin n (Bridge row v c) = subst (IsMessageWithin n) e g in paired_within row.version c a k.0.version k.2 r);
    applies = λ v i e b s t. (let k : IsMessageWithin n (Effect v i) = subst (IsMessageWithin n) e g in paired_within v i node k.0 k.1 h);
    acks = λ v c e p k b. (let k : IsMessageWithin n (Ack v c) = subst (IsMessageWithin n) e g in record {
      known = h.known;
      pair = h.pair;
      acks = λ a i. with_ack_within n from c node.acks k.1 (acks_in n node.acks h.acks) a (in_contains a (with_ack from c node.acks) i);
      earlier = h.earlier;
      recent = h.recent;
      adopted = h.adopted;
      held = h.held;
    });
    freezes = λ v e p k. record { known = h.known; pair = h.pair; acks = h.acks; earlier = h.earlier; recent = h.recent; adopted = h.adopted; held = h.held };
  }) service

  -- and so does what it says

  pub heard_within : (node : Node) (b : ℕ) (p : Pair) → IsNodeWithin n node → heard node b ≡ Some p → p.version ≤ n + 1
  heard_within node b p h e = ⊎_elim (λ s. omega (arith, h.known.version, s)) (λ s. let k = (h.earlier s.0 s.1).version in omega (arith, k, s.2)) (heard_cases node b p e)

  pub says_within : (service m from : ℕ) (answered : Type 0) (a : Node) (to : ℕ) (msg : Message) → IsNodeWithin n a → Says service m from answered a to msg → IsMessageWithin n msg
  says_within service m from answered a to (NewRow row) h s = absurd s
  says_within service m from answered a to (Sync row c) h s = (subst (IsRowWithin n) (sym s.2) h.known, (let k = h.pair.count in omega (arith, s.3, k)))
  says_within service m from answered a to (Effect v i) h s = go s.2.2
    where
      p : Pair
      p = s.2.0

      go : IsLater a p v i → (v ≤ n + 1) × (i ≤ n)
      go (inl k) = let c = h.pair.count in let l = h.known.version in (omega (arith, k.1, l), omega (arith, k.3, c))
      go (inr (inl k)) = let l = heard_within a to p h s.2.1 in (omega (arith, k.1, l), omega (arith, k.3, h.adopted))
      go (inr (inr k)) = let c = h.pair.count in let l = h.known.version in (omega (arith, k.1, l), omega (arith, k.3, c))
  says_within service m from answered a to (Bridge row e k) h s = (subst (IsRowWithin n) (sym s.2) h.known, (let l = heard_within a to s.4.0 h s.4.1 in omega (arith, l, s.4.2)), omega (arith, s.3, h.adopted))
  says_within service m from answered a to (Ack v c) h s = (let l = h.pair.version in omega (arith, s.2, l), let k = h.pair.count in omega (arith, s.3, k))
  says_within service m from answered a to (JoinedMessage v b) h s = let l = h.known.version in omega (arith, s.1, l)
  says_within service m from answered a to (Freeze v) h s = absurd s
  says_within service m from answered a to (FrozenMessage v) h s = let l = h.known.version in omega (arith, s.1, l)

  abbrev pub PacketWithin : Packet → Type 0
  PacketWithin p = IsMessageWithin n p.message

  pub sent_within : (service m from : ℕ) (answered : Type 0) (a : Node) (ss : List Sent) → IsNodeWithin n a → Every (SaysSent service m from answered a) ss → Every PacketWithin (packets_from m ss)
  sent_within service m from answered a [] h s = tt
  sent_within service m from answered a (x ∷ ss) h s = (says_within service m from answered a x.to x.message h s.0, sent_within service m from answered a ss h s.1)

  pub told_within : (row : Row) (from : ℕ) (ms : List ℕ) → IsRowWithin n row → Every PacketWithin (packets_from from (map (λ m. record { to = m; message = NewRow row }) ms))
  told_within row from [] h = tt
  told_within row from (m ∷ ms) h = (h, told_within row from ms h)

-- an event allows one more

module _ {C State : Type 0} (o : Object C State) (n : ℕ) (w : World C) (b : Bounded n w) where
  pub grown : Bounded (n + 1) w
  grown = record {
    row = row_more n (n + 1) w.service.row (omega arith) b.row;
    standing = row_more n (n + 1) w.recorded.standing (omega arith) b.standing;
    nodes = λ m node at. node_more n (n + 1) node (omega arith) (b.nodes m node at);
    packets = every_weaker (PacketWithin n) (PacketWithin (n + 1)) w.packets (λ p h. message_more n (n + 1) p.message (omega arith) h) b.packets;
    released = λ h i. (let l = b.released h i in omega (arith, l));
    bases = every_weaker (IsBaseWithin n) (IsBaseWithin (n + 1)) w.recorded.bases (λ k h. base_more n (n + 1) k (omega arith) h) b.bases;
    log = every_weaker (IsEntryWithin n) (IsEntryWithin (n + 1)) w.recorded.log (λ x h. entry_more n (n + 1) x (omega arith) h) b.log;
  }

  pub others : (ps : List Packet) → Every (PacketWithin (n + 1)) ps → Bounded (n + 1) (with_packets w ps)
  others ps h = record { row = grown.row; standing = grown.standing; nodes = grown.nodes; packets = h; released = grown.released; bases = grown.bases; log = grown.log }

  pub more_packets : (ps : List Packet) → Every (PacketWithin (n + 1)) ps → Every (PacketWithin (n + 1)) (w.packets ++ ps)
  more_packets ps h = every_append (PacketWithin (n + 1)) w.packets ps grown.packets h

  -- the service's step
  pub serves : (s : Service) (ps : List Packet) (lg : List (Entry C)) (os : List (Opening C)) → IsRowWithin (n + 1) s.row → Every (PacketWithin (n + 1)) ps → Every (IsEntryWithin (n + 1)) lg
      → Bounded (n + 1) (record w { service = s; packets = ps; recorded = record w.recorded { standing = cond s.row.lost w.recorded.standing s.row; log = lg; openings = os } })
  serves s ps lg os r h k = record {
    row = r;
    standing = on_if (IsRowWithin (n + 1)) s.row.lost w.recorded.standing s.row grown.standing r;
    nodes = grown.nodes;
    packets = h;
    released = grown.released;
    bases = grown.bases;
    log = k;
  }

  pub tells : (s : Service) → IsRowWithin (n + 1) s.row → Bounded (n + 1) (told_all w s)
  tells s r = serves s (w.packets ++ packets_from w.members (telling w.members s)) w.recorded.log w.recorded.openings r (more_packets (packets_from w.members (telling w.members s)) (told_within (n + 1) s.row w.members (undetected w.members s.detected) r)) grown.log

  -- a row with the next version
  pub next_within : (row : Row) → row.version ≡ w.service.row.version + 1 → row.reset ≡ w.service.row.reset → IsRowWithin (n + 1) row
  next_within row v r = let l = b.row.version in let k = b.row.reset in record { version = omega (arith, v, l); reset = omega (arith, r, k) }

  pub freezing_within : (row : Row) (v : Move) → IsRowWithin (n + 1) row → Every (PacketWithin (n + 1)) (packets_from w.members (freeze_of row v))
  freezing_within row NoMove h = tt
  freezing_within row (Joining s t) h = tt
  freezing_within row (Joined s t) h = tt
  freezing_within row (Freezing s t) h = (h.version, tt)
  freezing_within row (Drained s t) h = tt

  pub detecting_row : (m : ℕ) → IsRowWithin (n + 1) (detecting m w.service).row
  detecting_row m = on_if (λ (s : Service). IsRowWithin (n + 1) s.row) (is_in w.service.row m) _ _ (next_within (without w.service.row m) refl refl) grown.row

  -- a node's step
  pub steps : (m : ℕ) (a : Node) (bs : List Base) (ps : List Packet) (lg : List (Entry C)) → IsNodeWithin (n + 1) a → Every (IsBaseWithin (n + 1)) bs → Every (PacketWithin (n + 1)) ps → Every (IsEntryWithin (n + 1)) lg
      → Bounded (n + 1) (record w { nodes = slice_set w.nodes m (settled a); packets = ps; released = w.released ++ now_released a a.held; recorded = record w.recorded { bases = bs; log = lg } })
  steps m a bs ps lg h k q l = record {
    row = grown.row;
    standing = grown.standing;
    nodes = λ j x at. node j x (get_set w.nodes m j (settled a) x at);
    packets = q;
    released = λ x i. released x (in_cases x w.released (now_released a a.held) i);
    bases = k;
    log = l;
  }
    where
      node : (j : ℕ) (x : Node) → ((j ≡ m) × (settled a ≡ x)) ⊎ ((j ≢ m) × NodeAt w.nodes j x) → IsNodeWithin (n + 1) x
      node j x (inl e) = subst (IsNodeWithin (n + 1)) e.1 (record {
        known = h.known;
        pair = h.pair;
        acks = h.acks;
        earlier = h.earlier;
        recent = h.recent;
        adopted = h.adopted;
        held = λ y i. h.held y (contains_in y a.held (still_in a y a.held (in_contains y (still_held a a.held) i)));
      })
      node j x (inr e) = grown.nodes j x e.1

      released : (x : Held) → In x w.released ⊎ In x (now_released a a.held) → x.seen ≤ n + 1
      released x (inl i) = grown.released x i
      released x (inr i) = h.held x (contains_in x a.held (now_in a x a.held i).0)

  pub within : EventCases o w (λ e u. Bounded (n + 1) u)
  within = record {
    stays = λ e z. grown;
    loses = λ f t i q at. others (taken_out f t i w.packets) (taken_every (PacketWithin (n + 1)) f t i w.packets grown.packets);
    drops = λ f t i q at z. others (taken_out f t i w.packets) (taken_every (PacketWithin (n + 1)) f t i w.packets grown.packets);
    repeats = λ f t i q at. others (w.packets ++ q ∷ []) (more_packets (q ∷ []) (every_in (PacketWithin (n + 1)) w.packets q grown.packets (place_in f t i w.packets q at), tt));
    tells_again = others (w.packets ++ packets_from w.members (telling w.members w.service ++ freezing_again w.service)) (more_packets (packets_from w.members (telling w.members w.service ++ freezing_again w.service))
        (rw (packets_append w.members (telling w.members w.service) (freezing_again w.service))
        (every_append (PacketWithin (n + 1)) (packets_from w.members (telling w.members w.service)) (packets_from w.members (freezing_again w.service))
        (told_within (n + 1) w.service.row w.members (undetected w.members w.service.detected) grown.row) (freezing_within w.service.row w.service.move grown.row))));
    sends_again = λ m node at lives leads. others (w.packets ++ packets_from m (sent_again w.members node)) (more_packets (packets_from m (sent_again w.members node))
        (sent_within (n + 1) w.members m m ⊥ node (sent_again w.members node) (grown.nodes m node at) (again_says w.members m m ⊥ node leads)));
    crashes = λ m lives. record { row = grown.row; standing = grown.standing; nodes = grown.nodes; packets = grown.packets; released = grown.released; bases = grown.bases; log = grown.log };
    detects = λ m l c d i. tells (detecting m w.service) (detecting_row m);
    notes = λ m l c d i. serves (detecting m w.service) w.packets w.recorded.log w.recorded.openings (detecting_row m) grown.packets grown.log;
    begins = λ e source to r there z. tells (beginning source to w.service) (next_within (with_joiner w.service.row to) refl refl);
    hands_over = λ from to r. serves (handing_over from to w.service) w.packets w.recorded.log w.recorded.openings grown.row grown.packets grown.log;
    freezes = λ from to v p. serves (with_row w.service w.service.row (Freezing from to)) _ w.recorded.log w.recorded.openings grown.row (more_packets _ (grown.row.version, tt)) grown.log;
    leaves = λ from to v p. tells (with_row w.service (without w.service.row from) NoMove) (next_within (without w.service.row from) refl refl);
    hands = λ from to v. tells (with_row w.service (handed w.service.row from to) NoMove) (next_within (handed w.service.row from to) refl refl);
    reopens = λ r. (let l = b.row.version in let row : IsRowWithin (n + 1) (reopening w.partition w.members w.backups w.service).row = record { version = omega (arith, l); reset = omega (arith, l) } in
        serves (reopening w.partition w.members w.backups w.service) _ (w.recorded.log ++ Reset (w.service.row.version + 1) ∷ []) _ row
        (more_packets _ (told_within (n + 1) (reopening w.partition w.members w.backups w.service).row w.members (undetected w.members w.service.detected) row))
        (every_append (IsEntryWithin (n + 1)) w.recorded.log (Reset (w.service.row.version + 1) ∷ []) grown.log (omega (arith, l), tt)));
    joins = λ f t i q v m at to e. joined f t i v m;
    drains = λ f t i q v at to e. drained f t i v;
    delivers = λ f t i q node at there lives. delivered_within f t i q node (place_in f t i w.packets q at) there;
    calls = λ m conn number call now node at lives still leads thawed. called_within m conn number call now node at (o.changes (pair_state o w node.pair) call now);
  }
    where
      fewer : (f t i : ℕ) → Every (PacketWithin (n + 1)) (taken_out f t i w.packets)
      fewer f t i = taken_every (PacketWithin (n + 1)) f t i w.packets grown.packets

      marked_row : (m : ℕ) → IsRowWithin (n + 1) (with_eligible w.service.row m)
      marked_row m = record { version = grown.row.version; reset = grown.row.reset }

      joined : (f t i v m : ℕ) → Bounded (n + 1) (service_takes (with_packets w (taken_out f t i w.packets)) (JoinedMessage v m)).world
      joined f t i v m = serves (on_joined v m w.service).service (taken_out f t i w.packets) w.recorded.log w.recorded.openings
          (on_if (λ (s : ServiceStep). IsRowWithin (n + 1) s.service.row) ((w.service.row.version == v) && is_in w.service.row m && not (is_eligible w.service.row m)) _ _ (marked_row m) grown.row) (fewer f t i) grown.log

      drained : (f t i v : ℕ) → Bounded (n + 1) (service_takes (with_packets w (taken_out f t i w.packets)) (FrozenMessage v)).world
      drained f t i v = record {
        row = on_if (λ (s : ServiceStep). IsRowWithin (n + 1) s.service.row) (is_freezing w.service.move && (w.service.row.version == v)) _ _ grown.row grown.row;
        standing = grown.standing;
        nodes = grown.nodes;
        packets = fewer f t i;
        released = grown.released;
        bases = grown.bases;
        log = grown.log;
      }

      delivered_within : (f t i : ℕ) (q : Packet) (node : Node) → In q w.packets → NodeAt w.nodes q.to node → Bounded (n + 1) (delivered (with_packets w (taken_out f t i w.packets)) q node).world
      delivered_within f t i q node j there =
          steps q.to a (bases_after q.to node a w.recorded.bases) (taken_out f t i w.packets ++ packets_from q.to s.sent) w.recorded.log now
          (on_if (Every (IsBaseWithin (n + 1))) (is_newer a.known node && is_primary a.known q.to) _ w.recorded.bases (base, grown.bases) grown.bases)
          (every_append (PacketWithin (n + 1)) (taken_out f t i w.packets) (packets_from q.to s.sent) (fewer f t i) (sent_within (n + 1) w.members q.to q.from (IsAnswered q.message) a s.sent now (taking_says w.members q.to q.from node q.message))) grown.log
        where
          s : Step
          s = taking w.members q.to q.from q.message node

          a : Node
          a = s.node

          before : IsNodeWithin (n + 1) node
          before = grown.nodes q.to node there

          now : IsNodeWithin (n + 1) a
          now = taking_within (n + 1) w.members q.to q.from q.message node (every_in (PacketWithin (n + 1)) w.packets q grown.packets j) before

          base : IsBaseWithin (n + 1) (record { version = a.known.version; reset = a.known.reset; pair = cond (nat_lt node.pair.version a.known.reset) no_pair node.pair })
          base = record {
            version = now.known.version;
            reset = now.known.reset;
            pair = on_if (IsPairWithin (n + 1)) (nat_lt node.pair.version a.known.reset) no_pair node.pair (record { version = omega arith; count = omega arith }) before.pair;
          }

      called_within : (m conn number : ℕ) (call : C) (now : ℕ) (node : Node) → NodeAt w.nodes m node → (changes : Bool) → Bounded (n + 1) (executed_with o w m conn number call now (pair_state o w node.pair) changes (executing changes conn number node)).world
      called_within m conn number call now node at changes =
          steps m a w.recorded.bases (w.packets ++ packets_from m (sent_on_executing changes a)) (w.recorded.log ++ Called (entry_of o (pair_state o w node.pair) conn number call now a.pair) ∷ []) after grown.bases (more_packets (packets_from m (sent_on_executing changes a)) sent)
          (every_append (IsEntryWithin (n + 1)) w.recorded.log _ grown.log ((after.pair.version, after.pair.count), tt))
        where
          a : Node
          a = executing changes conn number node

          before : IsNodeWithin n node
          before = b.nodes m node at

          count : a.pair.count ≤ n + 1
          count = let l = before.pair.count in on_if (λ k. k ≤ n + 1) changes (node.pair.count + 1) node.pair.count (omega (arith, l)) (omega (arith, l))

          after : IsNodeWithin (n + 1) a
          after =
              let g = grown.nodes m node at in
              record {
                known = g.known;
                pair = record { version = g.pair.version; count = count };
                acks = g.acks;
                earlier = g.earlier;
                recent = let l = before.recent in on_if (λ k. k ≤ n + 1) changes (node.recent + 1) node.recent (omega (arith, l)) (omega (arith, l));
                adopted = g.adopted;
                held = λ h i. held h (in_cases h node.held (record { conn = conn; number = number; seen = a.pair.count } ∷ []) (in_contains h a.held i));
              }
            where
              held : (h : Held) → In h node.held ⊎ In h (record { conn = conn; number = number; seen = a.pair.count } ∷ []) → h.seen ≤ n + 1
              held h (inl i) = (grown.nodes m node at).held h (contains_in h node.held i)
              held h (inr (inl e)) = let same : a.pair.count ≡ h.seen = ap (λ (k : Held). k.seen) e in omega (arith, count, same)
              held h (inr (inr i)) = absurd i

          sent : Every (PacketWithin (n + 1)) (packets_from m (sent_on_executing changes a))
          sent = on_if (λ ss. Every (PacketWithin (n + 1)) (packets_from m ss)) changes (map (λ (p : RowMember). record { to = p.member; message = Effect a.pair.version a.pair.count }) (backups_of a.known)) [] (effects (backups_of a.known)) tt
            where
              effects : (ps : List RowMember) → Every (PacketWithin (n + 1)) (packets_from m (map (λ (p : RowMember). record { to = p.member; message = Effect a.pair.version a.pair.count }) ps))
              effects [] = tt
              effects (p ∷ ps) = ((after.pair.version, after.pair.count), effects ps)

pub run_bounded : {C State : Type 0} (o : Object C State) (n : ℕ) (w : World C) (es : List (Event C)) → Bounded n w → Bounded (n + length es) (run o w es)
run_bounded o n w [] b = subst (λ k. Bounded k w) (omega arith) b
run_bounded o n w (e ∷ es) b =
    subst (λ k. Bounded k (run o (happens o w e).world es)) (omega arith)
    (run_bounded o (n + 1) (happens o w e).world es (every_event o w (λ e u. Bounded (n + 1) u) (within o n w b) e))

pub start_bounded : {C : Type 0} (partition members backups : ℕ) → Bounded 0 (start {C = C} partition members backups)
start_bounded partition members backups = record {
  row = row;
  standing = row;
  nodes = λ m node at. subst (IsNodeWithin 0) (opened_node (initial_row partition members backups) members m node at) (opening m);
  packets = tt;
  released = λ h i. absurd i;
  bases = (record { version = omega arith; reset = omega arith; pair = record { version = omega arith; count = omega arith } }, tt);
  log = tt;
}
  where
    row : IsRowWithin 0 (initial_row partition members backups)
    row = record { version = omega arith; reset = omega arith }

    opening : (m : ℕ) → IsNodeWithin 0 (opening_node (initial_row partition members backups) m)
    opening m = record {
      known = row;
      pair = on_if (IsPairWithin 0) (is_in (initial_row partition members backups) m) (record { version = 1; count = 0 }) no_pair (record { version = omega arith; count = omega arith }) (record { version = omega arith; count = omega arith });
      acks = no_acks 0;
      earlier = λ e s. absurd cc;
      recent = omega arith;
      adopted = omega arith;
      held = none_held 0;
    }

pub within_by_elements : {C : Type 0} (n : ℕ) (w : World C) → Bounded n w → IsWithin n w
within_by_elements n w b = record {
  row = b.row;
  standing = b.standing;
  nodes = b.nodes;
  packets = λ p c. every_in (PacketWithin n) w.packets p b.packets (in_contains p w.packets c);
  released = λ h c. b.released h (in_contains h w.released c);
  bases = λ k c. every_in (IsBaseWithin n) w.recorded.bases k b.bases (in_contains k w.recorded.bases c);
  log = λ x c. every_in (IsEntryWithin n) w.recorded.log x b.log (in_contains x w.recorded.log c);
}

pub every_run_is_within : {C State : Type 0} (o : Object C State) → EveryRunIsWithin o
every_run_is_within o partition members backups events =
    within_by_elements (length events) (run o (start partition members backups) events)
    (subst (λ k. Bounded k (run o (start partition members backups) events)) (omega arith) (run_bounded o 0 (start partition members backups) events (start_bounded partition members backups)))
