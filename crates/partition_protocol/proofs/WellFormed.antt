-- Messages are between two ends, and rows list members.
use Rattle.partition_protocol.proofs.Walk.{walk}
use Rattle.std.proofs.lemmas.List.{length-map, length-set}
use Rattle.std.proofs.Common.{◌≡◌, ◌≢◌, ℕ, zero, suc, ◌+◌, ◌<◌, ◌≤◌, Bool, true, false, cond, not, ◌&&◌, ◌||◌, ◌==◌, List, [], ◌∷◌, ◌++◌, map, Option, Some, None, nat_lt, slice_set, refl, sym, ◌∙◌, subst, ◌⊎◌, ⊎_elim, inl, inr, arith, length}
use Rattle.partition_table.specs.Rows.{number_of, is_first, is_primary, is_in, is_backup, is_eligible, numbers_of, backups_of, rest_of, initial_row, without, handed, is_among, with_backups, members_from}
use Rattle.partition_protocol.specs.Messages.{Message, NewRow, Sync, Effect, Bridge, Ack, Joined as JoinedMessage, Freeze, Frozen as FrozenMessage, Sent, Packet}
use Rattle.partition_protocol.specs.Node.{Node, settled, now_released, opening_node}
use Rattle.partition_protocol.specs.Replica.{sent_again, taking}
use Rattle.partition_protocol.specs.Execution.{executing, sent_on_executing}
use Rattle.partition_protocol.specs.Service.{Service, Move, NoMove, Joining, Joined, Freezing, Drained, ServiceStep, numbers_below, undetected, telling, detecting, is_in_move, move_in_row, begun_move, is_idle, join_refused, handover_refused, beginning, handing_over, candidates, reopening, freezing_again, freeze_of, is_freezing, with_row, on_joined, joined_move, drained_move}
use Rattle.grid_base.specs.Objects.{Object}
use Rattle.partition_protocol.specs.History.{Entry, Base, Opening}
use Rattle.partition_protocol.specs.World.{World, is_live, bases_after, pair_state, start}
use Rattle.partition_protocol.specs.Links.{taken_out, packets_from, with_packets}
use Rattle.partition_protocol.specs.Events.{Event, told_all, delivered, service_takes, with_reset, happens, run, Reopen}
use Rattle.partition_table.specs.declared.Row.{Row}
use Rattle.partition_table.specs.declared.RowMember.{RowMember}
use Rattle.partition_protocol.specs.WellFormed.{IsFromService, IsToService, IsBetweenMembers, IsMessageOf, IsPacketOf, IsWellFormed, EveryRunIsWellFormed, IsRowOf}
use Rattle.partition_protocol.proofs.Lists.{In, Every, every_append, every_in, get_set, in_cases, in_contains, on_if}
use Rattle.partition_protocol.proofs.Histories.{filter_in}
use Rattle.partition_protocol.proofs.Invariant.{NodeAt}
use Rattle.partition_protocol.proofs.RowFacts.{both_left, both_right, less, same_number, in_map, in_among, first_among, not_false, true_or_not, false_or_not, or_false_right}
use Rattle.partition_protocol.proofs.Adopt.{adopted_known}
use Rattle.partition_protocol.proofs.Deliver.{packets_append}
use Rattle.partition_protocol.proofs.Events.{taken_every}
use Rattle.partition_protocol.proofs.Theorem.{opened_node, length-numbers_below}
use Rattle.partition_protocol.proofs.Takings.{brought, every_taking}
use Rattle.partition_protocol.proofs.Says.{IsBackupIn, IsAnswered, Says, SaysSent, taking_says, again_says}
use Rattle.partition_protocol.proofs.EventCases.{EventCases, every_event, place_in}
use Rattle.partition_protocol.proofs.Listings.{IsListing, IsRowListing, listing_row, first_apart, without_listing, joiner_listing, handed_listing, marked_listing, members_from_listing, filter_listing, with_backups_listing, initial_listing, reopened_listing}

abbrev pub MessagePlaced : ℕ → ℕ → ℕ → Message → Type 0
MessagePlaced n from to (NewRow row) = IsFromService n from to × IsRowListing n row
MessagePlaced n from to (Freeze v) = IsFromService n from to
MessagePlaced n from to (Sync row c) = IsBetweenMembers n from to × IsRowListing n row
MessagePlaced n from to (Effect v i) = IsBetweenMembers n from to
MessagePlaced n from to (Bridge row e k) = IsBetweenMembers n from to × IsRowListing n row
MessagePlaced n from to (Ack v c) = IsBetweenMembers n from to
MessagePlaced n from to (JoinedMessage v b) = IsToService n from to × (b < n)
MessagePlaced n from to (FrozenMessage v) = IsToService n from to

abbrev pub PacketPlaced : ℕ → Packet → Type 0
PacketPlaced n p = MessagePlaced n p.from p.to p.message

-- a move is of members
abbrev pub MovePlaced : ℕ → Move → Type 0
MovePlaced n NoMove = Unit {0}
MovePlaced n (Joining s t) = ((k : ℕ) → s ≡ Some k → k < n) × (t < n)
MovePlaced n (Joined s t) = (s < n) × (t < n)
MovePlaced n (Freezing s t) = (s < n) × (t < n)
MovePlaced n (Drained s t) = (s < n) × (t < n)

pub record Placed {C : Type 0} (w : World C) : Type 0 where
  pub row : IsRowListing w.members w.service.row
  pub move : MovePlaced w.members w.service.move
  pub standing : IsRowListing w.members w.recorded.standing
  pub known : (m : ℕ) (n : Node) → NodeAt w.nodes m n → IsRowListing w.members n.known
  pub packets : Every (PacketPlaced w.members) w.packets

-- a member of a row is a member
pub in_listing : (n : ℕ) (row : Row) (m : ℕ) → IsRowListing n row → is_in row m ≡ true → m < n
in_listing n row m h e = every_in (λ k. k < n) (numbers_of row) m h.0 (in_among (numbers_of row) m e)

-- a backup is a member, and another than the primary
pub backup_listing : (n m to : ℕ) (row : Row) → IsRowListing n row → is_primary row m ≡ true → IsBackupIn row to → (to < n) × (m ≢ to)
backup_listing n m to row h e b = go row.members h e b
  where
    go : (ps : List RowMember) → IsListing n (map number_of ps) → is_first (map number_of ps) m ≡ true → (p : RowMember) × In p (rest_of ps) × (p.member ≡ to) → (to < n) × (m ≢ to)
    go [] h e b = absurd b.1
    go (p ∷ ps) h e b =
        let there : In to (map number_of ps) = subst (λ k. In k (map number_of ps)) b.2 (in_map number_of ps b.0 b.1) in
        (every_in (λ k. k < n) (map number_of ps) to h.0.1 there, λ z. first_apart p.member (map number_of ps) h.1 (subst (λ k. In k (map number_of ps)) (sym z ∙ sym (same_number p.member m e)) there))

module _ (n : ℕ) where
  pub brought_listing : (from to : ℕ) (msg : Message) (row : Row) → brought msg ≡ Some row → MessagePlaced n from to msg → IsRowListing n row
  brought_listing from to (NewRow r) row e h = let same : r ≡ row = cc in subst (IsRowListing n) same h.1
  brought_listing from to (Sync r c) row e h = let same : r ≡ row = cc in subst (IsRowListing n) same h.1
  brought_listing from to (Bridge r v k) row e h = let same : r ≡ row = cc in subst (IsRowListing n) same h.1
  brought_listing from to (Effect v i) row e h = absurd cc
  brought_listing from to (Ack v c) row e h = absurd cc
  brought_listing from to (JoinedMessage v b) row e h = absurd cc
  brought_listing from to (Freeze v) row e h = absurd cc
  brought_listing from to (FrozenMessage v) row e h = absurd cc

  pub answered_between : (from to : ℕ) (msg : Message) → MessagePlaced n from to msg → IsAnswered msg → IsBetweenMembers n from to
  answered_between from to (Sync row c) h a = h.0
  answered_between from to (Effect v i) h a = h
  answered_between from to (Bridge row e k) h a = h.0
  answered_between from to (NewRow row) h a = absurd a
  answered_between from to (Ack v c) h a = absurd a
  answered_between from to (JoinedMessage v b) h a = absurd a
  answered_between from to (Freeze v) h a = absurd a
  answered_between from to (FrozenMessage v) h a = absurd a

  pub taking_listing : (service m from : ℕ) (msg : Message) (node : Node) → MessagePlaced n from m msg → IsRowListing n node.known → IsRowListing n (taking service m from msg node).node.known
  taking_listing service m from msg node g h = every_taking m from msg node (λ a. IsRowListing n a.known) (record {
    stays = λ u. h;
    adopts = λ row e newer. subst (IsRowListing n) (sym (adopted_known m row node)) (brought_listing from m msg row e g);
    syncs = λ row c a e r v b l. r;
    bridges = λ row v c a e r w b s t. r;
    applies = λ v i e b s t. h;
    acks = λ v c e p k b. h;
    freezes = λ v e p k. h;
  }) service

  module _ (m from : ℕ) (answered : Type 0) (a : Node) (member : m < n) (listing : IsRowListing n a.known) (answers : answered → (from < n) × (m ≢ from)) where
    pub to_backup : (to : ℕ) → is_primary a.known m ≡ true → IsBackupIn a.known to → IsBetweenMembers n m to
    to_backup to e b = let r = backup_listing n m to a.known listing e b in (member, r.0, r.1)

    pub says_placed : (to : ℕ) (msg : Message) → Says n m from answered a to msg → MessagePlaced n m to msg
    says_placed to (NewRow row) s = absurd s
    says_placed to (Sync row c) s = (to_backup to s.0 s.1, subst (IsRowListing n) (sym s.2) listing)
    says_placed to (Effect v i) s = to_backup to s.0 s.1
    says_placed to (Bridge row e k) s = (to_backup to s.0 s.1, subst (IsRowListing n) (sym s.2) listing)
    says_placed to (Ack v c) s = subst (IsBetweenMembers n m) (sym s.1) (let r = answers s.0 in (member, r.0, r.1))
    says_placed to (JoinedMessage v b) s = ((member, s.0), in_listing n a.known b listing s.3)
    says_placed to (Freeze v) s = absurd s
    says_placed to (FrozenMessage v) s = (member, s.0)

    pub sent_placed : (ss : List Sent) → Every (SaysSent n m from answered a) ss → Every (PacketPlaced n) (packets_from m ss)
    sent_placed [] s = tt
    sent_placed (x ∷ ss) s = (says_placed x.to x.message s.0, sent_placed ss s.1)

  pub below_in : (k m : ℕ) → In m (numbers_below k) → m < k
  below_in zero m i = absurd i
  below_in (suc k) m i = ⊎_elim (λ j. let l = below_in k m j in omega (arith, l)) last (in_cases m (numbers_below k) (k ∷ []) i)
    where
      last : In m (k ∷ []) → m < suc k
      last (inl e) = omega (arith, e)
      last (inr j) = absurd j

  pub told_placed : (row : Row) (ms : List ℕ) → IsRowListing n row → ((m : ℕ) → In m ms → m < n) → Every (PacketPlaced n) (packets_from n (map (λ m. record { to = m; message = NewRow row }) ms))
  told_placed row [] h f = tt
  told_placed row (m ∷ ms) h f = (((refl, f m (inl refl)), h), told_placed row ms h (λ k i. f k (inr i)))

  pub undetected_below : (detected : List ℕ) (m : ℕ) → In m (undetected n detected) → m < n
  undetected_below detected m i = below_in n m (filter_in (λ k. not (is_among detected k)) (numbers_below n) m i).0

  pub telling_placed : (s : Service) → IsRowListing n s.row → Every (PacketPlaced n) (packets_from n (telling n s))
  telling_placed s h = told_placed s.row (undetected n s.detected) h (undetected_below s.detected)

  pub freezing_placed : (row : Row) (v : Move) → MovePlaced n v → Every (PacketPlaced n) (packets_from n (freeze_of row v))
  freezing_placed row NoMove h = tt
  freezing_placed row (Joining s t) h = tt
  freezing_placed row (Joined s t) h = tt
  freezing_placed row (Freezing s t) h = ((refl, h.0), tt)
  freezing_placed row (Drained s t) h = tt

  -- moves

  pub begun_placed : (row : Row) (s : Option ℕ) (t : ℕ) → ((k : ℕ) → s ≡ Some k → k < n) → t < n → MovePlaced n (begun_move row s t)
  begun_placed row None t f l = on_if (MovePlaced n) (is_eligible row t) NoMove (Joining None t) tt (f, l)
  begun_placed row (Some s) t f l = on_if (MovePlaced n) (is_eligible row t) (Joined s t) (Joining (Some s) t) (f s refl, l) (f, l)

  pub source_below : (s : ℕ) → s < n → (k : ℕ) → Some s ≡ Some k → k < n
  source_below s l k e = let same : s ≡ k = cc in subst (λ j. j < n) same l

  pub again_placed : (row : Row) (v : Move) → MovePlaced n v → MovePlaced n (move_in_row row v)
  again_placed row NoMove h = tt
  again_placed row (Joining s t) h = begun_placed row s t h.0 h.1
  again_placed row (Joined s t) h = begun_placed row (Some s) t (source_below s h.0) h.1
  again_placed row (Freezing s t) h = begun_placed row (Some s) t (source_below s h.0) h.1
  again_placed row (Drained s t) h = begun_placed row (Some s) t (source_below s h.0) h.1

  pub joined_placed : (m : ℕ) (v : Move) → MovePlaced n v → MovePlaced n (joined_move m v)
  joined_placed m NoMove h = tt
  joined_placed m (Joining None t) h = on_if (MovePlaced n) (t == m) NoMove (Joining None t) tt h
  joined_placed m (Joining (Some s) t) h = on_if (MovePlaced n) (t == m) (Joined s t) (Joining (Some s) t) (h.0 s refl, h.1) h
  joined_placed m (Joined s t) h = h
  joined_placed m (Freezing s t) h = h
  joined_placed m (Drained s t) h = h

  pub drained_placed : (v : Move) → MovePlaced n v → MovePlaced n (drained_move v)
  drained_placed NoMove h = tt
  drained_placed (Joining s t) h = h
  drained_placed (Joined s t) h = h
  drained_placed (Freezing s t) h = h
  drained_placed (Drained s t) h = h

module _ {C State : Type 0} (o : Object C State) (w : World C) (b : Placed w) where
  pub others : (ps : List Packet) → Every (PacketPlaced w.members) ps → Placed (with_packets w ps)
  others ps h = record { row = b.row; move = b.move; standing = b.standing; known = b.known; packets = h }

  pub more : (ps : List Packet) → Every (PacketPlaced w.members) ps → Every (PacketPlaced w.members) (w.packets ++ ps)
  more ps h = every_append (PacketPlaced w.members) w.packets ps b.packets h

  pub fewer : (f t i : ℕ) → Every (PacketPlaced w.members) (taken_out f t i w.packets)
  fewer f t i = taken_every (PacketPlaced w.members) f t i w.packets b.packets

  pub live_member : (m : ℕ) → is_live w m ≡ true → m < w.members
  live_member m e = less m w.members (both_left (nat_lt m w.members) (not (is_among w.crashed m)) e)

  -- the service's step
  pub serves : (s : Service) (ps : List Packet) (lg : List (Entry C)) (os : List (Opening C)) → IsRowListing w.members s.row → MovePlaced w.members s.move → Every (PacketPlaced w.members) ps
      → Placed (record w { service = s; packets = ps; recorded = record w.recorded { standing = cond s.row.lost w.recorded.standing s.row; log = lg; openings = os } })
  serves s ps lg os r v h = record { row = r; move = v; standing = on_if (IsRowListing w.members) s.row.lost w.recorded.standing s.row b.standing r; known = b.known; packets = h }

  pub tells : (s : Service) → IsRowListing w.members s.row → MovePlaced w.members s.move → Placed (told_all w s)
  tells s r v = serves s (w.packets ++ packets_from w.members (telling w.members s)) w.recorded.log w.recorded.openings r v (more (packets_from w.members (telling w.members s)) (telling_placed w.members s r))

  pub detecting_row : (m : ℕ) → IsRowListing w.members (detecting m w.service).row
  detecting_row m = on_if (λ (s : Service). IsRowListing w.members s.row) (is_in w.service.row m) _ _ (without_listing w.members m w.service.row b.row) b.row

  pub detecting_move : (m : ℕ) → MovePlaced w.members (detecting m w.service).move
  detecting_move m = on_if (λ (s : Service). MovePlaced w.members s.move) (is_in w.service.row m) _ _
      (let row = without w.service.row m in on_if (MovePlaced w.members) (row.lost || is_in_move m w.service.move) NoMove (move_in_row row w.service.move) tt (again_placed w.members row w.service.move b.move)) b.move

  -- who joins is a member, and isn't in the row
  pub joiner : (to : ℕ) → join_refused w.members to w.service ≡ None → (to < w.members) × (is_in w.service.row to ≡ false)
  joiner to e = (less to w.members (not_false (nat_lt to w.members) (or_false_right (is_among w.service.detected to) (not (nat_lt to w.members)) open_to)), out)
    where
      still : w.service.row.lost ≡ false
      still = false_or_not w.service.row.lost (λ z. absurd (cc (rw z at e)))

      idle : is_idle w.service.move ≡ true
      idle = true_or_not (is_idle w.service.move) (λ z. absurd (cc (rw (still, z) at e)))

      out : is_in w.service.row to ≡ false
      out = false_or_not (is_in w.service.row to) (λ z. absurd (cc (rw (still, idle, z) at e)))

      open_to : (is_among w.service.detected to || not (nat_lt to w.members)) ≡ false
      open_to = false_or_not (is_among w.service.detected to || not (nat_lt to w.members)) (λ z. absurd (cc (rw (still, idle, out, z) at e)))

  -- a handover is between members of the row
  pub handover : (from to : ℕ) → handover_refused from to w.service ≡ None → (from < w.members) × (to < w.members)
  handover from to e = (
    in_listing w.members w.service.row from b.row (first_among (numbers_of w.service.row) from (both_left (is_primary w.service.row from) (is_backup w.service.row to) there)),
    in_listing w.members w.service.row to b.row (both_right (not (is_primary w.service.row to)) (is_in w.service.row to) (both_right (is_primary w.service.row from) (is_backup w.service.row to) there)),
  )
    where
      still : w.service.row.lost ≡ false
      still = false_or_not w.service.row.lost (λ z. absurd (cc (rw z at e)))

      idle : is_idle w.service.move ≡ true
      idle = true_or_not (is_idle w.service.move) (λ z. absurd (cc (rw (still, z) at e)))

      there : (is_primary w.service.row from && is_backup w.service.row to) ≡ true
      there = true_or_not (is_primary w.service.row from && is_backup w.service.row to) (λ z. absurd (cc (rw (still, idle, z) at e)))

  -- a node's step
  pub steps : (m : ℕ) (a : Node) (bs : List Base) (ps : List Packet) (lg : List (Entry C)) → IsRowListing w.members a.known → Every (PacketPlaced w.members) ps
      → Placed (record w { nodes = slice_set w.nodes m (settled a); packets = ps; released = w.released ++ now_released a a.held; recorded = record w.recorded { bases = bs; log = lg } })
  steps m a bs ps lg h q = record { row = b.row; move = b.move; standing = b.standing; known = λ k x at. known k x (get_set w.nodes m k (settled a) x at); packets = q }
    where
      known : (k : ℕ) (x : Node) → ((k ≡ m) × (settled a ≡ x)) ⊎ ((k ≢ m) × NodeAt w.nodes k x) → IsRowListing w.members x.known
      known k x (inl e) = subst (λ (y : Node). IsRowListing w.members y.known) e.1 h
      known k x (inr e) = b.known k x e.1

  pub placed : EventCases o w (λ e u. Placed u)
  placed = record {
    stays = λ e z. b;
    loses = λ f t i q at. others (taken_out f t i w.packets) (fewer f t i);
    drops = λ f t i q at z. others (taken_out f t i w.packets) (fewer f t i);
    repeats = λ f t i q at. others (w.packets ++ q ∷ []) (more (q ∷ []) (every_in (PacketPlaced w.members) w.packets q b.packets (place_in f t i w.packets q at), tt));
    tells_again = others (w.packets ++ packets_from w.members (telling w.members w.service ++ freezing_again w.service)) (more (packets_from w.members (telling w.members w.service ++ freezing_again w.service))
        (rw (packets_append w.members (telling w.members w.service) (freezing_again w.service))
        (every_append (PacketPlaced w.members) (packets_from w.members (telling w.members w.service)) (packets_from w.members (freezing_again w.service))
        (telling_placed w.members w.service b.row) (freezing_placed w.members w.service.row w.service.move b.move))));
    sends_again = λ m n at lives leads. others (w.packets ++ packets_from m (sent_again w.members n)) (more (packets_from m (sent_again w.members n))
        (sent_placed w.members m m ⊥ n (live_member m lives) (b.known m n at) (λ z. absurd z) (sent_again w.members n) (again_says w.members m m ⊥ n leads)));
    crashes = λ m lives. record { row = b.row; move = b.move; standing = b.standing; known = b.known; packets = b.packets };
    detects = λ m l c d i. tells (detecting m w.service) (detecting_row m) (detecting_move m);
    notes = λ m l c d i. serves (detecting m w.service) w.packets w.recorded.log w.recorded.openings (detecting_row m) (detecting_move m) b.packets;
    begins = λ e source to r there z. (let j = joiner to r in tells (beginning source to w.service) (joiner_listing w.members to w.service.row j.0 j.1 b.row) ((λ k z. in_listing w.members w.service.row k b.row (there k z)), j.0));
    hands_over = λ from to r. serves (handing_over from to w.service) w.packets w.recorded.log w.recorded.openings b.row (handover from to r) b.packets;
    freezes = λ from to v p. freezes from to (subst (MovePlaced w.members) v b.move);
    leaves = λ from to v p. tells (with_row w.service (without w.service.row from) NoMove) (without_listing w.members from w.service.row b.row) tt;
    hands = λ from to v. (let k : MovePlaced w.members (Drained from to) = subst (MovePlaced w.members) v b.move in tells (with_row w.service (handed w.service.row from to) NoMove) (handed_listing w.members from to w.service.row k.1 b.row) tt);
    reopens = λ r. reopens;
    joins = λ f t i q v m at to e. joined f t i v m;
    drains = λ f t i q v at to e. drained f t i v;
    delivers = λ f t i q n at there lives. takes f t i q n (place_in f t i w.packets q at) there (live_member q.to lives);
    calls = λ m conn number call now n at lives still leads thawed. called m n (executing (o.changes (pair_state o w n.pair) call now) conn number n) refl (o.changes (pair_state o w n.pair) call now) at (live_member m lives) leads _;
  }
    where
      freezes : (from to : ℕ) → (from < w.members) × (to < w.members)
          → Placed (record w { service = with_row w.service w.service.row (Freezing from to); packets = w.packets ++ record { from = w.members; to = from; message = Freeze w.service.row.version } ∷ []; recorded = record w.recorded { standing = cond w.service.row.lost w.recorded.standing w.service.row } })
      freezes from to l = serves (with_row w.service w.service.row (Freezing from to)) (w.packets ++ record { from = w.members; to = from; message = Freeze w.service.row.version } ∷ []) w.recorded.log w.recorded.openings b.row l (more (record { from = w.members; to = from; message = Freeze w.service.row.version } ∷ []) ((refl, l.0), tt))

      reopens : Placed (told_all (with_reset w (w.service.row.version + 1)) (reopening w.partition w.members w.backups w.service))
      reopens =
          let s = reopening w.partition w.members w.backups w.service in
          let listing : IsRowListing w.members s.row = reopened_listing w.members w.service.row (with_backups w.backups (candidates w.partition w.members w.service.detected))
          (with_backups_listing w.members w.backups (candidates w.partition w.members w.service.detected) (filter_listing w.members (λ m. not (is_among w.service.detected m)) (members_from w.members w.members w.partition) (members_from_listing w.members w.partition))) in
          serves s (w.packets ++ packets_from w.members (telling w.members s)) _ _ listing tt (more (packets_from w.members (telling w.members s)) (telling_placed w.members s listing))

      joined : (f t i v m : ℕ) → Placed (service_takes (with_packets w (taken_out f t i w.packets)) (JoinedMessage v m)).world
      joined f t i v m = serves (on_joined v m w.service).service (taken_out f t i w.packets) w.recorded.log w.recorded.openings
          (on_if (λ (s : ServiceStep). IsRowListing w.members s.service.row) ((w.service.row.version == v) && is_in w.service.row m && not (is_eligible w.service.row m)) _ _ (marked_listing w.members m w.service.row b.row) b.row)
          (on_if (λ (s : ServiceStep). MovePlaced w.members s.service.move) ((w.service.row.version == v) && is_in w.service.row m && not (is_eligible w.service.row m)) _ _ (joined_placed w.members m w.service.move b.move) b.move) (fewer f t i)

      drained : (f t i v : ℕ) → Placed (service_takes (with_packets w (taken_out f t i w.packets)) (FrozenMessage v)).world
      drained f t i v = record {
        row = on_if (λ (s : ServiceStep). IsRowListing w.members s.service.row) (is_freezing w.service.move && (w.service.row.version == v)) _ _ b.row b.row;
        move = on_if (λ (s : ServiceStep). MovePlaced w.members s.service.move) (is_freezing w.service.move && (w.service.row.version == v)) _ _ (drained_placed w.members w.service.move b.move) b.move;
        standing = b.standing;
        known = b.known;
        packets = fewer f t i;
      }

      takes : (f t i : ℕ) (q : Packet) (n : Node) → In q w.packets → NodeAt w.nodes q.to n → q.to < w.members → Placed (delivered (with_packets w (taken_out f t i w.packets)) q n).world
      takes f t i q n j there l =
          let s = taking w.members q.to q.from q.message n in
          let flies : PacketPlaced w.members q = every_in (PacketPlaced w.members) w.packets q b.packets j in
          let listing = taking_listing w.members w.members q.to q.from q.message n flies (b.known q.to n there) in
          steps q.to s.node (bases_after q.to n s.node w.recorded.bases) (taken_out f t i w.packets ++ packets_from q.to s.sent) w.recorded.log listing
          (every_append (PacketPlaced w.members) (taken_out f t i w.packets) (packets_from q.to s.sent) (fewer f t i)
          (sent_placed w.members q.to q.from (IsAnswered q.message) s.node l listing
          (λ z. (let k = answered_between w.members q.from q.to q.message flies z in (k.0, λ e. k.2 (sym e)))) s.sent (taking_says w.members q.to q.from n q.message)))

      called : (m : ℕ) (n a : Node) → a.known ≡ n.known → (changes : Bool) → NodeAt w.nodes m n → m < w.members → is_primary n.known m ≡ true → (lg : List (Entry C))
          → Placed (record w { nodes = slice_set w.nodes m (settled a); packets = w.packets ++ packets_from m (sent_on_executing changes a); released = w.released ++ now_released a a.held; recorded = record w.recorded { log = lg } })
      called m n a e changes at l leads lg =
          steps m a w.recorded.bases (w.packets ++ packets_from m (sent_on_executing changes a)) lg listing (more (packets_from m (sent_on_executing changes a)) sent)
        where
          listing : IsRowListing w.members a.known
          listing = subst (IsRowListing w.members) (sym e) (b.known m n at)

          leads_still : is_primary a.known m ≡ true
          leads_still = subst (λ row. is_primary row m ≡ true) (sym e) leads

          sent : Every (PacketPlaced w.members) (packets_from m (sent_on_executing changes a))
          sent = on_if (λ ss. Every (PacketPlaced w.members) (packets_from m ss)) changes (map (λ (p : RowMember). record { to = p.member; message = Effect a.pair.version a.pair.count }) (backups_of a.known)) [] (effects (backups_of a.known) (λ p i. (p, i, refl))) tt
            where
              effects : (ps : List RowMember) → ((p : RowMember) → In p ps → IsBackupIn a.known p.member) → Every (PacketPlaced w.members) (packets_from m (map (λ (p : RowMember). record { to = p.member; message = Effect a.pair.version a.pair.count }) ps))
              effects [] f = tt
              effects (p ∷ ps) f = ((let r = backup_listing w.members m p.member a.known listing leads_still (f p (inl refl)) in (l, r.0, r.1)), effects ps (λ k i. f k (inr i)))

pub run_placed : {C State : Type 0} (o : Object C State) (w : World C) (es : List (Event C)) → Placed w → Placed (run o w es)
run_placed o w [] b = b
run_placed o w (e ∷ es) b = run_placed o (happens o w e).world es (every_event o w (λ e u. Placed u) (placed o w b) e)

pub start_placed : {C : Type 0} (partition members backups : ℕ) → Placed (start {C = C} partition members backups)
start_placed partition members backups =
    let listing = initial_listing partition members backups in
    record {
      row = listing;
      move = tt;
      standing = listing;
      known = λ m n at. subst (λ (y : Node). IsRowListing members y.known) (opened_node (initial_row partition members backups) members m n at) listing;
      packets = tt;
    }

-- in std's words

pub message_placed : (n from to : ℕ) (msg : Message) → MessagePlaced n from to msg → IsMessageOf n from to msg
message_placed n from to (NewRow row) h = (h.0, listing_row n row h.1)
message_placed n from to (Sync row c) h = (h.0, listing_row n row h.1)
message_placed n from to (Bridge row e k) h = (h.0, listing_row n row h.1)
message_placed n from to (Effect v i) h = h
message_placed n from to (Ack v c) h = h
message_placed n from to (JoinedMessage v b) h = h
message_placed n from to (Freeze v) h = h
message_placed n from to (FrozenMessage v) h = h

-- the ends of a message
abbrev pub AreEnds : ℕ → ℕ → ℕ → Type 0
AreEnds n from to = (from ≤ n) × (to ≤ n) × (from ≢ to)

pub from_service_ends : (n from to : ℕ) → IsFromService n from to → AreEnds n from to
from_service_ends n from to h = (omega (arith, h.0), omega (arith, h.1), omega (arith, h.0, h.1))

pub to_service_ends : (n from to : ℕ) → IsToService n from to → AreEnds n from to
to_service_ends n from to h = (omega (arith, h.0), omega (arith, h.1), omega (arith, h.0, h.1))

pub between_ends : (n from to : ℕ) → IsBetweenMembers n from to → AreEnds n from to
between_ends n from to h = (omega (arith, h.0), omega (arith, h.1), h.2)

pub placed_ends : (n from to : ℕ) (msg : Message) → MessagePlaced n from to msg → AreEnds n from to
placed_ends n from to (NewRow row) h = from_service_ends n from to h.0
placed_ends n from to (Freeze v) h = from_service_ends n from to h
placed_ends n from to (Sync row c) h = between_ends n from to h.0
placed_ends n from to (Effect v i) h = between_ends n from to h
placed_ends n from to (Bridge row e k) h = between_ends n from to h.0
placed_ends n from to (Ack v c) h = between_ends n from to h
placed_ends n from to (JoinedMessage v b) h = to_service_ends n from to h.0
placed_ends n from to (FrozenMessage v) h = to_service_ends n from to h

pub packet_placed : (n : ℕ) (p : Packet) → PacketPlaced n p → IsPacketOf n p
packet_placed n p h = let e = placed_ends n p.from p.to p.message h in record { from = e.0; to = e.1; apart = e.2; message = message_placed n p.from p.to p.message h }

-- what a world began with

abbrev pub SameSize : {C : Type 0} → World C → Event C → World C → Type 0
SameSize w e u = (u.partition ≡ w.partition) × (u.members ≡ w.members) × (u.backups ≡ w.backups) × (length u.nodes ≡ length w.nodes)

pub same_size : {C State : Type 0} (o : Object C State) (w : World C) (e : Event C) → SameSize w e (happens o w e).world
same_size o w = walk o w (SameSize w) (λ e ps. same) (λ e m. same) (λ e s st ps. same) (λ e s st ps. same) (λ e f t i q n j at l. (refl, refl, refl, length-set w.nodes q.to _)) (λ m conn number call now n at l p f. (refl, refl, refl, length-set w.nodes m _))
  where
    same : (w.partition ≡ w.partition) × (w.members ≡ w.members) × (w.backups ≡ w.backups) × (length w.nodes ≡ length w.nodes)
    same = (refl, refl, refl, refl)

pub run_size : {C State : Type 0} (o : Object C State) (w : World C) (es : List (Event C)) → (e : Event C) → SameSize w e (run o w es)
run_size o w [] e = (refl, refl, refl, refl)
run_size o w (d ∷ es) e =
    let one = same_size o w d in
    let rest = run_size o (happens o w d).world es d in
    (rest.0 ∙ one.0, rest.1 ∙ one.1, rest.2 ∙ one.2, rest.3 ∙ one.3)

pub well_formed : {C : Type 0} (partition members backups : ℕ) (w : World C) → (w.partition ≡ partition) × (w.members ≡ members) × (w.backups ≡ backups) × (length w.nodes ≡ members) → Placed w → IsWellFormed partition members backups w
well_formed partition members backups w e b = record {
  same_partition = e.0;
  same_members = e.1;
  same_backups = e.2;
  nodes = e.3;
  row = row w.service.row b.row;
  standing = row w.recorded.standing b.standing;
  known = λ m n at. row n.known (b.known m n at);
  packets = λ p c. subst (λ n. IsPacketOf n p) e.1 (packet_placed w.members p (every_in (PacketPlaced w.members) w.packets p b.packets (in_contains p w.packets c)));
}
  where
    row : (r : Row) → IsRowListing w.members r → IsRowOf members r
    row r h = listing_row members r (subst (λ n. IsRowListing n r) e.1 h)

pub every_run_is_well_formed : {C State : Type 0} (o : Object C State) → EveryRunIsWellFormed o
every_run_is_well_formed o partition members backups events =
    let opening = start partition members backups in
    let size = run_size o opening events Reopen in
    let nodes : length opening.nodes ≡ members = length-map (numbers_below members) (opening_node (initial_row partition members backups)) ∙ length-numbers_below members in
    well_formed partition members backups (run o opening events) (size.0, size.1, size.2, size.3 ∙ nodes) (run_placed o opening events (start_placed partition members backups))
