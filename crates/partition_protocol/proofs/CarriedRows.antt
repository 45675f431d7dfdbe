-- What holds of the newest row, of each that a member knows and of each in flight holds of them after an event,
-- if it holds of the newest row then.
use Rattle.std.proofs.Common.{◌≡◌, ◌≢◌, ℕ, ◌+◌, Bool, cond, List, [], ◌∷◌, ◌++◌, map, Some, slice_set, refl, sym, subst, ◌⊎◌, inl, inr}
use Rattle.grid_base.specs.Objects.{Object}
use Rattle.partition_table.specs.declared.Row.{Row}
use Rattle.partition_table.specs.declared.RowMember.{RowMember}
use Rattle.partition_table.specs.Rows.{without, handed, backups_of, initial_row}
use Rattle.partition_protocol.specs.Messages.{Message, NewRow, Sync, Effect, Bridge, Ack, Joined as JoinedMessage, Freeze, Frozen as FrozenMessage, Sent, Packet}
use Rattle.partition_protocol.specs.Node.{Node, now_released, settled}
use Rattle.partition_protocol.specs.Replica.{taking, sent_again}
use Rattle.partition_protocol.specs.Execution.{executing, sent_on_executing}
use Rattle.partition_protocol.specs.Service.{Service, Move, NoMove, Joining, Joined, Freezing, Drained, undetected, telling, with_row, beginning, handing_over, detecting, freeze_of, freezing_again, reopening, on_joined}
use Rattle.partition_protocol.specs.History.{Entry, Base, Opening}
use Rattle.partition_protocol.specs.World.{World, start, bases_after, pair_state}
use Rattle.partition_protocol.specs.Links.{taken_out, with_packets, packets_from}
use Rattle.partition_protocol.specs.Events.{Event, delivered, told_all, with_reset, happens}
use Rattle.partition_protocol.specs.ReadOff.{row_in}
use Rattle.partition_protocol.proofs.Lists.{In, Every, every_append, every_in, on_if, get_set}
use Rattle.partition_protocol.proofs.Invariant.{NodeAt}
use Rattle.partition_protocol.proofs.Deliver.{packets_append}
use Rattle.partition_protocol.proofs.Adopt.{adopted_known}
use Rattle.partition_protocol.proofs.Events.{taken_every}
use Rattle.partition_protocol.proofs.EventCases.{EventCases, every_event, place_in}
use Rattle.partition_protocol.proofs.Takings.{brought, every_taking}
use Rattle.partition_protocol.proofs.Says.{Says, SaysSent, IsAnswered, taking_says, again_says}
use Rattle.partition_protocol.proofs.Theorem.{opened_node}

-- it holds of every row in the world
pub record RowsHave {C : Type 0} (P : Row → Type 0) (w : World C) : Type 0 where
  pub newest : P w.service.row
  pub standing : P w.recorded.standing
  pub known : (m : ℕ) (n : Node) → NodeAt w.nodes m n → P n.known
  pub packets : Every (λ (p : Packet). Every P (row_in p.message)) w.packets

-- all members begin with the initial row
pub start_has : (C : Type 0) (P : Row → Type 0) (partition members backups : ℕ) → P (initial_row partition members backups) → RowsHave P (start {C = C} partition members backups)
start_has C P partition members backups h = record {
  newest = h;
  standing = h;
  known = λ m n at. subst (λ (y : Node). P y.known) (opened_node (initial_row partition members backups) members m n at) h;
  packets = tt;
}

module _ (P : Row → Type 0) where
  abbrev pub Carried : Packet → Type 0
  Carried p = Every P (row_in p.message)

  -- what a member knows after a message

  pub brought_has : (msg : Message) (row : Row) → brought msg ≡ Some row → Every P (row_in msg) → P row
  brought_has (NewRow r) row e h = let same : r ≡ row = cc in subst P same h.0
  brought_has (Sync r c) row e h = let same : r ≡ row = cc in subst P same h.0
  brought_has (Bridge r v c) row e h = let same : r ≡ row = cc in subst P same h.0
  brought_has (Effect v i) row e h = absurd cc
  brought_has (Ack v c) row e h = absurd cc
  brought_has (JoinedMessage v b) row e h = absurd cc
  brought_has (Freeze v) row e h = absurd cc
  brought_has (FrozenMessage v) row e h = absurd cc

  pub taking_has : (service m from : ℕ) (msg : Message) (n : Node) → Every P (row_in msg) → P n.known → P (taking service m from msg n).node.known
  taking_has service m from msg n said known = every_taking m from msg n (λ a. P a.known) (record {
    stays = λ u. known;
    adopts = λ row e newer. subst P (sym (adopted_known m row n)) (brought_has msg row e said);
    syncs = λ row c a e r v b l. r;
    bridges = λ row v k a e r w b s t. r;
    applies = λ v i e b s t. known;
    acks = λ v c e p k b. known;
    freezes = λ v e p k. known;
  }) service

  -- what is sent

  pub says_has : (service m from : ℕ) (answered : Type 0) (a : Node) (to : ℕ) (msg : Message) → P a.known → Says service m from answered a to msg → Every P (row_in msg)
  says_has service m from answered a to (NewRow row) h s = absurd s
  says_has service m from answered a to (Sync row c) h s = (subst P (sym s.2) h, tt)
  says_has service m from answered a to (Effect v i) h s = tt
  says_has service m from answered a to (Bridge row e k) h s = (subst P (sym s.2) h, tt)
  says_has service m from answered a to (Ack v c) h s = tt
  says_has service m from answered a to (JoinedMessage v b) h s = tt
  says_has service m from answered a to (Freeze v) h s = tt
  says_has service m from answered a to (FrozenMessage v) h s = tt

  pub sent_has : (service m from : ℕ) (answered : Type 0) (a : Node) (ss : List Sent) → P a.known → Every (SaysSent service m from answered a) ss → Every Carried (packets_from m ss)
  sent_has service m from answered a [] h s = tt
  sent_has service m from answered a (x ∷ ss) h s = (says_has service m from answered a x.to x.message h s.0, sent_has service m from answered a ss h s.1)

  pub told_has : (from : ℕ) (row : Row) (ms : List ℕ) → P row → Every Carried (packets_from from (map (λ m. record { to = m; message = NewRow row }) ms))
  told_has from row [] h = tt
  told_has from row (m ∷ ms) h = ((h, tt), told_has from row ms h)

  pub freezing_has : (from : ℕ) (row : Row) (v : Move) → Every Carried (packets_from from (freeze_of row v))
  freezing_has from row NoMove = tt
  freezing_has from row (Joining s t) = tt
  freezing_has from row (Joined s t) = tt
  freezing_has from row (Freezing s t) = (tt, tt)
  freezing_has from row (Drained s t) = tt

  pub effects_have : (m : ℕ) (changes : Bool) (a : Node) → Every Carried (packets_from m (sent_on_executing changes a))
  effects_have m changes a = on_if (λ ss. Every Carried (packets_from m ss)) changes (map (λ (p : RowMember). record { to = p.member; message = Effect a.pair.version a.pair.count }) (backups_of a.known)) [] (effects (backups_of a.known)) tt
    where
      effects : (ps : List RowMember) → Every Carried (packets_from m (map (λ (p : RowMember). record { to = p.member; message = Effect a.pair.version a.pair.count }) ps))
      effects [] = tt
      effects (p ∷ ps) = (tt, effects ps)

  -- an event

  module _ {C State : Type 0} (o : Object C State) (w : World C) (h : RowsHave P w) where
    abbrev pub Carries : Event C → World C → Type 0
    Carries e u = P u.service.row → RowsHave P u

    pub with_others : (ps : List Packet) → Every Carried ps → RowsHave P (with_packets w ps)
    with_others ps q = record { newest = h.newest; standing = h.standing; known = h.known; packets = q }

    pub more : (ps : List Packet) → Every Carried ps → Every Carried (w.packets ++ ps)
    more ps q = every_append Carried w.packets ps h.packets q

    pub fewer : (f t i : ℕ) → Every Carried (taken_out f t i w.packets)
    fewer f t i = taken_every Carried f t i w.packets h.packets

    -- the service goes on
    pub serves : (s : Service) (ps : List Packet) (lg : List (Entry C)) (os : List (Opening C)) → Every Carried ps → P s.row
        → RowsHave P (record w { service = s; packets = ps; recorded = record w.recorded { standing = cond s.row.lost w.recorded.standing s.row; log = lg; openings = os } })
    serves s ps lg os q r = record { newest = r; standing = on_if P s.row.lost w.recorded.standing s.row h.standing r; known = h.known; packets = q }

    pub tells : (s : Service) → P s.row → RowsHave P (told_all w s)
    tells s r = serves s (w.packets ++ packets_from w.members (telling w.members s)) w.recorded.log w.recorded.openings (more (packets_from w.members (telling w.members s)) (told_has w.members s.row (undetected w.members s.detected) r)) r

    -- a member does
    pub steps : (m : ℕ) (a : Node) (bs : List Base) (ps : List Packet) (lg : List (Entry C)) → P a.known → Every Carried ps
        → RowsHave P (record w { nodes = slice_set w.nodes m (settled a); packets = ps; released = w.released ++ now_released a a.held; recorded = record w.recorded { bases = bs; log = lg } })
    steps m a bs ps lg r q = record { newest = h.newest; standing = h.standing; known = λ k x at. known k x (get_set w.nodes m k (settled a) x at); packets = q }
      where
        known : (k : ℕ) (x : Node) → ((k ≡ m) × (settled a ≡ x)) ⊎ ((k ≢ m) × NodeAt w.nodes k x) → P x.known
        known k x (inl e) = subst (λ (y : Node). P y.known) e.1 r
        known k x (inr e) = h.known k x e.1

    pub carries : EventCases o w Carries
    carries = record {
      stays = λ e z r. h;
      loses = λ f t i q at r. with_others (taken_out f t i w.packets) (fewer f t i);
      drops = λ f t i q at z r. with_others (taken_out f t i w.packets) (fewer f t i);
      repeats = λ f t i q at r. with_others (w.packets ++ q ∷ []) (more (q ∷ []) (every_in Carried w.packets q h.packets (place_in f t i w.packets q at), tt));
      tells_again = λ r. with_others (w.packets ++ packets_from w.members (telling w.members w.service ++ freezing_again w.service)) (more (packets_from w.members (telling w.members w.service ++ freezing_again w.service))
          (rw (packets_append w.members (telling w.members w.service) (freezing_again w.service))
          (every_append Carried (packets_from w.members (telling w.members w.service)) (packets_from w.members (freezing_again w.service))
          (told_has w.members w.service.row (undetected w.members w.service.detected) h.newest) (freezing_has w.members w.service.row w.service.move))));
      sends_again = λ m n at lives leads r. with_others (w.packets ++ packets_from m (sent_again w.members n)) (more (packets_from m (sent_again w.members n))
          (sent_has w.members m m ⊥ n (sent_again w.members n) (h.known m n at) (again_says w.members m m ⊥ n leads)));
      crashes = λ m lives r. record { newest = h.newest; standing = h.standing; known = h.known; packets = h.packets };
      detects = λ m l c d i. tells (detecting m w.service);
      notes = λ m l c d i. serves (detecting m w.service) w.packets w.recorded.log w.recorded.openings h.packets;
      begins = λ e source to r there z. tells (beginning source to w.service);
      hands_over = λ from to r. serves (handing_over from to w.service) w.packets w.recorded.log w.recorded.openings h.packets;
      freezes = λ from to v p. freezes from to;
      leaves = λ from to v p. tells (with_row w.service (without w.service.row from) NoMove);
      hands = λ from to v. tells (with_row w.service (handed w.service.row from to) NoMove);
      reopens = λ r. reopens;
      joins = λ f t i q v m at to e. serves (on_joined v m w.service).service (taken_out f t i w.packets) w.recorded.log w.recorded.openings (fewer f t i);
      drains = λ f t i q v at to e r. record { newest = r; standing = h.standing; known = h.known; packets = fewer f t i };
      delivers = λ f t i q n at there lives r. takes f t i q n (place_in f t i w.packets q at) there;
      calls = λ m conn number call now n at lives still leads thawed r. called m n (executing (o.changes (pair_state o w n.pair) call now) conn number n) refl (o.changes (pair_state o w n.pair) call now) at _;
    }
      where
        freezes : (from to : ℕ) → P w.service.row
            → RowsHave P (record w { service = with_row w.service w.service.row (Freezing from to); packets = w.packets ++ record { from = w.members; to = from; message = Freeze w.service.row.version } ∷ []; recorded = record w.recorded { standing = cond w.service.row.lost w.recorded.standing w.service.row } })
        freezes from to = serves (with_row w.service w.service.row (Freezing from to)) (w.packets ++ record { from = w.members; to = from; message = Freeze w.service.row.version } ∷ []) w.recorded.log w.recorded.openings (more (record { from = w.members; to = from; message = Freeze w.service.row.version } ∷ []) (tt, tt))

        reopens : P (reopening w.partition w.members w.backups w.service).row → RowsHave P (told_all (with_reset w (w.service.row.version + 1)) (reopening w.partition w.members w.backups w.service))
        reopens r =
            let s = reopening w.partition w.members w.backups w.service in
            serves s (w.packets ++ packets_from w.members (telling w.members s)) _ _ (more (packets_from w.members (telling w.members s)) (told_has w.members s.row (undetected w.members s.detected) r)) r

        takes : (f t i : ℕ) (q : Packet) (n : Node) → In q w.packets → NodeAt w.nodes q.to n → RowsHave P (delivered (with_packets w (taken_out f t i w.packets)) q n).world
        takes f t i q n j there =
            let s = taking w.members q.to q.from q.message n in
            let known = taking_has w.members q.to q.from q.message n (every_in Carried w.packets q h.packets j) (h.known q.to n there) in
            steps q.to s.node (bases_after q.to n s.node w.recorded.bases) (taken_out f t i w.packets ++ packets_from q.to s.sent) w.recorded.log known
            (every_append Carried (taken_out f t i w.packets) (packets_from q.to s.sent) (fewer f t i)
            (sent_has w.members q.to q.from (IsAnswered q.message) s.node s.sent known (taking_says w.members q.to q.from n q.message)))

        called : (m : ℕ) (n a : Node) → a.known ≡ n.known → (changes : Bool) → NodeAt w.nodes m n → (lg : List (Entry C))
            → RowsHave P (record w { nodes = slice_set w.nodes m (settled a); packets = w.packets ++ packets_from m (sent_on_executing changes a); released = w.released ++ now_released a a.held; recorded = record w.recorded { log = lg } })
        called m n a e changes at lg = steps m a w.recorded.bases (w.packets ++ packets_from m (sent_on_executing changes a)) lg (subst P (sym e) (h.known m n at)) (more (packets_from m (sent_on_executing changes a)) (effects_have m changes a))

    pub carry : (e : Event C) → P (happens o w e).world.service.row → RowsHave P (happens o w e).world
    carry e r = every_event o w Carries carries e r
