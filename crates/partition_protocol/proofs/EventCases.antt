-- What holds of the world after an event, by each thing that an event can do, with what is known as it does it.
use Rattle.partition_protocol.specs.ReadOff.{handed_by}
use Rattle.std.proofs.Common.{◌≡◌, ℕ, ◌+◌, ◌<◌, Bool, true, false, cond, not, ◌&&◌, ◌==◌, List, [], ◌∷◌, ◌++◌, Option, Some, None, nat_lt, slice_get, refl, sym, subst, ◌⊎◌, inl, inr}
use Rattle.partition_table.specs.Rows.{is_among, is_in, is_primary, without, handed}
use Rattle.partition_protocol.specs.Messages.{Message, NewRow, Sync, Effect, Bridge, Ack, Joined as JoinedMessage, Freeze, Frozen as FrozenMessage, Packet}
use Rattle.partition_protocol.specs.Took.{Dropped}
use Rattle.partition_protocol.specs.Node.{Node}
use Rattle.partition_protocol.specs.Replica.{sent_again}
use Rattle.partition_protocol.specs.Execution.{Reached, Executes, PartitionLost, WrongTarget, Migrating}
use Rattle.partition_protocol.specs.Service.{Move, NoMove, Joining, Joined, Freezing, Drained, MoveRefused, ReopenRefused, advance_by, detecting, with_row, beginning, handing_over, is_idle, join_refused, move_refused, handover_refused, reopen_refused, reopening, telling, freezing_again}
use Rattle.grid_base.specs.Objects.{Object}
use Rattle.partition_protocol.specs.World.{World, map_or, is_live, with_service}
use Rattle.partition_protocol.specs.Links.{is_on, link, taken_out, with_packets, sending}
use Rattle.partition_protocol.specs.Events.{Event, Call, Deliver, Lose, Repeat, Resend, Crash, Detect, BeginMove, BeginJoin, BeginHandover, Advance, Reopen, Happened, TookMessage, nothing, done, at_node, delivered, service_takes, handed_over, at_place, told_all, row_made, unless_move_refused, advanced_by, with_reset, unless_reopen_refused, if_executes, calling, executes, happens}
use Rattle.partition_protocol.proofs.Lists.{In, on_cond}
use Rattle.partition_protocol.proofs.Histories.{filter_in}
use Rattle.partition_protocol.proofs.Invariant.{NodeAt}
use Rattle.partition_protocol.proofs.RowFacts.{not_true, not_false, both_left, both_right, less, is_not_less, same_number, true_or_not, false_or_not}
use Rattle.partition_protocol.proofs.Events.{get_in}
use Rattle.std.proofs.Common.{le_refl}

-- a packet at a place of a link is in flight

pub place_in : (f t i : ℕ) (ps : List Packet) (q : Packet) → slice_get (link f t ps) i ≡ Some q → In q ps
place_in f t i ps q e = (filter_in (is_on f t) ps q (get_in (link f t ps) i q e)).0

-- what has to be shown for each thing that an event can do
pub record EventCases {C State : Type 0} (o : Object C State) (w : World C) (P : Event C → World C → Type 0) : Type 0 where
  -- nothing, or an answer alone
  pub stays : (e : Event C) → handed_by w e ≡ [] → P e w
  -- a message is lost, handed to an end that takes nothing, or repeated
  pub loses : (f t i : ℕ) (q : Packet) → slice_get (link f t w.packets) i ≡ Some q → P (Lose f t i) (with_packets w (taken_out f t i w.packets))
  pub drops : (f t i : ℕ) (q : Packet) → slice_get (link f t w.packets) i ≡ Some q → (is_live w q.to ≡ false) ⊎ (slice_get w.nodes q.to ≡ None) → P (Deliver f t i) (with_packets w (taken_out f t i w.packets))
  pub repeats : (f t i : ℕ) (q : Packet) → slice_get (link f t w.packets) i ≡ Some q → P (Repeat f t i) (with_packets w (w.packets ++ q ∷ []))
  -- the service or a live primary sends again
  pub tells_again : P (Resend w.members) (sending w w.members (telling w.members w.service ++ freezing_again w.service))
  pub sends_again : (m : ℕ) (n : Node) → NodeAt w.nodes m n → is_live w m ≡ true → is_primary n.known m ≡ true → P (Resend m) (sending w m (sent_again w.members n))
  -- a member crashes, and the service is told of it
  pub crashes : (m : ℕ) → is_live w m ≡ true → P (Crash m) (record w { crashed = m ∷ w.crashed })
  pub detects : (m : ℕ) → m < w.members → is_among w.crashed m ≡ true → is_among w.service.detected m ≡ false → is_in w.service.row m ≡ true → P (Detect m) (told_all w (detecting m w.service))
  pub notes : (m : ℕ) → m < w.members → is_among w.crashed m ≡ true → is_among w.service.detected m ≡ false → is_in w.service.row m ≡ false → P (Detect m) (with_service w (detecting m w.service))
  -- a move begins
  pub begins : (e : Event C) (source : Option ℕ) (to : ℕ) → join_refused w.members to w.service ≡ None → ((s : ℕ) → source ≡ Some s → is_in w.service.row s ≡ true) → handed_by w e ≡ [] → P e (told_all w (beginning source to w.service))
  pub hands_over : (from to : ℕ) → handover_refused from to w.service ≡ None → P (BeginHandover from to) (with_service w (handing_over from to w.service))
  -- and goes on: its source is frozen, a backup leaves, or another member becomes first
  pub freezes : (from to : ℕ) → w.service.move ≡ Joined from to → is_primary w.service.row from ≡ true
      → P Advance (sending (with_service w (with_row w.service w.service.row (Freezing from to))) w.members (record { to = from; message = Freeze w.service.row.version } ∷ []))
  pub leaves : (from to : ℕ) → w.service.move ≡ Joined from to → is_primary w.service.row from ≡ false → P Advance (told_all w (with_row w.service (without w.service.row from) NoMove))
  pub hands : (from to : ℕ) → w.service.move ≡ Drained from to → P Advance (told_all w (with_row w.service (handed w.service.row from to) NoMove))
  -- a lost row is reopened
  pub reopens : reopen_refused w.partition w.members w.service ≡ None → P Reopen (told_all (with_reset w (w.service.row.version + 1)) (reopening w.partition w.members w.backups w.service))
  -- the service takes a message
  pub joins : (f t i : ℕ) (q : Packet) (v m : ℕ) → slice_get (link f t w.packets) i ≡ Some q → q.to ≡ w.members → q.message ≡ JoinedMessage v m → P (Deliver f t i) (service_takes (with_packets w (taken_out f t i w.packets)) (JoinedMessage v m)).world
  pub drains : (f t i : ℕ) (q : Packet) (v : ℕ) → slice_get (link f t w.packets) i ≡ Some q → q.to ≡ w.members → q.message ≡ FrozenMessage v → P (Deliver f t i) (service_takes (with_packets w (taken_out f t i w.packets)) (FrozenMessage v)).world
  -- a live node takes a message
  pub delivers : (f t i : ℕ) (q : Packet) (n : Node) → slice_get (link f t w.packets) i ≡ Some q → NodeAt w.nodes q.to n → is_live w q.to ≡ true → P (Deliver f t i) (delivered (with_packets w (taken_out f t i w.packets)) q n).world
  -- a live primary that isn't frozen executes a call
  pub calls : (m conn number : ℕ) (call : C) (now : ℕ) (n : Node) → NodeAt w.nodes m n → is_live w m ≡ true → n.known.lost ≡ false → is_primary n.known m ≡ true → n.frozen ≡ false
      → P (Call m conn number call now) (executes o w m conn number call now n).world

module _ {C State : Type 0} (o : Object C State) (w : World C) (P : Event C → World C → Type 0) (c : EventCases o w P) where
  pub on_test : (e : Event C) (b : Bool) (h k : Happened C) → (b ≡ true → P e h.world) → (b ≡ false → P e k.world) → P e (cond b h k).world
  on_test e true h k f g = f refl
  on_test e false h k f g = g refl

  pub on_some : {X : Type 0} (e : Event C) (x : Option X) (d : Happened C) (f : X → Happened C) → (x ≡ None → P e d.world) → ((k : X) → x ≡ Some k → P e (f k).world) → P e (map_or x d f).world
  on_some e None d f g h = g refl
  on_some e (Some k) d f g h = h k refl

  pub on_refused : (e : Event C) (r : Option MoveRefused) (h : Happened C) → handed_by w e ≡ [] → (r ≡ None → P e h.world) → P e (unless_move_refused w r h).world
  on_refused e None h z f = f refl
  on_refused e (Some r) h z f = c.stays e z

  pub on_kept : (e : Event C) (r : Option ReopenRefused) (h : Happened C) → handed_by w e ≡ [] → (r ≡ None → P e h.world) → P e (unless_reopen_refused w r h).world
  on_kept e None h z f = f refl
  on_kept e (Some r) h z f = c.stays e z

  pub on_node : (e : Event C) (m : ℕ) (f : Node → Happened C) → handed_by w e ≡ [] → ((n : Node) → NodeAt w.nodes m n → is_live w m ≡ true → P e (f n).world) → P e (at_node w m f).world
  on_node e m f q g = on_test e (is_live w m) (map_or (slice_get w.nodes m) (nothing w) f) (nothing w) (λ l. on_some e (slice_get w.nodes m) (nothing w) f (λ z. c.stays e q) (λ n at. g n at l)) (λ l. c.stays e q)

  pub on_place : (e : Event C) (f t i : ℕ) (g : Packet → Happened C) → (slice_get (link f t w.packets) i ≡ None → handed_by w e ≡ []) → ((q : Packet) → slice_get (link f t w.packets) i ≡ Some q → P e (g q).world) → P e (at_place w f t i g).world
  on_place e f t i g q h = on_some e (slice_get (link f t w.packets) i) (nothing w) g (λ z. c.stays e (q z)) h

  pub no_member : (m : ℕ) → m ≡ w.members → is_live w m ≡ false
  no_member m e = subst (λ k. is_live w k ≡ false) (sym e) (rw (is_not_less w.members w.members (le_refl w.members)) refl)

  pub on_advance : (v : Move) → w.service.move ≡ v → P Advance (advanced_by w (advance_by w.service.row v)).world
  on_advance NoMove e = c.stays Advance refl
  on_advance (Joining s t) e = c.stays Advance refl
  on_advance (Joined s t) e = on_cond (λ a. P Advance (advanced_by w a).world) (is_primary w.service.row s) _ _ (c.freezes s t e) (c.leaves s t e)
  on_advance (Freezing s t) e = c.stays Advance refl
  on_advance (Drained s t) e = c.hands s t e

  module _ (f t i : ℕ) (q : Packet) (at : slice_get (link f t w.packets) i ≡ Some q) where
    abbrev pub u : World C
    u = with_packets w (taken_out f t i w.packets)

    pub on_service : (msg : Message) → q.message ≡ msg → q.to ≡ w.members → P (Deliver f t i) (service_takes u msg).world
    on_service (NewRow row) e k = c.drops f t i q at (inl (no_member q.to k))
    on_service (Sync row n) e k = c.drops f t i q at (inl (no_member q.to k))
    on_service (Effect v n) e k = c.drops f t i q at (inl (no_member q.to k))
    on_service (Bridge row b n) e k = c.drops f t i q at (inl (no_member q.to k))
    on_service (Ack v n) e k = c.drops f t i q at (inl (no_member q.to k))
    on_service (JoinedMessage v m) e k = c.joins f t i q v m at k e
    on_service (Freeze v) e k = c.drops f t i q at (inl (no_member q.to k))
    on_service (FrozenMessage v) e k = c.drains f t i q v at k e

    pub on_handed : P (Deliver f t i) (handed_over u q).world
    on_handed =
        on_test (Deliver f t i) (q.to == w.members) (service_takes u q.message) (cond (is_live w q.to) (at_node u q.to (delivered u q)) dropped)
        (λ a. on_service q.message refl (same_number q.to w.members a))
        (λ a. on_test (Deliver f t i) (is_live w q.to) (at_node u q.to (delivered u q)) dropped
        (λ l. on_test (Deliver f t i) (is_live w q.to) (map_or (slice_get w.nodes q.to) (nothing u) (delivered u q)) (nothing u)
        (λ k. on_some (Deliver f t i) (slice_get w.nodes q.to) (nothing u) (delivered u q) (λ z. c.drops f t i q at (inr z)) (λ n there. c.delivers f t i q n at there l))
        (λ k. c.drops f t i q at (inl k)))
        (λ l. c.drops f t i q at (inl l)))
      where
        dropped : Happened C
        dropped = record { world = with_packets w (taken_out f t i w.packets); outcome = TookMessage Dropped }

  module _ (m conn number : ℕ) (call : C) (now : ℕ) where
    abbrev pub Called : Happened C → Type 0
    Called h = P (Call m conn number call now) h.world

    pub on_call : P (Call m conn number call now) (at_node w m (calling o w m conn number call now)).world
    on_call = on_node (Call m conn number call now) m (calling o w m conn number call now) refl reaches
      where
        reaches : (n : Node) → NodeAt w.nodes m n → is_live w m ≡ true → P (Call m conn number call now) (calling o w m conn number call now n).world
        reaches n at lives =
            on_cond R n.known.lost (PartitionLost n.known.version) (cond (not (is_primary n.known m)) (WrongTarget n.known.version) (cond n.frozen (Migrating n.known.version) Executes)) (λ a. c.stays _ refl)
            (λ a. on_cond R (not (is_primary n.known m)) (WrongTarget n.known.version) (cond n.frozen (Migrating n.known.version) Executes) (λ b. c.stays _ refl)
            (λ b. on_cond R n.frozen (Migrating n.known.version) Executes (λ d. c.stays _ refl) (λ d. c.calls m conn number call now n at lives a (not_false (is_primary n.known m) b) d)))
          where
            R : Reached → Type 0
            R r = P (Call m conn number call now) (if_executes w r (executes o w m conn number call now n)).world

  -- a move is refused where a join is, and where its source isn't in the row
  pub join_as_move : (from to : ℕ) → move_refused w.members from to w.service ≡ None → (join_refused w.members to w.service ≡ None) × (is_in w.service.row from ≡ true)
  join_as_move from to e = (rw (still, idle) (rw (still, idle, there) at e), there)
    where
      still : w.service.row.lost ≡ false
      still = false_or_not w.service.row.lost (λ z. absurd (cc (rw z at e)))

      idle : is_idle w.service.move ≡ true
      idle = true_or_not (is_idle w.service.move) (λ z. absurd (cc (rw (still, z) at e)))

      there : is_in w.service.row from ≡ true
      there = true_or_not (is_in w.service.row from) (λ z. absurd (cc (rw (still, idle, z) at e)))

  -- whatever happens
  pub every_event : (e : Event C) → P e (happens o w e).world
  every_event (Call m conn number call now) = on_call m conn number call now
  every_event (Deliver f t i) = on_place (Deliver f t i) f t i (λ q. handed_over (with_packets w (taken_out f t i w.packets)) q) (λ z. rw (z, handed_by) refl) (λ q at. on_handed f t i q at)
  every_event (Lose f t i) = on_place (Lose f t i) f t i (λ q. done (with_packets w (taken_out f t i w.packets))) (λ z. refl) (λ q at. c.loses f t i q at)
  every_event (Repeat f t i) = on_place (Repeat f t i) f t i (λ q. done (with_packets w (w.packets ++ q ∷ []))) (λ z. refl) (λ q at. c.repeats f t i q at)
  every_event (Resend m) = on_test (Resend m) (m == w.members) (done (sending w m (telling w.members w.service ++ freezing_again w.service))) (at_node w m (λ n. cond (is_primary n.known m) (done (sending w m (sent_again w.members n))) (nothing w)))
      (λ a. subst (λ k. P (Resend k) (sending w k (telling w.members w.service ++ freezing_again w.service))) (sym (same_number m w.members a)) c.tells_again)
      (λ a. on_node (Resend m) m (λ n. cond (is_primary n.known m) (done (sending w m (sent_again w.members n))) (nothing w)) refl (λ n at l. on_test (Resend m) (is_primary n.known m) (done (sending w m (sent_again w.members n))) (nothing w) (λ k. c.sends_again m n at l k) (λ k. c.stays (Resend m) refl)))
  every_event (Crash m) = on_test (Crash m) (is_live w m) (done (record w { crashed = m ∷ w.crashed })) (nothing w) (c.crashes m) (λ a. c.stays (Crash m) refl)
  every_event (Detect m) = on_test (Detect m) (nat_lt m w.members && is_among w.crashed m && not (is_among w.service.detected m)) (cond (is_in w.service.row m) (row_made w (detecting m w.service)) (done (with_service w (detecting m w.service)))) (nothing w)
      (λ a.
      let crashed = both_left (nat_lt m w.members && is_among w.crashed m) (not (is_among w.service.detected m)) a in
      let member = less m w.members (both_left (nat_lt m w.members) (is_among w.crashed m) crashed) in
      let gone = both_right (nat_lt m w.members) (is_among w.crashed m) crashed in
      let untold = not_true (is_among w.service.detected m) (both_right (nat_lt m w.members && is_among w.crashed m) (not (is_among w.service.detected m)) a) in
      on_test (Detect m) (is_in w.service.row m) (row_made w (detecting m w.service)) (done (with_service w (detecting m w.service))) (c.detects m member gone untold) (c.notes m member gone untold)) (λ a. c.stays (Detect m) refl)
  every_event (BeginMove from to) = on_refused (BeginMove from to) (move_refused w.members from to w.service) (row_made w (beginning (Some from) to w.service)) refl (λ e. (let j = join_as_move from to e in c.begins (BeginMove from to) (Some from) to j.0 (λ s z. (let same : from ≡ s = cc in subst (λ k. is_in w.service.row k ≡ true) same j.1)) refl))
  every_event (BeginJoin to) = on_refused (BeginJoin to) (join_refused w.members to w.service) (row_made w (beginning None to w.service)) refl (λ e. c.begins (BeginJoin to) None to e (λ s z. absurd cc) refl)
  every_event (BeginHandover from to) = on_refused (BeginHandover from to) (handover_refused from to w.service) (done (with_service w (handing_over from to w.service))) refl (c.hands_over from to)
  every_event Advance = on_advance w.service.move refl
  every_event Reopen = on_kept Reopen (reopen_refused w.partition w.members w.service) (row_made (with_reset w (w.service.row.version + 1)) (reopening w.partition w.members w.backups w.service)) refl c.reopens
