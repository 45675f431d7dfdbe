-- What holds of the world after an event, by the few worlds that an event can leave.
use Rattle.std.proofs.Common.{◌≡◌, ℕ, ◌+◌, Bool, true, false, cond, not, ◌&&◌, ◌==◌, List, [], ◌∷◌, ◌++◌, Option, Some, None, nat_lt, slice_get, refl}
use Rattle.partition_table.specs.Rows.{is_among, is_in, is_primary}
use Rattle.partition_protocol.specs.Messages.{Message, NewRow, Sync, Effect, Bridge, Ack, Joined as JoinedMessage, Freeze, Frozen as FrozenMessage, Packet}
use Rattle.partition_protocol.specs.Took.{Dropped}
use Rattle.partition_protocol.specs.Node.{Node}
use Rattle.partition_protocol.specs.Replica.{sent_again}
use Rattle.partition_protocol.specs.Execution.{Executes, PartitionLost, WrongTarget, Migrating}
use Rattle.partition_protocol.specs.Service.{Service, MoveRefused, ReopenRefused, AdvanceStep, Nothing, Freezes, MakesRow, advance_of, detecting, beginning, handing_over, join_refused, move_refused, handover_refused, reopen_refused, reopening, telling, freezing_again}
use Rattle.grid_base.specs.Objects.{Object}
use Rattle.partition_protocol.specs.World.{World, map_or, is_live, with_service}
use Rattle.partition_protocol.specs.Links.{is_on, link, taken_out, with_packets, sending}
use Rattle.partition_protocol.specs.Events.{Event, Call, Deliver, Lose, Repeat, Resend, Crash, Detect, BeginMove, BeginJoin, BeginHandover, Advance, Reopen, Happened, TookMessage, nothing, done, at_node, delivered, service_takes, handed_over, at_place, row_made, unless_move_refused, advanced_by, with_reset, unless_reopen_refused, if_executes, calling, executes, happens}
use Rattle.partition_table.specs.declared.Row.{Row}
use Rattle.partition_protocol.proofs.Lists.{In, on_cond}
use Rattle.partition_protocol.proofs.Histories.{filter_in}
use Rattle.partition_protocol.proofs.Invariant.{NodeAt}
use Rattle.partition_protocol.proofs.RowFacts.{not_true, not_false, both_right}
use Rattle.partition_protocol.proofs.Events.{get_in}

module _ {C State : Type 0} (o : Object C State) (w : World C) (P : Event C → World C → Type 0)
    -- other messages in flight
    (packets : (e : Event C) (ps : List Packet) → P e (with_packets w ps))
    -- a member crashes
    (crashes : (e : Event C) (m : ℕ) → P e (record w { crashed = m ∷ w.crashed }))
    -- the service takes a step
    (serves : (e : Event C) (s : Service) (st : Row) (ps : List Packet) → P e (record w { service = s; packets = ps; recorded = record w.recorded { standing = st } }))
    -- and a reopening
    (reopens : (e : Event C) (s : Service) (st : Row) (ps : List Packet) → P e (record (with_reset w (w.service.row.version + 1)) { service = s; packets = ps; recorded = record (with_reset w (w.service.row.version + 1)).recorded { standing = st } }))
    -- a live node takes a message
    (delivers : (e : Event C) (f t i : ℕ) (q : Packet) (n : Node) → In q w.packets → NodeAt w.nodes q.to n → is_among w.crashed q.to ≡ false → P e (delivered (with_packets w (taken_out f t i w.packets)) q n).world)
    -- a live primary that isn't frozen executes a call
    (calls : (m conn number : ℕ) (call : C) (now : ℕ) (n : Node) → NodeAt w.nodes m n → is_among w.crashed m ≡ false → is_primary n.known m ≡ true → n.frozen ≡ false → P (Call m conn number call now) (executes o w m conn number call now n).world) where
  pub stays_so : (e : Event C) → P e w
  stays_so e = packets e w.packets

  pub walk_if : (e : Event C) (b : Bool) (h k : Happened C) → (b ≡ true → P e h.world) → (b ≡ false → P e k.world) → P e (cond b h k).world
  walk_if e true h k f g = f refl
  walk_if e false h k f g = g refl

  pub walk_some : {X : Type 0} (e : Event C) (x : Option X) (d : Happened C) (f : X → Happened C) → P e d.world → ((k : X) → x ≡ Some k → P e (f k).world) → P e (map_or x d f).world
  walk_some e None d f g h = g
  walk_some e (Some k) d f g h = h k refl

  pub walk_refused : (e : Event C) (r : Option MoveRefused) (h : Happened C) → P e h.world → P e (unless_move_refused w r h).world
  walk_refused e None h f = f
  walk_refused e (Some r) h f = stays_so e

  pub walk_reopen : (e : Event C) (r : Option ReopenRefused) (h : Happened C) → P e h.world → P e (unless_reopen_refused w r h).world
  walk_reopen e None h f = f
  walk_reopen e (Some r) h f = stays_so e

  pub alive : (m : ℕ) → is_live w m ≡ true → is_among w.crashed m ≡ false
  alive m e = not_true (is_among w.crashed m) (both_right (nat_lt m w.members) (not (is_among w.crashed m)) e)

  pub walk_node : (e : Event C) (m : ℕ) (f : Node → Happened C) → ((n : Node) → NodeAt w.nodes m n → is_among w.crashed m ≡ false → P e (f n).world) → P e (at_node w m f).world
  walk_node e m f g = walk_if e (is_live w m) (map_or (slice_get w.nodes m) (nothing w) f) (nothing w) (λ l. walk_some e (slice_get w.nodes m) (nothing w) f (stays_so e) (λ n at. g n at (alive m l))) (λ l. stays_so e)

  pub walk_place : (e : Event C) (f t i : ℕ) (g : Packet → Happened C) → ((q : Packet) → In q w.packets → P e (g q).world) → P e (at_place w f t i g).world
  walk_place e f t i g h = walk_some e (slice_get (link f t w.packets) i) (nothing w) g (stays_so e) (λ q s. h q (filter_in (is_on f t) w.packets q (get_in (link f t w.packets) i q s)).0)

  pub walk_advance : (e : Event C) (a : AdvanceStep) → P e (advanced_by w a).world
  walk_advance e Nothing = stays_so e
  walk_advance e (Freezes s t) = serves e _ _ _
  walk_advance e (MakesRow row) = serves e _ _ _

  pub walk_takes : (e : Event C) (ps : List Packet) (msg : Message) → P e (service_takes (with_packets w ps) msg).world
  walk_takes e ps (NewRow row) = packets e ps
  walk_takes e ps (Sync row c) = packets e ps
  walk_takes e ps (Effect v i) = packets e ps
  walk_takes e ps (Bridge row b k) = packets e ps
  walk_takes e ps (Ack v c) = packets e ps
  walk_takes e ps (JoinedMessage v m) = serves e _ _ _
  walk_takes e ps (Freeze v) = packets e ps
  walk_takes e ps (FrozenMessage v) = serves e _ _ _

  pub walk_handed : (e : Event C) (f t i : ℕ) (q : Packet) → In q w.packets → P e (handed_over (with_packets w (taken_out f t i w.packets)) q).world
  walk_handed e f t i q j =
      walk_if e (q.to == w.members) (service_takes (with_packets w (taken_out f t i w.packets)) q.message) (cond (is_live w q.to) (at_node (with_packets w (taken_out f t i w.packets)) q.to (delivered (with_packets w (taken_out f t i w.packets)) q)) dropped)
      (λ a. walk_takes e (taken_out f t i w.packets) q.message)
      (λ a. walk_if e (is_live w q.to) (at_node (with_packets w (taken_out f t i w.packets)) q.to (delivered (with_packets w (taken_out f t i w.packets)) q)) dropped
      (λ l. walk_if e (is_live w q.to) (map_or (slice_get w.nodes q.to) (nothing (with_packets w (taken_out f t i w.packets))) (delivered (with_packets w (taken_out f t i w.packets)) q)) (nothing (with_packets w (taken_out f t i w.packets)))
      (λ k. walk_some e (slice_get w.nodes q.to) (nothing (with_packets w (taken_out f t i w.packets))) (delivered (with_packets w (taken_out f t i w.packets)) q) (packets e (taken_out f t i w.packets)) (λ n at. delivers e f t i q n j at (alive q.to k)))
      (λ k. packets e (taken_out f t i w.packets)))
      (λ l. packets e (taken_out f t i w.packets)))
    where
      dropped : Happened C
      dropped = record { world = with_packets w (taken_out f t i w.packets); outcome = TookMessage Dropped }

  pub walk_call : (m conn number : ℕ) (call : C) (now : ℕ) → P (Call m conn number call now) (at_node w m (calling o w m conn number call now)).world
  walk_call m conn number call now = walk_node (Call m conn number call now) m (calling o w m conn number call now) reaches
    where
      e : Event C
      e = Call m conn number call now

      reaches : (n : Node) → NodeAt w.nodes m n → is_among w.crashed m ≡ false → P (Call m conn number call now) (calling o w m conn number call now n).world
      reaches n at lives =
          on_cond (λ r. P (Call m conn number call now) (if_executes w r (executes o w m conn number call now n)).world) n.known.lost (PartitionLost n.known.version) (cond (not (is_primary n.known m)) (WrongTarget n.known.version) (cond n.frozen (Migrating n.known.version) Executes)) (λ a. stays_so e)
          (λ a. on_cond (λ r. P (Call m conn number call now) (if_executes w r (executes o w m conn number call now n)).world) (not (is_primary n.known m)) (WrongTarget n.known.version) (cond n.frozen (Migrating n.known.version) Executes) (λ b. stays_so e)
          (λ b. on_cond (λ r. P (Call m conn number call now) (if_executes w r (executes o w m conn number call now n)).world) n.frozen (Migrating n.known.version) Executes (λ c. stays_so e) (λ c. calls m conn number call now n at lives (not_false (is_primary n.known m) b) c)))

  -- whatever happens
  pub walk : (e : Event C) → P e (happens o w e).world
  walk (Call m conn number call now) = walk_call m conn number call now
  walk (Deliver f t i) = walk_place (Deliver f t i) f t i (λ q. handed_over (with_packets w (taken_out f t i w.packets)) q) (λ q j. walk_handed (Deliver f t i) f t i q j)
  walk (Lose f t i) = walk_place (Lose f t i) f t i (λ q. done (with_packets w (taken_out f t i w.packets))) (λ q j. packets (Lose f t i) (taken_out f t i w.packets))
  walk (Repeat f t i) = walk_place (Repeat f t i) f t i (λ q. done (with_packets w (w.packets ++ q ∷ []))) (λ q j. packets (Repeat f t i) (w.packets ++ q ∷ []))
  walk (Resend m) = walk_if (Resend m) (m == w.members) (done (sending w m (telling w.members w.service ++ freezing_again w.service))) (at_node w m (λ n. cond (is_primary n.known m) (done (sending w m (sent_again w.members n))) (nothing w))) (λ a. packets (Resend m) _)
      (λ a. walk_node (Resend m) m (λ n. cond (is_primary n.known m) (done (sending w m (sent_again w.members n))) (nothing w)) (λ n at l. walk_if (Resend m) (is_primary n.known m) (done (sending w m (sent_again w.members n))) (nothing w) (λ k. packets (Resend m) _) (λ k. stays_so (Resend m))))
  walk (Crash m) = walk_if (Crash m) (is_live w m) (done (record w { crashed = m ∷ w.crashed })) (nothing w) (λ a. crashes (Crash m) m) (λ a. stays_so (Crash m))
  walk (Detect m) = walk_if (Detect m) (nat_lt m w.members && is_among w.crashed m && not (is_among w.service.detected m)) (cond (is_in w.service.row m) (row_made w (detecting m w.service)) (done (with_service w (detecting m w.service)))) (nothing w)
      (λ a. walk_if (Detect m) (is_in w.service.row m) (row_made w (detecting m w.service)) (done (with_service w (detecting m w.service))) (λ k. serves (Detect m) _ _ _) (λ k. serves (Detect m) _ _ _)) (λ a. stays_so (Detect m))
  walk (BeginMove from to) = walk_refused (BeginMove from to) (move_refused w.members from to w.service) (row_made w (beginning (Some from) to w.service)) (serves (BeginMove from to) _ _ _)
  walk (BeginJoin to) = walk_refused (BeginJoin to) (join_refused w.members to w.service) (row_made w (beginning None to w.service)) (serves (BeginJoin to) _ _ _)
  walk (BeginHandover from to) = walk_refused (BeginHandover from to) (handover_refused from to w.service) (done (with_service w (handing_over from to w.service))) (serves (BeginHandover from to) _ _ _)
  walk Advance = walk_advance Advance (advance_of w.service)
  walk Reopen = walk_reopen Reopen (reopen_refused w.partition w.members w.service) (row_made (with_reset w (w.service.row.version + 1)) (reopening w.partition w.members w.backups w.service)) (reopens Reopen _ _ _)
