-- What the service keeps changes by decisions alone.
use Rattle.std.proofs.Common.{◌≡◌, ℕ, ◌+◌, Bool, true, false, cond, not, ◌&&◌, ◌==◌, nat_lt, List, [], ◌∷◌, ◌++◌, Option, Some, None, slice_get, refl, ap, sym, ◌∙◌, subst, true≢false}
use Rattle.grid_base.specs.Objects.{Object}
use Rattle.partition_table.specs.Rows.{is_among, is_in, is_primary}
use Rattle.partition_protocol.specs.Messages.{Message, NewRow, Sync, Effect, Bridge, Ack, Joined, Freeze, Frozen, Packet}
use Rattle.partition_protocol.specs.Took.{Dropped}
use Rattle.partition_protocol.specs.Node.{Node}
use Rattle.partition_protocol.specs.Replica.{sent_again}
use Rattle.partition_protocol.specs.Execution.{Reached, Executes, PartitionLost, WrongTarget, Migrating, reached}
use Rattle.partition_protocol.specs.Service.{Service, telling, freezing_again, detecting, beginning, handing_over, reopening, MoveRefused, ReopenRefused, AdvanceStep, Nothing, Freezes, MakesRow, advance_of, move_refused, join_refused, handover_refused, reopen_refused}
use Rattle.partition_protocol.specs.World.{World, map_or, is_live, with_service}
use Rattle.partition_protocol.specs.Links.{link, taken_out, with_packets, sending}
use Rattle.partition_protocol.specs.Events.{Event, Call, Deliver, Lose, Repeat, Resend, Crash, Detect, BeginMove, BeginJoin, BeginHandover, Advance, Reopen, Happened, TookMessage, nothing, done, at_node, if_executes, calling, executes, delivered, service_takes, handed_over, row_made, unless_move_refused, unless_reopen_refused, advanced_by, with_reset, happens, run}
use Rattle.partition_protocol.proofs.Lists.{Every, on_cond}
use Rattle.partition_protocol.proofs.RowFacts.{is_less, number_same}
use Rattle.partition_protocol.proofs.LinkFacts.{packet_at}
use Rattle.partition_protocol.proofs.EventFacts.{deliver_service}
use Rattle.partition_protocol.proofs.WellFormed.{same_size}
use Rattle.masters_protocol.proofs.Lists.{on_some as on_or}
use Rattle.masters_world.specs.Decisions.{Decision, event_of, is_of_service, unless_refused, advanced_to, taken, decided}
use Rattle.masters_world.specs.Decisions as decisions
use Rattle.masters_world.specs.Claims.{IsRight}

module _ {C State : Type 0} (o : Object C State) (w : World C) where
  abbrev pub Same : Happened C → Type 0
  Same h = h.world.service ≡ w.service

  pub node_same : (m : ℕ) (f : Node → Happened C) → ((n : Node) → Same (f n)) → Same (at_node w m f)
  node_same m f h = on_cond Same (is_live w m) (map_or (slice_get w.nodes m) (nothing w) f) (nothing w) (λ l. on_or Same (slice_get w.nodes m) (nothing w) f refl (λ n at. h n)) (λ l. refl)

  pub kept : (r : Reached) (h : Happened C) → Same h → Same (if_executes w r h)
  kept Executes h e = e
  kept (PartitionLost v) h e = refl
  kept (WrongTarget v) h e = refl
  kept (Migrating v) h e = refl

  -- an event that isn't of the service leaves it
  pub other_same : (e : Event C) → is_of_service w.members e ≡ false → Same (happens o w e)
  other_same (Call m conn number call now) d = node_same m (calling o w m conn number call now) (λ n. kept (reached m n) (executes o w m conn number call now n) refl)
  other_same (Deliver f t i) d = on_or Same (slice_get (link f t w.packets) i) (nothing w) (λ p. handed_over (with_packets w (taken_out f t i w.packets)) p) refl given
    where
      given : (p : Packet) → slice_get (link f t w.packets) i ≡ Some p → Same (handed_over (with_packets w (taken_out f t i w.packets)) p)
      given p at =
          let u : World C = with_packets w (taken_out f t i w.packets) in
          let to : p.to ≡ t = ap (λ (q : Packet). q.to) (packet_at f t i w.packets p at) in
          on_cond Same (p.to == w.members) (service_takes u p.message) (cond (is_live u p.to) (at_node u p.to (delivered u p)) (record { world = u; outcome = TookMessage Dropped }))
          (λ e. absurd (true≢false (sym (subst (λ k. (k == w.members) ≡ true) to e) ∙ d)))
          (λ e. on_cond Same (is_live u p.to) (at_node u p.to (delivered u p)) (record { world = u; outcome = TookMessage Dropped })
          (λ l. on_cond Same (is_live u p.to) (map_or (slice_get u.nodes p.to) (nothing u) (delivered u p)) (nothing u) (λ k. on_or Same (slice_get u.nodes p.to) (nothing u) (delivered u p) refl (λ n h. refl)) (λ k. refl)) (λ l. refl))
  other_same (Lose f t i) d = on_or Same (slice_get (link f t w.packets) i) (nothing w) (λ p. done (with_packets w (taken_out f t i w.packets))) refl (λ p at. refl)
  other_same (Repeat f t i) d = on_or Same (slice_get (link f t w.packets) i) (nothing w) (λ p. done (with_packets w (w.packets ++ p ∷ []))) refl (λ p at. refl)
  other_same (Resend end) d = on_cond Same (end == w.members) (done (sending w end (telling w.members w.service ++ freezing_again w.service))) (at_node w end (λ n. cond (is_primary n.known end) (done (sending w end (sent_again w.members n))) (nothing w)))
      (λ e. refl) (λ e. node_same end (λ n. cond (is_primary n.known end) (done (sending w end (sent_again w.members n))) (nothing w)) (λ n. on_cond Same (is_primary n.known end) (done (sending w end (sent_again w.members n))) (nothing w) (λ k. refl) (λ k. refl)))
  other_same (Crash m) d = on_cond Same (is_live w m) (done (record w { crashed = m ∷ w.crashed })) (nothing w) (λ l. refl) (λ l. refl)
  other_same (Detect m) d = absurd (true≢false d)
  other_same (BeginMove from to) d = absurd (true≢false d)
  other_same (BeginJoin to) d = absurd (true≢false d)
  other_same (BeginHandover from to) d = absurd (true≢false d)
  other_same Advance d = absurd (true≢false d)
  other_same Reopen d = absurd (true≢false d)

  -- a decision that is right does to the world's service what it does to the service alone

  pub detected_then : (m : ℕ) (a b c d : Bool) → a ≡ true → b ≡ true
      → (cond (a && b && not c) (cond d (row_made w (detecting m w.service)) (done (with_service w (detecting m w.service)))) (nothing w)).world.service ≡ cond c w.service (detecting m w.service)
  detected_then m true true true d e f = refl
  detected_then m true true false true e f = refl
  detected_then m true true false false e f = refl
  detected_then m true false c d e f = absurd cc
  detected_then m false b c d e f = absurd cc

  pub moved_then : (r : Option MoveRefused) (h : Happened C) (s : Service) → h.world.service ≡ s → (unless_move_refused w r h).world.service ≡ unless_refused r w.service s
  moved_then None h s e = e
  moved_then (Some r) h s e = refl

  pub reopened_then : (r : Option ReopenRefused) (h : Happened C) (s : Service) → h.world.service ≡ s → (unless_reopen_refused w r h).world.service ≡ unless_refused r w.service s
  reopened_then None h s e = e
  reopened_then (Some r) h s e = refl

  pub advanced_then : (a : AdvanceStep) → (advanced_by w a).world.service ≡ advanced_to w.service a
  advanced_then Nothing = refl
  advanced_then (Freezes from to) = refl
  advanced_then (MakesRow row) = refl

  pub taken_then : (u : World C) (x : Message) → (service_takes u x).world.service ≡ taken u.service x
  taken_then u (NewRow row) = refl
  taken_then u (Sync row c) = refl
  taken_then u (Effect v i) = refl
  taken_then u (Bridge row e k) = refl
  taken_then u (Ack v c) = refl
  taken_then u (Joined v m) = refl
  taken_then u (Freeze v) = refl
  taken_then u (Frozen v) = refl

  pub decides : (d : Decision) → IsRight w.members w d → (happens o w (event_of w.members d)).world.service ≡ decided w.partition w.members w.backups w.service d
  decides (decisions.Detect m) r = detected_then m (nat_lt m w.members) (is_among w.crashed m) (is_among w.service.detected m) (is_in w.service.row m) (is_less m w.members r.0) r.1
  decides (decisions.BeginMove from to) r = moved_then (move_refused w.members from to w.service) (row_made w (beginning (Some from) to w.service)) (beginning (Some from) to w.service) refl
  decides (decisions.BeginJoin to) r = moved_then (join_refused w.members to w.service) (row_made w (beginning None to w.service)) (beginning None to w.service) refl
  decides (decisions.BeginHandover from to) r = moved_then (handover_refused from to w.service) (done (with_service w (handing_over from to w.service))) (handing_over from to w.service) refl
  decides decisions.Advance r = advanced_then (advance_of w.service)
  decides decisions.Reopen r = reopened_then (reopen_refused w.partition w.members w.service) (row_made (with_reset w (w.service.row.version + 1)) (reopening w.partition w.members w.backups w.service)) (reopening w.partition w.members w.backups w.service) refl
  decides (decisions.Take f i x) r =
      ap (λ (h : Happened C). h.world.service) (deliver_service o w f w.members i x r.0 (number_same w.members w.members refl))
      ∙ taken_then (with_packets w (taken_out f w.members i w.packets)) x

-- nor does a run of others

pub run_same : {C State : Type 0} (o : Object C State) (w : World C) (n : ℕ) → w.members ≡ n → (es : List (Event C)) → Every (λ e. is_of_service n e ≡ false) es → (run o w es).service ≡ w.service
run_same o w n s [] h = refl
run_same o w n s (e ∷ es) h =
    run_same o (happens o w e).world n ((same_size o w e).1 ∙ s) es h.1 ∙ other_same o w e (subst (λ k. is_of_service k e ≡ false) (sym s) h.0)
