-- A message that is handed over to no live member: there is none, its taker has crashed, or the table service takes it.
use Rattle.std.proofs.Common.{◌≡◌, ℕ, ◌<◌, ◌≤◌, false, ◌==◌, ◌&&◌, List, Option, [], length, remove, Some, slice_get, vec_len, refl, ap, sym, ◌∙◌, subst, ◌⊎◌, inl, inr, append-nil, arith, if◌then◌else◌}
use Rattle.partition_table.specs.declared.Row.{Row}
use Rattle.partition_protocol.specs.Messages.{Message, NewRow, Sync, Effect, Bridge, Ack, Joined, Freeze, Frozen}
use Rattle.partition_protocol.specs.Took.{Dropped}
use Rattle.partition_protocol.specs.Service.{ServiceStep}
use Rattle.partition_protocol.specs.World.{World as Machine, is_live}
use Rattle.partition_protocol.specs.Links.{link, taken_out, with_packets}
use Rattle.partition_protocol.specs.Events.{Event, Deliver, Happened as HappenedThere, NothingDone, TookMessage, handed_over, service_takes, happens}
use Rattle.partition_protocol.specs.Claims.{IsLawful}
use Rattle.partition_protocol.proofs.RowFacts.{number_same}
use Rattle.partition_protocol.proofs.EventFacts.{no_packet, deliver_dead, deliver_service}
use Rattle.partition_protocol.proofs.LinkFacts.{packet}
use Rattle.link_net.specs.Links.{Net, HasLists, list_of, except}
use Rattle.member_wire.specs.Said.{said_with, message_of, took_of}
use Rattle.member_wire.specs.declared.message.MemberMessage.{MemberMessage}
use Rattle.member_wire.specs.declared.message.MemberMessage.TheVariants as said
use Rattle.member_wire.specs.declared.took.Took.{Took}
use Rattle.member_wire.specs.declared.took.Took.TheVariants as took
use Rattle.member_wire.proofs.SaidAgain.{message_of-said_with}
use Rattle.table_service.specs.Services.{service_of}
use Rattle.table_service.specs.Steps.{taking_at_service}
use Rattle.partition_world.specs.declared.world.World.{World}
use Rattle.partition_world.specs.declared.event.Happened.TheVariants as happened
use Rattle.grid_base.specs.Shelves.{Meaning}
use Rattle.partition_world.specs.Shelves.{IsShelf}
use Rattle.partition_world.specs.InFlight.{contents_in}
use Rattle.partition_world.specs.Sending.{HasFit, flying}
use Rattle.partition_world.specs.Worlds.{setup_of, run_of, Comes, HasRun}
use Rattle.partition_world.proofs.Comings as comings
use Rattle.partition_world.proofs.EffectsLead.{lawful, Stood}
use Rattle.partition_world.proofs.FewOnLinks.{length_map}
use Rattle.partition_world.proofs.LinkBytes as bytes
use Rattle.partition_world.proofs.Places.{there_at}
use Rattle.partition_world.proofs.Quiet.{unmoved, quiet_run, packets_run}
-- what the service takes, as equations
use Rattle.partition_protocol.specs.Recorded.{Recorded}

pub record IsTaken {C : Type 0} (u : Machine C) (msg : Message) (h : HappenedThere C) : Type 0 where
  pub nodes : h.world.nodes ≡ u.nodes
  pub released : h.world.released ≡ u.released
  pub crashed : h.world.crashed ≡ u.crashed
  pub packets : h.world.packets ≡ u.packets
  pub service : h.world.service ≡ (taking_at_service msg u.service).service
  pub outcome : h.outcome ≡ TookMessage (taking_at_service msg u.service).took

pub service_taken : {C : Type 0} (u : Machine C) (msg : Message) → IsTaken u msg (service_takes u msg)
service_taken u (NewRow row) = record { nodes = refl; released = refl; crashed = refl; packets = refl; service = refl; outcome = refl }
service_taken u (Sync row c) = record { nodes = refl; released = refl; crashed = refl; packets = refl; service = refl; outcome = refl }
service_taken u (Effect v i) = record { nodes = refl; released = refl; crashed = refl; packets = refl; service = refl; outcome = refl }
service_taken u (Bridge row e c) = record { nodes = refl; released = refl; crashed = refl; packets = refl; service = refl; outcome = refl }
service_taken u (Ack v c) = record { nodes = refl; released = refl; crashed = refl; packets = refl; service = refl; outcome = refl }
service_taken u (Joined v b) = record { nodes = refl; released = refl; crashed = refl; packets = refl; service = refl; outcome = refl }
service_taken u (Freeze v) = record { nodes = refl; released = refl; crashed = refl; packets = refl; service = refl; outcome = refl }
service_taken u (Frozen v) = record { nodes = refl; released = refl; crashed = refl; packets = refl; service = refl; outcome = refl }

module _ {S R Plan C State : Type 0} (k : Meaning S C State) (records : R → Recorded C → Type 0) (limits : C → Type 0) (within : ℕ → State → Type 0) (applied : List ℕ → State → Option State) (shelf : IsShelf k limits within applied)
    (world : World S R Plan C) (events : List (Event C)) (f t i : ℕ) (comes : Comes k records limits world events (Deliver f t i)) where
  abbrev pub w : Machine C
  w = run_of k world events

  abbrev pub event : Event C
  event = Deliver f t i

  abbrev pub next : Machine C
  next = (happens k.object w event).world

  pub stood : Stood k.object limits within w
  stood = comings.stood k records limits within applied shelf world events event comes

  pub law : IsLawful k.object
  law = lawful k limits within applied shelf

  -- there is no message
  pub none_there : (list : List (List ℕ)) → list ≡ list_of world.links f t → length list ≤ i → HasRun k records world world events event happened.Nothing
  none_there list is past =
      unmoved k records limits within applied shelf world events event comes NothingDone
      (no_packet w f t i (λ p. handed_over (with_packets w (taken_out f t i w.packets)) p) (let same = ap length (is ∙ comes.stands.agrees.links f t) ∙ length_map _ (link f t w.packets) in omega (arith, past, same)))
      world happened.Nothing refl
      (record { setup = refl; members = refl; size = refl; crashed = refl; service = refl; ends = refl; links = λ g h. refl; recorded = comes.stands.agrees.recorded })
      refl

  -- the message that there is
  pub message_at : (list : List (List ℕ)) → list ≡ list_of world.links f t → i < length list → (msg : Message) × (slice_get (link f t w.packets) i ≡ Some (packet f t msg))
  message_at list is l =
      let there = there_at list i l in
      let msg = bytes.at_link k w f t i there.0 (ap (λ bs. slice_get bs i) (sym (is ∙ comes.stands.agrees.links f t)) ∙ there.1) in
      (msg.0, msg.1)

  -- it leaves its link
  module _ (packets : next.packets ≡ taken_out f t i w.packets) where
    pub lost_there : (net : Net) → HasLists net (except f t (remove (list_of world.links f t) i) (list_of world.links)) → HasLists net (flying k next)
    lost_there net lists g h =
        lists g h ∙ same ∙ sym (bytes.lost_lists k law w stood.good stood.led event f t i packets g h)
      where
        same : except f t (remove (list_of world.links f t) i) (list_of world.links) g h ≡ except f t (remove (flying k w f t) i) (flying k w) g h
        same =
            ap (λ bs. except f t (remove bs i) (list_of world.links) g h) (comes.stands.agrees.links f t)
            ∙ ap (λ bs. if (g == f) && (h == t) then remove (flying k w f t) i else bs) (comes.stands.agrees.links g h)

    pub fits_still : HasFit k next
    fits_still =
        bytes.fits_next k law w stood.good stood.led event comes.stands.agrees.fit (taken_out f t i w.packets) t (contents_in k w) [] (bytes.taken_in k law w stood.good stood.led event f t i w.packets)
        (packets ∙ sym (append-nil (taken_out f t i w.packets))) tt tt

  module _ (msg : Message) (at : slice_get (link f t w.packets) i ≡ Some (packet f t msg)) (new : World S R Plan C) (lists : HasLists new.links (except f t (remove (list_of world.links f t) i) (list_of world.links)))
      (ends : new.links.ends ≡ world.links.ends) where
    -- a crashed member drops it
    pub dropped : (t == w.members) ≡ false → is_live w t ≡ false → setup_of new ≡ setup_of world → new.members ≡ world.members → new.nodes ≡ world.nodes → new.crashed ≡ world.crashed → service_of new.service ≡ service_of world.service
        → new.recorder ≡ world.recorder → HasRun k records world new events event (happened.Took took.Dropped)
    dropped apart dead setup members nodes crashed service recorder =
        packets_run k records limits within applied shelf world events event comes (taken_out f t i w.packets) (TookMessage Dropped) is new (happened.Took took.Dropped) refl setup members (ap (λ ns. vec_len ns) nodes) (ap (λ cs. cs.items) crashed) service ends
        (subst (λ r. records r w.recorded) (sym recorder) comes.stands.agrees.recorded) (lost_there left new.links lists) (fits_still left) (ap (λ ns. ns.items) nodes)
      where
        is : happens k.object w event ≡ record { world = with_packets w (taken_out f t i w.packets); outcome = TookMessage Dropped }
        is = deliver_dead k.object w f t i msg at apart dead

        left : next.packets ≡ taken_out f t i w.packets
        left = ap (λ (h : HappenedThere C). h.world.packets) is

    -- The table service takes it: the partition stands by its row then, where a member has joined
    module _ (same : t ≡ w.members) (message : MemberMessage) (says : message ≡ said_with (contents_in k w) msg) where
      abbrev pub rest : Machine C
      rest = with_packets w (taken_out f t i w.packets)

      -- a message that says so makes the recorder stand by the row
      abbrev pub IsRecorded : Row → Type 0
      IsRecorded row =
          ((v b : ℕ) × (message ≡ said.Joined v b) × records new.recorder (record w.recorded { standing = if row.lost then w.recorded.standing else row }))
          ⊎ (((v b : ℕ) → message ≡ said.Joined v b → ⊥) × records new.recorder w.recorded)

      pub is_taken : happens k.object w event ≡ service_takes rest msg
      is_taken = deliver_service k.object w f t i msg at (number_same t w.members same)

      pub step_is : taking_at_service (message_of message) (service_of world.service) ≡ taking_at_service msg w.service
      step_is =
          ap (λ m. taking_at_service (message_of m) (service_of world.service)) says ∙ ap (λ m. taking_at_service m (service_of world.service)) (message_of-said_with (contents_in k w) msg)
          ∙ ap (taking_at_service msg) comes.stands.agrees.service

      pub recorded_by : (x : Message) → msg ≡ x → IsRecorded (taking_at_service msg w.service).service.row → records new.recorder (service_takes rest x).world.recorded
      recorded_by x e (inr (other, kept)) = go x e
        where
          go : (x : Message) → msg ≡ x → records new.recorder (service_takes rest x).world.recorded
          go (NewRow row) e = kept
          go (Sync row c) e = kept
          go (Effect v j) e = kept
          go (Bridge row v c) e = kept
          go (Ack v c) e = kept
          go (Joined v b) e = absurd (other v b (says ∙ ap (said_with (contents_in k w)) e))
          go (Freeze v) e = kept
          go (Frozen v) e = kept
      recorded_by x e (inl (v, b, joined, stood)) = subst (λ y. records new.recorder (service_takes rest y).world.recorded) (sym is ∙ e) standing
        where
          is : msg ≡ Joined v b
          is = sym (message_of-said_with (contents_in k w) msg) ∙ ap message_of (sym says ∙ joined)

          standing : records new.recorder (service_takes rest (Joined v b)).world.recorded
          standing = subst (λ (r : Row). records new.recorder (record w.recorded { standing = if r.lost then w.recorded.standing else r })) (ap (λ m. (taking_at_service m w.service).service.row) is) stood

      pub service_run : (took : Took) → took_of took ≡ (taking_at_service (message_of message) (service_of world.service)).took → service_of new.service ≡ (taking_at_service (message_of message) (service_of world.service)).service
          → IsRecorded (service_of new.service).row → setup_of new ≡ setup_of world → new.members ≡ world.members → new.nodes ≡ world.nodes → new.crashed ≡ world.crashed → HasRun k records world new events event (happened.Took took)
      service_run took took_is service_is recorded setup members nodes crashed =
          quiet_run k records limits within applied shelf world events event comes new (happened.Took took)
          (ap TookMessage (took_is ∙ ap (λ (s : ServiceStep). s.took) step_is) ∙ sym (ap (λ (h : HappenedThere C). h.outcome) is_taken ∙ taken.outcome))
          (record {
            setup = setup;
            members = members;
            size = ap (λ ns. vec_len ns) nodes;
            crashed = ap (λ cs. cs.items) crashed ∙ comes.stands.agrees.crashed ∙ sym (ap (λ (u : Machine C). u.crashed) next_is ∙ taken.crashed);
            service = service ∙ sym (ap (λ (u : Machine C). u.service) next_is ∙ taken.service);
            ends = ends;
            links = lost_there left new.links lists;
            fit = fits_still left;
            recorded = subst (λ (u : Machine C). records new.recorder u.recorded) (sym next_is) (recorded_by msg refl (subst IsRecorded (ap (λ s. s.row) service) recorded));
          })
          (ap (λ ns. ns.items) nodes) (ap (λ (u : Machine C). u.nodes) next_is ∙ taken.nodes) (ap (λ (u : Machine C). u.released) next_is ∙ taken.released)
        where
          taken : IsTaken rest msg (service_takes rest msg)
          taken = service_taken rest msg

          next_is : next ≡ (service_takes rest msg).world
          next_is = ap (λ (h : HappenedThere C). h.world) is_taken

          left : next.packets ≡ taken_out f t i w.packets
          left = ap (λ (u : Machine C). u.packets) next_is ∙ taken.packets

          service : service_of new.service ≡ (taking_at_service msg w.service).service
          service = service_is ∙ ap (λ (s : ServiceStep). s.service) step_is
