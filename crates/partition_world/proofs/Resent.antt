-- A primary sends again what may have been lost: its node stays, and the messages come last on its links.
use Rattle.std.proofs.Common.{◌≡◌, ℕ, ◌+◌, ◌<◌, ◌≤◌, true, false, cond, not, ◌==◌, nat_lt, List, [], ◌∷◌, ◌++◌, map, length, get_or, Option, Some, slice_get, All, refl, ap, sym, ◌∙◌, subst, ◌⊎◌, inl, inr, arith}
use Rattle.std.proofs.lemmas.List.{length-map}
use Rattle.grid_base.specs.Objects.{Object, IsSmall}
use Rattle.partition_table.specs.Rows.{is_primary}
use Rattle.partition_protocol.specs.Messages.{Sent}
use Rattle.partition_protocol.specs.Node.{Node as ProtocolNode}
use Rattle.partition_protocol.specs.Replica.{sent_again}
use Rattle.partition_protocol.specs.World.{World as Machine, is_live}
use Rattle.partition_protocol.specs.Links.{with_packets, packets_from}
use Rattle.partition_protocol.specs.Events.{Event, Happened as HappenedThere, NothingDone, Done, Resend, nothing, done, happens}
use Rattle.partition_protocol.specs.Claims.{IsLawful}
use Rattle.partition_protocol.specs.WellFormed.{IsWellFormed}
use Rattle.partition_protocol.proofs.Lists.{In, in_right, contains_in, Every, every_from_in}
use Rattle.partition_protocol.proofs.Invariant.{NodeAt}
use Rattle.partition_protocol.proofs.RowFacts.{both_left, less, number_other, in_map}
use Rattle.partition_protocol.proofs.WellFormed.{every_run_is_well_formed}
use Rattle.partition_protocol.proofs.EventFacts.{run_next}
use Rattle.partition_protocol.proofs.LinkFacts.{packet, messages_to}
use Rattle.member_wire.specs.Said.{Contents, said_with, written}
use Rattle.member_wire.specs.Spelling.{LengthsFit}
use Rattle.link_net.specs.Links.{Net, HasLists, HasRoom, list_of, spare_of, sent_to, with_sent}
use Rattle.primary_hold.specs.Rings.{kept}
use Rattle.replica_node.specs.declared.node.Node.{Node}
use Rattle.replica_node.specs.Nodes.{node_of, contents_of, member_of, service_of, ring_of, carried_by, Ends}
use Rattle.replica_node.specs.Sending.{Fits, Sends}
use Rattle.partition_world.specs.declared.world.World.{World}
use Rattle.partition_world.specs.declared.event.Happened.TheVariants as happened
use Rattle.grid_base.specs.Shelves.{Meaning}
use Rattle.partition_world.specs.Shelves.{IsShelf}
use Rattle.partition_world.specs.Sending.{IsNamed, flying}
use Rattle.partition_world.specs.Worlds.{setup_of, run_of, IsMember, Comes, HasRun}
use Rattle.partition_world.proofs.Comings as comings
use Rattle.partition_world.proofs.Agreement.{node_at}
use Rattle.partition_world.proofs.EffectsLead.{lawful, Stood}
use Rattle.partition_world.proofs.EventSends.{resend_live, again_named, again_few_to}
use Rattle.partition_world.proofs.FewOnLinks.{count_to}
use Rattle.partition_world.proofs.LinkBytes as bytes
use Rattle.partition_world.proofs.Places.{stands_there}
use Rattle.partition_world.proofs.Quiet as quiet
use Rattle.partition_world.proofs.SmallStates.{every_of_all}
use Rattle.partition_world.proofs.Taking.{member_apart}
-- nothing goes to an end past all to which something goes
use Rattle.partition_protocol.specs.Recorded.{Recorded}

pub none_past : (h n : ℕ) (ss : List Sent) → n < h → Every (λ (s : Sent). s.to ≤ n) ss → count_to h ss ≡ 0
none_past h n [] l every = refl
none_past h n (s ∷ ss) l every =
    let other : (s.to == h) ≡ false = number_other s.to h (λ e. (let near = every.0 in absurd (omega (arith, near, l, e)))) in
    ap (λ b. length (cond b (s.message ∷ messages_to h ss) (messages_to h ss))) other ∙ none_past h n ss l every.1

-- a live member that isn't primary sends nothing again
pub resend_other : {C State : Type 0} (o : Object C State) (w : Machine C) (m : ℕ) (node : ProtocolNode) → is_live w m ≡ true → NodeAt w.nodes m node → is_primary node.known m ≡ false → happens o w (Resend m) ≡ nothing w
resend_other o w m node lives there follows = let apart = member_apart w m lives in rw (apart, lives, there, follows) refl

module _ {S R Plan C State : Type 0} (k : Meaning S C State) (records : R → Recorded C → Type 0) (limits : C → Type 0) (within : ℕ → State → Type 0) (applied : List ℕ → State → Option State) (shelf : IsShelf k limits within applied)
    (world : World S R Plan C) (events : List (Event C)) (m : ℕ) (comes : Comes k records limits world events (Resend m)) (lives : is_live (run_of k world events) m ≡ true)
    (place : ℕ) (node : Node S) (at_place : place ≡ m) (read : node ≡ get_or world.nodes.items place node) where
  abbrev pub w : Machine C
  w = run_of k world events

  abbrev pub next : Machine C
  next = (happens k.object w (Resend m)).world

  -- with other links
  abbrev pub over : Net → World S R Plan C
  over net = record world { links = net }

  law : IsLawful k.object
  law = lawful k limits within applied shelf

  stood : Stood k.object limits within w
  stood = comings.stood k records limits within applied shelf world events (Resend m) comes

  stood_next : Stood k.object limits within next
  stood_next = comings.stood_next k records limits within applied shelf world events (Resend m) comes

  formed : IsWellFormed (setup_of world).partition (setup_of world).members (setup_of world).backups w
  formed = comings.formed k records limits within applied shelf world events (Resend m) comes

  below : m < w.members
  below = less m w.members (both_left (nat_lt m w.members) (not _) lives)

  there : slice_get world.nodes.items m ≡ Some node
  there =
      let same = sym (length-map world.nodes.items node_of) ∙ ap (λ ns. length ns) comes.stands.agrees.nodes ∙ formed.nodes ∙ sym formed.same_members in
      stands_there world.nodes.items m place node at_place (let l = below in omega (arith, same, l)) read

  at : NodeAt w.nodes m (node_of node)
  at = node_at k records limits within applied shelf world w stood comes.stands.agrees m node there

  is : IsMember k w m node
  is = comes.stands.agrees.each m node there

  member_is : member_of node ≡ m
  member_is = ap (λ (e : Ends). e.member) is.ends

  service_is : service_of node ≡ w.members
  service_is = ap (λ (e : Ends). e.service) is.ends

  -- its contents are small
  pub small : IsSmall within (k.state (contents_of node))
  small = subst (IsSmall within) (sym is.contents) (stood.small (node_of node).pair)

  pub not_resent : is_primary (node_of node).known (member_of node) ≡ false → (net : Net) → net.ends ≡ world.links.ends → HasLists net (list_of world.links) → HasRun k records world (over net) events (Resend m) happened.Nothing
  not_resent follows net ends lists =
      quiet.unmoved k records limits within applied shelf world events (Resend m) comes NothingDone
      (resend_other k.object w m (node_of node) lives at (ap (λ j. is_primary (node_of node).known j) (sym member_is) ∙ follows)) (over net) happened.Nothing refl
      (record { setup = refl; members = refl; size = refl; crashed = refl; service = refl; ends = ends; links = lists; recorded = comes.stands.agrees.recorded }) refl

  -- what the node sends again
  module _ (leads_here : is_primary (node_of node).known (member_of node) ≡ true) (items out : List (ℕ × List ℕ)) (same : items ≡ out)
      (sent : Sends (carried_by k.snapshot_of k.state node) (sent_again (service_of node) (node_of node)) [] out) where
    abbrev pub contents : Contents
    contents = carried_by k.snapshot_of k.state node

    abbrev pub again : List Sent
    again = sent_again w.members (node_of node)

    leads : is_primary (node_of node).known m ≡ true
    leads = ap (λ j. is_primary (node_of node).known j) (sym member_is) ∙ leads_here

    said : sent_again (service_of node) (node_of node) ≡ again
    said = ap (λ j. sent_again j (node_of node)) service_is

    wrote : items ≡ map (written contents) again
    wrote = same ∙ sent.out ∙ ap (map (written contents)) said

    so : happens k.object w (Resend m) ≡ done (with_packets w (w.packets ++ packets_from m again))
    so = resend_live k.object w m (node_of node) lives at leads

    packets : next.packets ≡ w.packets ++ packets_from m again
    packets = ap (λ (h : HappenedThere C). h.world.packets) so

    formed_next : IsWellFormed (setup_of world).partition (setup_of world).members (setup_of world).backups next
    formed_next =
        subst (λ (u : Machine C). IsWellFormed (setup_of world).partition (setup_of world).members (setup_of world).backups u) (run_next k.object _ events (Resend m))
        (every_run_is_well_formed k.object (setup_of world).partition (setup_of world).members (setup_of world).backups (events ++ Resend m ∷ []))

    near : Every (λ (s : Sent). s.to ≤ (setup_of world).members) again
    near =
        every_from_in (λ (s : Sent). s.to ≤ (setup_of world).members) again
        (λ s i. (formed_next.packets (packet m s.to s.message)
        (contains_in (packet m s.to s.message) next.packets
        (subst (In (packet m s.to s.message)) (sym packets) (in_right (packet m s.to s.message) w.packets (packets_from m again) (in_map (λ (s : Sent). packet m s.to s.message) again s i))))).to)

    -- there is room for it
    pub room : (net : Net) → net.ends ≡ world.links.ends → HasRoom net m 65 → (h : ℕ) → length (sent_to h items) ≤ spare_of net m h
    room net ends has h =
        subst (λ n. n ≤ spare_of net m h) (sym (ap (λ ms. length (sent_to h ms)) wrote ∙ bytes.sent_count contents h again)) (go (numbers h (setup_of world).members))
      where
        numbers : (a b : ℕ) → (a ≤ b) ⊎ (b < a)
        numbers a b = grind arith

        ends_are : net.ends ≡ w.members + 1
        ends_are = ends ∙ comes.stands.agrees.ends

        go : (h ≤ (setup_of world).members) ⊎ ((setup_of world).members < h) → count_to h again ≤ spare_of net m h
        go (inl l) =
            let most = comes.stands.most in
            let grid = formed.same_members in
            let few = again_few_to k limits within applied shelf w stood m (node_of node) lives at leads h (omega (arith, most, grid)) in
            let inside = below in
            let count = ends_are in
            let spare = has h (omega (arith, inside, count)) (omega (arith, l, grid, count)) in
            omega (arith, few, spare)
        go (inr l) = let none = none_past h (setup_of world).members again l near in omega (arith, none)

    named : Every (IsNamed k next contents) again
    named =
        again_named k limits within applied shelf w stood m (node_of node) lives at leads stood_next (kept (ring_of node) (node_of node).pair.count) (is.ring leads) (is.newest leads) (k.state (contents_of node)) is.contents

    pub resent : (reserved net : Net) → HasLists reserved (list_of world.links) → net.ends ≡ world.links.ends
        → HasLists net (with_sent m items (list_of reserved)) → HasRun k records world (over net) events (Resend m) happened.Done
    resent reserved net kept_lists ends lists =
        quiet.packets_run k records limits within applied shelf world events (Resend m) comes (w.packets ++ packets_from m again) Done so (over net) happened.Done refl refl refl refl refl refl ends comes.stands.agrees.recorded flown
        (bytes.fits_next k law w stood.good stood.led (Resend m) comes.stands.agrees.fit w.packets m contents again (λ p j. j) packets named
        (every_of_all (λ (s : Sent). LengthsFit (said_with contents s.message)) again (subst (All (Fits contents)) said sent.fits)))
        refl
      where
        flown : HasLists net (flying k next)
        flown g h =
            lists g h ∙ ap (λ xs. xs ++ cond (g == m) (sent_to h items) []) (kept_lists g h ∙ comes.stands.agrees.links g h)
            ∙ ap (λ ms. flying k w g h ++ cond (g == m) (sent_to h ms) []) wrote ∙ sym (bytes.sent_lists k law w stood.good stood.led (Resend m) m contents again packets named g h)
