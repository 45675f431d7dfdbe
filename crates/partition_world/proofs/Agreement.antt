-- What goes on as an event happens: each member's part, and each answer that waits; and the world of the code that agrees then.
use Rattle.std.proofs.Common.{◌≡◌, ◌≢◌, ℕ, ◌+◌, List, [], map, Option, Some, None, slice_get, slice_set, vec_len, Contains, refl, ap, sym, ◌∙◌, subst, ◌⊎◌, inl, inr, arith}
use Rattle.std.proofs.lemmas.List.Elements.{Contains-append_left}
use Rattle.grid_base.specs.Objects.{Object}
use Rattle.partition_table.specs.Rows.{is_primary}
use Rattle.partition_protocol.specs.Node.{Node as ProtocolNode}
use Rattle.partition_protocol.specs.History.{Called}
use Rattle.partition_protocol.specs.Sequences.{IsFrontOf}
use Rattle.partition_protocol.specs.World.{World as Machine, pair_state}
use Rattle.partition_protocol.specs.Events.{Event, happens}
use Rattle.partition_protocol.specs.Claims.{IsLawful}
use Rattle.partition_protocol.proofs.Lists.{every_from_in, get_set, set_get_same, set_get_other, set_itself}
use Rattle.partition_protocol.proofs.Invariant.{NodeAt}
use Rattle.partition_protocol.proofs.Answers.{Single}
use Rattle.partition_protocol.proofs.Extends.{extends}
use Rattle.partition_protocol.proofs.Walk.{walk}
use Rattle.partition_protocol.proofs.NamedStates.{node_known, state_after_event}
use Rattle.link_net.specs.Links.{HasLists, list_of}
use Rattle.primary_hold.specs.declared.answer.CallAnswer.{CallAnswer}
use Rattle.primary_hold.specs.Rings.{kept}
use Rattle.replica_node.specs.declared.node.Node.{Node}
use Rattle.replica_node.specs.Nodes.{node_of, waiting as node_waiting, ring_of, ends_of, Ends, IsUnchanged}
use Rattle.table_service.specs.Services.{Setup, service_of}
use Rattle.partition_world.specs.declared.world.World.{World}
use Rattle.grid_base.specs.Shelves.{Meaning}
use Rattle.partition_world.specs.Shelves.{IsShelf}
use Rattle.partition_world.specs.Answers.{held_answer}
use Rattle.partition_world.specs.InFlight.{IsRing}
use Rattle.partition_world.specs.Sending.{HasNewest, HasFit, flying}
use Rattle.partition_world.specs.Worlds.{setup_of, waiting, IsReleased, IsMember, Agrees}
use Rattle.partition_world.proofs.EffectsLead.{lawful, Stood}
use Rattle.partition_world.proofs.HeldAnswers.{IsNewlyNamed, node_answer_stays}
use Rattle.partition_world.proofs.LinkBytes.{map_same}
use Rattle.partition_world.proofs.Places.{get_map, map_set}
use Rattle.partition_world.proofs.Rings.{ring_stays}
-- the answers that wait at a node, if there is one
use Rattle.partition_protocol.specs.Recorded.{Recorded}

abbrev pub waits_in : {S : Type 0} → Option (Node S) → List CallAnswer
waits_in None = []
waits_in (Some node) = node_waiting node

pub waiting_in : {S R Plan C : Type 0} (world : World S R Plan C) (m : ℕ) → waiting world m ≡ waits_in (slice_get world.nodes.items m)
waiting_in {S = S} world m = go (slice_get world.nodes.items m) refl
  where
    go : (node : Option (Node S)) → slice_get world.nodes.items m ≡ node → waiting world m ≡ waits_in node
    go None e = rw e refl
    go (Some node) e = rw e refl

-- the same nodes have the same answers
pub same_waiting : {S R Plan C : Type 0} (old new : World S R Plan C) → new.nodes.items ≡ old.nodes.items → (m : ℕ) → waiting new m ≡ waiting old m
same_waiting old new same m = waiting_in new m ∙ ap (λ ns. waits_in (slice_get ns m)) same ∙ sym (waiting_in old m)

-- a member's number, the partition's and that of the backups never change
pub record SameGrid {C : Type 0} (w u : Machine C) : Type 0 where
  pub partition : u.partition ≡ w.partition
  pub members : u.members ≡ w.members
  pub backups : u.backups ≡ w.backups

pub same_grid : {C State : Type 0} (o : Object C State) (w : Machine C) (e : Event C) → SameGrid w (happens o w e).world
same_grid o w = walk o w (λ e u. SameGrid w u) (λ e ps. record { partition = refl; members = refl; backups = refl }) (λ e m. record { partition = refl; members = refl; backups = refl })
    (λ e s st ps. record { partition = refl; members = refl; backups = refl }) (λ e s st ps. record { partition = refl; members = refl; backups = refl })
    (λ e f t i q n j at l. record { partition = refl; members = refl; backups = refl }) (λ m conn number call now n at l p f. record { partition = refl; members = refl; backups = refl })

module _ {S R Plan C State : Type 0} (k : Meaning S C State) (records : R → Recorded C → Type 0) (limits : C → Type 0) (within : ℕ → State → Type 0) (applied : List ℕ → State → Option State) (shelf : IsShelf k limits within applied)
    (world : World S R Plan C) (w : Machine C) (stood : Stood k.object limits within w) (agrees : Agrees k records world w) where
  -- what a member knows is the protocol's node
  pub node_at : (m : ℕ) (node : Node S) → slice_get world.nodes.items m ≡ Some node → NodeAt w.nodes m (node_of node)
  node_at m node there = ap (λ ns. slice_get ns m) (sym agrees.nodes) ∙ get_map node_of world.nodes.items m node there

  -- no event, and at most one node that is another one and says the same

  pub record IsQuiet (new : World S R Plan C) : Type 0 where
    pub setup : setup_of new ≡ setup_of world
    pub members : new.members ≡ world.members
    pub size : vec_len new.nodes ≡ vec_len world.nodes
    pub crashed : new.crashed.items ≡ world.crashed.items
    pub service : service_of new.service ≡ service_of world.service
    pub ends : new.links.ends ≡ world.links.ends
    pub links : HasLists new.links (list_of world.links)
    pub recorded : records new.recorder w.recorded

  pub same_lists : (new : World S R Plan C) → HasLists new.links (list_of world.links) → HasLists new.links (flying k w)
  same_lists new links f t = links f t ∙ agrees.links f t

  pub agrees_still : (new : World S R Plan C) → IsQuiet new → new.nodes.items ≡ world.nodes.items → Agrees k records new w
  agrees_still new quiet nodes = record {
    setup = quiet.setup ∙ agrees.setup;
    members = quiet.members ∙ agrees.members;
    size = quiet.size ∙ agrees.size;
    nodes = ap (map node_of) nodes ∙ agrees.nodes;
    each = λ m node there. agrees.each m node (ap (λ ns. slice_get ns m) (sym nodes) ∙ there);
    crashed = quiet.crashed ∙ agrees.crashed;
    service = quiet.service ∙ agrees.service;
    ends = quiet.ends ∙ agrees.ends;
    links = same_lists new quiet.links;
    fit = agrees.fit;
    recorded = quiet.recorded;
    waiting = λ m answer c. agrees.waiting m answer (subst (λ rs. Contains rs answer) (same_waiting world new nodes m) c);
  }

  module _ (m : ℕ) (node kin : Node S) (there : slice_get world.nodes.items m ≡ Some node) (same : IsUnchanged k.state node kin) (ends : ends_of kin ≡ ends_of node) where
    pub kin_member : IsMember k w m kin
    kin_member =
        let was = agrees.each m node there in
        record {
          ends = ends ∙ was.ends;
          contents = same.contents ∙ was.contents ∙ ap (λ (n : ProtocolNode). pair_state k.object w n.pair) (sym same.node);
          held = ap (λ (n : ProtocolNode). map (held_answer k.object k.change_of w) n.held) same.node ∙ was.held ∙ ap (map (λ a. Some a)) (sym same.held);
          ring = λ leads. ringed (was.ring (ap (λ (n : ProtocolNode). is_primary n.known m) (sym same.node) ∙ leads));
          newest = λ leads. newest (was.newest (ap (λ (n : ProtocolNode). is_primary n.known m) (sym same.node) ∙ leads));
        }
      where
        ringed : IsRing k w (node_of node) (kept (ring_of node) (node_of node).pair.count) → IsRing k w (node_of kin) (kept (ring_of kin) (node_of kin).pair.count)
        ringed ring =
            subst (λ (n : ProtocolNode). IsRing k w n (kept (ring_of kin) n.pair.count)) (sym same.node)
            (subst (λ r. IsRing k w (node_of node) (kept r (node_of node).pair.count)) (sym same.ring) ring)

        newest : HasNewest (node_of node) (kept (ring_of node) (node_of node).pair.count) → HasNewest (node_of kin) (kept (ring_of kin) (node_of kin).pair.count)
        newest has =
            subst (λ (n : ProtocolNode). HasNewest n (kept (ring_of kin) n.pair.count)) (sym same.node)
            (subst (λ r. HasNewest (node_of node) (kept r (node_of node).pair.count)) (sym same.ring) has)

    pub kin_waiting : (new : World S R Plan C) → new.nodes.items ≡ slice_set world.nodes.items m kin → (q : ℕ) → waiting new q ≡ waiting world q
    kin_waiting new nodes q = waiting_in new q ∙ ap (λ ns. waits_in (slice_get ns q)) nodes ∙ go (numbers q m) ∙ sym (waiting_in world q)
      where
        numbers : (a b : ℕ) → (a ≡ b) ⊎ (a ≢ b)
        numbers a b = grind arith

        go : (q ≡ m) ⊎ (q ≢ m) → waits_in (slice_get (slice_set world.nodes.items m kin) q) ≡ waits_in (slice_get world.nodes.items q)
        go (inl e) =
            ap (λ j. waits_in (slice_get (slice_set world.nodes.items m kin) j)) e ∙ ap waits_in (set_get_same world.nodes.items m kin node there) ∙ same.waiting
            ∙ ap waits_in (sym there) ∙ ap (λ j. waits_in (slice_get world.nodes.items j)) (sym e)
        go (inr d) = ap waits_in (set_get_other world.nodes.items m q kin d)

    pub agrees_with_kin : (new : World S R Plan C) → IsQuiet new → new.nodes.items ≡ slice_set world.nodes.items m kin → Agrees k records new w
    agrees_with_kin new quiet nodes = record {
      setup = quiet.setup ∙ agrees.setup;
      members = quiet.members ∙ agrees.members;
      size = quiet.size ∙ agrees.size;
      nodes = ap (map node_of) nodes ∙ map_set node_of world.nodes.items m kin ∙ ap (slice_set (map node_of world.nodes.items) m) same.node ∙ unset ∙ agrees.nodes;
      each = λ q x at. each q x (get_set world.nodes.items m q kin x (ap (λ ns. slice_get ns q) (sym nodes) ∙ at));
      crashed = quiet.crashed ∙ agrees.crashed;
      service = quiet.service ∙ agrees.service;
      ends = quiet.ends ∙ agrees.ends;
      links = same_lists new quiet.links;
      fit = agrees.fit;
      recorded = quiet.recorded;
      waiting = λ q answer c. agrees.waiting q answer (subst (λ rs. Contains rs answer) (kin_waiting new nodes q) c);
    }
      where
        unset : slice_set (map node_of world.nodes.items) m (node_of node) ≡ map node_of world.nodes.items
        unset = set_itself (map node_of world.nodes.items) m (node_of node) (get_map node_of world.nodes.items m node there)

        each : (q : ℕ) (x : Node S) → ((q ≡ m) × (kin ≡ x)) ⊎ ((q ≢ m) × (slice_get world.nodes.items q ≡ Some x)) → IsMember k w q x
        each q x (inl (e, is)) = subst (λ j. IsMember k w j x) (sym e) (subst (λ y. IsMember k w m y) is kin_member)
        each q x (inr (d, at)) = agrees.each q x at

  -- an event

  module _ (event : Event C) (new_name : IsNewlyNamed w event) (single : Single w) where
    abbrev pub next : Machine C
    next = (happens k.object w event).world

    pub law : IsLawful k.object
    law = lawful k limits within applied shelf

    pub grid : SameGrid w next
    grid = same_grid k.object w event

    pub held_stay : (m : ℕ) (node : Node S) → slice_get world.nodes.items m ≡ Some node → map (held_answer k.object k.change_of next) (node_of node).held ≡ map (held_answer k.object k.change_of w) (node_of node).held
    held_stay m node there =
        map_same (held_answer k.object k.change_of next) (held_answer k.object k.change_of w) (node_of node).held
        (every_from_in (λ h. held_answer k.object k.change_of next h ≡ held_answer k.object k.change_of w h) (node_of node).held
        (λ h i. node_answer_stays k.object k.change_of w stood.good event new_name single m (node_of node) h (node_at m node there) i))

    -- a member that takes no step
    pub member_stays : (m : ℕ) (node : Node S) → slice_get world.nodes.items m ≡ Some node → IsMember k next m node
    member_stays m node there = record {
      ends = was.ends ∙ ap (λ s. let e : Ends = record { member = m; service = s } in e) (sym grid.members);
      contents = was.contents ∙ sym (state_after_event k.object w stood.good.0 stood.good.1 law (node_of node).pair (node_known k.object w stood.good.0 stood.good.1 m (node_of node) at) event);
      held = held_stay m node there ∙ was.held;
      ring = λ leads. ring_stays k limits within applied shelf w stood event m (node_of node) at leads (kept (ring_of node) (node_of node).pair.count) (was.ring leads);
      newest = was.newest;
    }
      where
        was : IsMember k w m node
        was = agrees.each m node there

        at : NodeAt w.nodes m (node_of node)
        at = node_at m node there

    pub in_front : {X : Type 0} (xs ys : List X) (x : X) → IsFrontOf xs ys → Contains xs x → Contains ys x
    in_front xs ys x front c = subst (λ zs. Contains zs x) front.1 (Contains-append_left xs front.0 x c)

    -- an answer that waits
    pub answer_stays : (answer : CallAnswer) → IsReleased w answer → IsReleased next answer
    answer_stays answer was = record {
      released = in_front w.released next.released _ longer.1 was.released;
      call = was.call;
      executed = in_front w.recorded.log next.recorded.log (Called was.call) longer.0 was.executed;
      id = was.id;
      version = was.version;
      seen = was.seen;
      reply = was.reply;
    }
      where
        longer : IsFrontOf w.recorded.log next.recorded.log × IsFrontOf w.released next.released
        longer = extends k.object w event

    -- all but the nodes is that of the next world
    pub record IsRest (new : World S R Plan C) : Type 0 where
      pub setup : setup_of new ≡ setup_of world
      pub members : new.members ≡ world.members
      pub size : vec_len new.nodes ≡ vec_len world.nodes
      pub crashed : new.crashed.items ≡ next.crashed
      pub service : service_of new.service ≡ next.service
      pub ends : new.links.ends ≡ world.links.ends
      pub links : HasLists new.links (flying k next)
      pub fit : HasFit k next
      pub recorded : records new.recorder next.recorded

    pub setup_next : (new : World S R Plan C) → setup_of new ≡ setup_of world → setup_of new ≡ record { partition = next.partition; members = next.members; backups = next.backups }
    setup_next new same =
        same ∙ agrees.setup ∙ ap (λ p. let s : Setup = record { partition = p; members = w.members; backups = w.backups } in s) (sym grid.partition)
        ∙ ap (λ m. let s : Setup = record { partition = next.partition; members = m; backups = w.backups } in s) (sym grid.members)
        ∙ ap (λ b. let s : Setup = record { partition = next.partition; members = next.members; backups = b } in s) (sym grid.backups)

    -- where no member takes a step
    pub agrees_same : (new : World S R Plan C) → IsRest new → new.nodes.items ≡ world.nodes.items → next.nodes ≡ w.nodes → Agrees k records new next
    agrees_same new rest nodes same = record {
      setup = setup_next new rest.setup;
      members = rest.members ∙ agrees.members ∙ sym grid.members;
      size = rest.size ∙ agrees.size ∙ sym grid.members;
      nodes = ap (map node_of) nodes ∙ agrees.nodes ∙ sym same;
      each = λ m node there. member_stays m node (ap (λ ns. slice_get ns m) (sym nodes) ∙ there);
      crashed = rest.crashed;
      service = rest.service;
      ends = rest.ends ∙ agrees.ends ∙ ap (λ n. n + 1) (sym grid.members);
      links = rest.links;
      fit = rest.fit;
      recorded = rest.recorded;
      waiting = λ m answer c. answer_stays answer (agrees.waiting m answer (subst (λ rs. Contains rs answer) (same_waiting world new nodes m) c));
    }

    -- and where one does
    module _ (m : ℕ) (node moved : Node S) (there : slice_get world.nodes.items m ≡ Some node) (is : IsMember k next m moved)
        (answers : (answer : CallAnswer) → Contains (node_waiting moved) answer → Contains (node_waiting node) answer ⊎ IsReleased next answer) where
      pub agrees_moved : (new : World S R Plan C) → IsRest new → new.nodes.items ≡ slice_set world.nodes.items m moved → next.nodes ≡ slice_set w.nodes m (node_of moved) → Agrees k records new next
      agrees_moved new rest nodes set = record {
        setup = setup_next new rest.setup;
        members = rest.members ∙ agrees.members ∙ sym grid.members;
        size = rest.size ∙ agrees.size ∙ sym grid.members;
        nodes = ap (map node_of) nodes ∙ map_set node_of world.nodes.items m moved ∙ ap (λ ns. slice_set ns m (node_of moved)) agrees.nodes ∙ sym set;
        each = λ q x at. each q x (get_set world.nodes.items m q moved x (ap (λ ns. slice_get ns q) (sym nodes) ∙ at));
        crashed = rest.crashed;
        service = rest.service;
        ends = rest.ends ∙ agrees.ends ∙ ap (λ n. n + 1) (sym grid.members);
        links = rest.links;
        fit = rest.fit;
        recorded = rest.recorded;
        waiting = λ q answer c. waits q answer (ap (λ ns. waits_in (slice_get ns q)) nodes) (subst (λ rs. Contains rs answer) (waiting_in new q) c);
      }
        where
          each : (q : ℕ) (x : Node S) → ((q ≡ m) × (moved ≡ x)) ⊎ ((q ≢ m) × (slice_get world.nodes.items q ≡ Some x)) → IsMember k next q x
          each q x (inl (e, same)) = subst (λ j. IsMember k next j x) (sym e) (subst (λ y. IsMember k next m y) same is)
          each q x (inr (d, at)) = member_stays q x at

          old_one : (q : ℕ) (answer : CallAnswer) → Contains (waits_in (slice_get world.nodes.items q)) answer → IsReleased next answer
          old_one q answer c = answer_stays answer (agrees.waiting q answer (subst (λ rs. Contains rs answer) (sym (waiting_in world q)) c))

          moved_one : (answer : CallAnswer) → Contains (node_waiting node) answer ⊎ IsReleased next answer → IsReleased next answer
          moved_one answer (inl c) = old_one m answer (subst (λ x. Contains (waits_in x) answer) (sym there) c)
          moved_one answer (inr r) = r

          numbers : (a b : ℕ) → (a ≡ b) ⊎ (a ≢ b)
          numbers a b = grind arith

          waits : (q : ℕ) (answer : CallAnswer) → waits_in (slice_get new.nodes.items q) ≡ waits_in (slice_get (slice_set world.nodes.items m moved) q) → Contains (waits_in (slice_get new.nodes.items q)) answer → IsReleased next answer
          waits q answer same c = go (numbers q m) (subst (λ rs. Contains rs answer) same c)
            where
              go : (q ≡ m) ⊎ (q ≢ m) → Contains (waits_in (slice_get (slice_set world.nodes.items m moved) q)) answer → IsReleased next answer
              go (inl e) c =
                  moved_one answer (answers answer (subst (λ x. Contains (waits_in x) answer) (set_get_same world.nodes.items m moved node there) (subst (λ j. Contains (waits_in (slice_get (slice_set world.nodes.items m moved) j)) answer) e c)))
              go (inr d) c = old_one q answer (subst (λ x. Contains (waits_in x) answer) (set_get_other world.nodes.items m q moved d) c)
