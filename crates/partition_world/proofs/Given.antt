-- The oldest answer that waits at a member is given out, and all else stays.
use Rattle.std.proofs.Common.{◌≡◌, ◌≢◌, ℕ, ◌≤◌, List, ◌++◌, map, Option, Some, None, IfSome, slice_get, slice_set, vec_len, Contains, refl, ap, sym, ◌∙◌, subst, ◌⊎◌, inl, inr, arith}
use Rattle.std.specs.Option.{option_to_list}
use Rattle.std.proofs.lemmas.List.Elements.{Contains-append_right}
use Rattle.partition_table.specs.Rows.{is_primary}
use Rattle.partition_protocol.specs.Node.{Node as ProtocolNode}
use Rattle.partition_protocol.specs.World.{World as Machine, start, pair_state}
use Rattle.partition_protocol.specs.Events.{Event, run}
use Rattle.link_net.specs.Links.{list_of}
use Rattle.primary_hold.specs.declared.answer.CallAnswer.{CallAnswer}
use Rattle.primary_hold.specs.Rings.{kept}
use Rattle.replica_node.specs.declared.node.Node.{Node}
use Rattle.replica_node.specs.Nodes.{node_of, contents_of, waiting as node_waiting, held_answers, ring_of, ends_of}
use Rattle.table_service.specs.Services.{Setup, service_of}
use Rattle.partition_world.specs.declared.world.World.{World}
use Rattle.grid_base.specs.Shelves.{Meaning}
use Rattle.partition_world.specs.Answers.{held_answer}
use Rattle.partition_world.specs.InFlight.{IsRing}
use Rattle.partition_world.specs.Sending.{HasNewest}
use Rattle.partition_world.specs.Worlds.{setup_of, run_of, steps_of, IsReleased, IsMember, Agrees, StandsFor}
use Rattle.partition_world.proofs.Agreement.{waits_in, waiting_in}
use Rattle.partition_world.proofs.Places.{get_map, map_set, set_itself, get_set, set_get_same, set_get_other, same_or_not}
-- what a node gives out and keeps
use Rattle.partition_protocol.specs.Recorded.{Recorded}

pub record Gives {S State : Type 0} (state : S → State) (node next : Node S) (given : Option CallAnswer) : Type 0 where
  pub answers : node_waiting node ≡ option_to_list given ++ node_waiting next
  pub held : held_answers next ≡ held_answers node
  pub same : node_of next ≡ node_of node
  pub contents : state (contents_of next) ≡ state (contents_of node)
  pub ring : ring_of next ≡ ring_of node
  pub ends : ends_of next ≡ ends_of node

module _ {S R Plan C State : Type 0} (k : Meaning S C State) (records : R → Recorded C → Type 0) (limits : C → Type 0) (old : World S R Plan C) (events : List (Event C)) (stands : StandsFor k records limits old events) (m : ℕ) (node next : Node S)
    (there : slice_get old.nodes.items m ≡ Some node) (given : Option CallAnswer) (gives : Gives k.state node next given) where
  abbrev pub w : Machine C
  w = run_of k old events

  agrees : Agrees k records old w
  agrees = stands.agrees

  was_released : (answer : CallAnswer) → Contains (node_waiting node) answer → IsReleased w answer
  was_released answer c = agrees.waiting m answer (subst (λ rs. Contains rs answer) (sym (waiting_in old m ∙ ap waits_in there)) c)

  -- the answer was released
  pub given_released : IfSome given (IsReleased w)
  given_released = go given gives.answers
    where
      go : (given : Option CallAnswer) → node_waiting node ≡ option_to_list given ++ node_waiting next → IfSome given (IsReleased w)
      go None e = tt
      go (Some answer) e = was_released answer (subst (λ rs. Contains rs answer) (sym e) (0, omega arith, refl))

  is_member : IsMember k w m next
  is_member =
      let was = agrees.each m node there in
      record {
        ends = gives.ends ∙ was.ends;
        contents = gives.contents ∙ was.contents ∙ ap (λ (n : ProtocolNode). pair_state k.object w n.pair) (sym gives.same);
        held = ap (λ (n : ProtocolNode). map (held_answer k.object k.change_of w) n.held) gives.same ∙ was.held ∙ ap (map (λ a. Some a)) (sym gives.held);
        ring = λ leads. ringed (was.ring (ap (λ (n : ProtocolNode). is_primary n.known m) (sym gives.same) ∙ leads));
        newest = λ leads. newest (was.newest (ap (λ (n : ProtocolNode). is_primary n.known m) (sym gives.same) ∙ leads));
      }
    where
      ringed : IsRing k w (node_of node) (kept (ring_of node) (node_of node).pair.count) → IsRing k w (node_of next) (kept (ring_of next) (node_of next).pair.count)
      ringed ring =
          subst (λ (n : ProtocolNode). IsRing k w n (kept (ring_of next) n.pair.count)) (sym gives.same)
          (subst (λ r. IsRing k w (node_of node) (kept r (node_of node).pair.count)) (sym gives.ring) ring)

      newest : HasNewest (node_of node) (kept (ring_of node) (node_of node).pair.count) → HasNewest (node_of next) (kept (ring_of next) (node_of next).pair.count)
      newest has =
          subst (λ (n : ProtocolNode). HasNewest n (kept (ring_of next) n.pair.count)) (sym gives.same)
          (subst (λ r. HasNewest (node_of node) (kept r (node_of node).pair.count)) (sym gives.ring) has)

  module _ (new : World S R Plan C) (rest : new ≡ record old { nodes = new.nodes }) (size : vec_len new.nodes ≡ vec_len old.nodes) (nodes : new.nodes.items ≡ slice_set old.nodes.items m next) where
    new_agrees : Agrees k records new w
    new_agrees = record {
      setup = ap (λ (v : World S R Plan C). setup_of v) rest ∙ agrees.setup;
      members = ap (λ (v : World S R Plan C). v.members) rest ∙ agrees.members;
      size = size ∙ agrees.size;
      nodes = ap (map node_of) nodes ∙ map_set node_of old.nodes.items m next ∙ ap (slice_set (map node_of old.nodes.items) m) gives.same ∙ unset ∙ agrees.nodes;
      each = λ q x at. each q x (get_set old.nodes.items m q next x (ap (λ ns. slice_get ns q) (sym nodes) ∙ at));
      crashed = ap (λ (v : World S R Plan C). v.crashed.items) rest ∙ agrees.crashed;
      service = ap (λ (v : World S R Plan C). service_of v.service) rest ∙ agrees.service;
      ends = ap (λ (v : World S R Plan C). v.links.ends) rest ∙ agrees.ends;
      links = λ f t. ap (λ (v : World S R Plan C). list_of v.links f t) rest ∙ agrees.links f t;
      fit = agrees.fit;
      recorded = subst (λ (v : World S R Plan C). records v.recorder w.recorded) (sym rest) agrees.recorded;
      waiting = λ q answer c. waits q answer (subst (λ rs. Contains rs answer) (waiting_in new q ∙ ap (λ ns. waits_in (slice_get ns q)) nodes) c);
    }
      where
        unset : slice_set (map node_of old.nodes.items) m (node_of node) ≡ map node_of old.nodes.items
        unset = set_itself (map node_of old.nodes.items) m (node_of node) (get_map node_of old.nodes.items m node there)

        each : (q : ℕ) (x : Node S) → ((q ≡ m) × (next ≡ x)) ⊎ ((q ≢ m) × (slice_get old.nodes.items q ≡ Some x)) → IsMember k w q x
        each q x (inl (e, is)) = subst (λ j. IsMember k w j x) (sym e) (subst (λ y. IsMember k w m y) is is_member)
        each q x (inr (d, at)) = agrees.each q x at

        waits : (q : ℕ) (answer : CallAnswer) → Contains (waits_in (slice_get (slice_set old.nodes.items m next) q)) answer → IsReleased w answer
        waits q answer c = go (same_or_not q m) c
          where
            go : (q ≡ m) ⊎ (q ≢ m) → Contains (waits_in (slice_get (slice_set old.nodes.items m next) q)) answer → IsReleased w answer
            go (inl e) c =
                let here : Contains (waits_in (slice_get (slice_set old.nodes.items m next) m)) answer = subst (λ j. Contains (waits_in (slice_get (slice_set old.nodes.items m next) j)) answer) e c in
                let left : Contains (node_waiting next) answer = subst (λ x. Contains (waits_in x) answer) (set_get_same old.nodes.items m next node there) here in
                was_released answer (subst (λ rs. Contains rs answer) (sym gives.answers) (Contains-append_right (option_to_list given) (node_waiting next) answer left))
            go (inr d) c =
                agrees.waiting q answer (subst (λ rs. Contains rs answer) (sym (waiting_in old q)) (subst (λ x. Contains (waits_in x) answer) (set_get_other old.nodes.items m q next d) c))

    -- it is no event
    pub still_stands : StandsFor k records limits new events
    still_stands = record {
      some = subst (λ (s : Setup). 1 ≤ s.members) (sym setup) stands.some;
      most = subst (λ (s : Setup). s.members ≤ 8) (sym setup) stands.most;
      agrees = subst (λ (u : Machine C). Agrees k records new u) (sym (ap (λ (s : Setup). run k.object (start s.partition s.members s.backups) events) setup)) new_agrees;
      steps = ap (λ (v : World S R Plan C). steps_of v) rest ∙ stands.steps;
      within = stands.within;
      once = stands.once;
    }
      where
        setup : setup_of new ≡ setup_of old
        setup = ap (λ (v : World S R Plan C). setup_of v) rest
