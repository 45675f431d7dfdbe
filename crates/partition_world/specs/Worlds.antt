-- The world of the code stands for the protocol's run of a list of events.
use Rattle.std.specs.Prelude.{◌≡◌, ℕ, ◌+◌, ◌<◌, ◌≤◌, ◌^◌, true, List, [], ◌∷◌, ◌++◌, map, length, Option, Some, option_map, slice_get, vec_len, Contains, All}
use Rattle.std.specs.Option.{option_and_then}
use Rattle.partition_table.specs.Rows.{is_primary}
use Rattle.partition_protocol.specs.History.{Executed, Called}
use Rattle.partition_protocol.specs.Recorded.{Recorded}
use Rattle.partition_protocol.specs.World.{World as Machine, map_or, start, pair_state}
use Rattle.partition_protocol.specs.Events.{Event, Happened as HappenedThere, happens, run}
use Rattle.partition_protocol.specs.Arrivals.{NamedOnce, arrivals, name}
use Rattle.link_net.specs.Links.{HasLists}
use Rattle.primary_hold.specs.declared.answer.CallAnswer.{CallAnswer}
use Rattle.primary_hold.specs.Rings.{kept}
use Rattle.replica_node.specs.declared.node.Node.{Node}
use Rattle.partition_protocol.specs.Node.{Pair}
use Rattle.replica_node.specs.Nodes.{node_of, contents_of, waiting as node_waiting, held_answers, ring_of, ends_of}
use Rattle.table_service.specs.Services.{Setup, service_of, setup_of as service_setup}
use Rattle.partition_world.specs.declared.world.World.{World}
use Rattle.partition_world.specs.declared.event.Happened.{Happened}
use Rattle.grid_base.specs.Shelves.{Meaning}
use Rattle.partition_world.specs.Events.{EventWithin, happened_of}
use Rattle.partition_world.specs.Answers.{held_answer, released_at}
use Rattle.partition_world.specs.InFlight.{IsRing}
use Rattle.partition_world.specs.Sending.{HasNewest, HasFit, flying}

-- what a world is made for, and keeps: the partition, its members, and how many backups a row has at most

abbrev pub setup_of : {S R Plan C : Type 0} → World S R Plan C → Setup
setup_of world = service_setup world.service

-- how many events were run
abbrev pub steps_of : {S R Plan C : Type 0} → World S R Plan C → ℕ
steps_of world = world.steps

-- how many nodes it has: one of each member
abbrev pub node_count : {S R Plan C : Type 0} → World S R Plan C → ℕ
node_count world = vec_len world.nodes

-- the answers that were released at a member and weren't given out yet, the oldest first
abbrev pub waiting : {S R Plan C : Type 0} → World S R Plan C → ℕ → List CallAnswer
waiting {S = S} world member = map_or (slice_get world.nodes.items member) [] (λ (node : Node S). node_waiting node)

-- The answer was released, and is that of a call in the log
pub record IsReleased {C : Type 0} (w : Machine C) (answer : CallAnswer) : Type 0 where
  pub released : Contains w.released (record { conn = answer.id.conn; number = answer.id.number; seen = answer.seen })
  pub call : Executed C
  pub executed : Contains w.recorded.log (Called call)
  pub id : answer.id ≡ record { conn = call.conn; number = call.number }
  pub version : answer.version ≡ call.version
  pub seen : answer.seen ≡ call.seen
  pub reply : answer.reply ≡ call.reply

-- Member m's part is right
pub record IsMember {S C State : Type 0} (k : Meaning S C State) (w : Machine C) (m : ℕ) (node : Node S) : Type 0 where
  pub ends : ends_of node ≡ record { member = m; service = w.members }
  -- its contents are the state that its pair names
  pub contents : k.state (contents_of node) ≡ pair_state k.object w (node_of node).pair
  -- each answer that it holds is that of the call
  pub held : map (held_answer k.object k.change_of w) (node_of node).held ≡ map (λ a. Some a) (held_answers node)
  -- a primary keeps its newest effects, and no others
  pub ring : is_primary (node_of node).known m ≡ true → IsRing k w (node_of node) (kept (ring_of node) (node_of node).pair.count)
  pub newest : is_primary (node_of node).known m ≡ true → HasNewest (node_of node) (kept (ring_of node) (node_of node).pair.count)

-- The code has what the protocol has, with the contents that the protocol only names
pub record Agrees {S R Plan C State : Type 0} (k : Meaning S C State) (records : R → Recorded C → Type 0) (world : World S R Plan C) (w : Machine C) : Type 0 where
  pub setup : setup_of world ≡ record { partition = w.partition; members = w.members; backups = w.backups }
  pub members : world.members ≡ w.members
  pub size : vec_len world.nodes ≡ w.members
  pub nodes : map node_of world.nodes.items ≡ w.nodes
  pub each : (m : ℕ) (node : Node S) → slice_get world.nodes.items m ≡ Some node → IsMember k w m node
  pub crashed : world.crashed.items ≡ w.crashed
  pub service : service_of world.service ≡ w.service
  pub ends : world.links.ends ≡ w.members + 1
  -- the messages on each link are the bytes of those in flight there, whose lengths fit
  pub links : HasLists world.links (flying k w)
  pub fit : HasFit k w
  pub recorded : records world.recorder w.recorded
  pub waiting : (m : ℕ) (answer : CallAnswer) → Contains (waiting world m) answer → IsReleased w answer

-- the protocol's world after these events
abbrev pub run_of : {S R Plan C State : Type 0} → Meaning S C State → World S R Plan C → List (Event C) → Machine C
run_of k world events = let s = setup_of world in run k.object (start s.partition s.members s.backups) events

-- The world is that of these events, where the shelves have this meaning, no call broke its limits, and no two have one name
pub record StandsFor {S R Plan C State : Type 0} (k : Meaning S C State) (records : R → Recorded C → Type 0) (limits : C → Type 0) (world : World S R Plan C) (events : List (Event C)) : Type 0 where
  pub some : 1 ≤ (setup_of world).members
  pub most : (setup_of world).members ≤ 8
  pub agrees : Agrees k records world (run_of k world events)
  pub steps : steps_of world ≡ length events
  pub within : All (EventWithin limits) events
  pub once : NamedOnce (map name (arrivals events))

-- An event may come next: there were not too many, its call keeps to the limits and has a name of its own
pub record MayCome {C : Type 0} (limits : C → Type 0) (events : List (Event C)) (event : Event C) : Type 0 where
  pub room : length events + 2 < 2 ^ 32
  pub within : EventWithin limits event
  pub once : NamedOnce (map name (arrivals (events ++ event ∷ [])))

-- the world is that of these events, and this one may come next
pub record Comes {S R Plan C State : Type 0} (k : Meaning S C State) (records : R → Recorded C → Type 0) (limits : C → Type 0) (world : World S R Plan C) (events : List (Event C)) (event : Event C) : Type 0 where
  pub stands : StandsFor k records limits world events
  pub may : MayCome limits events event

-- what an event does after these
abbrev pub next_of : {S R Plan C State : Type 0} → Meaning S C State → World S R Plan C → List (Event C) → Event C → HappenedThere C
next_of k world events event = happens k.object (run_of k world events) event

-- The event has run: its outcome is the protocol's, and what it released comes last among what waits
pub record HasRun {S R Plan C State : Type 0} (k : Meaning S C State) (records : R → Recorded C → Type 0) (old new : World S R Plan C) (events : List (Event C)) (event : Event C) (happened : Happened) : Type 0 where
  pub outcome : happened_of happened ≡ (next_of k old events event).outcome
  pub agrees : Agrees k records new (next_of k old events event).world
  pub waits : (m : ℕ) → waiting new m ≡ waiting old m ++ released_at k.object k.change_of (run_of k old events) event m

-- It has not run, and nothing that can be told has changed
pub record IsKept {S R Plan C State : Type 0} (k : Meaning S C State) (records : R → Recorded C → Type 0) (old new : World S R Plan C) (events : List (Event C)) : Type 0 where
  pub agrees : Agrees k records new (run_of k old events)
  pub waits : (m : ℕ) → waiting new m ≡ waiting old m

-- what the world was made for stays, and the number of its steps is counted elsewhere
pub record KeepsSetup {S R Plan C : Type 0} (old new : World S R Plan C) : Type 0 where
  pub setup : setup_of new ≡ setup_of old
  pub steps : steps_of new ≡ steps_of old

-- the pair of a member's contents
abbrev pub pair_of_member : {S R Plan C : Type 0} → World S R Plan C → ℕ → Option Pair
pair_of_member {S = S} world m = option_map (λ (node : Node S). (node_of node).pair) (slice_get world.nodes.items m)

-- and that of the member that leads, if there is one
abbrev pub leading_pair : {S R Plan C : Type 0} → World S R Plan C → Option ℕ → Option Pair
leading_pair world leader = option_and_then (pair_of_member world) leader
