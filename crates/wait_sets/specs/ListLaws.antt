-- The lists of a partition beside its machine of calls that wait.
use Rattle.std.specs.Prelude.{◌≡◌, ◌≢◌, ◌⊎◌, ℕ, ◌<◌, Bool, true, not, ◌==◌, List, [], ◌∷◌, ◌++◌, map, filter, length, Option, Some, None, slice_get, Contains}
use Rattle.grid_base.specs.Objects.{Object}
use Rattle.grid_base.specs.declared.TheConstants.{PARTITIONS}
use Rattle.grid_base.specs.declared.calls.Request.{Request}
use Rattle.partition_protocol.specs.Node.{Node}
use Rattle.partition_protocol.specs.Execution.{Reached, Executes}
use Rattle.partition_protocol.specs.World.{pair_state}
use Rattle.waiting_protocol.specs.Machine.{Waiting, Fate, IsRefused, Leaves, is_made, fate, stirs, Picked, pick, turn}
use Rattle.waiting_protocol.specs.Machine as machine
use Rattle.waiting_protocol.specs.Claims.{IsQuiet, IsItsTurn}
use Rattle.waiting_protocol.specs.LineClaims.{standing, is_at}
use Rattle.object_store.specs.Partitions.{Partition}
use Rattle.call_engine.specs.Calls.{Settings}
use Rattle.call_engine.specs.Objects.{partition_object}
use Rattle.replica_node.specs.Calls.{refused_as}
use Rattle.wait_sets.specs.declared.waiter.Waiter.{Waiter}
use Rattle.wait_sets.specs.WaitSets.{is_of}
use Rattle.wait_sets.specs.Laws.{meant, all_meant, grid_terms}
use Rattle.wait_sets.specs.declared.turn.Standing.{Standing}
use Rattle.wait_sets.specs.declared.turn.Standing.TheVariants.{Serves, Refuses, Gone}
use Rattle.wait_sets.specs.declared.turn.Turn.{Turn}
use Rattle.wait_sets.specs.declared.turn.Turn.TheVariants.{Call, Refusal, Silence}
use Rattle.wait_sets.specs.Lists.{place_of, list_at, with_list}
use Rattle.wait_sets.specs.Turns.{TakesTurn}

-- in the machine's words

abbrev pub standing_as : Standing → Option Reached
standing_as Serves = Some Executes
standing_as (Refuses why) = Some (refused_as why)
standing_as Gone = None

abbrev pub request_of : Turn → Request
request_of (Call request) = request
request_of (Refusal request why) = request
request_of (Silence request) = request

abbrev pub IsFate : Turn → Fate → Type 0
IsFate (Call request) f = is_made f ≡ true
IsFate (Refusal request why) f = f ≡ IsRefused (refused_as why)
IsFate (Silence request) f = f ≡ Leaves

-- The lists of a partition are those of its machine's waiters: each member's list has those who wait there, in order of arrival.
abbrev pub AreOf : ℕ → List (List Waiter) → ℕ → List (machine.Waiter Request) → Type 0
AreOf members lists p waiters = (m : ℕ) → m < members → all_meant m (list_at lists m p) ≡ filter (is_at m) waiters

-- places

-- Each member and partition has a list of its own: another list there leaves all others as they were.
abbrev pub EveryListIsItsOwn : Type 0
EveryListIsItsOwn = (m p : ℕ) (lists : List (List Waiter)) (list : List Waiter) → p < PARTITIONS → place_of m p < length lists
    → (list_at (with_list lists m p list) m p ≡ list)
    × ((n q : ℕ) → q < PARTITIONS → (n ≢ m) ⊎ (q ≢ p) → list_at (with_list lists m p list) n q ≡ list_at lists n q)

-- joining

-- A waiting call that arrives joins the list of its member and partition.
abbrev pub EveryCallJoinsItsList : Type 0
EveryCallJoinsItsList = (members m p : ℕ) (lists : List (List Waiter)) (waiters : List (machine.Waiter Request)) (waiter : Waiter) → m < members → p < PARTITIONS → place_of m p < length lists
    → AreOf members lists p waiters → AreOf members (with_list lists m p (list_at lists m p ++ waiter ∷ [])) p (waiters ++ meant m waiter ∷ [])

-- closing

-- As a connection closes its waiters leave each partition's lists, as they leave its machine.
abbrev pub EveryClosingEmptiesLists : Type 0
EveryClosingEmptiesLists = (members p conn : ℕ) (lists : List (List Waiter)) (waiters : List (machine.Waiter Request))
    → AreOf members lists p waiters → AreOf members (map (filter (λ waiter. not (is_of conn waiter))) lists) p (filter (λ (x : machine.Waiter Request). not (x.conn == conn)) waiters)

-- turns

-- a member of the partition would do so with a call, and has this of the partition
pub record StandsSo (settings : Settings) (j : Waiting Request) (m : ℕ) (stands : Standing) (s : Partition) : Type 0 where
  pub does : standing_as stands ≡ standing j.world m
  pub has : (node : Node) → slice_get j.world.nodes m ≡ Some node → s ≡ pair_state (partition_object settings) j.world node.pair

-- Nobody left, or this call left so: the one that was picked, and the others stay in their order.
abbrev pub LeavesAsPicked : (machine.Waiter Request → Fate) → ℕ → Option (Picked Request) → List Waiter → Option Turn → List Waiter → Type 0
LeavesAsPicked becomes m None old None new = new ≡ old
LeavesAsPicked becomes m (Some picked) old (Some it) new = (picked.one.call ≡ request_of it) × IsFate it (becomes picked.one) × (all_meant m new ≡ picked.front ++ picked.back)
LeavesAsPicked becomes m None old (Some it) new = ⊥
LeavesAsPicked becomes m (Some picked) old None new = ⊥

-- The turn in a member's list is that of the first there with which the machine has something to do: nobody's where there is none, and else this call leaves as the machine says. Whichever calls find no memory.
abbrev pub EveryTurnIsItsLists : Settings → Type 0
EveryTurnIsItsLists settings = (starves : machine.Waiter Request → Bool) (j : Waiting Request) (m : ℕ) (stands : Standing) (s : Partition) (old : List Waiter) (it : Option Turn) (new : List Waiter)
    → let o = partition_object settings in
    let t = grid_terms starves in
    StandsSo settings j m stands s → TakesTurn settings s (j.clock m) stands old it new → LeavesAsPicked (fate o t j) m (pick (stirs o t j) (all_meant m old)) old it new

-- where a list's turn is that of the partition: only at one member is anything to be done, which stands so
pub record IsInTurn (settings : Settings) (starves : machine.Waiter Request → Bool) (j : Waiting Request) (members m p : ℕ) (stands : Standing) (s : Partition) (lists : List (List Waiter)) : Type 0 where
  pub member : m < members
  pub partition : p < PARTITIONS
  pub there : place_of m p < length lists
  pub listed : AreOf members lists p j.waiters
  pub does : StandsSo settings j m stands s
  pub only : (y : machine.Waiter Request) → Contains j.waiters y → stirs (partition_object settings) (grid_terms starves) j y ≡ true → y.member ≡ m

-- It is the machine's turn: nobody's, or this call leaves so; and the lists are then those of the waiters that are left.
abbrev pub IsTheMachines : {State : Type 0} → Object Request State → (machine.Waiter Request → Bool) → Waiting Request → Option Turn → Type 0
IsTheMachines o starves j None = IsQuiet o (grid_terms starves) j
IsTheMachines o starves j (Some it) = (x : machine.Waiter Request) × IsItsTurn o (grid_terms starves) j x × (x.call ≡ request_of it) × IsFate it (fate o (grid_terms starves) j x)

-- Whichever calls find no memory.
abbrev pub EveryTurnIsItsPartitions : Settings → Type 0
EveryTurnIsItsPartitions settings = (starves : machine.Waiter Request → Bool) (j : Waiting Request) (members m p : ℕ) (stands : Standing) (s : Partition) (lists : List (List Waiter)) (it : Option Turn) (new : List Waiter)
    → let o = partition_object settings in
    IsInTurn settings starves j members m p stands s lists → TakesTurn settings s (j.clock m) stands (list_at lists m p) it new
    → IsTheMachines o starves j it × AreOf members (with_list lists m p new) p (turn o (grid_terms starves) j).waiters
