-- A set beside the machine of calls that wait, and what is known of a set from one look to the next.
use Rattle.std.specs.Prelude.{◌≡◌, ℕ, Bool, true, not, ◌==◌, List, [], ◌∷◌, ◌++◌, length, take, map, filter, position, remove, Option, Some, None, slice_get, if◌then◌else◌}
use Rattle.grid_base.specs.declared.calls.Request.{Request}
use Rattle.partition_protocol.specs.Node.{Node}
use Rattle.partition_protocol.specs.Execution.{Executes, reached}
use Rattle.partition_protocol.specs.World.{is_live, pair_state}
use Rattle.waiting_protocol.specs.Machine.{Waiting, Terms, Picked, stirs, pick}
use Rattle.waiting_protocol.specs.Machine as machine
use Rattle.object_store.specs.Partitions.{Partition}
use Rattle.call_engine.specs.Calls.{Settings}
use Rattle.call_engine.specs.Objects.{partition_object}
use Rattle.call_engine.specs.Readiness.{is_wished_reply}
use Rattle.wait_sets.specs.declared.waiter.Waiter.{Waiter}
use Rattle.wait_sets.specs.WaitSets.{is_its_turn, NoneIsDue, is_of}

-- beside the machine

-- the machine's waiter that one in a set of that member is
abbrev pub meant : ℕ → Waiter → machine.Waiter Request
meant member waiter = record { member = member; conn = waiter.request.id.conn; number = waiter.request.id.number; call = waiter.request; deadline = waiter.deadline }

abbrev pub all_meant : ℕ → List Waiter → List (machine.Waiter Request)
all_meant member waiters = map (meant member) waiters

-- What the machine goes by in a grid: the replies that calls wish, and whichever waiting calls find no memory.
abbrev pub grid_terms : (machine.Waiter Request → Bool) → Terms Request
grid_terms starves = record { wished = is_wished_reply; starves = starves }

-- that place is the picked one's, and what is left without it is what stands before and after the picked one
abbrev pub IsPlaceOf : {C : Type 0} → List (machine.Waiter C) → Option (Picked C) → Option ℕ → Type 0
IsPlaceOf xs None None = Unit {0}
IsPlaceOf xs None (Some place) = ⊥
IsPlaceOf xs (Some picked) None = ⊥
IsPlaceOf xs (Some picked) (Some place) = (slice_get xs place ≡ Some picked.one) × (remove xs place ≡ picked.front ++ picked.back)

-- At a live member that serves, the first of a set that is ready or due by what the member has of the partition is the first with which the machine has something to do
abbrev pub EveryNextIsItsTurn : Settings → Type 0
EveryNextIsItsTurn settings = (starves : machine.Waiter Request → Bool) (j : Waiting Request) (member : ℕ) (node : Node) (waiters : List Waiter)
    → is_live j.world member ≡ true → slice_get j.world.nodes member ≡ Some node → reached member node ≡ Executes
    → let o = partition_object settings in
    IsPlaceOf (all_meant member waiters) (pick (stirs o (grid_terms starves) j) (all_meant member waiters)) (position (is_its_turn settings (pair_state o j.world node.pair) (j.clock member)) waiters)

-- as a connection closes, a set keeps whom the machine keeps
abbrev pub EveryClosingIsAlike : Type 0
EveryClosingIsAlike = (member conn : ℕ) (waiters : List Waiter)
    → all_meant member (filter (λ waiter. not (is_of conn waiter)) waiters) ≡ filter (λ (x : machine.Waiter Request). not (x.conn == conn)) (all_meant member waiters)

-- from one look to the next

-- Where it was nobody's turn, a newcomer is looked at alone
abbrev pub NewcomerAlone : Settings → Partition → ℕ → List Waiter → Waiter → Type 0
NewcomerAlone settings s now waiters newcomer = let turn = is_its_turn settings s now in
    position turn waiters ≡ None → position turn (waiters ++ newcomer ∷ []) ≡ (if turn newcomer then Some (length waiters) else None)

-- At one moment nobody is due where it was nobody's turn, nor before the one whose turn it was, once that one has left
abbrev pub StayUndue : ℕ → List Waiter → Option ℕ → Type 0
StayUndue now waiters None = NoneIsDue now waiters
StayUndue now waiters (Some place) = NoneIsDue now (take place (remove waiters place))
