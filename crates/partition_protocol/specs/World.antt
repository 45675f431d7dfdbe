-- A partition with its members, its messages in flight and its table service; and the history that it stands by.
use Rattle.std.specs.Prelude.{ℕ, Bool, not, ◌&&◌, nat_lt, if◌then◌else◌, List, [], ◌∷◌, ◌++◌, map, Option, Some, None, slice_get, slice_set}
use Rattle.grid_base.specs.Objects.{Object}
use Rattle.partition_table.specs.Rows.{initial_row, first_of, is_among, is_primary}
use Rattle.partition_protocol.specs.Messages.{Packet}
use Rattle.partition_protocol.specs.Node.{Node, Pair, Held, opening_node, settled, now_released, no_pair}
use Rattle.partition_protocol.specs.Adoption.{is_before_reset}
use Rattle.partition_protocol.specs.Replica.{is_newer}
use Rattle.partition_protocol.specs.Service.{Service, NoMove, numbers_below}
use Rattle.partition_protocol.specs.History.{Entry, Base, history, state_after, opening_at}
use Rattle.partition_protocol.specs.Recorded.{Recorded}

-- a partition as a whole
pub record World (C : Type 0) : Type 0 where
  pub partition : ℕ
  pub members : ℕ
  pub backups : ℕ  -- how many a row has at most
  pub nodes : List Node  -- one of each member
  pub crashed : List ℕ
  pub packets : List Packet  -- in flight, in the order in which they were sent
  pub service : Service
  pub released : List Held  -- the answers that were given, in order
  pub recorded : Recorded C

-- what f gives of the value, and d where there is none
abbrev pub map_or : {X Y : Type 0} → Option X → Y → (X → Y) → Y
map_or None d f = d
map_or (Some x) d f = f x

-- all members know the initial row, and its primary begins version 1 with nothing
abbrev pub start : {C : Type 0} → ℕ → ℕ → ℕ → World C
start partition members backups =
    let row = initial_row partition members backups in record {
      partition = partition;
      members = members;
      backups = backups;
      nodes = map (opening_node row) (numbers_below members);
      crashed = [];
      packets = [];
      service = record { row = row; move = NoMove; detected = [] };
      released = [];
      recorded = record { standing = row; log = []; bases = record { version = 1; reset = 0; pair = no_pair } ∷ []; openings = [] };
    }

-- a member that hasn't crashed
abbrev pub is_live : {C : Type 0} → World C → ℕ → Bool
is_live w m = nat_lt m w.members && not (is_among w.crashed m)

-- histories

-- the history that a pair names, by what is recorded
abbrev pub pair_history : {C : Type 0} → World C → Pair → List (Entry C)
pair_history w p = history w.recorded.openings w.recorded.log w.recorded.bases p

-- the contents that a pair names
abbrev pub pair_state : {C State : Type 0} → Object C State → World C → Pair → State
pair_state o w p = state_after o o.empty (pair_history w p)

-- what a member has in rows with that reset: until it has adopted one of them, the history at the reopening
abbrev pub history_since : {C : Type 0} → World C → ℕ → Pair → List (Entry C)
history_since w r p = if nat_lt p.version r then opening_at r w.recorded.openings else pair_history w p

-- the history of that member, in rows with the standing reset
abbrev pub trail_at : {C : Type 0} → World C → Option ℕ → List (Entry C)
trail_at w None = []
trail_at w (Some m) = map_or (slice_get w.nodes m) [] (λ (node : Node). history_since w w.recorded.standing.reset node.pair)

-- the history that the partition stands by: that of the first member of the newest row that isn't lost
abbrev pub trail : {C : Type 0} → World C → List (Entry C)
trail w = trail_at w (first_of w.recorded.standing.members)

-- a node's next state

-- a newer row that a node adopts as its primary makes a base: the pair that it had, after any emptying
abbrev pub bases_after : ℕ → Node → Node → List Base → List Base
bases_after m before after bases =
    if is_newer after.known before && is_primary after.known m
    then record { version = after.known.version; reset = after.known.reset; pair = if is_before_reset after.known before then no_pair else before.pair } ∷ bases
    else bases

-- the base is recorded
abbrev pub with_base : {C : Type 0} → World C → ℕ → Node → Node → World C
with_base w m before after = record w { recorded = record w.recorded { bases = bases_after m before after w.recorded.bases } }

-- the node releases what it can at once
abbrev pub with_node : {C : Type 0} → World C → ℕ → Node → World C
with_node w m node = record w { nodes = slice_set w.nodes m (settled node); released = w.released ++ now_released node node.held }

-- a call that was executed is recorded
abbrev pub with_entry : {C : Type 0} → World C → Entry C → World C
with_entry w x = record w { recorded = record w.recorded { log = w.recorded.log ++ x ∷ [] } }

-- the service's next state. A lost row isn't one to stand by
abbrev pub with_service : {C : Type 0} → World C → Service → World C
with_service w s = record w { service = s; recorded = record w.recorded { standing = if s.row.lost then w.recorded.standing else s.row } }
