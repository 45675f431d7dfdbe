-- What one member knows of a partition: its row, the pair that names its contents, the acknowledgements that it took and the answers that it holds.
use Rattle.std.specs.Prelude.{ℕ, max, Bool, true, false, ◌==◌, nat_le, if◌then◌else◌, List, [], ◌∷◌, Option, Some, None}
use Rattle.std.specs.List.{list_all}
use Rattle.partition_table.specs.declared.RowMember.{RowMember}
use Rattle.partition_table.specs.declared.Row.{Row}
use Rattle.partition_table.specs.Rows.{is_in, backups_of}

-- a version, and a count of effects that goes on from version to version: the name of a state
pub record Pair : Type 0 where
  pub version : ℕ
  pub count : ℕ

-- the greatest count that a backup acknowledged
pub record Acknowledged : Type 0 where
  pub member : ℕ
  pub count : ℕ

-- an answer that waits for the backups: the call's connection and number, and the count that the call saw
pub record Held : Type 0 where
  pub conn : ℕ
  pub number : ℕ
  pub seen : ℕ

-- the version that a primary knew just before the known one, as primary, and what was acknowledged in it
pub record Earlier : Type 0 where
  pub version : ℕ
  pub acks : List Acknowledged

-- what a member knows
pub record Node : Type 0 where
  pub known : Row  -- the newest row that it has taken; of one version, the one taken first
  pub pair : Pair  -- the name of its contents
  pub opening : Bool  -- it knows the initial row, in which each member has acknowledged 0 from the start
  pub acks : List Acknowledged  -- taken in the known version, as its primary
  pub earlier : Option Earlier
  pub recent : ℕ  -- how many effects it has executed since it last became primary
  pub adopted : ℕ  -- its count as it adopted the known version, as primary
  pub frozen : Bool  -- it executes no more in the known version
  pub held : List Held  -- in order of execution

-- the pair of a member that isn't in the row: version 0, and nothing counted
abbrev pub no_pair : Pair
no_pair = record { version = 0; count = 0 }

-- the members of the initial row begin with version 1 and no effect
abbrev pub opening_pair : Row → ℕ → Pair
opening_pair row m = if is_in row m then record { version = 1; count = 0 } else no_pair

-- a member at the start, when the initial row is known to all
abbrev pub opening_node : Row → ℕ → Node
opening_node row m = record {
  known = row;
  pair = opening_pair row m;
  opening = true;
  acks = [];
  earlier = None;
  recent = 0;
  adopted = 0;
  frozen = false;
  held = [];
}

-- acknowledgements

-- what a member acknowledged, by the list
abbrev pub acked_by : ℕ → List Acknowledged → Option ℕ
acked_by m [] = None
acked_by m (a ∷ acks) = if a.member == m then Some a.count else acked_by m acks

-- one more acknowledgement: the greater count is kept
abbrev pub with_ack : ℕ → ℕ → List Acknowledged → List Acknowledged
with_ack m c [] = record { member = m; count = c } ∷ []
with_ack m c (a ∷ acks) = if a.member == m then record { member = m; count = max c a.count } ∷ acks else a ∷ with_ack m c acks

-- in the initial row nothing taken counts as 0 acknowledged
abbrev pub or_opening : Bool → Option ℕ → Option ℕ
or_opening opening (Some c) = Some c
or_opening true None = Some 0
or_opening false None = None

-- what a member has acknowledged in the known version
abbrev pub acked : Node → ℕ → Option ℕ
acked node b = or_opening node.opening (acked_by b node.acks)

-- releases

-- something was acknowledged, and it is no less than k
abbrev pub is_at_least : ℕ → Option ℕ → Bool
is_at_least k None = false
is_at_least k (Some c) = nat_le k c

-- every backup of the known row has acknowledged that count
abbrev pub is_released : Node → ℕ → Bool
is_released node k = list_all (λ (b : RowMember). is_at_least k (acked node b.member)) (backups_of node.known)

-- the held answers from the first one that isn't released
abbrev pub still_held : Node → List Held → List Held
still_held node [] = []
still_held node (h ∷ hs) = if is_released node h.seen then still_held node hs else h ∷ hs

-- the held answers before the first one that isn't released, the oldest first
abbrev pub now_released : Node → List Held → List Held
now_released node [] = []
now_released node (h ∷ hs) = if is_released node h.seen then h ∷ now_released node hs else []

-- the node after it has released what it can
abbrev pub settled : Node → Node
settled node = record node { held = still_held node node.held }
