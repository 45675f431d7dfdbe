-- A member adopts a newer row: as its primary, as a backup or as one that isn't in it.
use Rattle.std.specs.Prelude.{ℕ, Bool, false, not, ◌&&◌, nat_lt, if◌then◌else◌, List, [], Some, None}
use Rattle.std.specs.List.{flat_map}
use Rattle.partition_table.specs.declared.Row.{Row}
use Rattle.partition_table.specs.Rows.{is_primary, is_backup, backups_of}
use Rattle.partition_protocol.specs.Messages.{Sent}
use Rattle.partition_protocol.specs.Node.{Pair, Held, Node, no_pair}
use Rattle.partition_protocol.specs.CatchUp.{catch_up}

-- its contents are of a version before the row's reset, so it drops them
abbrev pub is_before_reset : Row → Node → Bool
is_before_reset row node = nat_lt node.pair.version row.reset

-- a node that has dropped its contents and all that goes with them
abbrev pub emptied : Node → Node
emptied node = record node { pair = no_pair; opening = false; acks = []; earlier = None; recent = 0; adopted = 0; frozen = false }

-- the node with the contents with which it begins the row
abbrev pub begun : Row → Node → Node
begun row node = if is_before_reset row node then emptied node else node

-- it was primary before, and keeps its contents
abbrev pub stays_primary : Row → Node → ℕ → Bool
stays_primary row node m = is_primary node.known m && not (is_before_reset row node)

-- a primary keeps its held answers where it stays primary
abbrev pub carried_answers : ℕ → Node → List Held
carried_answers m node = if is_primary node.known m then node.held else []

-- The primary's contents go on in the row's version. Nothing of it is acknowledged yet, and it isn't frozen.
-- Where it was primary before, it keeps what was acknowledged then and its recent effects
abbrev pub adopt_as_primary : Row → Bool → List Held → Node → Node
adopt_as_primary row stays held node = record {
  known = row;
  pair = record { version = row.version; count = node.pair.count };
  opening = false;
  acks = [];
  earlier = if stays then Some (record { version = node.known.version; acks = node.acks }) else None;
  recent = if stays then node.recent else 0;
  adopted = node.pair.count;
  frozen = false;
  held = held;
}

-- any other member keeps no more than a pair
abbrev pub adopt_as_other : Row → Pair → Node
adopt_as_other row pair = record {
  known = row;
  pair = pair;
  opening = false;
  acks = [];
  earlier = None;
  recent = 0;
  adopted = 0;
  frozen = false;
  held = [];
}

-- member m after it has adopted the row. A backup keeps its contents, and who isn't in the row drops them
abbrev pub adopted_row : ℕ → Row → Node → Node
adopted_row m row node =
    let next = begun row node in
    if is_primary row m then adopt_as_primary row (stays_primary row node m) (carried_answers m node) next
    else if is_backup row m then adopt_as_other row next.pair
    else adopt_as_other row no_pair

-- the primary of the row sends each backup its catch-up
abbrev pub sent_on_adopting : ℕ → Node → List Sent
sent_on_adopting m node = if is_primary node.known m then flat_map (catch_up node) (backups_of node.known) else []
