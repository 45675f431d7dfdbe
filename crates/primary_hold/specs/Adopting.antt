-- What a newer row leaves of a member's contents, answers and newest effects.
use Rattle.std.specs.Prelude.{◌≡◌, ℕ, Bool, not, ◌&&◌, ◌||◌, if◌then◌else◌, List, []}
use Rattle.partition_table.specs.declared.Row.{Row}
use Rattle.partition_table.specs.Rows.{is_primary, is_in}
use Rattle.partition_protocol.specs.Node.{Node, Pair, no_pair}
use Rattle.partition_protocol.specs.Adoption.{is_before_reset, stays_primary, adopted_row}
use Rattle.primary_hold.specs.declared.facts.Facts.{Facts}
use Rattle.primary_hold.specs.Facts.{node_of, member_of, answers_of, ring_of}

-- it drops the contents that are of a version before its reset, and those of a member that isn't in it
abbrev pub drops_contents : ℕ → Row → Node → Bool
drops_contents m row node = is_before_reset row node || not (is_in row m)

-- the name of the contents that are left in the row
abbrev pub pair_in : ℕ → Row → Node → Pair
pair_in m row node = if drops_contents m row node then no_pair else node.pair

-- a primary goes on in the row with its contents
abbrev pub goes_on : ℕ → Row → Node → Bool
goes_on m row node = is_primary row m && stays_primary row node m

-- and so with its newest effects
abbrev pub ring_in : ℕ → Row → Node → List (List ℕ) → List (List ℕ)
ring_in m row node ring = if goes_on m row node then ring else []

-- The member has adopted the row. One that leads in it holds the answers that it held.
pub record HasAdopted (old new : Facts) (row : Row) : Type 0 where
  pub node : node_of new ≡ adopted_row (member_of old) row (node_of old)
  pub released : (answers_of new).released ≡ (answers_of old).released
  pub held : (answers_of new).held ≡ (if is_primary row (member_of old) then (answers_of old).held else [])
  pub ring : ring_of new ≡ ring_in (member_of old) row (node_of old) (ring_of old)
  pub member : member_of new ≡ member_of old
