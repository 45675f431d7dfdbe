-- What holds of each value that a near client on several connections hits, after every run.
use Rattle.std.specs.Prelude.{◌≡◌, ℕ, ◌≤◌, true, List, Some, Contains}
use Rattle.std.specs.List.{list_any}
use Rattle.grid_base.specs.Objects.{Object}
use Rattle.partition_protocol.specs.History.{Executed, Called}
use Rattle.partition_protocol.specs.World.{trail}
use Rattle.partition_protocol.specs.NamedStates.{effect_call}
use Rattle.near_protocol.specs.Keyed.{Keyed, IsKeyed}
use Rattle.near_protocol.specs.Client.{hit}
use Rattle.near_protocol.specs.Near.{At, Grid, Invalidated, new_grid, world, name_of, all_happened}
use Rattle.near_protocol.specs.Claims.{Before, WasReleased, Changed, AreNamedOnce}
use Rattle.grid_client.specs.Nears as near
use Rattle.grid_client.specs.States.{State}
use Rattle.grid_client.specs.Ties.{GoesByKeys, IsTied}
use Rattle.near_several.specs.Several.{Several, Move, unattached, is_port, all_moved}

-- the get stands after the write that an invalidation of the key names: the first call executed in that version
-- that saw that count
pub record IsAfterNamed {C State K V : Type 0} (o : Object C State) (l : Keyed C State K V) (g : Grid C K) (key : K)
    (i : Invalidated K) (get : Executed C) : Type 0 where
  pub write : Executed C
  pub named : effect_call (world o g (l.partition key)) i.version i.number ≡ Some write
  pub changed : Changed g (l.partition key) key write
  pub before : Before (trail (world o g (l.partition key))) (Called write) (Called get)

-- of a key whose value is hit
pub record IsHitAfter {C State K V : Type 0} (o : Object C State) (l : Keyed C State K V) (s : Several C K V) (key : K)
    (value : V) : Type 0 where
  -- the value is the reply to a get on one of the client's connections, which was answered and stands in the trail of the
  -- key's partition
  pub get : Executed C
  pub conn : list_any (is_port get.conn) s.ports ≡ true
  pub call : get.call ≡ l.get get.number key
  pub says : l.value_in get.reply ≡ Some value
  pub released : WasReleased (world o s.grid (l.partition key)) (name_of get)
  pub stands : Contains (trail (world o s.grid (l.partition key))) (Called get)
  -- it stands after each write that an invalidation of the key names which the client has handled, on whichever connection
  pub after : (i : Invalidated K) → Contains s.processed i → i.key ≡ key → IsAfterNamed o l s.grid key i get

-- of any grid with at least one member, whatever happened before the client came and since
abbrev pub EveryHitIsAfter : {C State K V : Type 0} → Object C State → Keyed C State K V → Type 0
EveryHitIsAfter {C} {State} {K} {V} o l =
    (members backups partitions first capacity : ℕ) (earlier : List (At C)) (moves : List (Move C K)) (key : K) (value : V)
    → 1 ≤ members → IsKeyed o l partitions
    → let s = all_moved o l partitions (unattached first capacity (all_happened o l (new_grid members backups) earlier)) moves in
    AreNamedOnce s.grid → hit l key s.client ≡ Some value → IsHitAfter o l s key value

-- Where a client of grid_client goes with such a run, so does what it hits.
abbrev pub EveryHitOfAClientIsAfter : {C State' : Type 0} → Object C State' → Keyed C State' (List ℕ) near.Value → Type 0
EveryHitOfAClientIsAfter {C} o l =
    (members backups partitions first capacity : ℕ) (earlier : List (At C)) (moves : List (Move C (List ℕ)))
    (s : State) (map : near.Near) (key : List ℕ) (value : near.Value)
    → 1 ≤ members → IsKeyed o l partitions → GoesByKeys l
    → let r = all_moved o l partitions (unattached first capacity (all_happened o l (new_grid members backups) earlier)) moves in
    AreNamedOnce r.grid → IsTied s map r.client → near.hit key map ≡ Some value → IsHitAfter o l r key value
