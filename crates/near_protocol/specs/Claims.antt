-- What holds of each value that a near client hits, after every run.
use Rattle.std.specs.Prelude.{◌≡◌, ◌≢◌, ℕ, ◌≤◌, ◌⊎◌, List, [], ◌∷◌, map, Some, Contains}
use Rattle.grid_base.specs.Objects.{Object}
use Rattle.partition_protocol.specs.Node.{Held}
use Rattle.partition_protocol.specs.History.{Executed, Entry, Called, Reset}
use Rattle.partition_protocol.specs.World.{World, trail}
use Rattle.partition_protocol.specs.Arrivals.{Asked, CallName, name, arrivals, NamedOnce}
use Rattle.partition_protocol.specs.Answers.{answered_call}
use Rattle.partition_protocol.specs.NamedStates.{effect_call}
use Rattle.near_protocol.specs.Keyed.{Keyed, IsKeyed}
use Rattle.near_protocol.specs.Client.{Said, Answer, Refusal, Invalidation, Rows, RowHeard, hit}
use Rattle.near_protocol.specs.Near.{At, Change, Grid, Invalidated, Near, Move, new_grid, events_at, world, name_of, known_version, all_happened, attached, all_moved}

-- the first stands before the second
abbrev pub Before : {X : Type 0} → List X → X → X → Type 0
Before [] a b = ⊥
Before (x ∷ xs) a b = ((x ≡ a) × Contains xs b) ⊎ Before xs a b

-- the answer of that call was given
abbrev pub WasReleased : {C : Type 0} → World C → CallName → Type 0
WasReleased w n = (h : Held) × Contains w.released h × (answered_call h ≡ n)

-- the call changed the value of that key
abbrev pub Changed : {C K : Type 0} → Grid C K → ℕ → K → Executed C → Type 0
Changed {K = K} g p k x = (c : Change K) × Contains g.changes c × (c.partition ≡ p) × (c.key ≡ k) × (c.call ≡ name_of x)

-- it speaks of the key's value, or of its partition's row
abbrev pub SpeaksOf : {C State K V : Type 0} → Keyed C State K V → K → Said K → Type 0
SpeaksOf l k (Invalidation q v n) = q ≡ k
SpeaksOf l k (Rows rows) = (r : RowHeard) × Contains rows r × (r.partition ≡ l.partition k)
SpeaksOf l k (Answer n reply) = ⊥
SpeaksOf l k (Refusal n) = ⊥

-- nothing unread does
abbrev pub HasRead : {C State K V : Type 0} → Keyed C State K V → K → List (Said K) → Type 0
HasRead {K = K} l k unread = (m : Said K) → Contains unread m → SpeaksOf l k m → ⊥

-- the partition of a key, and its trail

abbrev pub world_of : {C State K V : Type 0} → Object C State → Keyed C State K V → Near C K V → K → World C
world_of o l s key = world o s.grid (l.partition key)

abbrev pub trail_of : {C State K V : Type 0} → Object C State → Keyed C State K V → Near C K V → K → List (Entry C)
trail_of o l s key = trail (world_of o l s key)

-- the get stands after the write that an invalidation of the key names: the first call executed in that version
-- that saw that count
pub record IsAfterNamed {C State K V : Type 0} (o : Object C State) (l : Keyed C State K V) (s : Near C K V) (key : K)
    (i : Invalidated K) (get : Executed C) : Type 0 where
  pub write : Executed C
  pub named : effect_call (world_of o l s key) i.version i.number ≡ Some write
  pub changed : Changed s.grid (l.partition key) key write
  pub before : Before (trail_of o l s key) (Called write) (Called get)

-- an answered write of the key that stands, of a version up to the one that the client's member knows
pub record IsKnownWrite {C State K V : Type 0} (o : Object C State) (l : Keyed C State K V) (s : Near C K V) (key : K)
    (write : Executed C) : Type 0 where
  pub changed : Changed s.grid (l.partition key) key write
  pub stands : Contains (trail_of o l s key) (Called write)
  pub released : WasReleased (world_of o l s key) (name_of write)
  pub known : write.version ≤ known_version s.member (world_of o l s key)

-- of a key whose value is hit
pub record IsHit {C State K V : Type 0} (o : Object C State) (l : Keyed C State K V) (s : Near C K V) (key : K)
    (value : V) : Type 0 where
  -- the value is the reply to a get of the client's, which was answered and stands in the trail of the key's partition
  pub get : Executed C
  pub conn : get.conn ≡ s.conn
  pub call : get.call ≡ l.get get.number key
  pub says : l.value_in get.reply ≡ Some value
  pub released : WasReleased (world_of o l s key) (name_of get)
  pub stands : Contains (trail_of o l s key) (Called get)
  -- it stands after each write that an invalidation of the key names, if the client has handled that
  pub after : (i : Invalidated K) → Contains s.processed i → i.key ≡ key → IsAfterNamed o l s key i get
  -- where nothing of the key is unread, it stands after each answered write of a version that the client's member knows
  pub fresh : HasRead l key s.unread → (write : Executed C) → IsKnownWrite o l s key write
      → Before (trail_of o l s key) (Called write) (Called get)
  -- and after each reset of such a version
  pub reopened : HasRead l key s.unread → (r : ℕ) → Contains (trail_of o l s key) (Reset r)
      → r ≤ known_version s.member (world_of o l s key) → Before (trail_of o l s key) (Reset r) (Called get)

-- no call arrived on the connection
abbrev pub IsNew : {C : Type 0} → ℕ → List (At C) → Type 0
IsNew {C} conn events = (p : ℕ) (a : Asked C) → Contains (arrivals (events_at p events)) a → a.conn ≢ conn

-- in each partition no two calls have one name
abbrev pub AreNamedOnce : {C K : Type 0} → Grid C K → Type 0
AreNamedOnce g = (p : ℕ) → NamedOnce (map name (arrivals (events_at p g.events)))

-- of any grid with at least one member, whatever happened before the client came and since
abbrev pub EveryHitStands : {C State K V : Type 0} → Object C State → Keyed C State K V → Type 0
EveryHitStands {C} {State} {K} {V} o l =
    (members backups partitions member conn first capacity : ℕ) (earlier : List (At C)) (moves : List (Move C K)) (key : K) (value : V)
    → 1 ≤ members → IsKeyed o l partitions → IsNew conn earlier
    → let s = all_moved o l (attached o partitions member conn first capacity (all_happened o l (new_grid members backups) earlier)) moves in
    AreNamedOnce s.grid → hit l key s.client ≡ Some value → IsHit o l s key value
