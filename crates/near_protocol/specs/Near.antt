-- A near client on one connection to one member of a grid: what happens in the grid, what is said on the connection,
-- and what the client makes of it.
use Rattle.std.specs.Prelude.{ℕ, ◌+◌, Bool, true, false, ◌&&◌, ◌==◌, nat_lt, if◌then◌else◌, List, [], ◌∷◌, ◌++◌, length, map, filter, drop, Option, Some, None, slice_get}
use Rattle.std.specs.List.{flat_map}
use Rattle.grid_base.specs.Objects.{Object}
use Rattle.partition_protocol.specs.Node.{Held, Node}
use Rattle.partition_protocol.specs.Execution.{Reached, Executes, PartitionLost, WrongTarget, Migrating, reached}
use Rattle.partition_protocol.specs.History.{Executed, Entry, Called, Reset}
use Rattle.partition_protocol.specs.Service.{numbers_below}
use Rattle.partition_protocol.specs.World.{World, start, is_live, map_or, pair_state}
use Rattle.partition_protocol.specs.Events.{Event, Call, Outcome, Refused, happens, run}
use Rattle.partition_protocol.specs.Arrivals.{CallName}
use Rattle.near_protocol.specs.Keyed.{Keyed}
use Rattle.near_protocol.specs.Client.{Client, Said, Answer, Refusal, Invalidation, Rows, new_client, hit, used, opened, handled}

-- the grid

-- an event of one partition
pub record At (C : Type 0) : Type 0 where
  pub partition : ℕ
  pub event : Event C

-- a call that was executed at a member and changed the value of a key
pub record Change (K : Type 0) : Type 0 where
  pub partition : ℕ
  pub member : ℕ
  pub call : CallName
  pub key : K

pub record Grid (C K : Type 0) : Type 0 where
  pub members : ℕ
  pub backups : ℕ
  pub events : List (At C)  -- of all partitions, in order
  pub changes : List (Change K)  -- in order of execution

abbrev pub new_grid : {C K : Type 0} → ℕ → ℕ → Grid C K
new_grid members backups = record { members = members; backups = backups; events = []; changes = [] }

abbrev pub is_at : {C : Type 0} → ℕ → At C → Bool
is_at p e = e.partition == p

abbrev pub events_at : {C : Type 0} → ℕ → List (At C) → List (Event C)
events_at {C} p events = map (λ (e : At C). e.event) (filter (is_at p) events)

-- a partition's world
abbrev pub world : {C State K : Type 0} → Object C State → Grid C K → ℕ → World C
world o g p = run o (start p g.members g.backups) (events_at p g.events)

-- what an event changes

abbrev pub is_executed : Reached → Bool
is_executed Executes = true
is_executed (PartitionLost v) = false
is_executed (WrongTarget v) = false
is_executed (Migrating v) = false

-- A call changes keys of its own partition alone
abbrev pub changed : {C State K V : Type 0} → Keyed C State K V → ℕ → ℕ → CallName → Option K → List (Change K)
changed l p m n None = []
changed l p m n (Some k) = if l.partition k == p then record { partition = p; member = m; call = n; key = k } ∷ [] else []

-- in the state that the member has before it executes the call
abbrev pub changes_by : {C State K V : Type 0} → Object C State → Keyed C State K V → World C → ℕ → Event C → List (Change K)
changes_by o l w p (Call m conn number call now) =
    map_or (slice_get w.nodes m) [] (λ node.
    if is_live w m && is_executed (reached m node)
    then changed l p m (record { conn = conn; number = number }) (l.altered (pair_state o w node.pair) call now) else [])
changes_by o l w p _ = []

abbrev pub happened : {C State K V : Type 0} → Object C State → Keyed C State K V → Grid C K → ℕ → Event C → Grid C K
happened o l g p e = record g {
  events = g.events ++ record { partition = p; event = e } ∷ [];
  changes = g.changes ++ changes_by o l (world o g p) p e;
}

abbrev pub all_happened : {C State K V : Type 0} → Object C State → Keyed C State K V → Grid C K → List (At C) → Grid C K
all_happened o l g [] = g
all_happened o l g (e ∷ es) = all_happened o l (happened o l g e.partition e.event) es

-- what an event says to a near client

abbrev pub is_same_name : CallName → CallName → Bool
is_same_name a b = (a.conn == b.conn) && (a.number == b.number)

abbrev pub name_of : {C : Type 0} → Executed C → CallName
name_of x = record { conn = x.conn; number = x.number }

-- the call of a released answer, as it was executed
abbrev pub called_in : {C : Type 0} → Held → Entry C → List (Executed C)
called_in h (Called x) = if is_same_name (name_of x) (record { conn = h.conn; number = h.number }) then x ∷ [] else []
called_in h (Reset r) = []

-- the calls whose answers were released from one world to the next, in order of release
abbrev pub released_between : {C : Type 0} → World C → World C → List (Executed C)
released_between before after =
    flat_map (λ (h : Held). flat_map (called_in h) after.recorded.log) (drop (length before.released) after.released)

-- a change by that call, at the member of the near client
abbrev pub is_change_by : {K : Type 0} → ℕ → ℕ → CallName → Change K → Bool
is_change_by p m n c = (c.partition == p) && ((c.member == m) && is_same_name c.call n)

abbrev pub invalidations : {C K : Type 0} → ℕ → ℕ → Executed C → Change K → List (Said K)
invalidations p m x c = if is_change_by p m (name_of x) c then Invalidation c.key x.version x.seen ∷ [] else []

-- a release: the invalidations of what the call changed, and then the answer to its caller
abbrev pub said_of : {C K : Type 0} → ℕ → ℕ → ℕ → List (Change K) → Executed C → List (Said K)
said_of p m conn changes x = flat_map (invalidations p m x) changes ++ (if x.conn == conn then Answer x.number x.reply ∷ [] else [])

-- a newer row that the member adopted
abbrev pub rows_said : {K : Type 0} → ℕ → Option Node → Option Node → List (Said K)
rows_said p (Some before) (Some after) =
    if nat_lt before.known.version after.known.version
    then Rows (record { partition = p; version = after.known.version } ∷ []) ∷ [] else []
rows_said p _ _ = []

-- the refusal of a call of the client's
abbrev pub is_refused : Outcome → Bool
is_refused (Refused r) = true
is_refused _ = false

abbrev pub refusal_said : {C K : Type 0} → ℕ → Event C → Outcome → List (Said K)
refusal_said conn (Call m c number call now) outcome = if is_refused outcome && (c == conn) then Refusal number ∷ [] else []
refusal_said conn _ outcome = []

-- first a row, and then what is released
abbrev pub said_by : {C State K : Type 0} → Object C State → ℕ → ℕ → World C → List (Change K) → ℕ → Event C → List (Said K)
said_by o m conn w changes p e =
    let next = happens o w e in
    rows_said p (slice_get w.nodes m) (slice_get next.world.nodes m) ++ (refusal_said conn e next.outcome
    ++ flat_map (said_of p m conn changes) (released_between w next.world))

-- the near client

-- an invalidation that the client handled
pub record Invalidated (K : Type 0) : Type 0 where
  pub key : K
  pub version : ℕ
  pub number : ℕ

pub record Near (C K V : Type 0) : Type 0 where
  pub grid : Grid C K
  pub member : ℕ
  pub conn : ℕ
  pub client : Client K V
  pub next_number : ℕ  -- of its next get
  pub unread : List (Said K)  -- said and not yet handed to the client
  pub processed : List (Invalidated K)  -- the invalidations that the client handled, in order

-- the version of the row that a member knows
abbrev pub known_version : {C : Type 0} → ℕ → World C → ℕ
known_version m w = map_or (slice_get w.nodes m) 0 (λ node. node.known.version)

-- a near client on a connection on which nothing arrived before. It is told all rows that its member knows
abbrev pub attached : {C State K V : Type 0} → Object C State → ℕ → ℕ → ℕ → ℕ → ℕ → Grid C K → Near C K V
attached o partitions member conn first capacity g = record {
  grid = g;
  member = member;
  conn = conn;
  client = new_client capacity;
  next_number = first;
  unread = Rows (map (λ p. record { partition = p; version = known_version member (world o g p) }) (numbers_below partitions)) ∷ [];
  processed = [];
}

abbrev pub occurred : {C State K V : Type 0} → Object C State → Keyed C State K V → Near C K V → ℕ → Event C → Near C K V
occurred o l s p e =
    let next = happened o l s.grid p e in
    record s { grid = next; unread = s.unread ++ said_by o s.member s.conn (world o s.grid p) next.changes p e }

-- A miss opens a look-up, and its get arrives at once at the member, if that lives
abbrev pub opening_at : {C K V : Type 0} → Near C K V → K → Near C K V
opening_at s k = record s { client = opened s.next_number k s.client; next_number = s.next_number + 1 }

abbrev pub missed : {C State K V : Type 0} → Object C State → Keyed C State K V → Near C K V → K → ℕ → Near C K V
missed o l s k now =
    if is_live (world o s.grid (l.partition k)) s.member
    then occurred o l (opening_at s k) (l.partition k) (Call s.member s.conn s.next_number (l.get s.next_number k) now) else s

-- a look-up that hits that value, or misses
abbrev pub looked_up :
    {C State K V : Type 0} → Object C State → Keyed C State K V → Near C K V → K → ℕ → Option V → Near C K V
looked_up o l s k now None = missed o l s k now
looked_up o l s k now (Some v) = record s { client = used l k s.client }

-- A miss whose get finds no memory at the member: it is refused, and nothing happens in its partition
abbrev pub missed_in_vain : {C K V : Type 0} → Near C K V → K → Near C K V
missed_in_vain s k = record (opening_at s k) { unread = s.unread ++ Refusal s.next_number ∷ [] }

abbrev pub looked_up_in_vain : {C State K V : Type 0} → Keyed C State K V → Near C K V → K → Option V → Near C K V
looked_up_in_vain l s k None = missed_in_vain s k
looked_up_in_vain l s k (Some v) = record s { client = used l k s.client }

-- the client handles the next message
abbrev pub invalidated_by : {K : Type 0} → Said K → List (Invalidated K)
invalidated_by (Invalidation k v n) = record { key = k; version = v; number = n } ∷ []
invalidated_by (Answer n reply) = []
invalidated_by (Refusal n) = []
invalidated_by (Rows rows) = []

abbrev pub heard : {C State K V : Type 0} → Keyed C State K V → Near C K V → Said K → List (Said K) → Near C K V
heard l s m rest = record s { client = handled l m s.client; unread = rest; processed = s.processed ++ invalidated_by m }

abbrev pub hears : {C State K V : Type 0} → Keyed C State K V → Near C K V → List (Said K) → Near C K V
hears l s [] = s
hears l s (m ∷ rest) = heard l s m rest

pub data Move (C K : Type 0) : Type 0 where
  -- something else happens in a partition, also calls of other connections and other near clients
  Occurs : (partition : ℕ) (event : Event C) → Move C K
  -- the client looks a key up
  LooksUp : (key : K) (now : ℕ) → Move C K
  -- the same, where the get of a miss finds no memory
  LooksUpInVain : (key : K) → Move C K
  -- it is handed the next message
  Hears : Move C K

-- nothing else arrives on the near client's connection
abbrev pub is_call_on : {C : Type 0} → ℕ → Event C → Bool
is_call_on conn (Call m c number call now) = c == conn
is_call_on conn _ = false

abbrev pub moved : {C State K V : Type 0} → Object C State → Keyed C State K V → Near C K V → Move C K → Near C K V
moved o l s (Occurs p e) = if is_call_on s.conn e then s else occurred o l s p e
moved o l s (LooksUp k now) = looked_up o l s k now (hit l k s.client)
moved o l s (LooksUpInVain k) = looked_up_in_vain l s k (hit l k s.client)
moved o l s Hears = hears l s s.unread

abbrev pub all_moved : {C State K V : Type 0} → Object C State → Keyed C State K V → Near C K V → List (Move C K) → Near C K V
all_moved o l s [] = s
all_moved o l s (m ∷ ms) = all_moved o l (moved o l s m) ms
