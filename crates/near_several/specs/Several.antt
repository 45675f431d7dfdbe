-- A near client on several connections, each to a member of one grid. What it sends arrives when it does, or never.
use Rattle.std.specs.Prelude.{ℕ, ◌+◌, Bool, not, ◌||◌, ◌==◌, if◌then◌else◌, List, [], ◌∷◌, ◌++◌, map, filter, drop, Option, Some, None}
use Rattle.std.specs.List.{find, list_any}
use Rattle.grid_base.specs.Objects.{Object}
use Rattle.partition_protocol.specs.Service.{numbers_below}
use Rattle.partition_protocol.specs.World.{is_live}
use Rattle.partition_protocol.specs.Events.{Event, Call}
use Rattle.near_protocol.specs.Keyed.{Keyed}
use Rattle.near_protocol.specs.Client.{Client, Said, Refusal, Rows, new_client, hit, used, opened, handled}
use Rattle.near_protocol.specs.Near.{At, Grid, Invalidated, world, happened, known_version, said_by, invalidated_by, is_call_on}

-- A connection of the client's: its member, and what was said there and isn't handed to the client yet
pub record Port (K : Type 0) : Type 0 where
  pub conn : ℕ
  pub member : ℕ
  pub unread : List (Said K)

-- a call on its way to the member of its connection
pub record Sent (C : Type 0) : Type 0 where
  pub conn : ℕ
  pub member : ℕ
  pub number : ℕ
  pub partition : ℕ
  pub call : C

-- Calls have numbers that count up over all connections
pub record Several (C K V : Type 0) : Type 0 where
  pub grid : Grid C K
  pub ports : List (Port K)
  pub sent : List (Sent C)
  pub client : Client K V
  pub next_number : ℕ
  pub processed : List (Invalidated K)  -- the invalidations that it handled, on any connection, in order

-- a client without connections
abbrev pub unattached : {C K V : Type 0} → ℕ → ℕ → Grid C K → Several C K V
unattached first capacity g = record {
  grid = g;
  ports = [];
  sent = [];
  client = new_client capacity;
  next_number = first;
  processed = [];
}

abbrev pub is_port : {K : Type 0} → ℕ → Port K → Bool
is_port conn port = port.conn == conn

-- the connection is the client's, or a call arrived there
abbrev pub is_taken : {C K V : Type 0} → ℕ → Several C K V → Bool
is_taken conn s = list_any (is_port conn) s.ports || list_any (λ (e : At _). is_call_on conn e.event) s.grid.events

-- all rows that a member knows
abbrev pub rows_of : {C State K : Type 0} → Object C State → ℕ → ℕ → Grid C K → Said K
rows_of o partitions member g = Rows (map (λ p. record { partition = p; version = known_version member (world o g p) }) (numbers_below partitions))

-- A further connection, on which nothing arrived before. It is told all rows that its member knows
abbrev pub attached : {C State K V : Type 0} → Object C State → ℕ → ℕ → ℕ → Several C K V → Several C K V
attached o partitions conn member s =
    if is_taken conn s then s
    else record s { ports = s.ports ++ record { conn = conn; member = member; unread = rows_of o partitions member s.grid ∷ [] } ∷ [] }

-- what happens in the grid is said on each connection, as its member says it
abbrev pub telling : {C State K : Type 0} → Object C State → Grid C K → Grid C K → ℕ → Event C → Port K → Port K
telling o before after p e port =
    record port { unread = port.unread ++ said_by o port.member port.conn (world o before p) after.changes p e }

abbrev pub occurred : {C State K V : Type 0} → Object C State → Keyed C State K V → ℕ → Event C → Several C K V → Several C K V
occurred o l p e s =
    let next = happened o l s.grid p e in
    record s { grid = next; ports = map (telling o s.grid next p e) s.ports }

-- a call of its own, under the next number
abbrev pub sending : {C K V : Type 0} → Port K → ℕ → C → Several C K V → Several C K V
sending port p call s = record s {
  sent = s.sent ++ record { conn = port.conn; member = port.member; number = s.next_number; partition = p; call = call } ∷ [];
  next_number = s.next_number + 1;
}

-- a miss opens a look-up under the number of its get
abbrev pub missed : {C State K V : Type 0} → Keyed C State K V → Port K → K → Several C K V → Several C K V
missed l port k s = record (sending port (l.partition k) (l.get s.next_number k) s) { client = opened s.next_number k s.client }

-- a look-up that hits that value, or misses, and asks on the connection
abbrev pub looked_up : {C State K V : Type 0} → Keyed C State K V → Port K → K → Option V → Several C K V → Several C K V
looked_up l port k None s = missed l port k s
looked_up l port k (Some v) s = record s { client = used l k s.client }

-- what is sent arrives once

abbrev pub is_numbered : {C : Type 0} → ℕ → Sent C → Bool
is_numbered n q = q.number == n

abbrev pub taken : {C K V : Type 0} → ℕ → Several C K V → Several C K V
taken n s = record s { sent = filter (λ (q : Sent _). not (is_numbered n q)) s.sent }

-- at its member, if that lives
abbrev pub arrived : {C State K V : Type 0} → Object C State → Keyed C State K V → ℕ → Sent C → Several C K V → Several C K V
arrived o l now q s =
    if is_live (world o s.grid q.partition) q.member
    then occurred o l q.partition (Call q.member q.conn q.number q.call now) (taken q.number s) else taken q.number s

-- or is refused there, where it finds no memory
abbrev pub refusing : {K : Type 0} → ℕ → ℕ → Port K → Port K
refusing conn n port = if is_port conn port then record port { unread = port.unread ++ Refusal n ∷ [] } else port

abbrev pub refused : {C K V : Type 0} → Sent C → Several C K V → Several C K V
refused q s = record (taken q.number s) { ports = map (refusing q.conn q.number) s.ports }

-- the client handles the next message of a connection

abbrev pub reading : {K : Type 0} → ℕ → Port K → Port K
reading conn port = if is_port conn port then record port { unread = drop 1 port.unread } else port

abbrev pub heard : {C State K V : Type 0} → Keyed C State K V → ℕ → Said K → Several C K V → Several C K V
heard l conn m s = record s {
  client = handled l m s.client;
  ports = map (reading conn) s.ports;
  processed = s.processed ++ invalidated_by m;
}

abbrev pub hears : {C State K V : Type 0} → Keyed C State K V → ℕ → List (Said K) → Several C K V → Several C K V
hears l conn [] s = s
hears l conn (m ∷ rest) s = heard l conn m s

pub data Move (C K : Type 0) : Type 0 where
  -- the client is attached to a member by a further connection
  Attaches : (conn member : ℕ) → Move C K
  -- something else happens in a partition, also calls of other connections
  Occurs : (partition : ℕ) (event : Event C) → Move C K
  -- the client looks a key up, and asks for it on that connection where it misses
  LooksUp : (conn : ℕ) (key : K) → Move C K
  -- it makes any other call
  Asks : (conn partition : ℕ) (call : C) → Move C K
  -- its call of that number arrives
  Arrives : (number now : ℕ) → Move C K
  -- the same, where it finds no memory
  ArrivesInVain : (number : ℕ) → Move C K
  -- it is handed the next message of that connection
  Hears : (conn : ℕ) → Move C K

-- a call on one of the client's connections
abbrev pub is_own : {C K V : Type 0} → Several C K V → Event C → Bool
is_own s e = list_any (λ (port : Port _). is_call_on port.conn e) s.ports

-- what is done on a connection of the client's, and what with a call on its way
abbrev pub on_port : {C K V : Type 0} → ℕ → (Port K → Several C K V → Several C K V) → Several C K V → Several C K V
on_port conn f s = elim (find (is_port conn) s.ports) [ None ↦ s | Some port ↦ f port s ]

abbrev pub of_sent : {C K V : Type 0} → ℕ → (Sent C → Several C K V → Several C K V) → Several C K V → Several C K V
of_sent n f s = elim (find (is_numbered n) s.sent) [ None ↦ s | Some q ↦ f q s ]

abbrev pub moved : {C State K V : Type 0} → Object C State → Keyed C State K V → ℕ → Several C K V → Move C K → Several C K V
moved o l partitions s (Attaches conn member) = attached o partitions conn member s
moved o l partitions s (Occurs p e) = if is_own s e then s else occurred o l p e s
moved o l partitions s (LooksUp conn k) = on_port conn (λ port. looked_up l port k (hit l k s.client)) s
moved o l partitions s (Asks conn p call) = on_port conn (λ port. sending port p call) s
moved o l partitions s (Arrives n now) = of_sent n (arrived o l now) s
moved o l partitions s (ArrivesInVain n) = of_sent n refused s
moved o l partitions s (Hears conn) = on_port conn (λ port. hears l conn port.unread) s

abbrev pub all_moved : {C State K V : Type 0} → Object C State → Keyed C State K V → ℕ → Several C K V → List (Move C K) → Several C K V
all_moved o l partitions s [] = s
all_moved o l partitions s (m ∷ ms) = all_moved o l partitions (moved o l partitions s m) ms
