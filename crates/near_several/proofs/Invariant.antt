-- What every move of a near client on several connections keeps.
use Rattle.std.proofs.Common.{◌≡◌, ℕ, ◌<◌, List, None, Some}
use Rattle.grid_base.specs.Objects.{Object}
use Rattle.partition_protocol.specs.History.{Executed, Called}
use Rattle.partition_protocol.specs.Arrivals.{Asked, calls_in}
use Rattle.partition_protocol.proofs.Lists.{In}
use Rattle.near_protocol.specs.Keyed.{Keyed}
use Rattle.near_protocol.specs.Client.{Kept, LookUp, Said}
use Rattle.near_protocol.specs.Near.{Grid, Invalidated, world, name_of}
use Rattle.near_protocol.specs.Claims.{Before}
use Rattle.near_protocol.proofs.Invariant.{Freed, Backed, SaidOk}
use Rattle.near_protocol.proofs.Attaching.{ChangesOk}
use Rattle.near_several.specs.Several.{Port, Sent, Several}

-- a connection of the client's
abbrev pub IsOwn : {K : Type 0} → List (Port K) → ℕ → Type 0
IsOwn {K} ports conn = (port : Port K) × In port ports × (port.conn ≡ conn)

-- the get x of key k stands after each write that a handled invalidation of the key names
abbrev pub After : {C State K V : Type 0} → Object C State → Keyed C State K V → Grid C K → List (Invalidated K) → K → Executed C → Type 0
After {K = K} o l g ended k x =
    (i : Invalidated K) → In i ended → i.key ≡ k
    → (b : Backed g.changes (world o g (l.partition k)) k i.version i.number) × Before (world o g (l.partition k)).recorded.log (Called b.write) (Called x)

-- an open look-up, whose get may be on its way, or executed, or lost
pub record WaitOk {C State K V : Type 0} (o : Object C State) (l : Keyed C State K V) (s : Several C K V) (r : LookUp K) : Type 0 where
  pub number : r.number < s.next_number
  pub own : (p : ℕ) (a : Asked C) → In a (calls_in (world o s.grid p).recorded.log) → IsOwn s.ports a.conn → a.number ≡ r.number → (p ≡ l.partition r.key) × (a.call ≡ l.get r.number r.key)
  pub sent : (q : Sent C) → In q s.sent → q.number ≡ r.number → (q.partition ≡ l.partition r.key) × (q.call ≡ l.get r.number r.key)
  pub after : r.overtaken ≡ None → (x : Executed C) → In (Called x) (world o s.grid (l.partition r.key)).recorded.log → IsOwn s.ports x.conn → x.number ≡ r.number → After o l s.grid s.processed r.key x

-- an entry, by the get that filled it
pub record KeptOk {C State K V : Type 0} (o : Object C State) (l : Keyed C State K V) (s : Several C K V) (e : Kept K V) : Type 0 where
  pub get : Executed C
  pub logged : In (Called get) (world o s.grid (l.partition e.key)).recorded.log
  pub conn : IsOwn s.ports get.conn
  pub call : get.call ≡ l.get get.number e.key
  pub says : l.value_in get.reply ≡ Some e.value
  pub freed : Freed (world o s.grid (l.partition e.key)) (name_of get)
  pub after : After o l s.grid s.processed e.key get

pub record Inv {C State K V : Type 0} (o : Object C State) (l : Keyed C State K V) (s : Several C K V) : Type 0 where
  pub numbers : (p : ℕ) (a : Asked C) → In a (calls_in (world o s.grid p).recorded.log) → IsOwn s.ports a.conn → a.number < s.next_number
  pub sent : (q : Sent C) → In q s.sent → q.number < s.next_number
  pub waiting : (r : LookUp K) → In r s.client.waiting → WaitOk o l s r
  pub entries : (e : Kept K V) → In e s.client.entries → KeptOk o l s e
  pub unread : (port : Port K) → In port s.ports → (m : Said K) → In m port.unread → SaidOk o l s.grid port.conn m
  pub processed : (i : Invalidated K) → In i s.processed → Backed s.grid.changes (world o s.grid (l.partition i.key)) i.key i.version i.number
  pub changes : ChangesOk o l s.grid
