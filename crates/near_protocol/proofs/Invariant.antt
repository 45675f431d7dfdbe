-- What every move of a near client keeps.
use Rattle.std.proofs.Common.{◌≡◌, ℕ, ◌<◌, ◌≤◌, true, ◌==◌, if◌then◌else◌, List, [], ◌∷◌, ◌++◌, Option, Some, None, ◌⊎◌}
use Rattle.std.specs.List.{flat_map}
use Rattle.grid_base.specs.Objects.{Object}
use Rattle.partition_table.specs.Rows.{is_primary}
use Rattle.partition_protocol.specs.Node.{Held, Node}
use Rattle.partition_protocol.specs.History.{Executed, Called}
use Rattle.partition_protocol.specs.World.{World}
use Rattle.partition_protocol.specs.NamedStates.{effect_call}
use Rattle.partition_protocol.specs.Arrivals.{Asked, CallName, calls_in}
use Rattle.partition_protocol.specs.Answers.{answered_call}
use Rattle.partition_protocol.proofs.Lists.{In}
use Rattle.partition_protocol.proofs.Invariant.{NodeAt}
use Rattle.near_protocol.specs.Keyed.{Keyed}
use Rattle.near_protocol.specs.Client.{Kept, LookUp, Said, Answer, Refusal, Invalidation, Rows, RowHeard, known_in}
use Rattle.near_protocol.specs.Near.{Change, Grid, Invalidated, Near, world, name_of, known_version}
use Rattle.near_protocol.specs.Claims.{Before}

-- the call's answer was given
abbrev pub Freed : {C : Type 0} → World C → CallName → Type 0
Freed w n = (h : Held) × In h w.released × (answered_call h ≡ n)

-- a released call that changed the key, with that version and number
pub record Backed {C K : Type 0} (changes : List (Change K)) (w : World C) (k : K) (v n : ℕ) : Type 0 where
  pub write : Executed C
  pub change : Change K
  pub made : In change changes
  pub key : change.key ≡ k
  pub call : name_of write ≡ change.call
  pub logged : In (Called write) w.recorded.log
  pub freed : Freed w (name_of write)
  pub version : write.version ≡ v
  pub seen : write.seen ≡ n

-- what is said is so
abbrev pub SaidOk : {C State K V : Type 0} → Object C State → Keyed C State K V → Grid C K → ℕ → Said K → Type 0
SaidOk {C = C} o l g conn (Answer n reply) =
    (p : ℕ) × (x : Executed C) × In (Called x) (world o g p).recorded.log × (x.conn ≡ conn) × (x.number ≡ n) × (x.reply ≡ reply) × Freed (world o g p) (name_of x)
SaidOk o l g conn (Invalidation k v n) = Backed g.changes (world o g (l.partition k)) k v n
SaidOk o l g conn (Refusal n) = Unit {0}
SaidOk o l g conn (Rows rows) = Unit {0}

-- an invalidation of the key is unread
abbrev pub Told : {K : Type 0} → List (Said K) → K → Type 0
Told unread k = (v : ℕ) × (n : ℕ) × In (Invalidation k v n) unread

-- the versions of a partition's rows that the client knows or is still to read
abbrev pub version_at : ℕ → RowHeard → List ℕ
version_at p r = if r.partition == p then r.version ∷ [] else []

abbrev pub versions_in : {K : Type 0} → ℕ → Said K → List ℕ
versions_in p (Rows rows) = flat_map (version_at p) rows
versions_in p (Answer n reply) = []
versions_in p (Refusal n) = []
versions_in p (Invalidation k v n) = []

abbrev pub listed : Option ℕ → List ℕ
listed None = []
listed (Some v) = v ∷ []

abbrev pub told_versions : {K : Type 0} → ℕ → List RowHeard → List (Said K) → List ℕ
told_versions p rows unread = listed (known_in p rows) ++ flat_map (versions_in p) unread

-- strictly rising up to k
abbrev pub ClimbsTo : List ℕ → ℕ → Type 0
ClimbsTo [] k = ⊥
ClimbsTo (v ∷ []) k = v ≡ k
ClimbsTo (v ∷ u ∷ vs) k = (v < u) × ClimbsTo (u ∷ vs) k

-- at least the first
abbrev pub Beyond : List ℕ → ℕ → Type 0
Beyond [] n = Unit {0}
Beyond (v ∷ vs) n = v ≤ n

-- The write y of change c stands before the get x. Else it was made at the client's member, or a later row is known there, or it was made in a later version
abbrev pub Later : {C K : Type 0} → World C → ℕ → Executed C → Change K → Executed C → Type 0
Later w member x c y = Before w.recorded.log (Called y) (Called x) ⊎ (c.member ≡ member) ⊎ (x.version < known_version member w) ⊎ (x.version < y.version)

-- the get x of key k is as good as what the client read lets it be
pub record IsAfter {C K : Type 0} (w : World C) (member : ℕ) (changes : List (Change K)) (ended : List (Invalidated K)) (unread : List (Said K)) (vs : List ℕ) (k : K) (x : Executed C) : Type 0 where
  pub processed : (i : Invalidated K) → In i ended → i.key ≡ k → (b : Backed changes w k i.version i.number) × Before w.recorded.log (Called b.write) (Called x)
  pub told : (c : Change K) → In c changes → c.key ≡ k → c.member ≡ member → Freed w c.call → Told unread k ⊎ ((y : Executed C) → In (Called y) w.recorded.log → name_of y ≡ c.call → Before w.recorded.log (Called y) (Called x))
  pub later : (c : Change K) (y : Executed C) → In c changes → c.key ≡ k → In (Called y) w.recorded.log → name_of y ≡ c.call → Later w member x c y
  pub node : Node
  pub at : NodeAt w.nodes member node
  pub known : x.version ≤ node.known.version
  pub leads : x.version ≡ node.known.version → is_primary node.known member ≡ true
  pub heard : Beyond vs x.version

abbrev pub After : {C State K V : Type 0} → Object C State → Keyed C State K V → Near C K V → K → Executed C → Type 0
After o l s k x = IsAfter (world o s.grid (l.partition k)) s.member s.grid.changes s.processed s.unread (told_versions (l.partition k) s.client.rows s.unread) k x

-- an open look-up, whose get may have been executed
pub record WaitOk {C State K V : Type 0} (o : Object C State) (l : Keyed C State K V) (s : Near C K V) (r : LookUp K) : Type 0 where
  pub number : r.number < s.next_number
  pub own : (p : ℕ) (a : Asked C) → In a (calls_in (world o s.grid p).recorded.log) → a.conn ≡ s.conn → a.number ≡ r.number → (p ≡ l.partition r.key) × (a.call ≡ l.get r.number r.key)
  pub after : r.overtaken ≡ None → (x : Executed C) → In (Called x) (world o s.grid (l.partition r.key)).recorded.log → x.conn ≡ s.conn → x.number ≡ r.number → After o l s r.key x

-- an entry, by the get that filled it
pub record KeptOk {C State K V : Type 0} (o : Object C State) (l : Keyed C State K V) (s : Near C K V) (e : Kept K V) : Type 0 where
  pub get : Executed C
  pub logged : In (Called get) (world o s.grid (l.partition e.key)).recorded.log
  pub conn : get.conn ≡ s.conn
  pub call : get.call ≡ l.get get.number e.key
  pub says : l.value_in get.reply ≡ Some e.value
  pub freed : Freed (world o s.grid (l.partition e.key)) (name_of get)
  pub after : After o l s e.key get

-- the call of a change, which is the first of its number
pub record Origin {C K : Type 0} (w : World C) (c : Change K) : Type 0 where
  pub origin : Executed C
  pub logged : In (Called origin) w.recorded.log
  pub named : name_of origin ≡ c.call
  pub first : effect_call w origin.version origin.seen ≡ Some origin

-- a change is one of its key's partition, and its call was executed
abbrev pub ChangeOk : {C State K V : Type 0} → Object C State → Keyed C State K V → Grid C K → Change K → Type 0
ChangeOk {C = C} o l g c = (l.partition c.key ≡ c.partition) × Origin (world o g c.partition) c

pub record Inv {C State K V : Type 0} (o : Object C State) (l : Keyed C State K V) (partitions : ℕ) (s : Near C K V) : Type 0 where
  pub numbers : (p : ℕ) (a : Asked C) → In a (calls_in (world o s.grid p).recorded.log) → a.conn ≡ s.conn → a.number < s.next_number
  pub waiting : (r : LookUp K) → In r s.client.waiting → WaitOk o l s r
  pub entries : (e : Kept K V) → In e s.client.entries → KeptOk o l s e
  pub unread : (m : Said K) → In m s.unread → SaidOk o l s.grid s.conn m
  pub processed : (i : Invalidated K) → In i s.processed → Backed s.grid.changes (world o s.grid (l.partition i.key)) i.key i.version i.number
  pub changes : (c : Change K) → In c s.grid.changes → ChangeOk o l s.grid c
  pub rows : (p : ℕ) → p < partitions → ClimbsTo (told_versions p s.client.rows s.unread) (known_version s.member (world o s.grid p))
