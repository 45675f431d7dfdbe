-- What every event keeps.
use Rattle.std.proofs.Common.{◌≡◌, ℕ, ◌+◌, ◌<◌, ◌≤◌, Bool, true, false, cond, List, [], ◌∷◌, filter, Some, slice_get, nat_lt, ◌⊎◌}
use Rattle.partition_table.specs.Rows.{is_among, is_first, is_primary, is_in, is_eligible, numbers_of}
use Rattle.partition_protocol.specs.Messages.{Message, NewRow, Sync, Effect, Bridge, Ack, Joined as JoinedMessage, Freeze, Frozen as FrozenMessage, Packet}
use Rattle.partition_protocol.specs.Node.{Pair, Acknowledged, Earlier, Held, Node, no_pair}
use Rattle.partition_protocol.specs.Service.{Move, NoMove, Joining, Joined, Freezing, Drained}
use Rattle.grid_base.specs.Objects.{Object}
use Rattle.partition_protocol.specs.History.{Entry, Called, Reset, Base, Opening, history, opening_at}
use Rattle.partition_protocol.specs.World.{World}
use Rattle.partition_protocol.specs.Claims.{Stands, is_reset}
use Rattle.partition_table.specs.declared.Row.{Row}
use Rattle.partition_table.specs.declared.RowMember.{RowMember}
use Rattle.partition_protocol.proofs.Lists.{In, Every}
use Rattle.partition_protocol.proofs.Histories.{IsGood, AreGood, IsRising, Falling, IsBase, start_at}

-- rows, without their marks

pub record Shape : Type 0 where
  pub version : ℕ
  pub reset : ℕ
  pub lost : Bool
  pub members : List ℕ

abbrev pub shape : Row → Shape
shape row = record { version = row.version; reset = row.reset; lost = row.lost; members = numbers_of row }

-- of the rows that the service made
pub record RowsOk (members : ℕ) (made : List Shape) (newest : Shape) : Type 0 where
  pub newest_in : In newest made
  pub newest_top : (s : Shape) → In s made → s.version ≤ newest.version
  pub one : (s t : Shape) → In s made → In t made → s.version ≡ t.version → s ≡ t
  pub lost : (s : Shape) → In s made → s.lost ≡ true → s.members ≡ []
  pub old_reset : (s : Shape) → In s made → s.reset ≤ s.version
  pub same_reset : (s t : Shape) → In s made → In t made → s.version ≤ t.version → t.reset ≤ s.version → s.reset ≡ t.reset
  pub lost_between : (s t : Shape) → In s made → In t made → s.version < t.reset → (l : Shape) × In l made × (l.members ≡ []) × (s.version ≤ l.version) × (l.version < t.version)
  pub below : (s : Shape) (m : ℕ) → In s made → is_among s.members m ≡ true → m < members
  pub positive : (s : Shape) → In s made → 1 ≤ s.version

abbrev pub NodeAt : List Node → ℕ → Node → Type 0
NodeAt nodes m n = slice_get nodes m ≡ Some n

-- m is a member of the row of version v
abbrev pub IsMember : List Shape → ℕ → ℕ → Type 0
IsMember made v m = (s : Shape) × In s made × (s.version ≡ v) × (is_among s.members m ≡ true)

-- the primary of version v
abbrev pub IsPrimaryIn : List Shape → ℕ → ℕ → Type 0
IsPrimaryIn made v m = (s : Shape) × In s made × (s.version ≡ v) × (is_first s.members m ≡ true)

-- m, once primary of version v, executes and releases nothing more in it
abbrev pub IsGoneAt : ℕ → Node → Type 0
IsGoneAt v n = (v < n.known.version) ⊎ ((n.known.version ≡ v) × (n.frozen ≡ true) × (n.held ≡ []))

abbrev pub IsGone : List Node → List ℕ → ℕ → ℕ → Type 0
IsGone nodes crashed v m = (is_among crashed m ≡ true) ⊎ ((n : Node) → NodeAt nodes m n → IsGoneAt v n)

-- nothing of version v is past what its primary counts, while that knows v
abbrev pub IsUpTo : List Node → ℕ → ℕ → Type 0
IsUpTo nodes v c = (m : ℕ) (n : Node) → NodeAt nodes m n → is_primary n.known m ≡ true → n.known.version ≡ v → c ≤ n.pair.count

-- member b, which knows version k, has left version v
abbrev pub HasLeft : List Base → List Shape → ℕ → ℕ → ℕ → Type 0
HasLeft bases made v b k =
    ((u : ℕ) × IsBase bases u × (v < u) × (u ≤ k))
    ⊎ ((s : Shape) × In s made × (v < s.version) × (s.version ≤ k) × (is_among s.members b ≡ false))
    ⊎ ((s : Shape) × In s made × (v < s.reset) × (v < s.version) × (s.version ≤ k))

abbrev pub HasUpTo : List Base → List Shape → ℕ → ℕ → ℕ → Node → Type 0
HasUpTo bases made v c b n = ((n.pair.version ≡ v) × (c ≤ n.pair.count)) ⊎ HasLeft bases made v b n.known.version

abbrev pub HasAcked : List Node → List Base → List Shape → ℕ → ℕ → ℕ → Type 0
HasAcked nodes bases made v c b = (n : Node) → NodeAt nodes b n → HasUpTo bases made v c b n

-- a joiner of version v has its pair in it, or knows a later row
abbrev pub HasJoined : List Node → ℕ → ℕ → Type 0
HasJoined nodes v b = (n : Node) → NodeAt nodes b n → (n.pair.version ≡ v) ⊎ (v < n.known.version)

abbrev pub PacketOk : List Node → List Base → List Shape → List ℕ → ℕ → Message → Type 0
PacketOk nodes bases made crashed from (NewRow row) = In (shape row) made
PacketOk nodes bases made crashed from (Sync row c) = In (shape row) made × IsBase bases row.version × IsUpTo nodes row.version c
PacketOk nodes bases made crashed from (Effect v i) = IsBase bases v × IsUpTo nodes v i
PacketOk nodes bases made crashed from (Bridge row e k) =
    In (shape row) made × IsUpTo nodes row.version k × (1 ≤ e) × (e < row.version) × ((b : Base) × In b bases × (b.version ≡ row.version) × (b.pair ≡ record { version = e; count = k }))
PacketOk nodes bases made crashed from (Ack v c) = IsBase bases v × HasAcked nodes bases made v c from
PacketOk nodes bases made crashed from (JoinedMessage v b) = IsBase bases v × IsMember made v b × HasJoined nodes v b
PacketOk nodes bases made crashed from (Freeze v) = Unit {0}
PacketOk nodes bases made crashed from (FrozenMessage v) = (m : ℕ) × IsPrimaryIn made v m × IsGone nodes crashed v m

abbrev pub EntryOk : {C : Type 0} → List Node → List Base → Entry C → Type 0
EntryOk nodes bases (Called x) = IsBase bases x.version × IsUpTo nodes x.version x.seen
EntryOk nodes bases (Reset r) = Unit {0}

-- a node by itself
pub record NodeOk (bases : List Base) (made : List Shape) (m : ℕ) (n : Node) : Type 0 where
  pub known : In (shape n.known) made
  pub pair : (n.pair ≡ no_pair) ⊎ (IsBase bases n.pair.version × (n.pair.version ≤ n.known.version))
  pub primary : is_primary n.known m ≡ true → (n.pair.version ≡ n.known.version) × IsBase bases n.known.version
  pub held : is_primary n.known m ≡ false → n.held ≡ []
  -- what it tells a backup of its earlier version leads to its base
  pub earlier : (e : Earlier) → is_primary n.known m ≡ true → n.earlier ≡ Some e
      → (1 ≤ e.version) × (e.version < n.known.version) × IsBase bases e.version × IsPrimaryIn made e.version m
      × ((b : Base) × In b bases × (b.version ≡ n.known.version) × (b.pair ≡ record { version = e.version; count = n.adopted }))
  pub adopted : is_primary n.known m ≡ true → n.adopted ≤ n.pair.count

-- what a node has of the acknowledgements
pub record AcksOk (nodes : List Node) (bases : List Base) (made : List Shape) (n : Node) : Type 0 where
  pub taken : Every (λ (a : Acknowledged). HasAcked nodes bases made n.known.version a.count a.member) n.acks
  pub opening : n.opening ≡ true → (b : ℕ) → is_in n.known b ≡ true → HasAcked nodes bases made n.known.version 0 b

pub record BaseOk (nodes : List Node) (made : List Shape) (b : Base) : Type 0 where
  pub row : Shape
  pub made_row : In row made
  pub version : row.version ≡ b.version
  pub reset : row.reset ≡ b.reset
  pub primary : ℕ
  pub heads : is_first row.members primary ≡ true
  pub knows : (n : Node) → NodeAt nodes primary n → b.version ≤ n.known.version

-- the pair from which a version began is one that its earlier version has, and so is its count in the new one
abbrev pub PairUp : List Node → List Base → Base → Type 0
PairUp nodes bases b = ((b.pair ≡ no_pair) ⊎ IsBase bases b.pair.version) × IsUpTo nodes b.version b.pair.count × IsUpTo nodes b.pair.version b.pair.count

-- the service's move
abbrev pub MoveOk : List Node → List ℕ → Row → Move → Type 0
MoveOk nodes crashed row NoMove = Unit {0}
MoveOk nodes crashed row (Joining s t) = Unit {0}
MoveOk nodes crashed row (Joined s t) = is_eligible row t ≡ true
MoveOk nodes crashed row (Freezing s t) = (is_eligible row t ≡ true) × (is_primary row s ≡ true)
MoveOk nodes crashed row (Drained s t) = (is_eligible row t ≡ true) × (is_primary row s ≡ true) × IsGone nodes crashed row.version s

-- the newest row that isn't lost
pub record StandingOk (crashed : List ℕ) (made : List Shape) (row standing : Row) : Type 0 where
  pub made_row : In (shape standing) made
  pub first : ℕ
  pub rest : List RowMember
  pub begins : standing.members ≡ record { member = first; eligible = true } ∷ rest
  pub now : row.lost ≡ false → standing ≡ row
  pub next : row.lost ≡ true → row.version ≡ standing.version + 1
  pub after_loss : row.lost ≡ true → (q : ℕ) → is_eligible standing q ≡ true → is_among crashed q ≡ true

-- an eligible member was in each row since it last joined
abbrev pub SinceOk : List Node → List Base → List Shape → Row → Type 0
SinceOk nodes bases made standing = (q : ℕ) (n : Node) (s : Shape) → is_eligible standing q ≡ true → NodeAt nodes q n → In s made → s.version ≤ standing.version
    → (is_among s.members q ≡ true) ⊎ ((u : ℕ) × IsBase bases u × (s.version < u) × (u ≤ n.known.version)) ⊎ (s.version < standing.reset)

abbrev pub GoneOk : List Node → List ℕ → List Shape → Type 0
GoneOk nodes crashed made = (s t : Shape) (m : ℕ) → In s made → In t made → s.version < t.version → is_first s.members m ≡ true → is_first t.members m ≡ false → IsGone nodes crashed s.version m

-- who stands where: all but the contents
pub record Frame {C : Type 0} (w : World C) (made : List Shape) : Type 0 where
  pub rows : RowsOk w.members made (shape w.service.row)
  pub standing : StandingOk w.crashed made w.service.row w.recorded.standing
  pub moving : MoveOk w.nodes w.crashed w.service.row w.service.move
  pub detected : (m : ℕ) → is_among w.service.detected m ≡ true → is_among w.crashed m ≡ true
  pub gone : GoneOk w.nodes w.crashed made
  pub there : (m : ℕ) → m < w.members → (n : Node) × NodeAt w.nodes m n
  pub nodes : (m : ℕ) (n : Node) → NodeAt w.nodes m n → NodeOk w.recorded.bases made m n
  pub acks : (m : ℕ) (n : Node) → NodeAt w.nodes m n → AcksOk w.nodes w.recorded.bases made n
  pub tops : (m : ℕ) (n : Node) → NodeAt w.nodes m n → IsUpTo w.nodes n.pair.version n.pair.count
  pub packets : Every (λ (p : Packet). PacketOk w.nodes w.recorded.bases made w.crashed p.from p.message) w.packets
  pub falling : Falling (w.service.row.version + 1) w.recorded.bases
  pub bases : Every (BaseOk w.nodes made) w.recorded.bases
  pub pairs : (b : Base) → In b w.recorded.bases → PairUp w.nodes w.recorded.bases b
  pub log : Every (EntryOk w.nodes w.recorded.bases) w.recorded.log
  pub since : SinceOk w.nodes w.recorded.bases made w.recorded.standing

-- what a member of the rows since a reset has
abbrev pub content : {C : Type 0} → List (Opening C) → List (Entry C) → List Base → ℕ → Pair → List (Entry C)
content os log bases r p = cond (nat_lt p.version r) (opening_at r os) (history os log bases p)

-- every eligible member has what was released
abbrev pub KeptOk : {C : Type 0} → List Node → List (Opening C) → List (Entry C) → List Base → Row → List Held → Type 0
KeptOk nodes os log bases standing released = (q : ℕ) (n : Node) (h : Held) → is_eligible standing q ≡ true → NodeAt nodes q n → In h released → Stands h (content os log bases standing.reset n.pair)

-- what was released stood there as the version began, or each member of it has it
abbrev pub BaseKeptOk : {C : Type 0} → List Node → List (Opening C) → List (Entry C) → List Base → List Shape → Row → ℕ → List Held → Type 0
BaseKeptOk nodes os log bases made standing top released = (v q : ℕ) (n : Node) (h : Held) → IsBase bases v → standing.reset ≤ v → IsMember made v q → (is_eligible standing q ≡ true) ⊎ (v ≡ top) → NodeAt nodes q n → In h released
    → Stands h (start_at os log bases v) ⊎ (v < n.known.version) ⊎ ((n.pair.version ≡ v) × Stands h (history os log bases n.pair))

abbrev pub HeldOk : {C : Type 0} → List Node → List (Opening C) → List (Entry C) → List Base → Type 0
HeldOk nodes os log bases = (m : ℕ) (n : Node) (h : Held) → NodeAt nodes m n → In h n.held → (h.seen ≤ n.pair.count) × Stands h (history os log bases (record { version = n.known.version; count = h.seen }))

-- the resets that stand in the log
pub record ResetsOk {C : Type 0} (os : List (Opening C)) (log : List (Entry C)) (bases : List Base) (r : ℕ) : Type 0 where
  pub started : (b : Base) → In b bases → b.reset ≡ r → filter is_reset (start_at os log bases b.version) ≡ filter is_reset log
  pub opened : 1 ≤ r → filter is_reset (opening_at r os) ≡ filter is_reset log
  pub none : r ≡ 0 → filter is_reset log ≡ []

-- the contents
pub record ContentOk {C State : Type 0} (o : Object C State) (w : World C) (made : List Shape) : Type 0 where
  pub rising : IsRising w.recorded.log
  pub good : AreGood o w.recorded.openings w.recorded.log w.recorded.bases
  pub opened : Every (λ (n : Opening C). IsGood o w.recorded.log n.entries) w.recorded.openings
  pub old : Every (λ (n : Opening C). n.reset ≤ w.service.row.version) w.recorded.openings
  pub resets : ResetsOk w.recorded.openings w.recorded.log w.recorded.bases w.recorded.standing.reset
  pub kept : KeptOk w.nodes w.recorded.openings w.recorded.log w.recorded.bases w.recorded.standing w.released
  pub base_kept : BaseKeptOk w.nodes w.recorded.openings w.recorded.log w.recorded.bases made w.recorded.standing w.service.row.version w.released
  pub held : HeldOk w.nodes w.recorded.openings w.recorded.log w.recorded.bases

pub record Invariant {C State : Type 0} (o : Object C State) (w : World C) (made : List Shape) : Type 0 where
  pub frame : Frame w made
  pub content : ContentOk o w made
