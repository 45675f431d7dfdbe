-- What messages in flight say of contents: the states that they name stay, and an effect leads from one to the next.
use Rattle.std.specs.Prelude.{◌≡◌, ℕ, ◌-◌, ◌≤◌, ◌⊎◌, Bool, true, false, ◌&&◌, ◌==◌, if◌then◌else◌, List, [], ◌∷◌, ◌++◌, Option, Some, None, slice_get, Contains}
use Rattle.grid_base.specs.Objects.{Object}
use Rattle.partition_table.specs.declared.Row.{Row}
use Rattle.partition_protocol.specs.Messages.{Message, NewRow, Sync, Effect, Bridge, Ack, Joined, Freeze, Frozen, Packet}
use Rattle.partition_protocol.specs.Node.{Pair, Node}
use Rattle.partition_protocol.specs.History.{Executed, Entry, Called, Reset, Base}
use Rattle.partition_protocol.specs.World.{World, start, pair_state}
use Rattle.partition_protocol.specs.Events.{Event, run}
use Rattle.partition_protocol.specs.Claims.{IsLawful}

-- effects

-- a call that was executed in that version and saw that count
abbrev pub is_numbered : {C : Type 0} → ℕ → ℕ → Entry C → Bool
is_numbered v i (Called x) = (x.version == v) && (x.seen == i)
is_numbered v i (Reset r) = false

-- the first such call among the entries
abbrev pub first_numbered : {C : Type 0} → ℕ → ℕ → List (Entry C) → Option (Executed C)
first_numbered v i [] = None
first_numbered v i (Called x ∷ es) = if is_numbered v i (Called x) then Some x else first_numbered v i es
first_numbered v i (Reset r ∷ es) = first_numbered v i es

-- the first such call that was executed. Calls after it that changed nothing saw the same count
abbrev pub effect_call : {C : Type 0} → World C → ℕ → ℕ → Option (Executed C)
effect_call w v i = first_numbered v i w.recorded.log

-- the i-th effect of version v is that of an executed call, the first of its number, which leads from what the version has after i - 1 effects to what it has after i
pub record IsEffect {C State : Type 0} (o : Object C State) (w : World C) (v i : ℕ) : Type 0 where
  pub executed : Executed C
  pub logged : Contains w.recorded.log (Called executed)
  pub version : executed.version ≡ v
  pub seen : executed.seen ≡ i
  pub first : effect_call w v i ≡ Some executed
  pub changes : o.changes (pair_state o w (record { version = v; count = i - 1 })) executed.call executed.now ≡ true
  pub state : pair_state o w (record { version = v; count = i }) ≡ o.after (pair_state o w (record { version = v; count = i - 1 })) executed.call executed.now

-- each Effect in flight has such a call, and effects are numbered from 1
abbrev pub EveryEffectLeads : {C State : Type 0} → Object C State → Type 0
EveryEffectLeads {C} o =
    (partition members backups : ℕ) (events : List (Event C)) (p : Packet) (v i : ℕ) → 1 ≤ members → IsLawful o
    → let w = run o (start partition members backups) events in
    Contains w.packets p → p.message ≡ Effect v i → (1 ≤ i) × IsEffect o w v i

-- states

-- the pairs whose states a message speaks of
abbrev pub pairs_of : Message → List Pair
pairs_of (Sync row c) = record { version = row.version; count = c } ∷ []
pairs_of (Effect v i) = record { version = v; count = i - 1 } ∷ record { version = v; count = i } ∷ []
pairs_of (Bridge row e k) = record { version = e; count = k } ∷ record { version = row.version; count = k } ∷ []
pairs_of (NewRow row) = []
pairs_of (Ack v c) = []
pairs_of (Joined v b) = []
pairs_of (Freeze v) = []
pairs_of (Frozen v) = []

-- of the same version, with no more effects
abbrev pub IsUpToPair : Pair → Pair → Type 0
IsUpToPair p q = (p.version ≡ q.version) × (p.count ≤ q.count)

-- it is up to a member's own pair, up to one that a message in flight speaks of, or up to one with which a version began
abbrev pub IsNamed : {C : Type 0} → World C → Pair → Type 0
IsNamed w pair =
    ((m : ℕ) × (node : Node) × (slice_get w.nodes m ≡ Some node) × IsUpToPair pair node.pair)
    ⊎ ((p : Packet) × (named : Pair) × Contains w.packets p × Contains (pairs_of p.message) named × IsUpToPair pair named)
    ⊎ ((b : Base) × Contains w.recorded.bases b × IsUpToPair pair b.pair)

-- a pair that is named keeps its state, whatever happens from then on
abbrev pub EveryNamedStateStays : {C State : Type 0} → Object C State → Type 0
EveryNamedStateStays {C} o =
    (partition members backups : ℕ) (events more : List (Event C)) (pair : Pair) → 1 ≤ members → IsLawful o
    → let w = run o (start partition members backups) events in
    let next = run o (start partition members backups) (events ++ more) in
    IsNamed w pair → pair_state o next pair ≡ pair_state o w pair

-- the two pairs of a Bridge in flight name one state
abbrev pub EveryBridgeJoins : {C State : Type 0} → Object C State → Type 0
EveryBridgeJoins {C} o =
    (partition members backups : ℕ) (events : List (Event C)) (p : Packet) (row : Row) (e k : ℕ) → 1 ≤ members → IsLawful o
    → let w = run o (start partition members backups) events in
    Contains w.packets p → p.message ≡ Bridge row e k
    → pair_state o w (record { version = row.version; count = k }) ≡ pair_state o w (record { version = e; count = k })
