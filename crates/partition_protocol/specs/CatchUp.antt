-- What a primary sends a backup that lags: the effects that it lacks where these are few and recent, and otherwise the whole contents.
use Rattle.std.specs.Prelude.{ℕ, zero, suc, ◌+◌, ◌-◌, min, Bool, true, false, ◌==◌, nat_le, if◌then◌else◌, List, [], ◌∷◌, ◌++◌, map, Option, Some, None}
use Rattle.partition_table.specs.declared.RowMember.{RowMember}
use Rattle.partition_protocol.specs.Messages.{Message, Sync, Effect, Bridge, Sent}
use Rattle.partition_protocol.specs.Node.{Pair, Earlier, Node, acked, acked_by}

-- what a backup acknowledged in the version before the known one
abbrev pub heard_earlier : Option Earlier → ℕ → Option Pair
heard_earlier None b = None
heard_earlier (Some e) b = elim (acked_by b e.acks) [ None ↦ None | Some c ↦ Some (record { version = e.version; count = c }) ]

-- the newest pair that a backup is known to have: acknowledged in the known version, else in the one before it
abbrev pub heard : Node → ℕ → Option Pair
heard node b = elim (acked node b) [ None ↦ heard_earlier node.earlier b | Some c ↦ Some (record { version = node.known.version; count = c }) ]

-- so many effects of version v, numbered on from a + 1
abbrev pub effects_from : ℕ → ℕ → ℕ → List Message
effects_from v a zero = []
effects_from v a (suc k) = Effect v (a + 1) ∷ effects_from v (a + 1) k

-- the effects of version v with the numbers a + 1 to b
abbrev pub effects : ℕ → ℕ → ℕ → List Message
effects v a b = effects_from v a (b - a)

-- the effects that lead from a pair to what the primary has: within the known version these alone.
-- From the version before it, the rest of that version, the bridge to the known one, and its effects
abbrev pub recent_effects_to : Node → Pair → List Message
recent_effects_to node p =
    if p.version == node.known.version then effects p.version p.count node.pair.count
    else effects p.version p.count node.adopted ++ (Bridge node.known p.version node.adopted ∷ effects node.known.version node.adopted node.pair.count)

-- a primary keeps its newest effects, so many at most
abbrev pub recent_limit : ℕ
recent_limit = 64

-- it has kept all the effects that lead on from the pair
abbrev pub is_covered : Node → Pair → Bool
is_covered node p = nat_le (node.pair.count - p.count) (min recent_limit node.recent)

-- all that the primary has
abbrev pub whole_snapshot : Node → List Message
whole_snapshot node = Sync node.known node.pair.count ∷ []

-- by recent effects where the backup is eligible, has been heard and is covered, and otherwise whole
abbrev pub catch_up_by : Node → Bool → Option Pair → List Message
catch_up_by node false p = whole_snapshot node
catch_up_by node true None = whole_snapshot node
catch_up_by node true (Some p) = if is_covered node p then recent_effects_to node p else whole_snapshot node

-- what a backup is sent to catch up
abbrev pub catch_up : Node → RowMember → List Sent
catch_up node b = map (λ m. record { to = b.member; message = m }) (catch_up_by node b.eligible (heard node b.member))
