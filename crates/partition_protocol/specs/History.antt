-- What was executed, and the history and state that a pair names. Contents aren't kept: a state is that which the calls of a history leave.
use Rattle.std.specs.Prelude.{◌≡◌, ℕ, Bool, false, not, ◌&&◌, ◌==◌, nat_le, if◌then◌else◌, List, [], ◌∷◌, ◌++◌, filter}
use Rattle.grid_base.specs.Objects.{Object}
use Rattle.partition_protocol.specs.Node.{Pair}

-- a call as it was executed: its connection and number, the version in which it was executed, the count that it saw, its moment and its reply
pub record Executed (C : Type 0) : Type 0 where
  pub conn : ℕ
  pub number : ℕ
  pub version : ℕ
  pub seen : ℕ
  pub now : ℕ
  pub call : C
  pub reply : List ℕ

-- a call, or a reopening by the row of that version
pub data Entry (C : Type 0) : Type 0 where
  Called : Executed C → Entry C
  Reset : (version : ℕ) → Entry C

-- the pair with which the primary of a version began it, and the reset of that version's row
pub record Base : Type 0 where
  pub version : ℕ
  pub reset : ℕ
  pub pair : Pair

-- the history at a reopening, with its reset at the end
pub record Opening (C : Type 0) : Type 0 where
  pub reset : ℕ
  pub entries : List (Entry C)

-- executed in the pair's version, and counted by the pair
abbrev pub is_in_pair : {C : Type 0} → Pair → Entry C → Bool
is_in_pair p (Called x) = (x.version == p.version) && nat_le x.seen p.count
is_in_pair p (Reset r) = false

-- what of the log a pair counts, in order of execution
abbrev pub entries_in : {C : Type 0} → Pair → List (Entry C) → List (Entry C)
entries_in p log = filter (is_in_pair p) log

-- the history at the reopening with that reset
abbrev pub opening_at : {C : Type 0} → ℕ → List (Opening C) → List (Entry C)
opening_at r [] = []
opening_at r (o ∷ openings) = if o.reset == r then o.entries else opening_at r openings

-- since a reopening no member had contents to begin with, the first of them begins with none
abbrev pub begins_anew : Base → Bool
begins_anew b = not (b.reset == 0) && (b.pair.version == 0) && (b.pair.count == 0)

-- The history that a pair names: that with which its version began, and then what was executed in its version up to its count.
-- A version that begins anew began with the history at the reopening, and any other with that of its base's pair. The newest base stands first
abbrev pub history : {C : Type 0} → List (Opening C) → List (Entry C) → List Base → Pair → List (Entry C)
history openings log [] p = []
history openings log (b ∷ bases) p =
    if b.version == p.version then (if begins_anew b then opening_at b.reset openings else history openings log bases b.pair) ++ entries_in p log
    else history openings log bases p

-- the state that a history leaves: a reset leaves the empty one
abbrev pub state_after : {C State : Type 0} → Object C State → State → List (Entry C) → State
state_after o s [] = s
state_after o s (Called x ∷ es) = state_after o (o.after s x.call x.now) es
state_after o s (Reset r ∷ es) = state_after o o.empty es

-- a history is legal where each reply is the one that the object gives at that point
abbrev pub IsLegal : {C State : Type 0} → Object C State → State → List (Entry C) → Type 0
IsLegal o s [] = Unit {0}
IsLegal o s (Called x ∷ es) = (x.reply ≡ o.reply s x.call x.now) × IsLegal o (o.after s x.call x.now) es
IsLegal o s (Reset r ∷ es) = IsLegal o o.empty es
