-- What contents do, and what is asked of them.
use Rattle.std.specs.Prelude.{◌≡◌, ℕ, true, List, Option, Some, None, is_some}
use Rattle.grid_base.specs.Objects.{IsSmall}
use Rattle.member_wire.specs.declared.took.Took.{Took}
use Rattle.member_wire.specs.declared.took.Took.TheVariants as took
use Rattle.backup_apply.specs.declared.contents.ContentsChange.{ContentsChange}
use Rattle.backup_apply.specs.declared.contents.ContentsChange.TheVariants.{Keep, Install, Apply}

-- whole contents that were taken are installed, and nothing else is
abbrev pub IsChangeBySync : List ℕ → Took → ContentsChange → Type 0
IsChangeBySync bytes took.Synced (Install snapshot) = snapshot.now ≡ bytes
IsChangeBySync bytes took.Synced change = ⊥
IsChangeBySync bytes took change = change ≡ Keep

-- an effect that was taken is applied, and nothing else is
abbrev pub IsChangeByEffect : List ℕ → Took → ContentsChange → Type 0
IsChangeByEffect bytes took.Applied (Apply effect) = effect.now ≡ bytes
IsChangeByEffect bytes took.Applied change = ⊥
IsChangeByEffect bytes took change = change ≡ Keep

-- the effect of a call is applied, if it has one
abbrev pub IsOfEffect : Option (List ℕ) → ContentsChange → Type 0
IsOfEffect None change = change ≡ Keep
IsOfEffect (Some bytes) (Apply effect) = effect.now ≡ bytes
IsOfEffect (Some bytes) change = ⊥

-- The state after it: the one for which the bytes stand, the one that the effect makes, or the same
abbrev pub Does : {State : Type 0} → (ℕ → State → Type 0) → (List ℕ → State → Option State) → (State → List ℕ) → ContentsChange → State → State → Type 0
Does within applied snapshot_of Keep old new = new ≡ old
Does {State} within applied snapshot_of (Install snapshot) old new = (s : State) → IsSmall within s → snapshot_of s ≡ snapshot.now → new ≡ s
Does within applied snapshot_of (Apply effect) old new = applied effect.now old ≡ Some new

-- The bytes stand for a small state, and the effect fits
abbrev pub IsPossible : {State : Type 0} → (ℕ → State → Type 0) → (List ℕ → State → Option State) → (State → List ℕ) → ContentsChange → State → Type 0
IsPossible within applied snapshot_of Keep old = Unit {0}
IsPossible {State} within applied snapshot_of (Install snapshot) old = (s : State) × IsSmall within s × (snapshot_of s ≡ snapshot.now)
IsPossible within applied snapshot_of (Apply effect) old = is_some (applied effect.now old) ≡ true
