-- How large states and numbers become in a partition whose members are apart: so that a program can keep them in so many bytes.
use Rattle.std.specs.Prelude.{◌≡◌, ℕ, ◌+◌, ◌^◌, ◌<◌, List, length, Option, Some, slice_get, Contains}
use Rattle.grid_base.specs.Objects.{Object, IsSmall}
use Rattle.partition_protocol.specs.Messages.{Effect}
use Rattle.partition_protocol.specs.Took.{Applied}
use Rattle.partition_protocol.specs.Replica.{taking}
use Rattle.partition_protocol.specs.Arrivals.{Asked}
use Rattle.partition_protocol.specs.Bounds.{IsRowWithin, IsNodeWithin, IsMessageWithin, AreHeldWithin}
use Rattle.apart_protocol.specs.Contents.{Change, Cargo, Bare, Whole, Made, Parcel}
use Rattle.apart_protocol.specs.Member.{Member}
use Rattle.apart_protocol.specs.Machine.{Apart, Step, arrivals}
use Rattle.apart_protocol.specs.Claims.{IsGiven, whole_after}

-- states

-- so few calls that their number has four bytes, each within the limits
pub record AreFewCalls {C : Type 0} (limits : C → Type 0) (calls : List (Asked C)) : Type 0 where
  pub few : length calls < 2 ^ 32
  pub kept : (a : Asked C) → Contains calls a → limits a.call

-- the states that go with a message are small: that of a Sync, and with an Effect the one that its call found
abbrev pub IsSmallCargo : {C State : Type 0} → (C → Type 0) → (ℕ → State → Type 0) → Cargo C State → Type 0
IsSmallCargo limits within Bare = Unit {0}
IsSmallCargo limits within (Whole state) = IsSmall within state
IsSmallCargo limits within (Made change) = IsSmall within change.before × limits change.call

-- all states in the whole are small: of the members, and in all that was ever sent
pub record HasSmallStates {C State : Type 0} (limits : C → Type 0) (within : ℕ → State → Type 0) (a : Apart C State) : Type 0 where
  pub members : (m : ℕ) (x : Member C State) → slice_get a.members m ≡ Some x → IsSmall within x.state
  pub sent : (q : Parcel C State) → Contains a.sent q → IsSmallCargo limits within q.cargo

-- Here `within k s` says that k calls within the limits may have made s
abbrev pub EveryApartStateIsSmall : {C State : Type 0} → Object C State → (C → Type 0) → (ℕ → State → Type 0) → Type 0
EveryApartStateIsSmall {C} {State} o limits within =
    (partition n backups : ℕ) (steps : List (Step C State)) → IsGiven o partition n backups steps → AreFewCalls limits (arrivals steps)
    → HasSmallStates limits within (whole_after o partition n backups steps)

-- bytes

-- the change has bytes as an effect, and they make of the state what its call makes of it
pub record AppliesTo {C State : Type 0} (o : Object C State) (effect_of : State → C → ℕ → Option (List ℕ)) (applied : List ℕ → State → Option State) (change : Change C State) (s : State) : Type 0 where
  pub bytes : List ℕ
  pub spelled : effect_of change.before change.call change.now ≡ Some bytes
  pub applies : applied bytes s ≡ Some (o.after s change.call change.now)

-- An effect that a member takes next applies to the contents that the member has
abbrev pub EveryApartEffectApplies : {C State : Type 0}
    → Object C State → (C → Type 0) → (State → C → ℕ → Option (List ℕ)) → (List ℕ → State → Option State) → Type 0
EveryApartEffectApplies {C} {State} o limits effect_of applied =
    (partition n backups : ℕ) (steps : List (Step C State)) (from m version number : ℕ) (change : Change C State) (x : Member C State)
    → IsGiven o partition n backups steps → AreFewCalls limits (arrivals steps)
    → let a = whole_after o partition n backups steps in
    Contains a.sent (record { packet = record { from = from; to = m; message = Effect version number }; cargo = Made change })
    → slice_get a.members m ≡ Some x → (taking n m from (Effect version number) x.node).took ≡ Applied
    → AppliesTo o effect_of applied change x.state

-- numbers

-- each version is at most k + 1, and each count at most k: of the service, of the members, and in all that was ever sent or given as an answer
pub record HasNumbersWithin {C State : Type 0} (k : ℕ) (a : Apart C State) : Type 0 where
  pub row : IsRowWithin k a.service.row
  pub members : (m : ℕ) (x : Member C State) → slice_get a.members m ≡ Some x → IsNodeWithin k x.node
  pub sent : (q : Parcel C State) → Contains a.sent q → IsMessageWithin k q.packet.message
  pub released : AreHeldWithin k a.released

-- A step raises a number by two at most. So over fewer than 2 ^ 31 steps all numbers have four bytes
abbrev pub EveryApartNumberIsBounded : {C State : Type 0} → Object C State → Type 0
EveryApartNumberIsBounded {C} {State} o =
    (partition n backups : ℕ) (steps : List (Step C State)) → IsGiven o partition n backups steps
    → HasNumbersWithin (length steps + length steps) (whole_after o partition n backups steps)
