-- What a row and any other message leave of a member's contents, effects and answers, and what they ask of it.
use Rattle.std.specs.Prelude.{◌≡◌, ℕ, Bool, true, false, if◌then◌else◌, List, ◌++◌, Option, Some, None, is_some}
use Rattle.grid_base.specs.Objects.{IsSmall}
use Rattle.partition_table.specs.declared.Row.{Row}
use Rattle.partition_protocol.specs.Node.{Node}
use Rattle.partition_protocol.specs.Took.{Took, Synced, Applied}
use Rattle.partition_protocol.specs.Replica.{is_newer}
use Rattle.member_wire.specs.declared.message.MemberMessage.{MemberMessage}
use Rattle.member_wire.specs.declared.message.MemberMessage.TheVariants as said
use Rattle.backup_apply.specs.declared.contents.ContentsChange.{ContentsChange}
use Rattle.backup_apply.specs.declared.contents.ContentsChange.TheVariants.{Keep}
use Rattle.backup_apply.specs.Contents.{Does, IsChangeBySync, IsChangeByEffect}
use Rattle.member_wire.specs.declared.took.Took.{Took as TookWord}
use Rattle.primary_hold.specs.declared.answer.CallAnswer.{CallAnswer}
use Rattle.primary_hold.specs.Adopting.{drops_contents, ring_in}

-- a row

-- of an empty state and the old one, the one that is left in the row
abbrev pub state_in : {State : Type 0} → State → ℕ → Row → Node → State → State
state_in empty m row node state = if drops_contents m row node then empty else state

-- What contents do behind what the row leaves of them
abbrev pub DoesIn : {State : Type 0} → (ℕ → State → Type 0) → State → (List ℕ → State → Option State) → (State → List ℕ) → ℕ → Row → Node → ContentsChange → State → State → Type 0
DoesIn within empty applied snapshot_of m row node change old new = Does within applied snapshot_of change (state_in empty m row node old) new

-- the state and the newest effects once the member looked at the row, which it adopts where it is newer

abbrev pub state_after_row : {State : Type 0} → State → ℕ → Row → Node → State → State
state_after_row empty m row node state = if is_newer row node then state_in empty m row node state else state

abbrev pub ring_after_row : ℕ → Row → Node → List (List ℕ) → List (List ℕ)
ring_after_row m row node ring = if is_newer row node then ring_in m row node ring else ring

-- any message

-- the row that a message brings
abbrev pub row_in : MemberMessage → Option Row
row_in (said.NewRow row) = Some row
row_in (said.Sync row count snapshot) = Some row
row_in (said.Bridge row base count) = Some row
row_in (said.Effect version number effect) = None
row_in (said.Ack version count) = None
row_in (said.Joined version member) = None
row_in (said.Freeze version) = None
row_in (said.Frozen version) = None

-- an effect that was applied makes the next state
abbrev pub EffectLeaves : {State : Type 0} → (List ℕ → State → Option State) → List ℕ → Took → State → State → Type 0
EffectLeaves applied effect Applied old new = applied effect old ≡ Some new
EffectLeaves applied effect took old new = new ≡ old

-- The state after an effect that was applied, the one whose snapshot was installed, or else what the row leaves
abbrev pub Leaves : {State : Type 0} → (ℕ → State → Type 0) → State → (List ℕ → State → Option State) → (State → List ℕ) → ℕ → Node → MemberMessage → Took → State → State → Type 0
Leaves {State} within empty applied snapshot_of m node (said.Sync row count snapshot) Synced old new =
    (x : State) → IsSmall within x → snapshot_of x ≡ snapshot → new ≡ x
Leaves within empty applied snapshot_of m node (said.Effect version number effect) took old new = EffectLeaves applied effect took old new
Leaves within empty applied snapshot_of m node (said.NewRow row) took old new = new ≡ state_after_row empty m row node old
Leaves within empty applied snapshot_of m node (said.Sync row count snapshot) took old new = new ≡ state_after_row empty m row node old
Leaves within empty applied snapshot_of m node (said.Bridge row base count) took old new = new ≡ state_after_row empty m row node old
Leaves within empty applied snapshot_of m node (said.Ack version count) took old new = new ≡ old
Leaves within empty applied snapshot_of m node (said.Joined version member) took old new = new ≡ old
Leaves within empty applied snapshot_of m node (said.Freeze version) took old new = new ≡ old
Leaves within empty applied snapshot_of m node (said.Frozen version) took old new = new ≡ old

abbrev pub ring_after_taking : ℕ → Node → Option Row → List (List ℕ) → List (List ℕ)
ring_after_taking m node None ring = ring
ring_after_taking m node (Some row) ring = ring_after_row m row node ring

-- An effect that would be applied fits the state, and whole contents are a small state's
abbrev pub IsFit : {State : Type 0} → (ℕ → State → Type 0) → (List ℕ → State → Option State) → (State → List ℕ) → MemberMessage → Took → State → Type 0
IsFit within applied snapshot_of (said.Effect version number effect) took state = took ≡ Applied → is_some (applied effect state) ≡ true
IsFit {State} within applied snapshot_of (said.Sync row count snapshot) took state = (x : State) × IsSmall within x × (snapshot_of x ≡ snapshot)
IsFit within applied snapshot_of message took state = Unit {0}

-- the answers that are left: a member that no longer leads drops those that it held
abbrev pub answers_left : Bool → List CallAnswer → List CallAnswer → List CallAnswer
answers_left true waiting held = waiting ++ held
answers_left false waiting held = waiting

-- the row, where it is newer than the known one
abbrev pub if_newer : Row → Node → Option Row
if_newer row node = if is_newer row node then Some row else None

-- the row that a member adopts as it takes the message
abbrev pub newer_row : MemberMessage → Node → Option Row
newer_row message node = elim (row_in message) [ None ↦ None | Some row ↦ if_newer row node ]

-- what the contents do, by the message and how it is taken
abbrev pub IsChangeBy : MemberMessage → TookWord → ContentsChange → Type 0
IsChangeBy (said.Sync row count snapshot) took change = IsChangeBySync snapshot took change
IsChangeBy (said.Effect version number effect) took change = IsChangeByEffect effect took change
IsChangeBy message took change = change ≡ Keep
