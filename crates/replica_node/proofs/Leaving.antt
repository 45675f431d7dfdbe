-- What a member's contents are after a message, by what was decided of them.
use Rattle.std.proofs.Common.{◌≡◌, ℕ, List, Option, Some, None, true, false, refl, sym, ◌∙◌, ap, subst, ◌⊎◌, inl, inr}
use Rattle.partition_table.specs.declared.Row.{Row}
use Rattle.partition_protocol.specs.Node.{Node}
use Rattle.partition_protocol.specs.Replica.{is_newer}
use Rattle.partition_protocol.proofs.Lists.{cases}
use Rattle.member_wire.specs.declared.message.MemberMessage.{MemberMessage}
use Rattle.member_wire.specs.declared.message.MemberMessage.TheVariants as said
use Rattle.member_wire.specs.declared.took.Took.{Took}
use Rattle.member_wire.specs.declared.took.Took.TheVariants as took
use Rattle.member_wire.specs.Said.{took_of}
use Rattle.backup_apply.specs.declared.contents.ContentsChange.{ContentsChange}
use Rattle.backup_apply.specs.declared.contents.ContentsChange.TheVariants.{Keep, Install, Apply}
use Rattle.backup_apply.specs.Contents.{Does, IsChangeBySync, IsChangeByEffect}
use Rattle.primary_hold.specs.Adopting.{ring_in}
use Rattle.replica_node.specs.Takings.{Leaves, state_in, state_after_row, ring_after_row, ring_after_taking, row_in, if_newer, newer_row, IsChangeBy}

-- the row, if there is one and it is newer
abbrev newer_of : Option Row → Node → Option Row
newer_of o node = elim o [ None ↦ None | Some row ↦ if_newer row node ]

abbrev none : Option Row
none = None

-- the state that the message's row leaves
abbrev pub left_by : {State : Type 0} → State → ℕ → Option Row → Node → State → State
left_by empty m None node old = old
left_by empty m (Some row) node old = state_after_row empty m row node old

module _ {State : Type 0} (within : ℕ → State → Type 0) (empty : State) (applied : List ℕ → State → Option State) (snapshot_of : State → List ℕ) (m : ℕ) (node : Node) where
  kept : (change : ContentsChange) (base new : State) → change ≡ Keep → Does within applied snapshot_of change base new → new ≡ base
  kept change base new is does = subst (λ c. Does within applied snapshot_of c base new) is does

  by_sync : (row : Row) (count : ℕ) (bytes : List ℕ) (t : Took) (change : ContentsChange) (old new : State) → IsChangeBySync bytes t change → Does within applied snapshot_of change (state_after_row empty m row node old) new
      → Leaves within empty applied snapshot_of m node (said.Sync row count bytes) (took_of t) old new
  by_sync row count bytes took.Synced (Install snapshot) old new is does = λ x small spelled. does x small (spelled ∙ sym is)
  by_sync row count bytes took.Synced Keep old new is does = absurd is
  by_sync row count bytes took.Synced (Apply effect) old new is does = absurd is
  by_sync row count bytes took.Adopted change old new is does = kept change _ new is does
  by_sync row count bytes took.Applied change old new is does = kept change _ new is does
  by_sync row count bytes took.Bridged change old new is does = kept change _ new is does
  by_sync row count bytes took.Acked change old new is does = kept change _ new is does
  by_sync row count bytes took.Frozen change old new is does = kept change _ new is does
  by_sync row count bytes took.Joined change old new is does = kept change _ new is does
  by_sync row count bytes took.Drained change old new is does = kept change _ new is does
  by_sync row count bytes took.Already change old new is does = kept change _ new is does
  by_sync row count bytes took.Gap change old new is does = kept change _ new is does
  by_sync row count bytes took.Other change old new is does = kept change _ new is does
  by_sync row count bytes took.Stale change old new is does = kept change _ new is does
  by_sync row count bytes took.Dropped change old new is does = kept change _ new is does

  by_effect : (version number : ℕ) (bytes : List ℕ) (t : Took) (change : ContentsChange) (old new : State) → IsChangeByEffect bytes t change → Does within applied snapshot_of change old new
      → Leaves within empty applied snapshot_of m node (said.Effect version number bytes) (took_of t) old new
  by_effect version number bytes took.Applied (Apply effect) old new is does = ap (λ b. applied b old) (sym is) ∙ does
  by_effect version number bytes took.Applied Keep old new is does = absurd is
  by_effect version number bytes took.Applied (Install snapshot) old new is does = absurd is
  by_effect version number bytes took.Adopted change old new is does = kept change _ new is does
  by_effect version number bytes took.Synced change old new is does = kept change _ new is does
  by_effect version number bytes took.Bridged change old new is does = kept change _ new is does
  by_effect version number bytes took.Acked change old new is does = kept change _ new is does
  by_effect version number bytes took.Frozen change old new is does = kept change _ new is does
  by_effect version number bytes took.Joined change old new is does = kept change _ new is does
  by_effect version number bytes took.Drained change old new is does = kept change _ new is does
  by_effect version number bytes took.Already change old new is does = kept change _ new is does
  by_effect version number bytes took.Gap change old new is does = kept change _ new is does
  by_effect version number bytes took.Other change old new is does = kept change _ new is does
  by_effect version number bytes took.Stale change old new is does = kept change _ new is does
  by_effect version number bytes took.Dropped change old new is does = kept change _ new is does

  -- what was done to the state that the row leaves
  pub leaves_so : (message : MemberMessage) (t : Took) (change : ContentsChange) (old new : State) → IsChangeBy message t change → Does within applied snapshot_of change (left_by empty m (row_in message) node old) new
      → Leaves within empty applied snapshot_of m node message (took_of t) old new
  leaves_so (said.Sync row count bytes) t change old new is does = by_sync row count bytes t change old new is does
  leaves_so (said.Effect version number bytes) t change old new is does = by_effect version number bytes t change old new is does
  leaves_so (said.NewRow row) t change old new is does = kept change _ new is does
  leaves_so (said.Bridge row base count) t change old new is does = kept change _ new is does
  leaves_so (said.Ack version count) t change old new is does = kept change _ new is does
  leaves_so (said.Joined version member) t change old new is does = kept change _ new is does
  leaves_so (said.Freeze version) t change old new is does = kept change _ new is does
  leaves_so (said.Frozen version) t change old new is does = kept change _ new is does

-- by whether the row is newer

newer_is : (row r : Row) (node : Node) → Some r ≡ if_newer row node → (row ≡ r) × (is_newer row node ≡ true)
newer_is row r node e = go (cases (is_newer row node))
  where
    go : (is_newer row node ≡ true) ⊎ (is_newer row node ≡ false) → (row ≡ r) × (is_newer row node ≡ true)
    go (inl n) = (cc (rw n at e), n)
    go (inr n) = absurd (cc (rw n at e))

older_is : (row : Row) (node : Node) → None ≡ if_newer row node → is_newer row node ≡ false
older_is row node e = go (cases (is_newer row node))
  where
    go : (is_newer row node ≡ true) ⊎ (is_newer row node ≡ false) → is_newer row node ≡ false
    go (inl n) = absurd (cc (rw n at e))
    go (inr n) = n

-- it is, and is adopted

pub adopted_ring : (m : ℕ) (message : MemberMessage) (r : Row) (node : Node) (ring : List (List ℕ)) → Some r ≡ newer_row message node → ring_in m r node ring ≡ ring_after_taking m node (row_in message) ring
adopted_ring m message r node ring = go (row_in message)
  where
    go : (o : Option Row) → Some r ≡ newer_of o node → ring_in m r node ring ≡ ring_after_taking m node o ring
    go None e = absurd (cc)
    go (Some row) e = let is = newer_is row r node e in ap (λ x. ring_in m x node ring) (sym is.0) ∙ sym (at row is.1)
      where
        at : (row : Row) → is_newer row node ≡ true → ring_after_row m row node ring ≡ ring_in m row node ring
        at row n = rw n refl

pub adopted_state : {State : Type 0} (empty : State) (m : ℕ) (message : MemberMessage) (r : Row) (node : Node) (old : State) → Some r ≡ newer_row message node
    → state_in empty m r node old ≡ left_by empty m (row_in message) node old
adopted_state empty m message r node old = go (row_in message)
  where
    go : (o : Option Row) → Some r ≡ newer_of o node → state_in empty m r node old ≡ left_by empty m o node old
    go None e = absurd (cc)
    go (Some row) e = let is = newer_is row r node e in ap (λ x. state_in empty m x node old) (sym is.0) ∙ sym (at row is.1)
      where
        at : (row : Row) → is_newer row node ≡ true → state_after_row empty m row node old ≡ state_in empty m row node old
        at row n = rw n refl

-- it isn't, or there is none

pub staying_ring : (m : ℕ) (message : MemberMessage) (node : Node) (ring : List (List ℕ)) → None ≡ newer_row message node → ring ≡ ring_after_taking m node (row_in message) ring
staying_ring m message node ring = go (row_in message)
  where
    go : (o : Option Row) → none ≡ newer_of o node → ring ≡ ring_after_taking m node o ring
    go None e = refl
    go (Some row) e = sym (at row (older_is row node e))
      where
        at : (row : Row) → is_newer row node ≡ false → ring_after_row m row node ring ≡ ring
        at row n = rw n refl

pub staying_state : {State : Type 0} (empty : State) (m : ℕ) (message : MemberMessage) (node : Node) (old : State) → None ≡ newer_row message node → old ≡ left_by empty m (row_in message) node old
staying_state empty m message node old = go (row_in message)
  where
    go : (o : Option Row) → none ≡ newer_of o node → old ≡ left_by empty m o node old
    go None e = refl
    go (Some row) e = sym (at row (older_is row node e))
      where
        at : (row : Row) → is_newer row node ≡ false → state_after_row empty m row node old ≡ old
        at row n = rw n refl
