-- How a member takes each message, and what it sends again.
use Rattle.std.specs.Prelude.{ℕ, ◌+◌, Bool, true, not, ◌&&◌, ◌||◌, ◌==◌, nat_lt, nat_le, if◌then◌else◌, List, [], ◌∷◌, ◌++◌, Some, None, is_some}
use Rattle.std.specs.List.{flat_map}
use Rattle.partition_table.specs.declared.RowMember.{RowMember}
use Rattle.partition_table.specs.declared.Row.{Row}
use Rattle.partition_table.specs.Rows.{is_primary, is_backup, is_eligible, backups_of, is_empty}
use Rattle.partition_protocol.specs.Messages.{Message, NewRow, Sync, Effect, Bridge, Ack, Joined, Freeze, Frozen, Sent}
use Rattle.partition_protocol.specs.Took.{Took, Adopted, Synced, Applied, Bridged, Acked, Frozen as TookFrozen, Already, Gap, Other, Stale}
use Rattle.partition_protocol.specs.Node.{Node, acked, with_ack, settled}
use Rattle.partition_protocol.specs.CatchUp.{catch_up}
use Rattle.partition_protocol.specs.Adoption.{adopted_row, sent_on_adopting}

-- a node after a message, before any release; what it sends, and how it took the message
pub record Step : Type 0 where
  pub node : Node
  pub sent : List Sent
  pub took : Took

-- nothing is sent
abbrev pub unanswered : Node → Took → Step
unanswered node took = record { node = node; sent = []; took = took }

-- one message to one end
abbrev pub to_one : ℕ → Message → List Sent
to_one to m = record { to = to; message = m } ∷ []

-- the sender is told the pair of the taker
abbrev pub acknowledging : Node → ℕ → Took → Step
acknowledging node to took = record { node = node; sent = to_one to (Ack node.pair.version node.pair.count); took = took }

-- a row

-- the row is past the known one
abbrev pub is_newer : Row → Node → Bool
is_newer row node = nat_lt node.known.version row.version

-- a newer row is adopted
abbrev pub on_row : ℕ → Row → Node → Step
on_row m row node =
    if is_newer row node then (let next = adopted_row m row node in record { node = next; sent = sent_on_adopting m next; took = Adopted })
    else unanswered node Stale

-- A Sync and a Bridge carry a row too, which is adopted first where it is newer

-- the node after it looked at the row
abbrev pub after_row : ℕ → Row → Node → Node
after_row m row node = if is_newer row node then adopted_row m row node else node

-- and what it sent as it adopted it
abbrev pub sent_by_row : ℕ → Row → Node → List Sent
sent_by_row m row node = if is_newer row node then sent_on_adopting m (adopted_row m row node) else []

-- more was sent before
abbrev pub with_sent : List Sent → Step → Step
with_sent more s = record { node = s.node; sent = more ++ s.sent; took = s.took }

-- the node with other contents, by their name
abbrev pub with_pair : Node → ℕ → ℕ → Node
with_pair node v c = record node { pair = record { version = v; count = c } }

-- whole contents

-- the row's version after c effects is past what the node has
abbrev pub is_ahead : Row → ℕ → Node → Bool
is_ahead row c node = nat_lt node.pair.version row.version || ((node.pair.version == row.version) && nat_lt node.pair.count c)

-- a backup installs contents that are ahead of its own, and acknowledges what it then has
abbrev pub sync_backup : ℕ → Row → ℕ → Node → Step
sync_backup from row c node = if is_ahead row c node then acknowledging (with_pair node row.version c) from Synced else acknowledging node from Already

-- a Sync of an earlier version than the known one isn't for it, nor one for a member that isn't a backup
abbrev pub on_sync : ℕ → ℕ → Row → ℕ → Node → Step
on_sync m from row c node =
    if nat_lt row.version node.known.version then unanswered node Other
    else (let next = after_row m row node in
    with_sent (sent_by_row m row node) (if is_backup next.known m then sync_backup from row c next else unanswered next Other))

-- a bridge

-- a backup that has exactly what the row's version began with goes on in it, with the same contents and count
abbrev pub bridge_backup : ℕ → Row → ℕ → ℕ → Node → Step
bridge_backup from row e k node =
    if node.pair.version == row.version then acknowledging node from Already
    else if (node.pair.version == e) && (node.pair.count == k) then acknowledging (with_pair node row.version k) from Bridged
    else unanswered node Gap

-- what a Sync asks of its taker, a Bridge asks too
abbrev pub on_bridge : ℕ → ℕ → Row → ℕ → ℕ → Node → Step
on_bridge m from row e k node =
    if nat_lt row.version node.known.version then unanswered node Other
    else (let next = after_row m row node in
    with_sent (sent_by_row m row node) (if is_backup next.known m then bridge_backup from row e k next else unanswered next Other))

-- an effect: a backup with contents of its version applies the next one, and acknowledges it and any before it
abbrev pub on_effect : ℕ → ℕ → ℕ → ℕ → Node → Step
on_effect m from v i node =
    if not (is_backup node.known m && (node.pair.version == v)) then unanswered node Other
    else if i == node.pair.count + 1 then acknowledging (with_pair node v i) from Applied
    else if nat_le i node.pair.count then acknowledging node from Already
    else unanswered node Gap

-- an acknowledgement

-- the first one from a member that isn't eligible says that it has joined
abbrev pub joined_note : ℕ → ℕ → Node → List Sent
joined_note service b node =
    if is_some (acked node b) || is_eligible node.known b then [] else to_one service (Joined node.known.version b)

-- a frozen primary that just released its last answer says so
abbrev pub frozen_note : ℕ → Node → Node → List Sent
frozen_note service before after =
    if after.frozen && not (is_empty before.held) && is_empty after.held then to_one service (Frozen after.known.version) else []

-- the primary keeps an acknowledgement of the known version from a backup
abbrev pub on_ack : ℕ → ℕ → ℕ → ℕ → ℕ → Node → Step
on_ack service m from v c node =
    if is_primary node.known m && (node.known.version == v) && is_backup node.known from
    then (let next = record node { acks = with_ack from c node.acks } in
    record { node = next; sent = joined_note service from node ++ frozen_note service next (settled next); took = Acked })
    else unanswered node Stale

-- a Freeze: the primary of that version freezes, and says so at once where it holds no answer
abbrev pub on_freeze : ℕ → ℕ → ℕ → Node → Step
on_freeze service m v node =
    if is_primary node.known m && (node.known.version == v)
    then (let next = record node { frozen = true } in
    record { node = next; sent = if is_empty next.held then to_one service (Frozen v) else []; took = TookFrozen })
    else unanswered node Stale

-- how member m takes a message. What is said to the service isn't for a member
abbrev pub taking : ℕ → ℕ → ℕ → Message → Node → Step
taking service m from (NewRow row) node = on_row m row node
taking service m from (Sync row c) node = on_sync m from row c node
taking service m from (Bridge row e k) node = on_bridge m from row e k node
taking service m from (Effect v i) node = on_effect m from v i node
taking service m from (Ack v c) node = on_ack service m from v c node
taking service m from (Freeze v) node = on_freeze service m v node
taking service m from (Joined v b) node = unanswered node Other
taking service m from (Frozen v) node = unanswered node Other

-- sending again

-- a backup has acknowledged less than all
abbrev pub lags : Node → ℕ → Bool
lags node b = elim (acked node b) [ None ↦ true | Some c ↦ nat_lt c node.pair.count ]

-- that a member has joined is said again while the known row doesn't mark it
abbrev pub joined_again : ℕ → Node → RowMember → List Sent
joined_again service node b =
    if is_some (acked node b.member) && not b.eligible then to_one service (Joined node.known.version b.member) else []

-- a primary sends again the catch-up of each backup that lags, who has joined, and that it is frozen and holds nothing
abbrev pub sent_again : ℕ → Node → List Sent
sent_again service node =
    flat_map (λ (b : RowMember). if lags node b.member then catch_up node b else []) (backups_of node.known)
    ++ flat_map (joined_again service node) (backups_of node.known)
    ++ (if node.frozen && is_empty node.held then to_one service (Frozen node.known.version) else [])
