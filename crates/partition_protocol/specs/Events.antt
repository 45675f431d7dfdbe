-- What can happen to a partition, what each event does, and its outcome.
use Rattle.std.specs.Prelude.{ℕ, ◌+◌, Bool, not, ◌&&◌, ◌==◌, nat_lt, if◌then◌else◌, List, [], ◌∷◌, ◌++◌, Option, Some, None, slice_get}
use Rattle.grid_base.specs.Objects.{Object}
use Rattle.partition_table.specs.Rows.{is_in, is_empty, is_primary, is_among}
use Rattle.partition_protocol.specs.Messages.{Message, Joined, Freeze, Frozen, Packet}
use Rattle.partition_protocol.specs.Took.{Took, Dropped, Other}
use Rattle.partition_protocol.specs.Node.{Node, Pair, settled}
use Rattle.partition_protocol.specs.Replica.{taking, sent_again}
use Rattle.partition_protocol.specs.Execution.{reached, Reached, Executes, PartitionLost, WrongTarget, Migrating, executing, sent_on_executing}
use Rattle.partition_protocol.specs.Service.{Service, NoMove, Freezing, telling, detecting, MoveRefused, join_refused, move_refused, handover_refused, beginning, handing_over, Nothing, Freezes, MakesRow, AdvanceStep, advance_of, ReopenRefused, reopen_refused, reopening, on_joined, on_frozen, freezing_again, with_row}
use Rattle.partition_protocol.specs.History.{Executed, Called, Reset}
use Rattle.partition_protocol.specs.World.{World, map_or, is_live, pair_state, trail, with_base, with_node, with_entry, with_service}
use Rattle.partition_protocol.specs.Links.{link, taken_out, with_packets, sending}

-- members and the service are named by their numbers, the service's being the number of members
pub data Event (C : Type 0) : Type 0 where
  -- a call reaches a member at a moment
  Call : (member conn number : ℕ) (call : C) (now : ℕ) → Event C
  -- the message at that place of a link is handed over
  Deliver : (from to place : ℕ) → Event C
  -- it is lost
  Lose : (from to place : ℕ) → Event C
  -- it is in flight once more
  Repeat : (from to place : ℕ) → Event C
  -- a primary or the service sends again what may have been lost
  Resend : (end : ℕ) → Event C
  -- a member takes no further step. What it sent stays in flight
  Crash : (member : ℕ) → Event C
  -- the service is told that a member has crashed
  Detect : (member : ℕ) → Event C
  -- a member is to take another's place in the row
  BeginMove : (from to : ℕ) → Event C
  -- a member is to join the row
  BeginJoin : (to : ℕ) → Event C
  -- a backup is to lead in place of the primary, which leaves the row
  BeginHandover : (from to : ℕ) → Event C
  -- the move under way takes its next step
  Advance : Event C
  -- the loss of a lost partition is accepted, and it goes on empty
  Reopen : Event C

-- what became of an event
pub data Outcome : Type 0 where
  -- its condition was false
  NothingDone : Outcome
  Done : Outcome
  -- the call was executed, and its answer waits for the backups
  HeldAt : (seen : ℕ) → Outcome
  -- the call was executed, and its answer given at once
  ReleasedAt : (seen : ℕ) → Outcome
  -- the call wasn't executed
  Refused : Reached → Outcome
  TookMessage : Took → Outcome
  RowMadeAt : (version : ℕ) → Outcome
  MoveIsRefused : MoveRefused → Outcome
  ReopenIsRefused : ReopenRefused → Outcome

-- the partition after an event, and the outcome
pub record Happened (C : Type 0) : Type 0 where
  pub world : World C
  pub outcome : Outcome

-- where an event's condition is false, nothing changes
abbrev pub nothing : {C : Type 0} → World C → Happened C
nothing w = record { world = w; outcome = NothingDone }

-- the event did what it says, and there is no more to tell
abbrev pub done : {C : Type 0} → World C → Happened C
done w = record { world = w; outcome = Done }

-- only a live member takes a step
abbrev pub at_node : {C : Type 0} → World C → ℕ → (Node → Happened C) → Happened C
at_node w m f = if is_live w m then map_or (slice_get w.nodes m) (nothing w) f else nothing w

-- calls

-- what is recorded of a call: the version and the count that the node then has, and the reply in the state before
abbrev pub entry_of : {C State : Type 0} → Object C State → State → ℕ → ℕ → C → ℕ → Pair → Executed C
entry_of o s conn number call now at = record { conn = conn; number = number; version = at.version; seen = at.count; now = now; call = call; reply = o.reply s call now }

-- the entry is recorded, the node holds the answer and releases what it can, and the effect is sent to the backups
abbrev pub executed_with : {C State : Type 0} → Object C State → World C → ℕ → ℕ → ℕ → C → ℕ → State → Bool → Node → Happened C
executed_with o w m conn number call now s changes after = record {
  world = sending (with_node (with_entry w (Called (entry_of o s conn number call now after.pair))) m after) m (sent_on_executing changes after);
  outcome = if is_empty (settled after).held then ReleasedAt after.pair.count else HeldAt after.pair.count;
}

-- a call is executed on the contents that the node's pair names
abbrev pub executes : {C State : Type 0} → Object C State → World C → ℕ → ℕ → ℕ → C → ℕ → Node → Happened C
executes o w m conn number call now node =
    let s = pair_state o w node.pair in
    let changes = o.changes s call now in
    executed_with o w m conn number call now s changes (executing changes conn number node)

-- a refusal changes nothing
abbrev pub if_executes : {C : Type 0} → World C → Reached → Happened C → Happened C
if_executes w Executes h = h
if_executes w (PartitionLost v) h = record { world = w; outcome = Refused (PartitionLost v) }
if_executes w (WrongTarget v) h = record { world = w; outcome = Refused (WrongTarget v) }
if_executes w (Migrating v) h = record { world = w; outcome = Refused (Migrating v) }

-- a call that reaches a live member
abbrev pub calling : {C State : Type 0} → Object C State → World C → ℕ → ℕ → ℕ → C → ℕ → Node → Happened C
calling o w m conn number call now node = if_executes w (reached m node) (executes o w m conn number call now node)

-- messages

-- a live member takes a message: it adopts, settles, and sends
abbrev pub delivered : {C : Type 0} → World C → Packet → Node → Happened C
delivered w p node =
    let s = taking w.members p.to p.from p.message node in
    record { world = sending (with_node (with_base w p.to node s.node) p.to s.node) p.to s.sent; outcome = TookMessage s.took }

-- what is said to a member isn't for the service
abbrev pub service_takes : {C : Type 0} → World C → Message → Happened C
service_takes w (Joined v m) = let s = on_joined v m w.service in record { world = with_service w s.service; outcome = TookMessage s.took }
service_takes w (Frozen v) = let s = on_frozen v w.service in record { world = record w { service = s.service }; outcome = TookMessage s.took }
service_takes w _ = record { world = w; outcome = TookMessage Other }

-- what is handed over to a crashed member is dropped
abbrev pub handed_over : {C : Type 0} → World C → Packet → Happened C
handed_over w p =
    if p.to == w.members then service_takes w p.message
    else if is_live w p.to then at_node w p.to (delivered w p)
    else record { world = w; outcome = TookMessage Dropped }

-- of the message at that place of a link, if there is one
abbrev pub at_place : {C : Type 0} → World C → ℕ → ℕ → ℕ → (Packet → Happened C) → Happened C
at_place w f t i g = map_or (slice_get (link f t w.packets) i) (nothing w) g

-- the service always, and a member where it is primary
abbrev pub resent : {C : Type 0} → World C → ℕ → Happened C
resent w end =
    if end == w.members then done (sending w end (telling w.members w.service ++ freezing_again w.service))
    else at_node w end (λ node. if is_primary node.known end then done (sending w end (sent_again w.members node)) else nothing w)

-- rows

-- each new row is sent to every undetected member
abbrev pub told_all : {C : Type 0} → World C → Service → World C
told_all w s = sending (with_service w s) w.members (telling w.members s)

-- the newest row is told
abbrev pub row_made : {C : Type 0} → World C → Service → Happened C
row_made w s = record { world = told_all w s; outcome = RowMadeAt s.row.version }

-- a refusal changes nothing
abbrev pub unless_move_refused : {C : Type 0} → World C → Option MoveRefused → Happened C → Happened C
unless_move_refused w None h = h
unless_move_refused w (Some r) h = record { world = w; outcome = MoveIsRefused r }

-- the service is told only of members that have crashed, and of each once
abbrev pub detected : {C : Type 0} → World C → ℕ → Happened C
detected w m =
    if nat_lt m w.members && is_among w.crashed m && not (is_among w.service.detected m)
    then (if is_in w.service.row m then row_made w (detecting m w.service) else done (with_service w (detecting m w.service)))
    else nothing w

-- a step of a move: a freeze is sent to the source, or a row ends the move
abbrev pub advanced_by : {C : Type 0} → World C → AdvanceStep → Happened C
advanced_by w Nothing = nothing w
advanced_by w (Freezes from to) =
    done (sending (with_service w (with_row w.service w.service.row (Freezing from to))) w.members (record { to = from; message = Freeze w.service.row.version } ∷ []))
advanced_by w (MakesRow row) = row_made w (with_row w.service row NoMove)

-- the move under way takes its next step
abbrev pub advanced : {C : Type 0} → World C → Happened C
advanced w = advanced_by w (advance_of w.service)

-- a reopening is recorded: the trail so far and the reset after it
abbrev pub with_reset : {C : Type 0} → World C → ℕ → World C
with_reset w r =
    record w {
      recorded = record w.recorded {
        log = w.recorded.log ++ Reset r ∷ [];
        openings = record { reset = r; entries = trail w ++ Reset r ∷ [] } ∷ w.recorded.openings;
      };
    }

-- a refusal changes nothing
abbrev pub unless_reopen_refused : {C : Type 0} → World C → Option ReopenRefused → Happened C → Happened C
unless_reopen_refused w None h = h
unless_reopen_refused w (Some r) h = record { world = w; outcome = ReopenIsRefused r }

-- the reset is the version of the new row
abbrev pub reopened_row : {C : Type 0} → World C → Happened C
reopened_row w =
    unless_reopen_refused w (reopen_refused w.partition w.members w.service)
    (row_made (with_reset w (w.service.row.version + 1)) (reopening w.partition w.members w.backups w.service))

-- what an event does
abbrev pub happens : {C State : Type 0} → Object C State → World C → Event C → Happened C
happens o w (Call m conn number call now) = at_node w m (calling o w m conn number call now)
happens o w (Deliver f t i) = at_place w f t i (λ p. handed_over (with_packets w (taken_out f t i w.packets)) p)
happens o w (Lose f t i) = at_place w f t i (λ p. done (with_packets w (taken_out f t i w.packets)))
happens o w (Repeat f t i) = at_place w f t i (λ p. done (with_packets w (w.packets ++ p ∷ [])))
happens o w (Resend end) = resent w end
happens o w (Crash m) = if is_live w m then done (record w { crashed = m ∷ w.crashed }) else nothing w
happens o w (Detect m) = detected w m
happens o w (BeginMove from to) = unless_move_refused w (move_refused w.members from to w.service) (row_made w (beginning (Some from) to w.service))
happens o w (BeginJoin to) = unless_move_refused w (join_refused w.members to w.service) (row_made w (beginning None to w.service))
happens o w (BeginHandover from to) = unless_move_refused w (handover_refused from to w.service) (done (with_service w (handing_over from to w.service)))
happens o w Advance = advanced w
happens o w Reopen = reopened_row w

-- the world after a list of events
abbrev pub run : {C State : Type 0} → Object C State → World C → List (Event C) → World C
run o w [] = w
run o w (e ∷ es) = run o (happens o w e).world es
