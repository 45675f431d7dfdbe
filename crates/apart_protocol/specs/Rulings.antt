-- The table service of a partition alone: what it does with a message, with a crash that it is told of, and with a move.
use Rattle.std.specs.Prelude.{ℕ, ◌+◌, if◌then◌else◌, List, [], ◌∷◌, ◌++◌, Option, Some, None}
use Rattle.partition_table.specs.Rows.{is_in, is_among}
use Rattle.partition_protocol.specs.Messages.{Message, Joined, Freeze, Frozen, Sent}
use Rattle.partition_protocol.specs.Service.{Service, NoMove, Freezing, with_row, telling, freezing_again, detecting, move_refused, join_refused, handover_refused, beginning, handing_over, AdvanceStep, Nothing, Freezes, MakesRow, advance_of, reopen_refused, reopening, on_joined, on_frozen}

pub data Ruling : Type 0 where
  -- it takes a message of a member
  Takes : (from : ℕ) (message : Message) → Ruling
  -- it sends again what may have been lost
  Resends : Ruling
  -- it is told that a member has crashed
  Detect : (member : ℕ) → Ruling
  -- a move, a join or a handover begins, and goes on
  BeginMove : (from to : ℕ) → Ruling
  BeginJoin : (to : ℕ) → Ruling
  BeginHandover : (from to : ℕ) → Ruling
  Advance : Ruling
  -- the loss of a lost partition is accepted
  Reopen : Ruling

-- what comes of it
pub record Ruled : Type 0 where
  pub service : Service
  pub sent : List Sent
  pub resets : List ℕ  -- the reset of the row that reopens, if one does

-- this service, and nothing sent
abbrev pub quiet : Service → Ruled
quiet s = record { service = s; sent = []; resets = [] }

-- the newest row is told
abbrev pub tells : ℕ → Service → Ruled
tells n s = record { service = s; sent = telling n s; resets = [] }

-- a refusal changes nothing
abbrev pub unless_refused : {X : Type 0} → Option X → Service → Ruled → Ruled
unless_refused None s next = next
unless_refused (Some r) s next = quiet s

abbrev pub hears : Message → Service → Service
hears (Joined v m) s = (on_joined v m s).service
hears (Frozen v) s = (on_frozen v s).service
hears _ s = s

-- of each crash it is told once
abbrev pub detects : ℕ → ℕ → Service → Ruled
detects n m s = if is_among s.detected m then quiet s else if is_in s.row m then tells n (detecting m s) else quiet (detecting m s)

-- the old primary is asked to freeze
abbrev pub freezes : (from to : ℕ) → Service → Ruled
freezes from to s = record {
  service = with_row s s.row (Freezing from to);
  sent = record { to = from; message = Freeze s.row.version } ∷ [];
  resets = [];
}

abbrev pub advances : ℕ → Service → AdvanceStep → Ruled
advances n s Nothing = quiet s
advances n s (Freezes from to) = freezes from to s
advances n s (MakesRow row) = tells n (with_row s row NoMove)

abbrev pub reopens : (partition n backups : ℕ) → Service → Ruled
reopens p n b s = let next = reopening p n b s in record { service = next; sent = telling n next; resets = (s.row.version + 1) ∷ [] }

-- of a partition of n members, with so many backups at most
abbrev pub rules : (partition n backups : ℕ) → Ruling → Service → Ruled
rules p n b (Takes from message) s = quiet (hears message s)
rules p n b Resends s = record { service = s; sent = telling n s ++ freezing_again s; resets = [] }
rules p n b (Detect m) s = detects n m s
rules p n b (BeginMove from to) s = unless_refused (move_refused n from to s) s (tells n (beginning (Some from) to s))
rules p n b (BeginJoin to) s = unless_refused (join_refused n to s) s (tells n (beginning None to s))
rules p n b (BeginHandover from to) s = unless_refused (handover_refused from to s) s (quiet (handing_over from to s))
rules p n b Advance s = advances n s (advance_of s)
rules p n b Reopen s = unless_refused (reopen_refused p n s) s (reopens p n b s)

-- over a list of rulings, and of nothing else
abbrev pub service_after : (partition n backups : ℕ) → Service → List Ruling → Service
service_after p n b s [] = s
service_after p n b s (r ∷ rs) = service_after p n b (rules p n b r s).service rs
