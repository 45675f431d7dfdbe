-- The table service's part of a partition: its newest row, the move under way and the members that it was told had crashed.
use Rattle.std.specs.Prelude.{ℕ, zero, suc, Bool, true, false, not, ◌&&◌, ◌||◌, ◌==◌, nat_lt, if◌then◌else◌, List, [], ◌∷◌, ◌++◌, map, Option, Some, None, filter}
use Rattle.partition_table.specs.declared.Row.{Row}
use Rattle.partition_table.specs.Rows.{is_in, is_primary, is_backup, is_eligible, is_empty, without, with_joiner, handed, with_eligible, reopened, members_from, with_backups, is_among}
use Rattle.partition_protocol.specs.Messages.{NewRow, Freeze, Sent}
use Rattle.partition_protocol.specs.Took.{Took, Joined as TookJoined, Drained as TookDrained, Stale}

-- A move brings its target into the row and takes its source out of it. One without a source only brings in
pub data Move : Type 0 where
  NoMove : Move
  -- the target is in the row, without the contents yet
  Joining : (source : Option ℕ) (target : ℕ) → Move
  -- the target has the contents, and is eligible
  Joined : (source target : ℕ) → Move
  -- the source, which is primary, was told to freeze
  Freezing : (source target : ℕ) → Move
  -- the source executes nothing more, and holds no answer
  Drained : (source target : ℕ) → Move

-- what the service keeps: the members that it was told had crashed are the detected ones
pub record Service : Type 0 where
  pub row : Row
  pub move : Move
  pub detected : List ℕ

-- the numbers below n
abbrev pub numbers_below : ℕ → List ℕ
numbers_below zero = []
numbers_below (suc n) = numbers_below n ++ n ∷ []

-- the members of whose crash the service wasn't told
abbrev pub undetected : ℕ → List ℕ → List ℕ
undetected members detected = filter (λ m. not (is_among detected m)) (numbers_below members)

-- these are told of the newest row
abbrev pub telling : ℕ → Service → List Sent
telling members s = map (λ m. record { to = m; message = NewRow s.row }) (undetected members s.detected)

-- the newest row and the move are now these
abbrev pub with_row : Service → Row → Move → Service
with_row s row move = record { row = row; move = move; detected = s.detected }

-- a member is told to have crashed

-- where the target is eligible in the row, the move has got as far as Joined, or is done if it has no source
abbrev pub begun_move : Row → Option ℕ → ℕ → Move
begun_move row None target = if is_eligible row target then NoMove else Joining None target
begun_move row (Some source) target = if is_eligible row target then Joined source target else Joining (Some source) target

-- the member is the move's source or target
abbrev pub is_in_move : ℕ → Move → Bool
is_in_move m NoMove = false
is_in_move m (Joining None t) = t == m
is_in_move m (Joining (Some s) t) = (s == m) || (t == m)
is_in_move m (Joined s t) = (s == m) || (t == m)
is_in_move m (Freezing s t) = (s == m) || (t == m)
is_in_move m (Drained s t) = (s == m) || (t == m)

-- a new row thaws the source, so the move begins again with it
abbrev pub move_in_row : Row → Move → Move
move_in_row row NoMove = NoMove
move_in_row row (Joining s t) = begun_move row s t
move_in_row row (Joined s t) = begun_move row (Some s) t
move_in_row row (Freezing s t) = begun_move row (Some s) t
move_in_row row (Drained s t) = begun_move row (Some s) t

-- a move ends where the row is lost, or the member lost was a part of it
abbrev pub move_after_loss : ℕ → Row → Move → Move
move_after_loss m row move = if row.lost || is_in_move m move then NoMove else move_in_row row move

-- a member of the row is left out by a new row
abbrev pub detecting : ℕ → Service → Service
detecting m s =
    let told : Service = record { row = s.row; move = s.move; detected = m ∷ s.detected } in
    if is_in s.row m then (let row = without s.row m in with_row told row (move_after_loss m row s.move)) else told

-- moves and handovers begin

-- why a move or a handover isn't begun
pub data MoveRefused : Type 0 where
  -- the row is lost
  Lost : MoveRefused
  -- a move is under way
  NotIdle : MoveRefused
  -- the source isn't in the row; of a handover, it isn't primary or the target isn't a backup
  NotThere : MoveRefused
  -- the target is in the row
  AlreadyThere : MoveRefused
  -- the target is detected, or is no member
  NotLive : MoveRefused
  -- the target isn't eligible
  NotEligible : MoveRefused

-- no move is under way
abbrev pub is_idle : Move → Bool
is_idle NoMove = true
is_idle _ = false

-- why a member can't join the row, the first reason that applies
abbrev pub join_refused : ℕ → ℕ → Service → Option MoveRefused
join_refused members to s =
    if s.row.lost then Some Lost
    else if not (is_idle s.move) then Some NotIdle
    else if is_in s.row to then Some AlreadyThere
    else if is_among s.detected to || not (nat_lt to members) then Some NotLive
    else None

-- a move has a source too, which must be in the row
abbrev pub move_refused : ℕ → ℕ → ℕ → Service → Option MoveRefused
move_refused members from to s =
    if s.row.lost then Some Lost
    else if not (is_idle s.move) then Some NotIdle
    else if not (is_in s.row from) then Some NotThere
    else join_refused members to s

-- a handover is from the primary to a backup that is eligible
abbrev pub handover_refused : ℕ → ℕ → Service → Option MoveRefused
handover_refused from to s =
    if s.row.lost then Some Lost
    else if not (is_idle s.move) then Some NotIdle
    else if not (is_primary s.row from && is_backup s.row to) then Some NotThere
    else if not (is_eligible s.row to) then Some NotEligible
    else None

-- a new row has the target, last and not eligible
abbrev pub beginning : Option ℕ → ℕ → Service → Service
beginning source to s = with_row s (with_joiner s.row to) (Joining source to)

-- the target has the contents already, so a handover makes no row
abbrev pub handing_over : ℕ → ℕ → Service → Service
handing_over from to s = with_row s s.row (Joined from to)

-- a move goes on

-- what the next step of the move does: nothing, a freeze of the source, or a row
pub data AdvanceStep : Type 0 where
  Nothing : AdvanceStep
  Freezes : (source target : ℕ) → AdvanceStep
  MakesRow : (row : Row) → AdvanceStep

-- A source that is a backup leaves the row at once. A primary is frozen first, and the target leads only once it is drained
abbrev pub advance_by : Row → Move → AdvanceStep
advance_by row NoMove = Nothing
advance_by row (Joining s t) = Nothing
advance_by row (Joined from to) = if is_primary row from then Freezes from to else MakesRow (without row from)
advance_by row (Freezing s t) = Nothing
advance_by row (Drained from to) = MakesRow (handed row from to)

-- the next step of the move under way
abbrev pub advance_of : Service → AdvanceStep
advance_of s = advance_by s.row s.move

-- a lost partition is reopened

-- why a partition isn't reopened
pub data ReopenRefused : Type 0 where
  NotLost : ReopenRefused
  -- every member is detected
  NoMember : ReopenRefused

-- the undetected members from the partition's own on, in order modulo the number of members
abbrev pub candidates : ℕ → ℕ → List ℕ → List ℕ
candidates partition members detected = filter (λ m. not (is_among detected m)) (members_from members members partition)

-- a row that isn't lost stays, and one with nobody to begin it isn't made
abbrev pub reopen_refused : ℕ → ℕ → Service → Option ReopenRefused
reopen_refused partition members s = if not s.row.lost then Some NotLost else if is_empty (candidates partition members s.detected) then Some NoMember else None

-- the first candidate leads, and up to so many backups follow it
abbrev pub reopening : ℕ → ℕ → ℕ → Service → Service
reopening partition members backups s = with_row s (reopened s.row (with_backups backups (candidates partition members s.detected))) NoMove

-- taking a message

-- a move that waits for this member has its target in place
abbrev pub joined_move : ℕ → Move → Move
joined_move m (Joining None t) = if t == m then NoMove else Joining None t
joined_move m (Joining (Some s) t) = if t == m then Joined s t else Joining (Some s) t
joined_move m NoMove = NoMove
joined_move m (Joined s t) = Joined s t
joined_move m (Freezing s t) = Freezing s t
joined_move m (Drained s t) = Drained s t

-- the service after a message, and how it took it
pub record ServiceStep : Type 0 where
  pub service : Service
  pub took : Took

-- a member of the newest row that has joined becomes eligible, once
abbrev pub on_joined : ℕ → ℕ → Service → ServiceStep
on_joined v m s =
    if (s.row.version == v) && is_in s.row m && not (is_eligible s.row m)
    then record { service = with_row s (with_eligible s.row m) (joined_move m s.move); took = TookJoined }
    else record { service = s; took = Stale }

-- the source of a freezing move is drained
abbrev pub drained_move : Move → Move
drained_move NoMove = NoMove
drained_move (Joining s t) = Joining s t
drained_move (Joined s t) = Joined s t
drained_move (Freezing s t) = Drained s t
drained_move (Drained s t) = Drained s t

-- the source was told to freeze
abbrev pub is_freezing : Move → Bool
is_freezing (Freezing s t) = true
is_freezing _ = false

-- a source that was told to freeze in the newest row is drained
abbrev pub on_frozen : ℕ → Service → ServiceStep
on_frozen v s =
    if is_freezing s.move && (s.row.version == v)
    then record { service = with_row s s.row (drained_move s.move); took = TookDrained }
    else record { service = s; took = Stale }

-- sending again

-- a freeze to the source of a freezing move
abbrev pub freeze_of : Row → Move → List Sent
freeze_of row NoMove = []
freeze_of row (Joining s t) = []
freeze_of row (Joined s t) = []
freeze_of row (Freezing from to) = record { to = from; message = Freeze row.version } ∷ []
freeze_of row (Drained s t) = []

-- a source that hasn't said that it is frozen is told again
abbrev pub freezing_again : Service → List Sent
freezing_again s = freeze_of s.row s.move
