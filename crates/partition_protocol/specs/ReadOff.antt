-- What a member knows, read off the messages that were handed over to it.
use Rattle.std.specs.Prelude.{◌≡◌, ℕ, max, Bool, false, ◌&&◌, ◌==◌, nat_lt, if◌then◌else◌, List, [], ◌∷◌, ◌++◌, filter, Option, Some, None, slice_get}
use Rattle.std.specs.List.{flat_map, list_any}
use Rattle.grid_base.specs.Objects.{Object}
use Rattle.partition_table.specs.declared.Row.{Row}
use Rattle.partition_table.specs.Rows.{initial_row, is_primary, is_backup}
use Rattle.partition_protocol.specs.Messages.{Message, NewRow, Sync, Effect, Bridge, Ack, Joined, Freeze, Frozen, Packet}
use Rattle.partition_protocol.specs.Node.{Node, acked, or_opening}
use Rattle.partition_protocol.specs.World.{World, start, map_or, is_live}
use Rattle.partition_protocol.specs.Links.{link}
use Rattle.partition_protocol.specs.Events.{Event, Deliver, happens, run}

-- the messages that a member took

-- the message that an event hands over to a live member, if it does
abbrev pub handed_by : {C : Type 0} → World C → Event C → List Packet
handed_by w (Deliver f t i) = map_or (slice_get (link f t w.packets) i) [] (λ (p : Packet). if is_live w p.to then p ∷ [] else [])
handed_by w _ = []

-- those that were handed over to member m from a world on, in order
abbrev pub taken_by : {C State : Type 0} → Object C State → ℕ → World C → List (Event C) → List Packet
taken_by o m w [] = []
taken_by o m w (e ∷ es) = filter (λ (p : Packet). p.to == m) (handed_by w e) ++ taken_by o m (happens o w e).world es

-- the row that it knows

abbrev pub row_in : Message → List Row
row_in (NewRow row) = row ∷ []
row_in (Sync row c) = row ∷ []
row_in (Bridge row e k) = row ∷ []
row_in (Effect v i) = []
row_in (Ack v c) = []
row_in (Joined v b) = []
row_in (Freeze v) = []
row_in (Frozen v) = []

-- the row of the greatest version among the first one and these; of several of that version, the first
abbrev pub newest : Row → List Row → Row
newest row [] = row
newest row (r ∷ rs) = newest (if nat_lt row.version r.version then r else row) rs

-- who began with that row and took these messages knows this one
abbrev pub known_by : Row → List Packet → Row
known_by row ps = newest row (flat_map (λ (p : Packet). row_in p.message) ps)

-- what it heard in a version

-- a message as it came: by whom it was sent, and the row that its taker knew then
pub record Came : Type 0 where
  pub row : Row
  pub from : ℕ
  pub message : Message

-- the messages as they came, from that row on
abbrev pub as_they_came : Row → List Packet → List Came
as_they_came row [] = []
as_they_came row (p ∷ ps) = record { row = row; from = p.from; message = p.message } ∷ as_they_came (newest row (row_in p.message)) ps

-- its taker was m, which knew itself primary of version v
abbrev pub is_to_primary : ℕ → ℕ → Row → Bool
is_to_primary m v row = (row.version == v) && is_primary row m

-- the count that backup b acknowledged in version v to its primary m
abbrev pub count_in : ℕ → ℕ → ℕ → Row → ℕ → Message → List ℕ
count_in m b v row from (Ack u c) = if (u == v) && is_to_primary m v row && (from == b) && is_backup row b then c ∷ [] else []
count_in m b v row from (NewRow r) = []
count_in m b v row from (Sync r c) = []
count_in m b v row from (Effect u i) = []
count_in m b v row from (Bridge r e k) = []
count_in m b v row from (Joined u k) = []
count_in m b v row from (Freeze u) = []
count_in m b v row from (Frozen u) = []

abbrev pub counts_by : ℕ → ℕ → ℕ → Row → List Packet → List ℕ
counts_by m b v row ps = flat_map (λ (x : Came). count_in m b v x.row x.from x.message) (as_they_came row ps)

abbrev pub greater : ℕ → Option ℕ → Option ℕ
greater c None = Some c
greater c (Some d) = Some (max c d)

abbrev pub greatest : List ℕ → Option ℕ
greatest [] = None
greatest (c ∷ cs) = greater c (greatest cs)

-- a freeze of version v came to its primary m
abbrev pub is_freeze : ℕ → ℕ → Row → Message → Bool
is_freeze m v row (Freeze u) = (u == v) && is_to_primary m v row
is_freeze m v row (NewRow r) = false
is_freeze m v row (Sync r c) = false
is_freeze m v row (Effect u i) = false
is_freeze m v row (Bridge r e k) = false
is_freeze m v row (Ack u c) = false
is_freeze m v row (Joined u k) = false
is_freeze m v row (Frozen u) = false

abbrev pub is_frozen_by : ℕ → ℕ → Row → List Packet → Bool
is_frozen_by m v row ps = list_any (λ (x : Came). is_freeze m v x.row x.message) (as_they_came row ps)

-- the facts of a member's node are those of the messages that it took, from its first row on
pub record IsReadOff (row : Row) (m : ℕ) (taken : List Packet) (node : Node) : Type 0 where
  pub known : node.known ≡ known_by row taken
  -- in the first row each member has acknowledged 0 from the start
  pub acked_by : (b : ℕ) → acked node b ≡ or_opening (node.known.version == row.version) (greatest (counts_by m b node.known.version row taken))
  pub frozen : node.frozen ≡ is_frozen_by m node.known.version row taken

abbrev pub EveryFactIsReadOff : {C State : Type 0} → Object C State → Type 0
EveryFactIsReadOff {C} o =
    (partition members backups : ℕ) (events : List (Event C)) (m : ℕ) (node : Node)
    → let opening = start partition members backups in
    slice_get (run o opening events).nodes m ≡ Some node
    → IsReadOff (initial_row partition members backups) m (taken_by o m opening events) node
