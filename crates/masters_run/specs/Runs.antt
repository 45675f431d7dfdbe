-- The run of a script's grid whose table service may run on its members: the run of the grid, and the masters of each partition. Nothing new happens to the grid: each event of a partition is taken as the grid takes it, so the run of the grid is a run.
use Rattle.std.specs.Prelude.{ℕ, zero, suc, ◌-◌, Bool, true, false, not, ◌&&◌, ◌==◌, nat_le, if◌then◌else◌, List, [], ◌∷◌, length, replicate, slice_get, slice_set, Option, Some, None, unwrap_or}
use Rattle.std.specs.List.{find, list_any}
use Rattle.grid_base.specs.Objects.{Object}
use Rattle.grid_base.specs.declared.names.CallId.{CallId}
use Rattle.grid_base.specs.declared.calls.Request.{Request}
use Rattle.object_store.specs.Partitions.{Partition}
use Rattle.partition_protocol.specs.Service.{numbers_below}
use Rattle.partition_protocol.specs.World.{World}
use Rattle.partition_protocol.specs.Events.{Event}
use Rattle.partition_world.specs.LinkOrder.{links_of, is_busy}
use Rattle.partition_world.specs.declared.Link.{Link}
use Rattle.masters_protocol.specs.Machine.{Masters, link}
use Rattle.masters_protocol.specs.Machine as masters
use Rattle.masters_world.specs.Decisions.{Decision}
use Rattle.masters_world.specs.Machine.{Ruled, Line, Asks, MasterDeliver, asked_by, masters_after, events_by}
use Rattle.replay_run.specs.Runs.{Run, partitions, world_at, most_in_flight, takes, delivery_on, next_line}
use Rattle.replay_run.specs.Runs as grid

pub record RuledRun : Type 0 where
  pub run : Run
  pub masters : List (Masters Decision)  -- those of each partition. None where each has the one table service

-- after the first line
abbrev pub begun : ℕ → ℕ → RuledRun
begun members backups = record { run = grid.begun members backups; masters = [] }

abbrev pub are_some : List (Masters Decision) → Bool
are_some [] = false
are_some (w ∷ ws) = true

abbrev pub has_masters : RuledRun → Bool
has_masters s = are_some s.masters

-- the masters of each partition, as they begin
abbrev pub opening_masters : ℕ → List (Masters Decision)
opening_masters members = replicate partitions (masters.start members)

abbrev pub masters_at : RuledRun → ℕ → Masters Decision
masters_at s p = unwrap_or (slice_get s.masters p) (masters.start s.run.members)

-- a partition with its masters
abbrev pub ruled_at : {State : Type 0} → Object Request State → RuledRun → ℕ → Ruled Request
ruled_at o s p = record { masters = masters_at s p; world = world_at o s.run p }

-- what is asked for in one partition

-- whether an event may have masters send
abbrev pub may_send : masters.Event Decision → Bool
may_send (masters.Crash m) = false
may_send (masters.Lose f t i) = false
may_send event = true

-- the links between so many masters, in order of senders and takers
abbrev pub links_between : Masters Decision → List Link
links_between w = links_of (w.size - 1)

abbrev pub is_full_link : Masters Decision → Link → Bool
is_full_link w l = nat_le most_in_flight (length (link l.from l.to w.packets))

-- Masters are asked nothing that may have them send while a link between them is full.
abbrev pub has_full_link : Masters Decision → Bool
has_full_link w = list_any (is_full_link w) (links_between w)

abbrev pub meets_full_link : Masters Decision → List (masters.Event Decision) → Bool
meets_full_link w events = list_any may_send events && has_full_link w

abbrev pub takes_each : Object Request Partition → List CallId → Run → ℕ → List (Event Request) → Run
takes_each o skips r p [] = r
takes_each o skips r p (e ∷ es) = takes_each o skips (takes o skips r p e) p es

abbrev pub given_up : RuledRun → RuledRun
given_up s = record s { run = grid.given_up s.run }

-- The masters are asked what the line asks them, and what happens at once or is published happens to the partition, as the grid takes events: with the answers that it releases, and the turns of calls that wait.
abbrev pub goes : Object Request Partition → List CallId → RuledRun → ℕ → Line Request → RuledRun
goes o skips s p l =
    let j = ruled_at o s p in
    if meets_full_link j.masters (asked_by j l) then given_up s
    else record { run = takes_each o skips s.run p (events_by j l); masters = slice_set s.masters p (masters_after j l) }

-- the same in each of these partitions, in order
abbrev pub goes_in : Object Request Partition → List CallId → RuledRun → Line Request → List ℕ → RuledRun
goes_in o skips s l [] = s
goes_in o skips s l (p ∷ ps) = goes_in o skips (goes o skips s p l) l ps

-- `flow`: the first message of a partition's first link to a member that has one is delivered, up to so many times. The links to the table service are passed by

abbrev pub is_to_member : {C : Type 0} → World C → Link → Bool
is_to_member w l = not (l.to == w.members) && is_busy w l

-- the first member to whom a message from that end is in flight
abbrev pub is_reached : {C : Type 0} → World C → ℕ → ℕ → Bool
is_reached w from to = is_busy w (record { from = from; to = to })

abbrev pub member_reached : {C : Type 0} → World C → ℕ → Option ℕ
member_reached w from = find (is_reached w from) (numbers_below w.members)

abbrev pub link_to_member : {C : Type 0} → World C → Option Link
link_to_member w = find (is_to_member w) (links_of w.members)

abbrev pub flowed : Object Request Partition → List CallId → RuledRun → ℕ → ℕ → RuledRun
flowed o skips s p zero = s
flowed o skips s p (suc most) = elim (link_to_member (world_at o s.run p)) [ None ↦ s | Some l ↦ flowed o skips (goes o skips s p (Asks (delivery_on l))) p most ]

abbrev pub flowed_in : Object Request Partition → List CallId → RuledRun → ℕ → List ℕ → RuledRun
flowed_in o skips s most [] = s
flowed_in o skips s most (p ∷ ps) = flowed_in o skips (flowed o skips s p most) most ps

-- `mflow`: the same between masters

abbrev pub is_busy_link : Masters Decision → Link → Bool
is_busy_link w l = not (length (link l.from l.to w.packets) == 0)

abbrev pub link_between : Masters Decision → Option Link
link_between w = find (is_busy_link w) (links_between w)

abbrev pub handing_over : Link → Line Request
handing_over l = MasterDeliver l.from l.to 0

abbrev pub flowed_between : Object Request Partition → List CallId → RuledRun → ℕ → ℕ → RuledRun
flowed_between o skips s p zero = s
flowed_between o skips s p (suc most) = elim (link_between (masters_at s p)) [ None ↦ s | Some l ↦ flowed_between o skips (goes o skips s p (handing_over l)) p most ]

-- a line that is counted, and whose events are still to come
abbrev pub counted : RuledRun → RuledRun
counted s = record s { run = next_line s.run }
