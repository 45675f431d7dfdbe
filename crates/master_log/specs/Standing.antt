-- The masters of the code stand for the machine's run of a list of events.
use Rattle.std.specs.Prelude.{◌≡◌, ℕ, ◌≤◌, ◌<◌, Bool, false, List, [], ◌∷◌, ◌++◌, length, map, take, slice_get, vec_len}
use Rattle.std.specs.List.{AllByRecursion}
use Rattle.partition_protocol.specs.World.{map_or}
use Rattle.partition_table.specs.Rows.{is_among}
use Rattle.masters_protocol.specs.Members.{Member, Outcome}
use Rattle.masters_protocol.specs.Machine.{Masters as Machine, Packet, Event, Happened, start, run, happens, link}
use Rattle.link_net.specs.Links.{HasLists}
use Rattle.master_wire.specs.declared.decision.Decision.{Decision}
use Rattle.master_wire.specs.Spelling.{spelling, IsSpelled}
use Rattle.master_log.specs.declared.masters.Masters.{Masters}

-- how many members there are
abbrev pub size_of : Masters → ℕ
size_of masters = masters.size

-- the bytes in flight on a link
abbrev pub flying : Machine Decision → ℕ → ℕ → List (List ℕ)
flying w f t = map (λ (p : Packet Decision). spelling p.message) (link f t w.packets)

-- a member's log: nothing where the number is no member's
abbrev pub log_at : Machine Decision → ℕ → List Decision
log_at w m = map_or (slice_get w.members m) [] (λ (n : Member Decision). n.log)

-- whether member m was told that x has crashed
abbrev pub was_told : Machine Decision → ℕ → ℕ → Bool
was_told w m x = map_or (slice_get w.members m) false (λ (n : Member Decision). is_among n.told x)

abbrev pub has_crashed : List Bool → ℕ → Bool
has_crashed crashed m = map_or (slice_get crashed m) false (λ is. is)

-- The code has what the machine has
pub record Shows (masters : Masters) (w : Machine Decision) : Type 0 where
  pub size : masters.size ≡ w.size
  pub count : vec_len masters.members ≡ w.size
  pub members : masters.members.items ≡ w.members
  pub marks : vec_len masters.crashed ≡ w.size
  pub crashed : (m : ℕ) → has_crashed masters.crashed.items m ≡ is_among w.crashed m
  -- the messages on each link are the bytes of those in flight there
  pub ends : masters.links.ends ≡ w.size
  pub links : HasLists masters.links (flying w)
  pub spelled : AllByRecursion (λ (p : Packet Decision). IsSpelled p.message) w.packets
  -- what was published is a front of the publisher's log
  pub publisher : masters.publisher < w.size
  pub length : masters.published ≡ length w.published
  pub published : take masters.published (log_at w masters.publisher) ≡ w.published

-- the machine after these events
abbrev pub run_of : Masters → List (Event Decision) → Machine Decision
run_of masters events = run (start (size_of masters)) events

-- The masters are those of these events
pub record StandsFor (masters : Masters) (events : List (Event Decision)) : Type 0 where
  pub some : 1 ≤ size_of masters
  pub most : size_of masters ≤ 8
  pub shows : Shows masters (run_of masters events)

-- what an event does after these
abbrev pub next_of : Masters → List (Event Decision) → Event Decision → Happened Decision
next_of masters events event = happens (run_of masters events) event

-- The event has run: the machine answers so, and the masters are those of one event more
pub record HasRun (old new : Masters) (events : List (Event Decision)) (event : Event Decision) (answer : Outcome) : Type 0 where
  pub outcome : answer ≡ (next_of old events event).outcome
  pub stands : StandsFor new (events ++ event ∷ [])
  pub size : size_of new ≡ size_of old

-- It has not run, and the masters are as they were
pub record IsKept (old new : Masters) (events : List (Event Decision)) : Type 0 where
  pub stands : StandsFor new events
  pub size : size_of new ≡ size_of old
