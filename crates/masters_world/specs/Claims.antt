-- What holds of a partition whose table service is run by masters, after every list of lines.
use Rattle.std.specs.Prelude.{◌≡◌, ℕ, ◌<◌, ◌≤◌, ◌⊎◌, true, false, List, [], ◌∷◌, ◌++◌, map, length, filter, Some, slice_get, Contains}
use Rattle.grid_base.specs.Objects.{Object}
use Rattle.partition_table.specs.declared.Row.{Row}
use Rattle.partition_table.specs.Rows.{numbers_of, is_among}
use Rattle.masters_protocol.specs.Members.{Member}
use Rattle.masters_protocol.specs.Machine as masters
use Rattle.masters_protocol.specs.Machine.{pending}
use Rattle.masters_protocol.specs.Claims.{IsSound, Agrees, is_busy}
use Rattle.partition_protocol.specs.Messages.{Message, Joined, Frozen}
use Rattle.partition_protocol.specs.Links.{link}
use Rattle.partition_protocol.specs.World as world
use Rattle.partition_protocol.specs.World.{World}
use Rattle.partition_protocol.specs.Events as partition
use Rattle.partition_protocol.specs.Arrivals.{arrivals, name, NamedOnce}
use Rattle.partition_protocol.specs.Claims.{IsSafe, IsFaithful}
use Rattle.masters_world.specs.Decisions.{Decision, Detect, Take, event_of, is_of_service, all_decided}
use Rattle.masters_world.specs.Machine.{Ruled, Line, Asks, start, at_once, masters_after, published_by, events_by, after, asked, events}

-- the message stands at that place of the link from f to the service's end n
abbrev pub InPlace : {C : Type 0} → ℕ → World C → ℕ → ℕ → Message → Type 0
InPlace n w f i x = slice_get (link f n w.packets) i ≡ Some (record { from = f; to = n; message = x })

-- only these are said to the service: that a member of the partition has joined, and that its primary is frozen
abbrev pub IsForService : ℕ → Message → Type 0
IsForService n (Joined v m) = m < n
IsForService n (Frozen v) = Unit {0}
IsForService n _ = ⊥

-- A decision to take finds its message in its place, and one that a member has crashed is of a member that has
abbrev pub IsRight : {C : Type 0} → ℕ → World C → Decision → Type 0
IsRight n w (Take f i x) = InPlace n w f i x × (f < n) × IsForService n x
IsRight n w (Detect m) = (m < n) × (is_among w.crashed m ≡ true)
IsRight n w _ = Unit {0}

-- a decision is published, alone, it is right, and nothing else happens to the partition
pub record Publishes {C : Type 0} (n : ℕ) (j : Ruled C) (l : Line C) : Type 0 where
  pub decision : Decision
  pub one : published_by j l ≡ decision ∷ []
  pub alone : at_once j l ≡ []
  pub right : IsRight n j.world decision
  -- and then nothing is pending
  pub settled : pending (masters_after j l) ≡ false

-- the events of the partition that are asked for
abbrev pub event_in : {C : Type 0} → Line C → List (partition.Event C)
event_in (Asks e) = e ∷ []
event_in _ = []

abbrev pub events_in : {C : Type 0} → List (Line C) → List (partition.Event C)
events_in [] = []
events_in (l ∷ ls) = event_in l ++ events_in ls

pub record IsWellRuled {C State : Type 0} (o : Object C State) (p n b : ℕ) (lines : List (Line C)) (j : Ruled C) (happened : List (partition.Event C)) : Type 0 where
  -- the masters are those of what they were asked, so all that is claimed of masters holds
  pub of_asked : masters.run (masters.start n) (asked o (start p n b) lines) ≡ j.masters
  pub sound : IsSound j.masters
  -- the world is that of what happened, so all that is claimed of the partition's protocol holds
  pub of_events : partition.run o (world.start p n b) happened ≡ j.world
  pub safe : NamedOnce (map name (arrivals (events_in lines))) → IsSafe o j.world × IsFaithful happened j.world
  -- the events that the service took are the published list, in order
  pub listed : filter (is_of_service n) happened ≡ map (event_of n) j.masters.published
  -- and the service alone over that list comes to the same row, move and detected members
  pub service : all_decided p n b (world.start {C = C} p n b).service j.masters.published ≡ j.world.service
  -- a member crashes as a master and as a keeper of the partition at once, and members are told only of members that crashed
  pub crashed : (m : ℕ) → is_among j.masters.crashed m ≡ is_among j.world.crashed m
  pub told : (m x : ℕ) (node : Member Decision) → slice_get j.masters.members m ≡ Some node → is_among node.told x ≡ true → is_among j.world.crashed x ≡ true
  -- a line publishes nothing, or one decision that is right
  pub next : (l : Line C) → (published_by j l ≡ []) ⊎ Publishes n j l
  -- where nothing is pending, nothing is refused as busy
  pub free : pending j.masters ≡ false → (d : Decision) → is_busy (masters.happens j.masters (masters.Propose d)).outcome ≡ false
  -- each event was asked for, or is a published decision
  pub sources : (e : partition.Event C) → Contains happened e → Contains (events_in lines) e ⊎ ((d : Decision) × Contains j.masters.published d × (e ≡ event_of n d))
  -- the calls are those that were asked for, in order
  pub calls : arrivals happened ≡ arrivals (events_in lines)
  -- a line makes at most one event, so there are no more events than lines
  pub single : (l : Line C) → length (events_by j l) ≤ 1
  pub steps : length happened ≤ length lines

abbrev pub EveryRunIsWellRuled : {C State : Type 0} → Object C State → Type 0
EveryRunIsWellRuled {C} o = (partition members backups : ℕ) (lines : List (Line C)) → 1 ≤ members → members ≤ 8
    → IsWellRuled o partition members backups lines (after o (start partition members backups) lines) (events o (start partition members backups) lines)

-- a row with the same members in the same order. Only marks of who may lead may differ
pub record IsSameRow (a b : Row) : Type 0 where
  pub version : b.version ≡ a.version
  pub reset : b.reset ≡ a.reset
  pub lost : b.lost ≡ a.lost
  pub members : numbers_of b ≡ numbers_of a

-- the same row, or one of a later version
abbrev pub GoesUp : Row → Row → Type 0
GoesUp a b = IsSameRow a b ⊎ (a.version < b.version)

-- at two moments, with the lines between
pub record GoesOn {C State : Type 0} (o : Object C State) (first : Ruled C) (lines more : List (Line C)) : Type 0 where
  -- the masters agree: the published list only grows, at its end, and where nothing is pending what is published later was proposed later
  pub masters : let j = after o first lines in Agrees j.masters (asked o j more) (after o first (lines ++ more)).masters
  -- what happened stays, and more comes at its end
  pub happened : events o first (lines ++ more) ≡ events o first lines ++ events o (after o first lines) more
  pub world : let j = after o first lines in partition.run o j.world (events o j more) ≡ (after o first (lines ++ more)).world
  -- no version is made twice
  pub rows : GoesUp (after o first lines).world.service.row (after o first (lines ++ more)).world.service.row

abbrev pub EveryRunGoesOn : {C State : Type 0} → Object C State → Type 0
EveryRunGoesOn {C} o = (partition members backups : ℕ) (lines more : List (Line C)) → 1 ≤ members → members ≤ 8 → GoesOn o (start partition members backups) lines more
