-- In the midst of a line: what the masters of a partition are asked, and what then happens to it.
use Rattle.std.specs.Prelude.{◌≡◌, ◌≢◌, ℕ, ◌<◌, ◌≤◌, true, false, List, [], ◌∷◌, ◌++◌, map, length, Some, slice_get, Result, OnOk, IfOk, IsErrOf}
use Rattle.grid_base.specs.declared.names.CallId.{CallId}
use Rattle.grid_base.specs.declared.calls.Request.{Request}
use Rattle.call_engine.specs.Calls.{Settings}
use Rattle.call_engine.specs.Objects.{partition_object}
use Rattle.partition_protocol.specs.Events.{Event}
use Rattle.master_wire.specs.declared.decision.Decision.{Decision as Written}
use Rattle.master_log.specs.declared.masters.Masters.{Masters}
use Rattle.master_log.specs.Standing.{StandsFor, size_of}
use Rattle.masters_protocol.specs.Members.{Outcome}
use Rattle.masters_world.specs.Machine.{Line, Asks, start, asked, asked_by, at_once, proposals, masters_say}
use Rattle.script_lang.specs.declared.line.Line.{Line as ScriptLine}
use Rattle.line_told.specs.declared.told.Told.{Told}
use Rattle.replay_run.specs.declared.grid.Grid.{Grid}
use Rattle.replay_run.specs.declared.run_end.RunEnd.{RunEnd}
use Rattle.replay_run.specs.declared.run_end.RunEnd.TheVariants.{InFlight}
use Rattle.replay_run.specs.Runs.{Run, partitions, world_at, takes, event_by}
use Rattle.replay_run.specs.Endings.{AreAmong, new_arrivals}
use Rattle.replay_run.specs.Appending.{new_messages}
use Rattle.replay_run.specs.LineTold.{came_to, all_told}
use Rattle.replay_run.specs.Printing.{deliveries}
use Rattle.replay_run.specs.Grids.{FormOf}
use Rattle.replay_run.specs.WorldCalls as grid
use Rattle.replay_run.specs.WorldCalls.{HasRoomAt, GivesUpSo}
use Rattle.masters_run.specs.declared.grid.RuledGrid.{RuledGrid}
use Rattle.masters_run.specs.declared.publishing.Proposal.{Proposal}
use Rattle.masters_run.specs.Runs.{RuledRun, has_masters, masters_at, ruled_at, meets_full_link, goes, flowed, flowed_between}
use Rattle.masters_run.specs.LineTold.{published_outcome, followed, followed_each}
use Rattle.masters_run.specs.Printing.{handed_over}
use Rattle.masters_run.specs.Standing.{IsOfLines}
use Rattle.masters_run.specs.Written.{as_written, written_events}
use Rattle.masters_run.specs.Grids.{Rules, HasMastersAt, Stands, Runs, GivesUpIfFull}
use Rattle.masters_run.specs.Answers.{answer_of}

-- The grid has what the run has by then, and so have its masters.
pub record IsAmid {V : Type 0} {T : V → Type 0} (form : FormOf V T) (settings : Settings) (all : RuledGrid V T) (s : RuledRun) : Type 0 where
  pub grid : grid.IsAmid form settings all.grid s.run
  pub masters : Rules settings all.masters.items s

-- Masters are there, and a partition may have one event more.
pub record MayAsk {V : Type 0} {T : V → Type 0} (form : FormOf V T) (all : RuledGrid V T) (p : ℕ) : Type 0 where
  pub settings : Settings
  pub run : RuledRun
  pub amid : IsAmid form settings all run
  pub ruled : has_masters run ≡ true
  pub placed : p < partitions
  pub room : HasRoomAt run.run p 1

-- The decision is the one that this event of a partition proposes, as the code keeps it.
abbrev pub Proposes : Settings → RuledRun → ℕ → Event Request → Written → Type 0
Proposes settings s p e kept = map as_written (proposals (ruled_at (partition_object settings) s p) e) ≡ kept ∷ []

-- Masters are there, a partition may have one event more, and an event of it proposes the decision.
pub record MayPropose {V : Type 0} {T : V → Type 0} (form : FormOf V T) (all : RuledGrid V T) (p : ℕ) (kept : Written) : Type 0 where
  pub may : MayAsk form all p
  pub event : Event Request
  pub proposes : Proposes may.settings may.run p event kept

-- what a run goes on to, and what is told by that, by the calls that find no memory

abbrev pub Onward : Type 0
Onward = List CallId → RuledRun

abbrev pub Tellings : Type 0
Tellings = List CallId → List Told

pub record HasGoneOn {V : Type 0} {T : V → Type 0} (form : FormOf V T) (settings : Settings) (new : RuledGrid V T) (s : RuledRun) (onward : Onward) (tellings : Tellings) (earlier later : List Told) : Type 0 where
  pub skips : List CallId
  pub own : AreAmong (new_arrivals s.run (onward skips).run) skips
  pub amid : IsAmid form settings new (onward skips)
  pub added : later ≡ earlier ++ tellings skips

pub record GivesUp (s : RuledRun) (onward : Onward) : Type 0 where
  pub skips : List CallId
  pub own : AreAmong (new_arrivals s.run (onward skips).run) skips
  pub full : (onward skips).run.full ≡ true

-- what is asked for in one partition

abbrev pub going : Settings → RuledRun → ℕ → Line Request → Onward
going settings s p l skips = goes (partition_object settings) skips s p l

abbrev pub following : Settings → RuledRun → ℕ → Line Request → Tellings
following settings s p l skips = followed (partition_object settings) skips s p l

-- The masters were asked and answered so; what was published has happened, and was told.
pub record HasAsked {V : Type 0} {T : V → Type 0} (form : FormOf V T) (settings : Settings) (new : RuledGrid V T) (s : RuledRun) (p : ℕ) (l : Line Request) (answer : Outcome) (earlier later : List Told) : Type 0 where
  pub on : HasGoneOn form settings new s (going settings s p l) (following settings s p l) earlier later
  pub outcome : masters_say (masters_at s p) (asked_by (ruled_at (partition_object settings) s p) l) ≡ answer ∷ []

-- The decision is the one that this line proposes, to the masters of this partition.
abbrev pub ProposesAt : {V : Type 0} {T : V → Type 0} → FormOf V T → RuledGrid V T → ScriptLine → ℕ → Written → Type 0
ProposesAt form all line p kept = (settings : Settings) (s : RuledRun) → Stands form settings all s
    → (e : Event Request) × (event_by line ≡ Some (record { partition = p; event = e })) × Proposes settings s p e kept

-- The masters of a partition were asked what a line asks them, so nothing happens at once, and what was published is still to happen; so many decisions had been published before.
pub record HasAskedMasters {V : Type 0} {T : V → Type 0} (form : FormOf V T) (settings : Settings) (all : RuledGrid V T) (s : RuledRun) (p : ℕ) (l : Line Request) (before : ℕ) : Type 0 where
  pub placed : p < partitions
  pub grid : grid.IsAmid form settings all.grid s.run
  pub count : length all.masters.items ≡ length s.masters
  pub whole : length s.masters ≡ partitions
  pub most : s.run.members ≤ 8
  pub others : (q : ℕ) → q < partitions → q ≢ p → HasMastersAt settings all.masters.items s q
  pub goes : meets_full_link (masters_at s p) (asked_by (ruled_at (partition_object settings) s p) l) ≡ false
  pub later : at_once (ruled_at (partition_object settings) s p) l ≡ []
  pub published : length (masters_at s p).published ≡ before
  pub masters : Masters
  pub there : slice_get all.masters.items p ≡ Some masters
  pub lines : List (Line Request)
  pub of_lines : IsOfLines (partition_object settings) s p lines
  pub size : size_of masters ≡ s.run.members
  pub stands : StandsFor masters (written_events (asked (partition_object settings) (start p s.run.members s.run.backups) (lines ++ l ∷ [])))

-- A published decision's event has happened, and was told: what it came to, and what it appended.
pub record HasTaken {V : Type 0} {T : V → Type 0} (form : FormOf V T) (settings : Settings) (new : Grid V T) (r : Run) (p : ℕ) (event : Event Request) (earlier later : List Told) : Type 0 where
  pub skips : List CallId
  pub own : AreAmong (new_arrivals r (takes (partition_object settings) skips r p event)) skips
  pub amid : grid.IsAmid form settings new (takes (partition_object settings) skips r p event)
  pub added : later ≡ earlier ++ came_to (published_outcome (partition_object settings) (world_at (partition_object settings) r p) event)
      ++ all_told (new_messages r (takes (partition_object settings) skips r p event))

-- flows

abbrev pub delivering : Settings → RuledRun → ℕ → ℕ → Onward
delivering settings s p most skips = flowed (partition_object settings) skips s p most

abbrev pub handing : Settings → RuledRun → ℕ → ℕ → Onward
handing settings s p most skips = flowed_between (partition_object settings) skips s p most

-- Masters are there, and a partition may have so many events more.
pub record MayFlow {V : Type 0} {T : V → Type 0} (form : FormOf V T) (all : RuledGrid V T) (p most : ℕ) : Type 0 where
  pub settings : Settings
  pub run : RuledRun
  pub amid : IsAmid form settings all run
  pub ruled : has_masters run ≡ true
  pub placed : p < partitions
  pub room : HasRoomAt run.run p most

pub record HasFlowed {V : Type 0} {T : V → Type 0} (form : FormOf V T) (settings : Settings) (new : RuledGrid V T) (s : RuledRun) (p most count : ℕ) (earlier later : List Told) : Type 0 where
  pub on : HasGoneOn form settings new s (λ skips. flowed (partition_object settings) skips s p most) (λ skips. all_told (new_messages s.run (flowed (partition_object settings) skips s p most).run)) earlier later
  pub deliveries : deliveries s.run (flowed (partition_object settings) on.skips s p most).run ≡ count

pub record HasFlowedBetween {V : Type 0} {T : V → Type 0} (form : FormOf V T) (settings : Settings) (new : RuledGrid V T) (s : RuledRun) (p most count : ℕ) (earlier later : List Told) : Type 0 where
  pub on : HasGoneOn form settings new s (λ skips. flowed_between (partition_object settings) skips s p most) (λ skips. followed_each (partition_object settings) skips s p most) earlier later
  pub handed : handed_over (partition_object settings) on.skips s p most ≡ count

-- what comes of a part of a line, whatever run the grid stands for by then

-- The masters of a partition were asked this, if there was no error, and their answer is told by what is returned.
abbrev pub Answers : {V : Type 0} {T : V → Type 0} {X : Type 0} → FormOf V T → RuledGrid V T → RuledGrid V T → ℕ → Line Request → Result X RunEnd → (X → Outcome) → List Told → List Told → Type 0
Answers form old new p l result answer earlier later = (settings : Settings) (s : RuledRun) → IsAmid form settings old s → IfOk result (λ x. HasAsked form settings new s p l (answer x) earlier later)

-- so, where an event of the partition proposes this decision
abbrev pub AnswersProposal : {V : Type 0} {T : V → Type 0} → FormOf V T → RuledGrid V T → RuledGrid V T → ℕ → Written → Result Proposal RunEnd → List Told → List Told → Type 0
AnswersProposal form old new p kept result earlier later = (settings : Settings) (s : RuledRun) (e : Event Request) → IsAmid form settings old s → Proposes settings s p e kept
    → IfOk result (λ proposal. HasAsked form settings new s p (Asks e) (answer_of proposal) earlier later)

-- This was asked for in a partition.
abbrev pub GoesOnBy : {V : Type 0} {T : V → Type 0} {X : Type 0} → FormOf V T → RuledGrid V T → RuledGrid V T → ℕ → Line Request → Result X RunEnd → List Told → List Told → Type 0
GoesOnBy form old new p l result earlier later = (settings : Settings) (s : RuledRun) → IsAmid form settings old s → OnOk result (HasGoneOn form settings new s (going settings s p l) (following settings s p l) earlier later)

-- What was published since the masters were asked has happened.
abbrev pub Follows : {V : Type 0} {T : V → Type 0} {X : Type 0} → FormOf V T → RuledGrid V T → RuledGrid V T → ℕ → ℕ → Result X RunEnd → List Told → List Told → Type 0
Follows form old new p before result earlier later = (settings : Settings) (s : RuledRun) (l : Line Request) → HasAskedMasters form settings old s p l before
    → OnOk result (HasGoneOn form settings new s (going settings s p l) (following settings s p l) earlier later)

-- An event has happened.
abbrev pub Takes : {V : Type 0} {T : V → Type 0} {X : Type 0} → FormOf V T → Grid V T → Grid V T → ℕ → Event Request → Result X RunEnd → List Told → List Told → Type 0
Takes form old new p event result earlier later = (settings : Settings) (r : Run) → grid.IsAmid form settings old r → OnOk result (HasTaken form settings new r p event earlier later)

-- So many messages were delivered, or handed over.
abbrev pub Delivers : {V : Type 0} {T : V → Type 0} → FormOf V T → RuledGrid V T → RuledGrid V T → ℕ → ℕ → Result ℕ RunEnd → List Told → List Told → Type 0
Delivers form old new p most result earlier later = (settings : Settings) (s : RuledRun) → IsAmid form settings old s → IfOk result (λ count. HasFlowed form settings new s p most count earlier later)

abbrev pub HandsOver : {V : Type 0} {T : V → Type 0} → FormOf V T → RuledGrid V T → RuledGrid V T → ℕ → ℕ → Result ℕ RunEnd → List Told → List Told → Type 0
HandsOver form old new p most result earlier later = (settings : Settings) (s : RuledRun) → IsAmid form settings old s → IfOk result (λ count. HasFlowedBetween form settings new s p most count earlier later)

-- The run is given up, where that is the error: going on so, proposing this decision, following what was published, taking the event.
abbrev pub StopsIfFull : {V : Type 0} {T : V → Type 0} {X : Type 0} → FormOf V T → RuledGrid V T → Result X RunEnd → (Settings → RuledRun → Onward) → Type 0
StopsIfFull form old result onward = (settings : Settings) (s : RuledRun) → IsAmid form settings old s → IsErrOf result InFlight → GivesUp s (onward settings s)

abbrev pub StopsProposal : {V : Type 0} {T : V → Type 0} {X : Type 0} → FormOf V T → RuledGrid V T → ℕ → Written → Result X RunEnd → Type 0
StopsProposal form old p kept result = (settings : Settings) (s : RuledRun) (e : Event Request) → IsAmid form settings old s → Proposes settings s p e kept → IsErrOf result InFlight → GivesUp s (going settings s p (Asks e))

abbrev pub StopsFollowing : {V : Type 0} {T : V → Type 0} {X : Type 0} → FormOf V T → RuledGrid V T → ℕ → ℕ → Result X RunEnd → Type 0
StopsFollowing form old p before result = (settings : Settings) (s : RuledRun) (l : Line Request) → HasAskedMasters form settings old s p l before → IsErrOf result InFlight → GivesUp s (going settings s p l)

abbrev pub StopsTaking : {V : Type 0} {T : V → Type 0} {X : Type 0} → FormOf V T → Grid V T → ℕ → Event Request → Result X RunEnd → Type 0
StopsTaking form old p event result = (settings : Settings) (r : Run) → grid.IsAmid form settings old r → IsErrOf result InFlight → GivesUpSo r (λ skips. takes (partition_object settings) skips r p event)

-- A line that proposes this decision ran, or is given up.
abbrev pub RunsProposal : {V : Type 0} {T : V → Type 0} {X : Type 0} → FormOf V T → RuledGrid V T → RuledGrid V T → ℕ → Written → Result X RunEnd → List Told → List Told → Type 0
RunsProposal form old new p kept result earlier later = (line : ScriptLine) → ProposesAt form old line p kept → Runs form old new line result earlier later

abbrev pub GivesUpProposal : {V : Type 0} {T : V → Type 0} {X : Type 0} → FormOf V T → RuledGrid V T → ℕ → Written → Result X RunEnd → Type 0
GivesUpProposal form old p kept result = (line : ScriptLine) → ProposesAt form old line p kept → GivesUpIfFull form old line result
