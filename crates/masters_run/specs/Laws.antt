-- What holds of every run of a script's lines, with masters or without.
use Rattle.std.specs.Prelude.{◌≡◌, ℕ, ◌<◌, ◌≤◌, true, false, List, [], ◌++◌, map, filter, Contains}
use Rattle.grid_base.specs.declared.calls.Request.{Request}
use Rattle.grid_base.specs.declared.names.CallId.{CallId}
use Rattle.call_engine.specs.Calls.{Settings}
use Rattle.call_engine.specs.Objects.{partition_object}
use Rattle.partition_protocol.specs.Sequences.{IsFrontOf}
use Rattle.partition_protocol.specs.World.{start}
use Rattle.masters_protocol.specs.Machine.{Event, run}
use Rattle.masters_protocol.specs.Claims.{IsSound, Agrees}
use Rattle.masters_world.specs.Decisions.{Decision, event_of, is_of_service, all_decided}
use Rattle.masters_world.specs.Claims.{GoesUp}
use Rattle.script_lang.specs.declared.line.Line.{Line}
use Rattle.replay_run.specs.Runs.{Waiter, partitions, events_at, world_at}
use Rattle.replay_run.specs.Counts.{CountsOnce}
use Rattle.replay_run.specs.Linearizability.{IsLinearizable}
use Rattle.replay_run.specs.ScriptRuns.{IsRun}
use Rattle.replay_run.specs.SkippedCalls.{TellsOfSkips, TellsOfNoSkip}
use Rattle.replay_run.specs.Staying.{HasNoTurn}
use Rattle.masters_run.specs.Runs.{RuledRun, has_masters, masters_at}
use Rattle.masters_run.specs.AfterLines.{run_with}
use Rattle.masters_run.specs.Standing.{IsRuled}

-- the run of these lines after the first, where these calls found no memory
abbrev pub ruled_with : Settings → ℕ → ℕ → List CallId → List Line → RuledRun
ruled_with settings members backups skips lines = run_with (partition_object settings) members backups skips lines

-- The run of the grid is a run: made of the steps of runs, and so all that holds of whatever is made of these holds of it.
abbrev pub EveryRuledRunIsARun : Type 0
EveryRuledRunIsARun = (settings : Settings) (members backups : ℕ) (skips : List CallId) (lines : List Line) → 1 ≤ members
    → IsRun (partition_object settings) (ruled_with settings members backups skips lines).run

abbrev pub EveryRunIsLinearizable : Type 0
EveryRunIsLinearizable = (settings : Settings) (members backups : ℕ) (skips : List CallId) (lines : List Line) → 1 ≤ members
    → IsLinearizable settings (ruled_with settings members backups skips lines).run

abbrev pub EveryCallCountsOnce : Type 0
EveryCallCountsOnce = (settings : Settings) (members backups : ℕ) (skips : List CallId) (lines : List Line) → 1 ≤ members
    → CountsOnce settings (ruled_with settings members backups skips lines).run

-- with masters, in each partition, unless the run was given up: as that may come between a publication and its event
abbrev pub EveryRunIsRuled : Type 0
EveryRunIsRuled = (settings : Settings) (members backups : ℕ) (skips : List CallId) (lines : List Line) → 1 ≤ members → members ≤ 8
    → let s = ruled_with settings members backups skips lines in has_masters s ≡ true → s.run.full ≡ false → IsRuled (partition_object settings) s

-- The events that the partition's service took are its published list, in order; and the service alone over that list comes to the partition's row, move and detected members.
pub record ServesAsPublished (settings : Settings) (s : RuledRun) (p : ℕ) : Type 0 where
  pub listed : filter (is_of_service s.run.members) (events_at p s.run.events) ≡ map (event_of s.run.members) (masters_at s p).published
  pub service : all_decided p s.run.members s.run.backups (start {C = Request} p s.run.members s.run.backups).service (masters_at s p).published ≡ (world_at (partition_object settings) s.run p).service

abbrev pub EveryServiceServesAsPublished : Type 0
EveryServiceServesAsPublished = (settings : Settings) (members backups : ℕ) (skips : List CallId) (lines : List Line) → 1 ≤ members → members ≤ 8
    → let s = ruled_with settings members backups skips lines in has_masters s ≡ true → s.run.full ≡ false
    → (p : ℕ) → p < partitions → ServesAsPublished settings s p

-- at two moments: what is published stays, at its place, whoever was master; and no version of a row is made twice
pub record GoesOn (settings : Settings) (first later : RuledRun) (p : ℕ) : Type 0 where
  pub published : IsFrontOf (masters_at first p).published (masters_at later p).published
  pub rows : GoesUp (world_at (partition_object settings) first.run p).service.row (world_at (partition_object settings) later.run p).service.row

abbrev pub EveryPublishedListGrows : Type 0
EveryPublishedListGrows = (settings : Settings) (members backups : ℕ) (skips : List CallId) (lines more : List Line) → 1 ≤ members → members ≤ 8
    → let first = ruled_with settings members backups skips lines in let later = ruled_with settings members backups skips (lines ++ more) in
    has_masters first ≡ true → later.run.full ≡ false → (p : ℕ) → p < partitions → GoesOn settings first later p

-- At one moment: at most one live member gathers or serves, the lowest that lives, and the published list is the front of each live member's log, among all else that is claimed of masters.
abbrev pub EveryMastershipIsSound : Type 0
EveryMastershipIsSound = (settings : Settings) (members backups : ℕ) (skips : List CallId) (lines : List Line) → 1 ≤ members → members ≤ 8
    → let s = ruled_with settings members backups skips lines in has_masters s ≡ true → s.run.full ≡ false
    → (p : ℕ) → p < partitions → IsSound (masters_at s p)

-- At two moments: what was published is the front of each later live member's log, and no two different decisions are published at one number, whoever was master and whatever the masters were asked meanwhile.
pub record MastersAgree (first later : RuledRun) (p : ℕ) : Type 0 where
  pub asked : List (Event Decision)
  pub by : run (masters_at first p) asked ≡ masters_at later p
  pub agree : Agrees (masters_at first p) asked (masters_at later p)

abbrev pub EveryMastershipAgrees : Type 0
EveryMastershipAgrees = (settings : Settings) (members backups : ℕ) (skips : List CallId) (lines more : List Line) → 1 ≤ members → members ≤ 8
    → let first = ruled_with settings members backups skips lines in let later = ruled_with settings members backups skips (lines ++ more) in
    has_masters first ≡ true → later.run.full ≡ false → (p : ℕ) → p < partitions → MastersAgree first later p

-- which calls find no memory

-- Where a line gives the run up, the lines before it tell of their skips.
abbrev pub EverySkippedCallIsTold : Type 0
EverySkippedCallIsTold = (settings : Settings) (members backups : ℕ) (skips : List CallId) (lines : List Line)
    → let s = ruled_with settings members backups skips lines in s.run.full ≡ false → TellsOfSkips skips s.run

-- A run that tells of no skip is the one without skips, with its masters, also where it was given up.
abbrev pub EveryRunThatTellsOfNoSkipHasNone : Type 0
EveryRunThatTellsOfNoSkipHasNone = (settings : Settings) (members backups : ℕ) (skips : List CallId) (lines : List Line)
    → let s = ruled_with settings members backups skips lines in TellsOfNoSkip s.run → s ≡ ruled_with settings members backups [] lines

-- After the lines nothing is to be done with whoever waits, unless one of them gives the run up.
abbrev pub EveryWaiterStays : Type 0
EveryWaiterStays = (settings : Settings) (members backups : ℕ) (skips : List CallId) (lines : List Line) → 1 ≤ members
    → let s = ruled_with settings members backups skips lines in s.run.full ≡ false → (w : Waiter) → Contains s.run.waiters w → HasNoTurn (partition_object settings) s.run w
