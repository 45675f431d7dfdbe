-- What holds of the masters of a script's grid, where its second line brings them, whatever its near clients do.
use Rattle.std.specs.Prelude.{◌≡◌, ℕ, ◌<◌, ◌≤◌, true, false, List, ◌∷◌, ◌++◌, length, filter, Some, slice_get}
use Rattle.grid_base.specs.Objects.{Object}
use Rattle.grid_base.specs.declared.names.CallId.{CallId}
use Rattle.grid_base.specs.declared.calls.Request.{Request}
use Rattle.call_engine.specs.Calls.{Settings}
use Rattle.call_engine.specs.Objects.{partition_object}
use Rattle.partition_protocol.specs.Events.{Event, run}
use Rattle.partition_protocol.specs.World.{start}
use Rattle.masters_protocol.specs.Claims.{IsSound}
use Rattle.masters_world.specs.Decisions.{Decision, event_of, is_of_service}
use Rattle.masters_world.specs.Claims.{IsRight}
use Rattle.script_lang.specs.declared.line.Line.{Line}
use Rattle.replay_run.specs.Runs.{partitions, events_at}
use Rattle.masters_run.specs.Laws.{ServesAsPublished, GoesOn, MastersAgree}
use Rattle.masters_run.specs.Runs.{has_masters, masters_at}
use Rattle.masters_run.specs.Standing.{IsRuled}
use Rattle.script_run.specs.Laws.{run_with}
use Rattle.script_run.specs.Runs.{ScriptRun, ruled_of}

-- Of all that happened to a partition of n members: its service took this decision after k others, and right before it the decision was
-- right. A message that it takes stood in its place, and a member that it says has crashed had.
pub record TookRightly {State : Type 0} (o : Object Request State) (p n b : ℕ) (happened : List (Event Request)) (k : ℕ) (d : Decision) : Type 0 where
  pub before : List (Event Request)
  pub rest : List (Event Request)
  pub whole : before ++ event_of n d ∷ rest ≡ happened
  pub others : length (filter (is_of_service n) before) ≡ k
  pub right : IsRight n (run o (start p n b) before) d

-- In one partition: the events that its table service took are the published list, in order, each right as it was taken, and the service
-- alone over that list comes to the partition's row, move and detected members. At most one live member gathers or serves, and what is
-- published is a front of each live log.
pub record IsServed (settings : Settings) (s : ScriptRun) (p : ℕ) : Type 0 where
  pub serves : ServesAsPublished settings (ruled_of s) p
  pub right : (k : ℕ) (d : Decision) → slice_get (masters_at (ruled_of s) p).published k ≡ Some d
      → TookRightly (partition_object settings) p s.run.members s.run.backups (events_at p s.run.events) k d
  pub sound : IsSound (masters_at (ruled_of s) p)

-- Where the grid has masters, each partition stands for lines of its own, so all that holds of masters and of the service that they run holds
-- of it. A run may be given up between a publication and its event.
abbrev pub AreRuled : Settings → ScriptRun → Type 0
AreRuled settings s = has_masters (ruled_of s) ≡ true → s.run.full ≡ false → IsRuled (partition_object settings) (ruled_of s)

abbrev pub AllAreServed : Settings → ScriptRun → Type 0
AllAreServed settings s = has_masters (ruled_of s) ≡ true → s.run.full ≡ false → (p : ℕ) → p < partitions → IsServed settings s p

-- From one moment to a later one, in one partition: what is published stays at its place, and no version of a row is made twice. What was
-- published is the front of each later live log, whatever the masters were asked meanwhile.
pub record IsServedOn (settings : Settings) (first later : ScriptRun) (p : ℕ) : Type 0 where
  pub goes_on : GoesOn settings (ruled_of first) (ruled_of later) p
  pub agree : MastersAgree (ruled_of first) (ruled_of later) p

abbrev pub AllGoOn : Settings → ScriptRun → ScriptRun → Type 0
AllGoOn settings first later = has_masters (ruled_of first) ≡ true → later.run.full ≡ false → (p : ℕ) → p < partitions → IsServedOn settings first later p

-- whatever the processors, the queues' capacity, the lines after the first, and the calls that find no memory

abbrev pub EveryRunIsRuled : Type 0
EveryRunIsRuled = (settings : Settings) (members backups : ℕ) (skips : List CallId) (lines : List Line) → 1 ≤ members → members ≤ 8
    → AreRuled settings (run_with settings members backups skips lines)

abbrev pub EveryServiceServesAsPublished : Type 0
EveryServiceServesAsPublished = (settings : Settings) (members backups : ℕ) (skips : List CallId) (lines : List Line) → 1 ≤ members → members ≤ 8
    → AllAreServed settings (run_with settings members backups skips lines)

abbrev pub EveryPublishedListGrows : Type 0
EveryPublishedListGrows = (settings : Settings) (members backups : ℕ) (skips : List CallId) (lines more : List Line) → 1 ≤ members → members ≤ 8
    → AllGoOn settings (run_with settings members backups skips lines) (run_with settings members backups skips (lines ++ more))
