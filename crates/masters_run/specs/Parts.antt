-- What a line of a grid with masters is taken apart into: what it proposes, whether it is held back, and a crash of its masters.
use Rattle.std.specs.Prelude.{◌≡◌, ℕ, Bool, true, false, List, [], ◌∷◌, ◌++◌, length, Option, Some, None, slice_get}
use Rattle.call_engine.specs.Calls.{Settings}
use Rattle.call_engine.specs.Objects.{partition_object}
use Rattle.partition_table.specs.Rows.{is_empty}
use Rattle.partition_protocol.specs.World.{map_or}
use Rattle.masters_protocol.specs.Machine.{Crash}
use Rattle.masters_protocol.specs.Machine as masters
use Rattle.masters_world.specs.Machine.{proposals, at_once_of}
use Rattle.master_wire.specs.declared.decision.Decision.{Decision as Written}
use Rattle.master_log.specs.declared.masters.Masters.{Masters}
use Rattle.master_log.specs.Standing.{StandsFor, size_of}
use Rattle.script_lang.specs.declared.line.Line.{Line as ScriptLine}
use Rattle.script_lang.specs.declared.line.Line.TheVariants as line
use Rattle.replay_run.specs.Runs.{At, event_by}
use Rattle.replay_run.specs.Grids.{FormOf}
use Rattle.masters_run.specs.declared.grid.RuledGrid.{RuledGrid}
use Rattle.masters_run.specs.Runs.{RuledRun, has_masters, ruled_at}
use Rattle.masters_run.specs.Grids.{Stands, MayRun}
use Rattle.masters_run.specs.Steps.{ProposesAt}

-- The line is one that the script can have next.
abbrev pub MayBeNext : {V : Type 0} {T : V → Type 0} → FormOf V T → RuledGrid V T → ScriptLine → Type 0
MayBeNext form all line = (number : ℕ) × MayRun form all number line

-- The run of the grid has no masters.
abbrev pub HasNoMasters : {V : Type 0} {T : V → Type 0} → FormOf V T → RuledGrid V T → Type 0
HasNoMasters form all = (settings : Settings) (s : RuledRun) → Stands form settings all s → has_masters s ≡ false

-- what a line proposes

-- It proposes nothing: it is no event of a partition, or that proposes nothing.
abbrev pub ProposesNothing : {V : Type 0} {T : V → Type 0} → FormOf V T → RuledGrid V T → ScriptLine → Type 0
ProposesNothing form all line = (settings : Settings) (s : RuledRun) (e : At) → Stands form settings all s → event_by line ≡ Some e → proposals (ruled_at (partition_object settings) s e.partition) e.event ≡ []

-- It proposes this decision to the masters of this partition, or nothing.
abbrev pub IsProposalOf : {V : Type 0} {T : V → Type 0} → FormOf V T → RuledGrid V T → ScriptLine → Option (ℕ × Written) → Type 0
IsProposalOf form all line None = ProposesNothing form all line
IsProposalOf form all line (Some found) = ProposesAt form all line found.0 found.1

-- what is held back

-- Of an event that is asked for nothing happens at once.
abbrev pub is_later : Settings → RuledRun → At → Bool
is_later settings s e = is_empty (at_once_of (ruled_at (partition_object settings) s e.partition) e.event)

-- Of a line that proposes nothing: its event doesn't happen at once either. The masters come once, and nothing is rebalanced.
abbrev pub is_held_back : Settings → RuledRun → ScriptLine → Bool
is_held_back settings s line.Masters = true
is_held_back settings s (line.Rebalance most) = true
is_held_back settings s line = map_or (event_by line) false (is_later settings s)

-- The line is held back in no run of the grid.
abbrev pub GoesOn : {V : Type 0} {T : V → Type 0} → FormOf V T → RuledGrid V T → ScriptLine → Type 0
GoesOn form all line = (settings : Settings) (s : RuledRun) → Stands form settings all s → is_held_back settings s line ≡ false

-- a line of the masters alone
abbrev pub is_of_masters : ScriptLine → Bool
is_of_masters (line.Told member crashed) = true
is_of_masters (line.MasterDeliver partition from to place) = true
is_of_masters (line.MasterLose partition from to place) = true
is_of_masters (line.MasterResend partition member) = true
is_of_masters (line.MasterFlow partition most) = true
is_of_masters line = false

-- a crash

-- The masters of a partition have run one event more: a member's crash.
pub record HasCrashed (member : ℕ) (old new : Masters) : Type 0 where
  pub stands : (events : List (masters.Event Written)) → StandsFor old events → StandsFor new (events ++ Crash member ∷ [])
  pub size : size_of new ≡ size_of old

pub record HasCrashedAt (member : ℕ) (old : Masters) (all : List Masters) (p : ℕ) : Type 0 where
  pub masters : Masters
  pub there : slice_get all p ≡ Some masters
  pub crashed : HasCrashed member old masters

-- Those of each partition have.
pub record HaveCrashed (member : ℕ) (old new : List Masters) : Type 0 where
  pub count : length new ≡ length old
  pub each : (p : ℕ) (masters : Masters) → slice_get old p ≡ Some masters → HasCrashedAt member masters new p
