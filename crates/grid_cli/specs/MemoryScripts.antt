-- What a replay's claims say of a script in memory.
use Rattle.std.specs.Prelude.{◌≡◌, ℕ, zero, suc, ◌<◌, ◌⊎◌, min, false, List, ◌++◌, length}
use Rattle.grid_base.specs.declared.names.CallId.{CallId}
use Rattle.grid_edge.specs.Memory.{Input, after_read, after_failed_read}
use Rattle.entry_processors.specs.Processors.{ProcessorForm}
use Rattle.grid_cli.specs.Commands.{TellsHistories}
use Rattle.grid_cli.specs.Decisions.{TellsDecisions}
use Rattle.grid_cli.specs.NearHits.{TellsHits}
use Rattle.grid_cli.specs.ReadScripts.{Claim, Prints}
use Rattle.grid_cli.specs.Statuses.{HasReplayed}
use Rattle.grid_cli.specs.Waits.{TellsWaits}
use Rattle.grid_cli.specs.declared.status.Status.{Status}

-- A read of a source in memory failed, or gave as much of what was left as there was room for,
abbrev pub HasReadOnce : (old new : Input) → Type 0
HasReadOnce old new = (new ≡ after_failed_read old) ⊎ ((room : ℕ) × (new ≡ after_read old room (min (min old.most room) (length old.left))))

-- and so did each of several.
abbrev pub HasReadOn : (reads : ℕ) → (first now : Input) → Type 0
HasReadOn zero first now = now ≡ first
HasReadOn (suc reads) first now = (mid : Input) × HasReadOn reads first mid × HasReadOnce mid now

-- It is told of the very script that was left at first, of which what was read is what is no longer left.
abbrev pub IsToldOf : Claim → (script left before after : List ℕ) → Type 0
IsToldOf Tells script left before after =
    (skips : List CallId) × (read text : List ℕ) × (script ≡ read ++ left) × (after ≡ before ++ text) × Tells skips script read text

-- A claim of a script that was read from its begin on is one of the script that its source had.
abbrev pub HoldsInMemory : Claim → Type 0
HoldsInMemory Tells = (reads : ℕ) (first now : Input) (before after : List ℕ) → 0 < first.most → first.given.ended ≡ false → HasReadOn reads first now
    → Prints Tells first.given now.given before after → IsToldOf Tells first.left now.left before after

-- Each of a replay's claims is.
abbrev pub EveryClaimHoldsInMemory : Type 0
EveryClaimHoldsInMemory = (forms : List ProcessorForm) (status : Status)
    → HoldsInMemory (HasReplayed forms status) × HoldsInMemory (TellsHistories forms status) × HoldsInMemory (TellsHits forms status)
    × HoldsInMemory (TellsDecisions forms status) × HoldsInMemory (TellsWaits forms status)
