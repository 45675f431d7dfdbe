-- A call that is held for its parcel.
use Rattle.std.specs.Prelude.{◌≡◌, ℕ, List, All, Option, None}
use Rattle.std.specs.Arc.{arc_value}
use Rattle.grid_base.specs.declared.calls.Request.{Request}
use Rattle.hand_cell.specs.declared.names.Key.{Key}
use Rattle.hand_cell.specs.declared.outcome.LiveOutcome.{LiveOutcome}
use Rattle.job_queues.specs.declared.terms.ParcelSide.TheVariants.{Sender}
use Rattle.job_queues.specs.Calls.{IsBegun}
use Rattle.job_queues.specs.Ends.{IsEndOf}
use Rattle.job_queues.specs.Roster.{Roster}
use Rattle.job_queues.specs.Terms.{Terms}
use Rattle.partition_threads.specs.declared.calls.HeldCall.{HeldCall}

module _ {T P E O : Type 0} (key_of : E → Key) (tells : P → List E → E → LiveOutcome → Type 0) (call_of : ℕ → Request → ℕ → E) (roster : Roster P) where
  -- The call was run on the cell at its partition, with its outcome or under way, and its end is the sender's of a parcel that
  -- was made for it
  pub record IsCall (held : HeldCall T P E O) (outcome : Option LiveOutcome) : Type 0 where
    pub terms : Terms P E
    pub begun : IsBegun key_of tells call_of roster terms held.call outcome
    pub parcel : IsEndOf (arc_value held.parcel) held.end
    pub side : held.end.side ≡ Sender terms

  -- the call is under way, and its outcome isn't known
  abbrev pub IsHeld : HeldCall T P E O → Type 0
  IsHeld held = IsCall held None

  abbrev pub AreHeld : List (HeldCall T P E O) → Type 0
  AreHeld calls = All IsHeld calls
