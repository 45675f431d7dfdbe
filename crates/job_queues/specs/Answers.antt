-- What the answer of a call says.
use Rattle.std.specs.Prelude.{◌≡◌, ℕ, ◌<◌, ◌⊎◌, List, ◌∷◌, ◌++◌, length}
use Rattle.hand_cell.specs.declared.names.Key.{Key}
use Rattle.hand_cell.specs.declared.names.Key.TheVariants.{Call}
use Rattle.hand_cell.specs.declared.outcome.LiveOutcome.{LiveOutcome}
use Rattle.hand_cell.specs.declared.outcome.LiveOutcome.TheVariants.{Memory as NoMemory, Exhausted}
use Rattle.hand_cell.specs.Names.{NoneOf}
use Rattle.hand_cell.specs.Ready.{most_events}
use Rattle.hand_cell.specs.Told.{Told}
use Rattle.job_queues.specs.declared.parcel.Done.{Done}
use Rattle.job_queues.specs.Terms.{Terms}

-- why an event was refused after so many: at the limit, or below it for want of memory
abbrev pub IsWhyNot : ℕ → LiveOutcome → Type 0
IsWhyNot n NoMemory = n < most_events
IsWhyNot n Exhausted = n ≡ most_events
IsWhyNot n _ = ⊥

module _ {P E : Type 0} (key_of : E → Key) (tells : P → List E → E → LiveOutcome → Type 0) (terms : Terms P E) where
  -- Of what was seen later, the call's event alone has a name of the pass
  pub record HasEvent (later : List E) : Type 0 where
    pub before : List E
    pub after : List E
    pub whole : later ≡ before ++ terms.event ∷ after
    pub none_before : NoneOf key_of terms.first.names before
    pub none_after : NoneOf key_of terms.first.names after

  -- The call's event stands in what was seen, and this is its outcome there
  pub record HasRun (later : List E) (outcome : LiveOutcome) : Type 0 where
    pub event_is : HasEvent later
    pub told : tells terms.plan (terms.first.seen ++ later) terms.event outcome

  -- No event was run, for want of memory or of room
  pub record HasNotRun (later : List E) (outcome : LiveOutcome) : Type 0 where
    pub none : NoneOf key_of terms.first.names later
    pub why : IsWhyNot (length (terms.first.seen ++ later)) outcome

  -- The pass is the one that went with the call, and has seen more: with this outcome of the call
  pub record IsAnswered (pass : Told E) (outcome : LiveOutcome) : Type 0 where
    pub same_table : pass.table ≡ terms.first.table
    pub same_names : pass.names ≡ terms.first.names
    pub later : List E
    pub longer : pass.seen ≡ terms.first.seen ++ later
    pub came : HasRun later outcome ⊎ HasNotRun later outcome

module _ {T P E O : Type 0} where
  -- It names the call, and gives its pass and outcome
  pub record IsDone (key_of : E → Key) (tells : P → List E → E → LiveOutcome → Type 0) (terms : Terms P E) (done : Done T P E O) : Type 0 where
    pub same_call : key_of terms.event ≡ Call done.id
    pub answered : IsAnswered key_of tells terms done.pass done.outcome
