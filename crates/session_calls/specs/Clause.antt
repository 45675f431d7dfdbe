-- The clause of a call.
use Rattle.std.specs.Prelude.{◌≡◌, ◌⊎◌, List, ◌++◌, length}
use Rattle.grid_base.specs.declared.names.CallId.{CallId}
use Rattle.hand_cell.specs.declared.names.Key.{Key}
use Rattle.hand_cell.specs.declared.names.Key.TheVariants.{Call}
use Rattle.hand_cell.specs.declared.outcome.LiveOutcome.{LiveOutcome}
use Rattle.hand_cell.specs.Names.{Lacks, NoneOf}
use Rattle.hand_cell.specs.Told.{Told}
use Rattle.job_queues.specs.Answers.{HasEvent, IsWhyNot}
use Rattle.job_queues.specs.Terms.{Terms}

-- A call with this name was made on these terms. What its pass had seen before is a beginning of what it has seen now; the rest is
-- what was seen later
module _ {P E : Type 0} (key_of : E → Key) (tells : P → List E → E → LiveOutcome → Type 0) (terms : Terms P E) (id : CallId) where
  -- Of what was seen later, the call's event alone has a name of the pass. In all that was seen it alone is known by the call's name,
  -- and there this is its outcome
  pub record StandsOnce (later : List E) (outcome : LiveOutcome) : Type 0 where
    pub event_is : HasEvent key_of tells terms later
    pub key : key_of terms.event ≡ Call id
    pub none_earlier : Lacks key_of (Call id) (terms.first.seen ++ event_is.before)
    pub none_later : Lacks key_of (Call id) event_is.after
    pub told : tells terms.plan (terms.first.seen ++ later) terms.event outcome

  -- Of what was seen later, nothing has a name of the pass. In all that was seen nothing is known by the call's name: it was refused
  -- there, at the limit, or below it for want of memory
  pub record StandsNowhere (later : List E) (outcome : LiveOutcome) : Type 0 where
    pub none : NoneOf key_of terms.first.names later
    pub nowhere : Lacks key_of (Call id) (terms.first.seen ++ later)
    pub why : IsWhyNot (length (terms.first.seen ++ later)) outcome

  -- The clause of a call: its pass is back, which has seen more, and the call stands once in it with this outcome, or was refused
  pub record HasCalled (pass : Told E) (outcome : LiveOutcome) : Type 0 where
    pub same_table : pass.table ≡ terms.first.table
    pub same_names : pass.names ≡ terms.first.names
    pub later : List E
    pub longer : pass.seen ≡ terms.first.seen ++ later
    pub came : StandsOnce later outcome ⊎ StandsNowhere later outcome
