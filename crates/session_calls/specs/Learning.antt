-- What sessions learn of each other, by way of passes that stand between them.
use Rattle.std.specs.Prelude.{◌≡◌, ◌⊎◌, ℕ, List, ◌∷◌, ◌++◌, Some, slice_get, slice_set}
use Rattle.grid_base.specs.declared.names.CallId.{CallId}
use Rattle.grid_base.specs.declared.calls.Request.{Request}
use Rattle.hand_cell.specs.declared.names.Key.{Key}
use Rattle.hand_cell.specs.declared.names.Key.TheVariants.{Call}
use Rattle.hand_cell.specs.declared.outcome.LiveOutcome.{LiveOutcome}
use Rattle.hand_cell.specs.Calls.{HasLearned}
use Rattle.hand_cell.specs.Names.{Lacks}
use Rattle.hand_cell.specs.Told.{Told}
use Rattle.job_queues.specs.Terms.{Terms}
use Rattle.partition_threads.specs.declared.workplace.Workplace.{Workplace}
use Rattle.session_calls.specs.declared.session.SessionPass.{SessionPass}
use Rattle.session_calls.specs.declared.session.Started.{Started}
use Rattle.session_calls.specs.Calls.{HasStarted, HasReturned, IsReady}
use Rattle.session_calls.specs.Clause.{HasCalled}
use Rattle.session_calls.specs.Making.{AreTermsOf}
use Rattle.session_calls.specs.Sessions.{pass_at, HasPassAt}

module _ {E : Type 0} where
  -- the second list begins with the first
  abbrev pub Begins : List E → List E → Type 0
  Begins first whole = (rest : List E) × (whole ≡ first ++ rest)

  -- one event stands in the list before another
  pub record StandsBefore (earlier later : E) (seen : List E) : Type 0 where
    pub before : List E
    pub between : List E
    pub after : List E
    pub whole : seen ≡ before ++ earlier ∷ (between ++ later ∷ after)

  -- A pass has learned what the one at a place has seen, which is as it was
  pub record HasLearnedFrom (key_of : E → Key) (place : ℕ) (known now : List (Told E)) (old new : Told E) : Type 0 where
    pub from : Told E
    pub there : slice_get known place ≡ Some from
    pub learned : HasLearned key_of old from new
    pub written : now ≡ slice_set known place from

  -- The pass at a place has learned what a pass has seen, which is as it was
  pub record HasTaught (key_of : E → Key) (place : ℕ) (old new : Told E) (known now : List (Told E)) : Type 0 where
    pub was : Told E
    pub there : slice_get known place ≡ Some was
    pub taught : Told E
    pub learned : HasLearned key_of was old taught
    pub written : now ≡ slice_set known place taught
    pub same : new ≡ old

  -- what the pass at a place has seen begins what it has seen now
  abbrev pub HasGrownAt : ℕ → List (Told E) → List (Told E) → Type 0
  HasGrownAt place known now = (was is : Told E) → slice_get known place ≡ Some was → slice_get now place ≡ Some is → Begins was.seen is.seen

module _ {T P E O : Type 0} (key_of : E → Key) where
  -- The session's pass of a partition has learned what the one among these has seen, and all else is as before
  pub record HasLearnedAt (known : List (Told E)) (old new : SessionPass T P E O) (partition : ℕ) : Type 0 where
    pub pass : Told E
    pub there : pass_at old partition ≡ Some (Some pass)
    pub from : Told E
    pub from_is : slice_get known partition ≡ Some from
    pub now : Told E
    pub learned : HasLearned key_of pass from now
    pub back : HasPassAt old new partition (Some now)

  -- The pass of a partition among these has learned what the session's has seen, and all others are as before; so is the session
  pub record HasTaughtAt (old new : SessionPass T P E O) (partition : ℕ) (known now : List (Told E)) : Type 0 where
    pub pass : Told E
    pub there : pass_at old partition ≡ Some (Some pass)
    pub was : Told E
    pub was_is : slice_get known partition ≡ Some was
    pub taught : Told E
    pub learned : HasLearned key_of was pass taught
    pub written : now ≡ slice_set known partition taught
    pub back : HasPassAt old new partition (Some pass)

module _ {E : Type 0} (key_of : E → Key) where
  -- The first call isn't in what was seen by its end, or the second isn't in what was seen by its own, or there the first one's event stands before
  -- the second's
  abbrev pub StandInOrder : CallId → List E → CallId → List E → (earlier later : E) → Type 0
  StandInOrder first seen_first second seen_second earlier later =
      Lacks key_of (Call first) seen_first ⊎ Lacks key_of (Call second) seen_second ⊎ StandsBefore earlier later seen_second

module _ {T P E O : Type 0} (key_of : E → Key) (call_of : ℕ → Request → ℕ → E) (tells : P → List E → E → LiveOutcome → Type 0) where
  -- A call of one session had its outcome (old, new), and then passes learned what that session had seen of the partition. They grew. Another
  -- session learned from them, and then a call of it was started there, which had its outcome: then the first call's event stands before the
  -- second's in what the second has seen, or one of the two wasn't run
  abbrev pub CallsStandInOrder : Workplace T P E O → Type 0
  CallsStandInOrder place = (terms : Terms P E) (ended : Started T P E O) (old new : SessionPass T P E O) (outcome : LiveOutcome)
      → (first : IsReady key_of tells terms ended old new outcome)
      → (after : SessionPass T P E O) (known taught grown : List (Told E)) → HasTaughtAt key_of new after ended.partition known taught
      → HasGrownAt ended.partition taught grown
      → (before learned away : SessionPass T P E O) (request : Request) (now : ℕ) (started : Started T P E O) → request.partition ≡ ended.partition
      → HasLearnedAt key_of grown before learned request.partition
      → (start : HasStarted key_of call_of place learned away request now started)
      → (again : Started T P E O) (was is : SessionPass T P E O) (answer : LiveOutcome) → again.id ≡ started.id
      → (second : IsReady key_of tells start.terms again was is answer)
      → StandInOrder key_of ended.id first.pass.seen request.id second.pass.seen terms.event (call_of learned.member request now)

  -- The same of calls on their terms, be they started or made at once: the first one had its outcome (old, new), and the second one's pass is
  -- back
  abbrev pub ReturnedCallsStandInOrder : Workplace T P E O → Type 0
  ReturnedCallsStandInOrder place = (terms : Terms P E) (id : CallId) (partition : ℕ) (old new : SessionPass T P E O) (outcome : LiveOutcome)
      → (first : HasReturned key_of tells terms id partition old new outcome)
      → (after : SessionPass T P E O) (known taught grown : List (Told E)) → HasTaughtAt key_of new after partition known taught
      → HasGrownAt partition taught grown
      → (before learned : SessionPass T P E O) (request : Request) (now : ℕ) (later_terms : Terms P E) → request.partition ≡ partition
      → HasLearnedAt key_of grown before learned request.partition → AreTermsOf call_of place learned request now later_terms
      → (pass : Told E) (answer : LiveOutcome) → HasCalled key_of tells later_terms request.id pass answer
      → StandInOrder key_of id first.pass.seen request.id pass.seen terms.event (call_of learned.member request now)
