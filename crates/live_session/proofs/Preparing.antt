-- How a connection is prepared for a turn among those of one loop.
use Rattle.std.proofs.Common.{◌≡◌, ℕ, ◌<◌, List, [], ◌∷◌, length, Option, Some, None, sym, ◌∙◌, subst, append-nil}
use Rattle.std.proofs.lemmas.Option.{slice_get_within}
use Rattle.grid_base.specs.declared.TheConstants.{PARTITIONS}
use Rattle.grid_base.specs.declared.calls.Request.{Request}
use Rattle.hand_cell.specs.declared.names.Key.{Key}
use Rattle.hand_cell.specs.declared.outcome.LiveOutcome.{LiveOutcome}
use Rattle.hand_cell.specs.Told.{Told}
use Rattle.partition_threads.specs.declared.workplace.Workplace.{Workplace}
use Rattle.session_calls.specs.declared.session.SessionPass.{SessionPass}
use Rattle.session_calls.specs.Learning.{HasLearnedAt}
use Rattle.session_calls.specs.Sessions.{IsSessionOf, pass_at}
use Rattle.session_core.specs.declared.item.Item.{Item}
use Rattle.session_core.specs.declared.item.Item.TheVariants.{Call}
use Rattle.live_session.specs.declared.connection.Asked.{Asked}
use Rattle.live_session.specs.declared.connection.Connection.{Connection}
use Rattle.live_session.specs.Among.{StandsBehind, IsPrepared}
use Rattle.live_session.specs.Connections.{IsServedWith, IsServedTo}
use Rattle.live_session.specs.Next.{IsNext}
use Rattle.live_session.specs.Steps.{IfStarts}
use Rattle.live_session.specs.declared.step.CallStep.{CallStep}
use Rattle.live_session.specs.declared.step.CallStep.TheVariants.{Nothing, Begun, Ended, Made}
use Rattle.live_session.proofs.Learning.{pass_there, sees_then, more_then, own_then, learned_with, stands_then}
use Rattle.live_session.specs.Starts.{Log}

module _ {T P E O : Type 0} (key_of : E → Key) (tells : P → List E → E → LiveOutcome → Type 0) (call_of : ℕ → Request → ℕ → E) (place : Workplace T P E O)
    (c : Connection T P E O) (seen : ℕ → List E) (log : Log) (read written : List ℕ) (served : IsServedTo key_of tells call_of log place c seen read written) where
  -- no call comes next
  pub as_before : (known : List (Told E)) → ((partition : ℕ) → IsNext c partition → ⊥) → IsPrepared key_of tells call_of place c c seen log read written known
  as_before known never = record {
    sees = seen;
    more = λ partition. ([], sym (append-nil (seen partition)));
    own = λ id partition at mine is. is;
    served = served;
    behind = λ partition next. absurd (never partition next);
  }

  module _ (idle : c.asked ≡ None) (request : Request) (rest : List Item) (first : c.items.items ≡ Call request ∷ rest) (cells : length place.cells.items ≡ PARTITIONS) where
    laid : IsServedWith key_of tells call_of log place c None (Call request ∷ rest) seen read written
    laid = subst (λ (l : List Item). IsServedWith key_of tells call_of log place c None l seen read written) first
        (subst (λ (a : Option (Asked T P E O)). IsServedWith key_of tells call_of log place c a c.items.items seen read written) idle served)

    -- the pass of its partition is there
    pub next_there : (pass : Told E) × (pass_at c.pass request.partition ≡ Some (Some pass))
    next_there = pass_there key_of tells call_of log place c seen read written request rest laid cells

    -- it is one of the place
    pub next_within : request.partition < length place.cells.items
    next_within = subst (λ (n : ℕ). request.partition < n) served.pass.each (slice_get_within c.pass.passes.items request.partition (Some next_there.0) next_there.1)

    same_partition : (other : Request) (behind : List Item) → Call request ∷ rest ≡ Call other ∷ behind → other.partition ≡ request.partition
    same_partition other behind e = cc

    -- its session learned of the others
    pub has_learned : (known : List (Told E)) (pass_now : SessionPass T P E O) → IsSessionOf place pass_now → HasLearnedAt key_of known c.pass pass_now request.partition
        → IsPrepared key_of tells call_of place c (record c { pass = pass_now }) seen log read written known
    has_learned known pass_now kept learned = let then = sees_then key_of tells call_of log place c seen read written request rest laid cells known pass_now kept learned in record {
      sees = sees_then key_of tells call_of log place c seen read written request rest laid cells known pass_now kept learned;
      more = more_then key_of tells call_of log place c seen read written request rest laid cells known pass_now kept learned;
      own = own_then key_of tells call_of log place c seen read written request rest laid cells known pass_now kept learned;
      served = subst (λ (l : List Item). IsServedWith key_of tells call_of log place (record c { pass = pass_now }) c.asked l then read written) (sym first)
          (subst (λ (a : Option (Asked T P E O)). IsServedWith key_of tells call_of log place (record c { pass = pass_now }) a (Call request ∷ rest) then read written) (sym idle)
          (learned_with key_of tells call_of log place c seen read written request rest laid cells known pass_now kept learned));
      behind = λ partition next.
          let same : request.partition ≡ partition = sym (same_partition next.request next.behind (sym first ∙ next.first)) ∙ next.partition_is in
          subst (λ (p : ℕ). StandsBehind known p (then p)) same (stands_then key_of tells call_of log place c seen read written request rest laid cells known pass_now kept learned);
    }

-- a call that was started in a turn stands behind what these passes have seen
module _ {T P E O : Type 0} (key_of : E → Key) (tells : P → List E → E → LiveOutcome → Type 0) (call_of : ℕ → Request → ℕ → E) (place : Workplace T P E O)
    (c : Connection T P E O) (seen : ℕ → List E) (log : Log) (read written : List ℕ) (known : List (Told E)) (was : Connection T P E O) (same : was ≡ record c { pass = was.pass })
    (prepared : IsPrepared key_of tells call_of place c was seen log read written known) where
  next_before : (partition : ℕ) → IsNext was partition → IsNext c partition
  next_before partition next = again (subst (λ (x : Connection T P E O). IsNext x partition) same next)
    where
      again : IsNext (record c { pass = was.pass }) partition → IsNext c partition
      again n = record { idle = n.idle; room = n.room; request = n.request; behind = n.behind; first = n.first; partition_is = n.partition_is }

  pub behind_next : (step : CallStep) → IfStarts (λ call. IsNext was call.partition) step → IfStarts (λ call. StandsBehind known call.partition (prepared.sees call.partition)) step
  behind_next Nothing started = tt
  behind_next (Begun call) started = prepared.behind call.partition (next_before call.partition started)
  behind_next (Ended call) started = tt
  behind_next (Made call) started = prepared.behind call.partition (next_before call.partition started)
