-- A call that a session starts.
use Rattle.std.proofs.Common.{◌≡◌, ℕ, ◌<◌, Some, None, length, true, sym, refl, ap, ◌∙◌, subst}
use Rattle.std.proofs.lemmas.Option.{slice_get_within}
use Rattle.grid_base.specs.declared.calls.Request.{Request}
use Rattle.hand_cell.specs.declared.names.Key.{Key}
use Rattle.hand_cell.specs.declared.names.Key.TheVariants.{Call}
use Rattle.hand_cell.specs.Names.{has as has_name, IsNewKey}
use Rattle.hand_cell.specs.Told.{Told}
use Rattle.job_queues.specs.Roster.{roster_of}
use Rattle.partition_threads.specs.declared.starting.Awaited.{Awaited}
use Rattle.partition_threads.specs.declared.workplace.Workplace.{Workplace}
use Rattle.partition_threads.specs.Starting as starting
use Rattle.session_calls.specs.declared.session.SessionPass.{SessionPass}
use Rattle.session_calls.specs.Calls.{MayCall, HasStarted}
use Rattle.session_calls.specs.Sessions.{IsSessionOf, HasPassAt, pass_at}
use Rattle.session_calls.proofs.Places.{same_some}

module _ {T P E O : Type 0} (key_of : E → Key) (fits : Request → Type 0) (s : SessionPass T P E O) (request : Request) (may : MayCall key_of fits s request) where
  pub pass_within : request.partition < length s.passes.items
  pass_within = slice_get_within s.passes.items request.partition (Some may.pass) may.there

  module _ (pass : Told E) (there : pass_at s request.partition ≡ Some (Some pass)) where
    pub pass_is : may.pass ≡ pass
    pass_is = same_some may.pass pass (same_some (Some may.pass) (Some pass) (sym may.there ∙ there))

    pub named_is : has_name pass.names (Call request.id) ≡ true
    named_is = subst (λ (p : Told E). has_name p.names (Call request.id) ≡ true) pass_is may.named

    pub unused_is : IsNewKey key_of (Call request.id) pass.seen
    unused_is = subst (λ (p : Told E). IsNewKey key_of (Call request.id) p.seen) pass_is may.unused

    -- the worker has the call, and the session has no pass of the partition
    pub started : (place : Workplace T P E O) → IsSessionOf place s → (call_of : ℕ → Request → ℕ → E) (now : ℕ) → key_of (call_of s.member request now) ≡ Call request.id
        → (awaited : Awaited T P E O) → starting.HasStarted call_of (roster_of place.cells.items) pass s.member request now awaited
        → (new : SessionPass T P E O) → HasPassAt s new request.partition None
        → HasStarted key_of call_of place s new request now (record { id = request.id; partition = request.partition; awaited = awaited })
    started place is call_of now key awaited has new away = record {
      terms = has.terms;
      pass = there ∙ ap (λ (p : Told E). Some (Some p)) (sym has.first);
      event = has.event;
      under_way = record {
        awaited = has.awaits;
        here = is.passes request.partition pass there ∙ ap (λ (p : Told E). Some p.table) (sym has.first);
        plan = has.plan;
        key = ap key_of has.event ∙ key;
        named = subst (λ (p : Told E). has_name p.names (Call request.id) ≡ true) (sym has.first) named_is;
        unused = subst (λ (p : Told E). IsNewKey key_of (Call request.id) p.seen) (sym has.first) unused_is;
      };
      id = refl;
      partition = refl;
      away = away;
    }
