-- What a pass has seen after turns of an operator's.
use Rattle.std.proofs.Common.{◌≡◌, ◌<◌, List, [], ◌∷◌, ◌++◌, length, append-nil, append_assoc, sym, ap, ◌∙◌, subst, Option, Some, None, Result, Ok, Err, OnOk, IfOk, IfErr}
use Rattle.grid_base.specs.declared.calls.Request.{Request}
use Rattle.hand_cell.specs.declared.names.Key.{Key}
use Rattle.hand_cell.specs.declared.stands.RunRefused.{RunRefused}
use Rattle.hand_cell.specs.declared.stands.RunRefused.TheVariants.{Memory as NoMemory, Exhausted}
use Rattle.hand_cell.specs.Calls.{Enters, IsRefused}
use Rattle.hand_cell.specs.Names.{NoneOf}
use Rattle.hand_cell.specs.Ready.{most_events}
use Rattle.hand_cell.specs.Told.{Told, Taken, having_seen, so_far, after_ran}
use Rattle.partition_threads.specs.Turns.{Follows}
use Rattle.partition_threads.proofs.Going.{none_append}
use Rattle.partition_world.specs.declared.event.Event.{Event}
use Rattle.partition_world.specs.declared.event.Happened.{Happened}
use Rattle.live_grid.specs.declared.plan.GridPlan.{GridPlan}
use Rattle.live_grid.specs.Control.{HasRun, WasRefused, CameTo}
use Rattle.live_grid.specs.Histories.{live_key}
use Rattle.live_grid.specs.Outcomes.{LiveGives}

module _ {E : Type 0} (key_of : E → Key) where
  pub follows_itself : (p : Told E) → Follows key_of p p
  follows_itself p = record { later = []; pass = ap (having_seen p) (sym (append-nil p.seen)); not_own = tt }

  pub follows_on : (p q r : Told E) → Follows key_of p q → Follows key_of q r → Follows key_of p r
  follows_on p q r a b = record {
    later = a.later ++ b.later;
    pass = b.pass ∙ (ap (λ (z : Told E). having_seen z (z.seen ++ b.later)) a.pass ∙ ap (having_seen p) (append_assoc p.seen a.later b.later));
    not_own = none_append key_of p.names a.later b.later a.not_own (subst (λ (z : Told E). NoneOf key_of z.names b.later) a.pass b.not_own);
  }

module _ (plan : GridPlan) (event : Event Request) (p : Told (Event Request)) where
  abbrev E : Type 0
  E = Event Request

  -- a turn in which the event was run, or refused
  pub came_in_turn : {T : Type 0} (t u : Taken T E GridPlan) (r : Told E) (came : Result Happened RunRefused) → Enters live_key p t → t.plan ≡ plan → u.pass ≡ t.pass
      → OnOk came (u.ran ≡ Some event) → IfOk came (λ o. LiveGives t.plan t.pass.seen event o) → IfErr came (λ why. IsRefused t u why)
      → r ≡ having_seen u.pass (so_far u) → CameTo plan event p r came
  came_in_turn {T} t u r (Ok o) en made same ran gives refused left = record {
    before = en.later;
    after = [];
    pass = left ∙ (ap (λ (z : Option E). having_seen u.pass (after_ran u.pass.seen z)) ran ∙ ap (λ (z : Told E). having_seen z (z.seen ++ event ∷ [])) (same ∙ en.pass));
    none_before = en.not_own;
    none_after = tt;
    outcome_is = subst (λ (z : GridPlan). LiveGives z (p.seen ++ en.later) event o) made (subst (λ (z : Told E). LiveGives t.plan z.seen event o) en.pass gives);
  }
  came_in_turn {T} t u r (Err why) en made same ran gives refused left = unrun why refused
    where
      in_turn : u.ran ≡ None → r ≡ having_seen p (p.seen ++ en.later)
      in_turn none = left ∙ (ap (λ (z : Option E). having_seen u.pass (after_ran u.pass.seen z)) none ∙ ap (λ (z : Told E). having_seen z z.seen) (same ∙ en.pass))

      follows : u.ran ≡ None → Follows live_key p r
      follows none = record { later = en.later; pass = in_turn none; not_own = en.not_own }

      seen_is : u.ran ≡ None → t.pass.seen ≡ r.seen
      seen_is none = ap (λ (z : Told E). z.seen) en.pass ∙ sym (ap (λ (z : Told E). z.seen) (in_turn none))

      unrun : (w : RunRefused) → IsRefused t u w → WasRefused plan event p r w
      unrun NoMemory is = record { follows = follows is.1; why_is = subst (λ (z : List E). length z < most_events) (seen_is is.1) is.0 }
      unrun (Exhausted told) is =
          let none : u.ran ≡ None = ap (λ (z : Taken T E GridPlan). z.ran) is.unchanged ∙ en.nothing_ran in record {
            follows = follows none;
            why_is = (subst (λ (z : List E). length z ≡ most_events) (seen_is none) is.at_limit, is.limit_told);
          }

  -- after it others ran, and deliveries
  pub went_on : (q r : Told E) (o : Happened) → HasRun plan event p q o → Follows live_key q r → HasRun plan event p r o
  went_on q r o h f = record {
    before = h.before;
    after = h.after ++ f.later;
    pass = f.pass ∙ (ap (λ (z : Told E). having_seen z (z.seen ++ f.later)) h.pass ∙ ap (having_seen p) (append_assoc (p.seen ++ h.before) (event ∷ h.after) f.later));
    none_before = h.none_before;
    none_after = none_append live_key p.names h.after f.later h.none_after (subst (λ (z : Told E). NoneOf live_key z.names f.later) h.pass f.not_own);
    outcome_is = h.outcome_is;
  }

  -- the same pass, whatever came of it
  pub same_pass : (r : Told E) (came : Result Happened RunRefused) → CameTo plan event p r came → (r.table ≡ p.table) × (r.names ≡ p.names)
  same_pass r (Ok o) h = (ap (λ (z : Told E). z.table) h.pass, ap (λ (z : Told E). z.names) h.pass)
  same_pass r (Err why) h = (ap (λ (z : Told E). z.table) h.follows.pass, ap (λ (z : Told E). z.names) h.follows.pass)
