-- A turn in which nothing was run.
use Rattle.std.proofs.Common.{◌≡◌, Option, Result, IfOk, refl, sym, ap, subst}
use Rattle.std.specs.Option.{option_map}
use Rattle.grid_base.specs.declared.names.ObjectKey.{ObjectKey}
use Rattle.grid_base.specs.declared.calls.Request.{Request}
use Rattle.hand_cell.specs.Calls.{Enters}
use Rattle.hand_cell.specs.Told.{Told, Taken, having_seen, so_far}
use Rattle.partition_threads.specs.Turns.{IsFree}
use Rattle.partition_threads.proofs.Going.{follows_turn}
use Rattle.partition_world.specs.declared.event.Event.{Event}
use Rattle.live_grid.specs.declared.copies.Record.{Record as Copy}
use Rattle.live_grid.specs.declared.plan.GridPlan.{GridPlan}
use Rattle.live_grid.specs.declared.world.LiveWorld.{LiveWorld}
use Rattle.live_grid.specs.Histories.{live_key}
use Rattle.live_grid.specs.Lives.{LiveStands}
use Rattle.live_grid.specs.Stored.{HasLooked, record_of, stored_in}

-- what was found in its value is told of what its pass has seen
pub looked_in_turn : {Error : Type 0} (plan : GridPlan) (name : ObjectKey) (p : Told (Event Request)) (t : Taken LiveWorld (Event Request) GridPlan) (r : Told (Event Request)) (found : Result (Option Copy) Error) → Enters live_key p t → t.plan ≡ plan
    → (live : LiveWorld) → LiveStands live t.plan (so_far t) → IfOk found (λ copy. option_map record_of copy ≡ stored_in t.plan (so_far t) name) → r ≡ having_seen t.pass (so_far t) → HasLooked plan name p r found
looked_in_turn plan name p t r found en made live stands told left =
    let seen : so_far t ≡ r.seen = sym (ap (λ (z : Told (Event Request)). z.seen) left) in record {
      follows = follows_turn live_key p t t r en refl (subst (IsFree live_key) (sym en.nothing_ran) tt) left;
      live = live;
      stands = subst (LiveStands live plan) seen (subst (λ (z : GridPlan). LiveStands live z (so_far t)) made stands);
      stored = subst (λ h. IfOk found (λ (copy : Option Copy). option_map record_of copy ≡ stored_in plan h name)) seen
          (subst (λ (z : GridPlan). IfOk found (λ (copy : Option Copy). option_map record_of copy ≡ stored_in z (so_far t) name)) made told);
    }
