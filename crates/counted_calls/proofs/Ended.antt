-- A count that has ended: all sessions were joined, and then a turn has looked.
use Rattle.std.proofs.Common.{◌≡◌, ⊎_elim, ℕ, ℤ, List, Option, Some, Ok, slice_get, sym, ap, ◌∙◌, subst}
use Rattle.std.specs.Option.{option_and_then, option_map}
use Rattle.entry_processors.specs.declared.form.Form.{Form}
use Rattle.entry_processors.specs.Processors.{counted}
use Rattle.grid_base.specs.declared.names.ObjectKey.{ObjectKey}
use Rattle.grid_base.specs.declared.calls.Request.{Request}
use Rattle.hand_cell.specs.Calls.{plan_of}
use Rattle.hand_cell.specs.Names.{has_number}
use Rattle.hand_cell.specs.Told.{Told}
use Rattle.object_store.specs.Records.{Record, entry_in}
use Rattle.partition_world.specs.declared.event.Event.{Event}
use Rattle.session_calls.proofs.OfCells.{came_from}
use Rattle.session_calls.proofs.Places.{after_set, set_there}
use Rattle.live_grid.specs.declared.copies.Record.{Record as Copy}
use Rattle.live_grid.specs.declared.grid.GridPass.{GridPass}
use Rattle.live_grid.specs.declared.grid.LiveGrid.{LiveGrid}
use Rattle.live_grid.specs.declared.plan.GridPlan.{GridPlan}
use Rattle.live_grid.specs.declared.world.LiveWorld.{LiveWorld}
use Rattle.live_grid.specs.Grids.{AreCells, place_of}
use Rattle.live_grid.specs.Lives.{LiveStands}
use Rattle.live_grid.specs.Plans.{IsPlanOf}
use Rattle.live_grid.specs.Stored.{HasLookedAt, record_of, stored_in}
use Rattle.counted_calls.specs.Calls.{name_of}
use Rattle.counted_calls.specs.Counts.{AreCounted, HasCounted, number_stored}
use Rattle.counted_calls.specs.Gathered.{AreGathered, HasGathered, HasNamesFrom, HaveNamesFrom}
use Rattle.counted_calls.specs.declared.requests.TheConstants.{PARTITION}
use Rattle.counted_calls.proofs.Gathering.{gathered_longer}
use Rattle.counted_calls.proofs.Later.{none_from, no_controls}
use Rattle.counted_calls.proofs.Opened.{GridCell}

-- the law of the counts
abbrev pub CountIsStored : Type 0
CountIsStored = (live : LiveWorld) (plan : GridPlan) (forms : List Form) (capacity : ℕ) (key : List ℕ) (history : List (Event Request)) (answered : ℕ) (total : Option ℤ)
    → LiveStands live plan history → IsPlanOf 3 1 forms capacity PARTITION plan → AreGathered plan key 0 answered history
    → total ≡ number_stored plan history key → AreCounted plan key history (record { answered = answered; total = total })

same_some : {A : Type 0} (a b : A) → ◌≡◌ {A = Option A} (Some a) (Some b) → a ≡ b
same_some a b e = cc

module _ {Error : Type 0} (law : CountIsStored) (grid : LiveGrid) (forms : List Form) (capacity : ℕ) (key : List ℕ) (answered : ℕ) (before after : GridPass) (name : ObjectKey) (found : Option Copy) (total : Option ℤ)
    (cells : AreCells 3 1 forms capacity (place_of grid).cells.items) (gathered : HasGathered grid key 0 answered before) (looked : HasLookedAt {Error = Error} grid name before after PARTITION (Ok found))
    (name_is : name ≡ name_of key) (total_is : total ≡ counted (option_and_then (λ (kept : Record). (entry_in kept).value) (option_map record_of found))) where
  plan_is : gathered.plan ≡ looked.plan
  plan_is = same_some gathered.plan looked.plan (sym gathered.plan_here.there ∙ looked.plan_there)

  last_is : gathered.last ≡ looked.was
  last_is = same_some gathered.last looked.was (sym gathered.last_there ∙ looked.was_there)

  of_plan : IsPlanOf 3 1 forms capacity PARTITION looked.plan
  of_plan =
      let cell = came_from (λ (c : GridCell). plan_of c) (place_of grid).cells.items PARTITION looked.plan looked.plan_there in
      subst (λ (p : GridPlan). IsPlanOf 3 1 forms capacity PARTITION p) (sym cell.2) (cells PARTITION cell.0 cell.1)

  was_gathered : AreGathered looked.plan key 0 answered looked.was.seen
  was_gathered = subst (λ (p : GridPlan). AreGathered p key 0 answered looked.was.seen) plan_is (subst (λ (t : Told (Event Request)). AreGathered gathered.plan key 0 answered t.seen) last_is gathered.gathered)

  names : HasNamesFrom 0 looked.was
  names = gathered.named PARTITION looked.was looked.was_there

  is_gathered : AreGathered looked.plan key 0 answered looked.is.seen
  is_gathered =
      let follows = looked.here.follows in
      subst (λ (t : Told (Event Request)). AreGathered looked.plan key 0 answered t.seen) (sym follows.pass)
      (gathered_longer looked.plan key 0 answered looked.was.seen follows.later
      (no_controls looked.was.names follows.later follows.not_own names.control)
      (none_from looked.was.names follows.later follows.not_own 0 names.numbers) was_gathered)

  names_after : HasNamesFrom 0 looked.is
  names_after = record {
    control = ap (λ (t : Told (Event Request)). t.names.control) looked.here.follows.pass ∙ names.control;
    numbers = λ number low. ap (λ (t : Told (Event Request)). has_number t.names.numbers number) looked.here.follows.pass ∙ names.numbers number low;
    uncontrolled = is_gathered.uncontrolled;
  }

  still_named : HaveNamesFrom 0 after.passes.items
  still_named partition pass e = ⊎_elim
      (λ (h : (pass ≡ looked.is) × (partition ≡ PARTITION)). subst (λ (t : Told (Event Request)). HasNamesFrom 0 t) (sym h.0) names_after)
      (λ (h : slice_get before.passes.items partition ≡ Some pass). gathered.named partition pass h)
      (after_set before.passes.items PARTITION looked.is partition pass (ap (λ l. slice_get l partition) (sym looked.passes) ∙ e))

  stored : total ≡ number_stored looked.plan looked.is.seen key
  stored = subst (λ (n : ObjectKey). total ≡ counted (option_and_then (λ (kept : Record). (entry_in kept).value) (stored_in looked.plan looked.is.seen n))) name_is
      (total_is ∙ ap (λ kept. counted (option_and_then (λ (r : Record). (entry_in r).value) kept)) looked.here.stored)

  pub has_counted : HasCounted forms capacity key grid after (record { answered = answered; total = total })
  has_counted = record {
    cells = cells;
    plan = looked.plan;
    plan_there = record { there = looked.plan_there };
    last = looked.is;
    last_there = ap (λ l. slice_get l PARTITION) looked.passes ∙ set_there before.passes.items PARTITION looked.was looked.is looked.was_there;
    named = still_named;
    came_to = law looked.here.live looked.plan forms capacity key looked.is.seen answered total looked.here.stands of_plan is_gathered stored;
  }
