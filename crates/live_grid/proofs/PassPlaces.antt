-- The passes of a grid, of which one goes on.
use Rattle.std.proofs.Common.{◌≡◌, ◌≢◌, ℕ, zero, suc, ◌<◌, ⊎_elim, List, [], ◌∷◌, map, length, Option, Some, Result, slice_get, slice_set, sym, refl, ap, ◌∙◌, subst, arith}
use Rattle.std.specs.List.{insert, remove}
use Rattle.std.proofs.lemmas.List.{length-map, length-set}
use Rattle.std.proofs.lemmas.Option.{slice_get_within}
use Rattle.atomic_table.specs.Seated.{TableId}
use Rattle.grid_base.specs.declared.names.ObjectKey.{ObjectKey}
use Rattle.grid_base.specs.declared.calls.Request.{Request}
use Rattle.hand_cell.specs.declared.names.Key.TheVariants.{Control}
use Rattle.hand_cell.specs.declared.stands.RunRefused.{RunRefused}
use Rattle.hand_cell.specs.Calls.{first_pass}
use Rattle.hand_cell.specs.declared.cell.Cell.{Cell}
use Rattle.hand_cell.specs.Names.{has}
use Rattle.hand_cell.specs.Told.{Told}
use Rattle.job_queues.specs.Roster.{roster_of}
use Rattle.partition_threads.specs.declared.workplace.Workplace.{Workplace}
use Rattle.grid_base.specs.declared.TheConstants.{PARTITIONS}
use Rattle.live_grid.specs.declared.world.LiveWorld.{LiveWorld}
use Rattle.partition_protocol.proofs.Lists.{get_set}
use Rattle.partition_protocol.proofs.Theorem.{map_get, get_map}
use Rattle.partition_world.proofs.KeptRings.{some_at}
use Rattle.partition_world.specs.declared.event.Event.{Event}
use Rattle.partition_world.specs.declared.event.Happened.{Happened}
use Rattle.live_grid.specs.declared.grid.GridPass.{GridPass}
use Rattle.live_grid.specs.declared.grid.LiveGrid.{LiveGrid}
use Rattle.live_grid.specs.declared.copies.Record.{Record as Copy}
use Rattle.live_grid.specs.declared.plan.GridPlan.{GridPlan}
use Rattle.live_grid.specs.Control.{CameTo, CameToAt, IsPassOfGrid, HasControl, cells_of}
use Rattle.live_grid.specs.Grids.{place_of, IsGridPassOf}
use Rattle.live_grid.specs.Stored.{HasLooked, HasLookedAt}
use Rattle.live_grid.proofs.Following.{same_pass}

abbrev Seen : Type 0
Seen = Told (Event Request)

-- what was taken out at a place, and put back there
pub put_back : {X : Type 0} (xs : List X) (i : ℕ) (y : X) → i < length xs → insert (remove xs i) i y ≡ slice_set xs i y
put_back [] i y less = absurd (omega arith)
put_back (x ∷ xs) zero y less = refl
put_back (x ∷ xs) (suc i) y less = ap (λ zs. x ∷ zs) (put_back xs i y (omega arith))

map_same : {X Y : Type 0} (f : X → Y) (xs : List X) (i : ℕ) (x y : X) → slice_get xs i ≡ Some x → f y ≡ f x → map f (slice_set xs i y) ≡ map f xs
map_same f [] i x y e same = refl
map_same f (z ∷ zs) zero x y e same = let is : z ≡ x = cc in ap (λ w. w ∷ map f zs) (same ∙ ap f (sym is))
map_same f (z ∷ zs) (suc i) x y e same = ap (λ ws. f z ∷ ws) (map_same f zs i x y e same)

same_some : {A : Type 0} (a b : A) → ◌≡◌ {A = Option A} (Some a) (Some b) → a ≡ b
same_some a b e = cc

module _ (grid : LiveGrid) where
  -- as many passes as partitions
  pub passes_long : (pass : GridPass) → IsPassOfGrid grid pass → length pass.passes.items ≡ length (place_of grid).cells.items
  passes_long pass is = sym (length-map pass.passes.items (λ (p : Seen). p.table)) ∙ (ap length is.tables ∙ length-map (place_of grid).cells.items (λ c. c.table.shared.table_id))

  -- the pass of a partition is of the cell there
  pub pass_there : (pass : GridPass) (partition : ℕ) (p : Seen) → IsPassOfGrid grid pass → slice_get pass.passes.items partition ≡ Some p → slice_get (cells_of grid).tables partition ≡ Some p.table
  pass_there pass partition p is there = subst (λ (z : List TableId). slice_get z partition ≡ Some p.table) is.tables (map_get (λ (q : Seen). q.table) pass.passes.items partition p there)

  -- there is a plan for each partition
  pub plan_there : (partition : ℕ) → partition < length (place_of grid).cells.items → (plan : GridPlan) × (slice_get (cells_of grid).plans partition ≡ Some plan)
  plan_there partition less = some_at (cells_of grid).plans partition (omega (arith, length-map (place_of grid).cells.items (λ c. c.table.shared.key)))

  -- the pass of a partition went on, and the others are as they were
  module _ (old new : GridPass) (partition : ℕ) (was is : Seen) (was_there : slice_get old.passes.items partition ≡ Some was) (passes : new.passes.items ≡ slice_set old.passes.items partition is)
      (same : (is.table ≡ was.table) × (is.names ≡ was.names)) where
    pub went_on_of_grid : IsPassOfGrid grid old → IsPassOfGrid grid new
    went_on_of_grid of_grid = record {
      as_many = of_grid.as_many;
      tables = ap (λ (ps : List Seen). map (λ (p : Seen). p.table) ps) passes ∙ (map_same (λ (p : Seen). p.table) old.passes.items partition was is was_there same.0 ∙ of_grid.tables);
    }

    pub went_on_control : HasControl old → HasControl new
    went_on_control has_it q p there = ⊎_elim
        (λ (h : (q ≡ partition) × (is ≡ p)). ap (λ (z : Seen). has z.names Control) (sym h.1) ∙ (ap (λ names. has names Control) same.1 ∙ has_it partition was was_there))
        (λ (h : (q ≢ partition) × (slice_get old.passes.items q ≡ Some p)). has_it q p h.1)
        (get_set old.passes.items partition q is p (subst (λ (ps : List Seen). slice_get ps q ≡ Some p) passes there))

    pub went_on_whole : new.tokens ≡ old.tokens → IsGridPassOf grid old → IsGridPassOf grid new
    went_on_whole tokens whole = record {
      cells = record {
        as_long = ap (λ (ps : List Seen). length ps) passes ∙ (length-set old.passes.items partition is ∙ whole.cells.as_long);
        each = λ q p there. ⊎_elim
            (λ (h : (q ≡ partition) × (is ≡ p)). subst (λ k. slice_get (cells_of grid).tables k ≡ Some p.table) (sym h.0)
            (whole.cells.each partition was was_there ∙ ap Some (sym same.0 ∙ ap (λ (z : Seen). z.table) h.1)))
            (λ (h : (q ≢ partition) × (slice_get old.passes.items q ≡ Some p)). whole.cells.each q p h.1)
            (get_set old.passes.items partition q is p (subst (λ (ps : List Seen). slice_get ps q ≡ Some p) passes there));
      };
      workers = rw tokens whole.workers;
    }

  module _ (event : Event Request) (old new : GridPass) (partition : ℕ) (came : Result Happened RunRefused) (at : CameToAt grid event old new partition came) where
    same_there : (at.is.table ≡ at.was.table) × (at.is.names ≡ at.was.names)
    same_there = same_pass at.plan event at.was at.is came at.here

    pub still_of_grid : IsPassOfGrid grid old → IsPassOfGrid grid new
    still_of_grid = went_on_of_grid old new partition at.was at.is at.was_there at.passes same_there

    pub still_control : HasControl old → HasControl new
    still_control = went_on_control old new partition at.was at.is at.was_there at.passes same_there

  module _ {Error : Type 0} (name : ObjectKey) (old new : GridPass) (partition : ℕ) (found : Result (Option Copy) Error) (at : HasLookedAt grid name old new partition found) where
    looked_same : (at.is.table ≡ at.was.table) × (at.is.names ≡ at.was.names)
    looked_same = let follows = at.here.follows in (ap (λ (z : Seen). z.table) follows.pass, ap (λ (z : Seen). z.names) follows.pass)

    pub looked_of_grid : IsPassOfGrid grid old → IsPassOfGrid grid new
    looked_of_grid = went_on_of_grid old new partition at.was at.is at.was_there at.passes looked_same

    pub looked_control : HasControl old → HasControl new
    looked_control = went_on_control old new partition at.was at.is at.was_there at.passes looked_same

    pub looked_whole : IsGridPassOf grid old → IsGridPassOf grid new
    looked_whole = went_on_whole old new partition at.was at.is at.was_there at.passes looked_same at.tokens

-- a pass that was taken out, went on, and was put back
back_in_place : (old new : GridPass) (partition slot : ℕ) (was is : Seen) (taken : List Seen) → slot ≡ partition → slice_get old.passes.items slot ≡ Some was → taken ≡ remove old.passes.items slot → new.passes.items ≡ insert taken slot is
    → new.passes.items ≡ slice_set old.passes.items partition is
back_in_place old new partition slot was is taken slot_is was_there left back =
    back ∙ (ap (λ (ps : List Seen). insert ps slot is) left ∙ (put_back old.passes.items slot is (slice_get_within old.passes.items slot was was_there) ∙ ap (λ k. slice_set old.passes.items k is) slot_is))

-- what came of the event in the partition, whose pass was taken out and put back
pub came_at : (grid : LiveGrid) (event : Event Request) (old new : GridPass) (partition slot : ℕ) (was is : Seen) (came : Result Happened RunRefused) (place : Workplace LiveWorld GridPlan (Event Request) Happened) (taken : List Seen)
    → IsPassOfGrid grid old → partition < PARTITIONS → slot ≡ partition → place ≡ place_of grid → slice_get old.passes.items slot ≡ Some was → taken ≡ remove old.passes.items slot → new.passes.items ≡ insert taken slot is → new.tokens ≡ old.tokens
    → ((plan : GridPlan) → slice_get (roster_of place.cells.items).plans partition ≡ Some plan → CameTo plan event was is came) → CameToAt grid event old new partition came
came_at grid event old new partition slot was is came place taken of_grid below slot_is place_is was_there left back tokens comes =
    let plan = plan_there grid partition (omega (arith, below, of_grid.as_many)) in record {
      plan = plan.0;
      was = was;
      is = is;
      plan_there = plan.1;
      was_there = ap (slice_get old.passes.items) (sym slot_is) ∙ was_there;
      passes = back_in_place old new partition slot was is taken slot_is was_there left back;
      tokens = tokens;
      here = comes plan.0 (ap (λ (z : Workplace LiveWorld GridPlan (Event Request) Happened). slice_get (roster_of z.cells.items).plans partition) place_is ∙ plan.1);
    }

-- what was found in the partition, whose pass was taken out and put back
pub looked_at : {Error : Type 0} (grid : LiveGrid) (name : ObjectKey) (old new : GridPass) (partition slot : ℕ) (was is : Seen) (found : Result (Option Copy) Error) (place : Workplace LiveWorld GridPlan (Event Request) Happened) (taken : List Seen)
    → IsPassOfGrid grid old → partition < PARTITIONS → slot ≡ partition → place ≡ place_of grid → slice_get old.passes.items slot ≡ Some was → taken ≡ remove old.passes.items slot → new.passes.items ≡ insert taken slot is → new.tokens ≡ old.tokens
    → ((plan : GridPlan) → slice_get (roster_of place.cells.items).plans partition ≡ Some plan → HasLooked plan name was is found) → HasLookedAt grid name old new partition found
looked_at grid name old new partition slot was is found place taken of_grid below slot_is place_is was_there left back tokens looks =
    let plan = plan_there grid partition (omega (arith, below, of_grid.as_many)) in record {
      plan = plan.0;
      was = was;
      is = is;
      plan_there = plan.1;
      was_there = ap (slice_get old.passes.items) (sym slot_is) ∙ was_there;
      passes = back_in_place old new partition slot was is taken slot_is was_there left back;
      tokens = tokens;
      here = looks plan.0 (ap (λ (z : Workplace LiveWorld GridPlan (Event Request) Happened). slice_get (roster_of z.cells.items).plans partition) place_is ∙ plan.1);
    }

same_lists : {X : Type 0} (xs ys : List X) → length xs ≡ length ys → ((k : ℕ) (x : X) → slice_get xs k ≡ Some x → slice_get ys k ≡ Some x) → xs ≡ ys
same_lists [] [] long each = refl
same_lists [] (y ∷ ys) long each = absurd (omega (arith, long))
same_lists (x ∷ xs) [] long each = absurd (omega (arith, long))
same_lists (x ∷ xs) (y ∷ ys) long each =
    let head : x ≡ y = same_some x y (sym (each zero x refl)) in
    ap (λ z. z ∷ xs) head ∙ ap (λ zs. y ∷ zs) (same_lists xs ys (omega (arith, long)) (λ k z there. each (suc k) z there))

-- a pass of each of all partitions' cells
pub whole_of_grid : (grid : LiveGrid) (pass : GridPass) → length (place_of grid).cells.items ≡ PARTITIONS → IsGridPassOf grid pass → IsPassOfGrid grid pass
whole_of_grid grid pass many whole = record {
  as_many = many;
  tables = same_lists (map (λ (p : Seen). p.table) pass.passes.items) (cells_of grid).tables
      (length-map pass.passes.items (λ (p : Seen). p.table) ∙ (whole.cells.as_long ∙ sym (length-map (place_of grid).cells.items (λ c. c.table.shared.table_id))))
      (λ k t there. (let p = get_map (λ (p : Seen). p.table) pass.passes.items k t there in whole.cells.each k p.0 p.1 ∙ ap Some p.2));
}

first_tables : (cells : List (Cell LiveWorld GridPlan (Event Request) Happened)) → map (λ (p : Seen). p.table) (map (λ cell. first_pass cell) cells) ≡ (roster_of cells).tables
first_tables [] = refl
first_tables (c ∷ cs) = ap (λ (ts : List TableId). c.table.shared.table_id ∷ ts) (first_tables cs)

-- the first passes of a grid
pub first_of_grid : (grid : LiveGrid) (pass : GridPass) → length (place_of grid).cells.items ≡ PARTITIONS → pass.passes.items ≡ map (λ cell. first_pass cell) (place_of grid).cells.items → IsPassOfGrid grid pass
first_of_grid grid pass many are = record {
  as_many = many;
  tables = ap (λ (ps : List Seen). map (λ (p : Seen). p.table) ps) are ∙ first_tables (place_of grid).cells.items;
}

pub first_control : (cells : List (Cell LiveWorld GridPlan (Event Request) Happened)) (pass : GridPass) → pass.passes.items ≡ map (λ cell. first_pass cell) cells → HasControl pass
first_control cells pass are p q there =
    let c = get_map (λ cell. first_pass cell) cells p q (subst (λ (ps : List Seen). slice_get ps p ≡ Some q) are there) in
    ap (λ (z : Seen). has z.names Control) (sym c.2)
