-- The sessions of a grid in which nothing has happened.
use Rattle.std.proofs.Common.{◌≡◌, ◌⊎◌, inl, inr, ⊎_elim, ◌++◌, ℕ, zero, suc, ◌+◌, ◌<◌, ◌≤◌, true, false, not, ◌||◌, eqb, List, [], ◌∷◌, map, length, Option, Some, None, slice_get, refl, sym, ap, ◌∙◌, subst, arith}
use Rattle.std.proofs.lemmas.Bool.Decides.{nat_tests}
use Rattle.std.proofs.lemmas.List.Elements.{All-nil}
use Rattle.std.proofs.lemmas.List.{length-append}
use Rattle.grid_base.specs.declared.calls.Request.{Request}
use Rattle.hand_cell.specs.declared.cell.Cell.{Cell}
use Rattle.hand_cell.specs.declared.names.NameSet.{NameSet}
use Rattle.hand_cell.specs.declared.names.Names.TheVariants.{One}
use Rattle.hand_cell.specs.declared.names.Numbers.TheVariants.{AllBut}
use Rattle.hand_cell.specs.Calls.{first_pass, plan_of}
use Rattle.hand_cell.specs.Names.{has_number, listed}
use Rattle.hand_cell.specs.Told.{Told, with_names}
use Rattle.partition_world.specs.declared.event.Event.{Event}
use Rattle.partition_world.specs.declared.event.Happened.{Happened}
use Rattle.session_calls.specs.Openings.{IsOpened}
use Rattle.session_calls.specs.Passes.{HaveNumber, giving_up, given}
use Rattle.session_calls.proofs.OfCells.{came_from, mapped}
use Rattle.live_grid.specs.declared.grid.GridPass.{GridPass}
use Rattle.live_grid.specs.declared.grid.LiveGrid.{LiveGrid}
use Rattle.live_grid.specs.declared.plan.GridPlan.{GridPlan}
use Rattle.live_grid.specs.declared.world.LiveWorld.{LiveWorld}
use Rattle.live_grid.specs.Grids.{place_of}
use Rattle.counted_calls.specs.Callers.{MayMake, MayAllMake}
use Rattle.counted_calls.specs.declared.threads.Caller.{Caller}
use Rattle.counted_calls.specs.Gathered.{AreGathered, HasGathered, HasNamesFrom, HaveNamesFrom}
use Rattle.counted_calls.specs.Sessions.{GridSession, HasMade, HaveBeenMade, IsPlanHere}
use Rattle.counted_calls.specs.declared.requests.TheConstants.{PARTITION, LEADER, SESSIONS}
use Rattle.counted_calls.proofs.Later.{itself}
use Rattle.counted_calls.proofs.Numbers.{no_numbers}

abbrev pub GridCell : Type 0
GridCell = Cell LiveWorld GridPlan (Event Request) Happened

-- the numbers below one, the last one first
abbrev pub given_out : ℕ → List ℕ
given_out zero = []
given_out (suc n) = n ∷ given_out n

abbrev pub names_left : ℕ → NameSet
names_left conn = record { control = true; numbers = AllBut (given_out conn) }

-- the first pass of a cell, once it has given up the numbers below one
abbrev pub left_of_cell : ℕ → GridCell → Told (Event Request)
left_of_cell conn cell = with_names (first_pass cell) (names_left conn)

-- and those of all cells
abbrev pub passes_left : ℕ → List GridCell → List (Told (Event Request))
passes_left conn cells = map (λ cell. left_of_cell conn cell) cells

another : (n m : ℕ) → n < m → eqb n m ≡ false
another n m less = grind (arith, nat_tests)

not_given : (conn n : ℕ) → conn ≤ n → listed n (given_out conn) ≡ false
not_given zero n low = refl
not_given (suc conn) n low = ap (λ b. b || listed n (given_out conn)) (another conn n (omega (arith, low))) ∙ not_given conn n (omega (arith, low))

pub still_left : (conn n : ℕ) → conn ≤ n → has_number (names_left conn).numbers n ≡ true
still_left conn n low = ap not (not_given conn n low)

pub first_left : (cells : List GridCell) → map (λ cell. first_pass cell) cells ≡ passes_left 0 cells
first_left [] = refl
first_left (cell ∷ cells) = ap (λ passes. first_pass cell ∷ passes) (first_left cells)

pub one_less : (conn : ℕ) (cells : List GridCell) → map (giving_up (One conn)) (passes_left conn cells) ≡ passes_left (suc conn) cells
one_less conn [] = refl
one_less conn (cell ∷ cells) = ap (λ passes. left_of_cell (suc conn) cell ∷ passes) (one_less conn cells)

pub have_number : (conn : ℕ) (cells : List GridCell) (passes : List (Told (Event Request))) → passes ≡ passes_left conn cells → HaveNumber conn passes
have_number conn cells passes are place pass there =
    let was = came_from (left_of_cell conn) cells place pass (ap (λ l. slice_get l place) (sym are) ∙ there) in
    ap (λ (p : Told (Event Request)). has_number p.names.numbers conn) was.2 ∙ still_left conn conn (omega arith)

-- the cell at a place
record CellAt (cells : List GridCell) (place : ℕ) : Type 0 where
  cell : GridCell
  there : slice_get cells place ≡ Some cell

cell_at : (cells : List GridCell) (place : ℕ) → place < length cells → CellAt cells place
cell_at [] place less = absurd (omega (arith, less))
cell_at (cell ∷ cells) zero less = record { cell = cell; there = refl }
cell_at (cell ∷ cells) (suc place) less = let r = cell_at cells place (omega (arith, less)) in record { cell = r.cell; there = r.there }

-- no call was made yet
none_made : (plan : GridPlan) (key : List ℕ) (conn : ℕ) → HaveBeenMade plan key conn 0 0 []
none_made plan key conn = record { ran = []; own = refl; each = All-nil _; few = omega arith; count = refl; whole = λ less. sym no_numbers }

none_gathered : (plan : GridPlan) (key : List ℕ) → AreGathered plan key SESSIONS 0 []
none_gathered plan key = record {
  uncontrolled = refl;
  ran = [];
  as_many = refl;
  theirs = All-nil _;
  each = All-nil _;
  few = omega arith;
  count = refl;
  whole = λ less. record { many_are = refl; each = λ conn number low high below. absurd (omega (arith, low, high)) };
}

same_some : {A : Type 0} (a b : A) → ◌≡◌ {A = Option A} (Some a) (Some b) → a ≡ b
same_some a b e = cc

-- the names of passes that were opened, and of those that were left
opened_number : (conn : ℕ) (passes : List (Told (Event Request))) (opened : List (Option (Told (Event Request)))) → opened ≡ map (λ pass. Some (given (One conn) pass)) passes
    → (place : ℕ) (pass : Told (Event Request)) → slice_get opened place ≡ Some (Some pass) → has_number pass.names.numbers conn ≡ true
opened_number conn passes opened are place pass e =
    let was = came_from (λ (p : Told (Event Request)). Some (given (One conn) p)) passes place (Some pass) (ap (λ l. slice_get l place) (sym are) ∙ e) in
    ap (λ (p : Told (Event Request)). has_number p.names.numbers conn) (same_some pass (given (One conn) was.0) was.2) ∙ ap (λ b. b || false) (itself conn)

left_named : (cells : List GridCell) (passes : List (Told (Event Request))) → passes ≡ passes_left SESSIONS cells → HaveNamesFrom SESSIONS passes
left_named cells passes are place pass e =
    let was = came_from (left_of_cell SESSIONS) cells place pass (ap (λ l. slice_get l place) (sym are) ∙ e) in
    subst (λ (p : Told (Event Request)). HasNamesFrom SESSIONS p) (sym was.2) (record { control = refl; numbers = λ number low. still_left SESSIONS number low; uncontrolled = refl })

-- one more session

pushed : {A : Type 0} (xs : List A) (x : A) (p : ℕ) (y : A) → slice_get (xs ++ x ∷ []) p ≡ Some y → (slice_get xs p ≡ Some y) ⊎ ((p ≡ length xs) × (y ≡ x))
pushed [] x zero y e = inr (refl, sym (same_some x y e))
pushed [] x (suc p) y e = absurd cc
pushed (z ∷ zs) x zero y e = inl e
pushed (z ∷ zs) x (suc p) y e = ⊎_elim (λ (h : slice_get zs p ≡ Some y). inl h) (λ (h : (p ≡ length zs) × (y ≡ x)). inr (ap suc h.0, h.1)) (pushed zs x p y e)

pub one_longer : {A : Type 0} (xs ys : List A) (n : ℕ) (x : A) → length xs ≡ n → ys ≡ xs ++ x ∷ [] → length ys ≡ n + 1
one_longer xs ys n x long grown = let same = ap length grown ∙ length-append xs (x ∷ []) in omega (arith, long, same)

pub callers_more : (grid : LiveGrid) (key : List ℕ) (callers more : List Caller) (conn : ℕ) (caller : Caller) → length callers ≡ conn → MayAllMake grid key callers → MayMake grid key conn caller → more ≡ callers ++ caller ∷ [] → MayAllMake grid key more
callers_more grid key callers more conn caller long are is grown k one e = ⊎_elim
    (λ (h : slice_get callers k ≡ Some one). are k one h)
    (λ (h : (k ≡ length callers) × (one ≡ caller)). subst (λ (x : Caller). MayMake grid key k x) (sym h.1) (subst (λ (n : ℕ). MayMake grid key n caller) (sym (h.0 ∙ long)) is))
    (pushed callers caller k one (subst (λ (l : List Caller). slice_get l k ≡ Some one) grown e))

module _ (grid : LiveGrid) (key : List ℕ) (count : length (place_of grid).cells.items ≡ 271) where
  here : CellAt (place_of grid).cells.items PARTITION
  here = cell_at (place_of grid).cells.items PARTITION (omega (arith, count))

  plan_here : IsPlanHere grid (plan_of here.cell)
  plan_here = record { there = mapped (λ (c : GridCell). plan_of c) (place_of grid).cells.items PARTITION here.cell here.there }

  -- A session that was just opened
  pub opened_made : (conn : ℕ) (passes : List (Told (Event Request))) (session : GridSession) → passes ≡ passes_left conn (place_of grid).cells.items → IsOpened (place_of grid) passes conn LEADER session
      → HasMade grid key conn 0 0 session
  opened_made conn passes session are opened = record {
    of_grid = opened.of_place;
    rests = λ place e. none_there (came_from (λ (pass : Told (Event Request)). Some (given (One conn) pass)) passes place None (ap (λ l. slice_get l place) (sym opened.passes_are) ∙ e)).0 (came_from (λ (pass : Told (Event Request)). Some (given (One conn) pass)) passes place None (ap (λ l. slice_get l place) (sym opened.passes_are) ∙ e)).2;
    conn_is = opened.conn_is;
    member_is = opened.member_is;
    plan = plan_of here.cell;
    plan_here = plan_here;
    pass = given (One conn) (left_of_cell conn here.cell);
    there = ap (λ l. slice_get l PARTITION) opened.passes_are
        ∙ (ap (λ l. slice_get (map (λ (pass : Told (Event Request)). Some (given (One conn) pass)) l) PARTITION) are
        ∙ mapped (λ (pass : Told (Event Request)). Some (given (One conn) pass)) (passes_left conn (place_of grid).cells.items) PARTITION (left_of_cell conn here.cell)
        (mapped (left_of_cell conn) (place_of grid).cells.items PARTITION here.cell here.there));
    named = opened_number conn passes session.passes.items opened.passes_are;
    made = none_made (plan_of here.cell) key conn;
  }
    where
      none_there : (pass : Told (Event Request)) → ◌≡◌ {A = Option (Told (Event Request))} None (Some (given (One conn) pass)) → ⊥
      none_there pass e = cc

  -- Once all were opened
  pub none_joined : (pass : GridPass) → pass.passes.items ≡ passes_left SESSIONS (place_of grid).cells.items → HasGathered grid key SESSIONS 0 pass
  none_joined pass are = record {
    plan = plan_of here.cell;
    plan_here = plan_here;
    last = left_of_cell SESSIONS here.cell;
    last_there = ap (λ l. slice_get l PARTITION) are ∙ mapped (left_of_cell SESSIONS) (place_of grid).cells.items PARTITION here.cell here.there;
    named = left_named (place_of grid).cells.items pass.passes.items are;
    gathered = none_gathered (plan_of here.cell) key;
  }
