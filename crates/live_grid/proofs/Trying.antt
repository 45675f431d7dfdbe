-- An event that is tried in one partition after another.
use Rattle.std.proofs.Common.{◌≡◌, ℕ, ◌+◌, ◌<◌, ⊎_elim, Bool, true, false, ◌&&◌, if◌then◌else◌, List, [], ◌∷◌, ◌++◌, map, length, Option, Some, None, Result, Ok, Err, slice_get, slice_set, sym, refl, ap, ◌∙◌, subst, arith, length-append}
use Rattle.std.specs.List.{list_all}
use Rattle.std.proofs.lemmas.List.{length-map, map-append}
use Rattle.std.proofs.lemmas.List.Folds.{list_all-append}
use Rattle.std.proofs.lemmas.Option.{slice_get_within}
use Rattle.grid_base.specs.declared.calls.Request.{Request}
use Rattle.hand_cell.specs.declared.stands.RunRefused.{RunRefused}
use Rattle.hand_cell.specs.Told.{Told}
use Rattle.partition_protocol.proofs.Lists.{set_get_other, set_get_same}
use Rattle.partition_world.specs.declared.event.Event.{Event}
use Rattle.partition_world.specs.declared.event.Happened.{Happened}
use Rattle.partition_world.specs.declared.event.Happened.TheVariants as happened
use Rattle.live_grid.specs.declared.grid.GridPass.{GridPass}
use Rattle.live_grid.specs.declared.grid.LiveGrid.{LiveGrid}
use Rattle.live_grid.specs.declared.plan.GridPlan.{GridPlan}
use Rattle.live_grid.specs.Control.{CameTo, CameToAt, HasControl, IsPassOfGrid, WasTried, WasRefusedInOne, HasRunInAll, cells_of, in_all, is_nothing}
use Rattle.live_grid.proofs.Pushed.{pushed}

abbrev Seen : Type 0
Seen = Told (Event Request)

abbrev Came : Type 0
Came = Result Happened RunRefused

none_some : {A : Type 0} (a : A) → ◌≡◌ {A = Option A} None (Some a) → ⊥
none_some a e = cc

same_some : {A : Type 0} (a b : A) → ◌≡◌ {A = Option A} (Some a) (Some b) → a ≡ b
same_some a b e = cc

module _ (grid : LiveGrid) (event : Event Request) where
  pub tried_none : (old : GridPass) → WasTried grid event old old []
  tried_none old = record {
    each = λ partition plan was is one plan_is was_is is_is one_is. absurd (none_some one one_is);
    others = λ partition less. refl;
    tokens = refl;
  }

  module _ (old mid new : GridPass) (came : List Came) (one : Came) (tried : WasTried grid event old mid came) (at : CameToAt grid event mid new (length came) one) where
    set_is : (k : ℕ) (is : Seen) → slice_get new.passes.items k ≡ Some is → slice_get (slice_set mid.passes.items (length came) at.is) k ≡ Some is
    set_is k is e = subst (λ (ps : List Seen). slice_get ps k ≡ Some is) at.passes e

    earlier : (k : ℕ) (plan : GridPlan) (was is : Seen) (x : Came) → slice_get (cells_of grid).plans k ≡ Some plan → slice_get old.passes.items k ≡ Some was → slice_get new.passes.items k ≡ Some is
        → slice_get came k ≡ Some x → CameTo plan event was is x
    earlier k plan was is x plan_is was_is is_is x_is =
        let less : k < length came = slice_get_within came k x x_is in
        tried.each k plan was is x plan_is was_is (sym (set_get_other mid.passes.items (length came) k at.is (omega arith)) ∙ set_is k is is_is) x_is

    latest : (k : ℕ) (plan : GridPlan) (was is : Seen) (x : Came) → slice_get (cells_of grid).plans k ≡ Some plan → slice_get old.passes.items k ≡ Some was → slice_get new.passes.items k ≡ Some is
        → k ≡ length came → x ≡ one → CameTo plan event was is x
    latest k plan was is x plan_is was_is is_is here x_is =
        let p : at.plan ≡ plan = same_some at.plan plan (sym at.plan_there ∙ (ap (slice_get (cells_of grid).plans) (sym here) ∙ plan_is)) in
        let w : at.was ≡ was = same_some at.was was (sym at.was_there ∙ (tried.others (length came) (omega arith) ∙ (ap (slice_get old.passes.items) (sym here) ∙ was_is))) in
        let i : at.is ≡ is = same_some at.is is (sym (set_get_same mid.passes.items (length came) at.is at.was at.was_there) ∙ (ap (slice_get (slice_set mid.passes.items (length came) at.is)) (sym here) ∙ set_is k is is_is)) in
        subst (λ (z : GridPlan). CameTo z event was is x) p (subst (λ (z : Seen). CameTo at.plan event z is x) w (subst (λ (z : Seen). CameTo at.plan event at.was z x) i (subst (λ (z : Came). CameTo at.plan event at.was at.is z) (sym x_is) at.here)))

    pub tried_more : WasTried grid event old new (came ++ one ∷ [])
    tried_more = record {
      each = λ k plan was is x plan_is was_is is_is x_is. ⊎_elim
          (λ (h : slice_get came k ≡ Some x). earlier k plan was is x plan_is was_is is_is h)
          (λ (h : (k ≡ length came) × (x ≡ one)). latest k plan was is x plan_is was_is is_is h.0 h.1)
          (pushed came one k x x_is);
      others = λ k less.
          let past : length came < k = omega (arith, less, length-append came (one ∷ [])) in
          ap (λ (ps : List Seen). slice_get ps k) at.passes ∙ (set_get_other mid.passes.items (length came) k at.is (omega (arith, past)) ∙ tried.others k (omega (arith, past)));
      tokens = at.tokens ∙ tried.tokens;
    }

-- what came in all partitions so far, and in one more

pub all_more : (outcomes : List Happened) (one : Happened) → in_all (outcomes ++ one ∷ []) ≡ (if is_nothing one then in_all outcomes else happened.Done)
all_more outcomes one = ap (λ (b : Bool). if b then happened.Nothing else happened.Done) (list_all-append is_nothing outcomes (one ∷ [])) ∙ tests (list_all is_nothing outcomes) (is_nothing one)
  where
    tests : (a b : Bool) → (if a && (b && true) then happened.Nothing else happened.Done) ≡ (if b then (if a then happened.Nothing else happened.Done) else happened.Done)
    tests true true = refl
    tests true false = refl
    tests false true = refl
    tests false false = refl

-- The event was run in this many partitions, the first ones
pub record HasRunInFirst (grid : LiveGrid) (event : Event Request) (old new : GridPass) (count : ℕ) (answer : Happened) : Type 0 where
  pub outcomes : List Happened
  pub as_many : length outcomes ≡ count
  pub tried : WasTried grid event old new (map Ok outcomes)
  pub answer_is : answer ≡ in_all outcomes
  pub of_grid : IsPassOfGrid grid new
  pub control : HasControl new

module _ (grid : LiveGrid) (event : Event Request) (old mid new : GridPass) (count : ℕ) (answer : Happened) (first : HasRunInFirst grid event old mid count answer) where
  abbrev came_of : List Happened → List Came
  came_of outcomes = map Ok outcomes

  long : length (came_of first.outcomes) ≡ count
  long = length-map first.outcomes (λ (o : Happened). Ok o) ∙ first.as_many

  tried_next : (one : Came) → CameToAt grid event mid new count one → WasTried grid event old new (map Ok first.outcomes ++ one ∷ [])
  tried_next one at = tried_more grid event old mid new (map Ok first.outcomes) one first.tried (subst (λ (k : ℕ). CameToAt grid event mid new k one) (sym long) at)

  pub ran_in_one_more : (one joined : Happened) → CameToAt grid event mid new count (Ok one) → joined ≡ (if is_nothing one then answer else happened.Done) → IsPassOfGrid grid new → HasControl new
      → HasRunInFirst grid event old new (count + 1) joined
  ran_in_one_more one joined at joined_is of_grid control = record {
    outcomes = first.outcomes ++ one ∷ [];
    as_many = length-append first.outcomes (one ∷ []) ∙ ap (λ n. n + 1) first.as_many;
    tried = subst (WasTried grid event old new) (sym (map-append Ok first.outcomes (one ∷ []))) (tried_next (Ok one) at);
    answer_is = joined_is ∙ (ap (λ (z : Happened). if is_nothing one then z else happened.Done) first.answer_is ∙ sym (all_more first.outcomes one));
    of_grid = of_grid;
    control = control;
  }

  pub refused_in_one : (why : RunRefused) → count < 271 → CameToAt grid event mid new count (Err why) → WasRefusedInOne grid event old new why
  refused_in_one why few at = record {
    outcomes = first.outcomes;
    few = omega (arith, first.as_many, few);
    tried = tried_next (Err why) at;
  }

pub run_in_all : (grid : LiveGrid) (event : Event Request) (old new : GridPass) (answer : Happened) → HasRunInFirst grid event old new 271 answer → HasRunInAll grid event old new answer
run_in_all grid event old new answer first = record { outcomes = first.outcomes; as_many = first.as_many; tried = first.tried; answer_is = first.answer_is }

pub run_in_none : (grid : LiveGrid) (event : Event Request) (old : GridPass) → IsPassOfGrid grid old → HasControl old → HasRunInFirst grid event old old 0 happened.Nothing
run_in_none grid event old of_grid control = record { outcomes = []; as_many = refl; tried = tried_none grid event old; answer_is = refl; of_grid = of_grid; control = control }
