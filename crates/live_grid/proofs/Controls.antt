-- An operator's events among those that are new to a pass.
use Rattle.std.proofs.Common.{◌≡◌, ◌≢◌, ℕ, ◌<◌, ◌==◌, ⊎_elim, Bool, true, false, if◌then◌else◌, List, [], ◌∷◌, ◌++◌, length, Option, Some, Result, Ok, Err, slice_get, sym, refl, ap, ◌∙◌, subst, arith, append-nil, append_assoc}
use Rattle.std.proofs.lemmas.List.Elements.{filter-append}
use Rattle.std.proofs.lemmas.Bool.Decides.{nat_tests}
use Rattle.std.proofs.lemmas.Option.{slice_get_within}
use Rattle.grid_base.specs.declared.calls.Request.{Request}
use Rattle.hand_cell.specs.declared.names.Key.{Key}
use Rattle.hand_cell.specs.declared.names.Key.TheVariants.{Call, Control, Free}
use Rattle.hand_cell.specs.declared.names.NameSet.{NameSet}
use Rattle.hand_cell.specs.declared.stands.RunRefused.{RunRefused}
use Rattle.hand_cell.specs.Names.{has, NoneOf}
use Rattle.hand_cell.specs.Told.{Told}
use Rattle.partition_protocol.proofs.Lists.{get_set}
use Rattle.partition_protocol.proofs.Theorem.{map_get}
use Rattle.partition_world.proofs.KeptRings.{some_at}
use Rattle.partition_world.specs.declared.event.Event.{Event}
use Rattle.partition_world.specs.declared.event.Happened.{Happened}
use Rattle.live_grid.specs.declared.grid.GridPass.{GridPass}
use Rattle.live_grid.specs.declared.grid.LiveGrid.{LiveGrid}
use Rattle.live_grid.specs.declared.plan.GridPlan.{GridPlan}
use Rattle.live_grid.specs.Control.{CameTo, CameToAt, HasRunInAll, HasControl, IsPassOfGrid, HasNewControls, HaveNewControls, is_control, controls_in, run_by}
use Rattle.live_grid.specs.Grids.{place_of}
use Rattle.live_grid.specs.Histories.{live_key}
use Rattle.live_grid.proofs.PassPlaces.{plan_there, passes_long}

abbrev E : Type 0
E = Event Request

-- a key that isn't Control
other_key : (names : NameSet) (k : Key) → has names Control ≡ true → has names k ≡ false → is_control k ≡ false
other_key names (Call id) mine none = refl
other_key names Control mine none = absurd (let clash : true ≡ false = sym mine ∙ none in cc clash)
other_key names Free mine none = refl

no_controls : (names : NameSet) (es : List E) → has names Control ≡ true → NoneOf live_key names es → controls_in es ≡ []
no_controls names [] mine none = refl
no_controls names (e ∷ es) mine none =
    ap (λ (b : Bool). if b then (e ∷ controls_in es) else controls_in es) (other_key names (live_key e) mine none.0) ∙ no_controls names es mine none.1

controls_append : (xs ys : List E) → controls_in (xs ++ ys) ≡ controls_in xs ++ controls_in ys
controls_append xs ys = filter-append (λ (e : E). is_control (live_key e)) xs ys

-- the event of a call, and no other
pub new_controls : (plan : GridPlan) (event : E) (was is : Told E) (came : Result Happened RunRefused) → live_key event ≡ Control → has was.names Control ≡ true → CameTo plan event was is came → HasNewControls was is (run_by event came)
new_controls plan event was is (Ok outcome) key mine h = record {
  later = h.before ++ event ∷ h.after;
  longer = ap (λ (z : Told E). z.seen) h.pass ∙ append_assoc was.seen h.before (event ∷ h.after);
  controls = controls_append h.before (event ∷ h.after)
      ∙ (ap (λ (es : List E). es ++ controls_in (event ∷ h.after)) (no_controls was.names h.before mine h.none_before)
      ∙ (ap (λ (k : Key). if is_control k then (event ∷ controls_in h.after) else controls_in h.after) key
      ∙ ap (λ (es : List E). event ∷ es) (no_controls was.names h.after mine h.none_after)));
}
new_controls plan event was is (Err why) key mine h = record {
  later = h.follows.later;
  longer = ap (λ (z : Told E). z.seen) h.follows.pass;
  controls = no_controls was.names h.follows.later mine h.follows.not_own;
}

same_some : {A : Type 0} (a b : A) → ◌≡◌ {A = Option A} (Some a) (Some b) → a ≡ b
same_some a b e = cc

same_number : (p q : ℕ) → p ≡ q → (p == q) ≡ true
same_number p q e = grind (arith, nat_tests)

other_number : (p q : ℕ) → p ≢ q → (p == q) ≡ false
other_number p q e = grind (arith, nat_tests)

module _ (grid : LiveGrid) (event : E) (old new : GridPass) (key : live_key event ≡ Control) (control : HasControl old) where
  pub new_in_one : (partition : ℕ) (came : Result Happened RunRefused) → CameToAt grid event old new partition came → HaveNewControls old new (λ p. if p == partition then run_by event came else [])
  new_in_one partition came at p was is was_is is_is = ⊎_elim
      (λ (h : (p ≡ partition) × (at.is ≡ is)).
      let w : at.was ≡ was = same_some at.was was (sym at.was_there ∙ (ap (slice_get old.passes.items) (sym h.0) ∙ was_is)) in
      subst (λ (es : List E). HasNewControls was is es) (sym (ap (λ (b : Bool). if b then run_by event came else []) (same_number p partition h.0)))
      (subst (λ (z : Told E). HasNewControls z is (run_by event came)) w (subst (λ (z : Told E). HasNewControls at.was z (run_by event came)) h.1
      (new_controls at.plan event at.was at.is came key (control partition at.was at.was_there) at.here))))
      (λ (h : (p ≢ partition) × (slice_get old.passes.items p ≡ Some is)).
      let same : was ≡ is = same_some was is (sym was_is ∙ h.1) in
      subst (λ (es : List E). HasNewControls was is es) (sym (ap (λ (b : Bool). if b then run_by event came else []) (other_number p partition h.0)))
      (record { later = []; longer = ap (λ (z : Told E). z.seen) (sym same) ∙ sym (append-nil was.seen); controls = refl }))
      (get_set old.passes.items partition p at.is is (subst (λ (ps : List (Told E)). slice_get ps p ≡ Some is) at.passes is_is))

  pub new_in_all : (answer : Happened) → IsPassOfGrid grid old → HasRunInAll grid event old new answer → HaveNewControls old new (λ p. event ∷ [])
  new_in_all answer of_grid h p was is was_is is_is =
      let less : p < length (place_of grid).cells.items = omega (arith, slice_get_within old.passes.items p was was_is, passes_long grid old of_grid) in
      let plan = plan_there grid p less in
      let one = some_at h.outcomes p (omega (arith, less, of_grid.as_many, h.as_many)) in
      new_controls plan.0 event was is (Ok one.0) key (control p was was_is) (h.tried.each p plan.0 was is (Ok one.0) plan.1 was_is is_is (map_get Ok h.outcomes p one.0 one.1))
