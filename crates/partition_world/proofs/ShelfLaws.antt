-- The laws that the trait of shelves gives are those of a shelf by each plan.
use Rattle.std.proofs.Common.{◌≡◌, ℕ, ◌+◌, ◌≤◌, List, Some, None, is_some, sym, subst}
use Rattle.grid_base.specs.Objects.{IsSmall}
use Rattle.grid_base.specs.Shelves.{ShelfModel, meaning}
use Rattle.partition_world.specs.Shelves.{IsShelf}

module _ {S Plan C State : Type 0} (model : ShelfModel S Plan C State) where
  pub shelf_of : ((plan : Plan) → (model.object plan).empty ≡ model.empty_state)
      → ((plan : Plan) (s : State) (call : C) (now : ℕ) → (model.object plan).changes s call now ≡ is_some (model.effect_of plan s call now))
      → ((plan : Plan) (s : State) (call : C) (now : ℕ) → model.effect_of plan s call now ≡ None → (model.object plan).after s call now ≡ s)
      → ((plan : Plan) (s : State) (call : C) (now : ℕ) (effect : List ℕ) → IsSmall model.within s → model.within_limits call → model.effect_of plan s call now ≡ Some effect → model.applied effect s ≡ Some ((model.object plan).after s call now))
      → model.within 0 model.empty_state
      → ((plan : Plan) (n : ℕ) (s : State) (call : C) (now : ℕ) → model.within_limits call → model.within n s → model.within (n + 1) ((model.object plan).after s call now))
      → ((m n : ℕ) (s : State) → m ≤ n → model.within m s → model.within n s)
      → ((s t : State) → IsSmall model.within s → IsSmall model.within t → model.snapshot_of s ≡ model.snapshot_of t → s ≡ t)
      → (plan : Plan) → IsShelf (meaning model plan) model.within_limits model.within model.applied
  shelf_of empty changes same made begins grows widens one plan = record {
    changes_by_effect = changes plan;
    same_without_effect = same plan;
    made_by_effect = made plan;
    begins_within = subst (model.within 0) (sym (empty plan)) begins;
    grows_within = grows plan;
    widens = widens;
    one_spelling = one;
  }
