-- The state after a call whose effect was applied, if it has one.
use Rattle.std.proofs.Common.{◌≡◌, ℕ, true, List, Option, Some, None, is_some, refl, sym, ◌∙◌, ap}
use Rattle.backup_apply.specs.declared.contents.ContentsChange.{ContentsChange}
use Rattle.backup_apply.specs.declared.contents.ContentsChange.TheVariants.{Keep, Install, Apply}
use Rattle.backup_apply.specs.Contents.{Does, IsOfEffect, IsPossible}

module _ {State : Type 0} (within : ℕ → State → Type 0) (applied : List ℕ → State → Option State) (snapshot_of : State → List ℕ) where
  pub effect_leaves : (e : Option (List ℕ)) (change : ContentsChange) (old new after : State) → IsOfEffect e change → (e ≡ None → after ≡ old)
      → ((bytes : List ℕ) → e ≡ Some bytes → applied bytes old ≡ Some after) → Does within applied snapshot_of change old new → new ≡ after
  effect_leaves None Keep old new after is none some does = does ∙ sym (none refl)
  effect_leaves None (Install snapshot) old new after is none some does = absurd (cc)
  effect_leaves None (Apply effect) old new after is none some does = absurd (cc)
  effect_leaves (Some bytes) Keep old new after is none some does = absurd is
  effect_leaves (Some bytes) (Install snapshot) old new after is none some does = absurd is
  effect_leaves (Some bytes) (Apply effect) old new after is none some does =
      let same : Some new ≡ Some after = sym does ∙ ap (λ b. applied b old) is ∙ some bytes refl in cc

  pub effect_possible : (e : Option (List ℕ)) (change : ContentsChange) (old : State) → IsOfEffect e change → ((bytes : List ℕ) → e ≡ Some bytes → is_some (applied bytes old) ≡ true)
      → IsPossible within applied snapshot_of change old
  effect_possible None Keep old is some = tt
  effect_possible None (Install snapshot) old is some = absurd (cc)
  effect_possible None (Apply effect) old is some = absurd (cc)
  effect_possible (Some bytes) Keep old is some = absurd is
  effect_possible (Some bytes) (Install snapshot) old is some = absurd is
  effect_possible (Some bytes) (Apply effect) old is some = ap (λ b. is_some (applied b old)) is ∙ some bytes refl
