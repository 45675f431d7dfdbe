-- The rule determines the steps, and tells their kinds.
use Rattle.std.proofs.Common.{◌≡◌, ℕ, zero, suc, ◌+◌, ◌<◌, ◌≤◌, ◌↔◌, Bool, true, List, [], ◌∷◌, ◌++◌, Some, take, length, slice_get, refl, ap, sym, ◌∙◌, subst, ⊎_elim, arith}
use Rattle.std.proofs.lemmas.Bool.{cases_lt}
use Rattle.std.proofs.lemmas.List.{take_all}
use Rattle.std.proofs.lemmas.Option.{same_Some, slice_get_within}
use Rattle.partition_table.specs.declared.row.Row.{Row}
use Rattle.partition_table.specs.Rows.{is_in}
use Rattle.rebalance.specs.declared.steps.Step.{Step}
use Rattle.rebalance.specs.declared.steps.StepKind.{StepKind}
use Rattle.rebalance.specs.declared.steps.StepKind.TheVariants.{Move, Handover}
use Rattle.rebalance.specs.Rows.{primaries}
use Rattle.rebalance.specs.Members.{load_of}
use Rattle.rebalance.specs.Steps.{after, next_of, IsLowestBelow, NoneAbove, IsStep, FollowsRule, HasRightKinds, RuleIsExact}
use Rattle.rebalance.proofs.RowFacts.{primary_get}

pub right_kinds : (rows : List Row) (target : ℕ → ℕ) (n : ℕ) (steps : List Step) → FollowsRule rows target n steps → HasRightKinds rows steps
right_kinds rows target n steps rule k step row e at =
    let is : IsStep rows (load_of (after (take k steps) (primaries rows))) target n (next_of (take k steps)) step = rule.each k step e in
    let same : is.row ≡ row = same_Some is.row row (sym is.at ∙ at) in
    subst (λ (r : Row). (step.kind ≡ Handover) ↔ (is_in r step.to ≡ true)) same is.takes.kind

-- two kinds that tell the same are the same
same_kind : (a b : StepKind) (t : Bool) → (a ≡ Handover) ↔ (t ≡ true) → (b ≡ Handover) ↔ (t ≡ true) → a ≡ b
same_kind Move Move t f g = refl
same_kind Move Handover t f g = f.1 (g.0 refl)
same_kind Handover Move t f g = sym (g.1 (f.0 refl))
same_kind Handover Handover t f g = refl

same_step : (a b : Step) → a.partition ≡ b.partition → a.from ≡ b.from → a.to ≡ b.to → a.kind ≡ b.kind → a ≡ b
same_step a b p f t k = λ i. record { partition = p i; from = f i; to = t i; kind = k i }

module _ (rows : List Row) (load target : ℕ → ℕ) (n next : ℕ) where
  primary_at : (s : Step) → IsStep rows load target n next s → slice_get (primaries rows) s.partition ≡ Some (Some s.from)
  primary_at s h = primary_get rows s.partition h.row h.at ∙ ap Some h.takes.is_primary

  not_passed : (s t : Step) → IsStep rows load target n next s → IsStep rows load target n next t → t.partition ≤ s.partition
  not_passed s t h g =
      ⊎_elim
      (λ (l : s.partition < t.partition).
      let low : load s.from ≤ target s.from = g.none_between s.partition s.from h.rises l (primary_at s h) in
      let high : target s.from < load s.from = h.takes.above in
      absurd (omega arith))
      (λ l. l)
      (cases_lt s.partition t.partition)

  not_higher : (a b : ℕ) → IsLowestBelow load target n a → IsLowestBelow load target n b → b ≤ a
  not_higher a b h g =
      ⊎_elim
      (λ (l : a < b). let high : target a ≤ load a = g.lowest a l in let low : load a < target a = h.below in absurd (omega arith))
      (λ l. l)
      (cases_lt a b)

  one_step : (s t : Step) → IsStep rows load target n next s → IsStep rows load target n next t → s ≡ t
  one_step s t h g =
      let p : s.partition ≡ t.partition = omega (arith, not_passed s t h g, not_passed t s g h) in
      let f : s.from ≡ t.from = same_Some s.from t.from (same_Some (Some s.from) (Some t.from) (sym (primary_at s h) ∙ ap (slice_get (primaries rows)) p ∙ primary_at t g)) in
      let m : s.to ≡ t.to = omega (arith, not_higher s.to t.to h.takes.lowest g.takes.lowest, not_higher t.to s.to g.takes.lowest h.takes.lowest) in
      let r : h.row ≡ g.row = same_Some h.row g.row (sym h.at ∙ ap (slice_get rows) p ∙ g.at) in
      let k : (s.kind ≡ Handover) ↔ (is_in g.row t.to ≡ true) = subst (λ (x : ℕ). (s.kind ≡ Handover) ↔ (is_in g.row x ≡ true)) m (subst (λ (x : Row). (s.kind ≡ Handover) ↔ (is_in x s.to ≡ true)) r h.takes.kind) in
      same_step s t p f m (same_kind s.kind t.kind (is_in g.row t.to) k g.takes.kind)

  -- where the rule gives none there is no step
  no_step : (s : Step) → IsStep rows load target n next s → NoneAbove (primaries rows) load target next (length rows) → ⊥
  no_step s h none =
      let low : load s.from ≤ target s.from = none s.partition s.from h.rises (slice_get_within rows s.partition h.row h.at) (primary_at s h) in
      let high : target s.from < load s.from = h.takes.above in
      absurd (omega arith)

first_of_rest : (xs : List Step) (k : ℕ) → k < length xs → (s : Step) × (slice_get xs k ≡ Some s)
first_of_rest [] k m = absurd (omega arith)
first_of_rest (x ∷ xs) zero m = (x, refl)
first_of_rest (x ∷ xs) (suc k) m = first_of_rest xs k (omega arith)

take_next : (xs : List Step) (k : ℕ) (s : Step) → slice_get xs k ≡ Some s → take (suc k) xs ≡ take k xs ++ s ∷ []
take_next [] k s e = absurd cc
take_next (x ∷ xs) zero s e = let f : x ≡ s = cc in ap (λ y. y ∷ []) f
take_next (x ∷ xs) (suc k) s e = ap (λ ys. x ∷ ys) (take_next xs k s e)

module _ (rows : List Row) (target : ℕ → ℕ) (n : ℕ) where
  abbrev Gives : List Step → Step → Type 0
  Gives done s = IsStep rows (load_of (after done (primaries rows))) target n (next_of done) s

  at_end : (steps others : List Step) (k : ℕ) → FollowsRule rows target n steps → FollowsRule rows target n others → take k steps ≡ take k others → length steps ≤ k → length others ≤ k
  at_end steps others k f g e l =
      ⊎_elim
      (λ (m : k < length others).
      let others_k : (s : Step) × (slice_get others k ≡ Some s) = first_of_rest others k m in
      let step : Gives (take k others) others_k.0 = g.each k others_k.0 others_k.1 in
      let same : Gives steps others_k.0 = subst (λ (xs : List Step). Gives xs others_k.0) (sym e ∙ take_all k steps l) step in
      absurd (no_step rows (load_of (after steps (primaries rows))) target n (next_of steps) others_k.0 same f.ends))
      (λ m. m)
      (cases_lt k (length others))

  -- as far as any place
  as_far : (steps others : List Step) → FollowsRule rows target n steps → FollowsRule rows target n others → (k : ℕ) → take k steps ≡ take k others
  as_far steps others f g zero = refl
  as_far steps others f g (suc k) =
      let so_far : take k steps ≡ take k others = as_far steps others f g k in
      ⊎_elim
      (λ (l : k < length steps).
      let m : k < length others = ⊎_elim (λ (m : k < length others). m) (λ (m : length others ≤ k). let x : length steps ≤ k = at_end others steps k g f (sym so_far) m in absurd (omega arith)) (cases_lt k (length others)) in
      let a : (s : Step) × (slice_get steps k ≡ Some s) = first_of_rest steps k l in
      let b : (s : Step) × (slice_get others k ≡ Some s) = first_of_rest others k m in
      let given : Gives (take k others) b.0 = g.each k b.0 b.1 in
      let same : a.0 ≡ b.0 = one_step rows (load_of (after (take k steps) (primaries rows))) target n (next_of (take k steps)) a.0 b.0 (f.each k a.0 a.1) (subst (λ (xs : List Step). Gives xs b.0) (sym so_far) given) in
      take_next steps k a.0 a.1 ∙ ap (λ xs. xs ++ a.0 ∷ []) so_far ∙ ap (λ s. take k others ++ s ∷ []) same ∙ sym (take_next others k b.0 b.1))
      (λ (l : length steps ≤ k).
      let m : length others ≤ k = at_end steps others k f g so_far l in
      take_all (suc k) steps (omega arith) ∙ sym (take_all k steps l) ∙ so_far ∙ take_all k others m ∙ sym (take_all (suc k) others (omega arith)))
      (cases_lt k (length steps))

pub rule_is_exact : RuleIsExact
rule_is_exact rows target n steps others f g =
    sym (take_all (length steps + length others) steps (omega arith)) ∙ as_far rows target n steps others f g (length steps + length others) ∙ take_all (length steps + length others) others (omega arith)
