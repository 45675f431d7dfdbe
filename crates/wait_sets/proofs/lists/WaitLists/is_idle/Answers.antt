use Rattle.std.proofs.Common.{◌≡◌, ℕ, List, [], All, IsTrue, nat_eq, arith, refl, subst, sym, ◌∙◌}
use Rattle.std.proofs.lemmas.Bool.Decides.{nat_tests}
use Rattle.wait_sets.specs.declared.waiter.Waiter.{Waiter}
use Rattle.wait_sets.proofs.Slots.{all_idle, some_idle}
use Rattle.wait_sets.proofs.lists.WaitLists.is_idle.Goals as goal

is_none : (n : ℕ) → IsTrue (nat_eq n 0) → n ≡ 0
is_none n h = grind (arith, nat_tests)

none_is : (n : ℕ) → n ≡ 0 → IsTrue (nat_eq n 0)
none_is n e = rw e refl

pub returns : goal.returns
returns c = (
  λ h. subst (All (λ (list : List Waiter). list ≡ [])) c.self.view_is (all_idle c.self.inside.lists.items (sym c.self.invariant ∙ is_none c.self.inside.busy h)),
  λ h. none_is c.self.inside.busy (c.self.invariant ∙ some_idle c.self.inside.lists.items (subst (All (λ (list : List Waiter). list ≡ [])) (sym c.self.view_is) h)),
)
