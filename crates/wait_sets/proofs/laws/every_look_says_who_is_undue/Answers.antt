use Rattle.std.proofs.Common.{◌≡◌, ℕ, List, Option, Some, None, refl, sym, ◌∙◌}
use Rattle.std.specs.List.{position}
use Rattle.std.proofs.lemmas.Iterator.Adapters.{position_from-zero}
use Rattle.object_store.specs.Partitions.{Partition}
use Rattle.call_engine.specs.Calls.{Settings}
use Rattle.wait_sets.specs.declared.waiter.Waiter.{Waiter}
use Rattle.wait_sets.specs.WaitSets.{is_its_turn, is_ready_now, is_due}
use Rattle.wait_sets.specs.Laws.{StayUndue}
use Rattle.wait_sets.proofs.Searches.{none_fails, earlier_fail}
use Rattle.wait_sets.proofs.laws.every_look_says_who_is_undue.Goals as goal

stay_undue : (settings : Settings) (s : Partition) (now : ℕ) (waiters : List Waiter) (r : Option ℕ) → position (is_its_turn settings s now) waiters ≡ r → StayUndue now waiters r
stay_undue settings s now waiters None e = none_fails (is_ready_now settings s now) (is_due now) waiters 0 (sym (position_from-zero (is_its_turn settings s now) waiters) ∙ e)
stay_undue settings s now waiters (Some place) e = earlier_fail (is_ready_now settings s now) (is_due now) waiters place e

pub returns : goal.returns
returns c = λ settings s now waiters. stay_undue settings s now waiters (position (is_its_turn settings s now) waiters) refl
