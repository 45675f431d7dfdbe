-- The primaries were tested.
use Rattle.std.proofs.Common.{refl}
use Rattle.member_tests.proofs.plans.tested_plan.Goals as goal

pub plan-requires-clause-sound : goal.plan-requires-clause-sound
plan-requires-clause-sound g c = c.if-not-are_undetected.ensures.0 refl
