use Rattle.std.proofs.Common.{◌≡◌, ◌≢◌, ℕ, refl}
use Rattle.std.specs.Prelude.{codes}
use Rattle.partition_world.specs.declared.event.Happened.{Happened}
use Rattle.partition_world.specs.declared.event.Happened.TheVariants as happened
use Rattle.partition_world.specs.declared.event.CallOutcome.TheVariants as call
use Rattle.grid_base.specs.declared.refusal.PartitionRefused.TheVariants as refused
use Rattle.partition_world.specs.Events.{happened_of}
use Rattle.replay_run.specs.Printing.{fate_words}
use Rattle.replay_run.proofs.outcomes.fate_word.Goals as goal

done_or_row : (h : Happened) → h ≢ happened.Done → ((version : ℕ) → h ≢ happened.RowMade version) → codes "nothing" ≡ fate_words (happened_of h)
done_or_row happened.Nothing done row = refl
done_or_row happened.Done done row = absurd (done refl)
done_or_row (happened.Called (call.Held seen)) done row = refl
done_or_row (happened.Called (call.Released seen)) done row = refl
done_or_row (happened.Called (call.Refused (refused.PartitionLost version))) done row = refl
done_or_row (happened.Called (call.Refused (refused.WrongTarget version))) done row = refl
done_or_row (happened.Called (call.Refused (refused.Migrating version))) done row = refl
done_or_row (happened.Took took) done row = refl
done_or_row (happened.RowMade version) done row = absurd (row version refl)
done_or_row (happened.MoveRefused why) done row = refl
done_or_row (happened.ReopenRefused why) done row = refl

pub returns-in_default : goal.returns-in_default
returns-in_default c = done_or_row c.args.happened c.in_default.not-Done c.in_default.not-RowMade
