use Rattle.std.proofs.Common.{◌≡◌, ◌≢◌, ℕ, ◌<◌, List, length, All, vec_len, vec_capacity}
use Rattle.grid_base.specs.declared.calls.Request.{Request}
use Rattle.partition_world.specs.declared.event.Event.{Event}
use Rattle.partition_world.specs.Worlds.{waiting}
use Rattle.primary_hold.specs.declared.answer.CallAnswer.{CallAnswer}
use Rattle.live_grid.specs.declared.plan.GridPlan.{GridPlan}
use Rattle.live_grid.specs.Lives.{LiveStands, IsThere}
use Rattle.live_grid.proofs.world.LiveWorld.fetch.Given as goal

abbrev pub invariant-waiting : goal.invariant-waiting
invariant-waiting l = record {
  stands : (plan : GridPlan) (history : List (Event Request)) → LiveStands l.initial.self plan history → LiveStands l.self plan history;
  none : All (λ (answer : CallAnswer). answer.id ≢ l.id) l.self.answers.items;
  others : (answer : CallAnswer) → answer.id ≢ l.id → IsThere l.initial.self l.member answer → IsThere l.self l.member answer;
  elsewhere : (other : ℕ) → other ≢ l.member → waiting l.self.world other ≡ waiting l.initial.self.world other;
  room : vec_len l.self.answers < vec_capacity l.self.answers;
}

abbrev pub decreases-waiting : goal.decreases-waiting
decreases-waiting l = length (waiting l.self.world l.member)
