use Rattle.std.proofs.Common.{◌≡◌, ℕ, List, []}
use Rattle.call_engine.specs.Calls.{Settings}
use Rattle.replay_run.specs.Runs.{Run, Connection}
use Rattle.replay_run.specs.Grids.{boxed}
use Rattle.replay_run.specs.WorldCalls.{Brings, HasHandledSome}
use Rattle.replay_run.proofs.grid.Grid.handle_all.Given as goal

-- the items so far were handled
abbrev pub invariant-loop-item : goal.invariant-loop-item
invariant-loop-item g l = (settings : Settings) (r : Run) (k : Connection) (bytes : List ℕ) → Brings settings r k bytes l.fn.items.items → k.conn ≡ l.conn → k.member ≡ l.member
    → HasHandledSome (boxed (λ z. (goal.Processor-dyn g z).form z.1)) settings l.initial.self r k bytes [] l.initial.out.items l.initial.out.items → HasHandledSome (boxed (λ z. (goal.Processor-dyn g z).form z.1)) settings l.self r k bytes l.yielded l.initial.out.items l.out.items
