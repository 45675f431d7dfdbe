-- What a call changes while it waits: nothing.
use Rattle.std.specs.Prelude.{◌≡◌, ℕ, List, ◌∷◌, ◌++◌, Contains}
use Rattle.grid_base.specs.Objects.{Object}
use Rattle.grid_base.specs.declared.names.CallId.{CallId}
use Rattle.grid_base.specs.declared.calls.Request.{Request}
use Rattle.object_store.specs.Partitions.{Partition}
use Rattle.waiting_protocol.specs.Claims.{IsWithout}
use Rattle.waiting_protocol.specs.Machine.{Line, Waits, start, after, events, all_gone}
use Rattle.waiting_protocol.specs.Machine as machine
use Rattle.replay_run.specs.ByMachine.{terms_by}
use Rattle.replay_run.specs.Runs.{Run, Waiter, events_at, as_machine}
use Rattle.replay_run.specs.Staying.{waiting_in}
use Rattle.masters_run.specs.ByMachine.{GoesByItsMachine}

-- One of the partition's lines is its arrival. By all the others the partition comes to the same world, the same moments and the same others who wait, in their order; the same has happened there; and the same have left, each in the same way and at the same moment.
pub record ChangesNothing (o : Object Request Partition) (skips : List CallId) (r : Run) (p : ℕ) (lines : List (Line Request)) (x : machine.Waiter Request) : Type 0 where
  pub before : List (Line Request)
  pub more : List (Line Request)
  pub arrives : lines ≡ before ++ Waits x ∷ more
  pub states : IsWithout x (waiting_in o r p) (after o (terms_by skips) (start p r.members r.backups) (before ++ more))
  pub happened : events_at p r.events ≡ events o (terms_by skips) (start p r.members r.backups) (before ++ more)
  pub left : all_gone o (terms_by skips) (start p r.members r.backups) lines ≡ all_gone o (terms_by skips) (start p r.members r.backups) (before ++ more)

-- of whoever waits in a run, by whichever lines its partition goes
abbrev pub EveryWaiterChangesNothing : Type 0
EveryWaiterChangesNothing = (o : Object Request Partition) (skips : List CallId) (r : Run) (w : Waiter) → Contains r.waiters w
    → (goes : GoesByItsMachine o skips r w.request.partition) → ChangesNothing o skips r w.request.partition goes.by.lines (as_machine w)
