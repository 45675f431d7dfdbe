-- A grid's workers, one after another.
use Rattle.std.proofs.Common.{◌≡◌, List, [], ◌∷◌, ◌++◌, sym, subst}
use Rattle.std.proofs.lemmas.List.Elements.{All-nil, All-cons, All-append}
use Rattle.grid_base.specs.declared.calls.Request.{Request}
use Rattle.partition_threads.specs.declared.workplace.Workplace.{Workplace}
use Rattle.partition_world.specs.declared.event.Event.{Event}
use Rattle.partition_world.specs.declared.event.Happened.{Happened}
use Rattle.live_grid.specs.declared.plan.GridPlan.{GridPlan}
use Rattle.live_grid.specs.declared.world.LiveWorld.{LiveWorld}
use Rattle.grid_server.specs.declared.setting.Worker.{Worker}
use Rattle.grid_server.specs.Settings.{IsWorker, AreWorkers}

module _ (place : Workplace LiveWorld GridPlan (Event Request) Happened) where
  pub no_workers : (workers : List Worker) → workers ≡ [] → AreWorkers place workers
  no_workers workers none = subst (λ (ws : List Worker). AreWorkers place ws) (sym none) (All-nil (IsWorker place))

  pub workers_more : (workers more : List Worker) (worker : Worker) → AreWorkers place workers → IsWorker place worker → more ≡ workers ++ worker ∷ [] → AreWorkers place more
  workers_more workers more worker are is grown = subst (λ (ws : List Worker). AreWorkers place ws) (sym grown)
      (All-append (IsWorker place) workers (worker ∷ []) are (All-cons (IsWorker place) worker [] is (All-nil (IsWorker place))))
