-- A grid that is handed back has served by the histories that its pass has seen, and in the order of its journal.
use Rattle.std.specs.Prelude.{IfSome}
use Rattle.std.proofs.Common.{ℕ, List, Option, Some, None}
use Rattle.entry_processors.specs.declared.form.Form.{Form}
use Rattle.live_grid.specs.declared.grid.GridPass.{GridPass}
use Rattle.live_grid.specs.declared.grid.LiveGrid.{LiveGrid}
use Rattle.live_grid.specs.Grids.{place_of}
use Rattle.live_grid.specs.Histories.{live_key, live_call}
use Rattle.live_grid.specs.Outcomes.{LiveTells}
use Rattle.live_server.specs.Times.{AnswersStandFirst}
use Rattle.serve_options.specs.Options.{Words}
use Rattle.served_history_laws.specs.Histories.{TellsHistories}
use Rattle.grid_server.specs.declared.ended.Ended.{Ended}
use Rattle.grid_server.specs.Commands.{HasServedFrom, HasEnded, ServesHistories, ServesInOrder}
use Rattle.grid_server.specs.Serving.{Operator, AtDoors}

pub serves_histories : {D : Type 0} (empty_looks : D → ℕ) (words : Words) (forms : List Form) (given : List ℕ) (before after : Operator) (outside closed : AtDoors) (ended : Ended D)
    → HasEnded empty_looks words forms given before after outside closed ended → ServesHistories given ended.journal closed.book ended.grid
serves_histories empty_looks words forms given before after outside closed ended has = go ended.grid has.served
  where
    go : (grid : Option (LiveGrid × GridPass)) → IfSome grid (λ held. HasServedFrom empty_looks words forms given before after outside closed ended.status held.0 held.1 ended.journal ended.closed)
        → IfSome grid (λ held. TellsHistories (place_of held.0) given ended.journal held.1.passes.items closed.book)
    go None served = tt
    go (Some held) served = served.served.histories

pub serves_in_order : {D : Type 0} (empty_looks : D → ℕ) (words : Words) (forms : List Form) (given : List ℕ) (before after : Operator) (outside closed : AtDoors) (ended : Ended D)
    → HasEnded empty_looks words forms given before after outside closed ended → ServesInOrder given ended.journal closed.book ended.grid
serves_in_order empty_looks words forms given before after outside closed ended has = go ended.grid has.served
  where
    go : (grid : Option (LiveGrid × GridPass)) → IfSome grid (λ held. HasServedFrom empty_looks words forms given before after outside closed ended.status held.0 held.1 ended.journal ended.closed)
        → IfSome grid (λ held. AnswersStandFirst live_key LiveTells live_call (place_of held.0) given ended.journal held.1.passes.items closed.book)
    go None served = tt
    go (Some held) served = served.served.in_time
