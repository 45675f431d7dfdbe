-- An operator who isn't heard.
use Rattle.std.proofs.Common.{ℕ, inl, [], ◌++◌, refl, sym, append-nil}
use Rattle.grid_cli.specs.Scripts.{lines_of}
use Rattle.grid_cli.specs.declared.status.Status.TheVariants.{Memory}
use Rattle.live_grid.specs.declared.grid.GridPass.{GridPass}
use Rattle.live_grid.specs.declared.grid.LiveGrid.{LiveGrid}
use Rattle.live_control.specs.Running.{MayServe as MayControl}
use Rattle.grid_server.specs.Serving.{Operator}
use Rattle.grid_server.specs.Tasks.{HasOperated}

-- nothing was read, run or written
pub not_heard : (grid : LiveGrid) (members : ℕ) (streams : Operator) (pass : GridPass) → MayControl grid pass → HasOperated grid members Memory streams streams pass pass
not_heard grid members streams pass may = record {
  control = record {
    written = [];
    written_is = sym (append-nil streams.out.bytes);
    script = record {
      read = [];
      read_is = sym (append-nil streams.script.given.bytes);
      holds = λ rest follows. record { done = []; mid = pass; first = (lines_of ([] ++ rest), refl); ran = (refl, refl); further = inl refl };
    };
  };
  read_fault = λ e. absurd cc;
  write_fault = λ e. absurd cc;
  kept = may;
}
