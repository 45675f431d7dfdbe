-- What is said of a script that was read.
use Rattle.std.proofs.Common.{ℕ, List, ◌++◌}
use Rattle.grid_base.specs.declared.names.CallId.{CallId}
use Rattle.grid_edge.specs.Given.{Given}
use Rattle.grid_cli.specs.ReadScripts.{Claim, Prints}

-- What holds of each script of which something else does.
pub prints_also : (A B : Claim) → ((skips : List CallId) (script read text : List ℕ) → A skips script read text → B skips script read text)
    → (first now : Given) (before after : List ℕ) → Prints A first now before after → Prints B first now before after
prints_also A B also first now before after p = record {
  skips = p.skips;
  text = p.text;
  text_is = p.text_is;
  script = record {
    read = p.script.read;
    read_is = p.script.read_is;
    holds = λ rest may. also p.skips (p.script.read ++ rest) p.script.read p.text (p.script.holds rest may);
  };
}
