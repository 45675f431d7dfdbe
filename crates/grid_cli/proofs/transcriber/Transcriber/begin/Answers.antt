use Rattle.std.proofs.Common.{◌++◌, ◌∙◌, ap}
use Rattle.replay_run.specs.Printing.{ok_text}
use Rattle.grid_cli.proofs.TranscriberLaws.{first_goes}
use Rattle.grid_cli.proofs.transcriber.Transcriber.begin.Goals as goal

pub returns-in-Made : goal.returns-in-Made
returns-in-Made g c = λ forms skips done written follows.
    let is = rw c.in-Made.is at c.in_ok-grid.ensures in
    first_goes c.in-Made.grid c.args.processors.items skips done written c.args.text.now c.grid_of.new.out.items is.0 is.1 is.2 follows is.3 is.4 is.5 (is.6 ∙ ap (λ xs. xs ++ ok_text 1) c.requires.empty)
