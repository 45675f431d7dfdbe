use Rattle.std.proofs.Common.{sym, ◌∙◌}
use Rattle.grid_cli.proofs.TranscriberLaws.{took_out}
use Rattle.grid_cli.proofs.transcriber.Transcriber.run.Goals as goal

pub returns-in-Waiting : goal.returns-in-Waiting
returns-in-Waiting g c = λ forms skips done written follows.
    c.begin.ensures forms skips done written (took_out _ forms _ _ skips done written (sym c.replace.ensures.value ∙ c.in-Waiting.is) follows)

pub returns-in-Running : goal.returns-in-Running
returns-in-Running g c = λ forms skips done written follows.
    c.go_on.ensures forms skips done written (took_out _ forms _ _ skips done written (sym c.replace.ensures.value ∙ c.in-Running.is) follows)
