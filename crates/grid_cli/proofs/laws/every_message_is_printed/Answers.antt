-- Each line's messages stand in its text.
use Rattle.grid_cli.proofs.laws.every_message_is_printed.Goals as goal
use Rattle.grid_cli.proofs.PrintedRuns.{every_message_is_printed}

pub returns : goal.returns
returns c = every_message_is_printed
