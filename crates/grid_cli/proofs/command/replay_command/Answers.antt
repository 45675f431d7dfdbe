use Rattle.grid_cli.proofs.CommandLaws.{nothing_printed}
use Rattle.grid_cli.proofs.Decisions.{prints_decisions}
use Rattle.grid_cli.proofs.NearHits.{prints_hits}
use Rattle.grid_cli.proofs.ReplayRuns.{nothing_said}
use Rattle.grid_cli.proofs.Waits.{prints_waits}
use Rattle.grid_cli.proofs.command.replay_command.Goals as goal

pub returns-then-not-is_replay_command-clause-text : goal.returns-then-not-is_replay_command-clause-text
returns-then-not-is_replay_command-clause-text g c = nothing_said _ _ _

pub returns-then-not-is_replay_command-clause-headline : goal.returns-then-not-is_replay_command-clause-headline
returns-then-not-is_replay_command-clause-headline g c = nothing_printed _ _ _

pub returns-then-not-is_replay_command-clause-hits : goal.returns-then-not-is_replay_command-clause-hits
returns-then-not-is_replay_command-clause-hits g c = prints_hits _ _ _ _ _ _ (nothing_said _ _ _)

pub returns-then-not-is_replay_command-clause-decisions : goal.returns-then-not-is_replay_command-clause-decisions
returns-then-not-is_replay_command-clause-decisions g c = prints_decisions _ _ _ _ _ _ (nothing_said _ _ _)

pub returns-then-not-is_replay_command-clause-waits : goal.returns-then-not-is_replay_command-clause-waits
returns-then-not-is_replay_command-clause-waits g c = prints_waits _ _ _ _ _ _ (nothing_said _ _ _)
