use Rattle.grid_cli.proofs.CommandLaws.{prints_histories}
use Rattle.grid_cli.proofs.Decisions.{prints_decisions}
use Rattle.grid_cli.proofs.NearHits.{prints_hits}
use Rattle.grid_cli.proofs.ReplayRuns.{nothing_played}
use Rattle.grid_cli.proofs.Waits.{prints_waits}
use Rattle.grid_cli.proofs.replay.run_script.Goals as goal

pub returns-in_default-clause-text : goal.returns-in_default-clause-text
returns-in_default-clause-text g c = nothing_played _ _ _

pub returns-in_default-clause-headline : goal.returns-in_default-clause-headline
returns-in_default-clause-headline g c = prints_histories _ _ _ _ _ _ (nothing_played _ _ _)

pub returns-in_default-clause-hits : goal.returns-in_default-clause-hits
returns-in_default-clause-hits g c = prints_hits _ _ _ _ _ _ (nothing_played _ _ _)

pub returns-in_default-clause-decisions : goal.returns-in_default-clause-decisions
returns-in_default-clause-decisions g c = prints_decisions _ _ _ _ _ _ (nothing_played _ _ _)

pub returns-in_default-clause-waits : goal.returns-in_default-clause-waits
returns-in_default-clause-waits g c = prints_waits _ _ _ _ _ _ (nothing_played _ _ _)

pub returns-clause-text : goal.returns-clause-text
returns-clause-text g c = c.run_pieces.ensures.text

pub returns-clause-headline : goal.returns-clause-headline
returns-clause-headline g c = prints_histories _ c.run_pieces.result _ _ _ _ c.run_pieces.ensures.text

pub returns-clause-hits : goal.returns-clause-hits
returns-clause-hits g c = prints_hits _ c.run_pieces.result _ _ _ _ c.run_pieces.ensures.text

pub returns-clause-decisions : goal.returns-clause-decisions
returns-clause-decisions g c = prints_decisions _ c.run_pieces.result _ _ _ _ c.run_pieces.ensures.text

pub returns-clause-waits : goal.returns-clause-waits
returns-clause-waits g c = prints_waits _ c.run_pieces.result _ _ _ _ c.run_pieces.ensures.text

pub returns-clause-runs : goal.returns-clause-runs
returns-clause-runs g c = c.run_pieces.ensures.runs

pub returns-clause-doorless : goal.returns-clause-doorless
returns-clause-doorless g c = c.run_pieces.ensures.doorless

pub returns-clause-read_fault : goal.returns-clause-read_fault
returns-clause-read_fault g c = c.run_pieces.ensures.read_fault

pub returns-clause-write_fault : goal.returns-clause-write_fault
returns-clause-write_fault g c = c.run_pieces.ensures.write_fault
