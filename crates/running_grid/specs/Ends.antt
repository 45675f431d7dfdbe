-- Why a line isn't read, and why a run is given up.
use Rattle.script_lang.specs.declared.refusal.LineRefused.{LineRefused}
use Rattle.script_lang.specs.declared.refusal.LineRefused.TheVariants as Refusals
use Rattle.replay_run.specs.declared.run_end.RunEnd.{RunEnd as GridEnd}
use Rattle.replay_run.specs.declared.run_end.RunEnd.TheVariants as GridEnds
use Rattle.running_grid.specs.declared.run_end.RunEnd.{RunEnd}
use Rattle.running_grid.specs.declared.run_end.RunEnd.TheVariants as RunEnds

abbrev pub refused_as : LineRefused → RunEnd
refused_as (Refusals.Why why) = RunEnds.Refused why
refused_as Refusals.Memory = RunEnds.Memory

abbrev pub given_up_as : GridEnd → RunEnd
given_up_as GridEnds.InFlight = RunEnds.InFlight
given_up_as GridEnds.Memory = RunEnds.Memory
