use Rattle.std.proofs.Common.{sym, subst}
use Rattle.call_engine.specs.Limits.{EntryFits}
use Rattle.call_engine.proofs.ExecutionLaws.{on_found_entry}
use Rattle.call_engine.specs.Within.{record_fits, entry_in_fits}
use Rattle.call_engine.proofs.Found.{found_entry}
use Rattle.call_engine.proofs.entries.execute_on_entry.Goals as goal

pub run_on-requires-clause-kept : goal.run_on-requires-clause-kept
run_on-requires-clause-kept g c =
    let small = c.requires.small in
    subst EntryFits (sym (found_entry _ _ c.in-Some.ensures)) (entry_in_fits small.calls _ (record_fits small.calls _ _ small.made))

pub returns-in-Some : goal.returns-in-Some
returns-in-Some g c =
    let found = rw (c.map.ensures, c.key.ensures) at c.in-Some.ensures in
    on_found_entry _ _ _ _ _ _ _ found c.run_on.ensures
