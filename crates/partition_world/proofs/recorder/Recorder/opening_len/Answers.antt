-- The newest opening with that reset is the one that is found, and has an entry at each of its places.
use Rattle.std.proofs.Common.{◌∙◌, length, reverse, sym, ap, arith}
use Rattle.partition_world.specs.RecordedEntries.{entry_of}
use Rattle.partition_world.specs.Recorders.{log_of}
use Rattle.partition_world.proofs.RecordedOpenings.{entries_of, opening_found}
use Rattle.partition_world.proofs.AtPlaces.{below_wider, length_at}
use Rattle.partition_world.proofs.FewOnLinks.{length_map}
use Rattle.partition_world.proofs.recorder.Recorder.opening_len.Goals as goal

pub returns-in-None-clause-len : goal.returns-in-None-clause-len
returns-in-None-clause-len g c =
    let log = log_of c.args.self.now in
    let openings = reverse c.args.self.now.openings.items in
    sym (ap length (opening_found log c.args.reset openings ∙ ap (entries_of log) (sym c.in-None.ensures.found)))

pub returns-in-Some-clause-len : goal.returns-in-Some-clause-len
returns-in-Some-clause-len g c =
    let log = log_of c.args.self.now in
    let openings = reverse c.args.self.now.openings.items in
    let places = c.in-Some.opening.now.places in
    let same = length_map entry_of c.args.self.now.log.items in
    let within = below_wider (length c.args.self.now.log.items) (length log) places.items (omega (arith, same)) c.in-Some.ensures.within in
    let sized = length_at log places.items within in
    let told = ap length (opening_found log c.args.reset openings ∙ ap (entries_of log) (sym c.in-Some.ensures.found)) in
    omega (arith, told, sized, c.len.ensures, places.ok.0)
