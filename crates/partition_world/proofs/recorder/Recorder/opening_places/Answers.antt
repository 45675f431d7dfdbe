-- The newest opening with that reset is the one that is found.
use Rattle.std.proofs.Common.{◌∙◌, reverse, sym, ap}
use Rattle.std.proofs.lemmas.Result.{IfOk-weaker}
use Rattle.partition_world.specs.Places.{at_places}
use Rattle.partition_world.specs.Recorders.{log_of}
use Rattle.partition_world.proofs.RecordedOpenings.{entries_of, opening_found}
use Rattle.partition_world.proofs.recorder.Recorder.opening_places.Goals as goal

pub returns-in-None-clause-places : goal.returns-in-None-clause-places
returns-in-None-clause-places g c =
    let log = log_of c.args.self.now in
    let openings = reverse c.args.self.now.openings.items in
    ap (at_places log) c.new.ensures.items ∙ ap (entries_of log) c.in-None.ensures.found ∙ sym (opening_found log c.args.reset openings)

pub returns-in-Some-clause-places : goal.returns-in-Some-clause-places
returns-in-Some-clause-places g c =
    let log = log_of c.args.self.now in
    let openings = reverse c.args.self.now.openings.items in
    IfOk-weaker c.from_slice.result _ _
    (λ places is. ap (at_places log) (is ∙ c.deref.ensures.value) ∙ ap (entries_of log) c.in-Some.ensures.found ∙ sym (opening_found log c.args.reset openings))
    c.from_slice.ensures.items
