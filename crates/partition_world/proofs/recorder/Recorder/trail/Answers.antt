-- The entries at these places, as those of the protocol.
use Rattle.std.proofs.Common.{◌∙◌, map, ap}
use Rattle.partition_world.specs.RecordedEntries.{entry_of}
use Rattle.partition_world.specs.Places.{at_places}
use Rattle.partition_world.proofs.AtPlaces.{at_map}
use Rattle.partition_world.proofs.recorder.Recorder.trail.Goals as goal

pub returns : goal.returns
returns g c r kept =
    let entries = c.args.self.now.log.items in
    let places = c.in_ok-places.places.items in
    ap (λ es. map entry_of (at_places es places)) c.as_slice.ensures.value ∙ at_map entry_of entries places ∙ c.in_ok-places.ensures.places r kept
