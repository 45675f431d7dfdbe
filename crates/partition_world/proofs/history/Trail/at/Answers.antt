-- The place has a place in the log, where the entry stands.
use Rattle.std.proofs.Common.{◌<◌, ◌∙◌, length, refl, arith}
use Rattle.std.proofs.lemmas.Option.{slice_get_read}
use Rattle.partition_world.proofs.AtPlaces.{place_within, below_at, get_at}
use Rattle.partition_world.proofs.history.Trail.at.Goals as goal

pub index-requires : goal.index-requires
index-requires g c =
    let within : c.args.place < length c.self.inside.places.items = place_within c.self.inside.log.now c.self.inside.places.items c.args.place c.self.invariant.1 (rw (← c.self.view_is) at c.requires) in
    omega (arith, c.self.invariant.0)

pub offset_bounds-log-index : goal.offset_bounds-log-index
offset_bounds-log-index g c =
    let within : c.args.place < length c.self.inside.places.items = place_within c.self.inside.log.now c.self.inside.places.items c.args.place c.self.invariant.1 (rw (← c.self.view_is) at c.requires) in
    let below : c.index.result.now < length c.self.inside.log.now = below_at _ c.self.inside.places.items c.args.place c.index.result.now c.self.invariant.1 within c.index.ensures in
    omega (arith, below)

pub bounds-log-index : goal.bounds-log-index
bounds-log-index g c =
    let within : c.args.place < length c.self.inside.places.items = place_within c.self.inside.log.now c.self.inside.places.items c.args.place c.self.invariant.1 (rw (← c.self.view_is) at c.requires) in
    below_at _ c.self.inside.places.items c.args.place c.index.result.now c.self.invariant.1 within c.index.ensures

pub returns : goal.returns
returns g c =
    let log = c.self.inside.log.now in
    let places = c.self.inside.places.items in
    let within : c.args.place < length places = place_within log places c.args.place c.self.invariant.1 (rw (← c.self.view_is) at c.requires) in
    let below : c.index.result.now < length log = below_at _ places c.args.place c.index.result.now c.self.invariant.1 within c.index.ensures in
    let there = slice_get_read places (length places) c.args.place c.index.result.now refl within c.index.ensures in
    rw (← c.self.view_is) (get_at log places c.args.place c.index.result.now c.self.invariant.1 there ∙ slice_get_read log (length log) c.index.result.now c.index-log-index.result refl below c.index-log-index.is)
