use Rattle.job_queues.specs.Roster.{roster_of}
use Rattle.partition_threads.proofs.workers.go_on.Goals as goal

pub answer-requires-after_bounds : goal.answer-requires-after_bounds
answer-requires-after_bounds g c κs within = let was = c.loop.invariant in (
  roster_of c.args.place.now.cells.items,
  record { terms = was.terms; begun = (c.in-Known.ensures was.terms was.begun).begun; parcel = was.parcel; side = was.side },
)

pub returns-in-Rests : goal.returns-in-Rests
returns-in-Rests g c = let was = c.loop.invariant in record { terms = was.terms; begun = (c.in-Rests.ensures was.terms was.begun).begun; parcel = was.parcel; side = was.side }

pub loop-preserved : goal.loop-preserved
loop-preserved g c = let was = c.loop.invariant in record { terms = was.terms; begun = (c.in-Delivered.ensures was.terms was.begun).begun; parcel = was.parcel; side = was.side }
