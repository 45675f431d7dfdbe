-- There is a place for each backup of the row, and it stays so.
use Rattle.primary_hold.proofs.AckPlaces.{place_left, places_kept}
use Rattle.primary_hold.proofs.facts.Facts.keep_ack.Goals as goal

pub keep-requires : goal.keep-requires
keep-requires c none = let facts = c.args.self.now in place_left facts.known facts.acks c.args.member (facts.places c.requires.leads) c.requires.backup none

pub invariant_of-self-clause-places : goal.invariant_of-self-clause-places
invariant_of-self-clause-places c leads =
    let facts = c.args.self.now in
    places_kept facts.known facts.acks c.keep.new.self c.args.member c.args.count (facts.places leads) c.requires.backup c.keep.ensures.list c.keep.ensures.room
