use Rattle.std.proofs.Common.{sym, subst, slice_set}
use Rattle.link_net.specs.Counting.{AreCountsOf}
use Rattle.link_net.proofs.Counting.{change_subtracts, change_fits, change_has_room, change_is_there, changed}
use Rattle.link_net.proofs.tally.Tally.change.Goals as goal

pub overflow_sub-self : goal.overflow_sub-self
overflow_sub-self c =
    let (lanes, are, there) = c.requires in
    change_subtracts lanes _ (subst (AreCountsOf lanes) (sym c.self.view_is) are) c.args.at c.args.before there

pub overflow_add-self : goal.overflow_add-self
overflow_add-self c =
    let (lanes, are, there) = c.requires in
    record { fits = change_fits lanes _ (subst (AreCountsOf lanes) (sym c.self.view_is) are) c.args.at c.args.before there c.args.after c.ranges.after.fits c.self.inside.busy.small }

pub change_busy-requires-clause-room : goal.change_busy-requires-clause-room
change_busy-requires-clause-room c =
    let (lanes, are, there) = c.requires in
    change_has_room lanes _ (subst (AreCountsOf lanes) (sym c.self.view_is) are) c.args.at c.args.before there

pub change_busy-requires-clause-there : goal.change_busy-requires-clause-there
change_busy-requires-clause-there c =
    let (lanes, are, there) = c.requires in
    change_is_there lanes _ (subst (AreCountsOf lanes) (sym c.self.view_is) are) c.args.at c.args.before there

pub returns : goal.returns
returns c lanes lane are there is =
    subst (AreCountsOf (slice_set lanes c.args.at lane)) (sym c.change_busy.ensures)
    (changed lanes _ (subst (AreCountsOf lanes) (sym c.self.view_is) are) c.args.at c.args.before there lane c.args.after is c.ranges.after.fits)
