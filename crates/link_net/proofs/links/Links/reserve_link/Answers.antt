use Rattle.std.proofs.Common.{◌∙◌, refl, sym, arith, length, length-set}
use Rattle.std.proofs.lemmas.Option.{slice_get_read}
use Rattle.std.proofs.lemmas.Result.{on_ok_weaker}
use Rattle.link_net.specs.Links.{Net}
use Rattle.link_net.proofs.Counting.{counts_kept}
use Rattle.link_net.proofs.Nets.{lowers_none, list_kept, room_made}
use Rattle.link_net.proofs.links.Links.reserve_link.Goals as goal

pub invariant_of-self : goal.invariant_of-self
invariant_of-self c =
    let lanes = c.self.inside.lanes.items in
    let at = c.in-Some.at in
    let there = slice_get_read lanes (length lanes) at c.index_mut.result.now refl (omega (arith, c.in-Some.ensures.within, c.self.invariant.1)) c.index_mut.ensures.value in
    (c.self.invariant.0, length-set lanes at c.reserve.new.self ∙ c.self.invariant.1, counts_kept lanes c.self.inside.tally at c.index_mut.result.now c.reserve.new.self c.self.invariant.2 there c.reserve.ensures.list)

pub returns-in-Some-clause-lists : goal.returns-in-Some-clause-lists
returns-in-Some-clause-lists c =
    let net : Net = record { ends = c.self.inside.ends; lanes = c.self.inside.lanes.items } in
    rw (← c.self.view_is)
    (list_kept net c.self.invariant.1 c.args.from c.args.to c.in-Some.at (sym c.in-Some.ensures.place) c.reserve.new.self c.index_mut.result.now c.index_mut.ensures.value c.reserve.ensures.list)

pub returns-in-Some-clause-spare : goal.returns-in-Some-clause-spare
returns-in-Some-clause-spare c =
    let net : Net = record { ends = c.self.inside.ends; lanes = c.self.inside.lanes.items } in
    rw (← c.self.view_is)
    (lowers_none net c.self.invariant.1 c.args.from c.args.to c.in-Some.at (sym c.in-Some.ensures.place) c.reserve.new.self c.index_mut.result.now c.index_mut.ensures.value c.reserve.ensures.spare)

pub returns-in-Some-clause-ok : goal.returns-in-Some-clause-ok
returns-in-Some-clause-ok c =
    let net : Net = record { ends = c.self.inside.ends; lanes = c.self.inside.lanes.items } in
    on_ok_weaker c.reserve.result
    (λ enough from to. room_made net c.self.invariant.1 c.args.from c.args.to c.in-Some.at (sym c.in-Some.ensures.place) c.reserve.new.self c.args.extra enough)
    c.reserve.ensures.ok
