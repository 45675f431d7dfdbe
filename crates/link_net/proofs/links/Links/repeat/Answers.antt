use Rattle.std.proofs.Common.{◌++◌, sym, slice_get}
use Rattle.std.specs.Option.{option_to_list}
use Rattle.std.proofs.lemmas.Result.{on_ok_weaker, on_err_weaker}
use Rattle.link_net.specs.Links.{Net}
use Rattle.link_net.proofs.Nets.{lowers_one, list_put, list_kept}
use Rattle.link_net.proofs.links.Links.repeat.Goals as goal

pub returns-clause-ok : goal.returns-clause-ok
returns-clause-ok c =
    let net : Net = record { ends = c.self.inside.ends; lanes = c.self.inside.lanes.items } in
    rw (← c.self.view_is)
    (on_ok_weaker c.repeat-repeated.result
    (list_put net c.self.invariant.1 c.args.from c.args.to c.in-Some.at (sym c.in-Some.ensures.place) c.repeat-repeated.new.self
    c.index_mut-lane.result.now c.index_mut-lane.ensures.value (λ list. list ++ option_to_list (slice_get list c.args.place)))
    c.repeat-repeated.ensures.ok)

pub returns-clause-err : goal.returns-clause-err
returns-clause-err c =
    let net : Net = record { ends = c.self.inside.ends; lanes = c.self.inside.lanes.items } in
    rw (← c.self.view_is)
    (on_err_weaker c.repeat-repeated.result
    (list_kept net c.self.invariant.1 c.args.from c.args.to c.in-Some.at (sym c.in-Some.ensures.place) c.repeat-repeated.new.self c.index_mut-lane.result.now c.index_mut-lane.ensures.value)
    c.repeat-repeated.ensures.err)

pub returns-clause-spare : goal.returns-clause-spare
returns-clause-spare c =
    let net : Net = record { ends = c.self.inside.ends; lanes = c.self.inside.lanes.items } in
    rw (← c.self.view_is)
    (lowers_one net c.self.invariant.1 c.args.from c.args.to c.in-Some.at (sym c.in-Some.ensures.place) c.repeat-repeated.new.self c.index_mut-lane.result.now c.index_mut-lane.ensures.value c.repeat-repeated.ensures.spare)
