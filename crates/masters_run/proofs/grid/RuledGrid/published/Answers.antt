use Rattle.std.proofs.Common.{length, ap, ◌∙◌}
use Rattle.masters_run.proofs.MastersAsked.{masters_read}
use Rattle.masters_run.proofs.RuledMasters.{events_of, published_long_so}
use Rattle.masters_run.proofs.grid.RuledGrid.published.Goals as goal

pub published-requires : goal.published-requires
published-requires g c =
    let may = c.requires in
    let are = masters_read _ c.args.self.now c.args.partition may may.settings may.run may.amid c.from.result c.index.result.now c.from.ensures c.index.ensures in
    (events_of are, are.stands)

pub returns : goal.returns
returns g c = λ settings s amid.
    let are = masters_read _ c.args.self.now c.args.partition c.requires settings s amid c.from.result c.index.result.now c.from.ensures c.index.ensures in
    ap (λ ds. length ds) (c.published.ensures.published (events_of are) are.stands) ∙ published_long_so are
