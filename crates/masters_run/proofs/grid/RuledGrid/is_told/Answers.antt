use Rattle.std.proofs.Common.{◌∙◌, sym}
use Rattle.masters_run.proofs.MastersAsked.{masters_read}
use Rattle.masters_run.proofs.RuledMasters.{events_of, told_by, told_by_none}
use Rattle.masters_run.proofs.grid.RuledGrid.is_told.Goals as goal

pub serving-requires : goal.serving-requires
serving-requires g c =
    let may = c.requires in
    let are = masters_read _ c.args.self.now c.args.partition may may.settings may.run may.amid c.from.result c.index-masters.result.now c.from.ensures c.index-masters.ensures in
    (events_of are, are.stands)

pub returns-in-Some : goal.returns-in-Some
returns-in-Some g c = λ settings s amid.
    let are = masters_read _ c.args.self.now c.args.partition c.requires settings s amid c.from.result c.index-masters.result.now c.from.ensures c.index-masters.ensures in
    c.was_told.ensures (events_of are) are.stands ∙ told_by are c.in-Some.master c.args.crashed (sym (c.serving.ensures (events_of are) are.stands) ∙ c.in-Some.is)

pub returns-in-None : goal.returns-in-None
returns-in-None g c = λ settings s amid.
    let are = masters_read _ c.args.self.now c.args.partition c.requires settings s amid c.from.result c.index-masters.result.now c.from.ensures c.index-masters.ensures in
    sym (told_by_none are c.args.crashed (sym (c.serving.ensures (events_of are) are.stands) ∙ c.in-None.is))
