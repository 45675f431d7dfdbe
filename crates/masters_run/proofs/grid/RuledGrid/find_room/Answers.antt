use Rattle.std.proofs.Common.{sym, ◌∙◌}
use Rattle.masters_run.proofs.MastersAsked.{masters_read}
use Rattle.masters_run.proofs.RuledMasters.{events_of, full_so}
use Rattle.masters_run.proofs.grid.RuledGrid.find_room.Goals as goal

pub returns-then-has_crowded_link-clause-full : goal.returns-then-has_crowded_link-clause-full
returns-then-has_crowded_link-clause-full g c = λ settings s amid was.
    let are = masters_read _ c.args.self.now c.args.partition c.requires settings s amid c.from.result c.index.result.now c.from.ensures c.index.ensures in
    sym (full_so are c.links-links.result.now (c.links-links.ensures.links (events_of are) are.stands) (c.links-links.ensures.ends (events_of are) are.stands))
    ∙ sym c.has_crowded_link.ensures ∙ c.if-has_crowded_link.true

pub returns-clause-room : goal.returns-clause-room
returns-clause-room g c = λ settings s amid.
    let are = masters_read _ c.args.self.now c.args.partition c.requires settings s amid c.from.result c.index.result.now c.from.ensures c.index.ensures in
    sym (full_so are c.links-links.result.now (c.links-links.ensures.links (events_of are) are.stands) (c.links-links.ensures.ends (events_of are) are.stands))
    ∙ sym c.has_crowded_link.ensures ∙ c.if-has_crowded_link.false
