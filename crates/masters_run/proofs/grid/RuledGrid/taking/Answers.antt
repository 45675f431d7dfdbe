use Rattle.std.proofs.Common.{◌∙◌, map, true≢false, sym, ap, subst}
use Rattle.std.specs.Prelude.{IsSome}
use Rattle.masters_run.specs.Written.{as_written}
use Rattle.masters_run.proofs.LineParts.{stand_read}
use Rattle.masters_run.proofs.RuledMasters.{events_of, pending_so, taking_pending}
use Rattle.masters_run.proofs.ServiceTakes.{none_to_take, one_to_take}
use Rattle.masters_run.proofs.grid.RuledGrid.taking.Goals as goal

pub pending-requires : goal.pending-requires
pending-requires g c =
    let stands = c.requires.stands in
    let are = stand_read c.args.self.now stands.1 stands.2 (c.requires.ruled stands.0 stands.1 stands.2) c.args.partition c.requires.placed c.from.result c.index.result.now c.from.ensures c.index.ensures in
    (events_of are, are.stands)

pub returns-then-pending : goal.returns-then-pending
returns-then-pending g c = λ settings s stands.
    let are = stand_read c.args.self.now s stands (c.requires.ruled settings s stands) c.args.partition c.requires.placed c.from.result c.index.result.now c.from.ensures c.index.ensures in
    sym (ap (λ ds. map as_written ds) (taking_pending settings s c.args.partition c.args.from c.args.place (sym (c.pending.ensures (events_of are) are.stands ∙ pending_so are) ∙ c.if-pending.true)))

pub returns-in_default : goal.returns-in_default
returns-in_default g c = λ settings s stands. absurd (true≢false (sym (subst IsSome c.in_default.is (c.world.ensures.there settings s.run stands.grid.holds c.requires.placed))))

pub returns-in_default-get : goal.returns-in_default-get
returns-in_default-get g c = λ settings s stands.
    let are = stand_read c.args.self.now s stands (c.requires.ruled settings s stands) c.args.partition c.requires.placed c.from.result c.index.result.now c.from.ensures c.index.ensures in
    none_to_take settings s c.args.partition c.args.from c.args.place c.in-Some.world.now (c.in-Some.ensures.world settings s.run stands.grid.holds c.requires.placed)
    c.members.result (c.members.ensures settings s.run stands.grid.holds) c.in_flight.result.now (c.in_flight.ensures settings)
    (sym (c.pending.ensures (events_of are) are.stands ∙ pending_so are) ∙ c.if-pending.false) c.in_default-get.ensures.lookup.3

pub returns : goal.returns
returns g c = λ settings s stands.
    let are = stand_read c.args.self.now s stands (c.requires.ruled settings s stands) c.args.partition c.requires.placed c.from.result c.index.result.now c.from.ensures c.index.ensures in
    one_to_take settings s c.args.partition c.args.from c.args.place c.in-Some.world.now (c.in-Some.ensures.world settings s.run stands.grid.holds c.requires.placed)
    c.members.result (c.members.ensures settings s.run stands.grid.holds) c.in_flight.result.now (c.in_flight.ensures settings)
    (sym (c.pending.ensures (events_of are) are.stands ∙ pending_so are) ∙ c.if-pending.false)
    c.in-Some-get.message.now c.in-Some-get.ensures.lookup.3.0 c.in-Some-get.ensures.lookup.1 c.in-Ok.place c.in_ok-copied.field-0 c.in-Ok.ensures.1 c.in_ok-copied.ensures
