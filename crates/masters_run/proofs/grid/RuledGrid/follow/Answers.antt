-- What stands behind the old length of the published list was published by the line: nothing, or one decision, whose event then happens.
use Rattle.std.proofs.Common.{◌∙◌, Result, Ok, Err, OnOk, ap}
use Rattle.grid_base.specs.declared.calls.Request.{Request}
use Rattle.masters_world.specs.Decisions.{event_of}
use Rattle.masters_world.proofs.Steps.{of_decision}
use Rattle.partition_protocol.specs.Arrivals.{asked_by}
use Rattle.partition_world.specs.Events.{event_of as event_in}
use Rattle.masters_run.proofs.MastersAsked.{none_behind, one_behind}
use Rattle.masters_run.proofs.PublishedEvents.{none_follows, one_follows, full_follows}
use Rattle.masters_run.proofs.grid.RuledGrid.follow.Goals as goal

pub returns-in_default-clause-ok : goal.returns-in_default-clause-ok
returns-in_default-clause-ok g c = λ settings s l h.
    none_follows _ settings c.args.self.now s c.args.partition l c.args.before h
    (none_behind _ settings c.args.self.now s c.args.partition l c.args.before h c.from.result c.index.result.now c.from.ensures c.index.ensures c.published-published.result.now c.published-published.ensures.published c.in_default.ensures.lookup.3)
    c.args.out.now.items

pub run_published-requires-clause-unasked : goal.run_published-requires-clause-unasked
run_published-requires-clause-unasked g c =
    let h = c.requires.3 in
    let one = one_behind _ c.requires.0 c.args.self.now c.requires.1 c.args.partition c.requires.2 c.args.before h c.from.result c.index.result.now c.from.ensures c.index.ensures c.published-published.result.now c.published-published.ensures.published
    c.in-Some.decision.now c.in-Some.ensures.lookup.3.0 c.in-Some.ensures.lookup.1 in
    ap (λ e. asked_by e) (c.event_of-event.ensures one.publishes.decision one.is) ∙ (of_decision Request c.members.result one.publishes.decision).silent

on_ok : {X Y P Q : Type 0} (r : Result X Y) → OnOk r P → (P → Q) → OnOk r Q
on_ok (Ok x) h f = f h
on_ok (Err y) h f = tt

pub returns-clause-ok : goal.returns-clause-ok
returns-clause-ok g c = λ settings s l h.
    let p = c.args.partition in
    let one = one_behind _ settings c.args.self.now s p l c.args.before h c.from.result c.index.result.now c.from.ensures c.index.ensures c.published-published.result.now c.published-published.ensures.published
    c.in-Some.decision.now c.in-Some.ensures.lookup.3.0 c.in-Some.ensures.lookup.1 in
    let d = one.publishes.decision in
    let its = c.event_of-event.ensures d one.is ∙ ap (λ n. event_of {C = Request} n d) (c.members.ensures settings s.run h.grid.holds) in
    on_ok c.run_published.result (c.run_published.ensures.ok settings s.run h.grid)
    (one_follows _ settings c.args.self.now s p l c.args.before h d one.publishes.one (event_in c.event_of-event.result) its c.run_published.new.self c.run_published.ensures.masters
    c.args.out.now.items c.tell_published.new.out.items c.run_published.new.out.items c.in_ok-tell_published.ensures)

pub returns-clause-full : goal.returns-clause-full
returns-clause-full g c = λ settings s l h was.
    let p = c.args.partition in
    let one = one_behind _ settings c.args.self.now s p l c.args.before h c.from.result c.index.result.now c.from.ensures c.index.ensures c.published-published.result.now c.published-published.ensures.published
    c.in-Some.decision.now c.in-Some.ensures.lookup.3.0 c.in-Some.ensures.lookup.1 in
    let d = one.publishes.decision in
    let its = c.event_of-event.ensures d one.is ∙ ap (λ n. event_of {C = Request} n d) (c.members.ensures settings s.run h.grid.holds) in
    full_follows _ settings c.args.self.now s p l c.args.before h d one.publishes.one (event_in c.event_of-event.result) its (c.run_published.ensures.full settings s.run h.grid was)
