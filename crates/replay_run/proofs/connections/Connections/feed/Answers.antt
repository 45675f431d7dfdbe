use Rattle.std.proofs.Common.{◌∙◌, ap, sym, ◌++◌}
use Rattle.std.specs.Option.{option_map}
use Rattle.std.proofs.lemmas.Result.{on_ok_weaker, on_err_weaker}
use Rattle.session_core.specs.Sessions.{session_after}
use Rattle.replay_run.specs.Tables.{opened_at, heard}
use Rattle.replay_run.proofs.Slots.{slot_changed, slot_kept, slot_read}
use Rattle.replay_run.proofs.connections.Connections.feed.Goals as goal

pub returns-clause-gives : goal.returns-clause-gives
returns-clause-gives c opened text at stands =
    c.feed_at.ensures.gives opened text
    (slot_read c.self.inside.slots.items c.args.conn c.in-Some.slot.now opened c.in-Some.ensures.value (ap (λ t. opened_at t c.args.conn) c.self.view_is ∙ at)) stands

pub returns-clause-stands : goal.returns-clause-stands
returns-clause-stands c opened text at stands =
    let there = slot_read c.self.inside.slots.items c.args.conn c.in-Some.slot.now opened c.in-Some.ensures.value (ap (λ t. opened_at t c.args.conn) c.self.view_is ∙ at) in
    let hears = heard (session_after opened.session.conn opened.session.member (text ++ c.args.bytes.now)) in
    on_ok_weaker c.feed_at.result
    (λ made. slot_changed c.args.self.now c.self.inside.slots.items c.args.conn c.in-Some.slot.now c.feed_at.new.slot hears c.self.view_is c.in-Some.ensures.value (made ∙ ap (option_map hears) (sym there)))
    (c.feed_at.ensures.stands opened text there stands)

pub returns-clause-err : goal.returns-clause-err
returns-clause-err c =
    on_err_weaker c.feed_at.result (slot_kept c.args.self.now c.self.inside.slots.items c.args.conn c.in-Some.slot.now c.feed_at.new.slot c.self.view_is c.in-Some.ensures.value) c.feed_at.ensures.err
