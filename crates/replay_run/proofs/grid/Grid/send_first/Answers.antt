use Rattle.std.proofs.Common.{rules, ◌∙◌, ◌++◌, ℤ, ap, sym, append-nil}
use Rattle.std.specs.Int.{w64}
use Rattle.std.specs.Int.RustNames.{FitsSigned}
use Rattle.std.proofs.lemmas.Int.{to_z-of_z}
use Rattle.std.proofs.lemmas.Result.{on_ok_weaker}
use Rattle.frame_codec.specs.Laws.{spelled}
use Rattle.event_codecs.specs.Writing.{rows_frames}
use Rattle.call_engine.specs.Objects.{partition_object}
use Rattle.replay_run.proofs.RegisteringLine.{none_first, first_rows}
use Rattle.replay_run.proofs.grid.Grid.send_first.Goals as goal
use Rattle.replay_run.specs.LineTold.{message_told, all_told}

pub returns-in_default : goal.returns-in_default
returns-in_default g c = λ settings r h.
    sym (ap (λ ms. c.args.out.now.items ++ all_told ms) (none_first (partition_object settings) r c.args.conn c.args.member c.args.registration.now c.in_default.not-Rows) ∙ append-nil c.args.out.now.items)

pub returns : goal.returns
returns g c = λ settings r h.
    let o = partition_object settings in
    let correlation : ℤ = c.in-Rows.correlation in
    let fits : FitsSigned w64 c.in-Rows.correlation = search rules in
    let rows = c.as_slice.result.now in
    let known = c.as_slice.ensures.value ∙ c.in_ok-rows.ensures settings r h in
    let are = c.in_ok-event.ensures.bytes ∙ ap (λ z. spelled (rows_frames z rows)) (to_z-of_z w64 c.in-Rows.correlation fits) in
    on_ok_weaker c.tell_message.result
    (λ e. first_rows o r c.args.conn c.args.member c.args.registration.now correlation c.in-Rows.is c.args.self.now.lines h.lines rows known c.in_ok-event.event are c.args.out.now.items c.tell_message.new.out.items (e ∙ ap (λ m. c.args.out.now.items ++ message_told m) c.own_answer.ensures))
    c.tell_message.ensures
