use Rattle.std.proofs.Common.{◌≡◌, ◌++◌, ◌∙◌, ap, List, ℕ, true, pos}
use Rattle.std.proofs.lemmas.Result.{on_ok_weaker}
use Rattle.frame_codec.specs.Laws.{spelled}
use Rattle.message_frames.specs.Messages.{prefix_of}
use Rattle.request_codecs.specs.Openings.{authentication_frames}
use Rattle.script_lang.specs.declared.line.Line.TheVariants.{OpenConn, Arrive}
use Rattle.workload_gen.specs.Calls.{client_on}
use Rattle.workload_gen.specs.Script.{line_text}
use Rattle.workload_gen.proofs.Appending.{two_lines}
use Rattle.workload_gen.proofs.script.write_connection.Goals as goal

pub returns : goal.returns
returns c =
    let conn = c.args.conn in
    let its = prefix_of true ++ spelled (authentication_frames (pos 0) (client_on conn)) in
    let bytes : c.as_slice.result.now ≡ its =
    c.as_slice.ensures.value ∙ c.in_ok-write_authentication.ensures
    ∙ ap (λ (prefix : List ℕ). prefix ++ spelled (authentication_frames (pos 0) c.client_on.result)) c.in_ok-first.ensures.items
    ∙ ap (λ (client : ℕ). prefix_of true ++ spelled (authentication_frames (pos 0) client)) c.client_on.ensures in
    on_ok_weaker c.write_arrival.result
    (λ arrived. two_lines c.args.out.now.items c.write_line.new.out.items c.write_arrival.new.out.items (OpenConn conn conn) (Arrive conn its) c.in_ok-write_line.ensures
    (arrived ∙ ap (λ (text : List ℕ). c.write_line.new.out.items ++ line_text (Arrive conn text)) bytes))
    c.write_arrival.ensures
