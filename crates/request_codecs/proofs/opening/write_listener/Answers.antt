use Rattle.std.proofs.Common.{◌≡◌, ◌++◌, OnOk, pos, rules, subst, sym}
use Rattle.std.specs.Option.{option_copied}
use Rattle.std.proofs.lemmas.Result.{on_ok_weaker}
use Rattle.frame_codec.specs.Laws.{spelled}
use Rattle.fixed_fields.specs.Responses.{unfragmented, final}
use Rattle.event_codecs.specs.Registrations.{invalidation_listener_kind}
use Rattle.request_codecs.specs.Openings.{registration_head, listener_frames}
use Rattle.request_codecs.proofs.Writing.{two_written}
use Rattle.request_codecs.proofs.opening.write_listener.Goals as goal

pub returns : goal.returns
returns c =
    let its = registration_head invalidation_listener_kind (pos 2) in
    let payload : c.as_slice.result.now ≡ its = search rules in
    subst (λ map. OnOk c.write_part-2.result (c.write_part-2.new.out.items ≡ c.args.out.now.items ++ spelled (listener_frames (option_copied map)))) (sym c.in-Some.is)
    (on_ok_weaker c.write_part-2.result
    (λ is. two_written c.args.out.now.items c.write_part.new.out.items c.write_part-2.new.out.items c.as_slice.result.now its c.as_slice-2.result.now c.in-Some.map.now unfragmented final payload c.as_slice-2.ensures c.in_ok-write_part.ensures is)
    c.write_part-2.ensures)
