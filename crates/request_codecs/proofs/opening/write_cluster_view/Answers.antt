use Rattle.std.proofs.Common.{◌≡◌, pos, rules}
use Rattle.std.proofs.lemmas.Result.{on_ok_weaker}
use Rattle.fixed_fields.specs.Responses.{single}
use Rattle.event_codecs.specs.Registrations.{cluster_view_kind}
use Rattle.request_codecs.specs.Openings.{registration_head}
use Rattle.request_codecs.proofs.Writing.{one_written}
use Rattle.request_codecs.proofs.opening.write_cluster_view.Goals as goal

pub returns : goal.returns
returns c =
    let its = registration_head cluster_view_kind (pos 3) in
    let payload : c.as_slice.result.now ≡ its = search rules in
    on_ok_weaker c.write_part.result (λ is. one_written c.args.out.now.items c.write_part.new.out.items c.as_slice.result.now its single payload is) c.write_part.ensures
