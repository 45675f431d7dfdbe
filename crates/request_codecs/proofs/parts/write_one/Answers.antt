use Rattle.std.proofs.Common.{refl}
use Rattle.std.proofs.lemmas.Result.{on_ok_weaker}
use Rattle.fixed_fields.specs.Responses.{final}
use Rattle.request_codecs.proofs.Writing.{one_written}
use Rattle.request_codecs.proofs.parts.write_one.Goals as goal

pub returns : goal.returns
returns c =
    let part = c.args.part.now in
    on_ok_weaker c.write_part.result (λ is. one_written c.args.out.now.items c.write_part.new.out.items part part final refl is) c.write_part.ensures
