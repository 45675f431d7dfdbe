use Rattle.std.proofs.Common.{[], ◌∷◌}
use Rattle.std.proofs.lemmas.Result.{on_ok_weaker}
use Rattle.fixed_fields.specs.Spelled.{with_parts}
use Rattle.request_codecs.proofs.Writing.{next_written}
use Rattle.request_codecs.proofs.parts.write_two.Goals as goal

pub returns : goal.returns
returns c =
    let others = with_parts (c.args.second.now ∷ []) [] in
    on_ok_weaker c.write_one.result
    (λ is. next_written c.args.out.now.items c.write_part.new.out.items c.write_one.new.out.items c.args.first.now others c.in_ok-write_part.ensures is) c.write_one.ensures
