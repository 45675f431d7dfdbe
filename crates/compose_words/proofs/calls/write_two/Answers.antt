use Rattle.std.proofs.lemmas.Result.{on_ok_weaker}
use Rattle.fixed_fields.specs.Fields.{int64_bytes}
use Rattle.compose_words.proofs.Writing.{two_written, same_bytes}
use Rattle.compose_words.proofs.calls.write_two.Goals as goal

pub returns : goal.returns
returns c =
    on_ok_weaker c.write_int64-2.result
    (λ second. two_written c.args.out.now.items c.write_int64.new.out.items c.write_int64-2.new.out.items _ _ (int64_bytes c.args.first) (int64_bytes c.args.second)
    (same_bytes c.args.first c.ranges.first) (same_bytes c.args.second c.ranges.second) c.in_ok-write_int64.ensures.ok second)
    c.write_int64-2.ensures.ok
