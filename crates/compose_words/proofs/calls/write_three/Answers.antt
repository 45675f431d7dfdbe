use Rattle.std.proofs.Common.{◌++◌}
use Rattle.std.proofs.lemmas.Result.{on_ok_weaker}
use Rattle.fixed_fields.specs.Fields.{int64_bytes}
use Rattle.compose_words.proofs.Writing.{two_written, same_bytes}
use Rattle.compose_words.proofs.calls.write_three.Goals as goal

pub returns : goal.returns
returns c =
    on_ok_weaker c.write_two.result
    (λ rest. two_written c.args.out.now.items c.write_int64.new.out.items c.write_two.new.out.items _ _ (int64_bytes c.args.first) (int64_bytes c.args.second ++ int64_bytes c.args.third)
    (same_bytes c.args.first c.ranges.first) (λ i. same_bytes c.args.second c.ranges.second i ++ same_bytes c.args.third c.ranges.third i) c.in_ok-write_int64.ensures.ok rest)
    c.write_two.ensures
