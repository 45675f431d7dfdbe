use Rattle.std.proofs.Common.{◌≡◌, min, ◌+◌, ◌∙◌, arith}
use Rattle.std.proofs.lemmas.Grind.{common_steps}
use Rattle.partition_table.proofs.Opening.{members_from-more, with_backups-members_from}
use Rattle.partition_table.proofs.members.opening.Goals as goal

pub loop-k-preserved : goal.loop-k-preserved
loop-k-preserved c =
    let more = members_from-more c.args.members c.loop-k.k c.args.partition in
    grind (arith, common_steps, more)

pub returns : goal.returns
returns c =
    let whole = with_backups-members_from c.args.members c.args.backups c.args.members c.args.partition in
    let count : c.loop-k.k ≡ min c.args.members (c.args.backups + 1) = omega arith in
    rw (whole, ← count) (c.from_vec.ensures ∙ c.loop-k.invariant)
