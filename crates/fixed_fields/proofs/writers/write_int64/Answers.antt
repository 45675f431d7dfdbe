use Rattle.std.proofs.lemmas.Int.{to_z-of_z}
use Rattle.fixed_fields.proofs.Written.{int64_read}
use Rattle.fixed_fields.proofs.writers.write_int64.Goals as goal

pub returns-clause-read : goal.returns-clause-read
returns-clause-read c =
    let fits = c.ranges.value in
    int64_read c.args.out.now.items _ c.to_le_bytes.result c.args.value fits c.in_ok-extend_from_slice.ensures.items (simp to_z-of_z at c.to_le_bytes.ensures)
