use Rattle.std.proofs.Common.{◌∙◌, ap, arith, length-drop}
use Rattle.murmur_partition.specs.Murmur.{with_bytes}
use Rattle.murmur_partition.proofs.Blocks.{with_bytes-block}
use Rattle.murmur_partition.proofs.murmur.murmur3.Goals as goal

pub words-preserved : goal.words-preserved
words-preserved c =
    let parts = c.in-Some.ensures.cases in
    ap (λ hash. with_bytes hash c.in-Some.behind.now) c.with_block-hash.ensures
    ∙ with_bytes-block c.words.hash c.words.rest.now c.in-Some.block.now c.in-Some.behind.now c.from_le_bytes.result
    (omega (arith, parts.2)) parts.0 parts.1 c.from_le_bytes.ensures
    ∙ c.words.invariant
