-- More than one fragment: the whole chain.
use Rattle.std.proofs.Common.{◌≡◌, ◌++◌, ap, ◌∙◌, flat_map, Result, Ok, Err, OnOk, true}
use Rattle.message_frames.specs.Grammar.{piece_bytes}
use Rattle.message_frames.specs.Writing.{packed, chain_from}
use Rattle.message_frames.proofs.Packing.{chain_of_some}
use Rattle.message_frames.proofs.writing.write_fragments.Goals as goal

on_ok_both : {T E P Q R : Type 0} (r : Result T E) → (P → Q → R) → OnOk r P → OnOk r Q → OnOk r R
on_ok_both (Ok x) f p q = f p q
on_ok_both (Err e) f p q = tt

pub returns-clause-ok : goal.returns-clause-ok
returns-clause-ok c =
    let whole = chain_of_some c.args.id c.args.size c.packed_len.result c.args.message.now.frames c.as_slice-frames.result.now
    c.as_slice-frames.ensures c.packed_len.ensures.within c.if-packed_len-frames.false c.packed_len.ensures.packed in
    let written : OnOk c.whole_or_nothing.result
    (c.write_chain-written.new.out.items ≡ c.args.out.now.items ++ flat_map piece_bytes (chain_from c.args.id true (packed c.args.size c.as_slice-frames.result.now))) =
    rw c.whole_or_nothing.ensures.same c.write_chain-written.ensures.ok in
    on_ok_both c.whole_or_nothing.result
    (λ kept chain. kept ∙ chain ∙ ap (λ pieces. c.args.out.now.items ++ flat_map piece_bytes pieces) whole)
    c.whole_or_nothing.ensures.ok written
