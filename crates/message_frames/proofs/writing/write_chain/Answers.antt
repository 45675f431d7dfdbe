-- The fragment that was appended goes over from what is left to what was written.
use Rattle.std.proofs.Common.{flat_map, true}
use Rattle.std.proofs.lemmas.List.Elements.{All-drop}
use Rattle.frame_codec.specs.Laws.{IsWithinLimits}
use Rattle.message_frames.specs.Grammar.{piece_bytes}
use Rattle.message_frames.specs.Writing.{packed, chain_from}
use Rattle.message_frames.proofs.Packing.{chain_goes_on}
use Rattle.message_frames.proofs.writing.write_chain.Goals as goal

pub loop-rest-preserved : goal.loop-rest-preserved
loop-rest-preserved c =
    let so_far = c.loop-rest.invariant.appended in
    record {
      limits = rw c.split_at.ensures.back (All-drop IsWithinLimits c.packed_len.result c.loop-rest.rest.now c.loop-rest.invariant.limits);
      appended = chain_goes_on c.args.id c.args.size c.loop-rest.first c.is_empty-in-loop-rest.result c.loop-rest.rest.now c.split_at.result.0.now c.split_at.result.1.now
          c.args.out.now.items c.loop-rest.out.items c.write_fragment.new.out.items so_far.0 (flat_map piece_bytes (chain_from c.args.id true (packed c.args.size c.args.frames.now)))
          (rw (c.split_at.ensures.front, c.split_at.ensures.back) c.packed_len.ensures.packed) c.is_empty-in-loop-rest.ensures so_far.1 so_far.2 c.in_ok-write_fragment.ensures.ok;
    }
